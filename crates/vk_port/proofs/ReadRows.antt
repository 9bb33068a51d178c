-- The queue of the worked rows is settled.
use Rattle.std.proofs.Common.{ℕ, zero, suc, List, [], ◌∷◌, refl, arith, inr}
use Rattle.std.proofs.lemmas.Option.{none-some}
use Rattle.vk_types.specs.declared.steps.VkStep.{VkStep}
use Rattle.vk_sync_rules.specs.Examples.{at_first, batch, copy, leading, plan, trailing}
use Rattle.vk_sync_rules.specs.FirstState.{Begins}
use Rattle.vk_sync_rules.specs.Rules.{after_step, after_steps}
use Rattle.vk_sync_rules.specs.Runs.{Runs}
use Rattle.vk_sync_rules.specs.VkState.{VkState as Machine}
use Rattle.vk_sync_rules.proofs.FirstState.{devices_begin, first_begins}
use Rattle.vk_port.specs.ReadRows.{ReadRows, ended}
use Rattle.vk_port.specs.Settled.{HasFinished, IsSettled, IsSimple, Suits}
use Rattle.vk_port.proofs.ReadNumbers.{stays_begun}
use Rattle.vk_port.proofs.SettledSteps.{first_settled, stays_settled}

-- steps that leave a queue settled, one by one
abbrev Suit : Machine → ℕ → List VkStep → Type 0
Suit v q [] = Unit {0}
Suit v q (s ∷ ss) = Suits v q s × Suit (after_step v s) q ss

settled_steps : (v : Machine) (q : ℕ) (ss : List VkStep) → Begins v → IsSettled v q → Runs v ss → Suit v q ss → IsSettled (after_steps v ss) q
settled_steps v q [] begins is runs suit = is
settled_steps v q (s ∷ ss) begins is runs suit =
    settled_steps (after_step v s) q ss (stays_begun v (s ∷ []) begins (runs.0, runs.1, tt)) (stays_settled v q s begins is runs.0 runs.1 suit.0) runs.2 suit.1

simple : IsSimple (batch 0 0 [] (leading ∷ copy ∷ trailing ∷ []) ((0, 1) ∷ []))
simple = inr (record { copies = copy ∷ []; commands = refl; single = omega arith; plain = refl; pair = (0, 1); sets = refl })

none_submitted : HasFinished at_first 0
none_submitted n b found late = absurd (none-some b found)

settled : IsSettled (after_steps at_first ended) 0
settled =
    settled_steps at_first 0 ended (first_begins at_first (devices_begin plan)) (first_settled at_first 0 (devices_begin plan))
    (refl, tt, (refl, (omega arith, refl), (refl, tt, (refl, tt, (refl, tt, (refl, tt, (refl, refl, tt)))))))
    (none_submitted, ((λ same. simple), (tt, (refl, (refl, (refl, (tt, tt)))))))

finished : HasFinished (after_steps at_first ended) 0
finished zero b found late = absurd (omega (arith, late))
finished (suc n) b found late = absurd (grind (arith, found))

pub read_rows : ReadRows
read_rows = record {
  own = refl;
  at_end = refl;
  before_end = refl;
  no_barrier = refl;
  beside = refl;
  led = refl;
  not_led = refl;
  too_late = refl;
  settled = settled;
  finished = finished;
}
