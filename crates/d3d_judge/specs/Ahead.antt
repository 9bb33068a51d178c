-- What pending operations know of one another: the clocks of a run that goes on from a state where all that is past is forgotten.
use Rattle.std.specs.Prelude.{ℕ, ◌≡◌, ◌≤◌, max, List, [], ◌∷◌, map}
use Rattle.clocks.specs.declared.clock.Clock.{Clock}
use Rattle.clocks.specs.Clocks.{number, empty_clock}
use Rattle.d3d_judge.specs.Carried.{Clocks, Pending, Update}

abbrev pub forgotten_pending : Pending → Pending
forgotten_pending p = record p { clock = empty_clock }

abbrev pub forgotten_update : Update → Update
forgotten_update u = record u { clock = empty_clock }

-- the state with empty clocks
abbrev pub forgotten : Clocks → Clocks
forgotten s = record s {
  threads = map (λ _. empty_clock) s.threads;
  queues = map (λ _. empty_clock) s.queues;
  pending = map (λ ps. map forgotten_pending ps) s.pending;
  updates = map (λ us. map forgotten_update us) s.updates;
}

-- a clock knows no more than the counts and another clock together
pub record Beyond (counts c d : Clock) : Type 0 where
  pub queues : (q : ℕ) → number c.queues q ≤ max (number counts.queues q) (number d.queues q)
  pub threads : (t : ℕ) → number c.threads t ≤ max (number counts.threads t) (number d.threads t)

-- two lists agree item by item
abbrev pub Both : {A B : Type 0} → (A → B → Type 0) → List A → List B → Type 0
Both R [] [] = Unit {0}
Both R [] (y ∷ ys) = ⊥
Both R (x ∷ xs) [] = ⊥
Both R (x ∷ xs) (y ∷ ys) = R x y × Both R xs ys

pub record SamePending (counts : Clock) (p r : Pending) : Type 0 where
  pub what : p.what ≡ r.what
  pub since : p.since ≡ r.since
  pub clock : Beyond counts p.clock r.clock

pub record SameUpdate (counts : Clock) (u v : Update) : Type 0 where
  pub value : u.value ≡ v.value
  pub clock : Beyond counts u.clock v.clock

-- two states that differ in their clocks alone, those of one knowing no more than the counts beyond those of the other
pub record Behind (counts : Clock) (s z : Clocks) : Type 0 where
  pub ends : s.ends ≡ z.ends
  pub queues : Both (Beyond counts) s.queues z.queues
  pub pending : Both (Both (SamePending counts)) s.pending z.pending
  pub updates : Both (Both (SameUpdate counts)) s.updates z.updates
