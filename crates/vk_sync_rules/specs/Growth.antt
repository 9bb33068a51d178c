-- What was ordered after an access stays so.
use Rattle.std.specs.Prelude.{ℕ, ◌≡◌, ◌&&◌, ◌||◌, true, List, [], ◌∷◌}
use Rattle.vk_types.specs.declared.accesses.Accesses.{Accesses}
use Rattle.vk_types.specs.declared.stages.Stages.{Stages}
use Rattle.vk_types.specs.declared.steps.VkStep.{VkStep}
use Rattle.vk_sync_rules.specs.declared.accesses.DoneAccess.{DoneAccess}
use Rattle.vk_sync_rules.specs.declared.accesses.Gain.{Gain}
use Rattle.vk_sync_rules.specs.declared.places.Place.{Place}
use Rattle.vk_sync_rules.specs.AccessSets.{share}
use Rattle.vk_sync_rules.specs.DoneAccesses.{across, after_bump, after_pass, after_submit, gives_order, gain, ordered, sees, reaches, is_covered, is_ended}
use Rattle.vk_sync_rules.specs.Rules.{after_steps}
use Rattle.vk_sync_rules.specs.VkState.{VkState}

-- an access that gains a scope: what is ordered after it, reaches it and sees it is what was and did, and what the scope has
pub record GainsAdd (g : Gain) (r : DoneAccess) : Type 0 where
  pub order : (q : ℕ) (stages : Stages) (p : Place) → ordered q stages p (gain g r) ≡ (gives_order q stages p g || ordered q stages p r)
  pub reach : (q : ℕ) (stages : Stages) (p : Place) → reaches q stages p (gain g r) ≡ ((gives_order q stages p g && g.available) || reaches q stages p r)
  pub sight : (q : ℕ) (stages : Stages) (accesses : Accesses) (p : Place) →
      sees q stages accesses p (gain g r) ≡ ((gives_order q stages p g && (g.available && share g.accesses accesses)) || sees q stages accesses p r)

abbrev pub GainsAddScopes : Type 0
GainsAddScopes = (g : Gain) (r : DoneAccess) → GainsAdd g r

-- what signals an access: the ends of batches alone. The end of a batch that covers it adds what the batch sets, and takes
-- nothing away (Vulkan 1.3, 7.4.1: semaphore signaling)
pub record EndsSignal (r : DoneAccess) : Type 0 where
  pub bump : (q n : ℕ) (sets waits : List (ℕ × ℕ)) →
      is_covered waits (after_bump q n sets r).signals ≡ ((is_ended q n r && is_covered waits sets) || is_covered waits r.signals)
  pub pass : (q n : ℕ) (waits : List (ℕ × ℕ)) → (after_pass q n waits r).signals ≡ r.signals
  pub submit : (q n : ℕ) → (after_submit q n r).signals ≡ r.signals
  pub barrier : (q : ℕ) (p : Place) (from : Stages) (made : Accesses) (to : Stages) (seen : Accesses) → (across q p from made to seen r).signals ≡ r.signals

abbrev pub EndsSignalAccesses : Type 0
EndsSignalAccesses = (r : DoneAccess) → EndsSignal r

-- an access, later: what was ordered after it and saw it still is and does
pub record Grows (r s : DoneAccess) : Type 0 where
  pub range : s.range ≡ r.range
  pub writes : s.writes ≡ r.writes
  pub access : s.access ≡ r.access
  pub by : s.by ≡ r.by
  pub order : (q : ℕ) (stages : Stages) (p : Place) → ordered q stages p r ≡ true → ordered q stages p s ≡ true
  pub reach : (q : ℕ) (stages : Stages) (p : Place) → reaches q stages p r ≡ true → reaches q stages p s ≡ true
  pub sight : (q : ℕ) (stages : Stages) (accesses : Accesses) (p : Place) → sees q stages accesses p r ≡ true → sees q stages accesses p s ≡ true
  pub signal : (waits : List (ℕ × ℕ)) → is_covered waits r.signals ≡ true → is_covered waits s.signals ≡ true
  pub stays : r.available ≡ true → s.available ≡ true

-- each access of a list stands at its place in another, grown
abbrev pub Keeps : List DoneAccess → List DoneAccess → Type 0
Keeps [] ss = Unit {0}
Keeps (r ∷ rs) [] = ⊥
Keeps (r ∷ rs) (s ∷ ss) = Grows r s × Keeps rs ss

-- no step takes anything from an access, whether it can be taken or not
abbrev pub NothingShrinks : Type 0
NothingShrinks = (v : VkState) (ss : List VkStep) → Keeps v.accesses (after_steps v ss).accesses
