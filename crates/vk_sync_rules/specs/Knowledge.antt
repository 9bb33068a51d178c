-- What batches know by their waits alone.
use Rattle.std.specs.Prelude.{ℕ, zero, suc, ◌≡◌, ◌≤◌, ◌<◌, ◌⊎◌, max, Bool, true, ◌==◌, ◌&&◌, ◌||◌, nat_le, List, [], ◌∷◌, ◌++◌, if◌then◌else◌, slice_get, Some}
use Rattle.std.specs.List.{list_any}
use Rattle.vk_types.specs.declared.batches.Batch.{Batch}
use Rattle.dx_base.specs.Each.{Each}

-- the value that a clock knows of a timeline
abbrev pub value_in : List ℕ → ℕ → ℕ
value_in [] t = 0
value_in (x ∷ xs) zero = x
value_in (x ∷ xs) (suc t) = value_in xs t

-- a clock knows a value of a timeline, and with it all below
abbrev pub Knows : List ℕ → ℕ → ℕ → Type 0
Knows c t v = v ≤ value_in c t

-- what two clocks know
abbrev pub join : List ℕ → List ℕ → List ℕ
join [] ys = ys
join (x ∷ xs) [] = x ∷ xs
join (x ∷ xs) (y ∷ ys) = max x y ∷ join xs ys

-- a clock that knows one value
abbrev pub only : ℕ → ℕ → List ℕ
only zero v = v ∷ []
only (suc t) v = 0 ∷ only t v

-- a clock that knows each of these
abbrev pub each_of : List (ℕ × ℕ) → List ℕ
each_of [] = []
each_of (s ∷ ss) = join (only s.0 s.1) (each_of ss)

-- a batch and what it knows
pub record Seen : Type 0 where
  pub batch : Batch
  pub clock : List ℕ

-- an earlier batch is known to a later one: it is of the same queue, or sets a value that the later one waits for
abbrev pub sets_for : List (ℕ × ℕ) → Batch → Bool
sets_for waits b = list_any (λ (w : ℕ × ℕ). list_any (λ (s : ℕ × ℕ). (s.0 == w.0) && nat_le s.1 w.1) b.sets) waits

abbrev pub is_known : Batch → Batch → Bool
is_known later e = (e.queue == later.queue) || sets_for later.waits e

-- what the earlier batches that a batch knows know
abbrev pub known : Batch → List Seen → List ℕ
known b [] = []
known b (e ∷ es) = join (if is_known b e.batch then e.clock else []) (known b es)

-- what a batch knows: the values that it sets and waits for, and what those know
abbrev pub seen : List Seen → Batch → Seen
seen es b = record { batch = b; clock = join (each_of b.sets) (join (each_of b.waits) (known b es)) }

-- what the batches of a journal know, behind others
abbrev pub seens : List Seen → List Batch → List Seen
seens es [] = es
seens es (b ∷ bs) = seens (es ++ seen es b ∷ []) bs

-- a value of a timeline is one of these, or below one
pub record IsAmong (t v : ℕ) (pairs : List (ℕ × ℕ)) : Type 0 where
  pub place : ℕ
  pub pair : ℕ × ℕ
  pub there : slice_get pairs place ≡ Some pair
  pub timeline : pair.0 ≡ t
  pub value : v ≤ pair.1

-- an earlier batch knows it
pub record IsKnown (t v : ℕ) (b : Batch) (es : List Seen) : Type 0 where
  pub place : ℕ
  pub earlier : Seen
  pub there : slice_get es place ≡ Some earlier
  pub is : is_known b earlier.batch ≡ true
  pub knows : Knows earlier.clock t v

-- a batch knows what it sets and waits for, and what the earlier batches know that it knows
pub record KeepsKnown (es : List Seen) (b : Batch) : Type 0 where
  pub sets : (k : ℕ) (s : ℕ × ℕ) → slice_get b.sets k ≡ Some s → Knows (seen es b).clock s.0 s.1
  pub waits : (k : ℕ) (w : ℕ × ℕ) → slice_get b.waits k ≡ Some w → Knows (seen es b).clock w.0 w.1
  pub earlier : (t v : ℕ) → IsKnown t v b es → Knows (seen es b).clock t v

abbrev pub SeenKeeps : Type 0
SeenKeeps = (es : List Seen) (b : Batch) → KeepsKnown es b

-- and it knows nothing else
abbrev pub SeenSplits : Type 0
SeenSplits = (es : List Seen) (b : Batch) (t v : ℕ) → 0 < v → Knows (seen es b).clock t v → IsAmong t v b.sets ⊎ (IsAmong t v b.waits ⊎ IsKnown t v b es)

-- what batches know stays, where one more is submitted
abbrev pub SeenGoesOn : Type 0
SeenGoesOn = (es : List Seen) (bs : List Batch) (b : Batch) → seens es (bs ++ b ∷ []) ≡ seens es bs ++ seen (seens es bs) b ∷ []

-- what a device that obeys its timelines has done: which batches have passed, which have ended, and the timelines' values
pub record Doing : Type 1 where
  pub passed : Batch → Type 0
  pub ended : Batch → Type 0
  pub counter : ℕ → ℕ
  -- the queue that sets a timeline
  pub owner : ℕ → ℕ

-- a batch that passed waited, one that ended has set its values, a value that is reached was set, by its owner
pub record Obeys (d : Doing) (b : Batch) : Type 0 where
  pub waited : d.passed b → (t v : ℕ) → IsAmong t v b.waits → v ≤ d.counter t
  pub has_set : d.ended b → (t v : ℕ) → IsAmong t v b.sets → v ≤ d.counter t
  pub was_ended : (s : ℕ × ℕ) (place : ℕ) → slice_get b.sets place ≡ Some s → s.1 ≤ d.counter s.0 → d.ended b
  pub owned : (t v : ℕ) → IsAmong t v b.sets → d.owner t ≡ b.queue

-- batches of one queue pass and end in order
pub record IsAfter (d : Doing) (b e : Batch) : Type 0 where
  pub passes : e.queue ≡ b.queue → d.passed b → d.passed e
  pub ends : e.queue ≡ b.queue → d.ended b → d.ended e

-- what a batch knows is done: once it has passed, but for its own queue; once it has ended, all
pub record IsUpToDate (d : Doing) (e : Seen) : Type 0 where
  pub passed : d.passed e.batch → (t v : ℕ) → 0 < v → Knows e.clock t v → (d.owner t ≡ e.batch.queue) ⊎ (v ≤ d.counter t)
  pub ended : d.ended e.batch → (t v : ℕ) → 0 < v → Knows e.clock t v → v ≤ d.counter t

-- each batch obeys, and comes after the earlier ones
abbrev pub AllObey : Doing → List Seen → List Batch → Type 0
AllObey d es [] = Unit {0}
AllObey d es (b ∷ bs) = Obeys d b × (d.ended b → d.passed b) × Each (λ e. Obeys d e.batch × IsAfter d b e.batch) es × AllObey d (es ++ seen es b ∷ []) bs
