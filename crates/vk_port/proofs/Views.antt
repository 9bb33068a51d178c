-- The unfinished batches of a queue, as they follow from the machine's counts and done commands.
use Rattle.std.proofs.Common.{◌≡◌, ℕ, zero, suc, ◌+◌, ◌-◌, ◌<◌, ◌≤◌, ◌==◌, ◌∙◌, Bool, true, false, ◌&&◌, ◌||◌, cond, List, [], ◌∷◌, map, length, set, replicate, refl, sym, ap, ap₂, subst, arith, Some, slice_get}
use Rattle.std.proofs.lemmas.Bool.{eqb-true, ne_eqb}
use Rattle.std.proofs.lemmas.Option.{none-some}
use Rattle.dx_base.specs.Lists.{changed_at}
use Rattle.vk_types.specs.declared.batches.Batch.{Batch}
use Rattle.vk_types.specs.declared.commands.VkCommand.{VkCommand}
use Rattle.vk_sync_rules.specs.declared.counts.Done.{Done}
use Rattle.vk_sync_rules.specs.declared.places.Place.{Place}
use Rattle.vk_sync_rules.specs.VkState.{VkState as Machine, is_done}
use Rattle.vk_port.specs.declared.lanes.Lane.{Lane}
use Rattle.vk_port.specs.declared.lanes.Running.{Running}
use Rattle.vk_port.specs.After.{place_of, with_done, started}
use Rattle.vk_port.specs.Journal.{are_numbered}
use Rattle.vk_port.specs.Machine.{marks, running_of, unfinished, lanes_from, lanes_of}
use Rattle.vk_port.proofs.Earlier.{same_item}
use Rattle.vk_port.proofs.Numbering.{numbered_parts}

module _ (done : List Done) (q n k0 : ℕ) where
  abbrev p0 : Place
  p0 = record { number = n; index = k0 }

  abbrev more : List Done
  more = record { queue = q; place = p0 } ∷ done

  -- the marks of another batch stay
  marks_other : (m k : ℕ) (cs : List VkCommand) → (n == m) ≡ false → marks more q m k cs ≡ marks done q m k cs
  marks_other m k [] other = refl
  marks_other m k (c ∷ cs) other =
      ap₂ (λ (t : Bool) (ts : List Bool). t ∷ ts) (ap (λ t. ((q == q) && (t && (k0 == k))) || is_done done q (record { number = m; index = k })) other ∙ none (q == q) (is_done done q (record { number = m; index = k }))) (marks_other m (k + 1) cs other) where
        none : (t u : Bool) → ((t && (false && (k0 == k))) || u) ≡ u
        none true u = refl
        none false u = refl

  -- the marks behind the place stay
  marks_past : (k : ℕ) (cs : List VkCommand) → k0 < k → marks more q n k cs ≡ marks done q n k cs
  marks_past k [] past = refl
  marks_past k (c ∷ cs) past =
      ap₂ (λ (t : Bool) (ts : List Bool). t ∷ ts)
      (ap (λ t. ((q == q) && ((n == n) && t)) || is_done done q (record { number = n; index = k })) (ne_eqb k0 k (λ e. absurd (omega (arith, past, e)))) ∙ none (q == q) (n == n) (is_done done q (record { number = n; index = k })))
      (marks_past (k + 1) cs (omega (arith, past))) where
        none : (s t u : Bool) → ((s && (t && false)) || u) ≡ u
        none true true u = refl
        none true false u = refl
        none false t u = refl

  -- its mark is set
  marks_here : (k i : ℕ) (cs : List VkCommand) → k0 ≡ k + i → marks more q n k cs ≡ set (marks done q n k cs) i true
  marks_here k i [] at = refl
  marks_here k zero (c ∷ cs) at =
      ap₂ (λ (t : Bool) (ts : List Bool). t ∷ ts) (grind (arith, at)) (marks_past (k + 1) cs (omega (arith, at)))
  marks_here k (suc i) (c ∷ cs) at =
      ap₂ (λ (t : Bool) (ts : List Bool). t ∷ ts)
      (ap (λ t. ((q == q) && ((n == n) && t)) || is_done done q (record { number = n; index = k })) (ne_eqb k0 k (λ e. absurd (omega (arith, at, e)))) ∙ none (q == q) (n == n) (is_done done q (record { number = n; index = k })))
      (marks_here (k + 1) i cs (omega (arith, at))) where
        none : (s t u : Bool) → ((s && (t && false)) || u) ≡ u
        none true true u = refl
        none true false u = refl
        none false t u = refl

  -- batches behind it stay
  others : (m : ℕ) (bs : List Batch) → are_numbered m bs ≡ true → n < m → map (running_of more q) bs ≡ map (running_of done q) bs
  others m [] numbered past = refl
  others m (b ∷ bs) numbered past =
      let parts = numbered_parts m b bs numbered in
      let number = parts.0 in
      ap₂ (λ (t : List Bool) (rs : List Running). record { batch = b; done = t } ∷ rs) (marks_other b.number 1 b.commands (ne_eqb n b.number (λ e. absurd (omega (arith, past, number, e))))) (others (m + 1) bs parts.1 (omega (arith, past)))

  -- a command that is done is marked
  pub marked_more : (m : ℕ) (bs : List Batch) → 0 < k0 → are_numbered m bs ≡ true →
      map (running_of more q) bs ≡ changed_at (with_done k0) (place_of n (map (running_of done q) bs)) (map (running_of done q) bs)
  marked_more m [] some numbered = refl
  marked_more m (b ∷ bs) some numbered = by_number (b.number == n) refl (marked_more (m + 1) bs some parts.1) where
    parts : (b.number ≡ m) × (are_numbered (m + 1) bs ≡ true)
    parts = numbered_parts m b bs numbered

    rs : List Running
    rs = map (running_of done q) bs

    by_number : (t : Bool) → (b.number == n) ≡ t → map (running_of more q) bs ≡ changed_at (with_done k0) (place_of n rs) rs →
        running_of more q b ∷ map (running_of more q) bs ≡ changed_at (with_done k0) (cond t 0 (suc (place_of n rs))) (running_of done q b ∷ rs)
    by_number true e rest =
        let same : b.number ≡ n = eqb-true b.number n e in
        let number = parts.0 in
        ap₂ (λ (t : List Bool) (xs : List Running). record { batch = b; done = t } ∷ xs)
        (subst (λ x. marks more q x 1 b.commands ≡ set (marks done q x 1 b.commands) (k0 - 1) true) (sym same) (marks_here 1 (k0 - 1) b.commands (omega (arith, some))))
        (others (m + 1) bs parts.1 (omega (arith, same, number)))
    by_number false e rest =
        ap₂ (λ (t : List Bool) (xs : List Running). record { batch = b; done = t } ∷ xs) (marks_other b.number 1 b.commands (ne_eqb n b.number (λ x. absurd (let y : (b.number == n) ≡ true = grind (arith, x) in grind (arith, e, y))))) rest

  -- the marks of another queue stay
  marks_elsewhere : (i m k : ℕ) (cs : List VkCommand) → (q == i) ≡ false → marks more i m k cs ≡ marks done i m k cs
  marks_elsewhere i m k [] other = refl
  marks_elsewhere i m k (c ∷ cs) other =
      ap₂ (λ (t : Bool) (ts : List Bool). t ∷ ts) (ap (λ t. (t && ((n == m) && (k0 == k))) || is_done done i (record { number = m; index = k })) other) (marks_elsewhere i m (k + 1) cs other)

  pub marked_elsewhere : (i : ℕ) (bs : List Batch) → (q == i) ≡ false → map (running_of more i) bs ≡ map (running_of done i) bs
  marked_elsewhere i [] other = refl
  marked_elsewhere i (b ∷ bs) other =
      ap₂ (λ (t : List Bool) (rs : List Running). record { batch = b; done = t } ∷ rs) (marks_elsewhere i b.number 1 b.commands other) (marked_elsewhere i bs other)

-- a batch of which no command is done
none_marked : (done : List Done) (q n k : ℕ) (cs : List VkCommand) → ((k : ℕ) → is_done done q (record { number = n; index = k }) ≡ false) → marks done q n k cs ≡ replicate (length cs) false
none_marked done q n k [] none = refl
none_marked done q n k (c ∷ cs) none = ap₂ (λ (t : Bool) (ts : List Bool). t ∷ ts) (none k) (none_marked done q n (k + 1) cs none)

pub is_started : (done : List Done) (q : ℕ) (b : Batch) → ((k : ℕ) → is_done done q (record { number = b.number; index = k }) ≡ false) → running_of done q b ≡ started b
is_started done q b none = ap (λ (t : List Bool). record { batch = b; done = t }) (none_marked done q b.number 1 b.commands none)

-- the mark at a place
pub mark_at : (done : List Done) (q n k i : ℕ) (cs : List VkCommand) (t : Bool) → slice_get (marks done q n k cs) i ≡ Some t → is_done done q (record { number = n; index = k + i }) ≡ t
mark_at done q n k i [] t is = absurd (none-some t is)
mark_at done q n k zero (c ∷ cs) t is =
    let here : k ≡ k + 0 = omega arith in
    subst (λ m. is_done done q (record { number = n; index = m }) ≡ t) here (same_item (is_done done q (record { number = n; index = k })) t is)
mark_at done q n k (suc i) (c ∷ cs) t is =
    let next : k + 1 + i ≡ k + suc i = omega arith in
    subst (λ m. is_done done q (record { number = n; index = m }) ≡ t) next (mark_at done q n (k + 1) i cs t is)

pub at_mark : (done : List Done) (q n k i : ℕ) (cs : List VkCommand) (c : VkCommand) → slice_get cs i ≡ Some c → slice_get (marks done q n k cs) i ≡ Some (is_done done q (record { number = n; index = k + i }))
at_mark done q n k i [] c is = absurd (none-some c is)
at_mark done q n k zero (x ∷ cs) c is =
    let here : k ≡ k + 0 = omega arith in
    ap (λ m. Some (is_done done q (record { number = n; index = m }))) here
at_mark done q n k (suc i) (x ∷ cs) c is =
    let next : k + 1 + i ≡ k + suc i = omega arith in
    subst (λ m. slice_get (marks done q n (k + 1) cs) i ≡ Some (is_done done q (record { number = n; index = m }))) next (at_mark done q n (k + 1) i cs c is)

-- the place of a batch among those that are numbered
pub place_at : (done : List Done) (q m : ℕ) (bs : List Batch) (i : ℕ) (b : Batch) → are_numbered m bs ≡ true → slice_get bs i ≡ Some b → place_of (m + i) (map (running_of done q) bs) ≡ i
place_at done q m [] i b numbered is = absurd (none-some b is)
place_at done q m (x ∷ bs) zero b numbered is =
    let first = (numbered_parts m x bs numbered).0 in
    let here : (x.number == m + 0) ≡ true = grind (arith, first) in
    rw here refl
place_at done q m (x ∷ bs) (suc i) b numbered is =
    let parts = numbered_parts m x bs numbered in
    let first = parts.0 in
    let later : (x.number == m + suc i) ≡ false = grind (arith, first) in
    let next : m + 1 + i ≡ m + suc i = omega arith in
    rw later (ap suc (subst (λ n. place_of n (map (running_of done q) bs) ≡ i) next (place_at done q (m + 1) bs i b parts.1 is)))

-- the lanes of machines that agree on the unfinished batches of each queue
pub lanes_alike : (v w : Machine) → ((i : ℕ) → unfinished w i ≡ unfinished v i) → (p k : ℕ) → lanes_from w p k ≡ lanes_from v p k
lanes_alike v w same p zero = refl
lanes_alike v w same p (suc k) = ap₂ (λ (l : Lane) (ls : List Lane). l ∷ ls) (same p) (lanes_alike v w same (p + 1) k)

-- and of machines that agree on those of each later queue
lanes_later : (v w : Machine) (p : ℕ) → ((i : ℕ) → p ≤ i → unfinished w i ≡ unfinished v i) → (k : ℕ) → lanes_from w p k ≡ lanes_from v p k
lanes_later v w p same zero = refl
lanes_later v w p same (suc k) =
    ap₂ (λ (l : Lane) (ls : List Lane). l ∷ ls) (same p (omega arith)) (lanes_later v w (p + 1) (λ i past. same i (omega (arith, past))) k)

-- the lanes of a machine that differs at one queue
lanes_but : (v w : Machine) (f : Lane → Lane) (q : ℕ) → ((i : ℕ) → (i ≡ q → ⊥) → unfinished w i ≡ unfinished v i) → unfinished w q ≡ f (unfinished v q) →
    (p i k : ℕ) → q ≡ p + i → lanes_from w p k ≡ changed_at f i (lanes_from v p k)
lanes_but v w f q others here p i zero at = refl
lanes_but v w f q others here p zero (suc k) at =
    let same : q ≡ p = omega (arith, at) in
    ap₂ (λ (l : Lane) (ls : List Lane). l ∷ ls) (subst (λ j. unfinished w j ≡ f (unfinished v j)) same here)
    (lanes_later v w (p + 1) (λ j past. others j (λ e. absurd (omega (arith, past, e, same)))) k)
lanes_but v w f q others here p (suc i) (suc k) at =
    ap₂ (λ (l : Lane) (ls : List Lane). l ∷ ls) (others p (λ e. absurd (omega (arith, at, e)))) (lanes_but v w f q others here (p + 1) i k (omega (arith, at)))

pub lanes_changed : (v w : Machine) (f : Lane → Lane) (q : ℕ) → length w.queues ≡ length v.queues → ((i : ℕ) → (i ≡ q → ⊥) → unfinished w i ≡ unfinished v i) → unfinished w q ≡ f (unfinished v q) →
    lanes_of w ≡ changed_at f q (lanes_of v)
lanes_changed v w f q long others here = ap (λ k. lanes_from w 0 k) long ∙ lanes_but v w f q others here 0 q (length v.queues) (omega arith)

-- the lane of a queue that is there
pub lane_at : (v : Machine) (p k i : ℕ) → i < k → slice_get (lanes_from v p k) i ≡ Some (unfinished v (p + i))
lane_at v p zero i h = absurd (omega (arith, h))
lane_at v p (suc k) zero h = let same : p ≡ p + 0 = omega arith in ap (λ j. Some (unfinished v j)) same
lane_at v p (suc k) (suc i) h =
    let next : p + 1 + i ≡ p + suc i = omega arith in
    subst (λ j. slice_get (lanes_from v (p + 1) k) i ≡ Some (unfinished v j)) next (lane_at v (p + 1) k i (omega (arith, h)))

pub lane_is : (v : Machine) (p k i : ℕ) (lane : Lane) → slice_get (lanes_from v p k) i ≡ Some lane → (i < k) × (lane ≡ unfinished v (p + i))
lane_is v p zero i lane is = absurd (none-some lane is)
lane_is v p (suc k) zero lane is =
    let same : p ≡ p + 0 = omega arith in
    (omega arith, sym (same_item (unfinished v p) lane is) ∙ ap (λ j. unfinished v j) same)
lane_is v p (suc k) (suc i) lane is =
    let rest = lane_is v (p + 1) k i lane is in
    let within : i < k = rest.0 in
    let next : p + 1 + i ≡ p + suc i = omega arith in
    (omega (arith, within), subst (λ j. lane ≡ unfinished v j) next rest.1)
