-- Waits with rising numbers.
use Rattle.std.proofs.Common.{ℕ, zero, suc, ◌≡◌, ◌≤◌, ◌<◌, ◌+◌, ◌∙◌, refl, ap, sym, subst, List, [], ◌∷◌, ◌++◌, length, get_or, slice_get, Option, Some, Bool, true, false, cond, arith}
use Rattle.std.specs.Prelude.{nat_lt, ◌==◌, if◌then◌else◌, OnSome}
use Rattle.std.specs.List.{prefix_len, remove}
use Rattle.std.specs.List.Sorted.{IsPartitionedBy, IsPartitionPoint}
use Rattle.std.proofs.lemmas.Bool.Decides.{nat_tests}
use Rattle.std.proofs.lemmas.Option.{slice_get-get_or, slice_get_within}
use Rattle.std.proofs.lemmas.List.Sums.{prefix_len_is}
use Rattle.dx_base.specs.Each.{Each}
use Rattle.dx_base.proofs.Each.{each_append, each_on}
use Rattle.fence_timeline.specs.declared.wait.Wait.{Wait}
use Rattle.fence_timeline.specs.Waits.{IsIn, AreNumbered, without, IsWaits}

-- numbers from a lower least one on
pub numbered_from : (low high : ℕ) (ws : List Wait) → low ≤ high → AreNumbered high ws → AreNumbered low ws
numbered_from low high [] le is = tt
numbered_from low high (w ∷ ws) le is = (omega (arith, is.0), is.1)

-- a later wait has a greater number
pub later_above : (low : ℕ) (ws : List Wait) (k : ℕ) (w : Wait) → AreNumbered low ws → slice_get ws k ≡ Some w → low ≤ w.number
later_above low [] k w is got = absurd (cc)
later_above low (x ∷ ws) zero w is got = let same : x ≡ w = grind arith in subst (λ (y : Wait). low ≤ y.number) same is.0
later_above low (x ∷ ws) (suc k) w is got = omega (arith, is.0, later_above (suc x.number) ws k w is.1 got)

-- a wait behind the others, with a greater number
pub numbered_behind : (low : ℕ) (ws : List Wait) (w : Wait) → AreNumbered low ws → low ≤ w.number → Each (λ x. x.number < w.number) ws → AreNumbered low (ws ++ w ∷ [])
numbered_behind low [] w is le below = (le, tt)
numbered_behind low (x ∷ ws) w is le below = (is.0, numbered_behind (suc x.number) ws w is.1 (omega (arith, below.0)) below.1)

-- the numbers that are left rise too
pub numbered_without : (low n : ℕ) (ws : List Wait) → AreNumbered low ws → AreNumbered low (without n ws)
numbered_without low n [] is = tt
numbered_without low n (w ∷ ws) is = by_test (w.number == n) (numbered_without (suc w.number) n ws is.1)
  where
    by_test : (b : Bool) → AreNumbered (suc w.number) (without n ws) → AreNumbered low (if b then ws else w ∷ without n ws)
    by_test true rest = numbered_from low (suc w.number) ws (omega (arith, is.0)) is.1
    by_test false rest = (is.0, rest)

-- what holds of each wait holds of those that are left
pub each_without : (P : Wait → Type 0) (n : ℕ) (ws : List Wait) → Each P ws → Each P (without n ws)
each_without P n [] all = tt
each_without P n (w ∷ ws) all = by_test (w.number == n) (each_without P n ws all.1)
  where
    by_test : (b : Bool) → Each P (without n ws) → Each P (if b then ws else w ∷ without n ws)
    by_test true rest = all.1
    by_test false rest = (all.0, rest)

-- how many waits, which are the first, have numbers below a number
abbrev pub below : ℕ → Wait → Bool
below n w = nat_lt w.number n

-- a wait stands behind those with numbers below its own
pub place_is : (low : ℕ) (ws : List Wait) (k : ℕ) (w : Wait) → AreNumbered low ws → slice_get ws k ≡ Some w → prefix_len (below w.number) ws ≡ k
place_is low [] k w is got = absurd (cc)
place_is low (x ∷ ws) zero w is got =
    let same : x ≡ w = grind arith in
    let at : below w.number x ≡ false = rw same (grind (arith, nat_tests)) in
    ap (λ b. cond b (1 + prefix_len (below w.number) ws) 0) at
place_is low (x ∷ ws) (suc k) w is got =
    let above : suc x.number ≤ w.number = later_above (suc x.number) ws k w is.1 got in
    let before : below w.number x ≡ true = grind (arith, nat_tests) in
    ap (λ b. cond b (1 + prefix_len (below w.number) ws) 0) before ∙ omega (arith, place_is (suc x.number) ws k w is.1 got)

-- taking a wait out of its place
pub removed_at : (low : ℕ) (ws : List Wait) (k : ℕ) (w : Wait) → AreNumbered low ws → slice_get ws k ≡ Some w → remove ws k ≡ without w.number ws
removed_at low [] k w is got = absurd (cc)
removed_at low (x ∷ ws) zero w is got =
    let same : x ≡ w = grind arith in
    let at : (x.number == w.number) ≡ true = rw same (grind (arith, nat_tests)) in
    sym (ap (λ b. if b then ws else x ∷ without w.number ws) at)
removed_at low (x ∷ ws) (suc k) w is got =
    let above : suc x.number ≤ w.number = later_above (suc x.number) ws k w is.1 got in
    let other : (x.number == w.number) ≡ false = grind (arith, nat_tests) in
    ap (λ xs. x ∷ xs) (removed_at (suc x.number) ws k w is.1 got) ∙ sym (ap (λ b. if b then ws else x ∷ without w.number ws) other)

-- the numbers do not fall
pub numbered_rise : (low : ℕ) (ws : List Wait) (i j : ℕ) (d : Wait) → AreNumbered low ws → i ≤ j → j < length ws → (get_or ws i d).number ≤ (get_or ws j d).number
numbered_rise low [] i j d is le within = absurd (omega arith)
numbered_rise low (x ∷ ws) zero zero d is le within = omega arith
numbered_rise low (x ∷ ws) (suc i) zero d is le within = absurd (omega arith)
numbered_rise low (x ∷ ws) zero (suc j) d is le within =
    omega (arith, later_above (suc x.number) ws j (get_or ws j d) is.1 (slice_get-get_or ws j d (omega arith)))
numbered_rise low (x ∷ ws) (suc i) (suc j) d is le within = numbered_rise (suc x.number) ws i j d is.1 (omega arith) (omega arith)

-- so the waits with numbers below a number stand before the others
pub parted_below : (n : ℕ) (ws : List Wait) → AreNumbered 0 ws → IsPartitionedBy (below n) ws
parted_below n ws is = λ i j d le within at.
    let rise = numbered_rise 0 ws i j d is le within in
    grind (arith, nat_tests)

no_wait : Wait
no_wait = record { fence = record { 0 = 0 }; value = 0; since = 0; number = 0 }

-- the place behind the waits with numbers below a number
pub point_is : (n : ℕ) (ws : List Wait) (i : ℕ) → i ≤ length ws → IsPartitionPoint (λ y. below n y ≡ true) (λ y. below n y ≡ false) ws i → i ≡ prefix_len (below n) ws
point_is n ws i within point =
    sym (prefix_len_is (below n) ws i no_wait within (λ k less. point.0 k no_wait (omega arith) less) (λ less. point.1 i no_wait (omega arith) less))

-- an armed wait behind the others
pub waits_behind : (ws : List Wait) (w : Wait) (next : ℕ) → IsWaits ws next → w.number ≡ next → IsWaits (ws ++ w ∷ []) (next + 1)
waits_behind ws w next is at = record {
  numbered = numbered_behind 0 ws w is.numbered (omega arith) (rw at is.below);
  below =
      each_append
      (λ x. x.number < next + 1) ws (w ∷ [])
      (each_on (λ x. x.number < next) (λ x. x.number < next + 1) ws (λ x less. omega arith) is.below)
      (omega arith, tt);
}

-- the waits that are left
pub waits_left : (ws left : List Wait) (n next : ℕ) → left ≡ without n ws → IsWaits ws next → IsWaits left next
waits_left ws left n next are is = rw are (record {
  numbered = numbered_without 0 n ws is.numbered;
  below = each_without (λ x. x.number < next) n ws is.below;
})

-- a wait that is one of the waits is taken out of its place
pub taken_out : (ws : List Wait) (w : Wait) (next : ℕ) → IsWaits ws next → IsIn ws w → remove ws (prefix_len (below w.number) ws) ≡ without w.number ws
taken_out ws w next is armed =
    rw (place_is 0 ws armed.place w is.numbered armed.stands) (removed_at 0 ws armed.place w is.numbered armed.stands)

pub place_within : (ws : List Wait) (w : Wait) (next : ℕ) → IsWaits ws next → IsIn ws w → prefix_len (below w.number) ws < length ws
place_within ws w next is armed =
    rw (place_is 0 ws armed.place w is.numbered armed.stands) (slice_get_within ws armed.place w armed.stands)

-- the waits after one was removed
pub removed_is : (ws new : List Wait) (w : Wait) (next place : ℕ) (r : Option Wait) → IsWaits ws next → IsIn ws w → place ≡ prefix_len (below w.number) ws →
    ((d : Wait) → place < length ws → r ≡ Some (get_or ws place d)) → OnSome r (new ≡ remove ws place) → new ≡ without w.number ws
removed_is ws new w next place r is armed at some gone =
    let got = some no_wait (rw at (place_within ws w next is armed)) in
    let now : OnSome (Some (get_or ws place no_wait)) (new ≡ remove ws place) = subst (λ (o : Option Wait). OnSome o (new ≡ remove ws place)) got gone in
    let same : new ≡ remove ws place = now in
    same ∙ ap (remove ws) at ∙ taken_out ws w next is armed

-- a wait behind the others is one of all
pub stands_behind : (ws : List Wait) (w : Wait) → slice_get (ws ++ w ∷ []) (length ws) ≡ Some w
stands_behind [] w = refl
stands_behind (x ∷ ws) w = stands_behind ws w

-- and where its number is greater, the others are left without it
pub without_behind : (ws : List Wait) (w : Wait) → Each (λ x. x.number < w.number) ws → without w.number (ws ++ w ∷ []) ≡ ws
without_behind [] w below =
    let at : (w.number == w.number) ≡ true = grind (arith, nat_tests) in
    ap (λ b. if b then [] else w ∷ []) at
without_behind (x ∷ ws) w below =
    let less : x.number < w.number = below.0 in
    let other : (x.number == w.number) ≡ false = grind (arith, nat_tests) in
    ap (λ b. if b then ws ++ w ∷ [] else x ∷ without w.number (ws ++ w ∷ [])) other ∙ ap (λ xs. x ∷ xs) (without_behind ws w below.1)
