-- A search through a list that is put together from lists.
use Rattle.std.proofs.Common.{◌≡◌, ℕ, zero, suc, ◌+◌, List, [], ◌∷◌, ◌++◌, length, drop, refl, sym, ap, arith, true≢false, Bool, true, false, Some, slice_get}
use Rattle.vk_port.specs.declared.found.Found.{Found}
use Rattle.vk_port.specs.declared.found.Found.TheVariants.{At, Left}
use Rattle.vk_port.specs.declared.steps.Stepped.{Stepped}
use Rattle.vk_port.specs.Found.{found, found_on}
use Rattle.vk_port.proofs.Lists.{opened}

-- a search through two lists is one through the first, and then through the second
pub found_append : (xs ys : List Stepped) (k : ℕ) → found (xs ++ ys) k ≡ found_on (found xs k) ys
found_append [] ys k = refl
found_append (x ∷ xs) ys zero = refl
found_append (x ∷ xs) ys (suc k) = found_append xs ys k

-- the search ends in the first of two lists
pub found_first : (xs ys : List Stepped) (k : ℕ) (r : Found) (s : Stepped) → r ≡ found (xs ++ ys) k → At s ≡ found xs k → At s ≡ r
found_first xs ys k r s start here = rw (start, found_append xs ys k, ← here) refl

-- the search goes on in the second of two lists
pub found_second : (xs ys : List Stepped) (k : ℕ) (r : Found) (left : ℕ) → r ≡ found (xs ++ ys) k → Left left ≡ found xs k → r ≡ found ys left
found_second xs ys k r left start here = rw (start, found_append xs ys k, ← here) refl

-- a found step is no place that is left
abbrev is_at : Found → Bool
is_at (At x) = true
is_at (Left k) = false

-- the step of a search, or another
abbrev step_of : Stepped → Found → Stepped
step_of other (At x) = x
step_of other (Left k) = other

-- the place that a search left, or 0
abbrev left_of : Found → ℕ
left_of (At x) = 0
left_of (Left k) = k

-- what a search found stands at that place
pub found_at : (xs : List Stepped) (k : ℕ) (s : Stepped) → At s ≡ found xs k → slice_get xs k ≡ Some s
found_at [] k s is = absurd (true≢false (ap is_at is))
found_at (x ∷ xs) zero s is = ap (λ y. Some y) (sym (ap (step_of s) is))
found_at (x ∷ xs) (suc k) s is = found_at xs k s is

-- a search that found nothing went through the whole list
pub found_left : (xs : List Stepped) (k left : ℕ) → Left left ≡ found xs k → k ≡ length xs + left
found_left [] k left is = let same : left ≡ k = ap left_of is in omega (arith, same)
found_left (x ∷ xs) zero left is = absurd (true≢false (sym (ap is_at is)))
found_left (x ∷ xs) (suc k) left is = let rest : k ≡ length xs + left = found_left xs k left is in omega (arith, rest)

module _ {L : Type 0} (part : ℕ → L → List Stepped) (whole : ℕ → List L → List Stepped)
    (turn : (q : ℕ) (l : L) (ls : List L) → whole q (l ∷ ls) ≡ part q l ++ whole (q + 1) ls) where
  -- the lists from a place on are the one there and the others
  turned : (ls : List L) (q : ℕ) (l : L) → slice_get ls q ≡ Some l → whole q (drop q ls) ≡ part q l ++ whole (q + 1) (drop (q + 1) ls)
  turned ls q l is = rw (opened ls q l is) (turn q l (drop (q + 1) ls))

  -- the search ends in this turn
  pub turn_ends : (ls : List L) (q k : ℕ) (l : L) (r : Found) (s : Stepped) → r ≡ found (whole q (drop q ls)) k → slice_get ls q ≡ Some l → At s ≡ found (part q l) k → At s ≡ r
  turn_ends ls q k l r s start is here =
      found_first (part q l) (whole (q + 1) (drop (q + 1) ls)) k r s (rw (turned ls q l is) at start) here

  -- the search goes on after this turn
  pub turn_goes_on : (ls : List L) (q k : ℕ) (l : L) (r : Found) (left : ℕ) → r ≡ found (whole q (drop q ls)) k → slice_get ls q ≡ Some l → Left left ≡ found (part q l) k → r ≡ found (whole (q + 1) (drop (q + 1) ls)) left
  turn_goes_on ls q k l r left start is here =
      found_second (part q l) (whole (q + 1) (drop (q + 1) ls)) k r left (rw (turned ls q l is) at start) here
