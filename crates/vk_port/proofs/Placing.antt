-- The place of the batch of a number among batches that are numbered without a gap.
use Rattle.std.proofs.Common.{◌≡◌, ℕ, zero, suc, ◌+◌, ◌-◌, ◌<◌, ◌≤◌, ◌==◌, ◌∙◌, Bool, true, false, min, List, [], ◌∷◌, map, length, refl, sym, ap, arith, cond, get_or, slice_get, Some}
use Rattle.std.specs.List.{list_all}
use Rattle.std.proofs.lemmas.Bool.{and_parts, eqb-true, ne_eqb}
use Rattle.vk_port.specs.declared.lanes.Lane.{Lane}
use Rattle.vk_port.specs.declared.lanes.Running.{Running}
use Rattle.vk_port.specs.After.{place_of}
use Rattle.vk_port.specs.Fronts.{lane_number, is_numbered}
use Rattle.vk_port.specs.Journal.{are_numbered}
use Rattle.vk_port.specs.Valid.{batch_of}
use Rattle.std.proofs.lemmas.Option.{none-some}
use Rattle.vk_port.proofs.Earlier.{same_item}

-- no batch has a number in front of the first one
pub place_before : (n m : ℕ) (rs : List Running) → are_numbered m (map batch_of rs) ≡ true → n < m → length rs ≡ place_of n rs
place_before n m [] numbered less = refl
place_before n m (r ∷ rs) numbered less =
    let parts = and_parts (r.batch.number == m) (are_numbered (m + 1) (map batch_of rs)) numbered in
    let number : r.batch.number ≡ m = eqb-true r.batch.number m parts.0 in
    rw (ne_eqb r.batch.number n (λ same. omega (arith, number, less, same))) (ap suc (place_before n (m + 1) rs parts.1 (omega (arith, less))))

-- a batch stands as far behind the first one as its number is past the first number
pub place_from : (n m : ℕ) (rs : List Running) → are_numbered m (map batch_of rs) ≡ true → m ≤ n → min (length rs) (n - m) ≡ place_of n rs
place_from n m [] numbered le = omega arith
place_from n m (r ∷ rs) numbered le = by_test (r.batch.number == n) refl (place_from n (m + 1) rs parts.1) where
  parts : ((r.batch.number == m) ≡ true) × (are_numbered (m + 1) (map batch_of rs) ≡ true)
  parts = and_parts (r.batch.number == m) (are_numbered (m + 1) (map batch_of rs)) numbered

  number : r.batch.number ≡ m
  number = eqb-true r.batch.number m parts.0

  by_test : (t : Bool) → (r.batch.number == n) ≡ t → (m + 1 ≤ n → min (length rs) (n - (m + 1)) ≡ place_of n rs) → min (suc (length rs)) (n - m) ≡ cond t 0 (suc (place_of n rs))
  by_test true is rest =
      let same : r.batch.number ≡ n = eqb-true r.batch.number n is in
      omega (arith, number, same)
  by_test false is rest =
      let later : m + 1 ≤ n = grind (arith, number, le, is) in
      let next = rest later in
      omega (arith, next, later)

-- the first batch has the first number
pub first_number_is : (rs : List Running) (r : Running) → Some r ≡ slice_get rs 0 → r.batch.number ≡ lane_number rs
first_number_is [] r is = absurd (none-some r (sym is))
first_number_is (x ∷ rs) r is = ap (λ (y : Running). y.batch.number) (same_item r x is)

-- a lane among lanes that are numbered
pub numbered_lane : (ls : List Lane) (q : ℕ) (l : Lane) → q < length ls → list_all is_numbered ls ≡ true → l ≡ get_or ls q l → is_numbered l ≡ true
numbered_lane [] q l within all is = absurd (omega (arith, within))
numbered_lane (x ∷ ls) zero l within all is = ap is_numbered is ∙ (and_parts (is_numbered x) (list_all is_numbered ls) all).0
numbered_lane (x ∷ ls) (suc q) l within all is = numbered_lane ls q l (omega (arith, within)) (and_parts (is_numbered x) (list_all is_numbered ls) all).1 is
