-- The tables of the numbers that resources have on the device.
use Rattle.std.proofs.Common.{ℕ, zero, suc, ◌≡◌, ◌<◌, ◌≤◌, ◌+◌, ◌∙◌, sym, ap, refl, arith, List, [], ◌∷◌, ◌++◌, length, drop, append-nil, Some, Option, Bool, true, false, if◌then◌else◌}
use Rattle.std.proofs.lemmas.List.{drop_all}
use Rattle.std.specs.List.{slice_get}
use Rattle.d3d_resources.specs.declared.resources.Resource.{Resource}
use Rattle.barrier_lowering.specs.declared.numbers.Sort.{Sort}
use Rattle.barrier_lowering.specs.Numbers.{is_of, number_of, AreNumbers}

-- one more where it is of the sort
abbrev pub one_if : Bool → ℕ
one_if b = if b then 1 else 0

-- the numbers of resources, where so many of the sort come before the first
abbrev pub numbers_from : Sort → ℕ → List (Option Resource) → List ℕ
numbers_from sort n [] = []
numbers_from sort n (r ∷ rs) = n ∷ numbers_from sort (n + one_if (is_of sort r)) rs

numbers_length : (sort : Sort) (n : ℕ) (rs : List (Option Resource)) → length (numbers_from sort n rs) ≡ length rs
numbers_length sort n [] = refl
numbers_length sort n (r ∷ rs) = ap suc (numbers_length sort (n + one_if (is_of sort r)) rs)

one_more : (b : Bool) (n k : ℕ) → (n + one_if b) + k ≡ n + (if b then suc k else k)
one_more true n k = omega arith
one_more false n k = omega arith

numbers_at : (sort : Sort) (n : ℕ) (rs : List (Option Resource)) (id : ℕ) → id < length rs → slice_get (numbers_from sort n rs) id ≡ Some (n + number_of sort rs id)
numbers_at sort n [] id within = absurd (omega (arith, within))
numbers_at sort n (r ∷ rs) zero within = ap (λ k. Some k) (omega arith)
numbers_at sort n (r ∷ rs) (suc id) within = numbers_at sort (n + one_if (is_of sort r)) rs id (omega (arith, within)) ∙ ap (λ k. Some k) (one_more (is_of sort r) n (number_of sort rs id))

-- a table that was counted through has the number of each resource
pub numbers_are : (sort : Sort) (rs : List (Option Resource)) (numbers : List ℕ) (n i : ℕ) → numbers ++ numbers_from sort n (drop i rs) ≡ numbers_from sort 0 rs → length rs ≤ i → AreNumbers sort rs numbers
numbers_are sort rs numbers n i through past =
    let is : numbers ≡ numbers_from sort 0 rs = sym (append-nil numbers) ∙ ap (λ xs. numbers ++ numbers_from sort n xs) (sym (drop_all i rs past)) ∙ through in
    record {
      count = ap length is ∙ numbers_length sort 0 rs;
      each = λ id within. ap (λ ns. slice_get ns id) is ∙ numbers_at sort 0 rs id within ∙ ap (λ k. Some k) (omega arith);
    }

-- a table has a place for each resource
pub number_there : (sort : Sort) (rs : List (Option Resource)) (numbers : List ℕ) (id : ℕ) → AreNumbers sort rs numbers → id < length rs → id < length numbers
number_there sort rs numbers id are within = omega (arith, are.count, within)

-- what a table has at a resource is its number
pub number_is : (sort : Sort) (rs : List (Option Resource)) (numbers : List ℕ) (id n : ℕ) → AreNumbers sort rs numbers → id < length rs → slice_get numbers id ≡ Some n → n ≡ number_of sort rs id
number_is sort rs numbers id n are within at =
    let e : Some n ≡ Some (number_of sort rs id) = sym at ∙ are.each id within in
    grind arith
