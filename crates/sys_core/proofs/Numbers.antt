-- The table of the numbers that resources have on the device.
use Rattle.std.proofs.Common.{ℕ, zero, suc, ◌≡◌, ◌<◌, ◌≤◌, ◌+◌, ◌∙◌, sym, ap, refl, arith, List, [], ◌∷◌, ◌++◌, length, drop, append-nil, Some, None, Option}
use Rattle.std.proofs.lemmas.List.{drop_all}
use Rattle.std.specs.List.{slice_get}
use Rattle.d3d_machine.specs.declared.world.Resource.{Resource}
use Rattle.d3d_machine.specs.declared.world.Resource.TheVariants.{Buffer}
use Rattle.sys_core.specs.Lowering.{number_in, AreNumbers}

-- the numbers of resources, where so many live ones come before the first
abbrev pub numbers_from : ℕ → List (Option Resource) → List ℕ
numbers_from n [] = []
numbers_from n (None ∷ rs) = n ∷ numbers_from n rs
numbers_from n (Some r ∷ rs) = n ∷ numbers_from (n + 1) rs

numbers_length : (n : ℕ) (rs : List (Option Resource)) → length (numbers_from n rs) ≡ length rs
numbers_length n [] = refl
numbers_length n (None ∷ rs) = ap suc (numbers_length n rs)
numbers_length n (Some r ∷ rs) = ap suc (numbers_length (n + 1) rs)

numbers_at : (n : ℕ) (rs : List (Option Resource)) (b : ℕ) → b < length rs → slice_get (numbers_from n rs) b ≡ Some (n + number_in rs b)
numbers_at n [] b within = absurd (omega (arith, within))
numbers_at n (None ∷ rs) zero within = ap (λ k. Some k) (omega arith)
numbers_at n (Some r ∷ rs) zero within = ap (λ k. Some k) (omega arith)
numbers_at n (None ∷ rs) (suc b) within = numbers_at n rs b (omega (arith, within))
numbers_at n (Some (Buffer h k) ∷ rs) (suc b) within = numbers_at (n + 1) rs b (omega (arith, within)) ∙ ap (λ k. Some k) (omega arith)

-- a table that was counted through has the number of each resource
pub numbers_are : (rs : List (Option Resource)) (numbers : List ℕ) (n i : ℕ) → numbers ++ numbers_from n (drop i rs) ≡ numbers_from 0 rs → length rs ≤ i → AreNumbers rs numbers
numbers_are rs numbers n i through past = let is : numbers ≡ numbers_from 0 rs = sym (append-nil numbers) ∙ ap (λ xs. numbers ++ numbers_from n xs) (sym (drop_all i rs past)) ∙ through in record {
  count = ap length is ∙ numbers_length 0 rs;
  each = λ b within. ap (λ ns. slice_get ns b) is ∙ numbers_at 0 rs b within ∙ ap (λ k. Some k) (omega arith);
}

-- a table has a place for each resource
pub number_there : (rs : List (Option Resource)) (numbers : List ℕ) (b : ℕ) → AreNumbers rs numbers → b < length rs → b < length numbers
number_there rs numbers b are within = omega (arith, are.count, within)

-- what a table has at a resource is its number
pub number_is : (rs : List (Option Resource)) (numbers : List ℕ) (b n : ℕ) → AreNumbers rs numbers → b < length rs → slice_get numbers b ≡ Some n → n ≡ number_in rs b
number_is rs numbers b n are within at =
    let e : Some n ≡ Some (number_in rs b) = sym at ∙ are.each b within in
    grind arith
