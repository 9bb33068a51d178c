-- The greatest value among updates, and the first that suffices.
use Rattle.std.proofs.Common.{ℕ, ◌≡◌, ◌≤◌, ◌<◌, ◌∙◌, max, refl, ap, List, [], ◌∷◌, ◌++◌, Option, Some, None, Bool, true, false, cond, arith}
use Rattle.std.specs.Option.{option_or}
use Rattle.std.proofs.lemmas.List.Folds.{find-append}
use Rattle.std.proofs.lemmas.Bool.Decides.{nat_tests}
use Rattle.fence_timeline.specs.declared.update.Update.{Update}
use Rattle.fence_timeline.specs.Sufficient.{suffices, first_sufficient}
use Rattle.fence_timeline.specs.Runs.{greatest}

-- of two lists
pub greatest_append : (us vs : List Update) → greatest (us ++ vs) ≡ max (greatest us) (greatest vs)
greatest_append [] vs = omega arith
greatest_append (u ∷ us) vs = omega (arith, greatest_append us vs)

-- none suffices where the greatest value does not
pub none_suffices : (v : ℕ) (us : List Update) → greatest us < v → first_sufficient v us ≡ None
none_suffices v [] low = refl
none_suffices v (u ∷ us) low =
    let fails : suffices v u ≡ false = grind (arith, nat_tests) in
    ap (λ b. cond b (Some u) (first_sufficient v us)) fails ∙ none_suffices v us (omega arith)

-- the first that suffices, where the greatest value does: one before the last, or else the last
pub one_suffices : (v : ℕ) (us : List Update) (u : Update) → v ≤ greatest (us ++ u ∷ []) →
    first_sufficient v (us ++ u ∷ []) ≡ option_or (first_sufficient v us) (Some u)
one_suffices v [] u high =
    let fits : suffices v u ≡ true = grind (arith, nat_tests) in
    ap (λ b. cond b (Some u) None) fits
one_suffices v (x ∷ us) u high = by_test (suffices v x) refl (λ low. one_suffices v us u (omega arith))
  where
    by_test : (b : Bool) → suffices v x ≡ b → (x.value < v → first_sufficient v (us ++ u ∷ []) ≡ option_or (first_sufficient v us) (Some u)) →
        cond b (Some x) (first_sufficient v (us ++ u ∷ [])) ≡ option_or (cond b (Some x) (first_sufficient v us)) (Some u)
    by_test true is rest = refl
    by_test false is rest = rest (grind (arith, nat_tests))

-- the first of two lists that suffices
pub first_append : (v : ℕ) (us vs : List Update) → first_sufficient v (us ++ vs) ≡ option_or (first_sufficient v us) (first_sufficient v vs)
first_append v us vs = find-append (suffices v) us vs

pub or_some : {A : Type 0} (o p : Option A) (x : A) → option_or (option_or o (Some x)) p ≡ option_or o (Some x)
or_some None p x = refl
or_some (Some y) p x = refl

pub or_assoc : {A : Type 0} (o p q : Option A) → option_or (option_or o p) q ≡ option_or o (option_or p q)
or_assoc None p q = refl
or_assoc (Some y) p q = refl

pub or_none : {A : Type 0} (o : Option A) → option_or o None ≡ o
or_none None = refl
or_none (Some y) = refl
