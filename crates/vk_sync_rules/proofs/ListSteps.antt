-- How loops over lists go on.
use Rattle.std.proofs.Common.{ℕ, zero, suc, ◌≡◌, ◌<◌, ◌+◌, ◌∙◌, refl, sym, ap, Bool, ◌&&◌, List, [], ◌∷◌, ◌++◌, length, get_or, set, drop, slice_get, Some, add-one, drop-cons, arith}
use Rattle.std.specs.List.{list_all, flat_map}
use Rattle.std.proofs.lemmas.Option.{slice_get_within, get_or_from_slice_get}
use Rattle.std.proofs.lemmas.List.Folds.{list_all-append}
use Rattle.dx_base.specs.Lists.{changed_at}
pub use Rattle.vk_types.proofs.Lists.{opened, changed_is_set, written_back}

-- the same, where the item is the one read
pub opened_at : {X : Type 0} (xs : List X) (i : ℕ) (x : X) → i < length xs → x ≡ get_or xs i x → drop i xs ≡ x ∷ drop (i + 1) xs
opened_at xs i x within at = rw (drop-cons xs i x within, sym at, add-one i) refl

-- a test of each item of the lists that items stand for
pub all_flat : {A B : Type 0} (p : B → Bool) (f : A → List B) (xs : List A) → list_all p (flat_map f xs) ≡ list_all (λ x. list_all p (f x)) xs
all_flat p f [] = refl
all_flat p f (x ∷ xs) = list_all-append p (f x) (flat_map f xs) ∙ ap (λ t. list_all p (f x) && t) (all_flat p f xs)

-- a test of each item of two lists
pub all_both : {A : Type 0} (p : A → Bool) (xs ys : List A) → list_all p (xs ++ ys) ≡ (list_all p xs && list_all p ys)
all_both p xs ys = list_all-append p xs ys
