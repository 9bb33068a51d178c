-- Items of lists, by their place.
use Rattle.std.proofs.Common.{◌≡◌, ◌<◌, ◌+◌, ◌∙◌, ℕ, zero, suc, List, [], ◌∷◌, length, drop, set, refl, sym, ap, get_or, add-one, drop-cons, arith, Some, slice_get}
use Rattle.std.proofs.lemmas.Option.{slice_get_within, get_or_from_slice_get}
use Rattle.dx_base.specs.Lists.{changed_at}

-- a list from a place on begins with the item there
pub opened : {X : Type 0} (xs : List X) (i : ℕ) (x : X) → slice_get xs i ≡ Some x → drop i xs ≡ x ∷ drop (i + 1) xs
opened xs i x h =
    let within : i < length xs = slice_get_within xs i x h in
    let same : get_or xs i x ≡ x = get_or_from_slice_get xs i x x h in
    rw (drop-cons xs i x within, same, add-one i) refl

-- an item changed is one set
pub changed_is_set : {X : Type 0} (f : X → X) (k : ℕ) (xs : List X) (d : X) → k < length xs → changed_at f k xs ≡ set xs k (f (get_or xs k d))
changed_is_set f k [] d h = absurd (omega (arith, h))
changed_is_set f zero (x ∷ xs) d h = refl
changed_is_set f (suc k) (x ∷ xs) d h = ap (λ ys. x ∷ ys) (changed_is_set f k xs d (omega (arith, h)))

-- an item that was read, changed and written back
pub written_back : {X : Type 0} (f : X → X) (k : ℕ) (xs : List X) (x y : X) → k < length xs → x ≡ get_or xs k x → y ≡ f x → set xs k y ≡ changed_at f k xs
written_back f k xs x y h read changed = sym (changed_is_set f k xs x h ∙ ap (λ z. set xs k (f z)) (sym read) ∙ ap (λ z. set xs k z) (sym changed))
