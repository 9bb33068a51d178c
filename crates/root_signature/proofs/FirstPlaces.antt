-- The first place of a register, in parameters one behind the other.
use Rattle.std.proofs.Common.{◌≡◌, ℕ, ◌+◌, ◌<◌, Bool, true, false, List, [], ◌∷◌, ◌++◌, length, get_or, drop, refl, sym, ap, subst, ◌∙◌, is_some, Option, slice_get}
use Rattle.std.specs.List.{list_any}
use Rattle.std.proofs.lemmas.Bool.{or_parts}
use Rattle.dx_base.specs.declared.kinds.Class.{Class}
use Rattle.root_signature.specs.declared.params.Param.{Param}
use Rattle.root_signature.specs.declared.places.Place.{Place}
use Rattle.root_signature.specs.Places.{places_in_param, places_from}
use Rattle.root_signature.proofs.Steps.{next_item}

first_there : (here behind : List Place) (found : Option Place) → found ≡ slice_get here 0 → is_some found ≡ true → found ≡ slice_get (here ++ behind) 0
first_there [] behind found is some = absurd (cc)
first_there (p ∷ here) behind found is some = is

none_there : (here behind : List Place) (found : Option Place) → found ≡ slice_get here 0 → is_some found ≡ false → here ++ behind ≡ behind
none_there [] behind found is none = refl
none_there (p ∷ here) behind found is none = absurd (cc)

-- where a parameter covers the register, its first place is the first of all that are left
pub found_here : (params : List Param) (i number : ℕ) (param : Param) (class : Class) (register : ℕ) (found : Option Place) →
    i < length params → param ≡ get_or params i param →
    found ≡ slice_get (places_in_param number param class register) 0 → is_some found ≡ true →
    found ≡ slice_get (places_from number (drop i params) class register) 0
found_here params i number param class register found inside is first some =
    first_there (places_in_param number param class register) (places_from (number + 1) (drop (i + 1) params) class register) found first some
    ∙ ap (λ xs. slice_get (places_from number xs class register) 0) (sym (next_item params i param inside is))

-- where it does not, the places left are those behind it
pub not_here : (params : List Param) (i number : ℕ) (param : Param) (class : Class) (register : ℕ) (found : Option Place) →
    i < length params → param ≡ get_or params i param →
    found ≡ slice_get (places_in_param number param class register) 0 → is_some found ≡ false →
    places_from (number + 1) (drop (i + 1) params) class register ≡ places_from number (drop i params) class register
not_here params i number param class register found inside is first none =
    sym (none_there (places_in_param number param class register) (places_from (number + 1) (drop (i + 1) params) class register) found first none)
    ∙ ap (λ xs. places_from number xs class register) (sym (next_item params i param inside is))

-- a test that no item left passes, of the item at the place and of those behind it
pub none_behind : (test : Param → Bool) (params : List Param) (i : ℕ) (param : Param) → i < length params → param ≡ get_or params i param →
    list_any test (drop i params) ≡ false → (test param ≡ false) × (list_any test (drop (i + 1) params) ≡ false)
none_behind test params i param inside is h =
    or_parts (test param) (list_any test (drop (i + 1) params)) (subst (λ xs. list_any test xs ≡ false) (next_item params i param inside is) h)
