-- What is found at the first registers of all ranges is what holds of all registers.
use Rattle.std.proofs.Common.{◌≡◌, ◌<◌, Bool, true, ◌||◌, nat_lt, List, [], ◌∷◌, length, refl, sym, ap, subst, ◌∙◌, inl, inr}
use Rattle.std.proofs.lemmas.Bool.{or_cases, ltb-true, lt-ltb}
use Rattle.std.proofs.lemmas.List.Folds.{list_any-append}
use Rattle.std.specs.List.{list_any, flat_map}
use Rattle.root_signature.specs.declared.params.Param.{Param}
use Rattle.root_signature.specs.declared.ranges.Range.{Range}
use Rattle.root_signature.specs.Places.{places_of}
use Rattle.root_signature.specs.Ranges.{ranges_of}
use Rattle.root_signature.specs.Refusals.{CoversTwice}
use Rattle.root_signature.proofs.Coverage.{count_covers, length_from}
use Rattle.root_signature.proofs.Beginnings.{begins_twice}

-- a test of the ranges of parameters
pub any_range : (test : Range → Bool) (params : List Param) →
    list_any test (flat_map ranges_of params) ≡ list_any (λ param. list_any test (ranges_of param)) params
any_range test [] = refl
any_range test (param ∷ params) =
    list_any-append test (ranges_of param) (flat_map ranges_of params) ∙ ap (λ b. list_any test (ranges_of param) || b) (any_range test params)

some_range : (test : Range → Bool) (ranges : List Range) → list_any test ranges ≡ true → (range : Range) × (test range ≡ true)
some_range test [] h = absurd (cc)
some_range test (range ∷ ranges) h = elim (or_cases (test range) (list_any test ranges) h) [
  | inl e ↦ (range, e)
  | inr e ↦ some_range test ranges e
]

-- two parameters or ranges cover the first register of a range
abbrev begins_at_two : List Param → Range → Bool
begins_at_two params range = nat_lt 1 (length (places_of params range.class range.register))

pub twice_of_found : (params : List Param) → list_any (λ param. list_any (λ range. nat_lt 1 (length (places_of params range.class range.register))) (ranges_of param)) params ≡ true
    → CoversTwice params
twice_of_found params h =
    let some = some_range (begins_at_two params) (flat_map ranges_of params) (any_range (begins_at_two params) params ∙ h) in
    record { class = some.0.class; register = some.0.register; twice = ltb-true 1 _ some.1 }

pub found_of_twice : (params : List Param) → CoversTwice params
    → list_any (λ param. list_any (λ range. nat_lt 1 (length (places_of params range.class range.register))) (ranges_of param)) params ≡ true
found_of_twice params twice =
    let ranges : List Range = flat_map ranges_of params in
    let h : 1 < count_covers twice.class twice.register ranges = subst (λ n. 1 < n) (length_from 0 params twice.class twice.register) twice.twice in
    let begins = begins_twice ranges twice.class twice.register h in
    let at : 1 < length (places_of params begins.range.class begins.range.register) =
    subst (λ n. 1 < n) (sym (length_from 0 params begins.range.class begins.range.register)) begins.twice in
    sym (any_range (begins_at_two params) params) ∙ begins.among (begins_at_two params) (lt-ltb 1 _ at)
