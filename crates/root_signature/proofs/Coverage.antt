-- How many places a register has, counted by ranges.
use Rattle.std.proofs.Common.{◌≡◌, ℕ, ◌+◌, ◌-◌, ◌<◌, Bool, true, false, cond, List, [], ◌∷◌, ◌++◌, length, get_or, drop, refl, sym, ap, ◌∙◌, arith, zero-add}
use Rattle.std.proofs.lemmas.List.{length-append}
use Rattle.std.proofs.lemmas.List.Recursion.{is_count_by}
use Rattle.std.specs.List.{count_by, flat_map}
use Rattle.dx_base.specs.declared.kinds.Class.{Class}
use Rattle.root_signature.specs.declared.params.Param.{Param}
use Rattle.root_signature.specs.declared.places.Place.{Place}
use Rattle.root_signature.specs.declared.ranges.Range.{Range}
use Rattle.root_signature.specs.Places.{first_place, next_place, places_in_ranges, places_in_param, places_from}
use Rattle.root_signature.specs.Ranges.{covers, ranges_of}
use Rattle.root_signature.proofs.Steps.{next_item}

-- how many ranges cover a register
abbrev pub count_covers : Class → ℕ → List Range → ℕ
count_covers class register [] = 0
count_covers class register (range ∷ ranges) =
    cond (covers range class register) (1 + count_covers class register ranges) (count_covers class register ranges)

-- the same by std's word
pub counts : (class : Class) (register : ℕ) (ranges : List Range) →
    count_covers class register ranges ≡ count_by (λ range. covers range class register) ranges
counts class register ranges =
    is_count_by (count_covers class register) (λ range. covers range class register) refl (λ x xs. refl) ranges

-- a place before others, or none
one_place : (b : Bool) (p : Place) (rest : List Place) → length (cond b (p ∷ []) [] ++ rest) ≡ cond b (1 + length rest) (length rest)
one_place true p rest = omega arith
one_place false p rest = refl

-- ranges have as many places for a register as cover it
pub length_places : (start : Place) (ranges : List Range) (class : Class) (register : ℕ) →
    length (places_in_ranges start ranges class register) ≡ count_covers class register ranges
length_places start [] class register = refl
length_places start (range ∷ ranges) class register =
    let here : Place = record { param = start.param; range = start.range; slot = start.slot + (register - range.register) } in
    one_place (covers range class register) here (places_in_ranges (next_place start range) ranges class register)
    ∙ ap (λ n. cond (covers range class register) (1 + n) n) (length_places (next_place start range) ranges class register)

-- ranges behind others
count_append : (class : Class) (register : ℕ) (xs ys : List Range) →
    count_covers class register (xs ++ ys) ≡ count_covers class register xs + count_covers class register ys
count_append class register [] ys = sym (zero-add _)
count_append class register (x ∷ xs) ys =
    let rest = count_append class register xs ys in
    one_more (covers x class register) _ _ _ rest
  where
    one_more : (b : Bool) (n k l : ℕ) → n ≡ k + l → cond b (1 + n) n ≡ cond b (1 + k) k + l
    one_more true n k l e = omega arith
    one_more false n k l e = e

-- parameters have as many places for a register as ranges of theirs cover it
pub length_from : (number : ℕ) (params : List Param) (class : Class) (register : ℕ) →
    length (places_from number params class register) ≡ count_covers class register (flat_map ranges_of params)
length_from number [] class register = refl
length_from number (param ∷ params) class register =
    length-append (places_in_param number param class register) (places_from (number + 1) params class register)
    ∙ (ap (λ n. n + length (places_from (number + 1) params class register)) (length_places (first_place number) (ranges_of param) class register)
    ∙ (ap (λ n. count_covers class register (ranges_of param) + n) (length_from (number + 1) params class register)
    ∙ sym (count_append class register (ranges_of param) (flat_map ranges_of params))))

-- the places in a parameter and those in the parameters behind it
pub more_places : (params : List Param) (i : ℕ) (param : Param) (class : Class) (register : ℕ) →
    i < length params → param ≡ get_or params i param →
    length (places_from i (drop i params) class register)
    ≡ count_by (λ range. covers range class register) (ranges_of param) + length (places_from (i + 1) (drop (i + 1) params) class register)
more_places params i param class register inside is =
    ap (λ xs. length (places_from i xs class register)) (next_item params i param inside is)
    ∙ (length-append (places_in_param i param class register) (places_from (i + 1) (drop (i + 1) params) class register)
    ∙ ap (λ n. n + length (places_from (i + 1) (drop (i + 1) params) class register))
    (length_places (first_place i) (ranges_of param) class register ∙ counts class register (ranges_of param)))
