-- A text cut at the first byte of a value.
use Rattle.std.proofs.Common.{ℕ, ◌≡◌, Bool, true, false, List, [], ◌∷◌, ◌++◌, Option, Some, None, eqb, refl, sym, ap, subst, Bor}
use Rattle.std.specs.List.{onto_first}
use Rattle.std.specs.Option.{option_map}
use Rattle.std.proofs.lemmas.List.Splits.{slice_split-cons_no, slice_split-cons_yes}
use Rattle.trace_words.specs.Cut.{CutsOff, IsCut, pieces_at}
use Rattle.journal_words.specs.Words.{cut_at}

-- a list of pieces has a first one
record HasFirst (pieces : List (List ℕ)) : Type 0 where
  first : List ℕ
  others : List (List ℕ)
  is : pieces ≡ first ∷ others

onto_has : (b : ℕ) (pieces : List (List ℕ)) → HasFirst (onto_first b pieces)
onto_has b [] = record { first = b ∷ []; others = []; is = refl }
onto_has b (piece ∷ pieces) = record { first = b ∷ piece; others = pieces; is = refl }

split_has : (byte : ℕ) (text : List ℕ) → HasFirst (pieces_at byte text)
split_has byte [] = record { first = []; others = []; is = refl }
split_has byte (b ∷ bs) = by_test (eqb b byte) refl
  where
    by_test : (t : Bool) → eqb b byte ≡ t → HasFirst (pieces_at byte (b ∷ bs))
    by_test true e = record { first = []; others = pieces_at byte bs; is = slice_split-cons_yes (λ x. eqb x byte) b bs e }
    by_test false e =
        let onto = onto_has b (pieces_at byte bs) in
        record { first = onto.first; others = onto.others; is = cc (slice_split-cons_no (λ x. eqb x byte) b bs e, onto.is) }

-- the byte stands nowhere
pub cut_none : (byte : ℕ) (text : List ℕ) → pieces_at byte text ≡ text ∷ [] → cut_at byte text ≡ None
unfolding cut_at
cut_none byte [] alone = refl
cut_none byte (b ∷ bs) alone = by_test (eqb b byte) refl (λ h. cut_none byte bs h)
  where
    by_test : (t : Bool) → eqb b byte ≡ t → (pieces_at byte bs ≡ bs ∷ [] → cut_at byte bs ≡ None) → cut_at byte (b ∷ bs) ≡ None
    by_test true e more = let pieces = slice_split-cons_yes (λ x. eqb x byte) b bs e in cc
    by_test false e more =
        let pieces = slice_split-cons_no (λ x. eqb x byte) b bs e in
        let has = split_has byte bs in
        let onto : onto_first b (pieces_at byte bs) ≡ (b ∷ has.first) ∷ has.others = ap (onto_first b) has.is in
        let rest : pieces_at byte bs ≡ bs ∷ [] = cc in
        rw (e, more rest) refl

-- the byte stands behind a front
pub cut_some : (byte : ℕ) (text front behind : List ℕ) → CutsOff byte text front behind → cut_at byte text ≡ Some (front, behind)
unfolding cut_at
cut_some byte [] [] behind cut = let bytes = cut.bytes in cc
cut_some byte [] (f ∷ front) behind cut = let bytes = cut.bytes in cc
cut_some byte (b ∷ bs) front behind cut = by_test (eqb b byte) refl (λ f h. cut_some byte bs f behind h)
  where
    by_test : (t : Bool) → eqb b byte ≡ t → ((f : List ℕ) → CutsOff byte bs f behind → cut_at byte bs ≡ Some (f, behind)) → cut_at byte (b ∷ bs) ≡ Some (front, behind)
    by_test true e more =
        let pieces = slice_split-cons_yes (λ x. eqb x byte) b bs e in
        let same = cut.pieces in
        let bytes = cut.bytes in
        let empty : front ≡ [] = cc in
        let left : b ∷ bs ≡ [] ++ byte ∷ behind = subst (λ f. b ∷ bs ≡ f ++ byte ∷ behind) empty bytes in
        let rest : bs ≡ behind = cc in
        rw (e, empty, rest) refl
    by_test false e more = by_front front cut.pieces cut.bytes
      where
        by_front : (f : List ℕ) → pieces_at byte (b ∷ bs) ≡ f ∷ pieces_at byte behind → b ∷ bs ≡ f ++ byte ∷ behind →
            cut_at byte (b ∷ bs) ≡ Some (f, behind)
        by_front [] same bytes =
            let pieces = slice_split-cons_no (λ x. eqb x byte) b bs e in
            let has = split_has byte bs in
            let onto : onto_first b (pieces_at byte bs) ≡ (b ∷ has.first) ∷ has.others = ap (onto_first b) has.is in
            cc
        by_front (x ∷ f) same bytes =
            let pieces = slice_split-cons_no (λ y. eqb y byte) b bs e in
            let has = split_has byte bs in
            let onto : onto_first b (pieces_at byte bs) ≡ (b ∷ has.first) ∷ has.others = ap (onto_first b) has.is in
            let first : b ≡ x = cc in
            let rest : bs ≡ f ++ byte ∷ behind = cc in
            let split : pieces_at byte bs ≡ f ∷ pieces_at byte behind = cc in
            rw (e, more f (record { pieces = split; bytes = rest }), first) refl

-- what the code cuts
pub cut_is : (byte : ℕ) (text : List ℕ) (found : Option (Bor (List ℕ) × Bor (List ℕ))) → IsCut byte text found →
    option_map (λ p. (p.0.now, p.1.now)) found ≡ cut_at byte text
cut_is byte text None h = sym (cut_none byte text h)
cut_is byte text (Some p) h = sym (cut_some byte text p.0.now p.1.now h)
