-- A line of one form is of no form that is tried before.
use Rattle.line_forms.proofs.Vocabulary.{ℕ, zero, suc, ◌≡◌, ◌&&◌, ◌||◌, ◌==◌, not, Bool, true, false, List, [], ◌∷◌, ◌++◌, length, slice_get, Some, Option, refl, sym, rules, arith, cond_both, if◌then◌else◌, list_all, filter, bytes_eq, and_parts, nat_tests, PartValue, Rest, Nothing, Names, Words, AllGood, is_other, differ, apart, are_apart, all_apart, Place, Word, Name, NewName, Number, DataWord, FlagWord, Set, Choice, AllOr, AllOrNumber, Row, Known, part_text, part_texts, rest_texts, Naming}
use Rattle.line_forms.specs.Finding.{may_stand, may_end, fits, form_for, may_begin, first_byte_of, beginning_with}

has_some : (k : ℕ) → (suc k == 0) ≡ false
has_some k = grind (arith, nat_tests)

both_false : (t : Bool) → (t && false) ≡ false
both_false true = refl
both_false false = refl

-- what all of some pass, one of them passes
pub passes : {F : Type 0} (P : F → Bool) (fs : List F) (k : ℕ) (f : F) → list_all P fs ≡ true → slice_get fs k ≡ Some f → P f ≡ true
passes P [] k f all e = cc
passes P (g ∷ fs) zero f all e = let is : g ≡ f = cc in rw (← is) (and_parts (P g) (list_all P fs) all).0
passes P (g ∷ fs) (suc k) f all e = passes P fs k f (and_parts (P g) (list_all P fs) all).1 e

module _ (n : Naming) (known : Known) where
  other_word : (a : List ℕ) (q : Place) → is_other a q ≡ true → may_stand q a ≡ false
  other_word a (Word b) e = flipped (bytes_eq a b) e
    where
      flipped : (t : Bool) → not t ≡ true → t ≡ false
      flipped true e = cc
      flipped false e = refl
  other_word a _ e = cc

  cannot_stand : (p q : Place) (v : PartValue) → differ p q ≡ true → may_stand q (part_text known p v) ≡ false
  cannot_stand (Word a) q v e = other_word a q e
  cannot_stand _ q v e = cc

  pub cannot_fit : (ps : List Place) (vs : List PartValue) (r : Rest) (rs : List ℕ) (qs : List Place) (s : Rest) → AllGood n known ps vs →
      apart ps r qs s ≡ true → fits qs s (part_texts known ps vs ++ rest_texts known r rs) ≡ false
  unfolding apart fits part_texts rest_texts
  cannot_fit [] [] r rs [] s good e = cc
  cannot_fit [] [] Nothing rs (q ∷ qs) s good e = refl
  cannot_fit [] [] _ rs (q ∷ qs) s good e = cc
  cannot_fit [] (v ∷ vs) r rs qs s good e = absurd good
  cannot_fit (p ∷ ps) [] r rs qs s good e = absurd good
  cannot_fit (p ∷ ps) (v ∷ vs) r rs [] Nothing good e = has_some (length (part_texts known ps vs ++ rest_texts known r rs))
  cannot_fit (p ∷ ps) (v ∷ vs) r rs [] _ good e = cc
  cannot_fit (p ∷ ps) (v ∷ vs) r rs (q ∷ qs) s good e =
      by_word (differ p q) refl (cannot_fit ps vs r rs qs s good.1) e
    where
      by_word : (t : Bool) → differ p q ≡ t → (apart ps r qs s ≡ true → fits qs s (part_texts known ps vs ++ rest_texts known r rs) ≡ false) →
          (t || apart ps r qs s) ≡ true →
          (may_stand q (part_text known p v) && fits qs s (part_texts known ps vs ++ rest_texts known r rs)) ≡ false
      by_word true is behind e = rw (cannot_stand p q v is) refl
      by_word false is behind e = rw (behind e) (both_false (may_stand q (part_text known p v)))

  -- the word of a part may stand there
  stands : (p : Place) (v : PartValue) → may_stand p (part_text known p v) ≡ true
  stands (Word t) v = same t
    where
      same : (t : List ℕ) → bytes_eq t t ≡ true
      same t = search rules
  stands _ v = refl

  ends : (r : Rest) (rs : List ℕ) → may_end r (rest_texts known r rs) ≡ true
  unfolding rest_texts
  ends Nothing rs = refl
  ends _ rs = refl

  pub does_fit : (ps : List Place) (vs : List PartValue) (r : Rest) (rs : List ℕ) → AllGood n known ps vs →
      fits ps r (part_texts known ps vs ++ rest_texts known r rs) ≡ true
  unfolding fits part_texts
  does_fit [] [] r rs good = ends r rs
  does_fit (p ∷ ps) (v ∷ vs) r rs good = rw (stands p v, does_fit ps vs r rs good.1) refl
  does_fit _ _ r rs good = absurd good

  -- the form of a line is found
  pub found_in : {F : Type 0} (row : F → Row) (fs : List F) (k : ℕ) (f : F) (vs : List PartValue) (rs : List ℕ) → all_apart row fs ≡ true →
      slice_get fs k ≡ Some f → AllGood n known (row f).parts vs → form_for row fs (part_texts known (row f).parts vs ++ rest_texts known (row f).rest rs) ≡ Some f
  unfolding form_for all_apart
  found_in row [] k f vs rs all e good = cc
  found_in row (g ∷ fs) zero f vs rs all e good =
      let is : g ≡ f = cc in rw (is, does_fit (row f).parts vs (row f).rest rs good) refl
  found_in row (g ∷ fs) (suc k) f vs rs all e good =
      let both = and_parts (list_all (λ h. are_apart (row h) (row g)) fs) (all_apart row fs) all in
      let first : are_apart (row f) (row g) ≡ true = passes (λ h. are_apart (row h) (row g)) fs k f both.0 e in
      rw (cannot_fit (row f).parts vs (row f).rest rs (row g).parts (row g).rest good first) (found_in row fs k f vs rs both.1 e good)

-- a line that begins with another byte is not of the form
other_byte : (ps : List Place) (r : Rest) (ws : List (List ℕ)) → may_begin (first_byte_of ws) ps ≡ false → fits ps r ws ≡ false
unfolding fits
other_byte [] r ws e = cc
other_byte (p ∷ ps) r [] e = refl
other_byte (Word [] ∷ ps) r (w ∷ ws) e = cc
other_byte (Word (c ∷ cs) ∷ ps) r ([] ∷ ws) e = refl
other_byte (Word (c ∷ cs) ∷ ps) r ((b ∷ bs) ∷ ws) e = rw e refl
other_byte (_ ∷ ps) r (w ∷ ws) e = cc

-- the form of a line is found among those that may begin with its first byte
pub found_beginning : {F : Type 0} (row : F → Row) (fs : List F) (ws : List (List ℕ)) →
    form_for row (beginning_with row fs (first_byte_of ws)) ws ≡ form_for row fs ws
unfolding form_for
found_beginning row [] ws = refl
found_beginning {F} row (f ∷ fs) ws =
    cond_both (may_begin (first_byte_of ws) (row f).parts) (f ∷ beginning_with row fs (first_byte_of ws)) (beginning_with row fs (first_byte_of ws))
    (λ gs. form_for row gs ws ≡ (if fits (row f).parts (row f).rest ws then Some f else form_for row fs ws))
    (λ is. rw (found_beginning row fs ws) refl) (λ is. rw (other_byte (row f).parts (row f).rest ws is) (found_beginning row fs ws))
