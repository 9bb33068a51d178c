-- What is read is what the words say; a cause is the first that is there.
use Rattle.line_forms.proofs.Vocabulary.{ℕ, ◌≡◌, ◌∙◌, ◌≢◌, ◌<◌, ◌≤◌, ◌^◌, ◌==◌, ◌&&◌, ◌⊎◌, inl, inr, not, nat_le, nat_lt, Bool, true, false, List, [], ◌∷◌, length, drop, get_or, decimal, Option, None, Some, Ok, Err, Result, refl, sym, ap, subst, arith, rules, cond_both, if◌then◌else◌, is_ascii_digit, digit_value, list_all, bytes_eq, digits_value, AllDigits, and_parts, ltb-true, ltb-false, leb-true, le-leb, leb-false, nat_tests, decimal-digits_value, decimal_is_IsNumeral, bytes_eq-Decides, not_from_Decides, is_number, is_data_word, data_word_of, number_digits, Cause, Line, PartValue, Rest, Nothing, Names, Words, rank_of, wrapped, two_of, choices_of, chosen, IsGrammar, Place, Word, Name, NewName, Number, DataWord, FlagWord, Set, Choice, AllOr, AllOrNumber, Row, Naming, or_form, all_text, number_of, word_of, stands_for, all_or_of, read_part, read_parts, each_of, read_rest, read_row, IsDecimal, IsHexadecimal, IsAllOr, Says, SayAll, SayEach, SayRest, SaysLine, IsNoDecimal, IsNoHexadecimal, IsWrong, IsSomeWrong, IsEachWrong, IsRestWrong, IsLineWrong, rows_of, set_from}
use Rattle.std.proofs.lemmas.Str.Parse.{IsNumeralModel, numerals_by_value, tells_digits}
use Rattle.line_forms.specs.declared.cause.Cause.TheVariants as cause
use Rattle.line_forms.specs.declared.part.PartValue.TheVariants as value
use Rattle.line_forms.proofs.Results.{Tells, one_tells, cause_tells, tells_same, wrapped_tells, two_tells, cons_tells, nil_tells, itself, form_tells, told_first, first_told}
use Rattle.line_forms.proofs.ChoicesBack.{choice_says, choice_said, choice_form}
use Rattle.line_forms.proofs.SetsSay.{set_says, set_said, set_form}
use Rattle.line_forms.proofs.WordsBack.{decimal_spelled}

-- all decimal digits
all_digits : (ds : List ℕ) → list_all is_ascii_digit ds ≡ true → AllDigits 10 ds
all_digits [] h = tt
all_digits (d ∷ ds) h =
    let both = and_parts (is_ascii_digit d) (list_all is_ascii_digit ds) h in (digit_below d both.0, all_digits ds both.1)
  where
    digit_below : (b : ℕ) → is_ascii_digit b ≡ true → digit_value b < 10
    digit_below b h = grind (arith, nat_tests)

-- a number has a digit
number_long : (w : List ℕ) → is_number w ≡ true → 0 < length w
unfolding is_number
number_long [] h = cc
number_long (b ∷ bs) h = omega arith

-- a number that begins with 0 is 0
no_zero : (w : List ℕ) → is_number w ≡ true → get_or w 0 0 ≡ 48 → length w ≡ 1
unfolding is_number
no_zero [] h e = cc
no_zero (b ∷ []) h e = refl
no_zero (b ∷ c ∷ bs) h e =
    let both = and_parts (not (b == 48)) (list_all is_ascii_digit (b ∷ c ∷ bs)) h in grind (arith, nat_tests, both.0)

-- a test is not passed and failed
pub either_way : {A : Type 0} (t : Bool) → t ≡ true → t ≡ false → A
either_way true passed failed = cc
either_way false passed failed = cc

-- `form` is the first cause where it is the only one
form_first : (d : Cause) → d ≡ cause.Form → rank_of cause.Form ≤ rank_of d
form_first d is = rw is (omega arith)

-- a number
number_tells : (w : List ℕ) → Tells (number_of w) (λ i. IsDecimal i w) (λ c. IsNoDecimal w c)
unfolding number_of
number_tells w = by_tests (is_number w) (nat_lt (digits_value 10 w) (2 ^ 64)) refl refl
  where
    back : (i : ℕ) → IsDecimal i w → (is_number w ≡ true) × (digits_value 10 w ≡ i)
    back i h = rw (h.1) (decimal_spelled i h.0, (decimal_is_IsNumeral i h.0).1)

    by_tests : (s t : Bool) → is_number w ≡ s → nat_lt (digits_value 10 w) (2 ^ 64) ≡ t →
        Tells (if s then (if t then Ok (digits_value 10 w) else Err cause.Number) else Err cause.Form) (λ i. IsDecimal i w) (λ c. IsNoDecimal w c)
    by_tests true true s t =
        let below : digits_value 10 w < 2 ^ 64 = ltb-true (digits_value 10 w) (2 ^ 64) t in
        let numerals : IsNumeralModel (AllDigits 10) (digits_value 10) = numerals_by_value (AllDigits 10) tells_digits in
        one_tells (digits_value 10 w) (below, sym (decimal-digits_value numerals w (all_digits w (number_digits w s)) (number_long w s) (no_zero w s) below)) (λ i h. (back i h).1)
        (λ c h. elim h [ inl bad ↦ either_way (is_number w) s bad.1 | inr bad ↦ absurd (omega (arith, below, bad.1.1)) ])
    by_tests true false s t =
        let large : 2 ^ 64 ≤ digits_value 10 w = ltb-false (digits_value 10 w) (2 ^ 64) t in
        cause_tells cause.Number (λ i h. absurd (omega (arith, (back i h).1, h.0, large))) (inr (refl, (s, large)))
        (λ d h. elim h [ inl bad ↦ either_way (is_number w) s bad.1 | inr bad ↦ rw (bad.0) (omega arith) ])
    by_tests false t s u =
        cause_tells cause.Form (λ i h. either_way (is_number w) (back i h).0 s) (inl (refl, s))
        (λ d h. elim h [ inl bad ↦ form_first d bad.0 | inr bad ↦ either_way (is_number w) bad.1.0 s ])

-- words that are not the same
pub not_same : (w u : List ℕ) → bytes_eq w u ≡ false → w ≢ u
not_same w u is = not_from_Decides (bytes_eq w u) (bytes_eq-Decides w u) is

-- a word that stands as it is
stands_tells : (t w : List ℕ) → Tells (stands_for t w) (λ v. (w ≡ t) × (v ≡ value.AsItStands)) (λ c. (c ≡ cause.Form) × (w ≢ t))
unfolding stands_for
stands_tells t w =
    cond_both (bytes_eq w t) (Ok value.AsItStands) (Err cause.Form) (λ r. Tells r (λ v. (w ≡ t) × (v ≡ value.AsItStands)) (λ c. (c ≡ cause.Form) × (w ≢ t)))
    (λ is. let same = (bytes_eq-Decides w t).0 is in one_tells value.AsItStands (same, refl) (λ v h. sym h.1) (λ c h. absurd (h.1 same)))
    (λ is. let other = not_same w t is in cause_tells cause.Form (λ v h. other h.0) (refl, other) (λ d h. form_first d h.0))

-- a hexadecimal word
pub hex_tells : (w : List ℕ) → Tells (word_of w) (λ i. IsHexadecimal i w) (λ c. IsNoHexadecimal w c)
unfolding word_of data_word_of
hex_tells w =
    cond_both (is_data_word w) (Some (digits_value 16 w)) None (λ o. Tells (or_form o) (λ i. IsHexadecimal i w) (λ c. IsNoHexadecimal w c))
    (λ is. one_tells (digits_value 16 w) (is, refl) (λ i h. h.1) (λ c h. either_way (is_data_word w) is h.1))
    (λ is. cause_tells cause.Form (λ i h. either_way (is_data_word w) h.0 is) (refl, is) (λ d h. form_first d h.0))

-- all, or the one that a word says
pub all_or_tells : {A : Type 0} (make : Option A → PartValue) (one : List ℕ → Result A Cause) (w : List ℕ) (One : A → List ℕ → Type 0) (Wrong : Cause → Type 0) →
    Tells (one w) (λ i. One i w) Wrong → Tells (all_or_of make one w) (λ v. IsAllOr make One v w) (λ c. (w ≢ all_text) × Wrong c)
unfolding all_or_of
all_or_tells make one w One Wrong t =
    cond_both (bytes_eq w all_text) (Ok (make None)) (wrapped (λ i. make (Some i)) (one w)) (λ r. Tells r (λ v. IsAllOr make One v w) (λ c. (w ≢ all_text) × Wrong c))
    (λ is. let same = (bytes_eq-Decides w all_text).0 is in
    one_tells (make None) (inl (same, refl)) (λ v h. elim h [ inl all ↦ sym all.1 | inr more ↦ absurd (more.0 same) ]) (λ c h. h.0 same))
    (λ is. let other = not_same w all_text is in
    tells_same (wrapped_tells (λ i. make (Some i)) t) (λ v h. inr (other, h)) (λ v h. elim h [ inl all ↦ absurd (other all.0) | inr more ↦ more.1 ])
    (λ c h. (other, h)) (λ c h. h.1))

-- words up to the end of a line
each_tells : (f : List ℕ → Result ℕ Cause) (One : ℕ → List ℕ → Type 0) (Wrong : List ℕ → Cause → Type 0) →
    ((w : List ℕ) → Tells (f w) (λ i. One i w) (λ c. Wrong w c)) → (ws : List (List ℕ)) →
    Tells (each_of f ws) (λ xs. SayEach One xs ws) (λ c. IsEachWrong Wrong ws c)
unfolding each_of
each_tells f One Wrong tells [] = nil_tells (λ xs. SayEach One xs []) tt (λ x xs h. h)
each_tells f One Wrong tells (w ∷ ws) =
    cons_tells (tells w) (each_tells f One Wrong tells ws) (λ xs. SayEach One xs (w ∷ ws)) (λ h. h) (λ x xs h. h) (λ x xs h. h)

-- 1 to 256 words
few_tell : (ws : List (List ℕ)) → Tells (if nat_le 1 (length ws) && nat_le (length ws) 256 then each_of word_of ws else Err cause.Form)
    (λ xs. (1 ≤ length ws) × (length ws ≤ 256) × SayEach IsHexadecimal xs ws)
    (λ c. ((c ≡ cause.Form) × ((length ws ≡ 0) ⊎ (256 < length ws))) ⊎ ((1 ≤ length ws) × (length ws ≤ 256) × IsEachWrong IsNoHexadecimal ws c))
few_tell ws = by_tests (nat_le 1 (length ws)) (nat_le (length ws) 256) refl refl
  where
    by_tests : (a b : Bool) → nat_le 1 (length ws) ≡ a → nat_le (length ws) 256 ≡ b → Tells (if a && b then each_of word_of ws else Err cause.Form)
        (λ xs. (1 ≤ length ws) × (length ws ≤ 256) × SayEach IsHexadecimal xs ws)
        (λ c. ((c ≡ cause.Form) × ((length ws ≡ 0) ⊎ (256 < length ws))) ⊎ ((1 ≤ length ws) × (length ws ≤ 256) × IsEachWrong IsNoHexadecimal ws c))
    by_tests true true some short =
        let least : 1 ≤ length ws = leb-true 1 (length ws) some in
        let most : length ws ≤ 256 = leb-true (length ws) 256 short in
        tells_same (each_tells word_of IsHexadecimal IsNoHexadecimal hex_tells ws) (λ xs h. (least, most, h)) (λ xs h. h.2) (λ c h. inr (least, most, h))
        (λ c h. elim h [ inl bad ↦ absurd (elim bad.1 [ inl few ↦ omega (arith, least, few) | inr long ↦ omega (arith, most, long) ]) | inr more ↦ more.2 ])
    by_tests true false some short =
        let long : 256 < length ws = leb-false (length ws) 256 short in
        cause_tells cause.Form (λ xs h. omega (arith, h.1, long)) (inl (refl, inr long))
        (λ d h. elim h [ inl bad ↦ form_first d bad.0 | inr more ↦ absurd (omega (arith, more.1, long)) ])
    by_tests false b some short =
        let few : length ws < 1 = leb-false 1 (length ws) some in
        cause_tells cause.Form (λ xs h. omega (arith, h.0, few)) (inl (refl, inl (omega (arith, few))))
        (λ d h. elim h [ inl bad ↦ form_first d bad.0 | inr more ↦ absurd (omega (arith, more.0, few)) ])

module _ (n : Naming) where
  -- a part
  pub part_tells : (p : Place) (w : List ℕ) → Tells (read_part n p w) (λ v. Says n p v w) (λ c. IsWrong n p w c)
  part_tells (Word t) w = stands_tells t w
  part_tells (Name k) w = wrapped_tells value.Id (itself (n.number k w))
  part_tells NewName w = wrapped_tells value.NewName (itself (n.fresh w))
  part_tells Number w = wrapped_tells value.Number (number_tells w)
  part_tells DataWord w = wrapped_tells value.Word (hex_tells w)
  part_tells FlagWord w = wrapped_tells value.Word (hex_tells w)
  part_tells (Set s) w = wrapped_tells value.Set (form_tells (set_from (rows_of s) w) (set_says s w) (set_said s w) (set_form s w))
  part_tells (Choice c) w = wrapped_tells value.Chosen (form_tells (or_form (chosen (choices_of c) w)) (choice_says c w) (choice_said c w) (choice_form c w))
  part_tells (AllOr k) w = all_or_tells value.AllOr (n.number k) w (λ i u. n.number k u ≡ Ok i) (λ c. n.number k w ≡ Err c) (itself (n.number k w))
  part_tells AllOrNumber w = all_or_tells value.AllOrNumber number_of w IsDecimal (λ c. IsNoDecimal w c) (number_tells w)

  -- all parts
  parts_tell : (ps : List Place) (ws : List (List ℕ)) → Tells (read_parts n ps ws) (λ vs. SayAll n ps vs ws) (λ c. IsSomeWrong n ps ws c)
  unfolding read_parts
  parts_tell [] ws = nil_tells (λ vs. SayAll n [] vs ws) tt (λ v vs h. h)
  parts_tell (p ∷ ps) [] =
      tells_same (cons_tells missing (parts_tell ps []) (λ vs. ⊥) (λ h. h) (λ v vs h. h.0) (λ v vs h. absurd h)) (λ vs h. h) (λ vs h. h)
      (λ c h. elim h [ inl is ↦ is | inr more ↦ none_form ps c more ]) (λ c h. inl h)
    where
      missing : Tells (Err cause.Form) (λ (v : PartValue). ⊥) (λ c. c ≡ cause.Form)
      missing = cause_tells cause.Form (λ v h. h) refl form_first

      none_form : (ps : List Place) (c : Cause) → IsSomeWrong n ps [] c → c ≡ cause.Form
      none_form [] c h = absurd h
      none_form (q ∷ qs) c h = h
  parts_tell (p ∷ ps) (w ∷ ws) =
      cons_tells (part_tells p w) (parts_tell ps ws) (λ vs. SayAll n (p ∷ ps) vs (w ∷ ws)) (λ h. h) (λ v vs h. h) (λ v vs h. h)

  -- what stands behind them
  pub rest_tells : (r : Rest) (ws : List (List ℕ)) → Tells (read_rest n r ws) (λ xs. SayRest n r xs ws) (λ c. IsRestWrong n r ws c)
  unfolding read_rest
  rest_tells Nothing [] = one_tells [] (refl, refl) (λ xs h. sym h.1) (λ c h. h.1 refl)
  rest_tells Nothing (w ∷ ws) =
      let some : (length (w ∷ ws) == 0) ≡ false = grind (arith, nat_tests) in
      rw some (cause_tells cause.Form (λ xs h. cc (h.0)) (refl, λ no. cc) (λ d h. form_first d h.0))
  rest_tells (Names k) ws = each_tells (n.number k) (λ i w. n.number k w ≡ Ok i) (λ w c. n.number k w ≡ Err c) (λ w. itself (n.number k w)) ws
  rest_tells Words ws = few_tell ws

  -- a line
  line_tells : (row : Row) (ws : List (List ℕ)) → Tells (read_row n row ws) (λ line. SaysLine n row line ws) (λ c. IsLineWrong n row ws c)
  unfolding read_row
  line_tells row ws =
      tells_same (wrapped_tells (λ (v : List PartValue × List ℕ). record { values = v.0; rest = v.1 }) (two_tells (parts_tell row.parts ws) (rest_tells row.rest (drop (length row.parts) ws))))
      (λ line h. rw (h.2) (record { values = h.1.0; rest = h.1.1 })) (λ line h. ((line.values, line.rest), (h.values, h.rest), refl)) (λ c h. h) (λ c h. h)

pub grammar : IsGrammar
grammar = record {
  says = λ n row line ws. (line_tells n row ws).says line;
  said = λ n row line ws. (line_tells n row ws).said line;
  first = λ n row ws c e. record { there = (line_tells n row ws).wrong c e; first = λ d h. told_first (line_tells n row ws) c d e h };
  told = λ n row ws c h. first_told (line_tells n row ws) c h.there h.first;
}
