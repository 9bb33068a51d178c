-- Printed lines: their words are plain, and they are short.
use Rattle.line_forms.proofs.Vocabulary.{ℕ, suc, ◌≡◌, ◌∙◌, ◌+◌, ◌*◌, ◌-◌, ◌<◌, ◌≤◌, ◌&&◌, ◌||◌, ◌⊎◌, inl, inr, nat_le, Bool, true, false, List, [], ◌∷◌, ◌++◌, length, map, drop, decimal, Ok, refl, sym, ap, subst, arith, lit≤, list_all, and_parts, leb-true, or_cases, length-decimal-le, length-map, is_name, is_hex_digit, is_data_word, number_digits, Choices, Line, Kind, PartValue, Rest, Nothing, Names, Words, SetOf, choices_of, choice_text, AllGood, IsGoodLine, AreNamed, hex_word, hex_from, Place, Word, Name, NewName, Number, DataWord, FlagWord, Set, Choice, AllOr, AllOrNumber, Row, Known, part_text, part_texts, rest_texts, line_words, Naming, read_part, read_rest, read_row, IsDecimal, Says, SayEach, SayRest, IsHexadecimal, rows_of, set_text}
use Rattle.line_forms.specs.declared.choice.Choices.TheVariants as choices
use Rattle.line_forms.specs.declared.sets.SetOf.TheVariants as set
use Rattle.line_forms.proofs.Good.{is_kept, line_kept, reads_again}
use Rattle.line_forms.proofs.Grammar.{part_tells, rest_tells}
use Rattle.line_forms.proofs.PlainWords.{is_plain_word, ArePlain, plain_word, name_plain, digits_plain, hex_plain, line_of, long, line_long, long_append}
use Rattle.line_forms.proofs.SetsBack.{below, each_below, set_fits}
use Rattle.line_forms.proofs.SetsSay.{among_pass, set_said}
use Rattle.line_forms.proofs.WordsBack.{length_hex, all_hex, decimal_spelled}

-- how long the word of a part is at most
abbrev pub bound : Place → ℕ
bound (Word t) = length t
bound Number = 20
bound DataWord = 8
bound FlagWord = 8
bound (Set s) = 128
bound AllOrNumber = 20
bound _ = 32

-- the words that stand as they are, are plain
abbrev pub is_plain_part : Place → Bool
is_plain_part (Word t) = is_plain_word t
is_plain_part _ = true

-- a word that is plain and not too long
abbrev pub is_short_word : ℕ → List ℕ → Bool
is_short_word most w = is_plain_word w && nat_le (length w) most

pub record IsShortWord (most : ℕ) (w : List ℕ) : Type 0 where
  pub plain : is_plain_word w ≡ true
  pub short : length w ≤ most

short_word : (most : ℕ) (w : List ℕ) → is_short_word most w ≡ true → IsShortWord most w
short_word most w h =
    let both = and_parts (is_plain_word w) (nat_le (length w) most) h in record { plain = both.0; short = leb-true (length w) most both.1 }

-- the texts of sets
is_short_set : SetOf → ℕ → Bool
is_short_set k s = is_short_word 128 (set_text (rows_of k) (s + 1) false)

all_short : (k : SetOf) → list_all (is_short_set k) (below 127) ≡ true
unfolding below is_short_set set_text
all_short set.Sync = refl
all_short _ = refl

set_short : (k : SetOf) (s : ℕ) → 0 < s → s < 128 → IsShortWord 128 (set_text (rows_of k) s false)
unfolding is_short_set
set_short k s some small =
    let next : (s - 1) + 1 ≡ s = omega (arith, some) in
    subst (λ x. IsShortWord 128 (set_text (rows_of k) x false)) next
    (short_word 128 (set_text (rows_of k) ((s - 1) + 1) false) (each_below (is_short_set k) 127 (s - 1) (all_short k) (omega (arith, some, small))))

-- the words of choices
choices_short : (k : Choices) → list_all (λ c. is_short_word 32 (choice_text c)) (choices_of k) ≡ true
choices_short choices.Type = refl
choices_short _ = refl

-- a number is short
number_short : (w : List ℕ) (i : ℕ) → IsDecimal i w → IsShortWord 20 w
number_short w i h =
    let long = length-decimal-le 20 i (lit≤ tt) (omega (arith, h.0)) h.0 in
    let digits = digits_plain (decimal i) (number_digits (decimal i) (decimal_spelled i h.0)) in
    subst (IsShortWord 20) (sym h.1) (record { plain = digits; short = omega (arith, long) })

-- a hexadecimal word is short
hex_short : (w : List ℕ) (i : ℕ) → IsHexadecimal i w → IsShortWord 8 w
unfolding is_data_word
hex_short w i h =
    let first = and_parts (nat_le 1 (length w)) (nat_le (length w) 8 && list_all is_hex_digit w) h.0 in
    let second = and_parts (nat_le (length w) 8) (list_all is_hex_digit w) first.1 in
    record { plain = hex_plain w second.1; short = leb-true (length w) 8 second.0 }

-- names are spelled well, and short
pub record AreShortNames (n : Naming) : Type 0 where
  pub things : (k : Kind) (w : List ℕ) (i : ℕ) → n.number k w ≡ Ok i → (is_name w ≡ true) × (length w ≤ 32)
  pub new : (w m : List ℕ) → n.fresh w ≡ Ok m → (is_name w ≡ true) × (length w ≤ 32)

name_short : (w : List ℕ) → (is_name w ≡ true) × (length w ≤ 32) → IsShortWord 32 w
name_short w h = record { plain = name_plain w h.0; short = h.1 }

module _ (n : Naming) (known : Known) (names : AreShortNames n) where
  -- the word of a part is plain and short, where it says the value
  said_short : (p : Place) (v : PartValue) (w : List ℕ) → is_plain_part p ≡ true → w ≡ part_text known p v → Says n p v w → IsShortWord (bound p) w
  said_short (Word t) v w lit is h = subst (IsShortWord (length t)) (sym h.0) (record { plain = lit; short = omega arith })
  said_short (Name k) v w lit is h = name_short w (names.things k w h.0 h.1)
  said_short NewName v w lit is h = name_short w (names.new w h.0 h.1)
  said_short Number v w lit is h = number_short w h.0 h.1
  said_short DataWord v w lit is h = hex_short w h.0 h.1
  said_short FlagWord v w lit is h = hex_short w h.0 h.1
  said_short (Set s) v w lit is h = let fit = set_fits s w h.0 (set_said s w h.0 h.1) in rw (is, h.2) (set_short s h.0 fit.0 fit.1)
  said_short (Choice c) v w lit is h =
      subst (IsShortWord 32) (sym h.1.0)
      (short_word 32 (choice_text h.0) (among_pass (λ i. is_short_word 32 (choice_text i)) (choices_of c) h.0 (choices_short c) h.1.1))
  said_short (AllOr k) v w lit is (inl h) = subst (IsShortWord 32) (sym h.0) (record { plain = refl; short = lit≤ tt })
  said_short (AllOr k) v w lit is (inr h) = name_short w (names.things k w h.1.0 h.1.1)
  said_short AllOrNumber v w lit is (inl h) = subst (IsShortWord 20) (sym h.0) (record { plain = refl; short = lit≤ tt })
  said_short AllOrNumber v w lit is (inr h) = number_short w h.1.0 h.1.1

  part_short : (p : Place) (v : PartValue) → is_plain_part p ≡ true → read_part n p (part_text known p v) ≡ Ok v → IsShortWord (bound p) (part_text known p v)
  part_short p v lit e = said_short p v (part_text known p v) lit refl ((part_tells n p (part_text known p v)).says v e)

  parts_plain : (ps : List Place) (vs : List PartValue) → list_all is_plain_part ps ≡ true → AllGood n known ps vs → ArePlain (part_texts known ps vs)
  unfolding part_texts
  parts_plain [] [] lit good = tt
  parts_plain (p ∷ ps) (v ∷ vs) lit good =
      let both = and_parts (is_plain_part p) (list_all is_plain_part ps) lit in
      (plain_word (part_text known p v) (part_short p v both.0 good.0.reads).plain, parts_plain ps vs both.1 good.1)
  parts_plain _ _ lit good = absurd good

  -- words up to the end of a line
  each_plain : (k : Kind) (xs : List ℕ) (ws : List (List ℕ)) → SayEach (λ i w. n.number k w ≡ Ok i) xs ws → ArePlain ws
  each_plain k [] [] h = tt
  each_plain k (x ∷ xs) (w ∷ ws) h = (plain_word w (name_plain w (names.things k w x h.0).0), each_plain k xs ws h.1)
  each_plain k _ _ h = absurd h

  hexes_plain : (xs : List ℕ) → ArePlain (map hex_word xs)
  unfolding hex_word
  hexes_plain [] = tt
  hexes_plain (x ∷ xs) = (plain_word (hex_from 8 x) (hex_plain (hex_from 8 x) (all_hex 8 x)), hexes_plain xs)

  rest_plain : (r : Rest) (xs : List ℕ) → read_rest n r (rest_texts known r xs) ≡ Ok xs → ArePlain (rest_texts known r xs)
  unfolding read_rest rest_texts
  rest_plain Nothing xs e = tt
  rest_plain (Names k) xs e = each_plain k xs (map (known k) xs) ((rest_tells n (Names k) (map (known k) xs)).says xs e)
  rest_plain Words xs e = hexes_plain xs

  -- the words of a good line are plain
  pub line_plain : (row : Row) (line : Line) → list_all is_plain_part row.parts ≡ true → IsGoodLine n known row line → ArePlain (line_words known row line)
  unfolding line_words
  line_plain row line lit good =
      plain_join (part_texts known row.parts line.values) (rest_texts known row.rest line.rest) (parts_plain row.parts line.values lit good.values)
      (rest_plain row.rest line.rest good.rest)
    where
      plain_join : (ws us : List (List ℕ)) → ArePlain ws → ArePlain us → ArePlain (ws ++ us)
      plain_join [] us a b = b
      plain_join (w ∷ ws) us a b = (a.0, plain_join ws us a.1 b)

-- the words of a line are short, all together
abbrev pub bounds : List Place → ℕ
bounds [] = 0
bounds (p ∷ ps) = bound p + 1 + bounds ps

abbrev pub is_bounded_rest : Rest → ℕ → Bool
is_bounded_rest Nothing m = nat_le m 4097
is_bounded_rest (Names k) m = false
is_bounded_rest Words m = nat_le m 1793

abbrev pub is_bounded : Row → Bool
is_bounded row = is_bounded_rest row.rest (bounds row.parts)

module _ (n : Naming) (known : Known) (names : AreShortNames n) where
  parts_long : (ps : List Place) (vs : List PartValue) → list_all is_plain_part ps ≡ true → AllGood n known ps vs → long (part_texts known ps vs) ≤ bounds ps
  unfolding part_texts
  parts_long [] [] lit good = omega arith
  parts_long (p ∷ ps) (v ∷ vs) lit good =
      let both = and_parts (is_plain_part p) (list_all is_plain_part ps) lit in
      omega (arith, (part_short n known names p v both.0 good.0.reads).short, parts_long ps vs both.1 good.1)
  parts_long _ _ lit good = absurd good

  hexes_long : (xs : List ℕ) → long (map hex_word xs) ≡ 9 * length xs
  unfolding hex_word
  hexes_long [] = refl
  hexes_long (x ∷ xs) = omega (arith, length_hex 8 x, hexes_long xs)

  -- a line whose words are bounded is short
  pub bounded_short : (row : Row) (line : Line) → list_all is_plain_part row.parts ≡ true → is_bounded row ≡ true → IsGoodLine n known row line →
      length (line_of (line_words known row line)) ≤ 4096
  unfolding line_words rest_texts
  bounded_short row line lit few good =
      by_long (line_words known row line)
      (by_rest row.rest line.rest (part_texts known row.parts line.values) (bounds row.parts) (parts_long row.parts line.values lit good.values) few
      ((rest_tells n row.rest (rest_texts known row.rest line.rest)).says line.rest good.rest))
    where
      by_long : (us : List (List ℕ)) → long us ≤ 4097 → length (line_of us) ≤ 4096
      by_long [] h = lit≤ tt
      by_long (u ∷ us) h = omega (arith, line_long u us, h)

      by_rest : (r : Rest) (xs : List ℕ) (ts : List (List ℕ)) (m : ℕ) → long ts ≤ m → is_bounded_rest r m ≡ true → SayRest n r xs (rest_texts known r xs) →
          long (ts ++ rest_texts known r xs) ≤ 4097
      by_rest Nothing xs ts m front few says = omega (arith, long_append ts [], front, leb-true m 4097 few)
      by_rest (Names k) xs ts m front few says = cc
      by_rest Words xs ts m front few says =
          omega (arith, long_append ts (map hex_word xs), hexes_long xs, front, leb-true m 1793 few, says.1, length-map xs hex_word)

  -- a line that was read is printed short
  pub line_short : AreNamed n known → (row : Row) (ws : List (List ℕ)) (line : Line) → list_all is_plain_part row.parts ≡ true →
      (is_kept row || is_bounded row) ≡ true → read_row n row ws ≡ Ok line → length (line_of ws) ≤ 4096 → length (line_of (line_words known row line)) ≤ 4096
  line_short named row ws line lit either e short = elim (or_cases (is_kept row) (is_bounded row) either) [
    | inl kept ↦ rw (line_kept n known named row line ws kept e) short
    | inr few ↦ bounded_short row line lit few (reads_again.good n known named row ws line e)
  ]
