-- Words that may stand in a line, and lines of them.
use Rattle.line_forms.proofs.Vocabulary.{get_or, ◌&&◌, ℕ, ◌≡◌, ◌+◌, ◌∙◌, eqb, nat_le, Bool, true, false, List, [], ◌∷◌, ◌++◌, length, refl, sym, ap, arith, length-append, append_assoc, is_ascii_digit, All, AllByRecursion, list_all, join_with_byte, and_parts, and_from, nat_tests, list_all-append, slice_split_at, slice_split_none, join_with_byte-slice_split, passes_at, is_name, is_name_byte, is_letter, is_hex_digit, rest_of_line, line_text}
use Rattle.trace_words.specs.Lines.{words_of, is_plain_byte}
use Rattle.std.proofs.lemmas.List.Elements.{All-from_get_or}

-- the bytes of a list are apart from one that fails a test that they pass
pub apart_from : (byte : ℕ) (p : ℕ → Bool) (xs : List ℕ) → ((b : ℕ) → p b ≡ true → eqb b byte ≡ false) → list_all p xs ≡ true →
    All (λ b. eqb b byte ≡ false) xs
apart_from byte p xs apart all = All-from_get_or (λ b. eqb b byte ≡ false) xs 0 (λ i below. apart (get_or xs i 0) (passes_at p xs i all below))

-- the line of words, with single spaces between
abbrev pub line_of : List (List ℕ) → List ℕ
line_of ws = join_with_byte 32 ws

-- the words of a line, and then a line feed
rest_is : (word : List ℕ) (ws : List (List ℕ)) → line_text (word ∷ ws) ≡ line_of (word ∷ ws) ++ 10 ∷ []
unfolding line_text rest_of_line
rest_is word [] = refl
rest_is word (next ∷ ws) =
    ap (λ more. word ++ 32 ∷ more) (rest_is next ws) ∙ sym (append_assoc word (32 ∷ line_of (next ∷ ws)) (10 ∷ []))

-- the text of a line is the line, and then a line feed
pub line_is : (word : List ℕ) (ws : List (List ℕ)) → line_text (word ∷ ws) ≡ line_of (word ∷ ws) ++ 10 ∷ []
line_is word ws = rest_is word ws

-- a word without spaces
abbrev pub IsWord : List ℕ → Type 0
IsWord w = All (λ b. eqb b 32 ≡ false) w

-- a line of words is cut into these words
pub words_again : (word : List ℕ) (ws : List (List ℕ)) → IsWord word → AllByRecursion IsWord ws → words_of (line_of (word ∷ ws)) ≡ word ∷ ws
words_again word [] one all = slice_split_none (λ b. eqb b 32) word one
words_again word (next ∷ ws) one all =
    slice_split_at (λ b. eqb b 32) word 32 (line_of (next ∷ ws)) one refl ∙ ap (λ more. word ∷ more) (words_again next ws all.0 all.1)

-- a line is the line of its words
pub line_again : (line : List ℕ) (ws : List (List ℕ)) → words_of line ≡ ws → line_of ws ≡ line
line_again line ws e = sym (ap line_of e) ∙ join_with_byte-slice_split 32 line

-- a word of a line: no space, all bytes plain
pub record IsPlainWord (w : List ℕ) : Type 0 where
  pub one : IsWord w
  pub plain : list_all is_plain_byte w ≡ true

-- a byte that may stand in a word
abbrev pub is_word_byte : ℕ → Bool
is_word_byte b = nat_le 33 b && nat_le b 126

-- all bytes may
abbrev pub is_plain_word : List ℕ → Bool
is_plain_word w = list_all is_word_byte w

-- what all pass, they pass by a weaker test
pub pass_weaker : (p q : ℕ → Bool) (w : List ℕ) → ((b : ℕ) → p b ≡ true → q b ≡ true) → list_all p w ≡ true → list_all q w ≡ true
pass_weaker p q [] weaker all = refl
pass_weaker p q (b ∷ w) weaker all =
    let both = and_parts (p b) (list_all p w) all in and_from (q b) (list_all q w) (weaker b both.0) (pass_weaker p q w weaker both.1)

word_plain : (b : ℕ) → is_word_byte b ≡ true → is_plain_byte b ≡ true
word_plain b h = grind (arith, nat_tests)

word_apart : (b : ℕ) → is_word_byte b ≡ true → eqb b 32 ≡ false
word_apart b h = grind (arith, nat_tests)

-- a word of such bytes is plain
pub plain_word : (w : List ℕ) → is_plain_word w ≡ true → IsPlainWord w
plain_word w all = record { one = apart_from 32 is_word_byte w word_apart all; plain = pass_weaker is_word_byte is_plain_byte w word_plain all }

-- the bytes of names, numbers and data words
name_byte : (b : ℕ) → is_name_byte b ≡ true → is_word_byte b ≡ true
name_byte b h = grind (arith, nat_tests)

letter_named : (b : ℕ) → is_letter b ≡ true → is_name_byte b ≡ true
letter_named b h = grind (arith, nat_tests)

digit_byte : (b : ℕ) → is_ascii_digit b ≡ true → is_word_byte b ≡ true
digit_byte b h = grind (arith, nat_tests)

hex_byte : (b : ℕ) → is_hex_digit b ≡ true → is_word_byte b ≡ true
hex_byte b h = grind (arith, nat_tests)

-- all bytes of a name
name_bytes : (w : List ℕ) → is_name w ≡ true → list_all is_name_byte w ≡ true
unfolding is_name
name_bytes [] h = cc
name_bytes (b ∷ bs) h =
    let both = and_parts (is_letter b) (list_all is_name_byte bs) h in and_from (is_name_byte b) (list_all is_name_byte bs) (letter_named b both.0) both.1

-- names, numbers and data words are plain words
pub name_plain : (w : List ℕ) → is_name w ≡ true → is_plain_word w ≡ true
name_plain w h = pass_weaker is_name_byte is_word_byte w name_byte (name_bytes w h)

pub digits_plain : (w : List ℕ) → list_all is_ascii_digit w ≡ true → is_plain_word w ≡ true
digits_plain w h = pass_weaker is_ascii_digit is_word_byte w digit_byte h

pub hex_plain : (w : List ℕ) → list_all is_hex_digit w ≡ true → is_plain_word w ≡ true
hex_plain w h = pass_weaker is_hex_digit is_word_byte w hex_byte h

-- words that are plain
abbrev pub ArePlain : List (List ℕ) → Type 0
ArePlain ws = AllByRecursion IsPlainWord ws

-- plain words have no spaces
pub are_words : (ws : List (List ℕ)) → ArePlain ws → AllByRecursion IsWord ws
are_words [] all = tt
are_words (w ∷ ws) all = (all.0.one, are_words ws all.1)

-- the bytes of a line of plain words are plain
pub plain_line : (word : List ℕ) (ws : List (List ℕ)) → IsPlainWord word → ArePlain ws → list_all is_plain_byte (line_of (word ∷ ws)) ≡ true
plain_line word [] one all = one.plain
plain_line word (next ∷ ws) one all =
    list_all-append is_plain_byte word (32 ∷ line_of (next ∷ ws))
    ∙ and_from (list_all is_plain_byte word) (list_all is_plain_byte (line_of (next ∷ ws))) one.plain (plain_line next ws all.0 all.1)

-- the bytes of words, each with the space or the line feed behind it
abbrev pub long : List (List ℕ) → ℕ
long [] = 0
long (w ∷ ws) = length w + 1 + long ws

pub line_long : (w : List ℕ) (ws : List (List ℕ)) → length (line_of (w ∷ ws)) + 1 ≡ long (w ∷ ws)
line_long w [] = omega arith
line_long w (u ∷ ws) = omega (arith, length-append w (32 ∷ line_of (u ∷ ws)), line_long u ws)

pub long_append : (ws us : List (List ℕ)) → long (ws ++ us) ≡ long ws + long us
long_append [] us = omega arith
long_append (w ∷ ws) us = omega (arith, long_append ws us)
