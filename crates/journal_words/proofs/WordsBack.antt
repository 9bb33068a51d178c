-- A printed word is read as what it was printed from.
use Rattle.std.proofs.Common.{ℕ, ◌≡◌, ◌<◌, ◌==◌, ◌^◌, ◌&&◌, Bool, true, false, List, [], ◌∷◌, ◌++◌, Option, Some, None, Ok, codes, decimal, arith, refl, subst}
use Rattle.std.specs.List.{list_all}
use Rattle.std.specs.Char.{is_ascii_digit}
use Rattle.std.specs.Str.{bytes_eq}
use Rattle.std.proofs.lemmas.Bool.{and_parts, lt-ltb}
use Rattle.std.proofs.lemmas.Bool.Decides.{nat_tests}
use Rattle.std.proofs.lemmas.Slice.Eq.{bytes_eq-Decides}
use Rattle.dx_base.specs.declared.kinds.Class.{Class}
use Rattle.dx_base.specs.declared.kinds.Class.TheVariants as class
use Rattle.dx_base.specs.declared.kinds.Home.{Home}
use Rattle.dx_base.specs.declared.kinds.Home.TheVariants as home
use Rattle.dx_base.specs.declared.kinds.Routine.{Routine}
use Rattle.dx_base.specs.declared.kinds.Routine.TheVariants as routine
use Rattle.line_forms.specs.Causes.{two_of}
use Rattle.line_forms.specs.Reading.{all_text, or_form}
use Rattle.line_forms.proofs.WordsBack.{decimal_spelled, number_back, word_back}
use Rattle.trace_words.specs.Rows.{row_of}
use Rattle.trace_words.proofs.Digits.{number_digits}
use Rattle.vk_types.specs.declared.layouts.VkLayout.{VkLayout}
use Rattle.vk_types.specs.declared.layouts.VkLayout.TheVariants as layout
use Rattle.vk_types.specs.declared.registers.Count.{Count}
use Rattle.vk_types.specs.declared.registers.Count.TheVariants as count
use Rattle.vk_types.specs.declared.registers.Register.{Register}
use Rattle.vk_types.specs.declared.registers.Register.TheVariants as register
use Rattle.journal_words.specs.Fields.{count_by, count_of, keyed_count, keyed_register, lone_register, pair_of, place_of, register_of, triple_of}
use Rattle.journal_words.specs.LineWords.{all_or_number_of}
use Rattle.journal_words.specs.PrintedWords.{count_word, pair_word, register_word, sub_word}
use Rattle.journal_words.specs.SoundWords.{is_narrow, is_sound_count, is_sound_register, is_sound_sub}
use Rattle.journal_words.specs.Tables.{class_word, classes, home_word, homes, layout_word, layouts, routine_rows, routine_word}
use Rattle.journal_words.specs.Words.{cut_at, narrow_of}

-- a number below 2^32
pub narrow_back : (n : ℕ) → n < 2 ^ 32 → narrow_of (decimal n) ≡ Ok n
unfolding narrow_of
narrow_back n small =
    let wide : n < 2 ^ 64 = omega (arith, small) in
    rw (number_back n wide, lt-ltb n (2 ^ 32) small) refl

-- words of tables
pub layout_back : (l : VkLayout) → or_form (row_of layouts (layout_word l)) ≡ Ok l
unfolding row_of
layout_back layout.Undefined = refl
layout_back layout.General = refl
layout_back layout.ShaderReadOnlyOptimal = refl
layout_back layout.TransferSrcOptimal = refl
layout_back layout.TransferDstOptimal = refl

pub home_back : (h : Home) → or_form (row_of homes (home_word h)) ≡ Ok h
unfolding row_of
home_back home.Upload = refl
home_back home.Readback = refl
home_back home.Legacy = refl
home_back home.Enhanced = refl

pub class_back : (c : Class) → or_form (row_of classes (class_word c)) ≡ Ok c
unfolding row_of
class_back class.Cbv = refl
class_back class.Srv = refl
class_back class.Uav = refl

pub routine_back : (r : Routine) → or_form (row_of routine_rows (routine_word r)) ≡ Ok r
unfolding row_of
routine_back routine.Fill = refl
routine_back routine.Move = refl
routine_back routine.Add = refl
routine_back routine.Mul = refl
routine_back routine.Gather = refl
routine_back routine.Scatter = refl
routine_back routine.Sums = refl
routine_back routine.Histogram = refl

-- digits have no colon
digit_no_colon : (b : ℕ) → is_ascii_digit b ≡ true → (b == 58) ≡ false
digit_no_colon b h = grind (arith, nat_tests)

-- a text of digits is cut at the colon behind it, and not at all where there is none
cut_digits : (ds rest : List ℕ) → list_all is_ascii_digit ds ≡ true → cut_at 58 (ds ++ 58 ∷ rest) ≡ Some (ds, rest)
unfolding cut_at
cut_digits [] rest h = refl
cut_digits (d ∷ ds) rest h =
    let both = and_parts (is_ascii_digit d) (list_all is_ascii_digit ds) h in
    rw (digit_no_colon d both.0, cut_digits ds rest both.1) refl

uncut_digits : (ds : List ℕ) → list_all is_ascii_digit ds ≡ true → cut_at 58 ds ≡ None
unfolding cut_at
uncut_digits [] h = refl
uncut_digits (d ∷ ds) h =
    let both = and_parts (is_ascii_digit d) (list_all is_ascii_digit ds) h in
    rw (digit_no_colon d both.0, uncut_digits ds both.1) refl

-- the digits of a number
pub decimal_digits : (n : ℕ) → n < 2 ^ 64 → list_all is_ascii_digit (decimal n) ≡ true
decimal_digits n small = number_digits (decimal n) (decimal_spelled n small)

pub cut_number : (n : ℕ) (rest : List ℕ) → n < 2 ^ 64 → cut_at 58 (decimal n ++ 58 ∷ rest) ≡ Some (decimal n, rest)
cut_number n rest small = cut_digits (decimal n) rest (decimal_digits n small)

-- words of two and three numbers
pub pair_back : (t v : ℕ) → t < 2 ^ 32 → v < 2 ^ 64 → pair_of (pair_word (t, v)) ≡ Ok (t, v)
unfolding pair_of two_of
pair_back t v small wide =
    rw (cut_number t (decimal v) (omega (arith, small)), narrow_back t small, number_back v wide) refl

place_back : (m n : ℕ) → m < 2 ^ 32 → n < 2 ^ 32 → place_of (pair_word (m, n)) ≡ Ok (m, n)
unfolding place_of two_of
place_back m n one other =
    rw (cut_number m (decimal n) (omega (arith, one)), narrow_back m one, narrow_back n other) refl

triple_back : (k m n : ℕ) → k < 2 ^ 32 → m < 2 ^ 32 → n < 2 ^ 32 → triple_of (decimal k ++ 58 ∷ pair_word (m, n)) ≡ Ok (k, (m, n))
unfolding triple_of two_of
triple_back k m n first one other =
    rw (cut_number k (pair_word (m, n)) (omega (arith, first)), narrow_back k first, place_back m n one other) refl

-- a number that passes the test
pub narrow_is : (n : ℕ) → is_narrow n ≡ true → n < 2 ^ 32
narrow_is n h = grind (arith, nat_tests)

-- registers
pub register_back : (r : Register) → is_sound_register r ≡ true → register_of (register_word r) ≡ Ok r
unfolding register_of keyed_register lone_register cut_at
register_back register.Unbound h = refl
register_back (register.Constant word) h = rw (word_back word (narrow_is word h)) refl
register_back (register.Root buffer first) h =
    let both = and_parts (is_narrow buffer) (is_narrow first) h in
    rw (place_back buffer first (narrow_is buffer both.0) (narrow_is first both.1)) refl
register_back (register.Fixed view) h = rw (narrow_back view (narrow_is view h)) refl
register_back (register.Slot heap slot) h =
    let both = and_parts (is_narrow heap) (is_narrow slot) h in
    rw (place_back heap slot (narrow_is heap both.0) (narrow_is slot both.1)) refl

-- counts
pub count_back : (c : Count) → is_sound_count c ≡ true → count_of (count_word c) ≡ Ok c
unfolding count_of keyed_count cut_at
count_back (count.Number n) h =
    let small = narrow_is n h in
    rw (uncut_digits (decimal n) (decimal_digits n (omega (arith, small))), narrow_back n small) refl
count_back (count.Word buffer word most) h =
    let both = and_parts (is_narrow buffer) (is_narrow word && is_narrow most) h in
    let more = and_parts (is_narrow word) (is_narrow most) both.1 in
    keyed (cut_at 58 (count_word (count.Word buffer word most))) refl
    (triple_back buffer word most (narrow_is buffer both.0) (narrow_is word more.0) (narrow_is most more.1))
  where
    keyed : (found : Option (List ℕ × List ℕ)) → Some (codes "b", decimal buffer ++ 58 ∷ pair_word (word, most)) ≡ found →
        triple_of (decimal buffer ++ 58 ∷ pair_word (word, most)) ≡ Ok (buffer, (word, most)) →
        count_by (count_word (count.Word buffer word most)) found ≡ Ok (count.Word buffer word most)
    keyed None e back = cc
    keyed (Some p) e back = cc

-- a number is not the word that means all
not_all : (n : ℕ) → n < 2 ^ 64 → bytes_eq (decimal n) all_text ≡ false
not_all n small = by_test (bytes_eq (decimal n) all_text) refl
  where
    by_test : (t : Bool) → bytes_eq (decimal n) all_text ≡ t → t ≡ false
    by_test false e = refl
    by_test true e =
        let same : decimal n ≡ all_text = (bytes_eq-Decides (decimal n) all_text).0 e in
        let digits : list_all is_ascii_digit all_text ≡ true = subst (λ w. list_all is_ascii_digit w ≡ true) same (decimal_digits n small) in
        cc

-- a subresource, or all
pub sub_back : (sub : Option ℕ) → is_sound_sub sub ≡ true → all_or_number_of (sub_word sub) ≡ Ok sub
unfolding all_or_number_of
sub_back None h = refl
sub_back (Some sub) h =
    let small = narrow_is sub h in
    rw (not_all sub (omega (arith, small)), narrow_back sub small) refl
