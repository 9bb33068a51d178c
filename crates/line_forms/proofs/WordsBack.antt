-- A printed word is read as what it was printed from.
use Rattle.line_forms.proofs.Vocabulary.{ℕ, zero, suc, ◌≡◌, ◌∙◌, ◌++◌, ◌<◌, ◌==◌, not, nat_lt, get_or, decimal, subst, lit≤, ◌/◌, ◌%◌, ◌^◌, ◌&&◌, nat_le, Bool, true, false, List, [], ◌∷◌, length, Some, None, Ok, Err, refl, ap, cond_both, arith, length-append, if◌then◌else◌, ◌≤◌, digit_char, is_ascii_digit, digit_value, list_all, list_all-append, digits_value, AllDigits, and_parts, and_from, le-leb, lt-ltb, leb-true, ltb-true, decimal_is_IsNumeral, decimal_digit, first_decimal, take_all, hex_fits, nat_tests, is_number, is_hex_digit, is_data_word, data_word_of, or_form, number_of, word_of, hex_from, hex_word, without_zeros, flag_word}
use Rattle.std.proofs.lemmas.Int.Digits.{digits_value_push}
use Rattle.std.proofs.lemmas.Str.{digit_value-digit_char}
use Rattle.line_forms.specs.declared.cause.Cause.TheVariants as cause

-- one more item that passes
all_push : {A : Type 0} (p : A → Bool) (xs : List A) (x : A) → list_all p xs ≡ true → p x ≡ true → list_all p (xs ++ x ∷ []) ≡ true
all_push p xs x all one = list_all-append p xs (x ∷ []) ∙ and_from (list_all p xs) (p x && true) all (and_from (p x) true one refl)

-- one hexadecimal digit
hex_char : (d : ℕ) → d < 16 → is_hex_digit (digit_char d) ≡ true
hex_char d small = grind (arith, nat_tests)

-- as many digits as are asked for
pub length_hex : (k n : ℕ) → length (hex_from k n) ≡ k
unfolding hex_from
length_hex zero n = refl
length_hex (suc k) n = omega (arith, length-append (hex_from k (n / 16)) (digit_char (n % 16) ∷ []), length_hex k (n / 16))

-- all of them are digits
pub all_hex : (k n : ℕ) → list_all is_hex_digit (hex_from k n) ≡ true
unfolding hex_from
all_hex zero n = refl
all_hex (suc k) n = all_push is_hex_digit (hex_from k (n / 16)) (digit_char (n % 16)) (all_hex k (n / 16)) (hex_char (n % 16) (omega arith))

-- the digits write the number
hex_value : (k n : ℕ) → n < 16 ^ k → digits_value 16 (hex_from k n) ≡ n
unfolding hex_from
hex_value zero n small = omega (arith, small)
hex_value (suc k) n small =
    let next : n / 16 < 16 ^ k = omega (arith, small) in
    let more = digits_value_push 16 (hex_from k (n / 16)) (digit_char (n % 16)) in
    let digit = digit_value-digit_char (n % 16) (omega arith) in
    omega (arith, more, digit, hex_value k (n / 16) next)

-- a data word of eight digits is read as its number
pub word_back : (n : ℕ) → n < 2 ^ 32 → word_of (hex_word n) ≡ Ok n
unfolding word_of data_word_of is_data_word hex_word
word_back n small =
    let long : length (hex_from 8 n) ≡ 8 = length_hex 8 n in
    rw (le-leb 1 (length (hex_from 8 n)) (omega (arith, long)), le-leb (length (hex_from 8 n)) 8 (omega (arith, long)), all_hex 8 n)
    (ap Ok (hex_value 8 n (omega (arith, small))))

-- a digit by its value
digit_is : (b : ℕ) → digit_value b < 10 → is_ascii_digit b ≡ true
digit_is b h = grind (arith, nat_tests)

-- digits by their values
digits_are : (ds : List ℕ) → AllDigits 10 ds → list_all is_ascii_digit ds ≡ true
digits_are [] all = refl
digits_are (d ∷ ds) all = and_from (is_ascii_digit d) (list_all is_ascii_digit ds) (digit_is d all.0) (digits_are ds all.1)

-- digits of which the first is not 0 are a number
leads : (ds : List ℕ) → 48 < get_or ds 0 0 → list_all is_ascii_digit ds ≡ true → is_number ds ≡ true
unfolding is_number
leads [] first all = absurd (omega arith)
leads (b ∷ []) first all = (and_parts (is_ascii_digit b) true all).0
leads (b ∷ c ∷ ds) first all =
    let other : not (b == 48) ≡ true = grind (arith, nat_tests) in
    and_from (not (b == 48)) (list_all is_ascii_digit (b ∷ c ∷ ds)) other all

-- the digits of a number write it
pub decimal_spelled : (n : ℕ) → n < 2 ^ 64 → is_number (decimal n) ≡ true
unfolding is_number
decimal_spelled zero small = rw (decimal_digit 0 (lit≤ tt)) refl
decimal_spelled (suc n) small =
    leads (decimal (suc n)) (first_decimal (suc n) (omega arith) small) (digits_are (decimal (suc n)) (decimal_is_IsNumeral (suc n) small).0.1)

-- a number is read of its digits
pub number_back : (n : ℕ) → n < 2 ^ 64 → number_of (decimal n) ≡ Ok n
unfolding number_of
number_back n small =
    let value : digits_value 10 (decimal n) ≡ n = (decimal_is_IsNumeral n small).1 in
    rw (decimal_spelled n small, value, lt-ltb n (2 ^ 64) small) refl

-- a data word is below 2^32
pub word_small : (w : List ℕ) (n : ℕ) → word_of w ≡ Ok n → n < 2 ^ 32
unfolding word_of data_word_of is_data_word
word_small w n e =
    cond_both (nat_le 1 (length w) && (nat_le (length w) 8 && list_all is_hex_digit w)) (Some (digits_value 16 w)) None (λ o. or_form o ≡ Ok n → n < 2 ^ 32)
    (λ s e. let both = and_parts (nat_le 1 (length w)) (nat_le (length w) 8 && list_all is_hex_digit w) s in
    let more = and_parts (nat_le (length w) 8) (list_all is_hex_digit w) both.1 in
    let fits = hex_fits w (length w) more.1 (leb-true (length w) 8 more.0) in
    let value : digits_value 16 w ≡ n = cc in
    subst (λ m. m < 2 ^ 32) (ap (digits_value 16) (take_all (length w) w (omega arith)) ∙ value) fits)
    (λ s e. cc) e

-- leading zeros write nothing
zeros_value : (ds : List ℕ) → digits_value 16 (without_zeros ds) ≡ digits_value 16 ds
unfolding without_zeros
zeros_value [] = refl
zeros_value (b ∷ ds) =
    cond_both (b == 48 && nat_lt 0 (length ds)) (without_zeros ds) (b ∷ ds) (λ xs. digits_value 16 xs ≡ digits_value 16 (b ∷ ds))
    (λ is. let zero_digit : b ≡ 48 = grind (arith, nat_tests, (and_parts (b == 48) (nat_lt 0 (length ds)) is).0) in rw zero_digit (zeros_value ds)) (λ is. refl)

-- what is left is no longer, not empty, and of the same digits
zeros_fit : (ds : List ℕ) → list_all is_hex_digit ds ≡ true → 1 ≤ length ds →
    (1 ≤ length (without_zeros ds)) × (length (without_zeros ds) ≤ length ds) × (list_all is_hex_digit (without_zeros ds) ≡ true)
unfolding without_zeros
zeros_fit [] all some = absurd (omega (arith, some))
zeros_fit (b ∷ ds) all some =
    cond_both (b == 48 && nat_lt 0 (length ds)) (without_zeros ds) (b ∷ ds)
    (λ xs. (1 ≤ length xs) × (length xs ≤ length (b ∷ ds)) × (list_all is_hex_digit xs ≡ true))
    (λ is. let long : 0 < length ds = ltb-true 0 (length ds) (and_parts (b == 48) (nat_lt 0 (length ds)) is).1 in
    let more = zeros_fit ds (and_parts (is_hex_digit b) (list_all is_hex_digit ds) all).1 long in (more.0, omega (arith, more.1), more.2))
    (λ is. (omega arith, omega arith, all))

-- a flag word is read as its number
pub flag_back : (n : ℕ) → n < 2 ^ 32 → word_of (flag_word n) ≡ Ok n
unfolding word_of data_word_of is_data_word flag_word hex_word
flag_back n small =
    let long : length (hex_from 8 n) ≡ 8 = length_hex 8 n in
    let fit = zeros_fit (hex_from 8 n) (all_hex 8 n) (omega (arith, long)) in
    let value : digits_value 16 (without_zeros (hex_from 8 n)) ≡ n = zeros_value (hex_from 8 n) ∙ hex_value 8 n (omega (arith, small)) in
    rw (le-leb 1 (length (without_zeros (hex_from 8 n))) fit.0, le-leb (length (without_zeros (hex_from 8 n))) 8 (omega (arith, fit.1, long)), fit.2)
    (ap Ok value)
