-- The values of digits, one more digit at a time.
use Rattle.std.proofs.Common.{ℕ, ◌≡◌, ◌==◌, ◌&&◌, not, refl, ◌+◌, ◌*◌, ◌^◌, ◌<◌, ◌≤◌, Bool, true, false, List, [], ◌∷◌, length, take, get_or, nat_lt, arith, lit≤}
use Rattle.std.specs.Char.{is_ascii_digit, digit_value}
use Rattle.std.specs.List.{list_all}
use Rattle.std.specs.Str.Parse.{digits_value, AllDigits}
use Rattle.std.proofs.Math.Nat.{pow-le-pow_right}
use Rattle.std.proofs.lemmas.Bool.{and_parts}
use Rattle.std.proofs.lemmas.Bool.Decides.{nat_tests}
use Rattle.std.proofs.lemmas.Int.Digits.{digits_value_more, digits_value-lt}
use Rattle.std.proofs.lemmas.List.Elements.{All-get_or}
use Rattle.std.proofs.lemmas.List.Sums.{AllPass-from_list_all}
use Rattle.std.proofs.lemmas.Str.Parse.{digits_value-take-le}
use Rattle.trace_words.specs.Words.{is_hex_digit, is_number}

-- what all items pass, the item of a place passes
pub passes_at : (p : ℕ → Bool) (xs : List ℕ) (i : ℕ) → list_all p xs ≡ true → i < length xs → p (get_or xs i 0) ≡ true
passes_at p xs i all h = All-get_or (λ x. p x ≡ true) xs i 0 h (AllPass-from_list_all p xs all)

-- decimal digits are too many for 64 bits where their first are, with one more digit
pub decimal_over : (ds : List ℕ) (i v : ℕ) → i < length ds → v ≡ digits_value 10 (take i ds) →
    2 ^ 64 ≤ v * 10 + digit_value (get_or ds i 0) → nat_lt (digits_value 10 ds) (2 ^ 64) ≡ false
decimal_over ds i v h is over =
    let more = digits_value_more 10 ds i h in
    let below = digits_value-take-le 10 ds (i + 1) (lit≤ tt) in
    let large : 2 ^ 64 ≤ digits_value 10 ds = omega (arith, more, below, is, over) in
    grind (arith, nat_tests)

hex_digit_below : (b : ℕ) → is_hex_digit b ≡ true → digit_value b < 16
hex_digit_below b h = grind (arith, nat_tests)

all_hex : (ds : List ℕ) → list_all is_hex_digit ds ≡ true → AllDigits 16 ds
all_hex [] h = tt
all_hex (d ∷ ds) h =
    let both : (is_hex_digit d ≡ true) × (list_all is_hex_digit ds ≡ true) = and_parts (is_hex_digit d) (list_all is_hex_digit ds) h in
    (hex_digit_below d both.0, all_hex ds both.1)

-- at most eight hexadecimal digits fit 32 bits, and so do their first ones
pub hex_fits : (ds : List ℕ) (i : ℕ) → list_all is_hex_digit ds ≡ true → length ds ≤ 8 → digits_value 16 (take i ds) < 2 ^ 32
hex_fits ds i all short =
    let below = digits_value-take-le 16 ds i (lit≤ tt) in
    let bound = digits_value-lt 16 ds (all_hex ds all) in
    let most : 16 ^ length ds ≤ 16 ^ 8 = pow-le-pow_right (lit≤ tt) short in
    omega (arith, below, bound, most)

and_true : (a : Bool) → a ≡ true → a && true ≡ true
and_true a h = rw h refl

-- a number is of decimal digits
pub number_digits : (word : List ℕ) → is_number word ≡ true → list_all is_ascii_digit word ≡ true
unfolding is_number
number_digits [] h = cc
number_digits (b ∷ []) h = and_true (is_ascii_digit b) h
number_digits (b ∷ c ∷ bs) h = (and_parts (not (b == 48)) (list_all is_ascii_digit (b ∷ c ∷ bs)) h).1
