-- A printed set is read as what it was printed from: each of the sets is tried.
use Rattle.line_forms.proofs.Vocabulary.{ℕ, zero, suc, ◌≡◌, ◌<◌, ◌^◌, ◌==◌, ◌+◌, ◌-◌, bit_and, bit_or, Bool, true, false, List, [], ◌∷◌, length, Option, Some, None, Result, Ok, Err, refl, subst, cond_both, rules, arith, lit≤, if◌then◌else◌, list_all, AllByRecursion, bytes_eq, Cause, SetOf, rows_of, with_bit, set_in, set_from, set_text, row_of, pieces_at, and_parts, nat_tests, length-slice_split, or_lt, le_or_r}
use Rattle.line_forms.specs.declared.cause.Cause.TheVariants as cause
use Rattle.line_forms.specs.declared.sets.SetOf.TheVariants as set

-- the numbers below another
unfoldable pub below : ℕ → List ℕ
below zero = []
below (suc k) = k ∷ below k

-- what holds of all of them holds of each
pub each_below : (P : ℕ → Bool) (k s : ℕ) → list_all P (below k) ≡ true → s < k → P s ≡ true
unfolding below
each_below P zero s all small = absurd (omega arith)
each_below P (suc k) s all small =
    let both = and_parts (P k) (list_all P (below k)) all in by_place (s == k) refl both.0 (each_below P k s both.1)
  where
    by_place : (t : Bool) → (s == k) ≡ t → P k ≡ true → (s < k → P s ≡ true) → P s ≡ true
    by_place true is here others = let same : s ≡ k = grind (arith, nat_tests) in rw same here
    by_place false is here others = others (grind (arith, nat_tests))

reads_as : Result ℕ Cause → ℕ → Bool
reads_as (Ok n) s = n == s
reads_as (Err e) s = false

reads_so : (r : Result ℕ Cause) (s : ℕ) → reads_as r s ≡ true → r ≡ Ok s
unfolding reads_as
reads_so (Ok n) s e = let same : n ≡ s = grind (arith, nat_tests) in rw same refl
reads_so (Err c) s e = cc

-- each set but the empty one is read of its text
is_back : SetOf → ℕ → Bool
is_back k s = reads_as (set_from (rows_of k) (set_text (rows_of k) (s + 1) false)) (s + 1)

all_back : (k : SetOf) → list_all (is_back k) (below 127) ≡ true
unfolding below is_back reads_as set_from set_in set_text row_of
all_back set.Sync = refl
all_back _ = refl

-- a set of known names that is not empty is read of its text
pub set_back : (k : SetOf) (s : ℕ) → 0 < s → s < 128 → set_from (rows_of k) (set_text (rows_of k) s false) ≡ Ok s
unfolding is_back
set_back k s some small =
    let next : (s - 1) + 1 ≡ s = omega (arith, some) in
    let back = reads_so (set_from (rows_of k) (set_text (rows_of k) ((s - 1) + 1) false)) ((s - 1) + 1)
    (each_below (is_back k) 127 (s - 1) (all_back k) (omega (arith, some, small))) in
    subst (λ x. set_from (rows_of k) (set_text (rows_of k) x false) ≡ Ok x) next back

-- what holds of each row holds of what is found
rows_pass : {T : Type 0} (P : T → Type 0) (rows : List (List ℕ × T)) → AllByRecursion (λ row. P row.1) rows → (w : List ℕ) (x : T) →
    row_of rows w ≡ Some x → P x
unfolding row_of
rows_pass P [] all w x e = cc
rows_pass {T} P (row ∷ rows) all w x e =
    cond_both (bytes_eq w row.0) (Some row.1) (row_of rows w) (λ o. o ≡ Some x → P x)
    (λ is e. let value : row.1 ≡ x = cc in subst P value all.0) (λ is e. rows_pass P rows all.1 w x e) e

-- a bit of the table
pub record IsBit (b : ℕ) : Type 0 where
  pub some : 0 < b
  pub small : b < 2 ^ 7

-- a set that was read
pub record IsSet (some : Bool) (s : ℕ) : Type 0 where
  pub small : s < 2 ^ 7
  pub filled : some ≡ true → 0 < s

unfoldable pub is_some_list : {A : Type 0} → List A → Bool
is_some_list [] = false
is_some_list (x ∷ xs) = true

sets_fit : (rows : List (List ℕ × ℕ)) → AllByRecursion (λ row. IsBit row.1) rows → (ws : List (List ℕ)) (s : ℕ) → set_in rows ws ≡ Ok s → IsSet (is_some_list ws) s
unfolding set_in is_some_list
sets_fit rows all [] s e = let same : 0 ≡ s = cc in record { small = rw (← same) (lit≤ tt); filled = λ h. cc }
sets_fit rows all (w ∷ ws) s e = by_row (row_of rows w) (set_in rows ws) refl (sets_fit rows all ws) e
  where
    joins : (b t : ℕ) → IsBit b → t < 2 ^ 7 → (test : Bool) → (if test then Ok (bit_or t b) else Err cause.Form) ≡ Ok s → IsSet true s
    joins b t bit small true e =
        let same : bit_or t b ≡ s = cc in
        subst (λ x. IsSet true x) same (record { small = or_lt 7 t b small bit.small; filled = λ h. omega (arith, bit.some, le_or_r t b) })
    joins b t bit small false e = cc

    by_row : (found : Option ℕ) (others : Result ℕ Cause) → row_of rows w ≡ found → ((t : ℕ) → others ≡ Ok t → IsSet (is_some_list ws) t) →
        with_bit found others ≡ Ok s → IsSet true s
    by_row (Some b) (Ok t) is fit e = joins b t (rows_pass IsBit rows all w b is) (fit t refl).small (bit_and t b == 0) e
    by_row _ _ is fit e = cc

some_long : {A : Type 0} (xs : List A) (k : ℕ) → length xs ≡ k + 1 → is_some_list xs ≡ true
unfolding is_some_list
some_long [] k e = absurd (omega (arith, e))
some_long (x ∷ xs) k e = refl

pub some_pieces : (w : List ℕ) → is_some_list (pieces_at 124 w) ≡ true
some_pieces w = some_long (pieces_at 124 w) _ (length-slice_split (λ b. b == 124) w)

pub bits : (k : SetOf) → AllByRecursion (λ (row : List ℕ × ℕ). IsBit row.1) (rows_of k)
bits set.Sync = search rules
bits _ = search rules

-- a set that is read has a name, and known names alone
pub set_fits : (k : SetOf) (w : List ℕ) (s : ℕ) → set_from (rows_of k) w ≡ Ok s → (0 < s) × (s < 128)
unfolding set_from
set_fits k w s e =
    let fit = sets_fit (rows_of k) (bits k) (pieces_at 124 w) s e in (fit.filled (some_pieces w), fit.small)

-- a set that is read is read of its own text
pub set_again : (k : SetOf) (w : List ℕ) (s : ℕ) → set_from (rows_of k) w ≡ Ok s → set_from (rows_of k) (set_text (rows_of k) s false) ≡ Ok s
set_again k w s e = let fit = set_fits k w s e in set_back k s fit.0 fit.1
