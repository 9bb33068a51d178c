-- A word is read as a set exactly where it is names of the set's table with bars between, each at most once.
use Rattle.line_forms.proofs.Vocabulary.{ℕ, ◌≡◌, ◌≢◌, ◌∙◌, ◌<◌, ◌==◌, ◌||◌, inl, inr, not, bit_and, bit_or, eqb, Bool, true, false, List, [], ◌∷◌, map, Option, Some, None, Result, Ok, Err, refl, sym, ap, subst, cond_both, rules, arith, if◌then◌else◌, list_all, All, AllByRecursion, join_with_byte, bytes_eq, and_parts, nat_tests, slice_split_at, slice_split_none, join_with_byte-slice_split, and_or_self, and_or_apart, bytes_eq-Decides, pieces_at, row_of, Cause, SetOf, IsAmong, AreNamesOf, bits_of, IsSetOf, rows_of, with_bit, set_in, set_from}
use Rattle.line_forms.specs.declared.cause.Cause.TheVariants as cause
use Rattle.line_forms.specs.declared.sets.SetOf.TheVariants as set
use Rattle.line_forms.proofs.PlainWords.{apart_from}
use Rattle.line_forms.proofs.SetsBack.{IsBit, bits, is_some_list, some_pieces}

-- what all pass, one of them passes
pub among_pass : {A : Type 0} (p : A → Bool) (xs : List A) (x : A) → list_all p xs ≡ true → IsAmong x xs → p x ≡ true
among_pass p [] x all h = absurd h
among_pass p (y ∷ ys) x all (inl is) = rw is (and_parts (p y) (list_all p ys) all).0
among_pass p (y ∷ ys) x all (inr more) = among_pass p ys x (and_parts (p y) (list_all p ys) all).1 more

pub among_holds : {A : Type 0} (P : A → Type 0) (xs : List A) (x : A) → AllByRecursion P xs → IsAmong x xs → P x
among_holds P [] x all h = absurd h
among_holds P (y ∷ ys) x all (inl is) = rw is (all.0)
among_holds P (y ∷ ys) x all (inr more) = among_holds P ys x all.1 more

abbrev Rows : Type 0
Rows = List (List ℕ × ℕ)

-- a row that is found is one of the rows
row_among : (rows : Rows) (w : List ℕ) (b : ℕ) → row_of rows w ≡ Some b → IsAmong (w, b) rows
unfolding row_of
row_among [] w b e = cc
row_among (row ∷ rows) w b e =
    cond_both (bytes_eq w row.0) (Some row.1) (row_of rows w) (λ o. o ≡ Some b → IsAmong (w, b) (row ∷ rows))
    (λ is e. let value : row.1 ≡ b = cc in let name : w ≡ row.0 = (bytes_eq-Decides w row.0).0 is in inl (rw (name, ← value) refl))
    (λ is e. inr (row_among rows w b e)) e

-- each row is found by its name
found : (k : SetOf) → AllByRecursion (λ (row : List ℕ × ℕ). row_of (rows_of k) row.0 ≡ Some row.1) (rows_of k)
unfolding row_of
found set.Sync = (refl, (refl, (refl, (refl, (refl, (refl, (refl, tt)))))))
found _ = (refl, (refl, (refl, (refl, (refl, (refl, (refl, tt)))))))

-- two rows have one name, or no bit in common
share_none : Rows → Bool
share_none rows = list_all (λ r. list_all (λ (q : List ℕ × ℕ). bytes_eq r.0 q.0 || (bit_and q.1 r.1 == 0)) rows) rows

none_shared : (k : SetOf) → share_none (rows_of k) ≡ true
unfolding share_none
none_shared set.Sync = refl
none_shared _ = refl

rows_apart : (k : SetOf) (r q : List ℕ × ℕ) → IsAmong r (rows_of k) → IsAmong q (rows_of k) → r ≢ q → bit_and q.1 r.1 ≡ 0
unfolding share_none
rows_apart k r q one other apart =
    by_test (bytes_eq r.0 q.0) refl
    (among_pass (λ (p : List ℕ × ℕ). bytes_eq r.0 p.0 || (bit_and p.1 r.1 == 0)) (rows_of k) q
    (among_pass (λ (p : List ℕ × ℕ). list_all (λ (o : List ℕ × ℕ). bytes_eq p.0 o.0 || (bit_and o.1 p.1 == 0)) (rows_of k)) (rows_of k) r (none_shared k) one) other)
  where
    same_row : r.0 ≡ q.0 → r ≡ q
    same_row is =
        let here = among_holds (λ (row : List ℕ × ℕ). row_of (rows_of k) row.0 ≡ Some row.1) (rows_of k) r (found k) one in
        let there = among_holds (λ (row : List ℕ × ℕ). row_of (rows_of k) row.0 ≡ Some row.1) (rows_of k) q (found k) other in
        let bits_same : Some r.1 ≡ Some q.1 = sym here ∙ (ap (row_of (rows_of k)) is ∙ there) in
        let bit_same : r.1 ≡ q.1 = cc in
        rw (is, bit_same) refl

    by_test : (t : Bool) → bytes_eq r.0 q.0 ≡ t → (t || (bit_and q.1 r.1 == 0)) ≡ true → bit_and q.1 r.1 ≡ 0
    by_test true is e = absurd (apart (same_row ((bytes_eq-Decides r.0 q.0).0 is)))
    by_test false is e = grind (arith, nat_tests)

-- a name that is there has its bit in the set, and one that is not has not
has_bit : (k : SetOf) (rs : Rows) (r : List ℕ × ℕ) → AreNamesOf (rows_of k) rs → IsAmong r (rows_of k) → IsAmong r rs → bit_and (bits_of rs) r.1 ≡ r.1
has_bit k [] r are row h = absurd h
has_bit k (q ∷ rs) r are row (inl is) = rw is (and_or_self q.1 (bits_of rs))
has_bit k (q ∷ rs) r are row (inr more) =
    let apart : r ≢ q = λ is. are.1 (subst (λ x. IsAmong x rs) is more) in
    and_or_apart r.1 (bits_of rs) q.1 (rows_apart k r q row are.0 apart) ∙ has_bit k rs r are.2 row more

no_bit : (k : SetOf) (rs : Rows) (r : List ℕ × ℕ) → AreNamesOf (rows_of k) rs → IsAmong r (rows_of k) → (IsAmong r rs → ⊥) → bit_and (bits_of rs) r.1 ≡ 0
no_bit k [] r are row none = search rules
no_bit k (q ∷ rs) r are row none =
    let apart : r ≢ q = λ is. none (inl is) in
    and_or_apart r.1 (bits_of rs) q.1 (rows_apart k r q row are.0 apart) ∙ no_bit k rs r are.2 row (λ more. none (inr more))

-- names that some words are, and their bits
record AreWords (k : SetOf) (ws : List (List ℕ)) (s : ℕ) : Type 0 where
  names : Rows
  words : map (λ r. r.0) names ≡ ws
  are : AreNamesOf (rows_of k) names
  bits_are : s ≡ bits_of names

words_say : (k : SetOf) (ws : List (List ℕ)) (s : ℕ) → set_in (rows_of k) ws ≡ Ok s → AreWords k ws s
unfolding set_in
words_say k [] s e = record { names = []; words = refl; are = tt; bits_are = cc }
words_say k (w ∷ ws) s e = by_row (row_of (rows_of k) w) (set_in (rows_of k) ws) refl (λ t h. words_say k ws t h) refl e
  where
    joins : (b t : ℕ) → row_of (rows_of k) w ≡ Some b → AreWords k ws t → (test : Bool) → (bit_and t b == 0) ≡ test →
        (if test then Ok (bit_or t b) else Err cause.Form) ≡ Ok s → AreWords k (w ∷ ws) s
    joins b t is others false apart e = cc
    joins b t is others true apart e =
        let row : IsAmong (w, b) (rows_of k) = row_among (rows_of k) w b is in
        let bit : 0 < b = (among_holds (λ (r : List ℕ × ℕ). IsBit r.1) (rows_of k) (w, b) (bits k) row).some in
        let value : bit_or t b ≡ s = cc in
        let none : IsAmong (w, b) others.names → ⊥ =
        λ there. let have : bit_and t b ≡ b = rw (others.bits_are) (has_bit k others.names (w, b) others.are row there) in
        let clear : bit_and t b ≡ 0 = grind (arith, nat_tests) in absurd (omega (arith, have, clear, bit)) in
        record {
          names = (w, b) ∷ others.names;
          words = ap (λ more. w ∷ more) others.words;
          are = (row, none, others.are);
          bits_are = rw (← value, others.bits_are) refl;
        }

    by_row : (one : Option ℕ) (more : Result ℕ Cause) → row_of (rows_of k) w ≡ one → ((t : ℕ) → more ≡ Ok t → AreWords k ws t) →
        set_in (rows_of k) ws ≡ more → with_bit one more ≡ Ok s → AreWords k (w ∷ ws) s
    by_row (Some b) (Ok t) is others same e = joins b t is (others t refl) (bit_and t b == 0) refl e
    by_row _ _ is others same e = cc

words_said : (k : SetOf) (names : Rows) → AreNamesOf (rows_of k) names → set_in (rows_of k) (map (λ r. r.0) names) ≡ Ok (bits_of names)
unfolding set_in
words_said k [] are = refl
words_said k (r ∷ names) are =
    let here = among_holds (λ (row : List ℕ × ℕ). row_of (rows_of k) row.0 ≡ Some row.1) (rows_of k) r (found k) are.0 in
    let clear = no_bit k names r are.2 are.0 are.1 in
    rw (here, words_said k names are.2, clear) refl

-- names have no bars
abbrev is_no_bar : ℕ → Bool
is_no_bar b = not (b == 124)

no_bars : (k : SetOf) → list_all (λ (r : List ℕ × ℕ). list_all is_no_bar r.0) (rows_of k) ≡ true
no_bars set.Sync = refl
no_bars _ = refl

bar_free : (k : SetOf) (r : List ℕ × ℕ) → IsAmong r (rows_of k) → All (λ b. eqb b 124 ≡ false) r.0
bar_free k r row =
    apart_from 124 is_no_bar r.0 (λ b h. grind (arith, nat_tests))
    (among_pass (λ (q : List ℕ × ℕ). list_all is_no_bar q.0) (rows_of k) r (no_bars k) row)

-- names with bars between are cut into these names
names_cut : (k : SetOf) (r : List ℕ × ℕ) (names : Rows) → AreNamesOf (rows_of k) (r ∷ names) →
    pieces_at 124 (join_with_byte 124 (map (λ q. q.0) (r ∷ names))) ≡ map (λ q. q.0) (r ∷ names)
names_cut k r [] are = slice_split_none (λ b. eqb b 124) r.0 (bar_free k r are.0)
names_cut k r (q ∷ names) are =
    slice_split_at (λ b. eqb b 124) r.0 124 (join_with_byte 124 (map (λ p. p.0) (q ∷ names))) (bar_free k r are.0) refl
    ∙ ap (λ more. r.0 ∷ more) (names_cut k q names are.2)

-- a word that is read as a set is one
pub set_says : (k : SetOf) (w : List ℕ) (s : ℕ) → set_from (rows_of k) w ≡ Ok s → IsSetOf (rows_of k) s w
unfolding set_from is_some_list
set_says k w s e =
    let all = words_say k (pieces_at 124 w) s e in
    record {
      names = all.names;
      some = λ none. never (pieces_at 124 w) (some_pieces w) (sym (ap (map (λ (r : List ℕ × ℕ). r.0)) (sym none) ∙ all.words));
      are = all.are;
      text = sym (ap (join_with_byte 124) all.words ∙ join_with_byte-slice_split 124 w);
      bits = all.bits_are;
    }
  where
    never : (ws : List (List ℕ)) → is_some_list ws ≡ true → ws ≡ [] → ⊥
    never [] some none = cc
    never _ some none = cc

-- and the other way round
pub set_said : (k : SetOf) (w : List ℕ) (s : ℕ) → IsSetOf (rows_of k) s w → set_from (rows_of k) w ≡ Ok s
unfolding set_from
set_said k w s h =
    ap (λ u. set_in (rows_of k) (pieces_at 124 u)) h.text
    ∙ (ap (set_in (rows_of k)) (cut h.names h.some h.are) ∙ (words_said k h.names h.are ∙ ap Ok (sym h.bits)))
  where
    cut : (names : Rows) → names ≢ [] → AreNamesOf (rows_of k) names →
        pieces_at 124 (join_with_byte 124 (map (λ r. r.0) names)) ≡ map (λ r. r.0) names
    cut [] some are = absurd (some refl)
    cut (r ∷ names) some are = names_cut k r names are

-- what is not read as a set has no form
bit_form : (one : Option ℕ) (more : Result ℕ Cause) (c : Cause) → ((d : Cause) → more ≡ Err d → d ≡ cause.Form) → with_bit one more ≡ Err c → c ≡ cause.Form
bit_form None more c others e = cc
bit_form (Some b) (Err d) c others e = let same : d ≡ c = cc in sym same ∙ others d refl
bit_form (Some b) (Ok t) c others e =
    cond_both (bit_and t b == 0) (Ok (bit_or t b)) (Err cause.Form) (λ r. r ≡ Err c → c ≡ cause.Form) (λ is e. cc) (λ is e. cc) e

all_form : (rows : Rows) (ws : List (List ℕ)) (c : Cause) → set_in rows ws ≡ Err c → c ≡ cause.Form
unfolding set_in
all_form rows [] c e = cc
all_form rows (w ∷ ws) c e = bit_form (row_of rows w) (set_in rows ws) c (λ d h. all_form rows ws d h) e

pub set_form : (k : SetOf) (w : List ℕ) (c : Cause) → set_from (rows_of k) w ≡ Err c → c ≡ cause.Form
unfolding set_from
set_form k w c e = all_form (rows_of k) (pieces_at 124 w) c e
