-- Answers of reads: each has the numbers that are known.
use Rattle.std.proofs.Common.{◌≡◌, ℕ, zero, suc, ◌+◌, ◌∙◌, Bool, true, cond, List, [], ◌∷◌, map, take, drop, slice_get, refl, sym, ap, ap₂, subst, arith, Option, Some, None}
use Rattle.std.specs.Prelude.{is_some}
use Rattle.std.specs.List.{list_all}
use Rattle.std.proofs.lemmas.Bool.{and_parts, false≢true}
use Rattle.std.proofs.lemmas.Option.{none-some}
use Rattle.vk_sync_rules.specs.declared.ranges.VkResource.TheVariants.{Buffer}
use Rattle.vk_sync_rules.specs.Machines.{known_numbers}
use Rattle.vk_sync_rules.specs.NextState.{where_seen}
use Rattle.vk_sync_rules.specs.Numbers.{numbers_in}
use Rattle.vk_sync_rules.specs.VkState.{VkState as Machine}
use Rattle.vk_sync_rules.proofs.Soundness.{same_item}
use Rattle.vk_port.specs.Agreement.{Agree, AgreeEach, IsNumber, host_numbers, sees_word}

pub answers_have_numbers : (xs : List ℕ) (ns : List (Option ℕ)) (i n : ℕ) → Agree xs ns → slice_get ns i ≡ Some (Some n) → slice_get xs i ≡ Some n
answers_have_numbers [] [] zero n agree e = absurd (none-some (Some n) e)
answers_have_numbers [] [] (suc i) n agree e = absurd (none-some (Some n) e)
answers_have_numbers [] (y ∷ ns) i n agree e = absurd agree
answers_have_numbers (x ∷ xs) [] i n agree e = absurd agree
answers_have_numbers (x ∷ xs) (y ∷ ns) zero n agree e =
    let is : IsNumber x (Some n) = subst (λ o. IsNumber x o) (same_item y (Some n) e) agree.0 in
    ap (λ (m : ℕ). Some m) is
answers_have_numbers (x ∷ xs) (y ∷ ns) (suc i) n agree e = answers_have_numbers xs ns i n agree.1 e

-- two words that are one known number
one_number : (x y : ℕ) (n : Option ℕ) → is_some n ≡ true → IsNumber x n → IsNumber y n → x ≡ y
one_number x y None h a b = absurd (false≢true h)
one_number x y (Some n) h a b = a ∙ sym b

abbrev put_first : {A : Type 0} → A → List A → List A
put_first x xs = x ∷ xs

pub answers_are_one : (xs ys : List ℕ) (ns : List (Option ℕ)) → list_all is_some ns ≡ true → Agree xs ns → Agree ys ns → xs ≡ ys
answers_are_one [] [] [] h a b = refl
answers_are_one [] (y ∷ ys) [] h a b = absurd b
answers_are_one (x ∷ xs) ys [] h a b = absurd a
answers_are_one [] ys (n ∷ ns) h a b = absurd a
answers_are_one (x ∷ xs) [] (n ∷ ns) h a b = absurd b
answers_are_one (x ∷ xs) (y ∷ ys) (n ∷ ns) h a b =
    let parts = and_parts (is_some n) (list_all is_some ns) h in
    ap₂ (λ z zs. put_first z zs) (one_number x y n parts.0 a.0 b.0) (answers_are_one xs ys ns parts.1 a.1 b.1)

pub answers_are_words : (xs words : List ℕ) → Agree xs (known_numbers words) → xs ≡ words
answers_are_words [] [] agree = refl
answers_are_words [] (w ∷ words) agree = absurd agree
answers_are_words (x ∷ xs) [] agree = absurd agree
answers_are_words (x ∷ xs) (w ∷ words) agree = ap₂ (λ z zs. put_first z zs) agree.0 (answers_are_words xs words agree.1)

pub buffers_are_words : (xs words : List (List ℕ)) → AgreeEach xs (map known_numbers words) → xs ≡ words
buffers_are_words [] [] agree = refl
buffers_are_words [] (w ∷ words) agree = absurd agree
buffers_are_words (x ∷ xs) [] agree = absurd agree
buffers_are_words (x ∷ xs) (w ∷ words) agree = ap₂ (λ z zs. put_first z zs) (answers_are_words x w agree.0) (buffers_are_words xs words agree.1)

-- where a word is seen, its number is the one that stands there
where_at : (test : ℕ → Bool) (first : ℕ) (ns : List (Option ℕ)) (i : ℕ) (x : Option ℕ) → test (first + i) ≡ true → slice_get ns i ≡ Some x → slice_get (where_seen test first ns) i ≡ Some x
where_at test first [] zero x seen e = absurd (none-some x e)
where_at test first [] (suc i) x seen e = absurd (none-some x e)
where_at test first (n ∷ ns) zero x seen e =
    let here : test first ≡ true = subst (λ k. test k ≡ true) (omega arith) seen in
    ap (λ t. Some (cond t n None)) here ∙ e
where_at test first (n ∷ ns) (suc i) x seen e = where_at test (first + 1) ns i x (subst (λ k. test k ≡ true) (omega arith) seen) e

pub seen_answers_are_fixed : (v : Machine) (buffer first count : ℕ) (xs : List ℕ) (i n : ℕ) → Agree xs (host_numbers v buffer first count) → sees_word v buffer (first + i) ≡ true →
    slice_get (take count (drop first (numbers_in v.numbers (Buffer buffer)))) i ≡ Some (Some n) → slice_get xs i ≡ Some n
seen_answers_are_fixed v buffer first count xs i n agree seen e =
    answers_have_numbers xs (host_numbers v buffer first count) i n agree
    (where_at (sees_word v buffer) first (take count (drop first (numbers_in v.numbers (Buffer buffer)))) i (Some n) seen e)
