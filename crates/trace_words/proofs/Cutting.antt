-- Cutting a text at the first byte of a value.
use Rattle.std.proofs.Common.{ℕ, zero, suc, ◌≡◌, ◌==◌, ◌+◌, ◌-◌, ◌<◌, ◌≤◌, Bool, true, false, List, [], ◌∷◌, ◌++◌, length, take, drop, get_or, Option, Some, None, eqb, eq-eqb, append_assoc, arith, refl, sym, ap, subst}
use Rattle.std.specs.List.{All, slice_split}
use Rattle.std.proofs.Math.Seq.{split_at}
use Rattle.std.proofs.lemmas.Bool.Decides.{nat_tests}
use Rattle.std.proofs.lemmas.List.{length-take, length-append, get_or-take}
use Rattle.std.proofs.lemmas.List.Elements.{All-from_get_or}
use Rattle.std.proofs.lemmas.List.Splits.{slice_split_none, slice_split_at}
use Rattle.memchr.specs.Find.{IsFirstByte, is_byte}
use Rattle.trace_words.specs.Cut.{CutsOff, pieces_at}

not_true : (t : Bool) → (t ≡ true → ⊥) → t ≡ false
not_true true h = absurd (h refl)
not_true false h = refl

-- the byte stands nowhere
pub cut_none : (byte : ℕ) (text : List ℕ) → IsFirstByte (is_byte byte) text None → pieces_at byte text ≡ text ∷ []
cut_none byte text nowhere =
    slice_split_none (λ b. eqb b byte) text
    (All-from_get_or (λ b. eqb b byte ≡ false) text 0 (λ i below. not_true (eqb (get_or text i 0) byte) (nowhere i (omega arith) below)))

-- all of a list
take_all : (xs : List ℕ) (n : ℕ) → n ≡ length xs → take n xs ≡ xs
take_all [] zero h = refl
take_all [] (suc n) h = refl
take_all (x ∷ xs) zero h = absurd (omega (arith, h))
take_all (x ∷ xs) (suc n) h = ap (λ t. x ∷ t) (take_all xs n (omega (arith, h)))

-- the list behind the first of those from a place on
drop_next : (text : List ℕ) (k : ℕ) → k < length text → take (length (drop k text) - 1) (drop 1 (drop k text)) ≡ drop (suc k) text
drop_next [] k h = absurd (omega arith)
drop_next (x ∷ xs) zero h = take_all xs (suc (length xs) - 1) (omega arith)
drop_next (x ∷ xs) (suc k) h = drop_next xs k (omega arith)

-- a text with the byte at a place and nowhere before it
cut_there : (byte : ℕ) (text : List ℕ) (k : ℕ) → k < length text → ((i : ℕ) → i < k → eqb (get_or text i 0) byte ≡ false) →
    get_or text k 0 ≡ byte → CutsOff byte text (take k text) (drop (suc k) text)
cut_there byte text k inside before here =
    let parts : text ≡ take k text ++ byte ∷ drop (suc k) text = subst (λ b. text ≡ take k text ++ b ∷ drop (suc k) text) here (split_at text k 0 inside) in
    let front : All (λ b. eqb b byte ≡ false) (take k text) =
    All-from_get_or (λ b. eqb b byte ≡ false) (take k text) 0
    (λ i below. let small : i < k = omega (arith, length-take k text) in rw (get_or-take k text i 0) (before i small)) in
    record {
      pieces = subst (λ t. slice_split (λ b. eqb b byte) t ≡ take k text ∷ slice_split (λ b. eqb b byte) (drop (suc k) text)) (sym parts)
          (slice_split_at (λ b. eqb b byte) (take k text) byte (drop (suc k) text) front (eq-eqb byte byte refl));
      bytes = parts;
    }

same_byte : (b byte : ℕ) → eqb b byte ≡ true → b ≡ byte
same_byte b byte h = grind (arith, nat_tests)

-- the byte stands first at that place
pub cut_some : (byte : ℕ) (text : List ℕ) (k : ℕ) (front rest : List ℕ) → IsFirstByte (is_byte byte) text (Some k) →
    front ≡ take k text → rest ≡ drop k text → CutsOff byte text front (take (length rest - 1) (drop 1 rest))
cut_some byte text k front rest found before behind =
    let inside : k < length text = found.0.high in
    let there = cut_there byte text k inside
    (λ i below. not_true (eqb (get_or text i 0) byte) (found.0.before i (omega arith) below))
    (same_byte (get_or text k 0) byte found.1) in
    rw (before, behind, drop_next text k inside) there
