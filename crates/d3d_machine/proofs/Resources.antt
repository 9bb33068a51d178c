-- The words of resources, with space for a copy of as many as the longest has.
use Rattle.std.proofs.Common.{ℕ, zero, suc, ◌≡◌, ◌<◌, ◌≤◌, sym, ap, subst, refl, arith, List, [], ◌∷◌, length, slice_get, None, inl, inr}
use Rattle.std.proofs.lemmas.Bool.{cases_eq, cases_lt}
use Rattle.dx_base.specs.Lists.{changed_at, put, range_of}
use Rattle.dx_base.proofs.Lists.{length_put}
use Rattle.d3d_machine.specs.State.{words_at}
use Rattle.d3d_machine.specs.Machine.{HasSpace}

-- a resource that is not there has no words
pub range_none : (m : List (List ℕ)) (r first count : ℕ) → slice_get m r ≡ None → [] ≡ range_of first count (words_at m r)
range_none [] r zero zero none = refl
range_none [] r zero (suc count) none = refl
range_none [] r (suc first) zero none = refl
range_none [] r (suc first) (suc count) none = refl
range_none (ws ∷ m) zero first count none = absurd (cc)
range_none (ws ∷ m) (suc r) first count none = range_none m r first count none

-- words that are put leave the sizes
put_size : (first : ℕ) (new : List ℕ) (k r : ℕ) (m : List (List ℕ)) → length (words_at (changed_at (put first new) k m) r) ≡ length (words_at m r)
put_size first new k r [] = refl
put_size first new zero zero (ws ∷ m) = length_put first new ws
put_size first new zero (suc r) (ws ∷ m) = refl
put_size first new (suc k) zero (ws ∷ m) = refl
put_size first new (suc k) (suc r) (ws ∷ m) = put_size first new k r m

-- there is space when words were put, and as much space is there
pub space_put : (space room : List ℕ) (m n : List (List ℕ)) (first : ℕ) (new : List ℕ) (k : ℕ) → HasSpace space m → n ≡ changed_at (put first new) k m →
    length room ≡ length space → HasSpace room n
space_put space room m n first new k has is long = record {
  each = λ r. omega (arith, has.each r, long, ap (λ x. length (words_at x r)) is, put_size first new k r m);
}

words_past : (m : List (List ℕ)) (r : ℕ) → length m ≤ r → words_at m r ≡ []
words_past [] r past = refl
words_past (ws ∷ m) zero past = absurd (omega (arith, past))
words_past (ws ∷ m) (suc r) past = words_past m r (omega (arith, past))

-- one list more is no longer than the longest
pub longest_more : (m : List (List ℕ)) (i old new : ℕ) → ((r : ℕ) → r < i → length (words_at m r) ≤ old) → old ≤ new → length (words_at m i) ≤ new →
    (r : ℕ) → r < suc i → length (words_at m r) ≤ new
longest_more m i old new before grown here r within = elim (cases_eq r i) [
  | inl same ↦ subst (λ k. length (words_at m k) ≤ new) (sym same) here
  | inr other ↦ omega (arith, before r (omega (arith, within, other)), grown)
]

pub longest_of_all : (m : List (List ℕ)) (most : ℕ) → ((r : ℕ) → r < length m → length (words_at m r) ≤ most) → (r : ℕ) → length (words_at m r) ≤ most
longest_of_all m most each r = elim (cases_lt r (length m)) [
  | inl within ↦ each r within
  | inr past ↦ omega (arith, ap length (words_past m r past))
]

-- there is space for as many words as the longest has
pub space_made : (space : List ℕ) (m : List (List ℕ)) (most : ℕ) → ((r : ℕ) → length (words_at m r) ≤ most) → length space ≡ most → HasSpace space m
space_made space m most each long = record { each = λ r. omega (arith, each r, long) }
