-- Batches of a queue that are numbered without a gap: those from a number on, and the one of a number.
use Rattle.std.specs.Prelude.{nat_lt}
use Rattle.std.proofs.Common.{◌≡◌, ℕ, zero, suc, ◌+◌, ◌-◌, ◌≤◌, ◌==◌, ◌∙◌, Bool, true, false, ◌&&◌, cond, List, [], ◌∷◌, ◌++◌, length, drop, refl, sym, ap, subst, arith, Some, slice_get, inl, inr}
use Rattle.std.proofs.lemmas.Bool.{and_parts, eqb-true, cases_lt, cases_Bool}
use Rattle.std.proofs.lemmas.Option.{none-some}
use Rattle.std.proofs.Math.Seq.{drop-nil}
use Rattle.vk_types.specs.declared.batches.Batch.{Batch}
use Rattle.vk_sync_rules.specs.VkState.{batch_in}
use Rattle.vk_port.specs.Journal.{of_queue, number_after, are_numbered}
use Rattle.vk_port.specs.Machine.{from_number}
use Rattle.vk_port.proofs.Earlier.{same_item}

-- the first of such batches, and the others
pub numbered_parts : (m : ℕ) (b : Batch) (bs : List Batch) → are_numbered m (b ∷ bs) ≡ true → (b.number ≡ m) × (are_numbered (m + 1) bs ≡ true)
numbered_parts m b bs numbered =
    let both = and_parts (b.number == m) (are_numbered (m + 1) bs) numbered in
    (eqb-true b.number m both.0, both.1)

-- the number of the one at a place
pub number_at : (m : ℕ) (bs : List Batch) (i : ℕ) (b : Batch) → are_numbered m bs ≡ true → slice_get bs i ≡ Some b → b.number ≡ m + i
number_at m [] i b numbered is = absurd (none-some b is)
number_at m (x ∷ bs) zero b numbered is =
    let first = (numbered_parts m x bs numbered).0 in
    let same : x ≡ b = same_item x b is in
    let number : x.number ≡ b.number = ap (λ (y : Batch). y.number) same in
    omega (arith, first, number)
number_at m (x ∷ bs) (suc i) b numbered is =
    let rest = number_at (m + 1) bs i b (numbered_parts m x bs numbered).1 is in
    omega (arith, rest)

-- the number behind them
pub number_behind : (m : ℕ) (bs : List Batch) → are_numbered m bs ≡ true → number_after m bs ≡ m + length bs
number_behind m [] numbered = omega arith
number_behind m (b ∷ bs) numbered =
    let parts = numbered_parts m b bs numbered in
    let rest : number_after (m + 1) bs ≡ m + 1 + length bs = number_behind (m + 1) bs parts.1 in
    ap (λ n. number_after (n + 1) bs) parts.0 ∙ omega (arith, rest)

-- from their first number on they are all
pub all_from : (e m : ℕ) (bs : List Batch) → are_numbered m bs ≡ true → e ≤ m → from_number e bs ≡ bs
all_from e m [] numbered le = refl
all_from e m (b ∷ bs) numbered le =
    let parts = numbered_parts m b bs numbered in
    let number = parts.0 in
    let late : nat_lt b.number e ≡ false = grind (arith, number, le) in
    rw (late, all_from e (m + 1) bs parts.1 (omega (arith, le))) refl

-- from a later number on they are numbered from there on
pub numbered_from : (e m : ℕ) (bs : List Batch) → are_numbered m bs ≡ true → m ≤ e → are_numbered e (from_number e bs) ≡ true
numbered_from e m [] numbered le = refl
numbered_from e m (b ∷ bs) numbered le =
    let parts = numbered_parts m b bs numbered in
    let number = parts.0 in
    elim (cases_lt m e) as (λ _. are_numbered e (from_number e (b ∷ bs)) ≡ true) [
      | inl less ↦
          let early : nat_lt b.number e ≡ true = grind (arith, number, less) in
          rw early (numbered_from e (m + 1) bs parts.1 (omega (arith, less)))
      | inr past ↦
          let same : m ≡ e = omega (arith, past, le) in
          rw (all_from e m (b ∷ bs) numbered (omega (arith, past))) (subst (λ n. are_numbered n (b ∷ bs) ≡ true) same numbered)
    ]

-- they are those behind so many
pub from_place : (e m : ℕ) (bs : List Batch) → are_numbered m bs ≡ true → m ≤ e → from_number e bs ≡ drop (e - m) bs
from_place e m [] numbered le = sym (drop-nil (e - m))
from_place e m (b ∷ bs) numbered le =
    let parts = numbered_parts m b bs numbered in
    let number = parts.0 in
    elim (cases_lt m e) as (λ _. from_number e (b ∷ bs) ≡ drop (e - m) (b ∷ bs)) [
      | inl less ↦
          let early : nat_lt b.number e ≡ true = grind (arith, number, less) in
          let places : e - m ≡ suc (e - (m + 1)) = omega (arith, less) in
          rw (early, places) (from_place e (m + 1) bs parts.1 (omega (arith, less)))
      | inr past ↦
          let none : e - m ≡ 0 = omega (arith, past) in
          rw none (all_from e m (b ∷ bs) numbered (omega (arith, past)))
    ]

-- the first one ends
pub from_next : (e m : ℕ) (bs : List Batch) → are_numbered m bs ≡ true → m ≤ e → from_number (e + 1) bs ≡ drop 1 (from_number e bs)
from_next e m [] numbered le = refl
from_next e m (b ∷ bs) numbered le =
    let parts = numbered_parts m b bs numbered in
    let number = parts.0 in
    let early : nat_lt b.number (e + 1) ≡ true = grind (arith, number, le) in
    elim (cases_lt m e) as (λ _. from_number (e + 1) (b ∷ bs) ≡ drop 1 (from_number e (b ∷ bs))) [
      | inl less ↦
          let first : nat_lt b.number e ≡ true = grind (arith, number, less) in
          rw (early, first) (from_next e (m + 1) bs parts.1 (omega (arith, less)))
      | inr past ↦
          let all : from_number e (b ∷ bs) ≡ b ∷ bs = all_from e m (b ∷ bs) numbered (omega (arith, past)) in
          rw (early, all) (all_from (e + 1) (m + 1) bs parts.1 (omega (arith, past)))
    ]

-- one more comes last
pub from_more : (e : ℕ) (bs : List Batch) (b : Batch) → e ≤ b.number → from_number e (bs ++ b ∷ []) ≡ from_number e bs ++ b ∷ []
from_more e [] b late = let test : nat_lt b.number e ≡ false = grind (arith, late) in rw test refl
from_more e (x ∷ bs) b late =
    elim (cases_Bool (nat_lt x.number e)) as (λ _. from_number e (x ∷ bs ++ b ∷ []) ≡ from_number e (x ∷ bs) ++ b ∷ []) [
      | inl early ↦ rw early (from_more e bs b late)
      | inr not_early ↦ rw (not_early, from_more e bs b late) refl
    ]

-- the one at a place is the batch of its number
pub batch_at : (q m : ℕ) (j : List Batch) (i : ℕ) (b : Batch) → are_numbered m (of_queue q j) ≡ true → slice_get (of_queue q j) i ≡ Some b → batch_in q (m + i) j ≡ Some b
batch_at q m [] i b numbered is = absurd (none-some b is)
batch_at q m (x ∷ j) i b numbered is = by_queue (x.queue == q) i numbered is (λ m2 i2. batch_at q m2 j i2 b) where
  by_queue : (t : Bool) (i : ℕ) → are_numbered m (cond t (x ∷ of_queue q j) (of_queue q j)) ≡ true → slice_get (cond t (x ∷ of_queue q j) (of_queue q j)) i ≡ Some b →
      ((m : ℕ) (i : ℕ) → are_numbered m (of_queue q j) ≡ true → slice_get (of_queue q j) i ≡ Some b → batch_in q (m + i) j ≡ Some b) →
      cond (t && (x.number == m + i)) (Some x) (batch_in q (m + i) j) ≡ Some b
  by_queue true zero numbered is rest =
      let first = (numbered_parts m x (of_queue q j) numbered).0 in
      let here : (x.number == m + 0) ≡ true = grind (arith, first) in
      rw here is
  by_queue true (suc i) numbered is rest =
      let parts = numbered_parts m x (of_queue q j) numbered in
      let first = parts.0 in
      let later : (x.number == m + suc i) ≡ false = grind (arith, first) in
      let next : m + 1 + i ≡ m + suc i = omega arith in
      rw later (subst (λ n. batch_in q n j ≡ Some b) next (rest (m + 1) i parts.1 is))
  by_queue false i numbered is rest = rest m i numbered is

-- and the batch of a number is at its place
pub place_in : (q m : ℕ) (j : List Batch) (n : ℕ) (b : Batch) → are_numbered m (of_queue q j) ≡ true → batch_in q n j ≡ Some b → (m ≤ n) × (slice_get (of_queue q j) (n - m) ≡ Some b)
place_in q m [] n b numbered is = absurd (none-some b is)
place_in q m (x ∷ j) n b numbered is = by_queue (x.queue == q) (x.number == n) refl numbered is (λ m. place_in q m j n b) where
  by_queue : (t s : Bool) → (x.number == n) ≡ s → are_numbered m (cond t (x ∷ of_queue q j) (of_queue q j)) ≡ true → cond (t && s) (Some x) (batch_in q n j) ≡ Some b →
      ((m : ℕ) → are_numbered m (of_queue q j) ≡ true → batch_in q n j ≡ Some b → (m ≤ n) × (slice_get (of_queue q j) (n - m) ≡ Some b)) →
      (m ≤ n) × (slice_get (cond t (x ∷ of_queue q j) (of_queue q j)) (n - m) ≡ Some b)
  by_queue true true e numbered is rest =
      let first = (numbered_parts m x (of_queue q j) numbered).0 in
      let number : x.number ≡ n = eqb-true x.number n e in
      let none : n - m ≡ 0 = omega (arith, first, number) in
      (omega (arith, first, number), rw none is)
  by_queue true false e numbered is rest =
      let found = rest (m + 1) (numbered_parts m x (of_queue q j) numbered).1 is in
      let past : m + 1 ≤ n = found.0 in
      let places : n - m ≡ suc (n - (m + 1)) = omega (arith, past) in
      (omega (arith, past), rw places found.1)
  by_queue false s e numbered is rest = rest m numbered is

-- the queue of the batch of a number
pub queue_in : (q n : ℕ) (j : List Batch) (b : Batch) → batch_in q n j ≡ Some b → (i : ℕ) × (slice_get (of_queue q j) i ≡ Some b)
queue_in q n [] b is = absurd (none-some b is)
queue_in q n (x ∷ j) b is = by_queue (x.queue == q) (x.number == n) is (queue_in q n j b) where
  by_queue : (t s : Bool) → cond (t && s) (Some x) (batch_in q n j) ≡ Some b → (batch_in q n j ≡ Some b → (i : ℕ) × (slice_get (of_queue q j) i ≡ Some b)) →
      (i : ℕ) × (slice_get (cond t (x ∷ of_queue q j) (of_queue q j)) i ≡ Some b)
  by_queue true true is rest = (zero, is)
  by_queue true false is rest = let found = rest is in (suc found.0, found.1)
  by_queue false s is rest = rest is
