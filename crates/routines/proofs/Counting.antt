-- How what the invocations put goes on by one.
use Rattle.std.proofs.Common.{ℕ, zero, suc, ◌≡◌, ◌≢◌, ◌<◌, ◌+◌, ◌%◌, ◌==◌, ◌∙◌, refl, sym, ap, subst, Bool, true, false, List, [], ◌∷◌, ◌++◌, length, slice_set, add-one, arith, nat_lt, if◌then◌else◌}
use Rattle.std.proofs.lemmas.List.{get_or-set_same, get_or-set_other, length-set}
use Rattle.std.proofs.lemmas.Bool.{ltb-true}
use Rattle.dx_base.specs.Each.{Each}
use Rattle.dx_base.proofs.Each.{each_append}
use Rattle.dx_base.specs.declared.kinds.Routine.{Routine}
use Rattle.dx_base.specs.declared.kinds.Routine.TheVariants.{Histogram}
use Rattle.routines.specs.declared.numbers.Numbers.{Numbers}
use Rattle.routines.specs.declared.puts.Put.{Put}
use Rattle.routines.specs.Puts.{number_at, bin_of, hits, puts_before, puts_of, put_at, word_at, writers, kept, PutsLieIn}

-- one invocation more
pub puts_more : (routine : Routine) (m : ℕ) (x : Numbers) (i : ℕ) → puts_before routine m x (i + 1) ≡ puts_before routine m x i ++ kept m (put_at routine m x i)
puts_more routine m x i = rw (add-one i) refl

-- the two values of a test
pub by_cases : {P : Type 0} (b : Bool) → (b ≡ true → P) → (b ≡ false → P) → P
by_cases true yes_case no_case = yes_case refl
by_cases false yes_case no_case = no_case refl

-- a fact of what each invocation puts inside
kept_each : (P : Put → Type 0) (m : ℕ) (p : Put) → (p.word < m → P p) → Each P (kept m p)
kept_each P m p h = by_cases (nat_lt p.word m)
    (λ e. subst (λ b. Each P (if b then p ∷ [] else [])) (sym e) (h (ltb-true p.word m e), tt))
    (λ e. subst (λ b. Each P (if b then p ∷ [] else [])) (sym e) tt)

pub each_put : (P : Put → Type 0) (routine : Routine) (m : ℕ) (x : Numbers) (i : ℕ) →
    ((j : ℕ) → j < i → word_at routine m x j < m → P (put_at routine m x j)) → Each P (puts_before routine m x i)
each_put P routine m x zero h = tt
each_put P routine m x (suc i) h =
    each_append P (puts_before routine m x i) (kept m (put_at routine m x i))
    (each_put P routine m x i (λ j l. h j (omega arith)))
    (kept_each P m (put_at routine m x i) (h i (omega arith)))

pub puts_inside : (routine : Routine) (n m : ℕ) (x : Numbers) (puts : List Put) → puts ≡ puts_of routine n m x → PutsLieIn m puts
puts_inside routine n m x puts e =
    subst (λ ps. PutsLieIn m ps) (sym e) (each_put (λ (p : Put). p.word < m) routine m x (writers routine n) (λ j l inside. inside))

-- nothing is put into no words
kept_none : (p : Put) → kept 0 p ≡ []
kept_none p = grind arith

pub puts_none : (routine : Routine) (x : Numbers) (i : ℕ) → puts_before routine 0 x i ≡ []
puts_none routine x zero = refl
puts_none routine x (suc i) = rw (puts_none routine x i, kept_none (put_at routine 0 x i)) refl

-- a histogram's numbers after the first invocations
pub record AreCounts (m : ℕ) (x : Numbers) (i : ℕ) (counts : List ℕ) : Type 0 where
  pub length : length counts ≡ m
  pub value : (k : ℕ) → k < m → number_at counts k ≡ (number_at x.u0 k + hits m x k i) % 4294967296

-- the first numbers, which no invocation has changed
pub first_are : (m : ℕ) (x : Numbers) (counts : List ℕ) → length counts ≡ m → ((k : ℕ) → k < m → number_at counts k ≡ number_at x.u0 k % 4294967296) → AreCounts m x 0 counts
first_are m x counts long same = record { length = long; value = λ k l. same k l ∙ ap (λ t. t % 4294967296) (omega arith) }

-- an invocation counts in its word and in no other
hits_here : (m : ℕ) (x : Numbers) (k i : ℕ) → (bin_of m x i == k) ≡ true → hits m x k (suc i) ≡ hits m x k i + 1
hits_here m x k i e = ap (λ (b : Bool). hits m x k i + (if b then 1 else 0)) e

hits_else : (m : ℕ) (x : Numbers) (k i : ℕ) → (bin_of m x i == k) ≡ false → hits m x k (suc i) ≡ hits m x k i
hits_else m x k i e = ap (λ (b : Bool). hits m x k i + (if b then 1 else 0)) e ∙ omega arith

same_bin : (m : ℕ) (x : Numbers) (i : ℕ) → (bin_of m x i == bin_of m x i) ≡ true
same_bin m x i = grind arith

one_more : (a h : ℕ) → ((a + h) % 4294967296 + 1) % 4294967296 ≡ (a + (h + 1)) % 4294967296
one_more a h = omega arith

-- what an invocation finds, and one more
pub count_is : (m : ℕ) (x : Numbers) (i : ℕ) (counts : List ℕ) → AreCounts m x i counts → bin_of m x i < m →
    (number_at counts (bin_of m x i) + 1) % 4294967296 ≡ (number_at x.u0 (bin_of m x i) + hits m x (bin_of m x i) (suc i)) % 4294967296
count_is m x i counts are inside =
    ap (λ t. (t + 1) % 4294967296) (are.value (bin_of m x i) inside)
    ∙ one_more (number_at x.u0 (bin_of m x i)) (hits m x (bin_of m x i) i)
    ∙ ap (λ t. (number_at x.u0 (bin_of m x i) + t) % 4294967296) (sym (hits_here m x (bin_of m x i) i (same_bin m x i)))

bins_differ : (b k : ℕ) → (b == k) ≡ false → k ≢ b
bins_differ b k e = grind arith

bins_agree : (b k : ℕ) → (b == k) ≡ true → b ≡ k
bins_agree b k e = grind arith

value_more : (m : ℕ) (x : Numbers) (i : ℕ) (counts : List ℕ) → AreCounts m x i counts → bin_of m x i < m → (k : ℕ) → k < m →
    number_at (slice_set counts (bin_of m x i) ((number_at counts (bin_of m x i) + 1) % 4294967296)) k ≡ (number_at x.u0 k + hits m x k (suc i)) % 4294967296
value_more m x i counts are inside k l = by_cases (bin_of m x i == k)
    (λ e. subst (λ j. number_at (slice_set counts (bin_of m x i) ((number_at counts (bin_of m x i) + 1) % 4294967296)) j ≡ (number_at x.u0 j + hits m x j (suc i)) % 4294967296)
    (bins_agree (bin_of m x i) k e)
    (get_or-set_same counts (bin_of m x i) ((number_at counts (bin_of m x i) + 1) % 4294967296) 0 (omega (arith, are.length)) ∙ count_is m x i counts are inside))
    (λ e. get_or-set_other counts (bin_of m x i) k ((number_at counts (bin_of m x i) + 1) % 4294967296) 0 (bins_differ (bin_of m x i) k e)
    ∙ are.value k l ∙ ap (λ t. (number_at x.u0 k + t) % 4294967296) (sym (hits_else m x k i e)))

pub counts_more : (m : ℕ) (x : Numbers) (i : ℕ) (counts : List ℕ) → AreCounts m x i counts → bin_of m x i < m →
    AreCounts m x (i + 1) (slice_set counts (bin_of m x i) ((number_at counts (bin_of m x i) + 1) % 4294967296))
counts_more m x i counts are inside = record {
  length = length-set counts (bin_of m x i) ((number_at counts (bin_of m x i) + 1) % 4294967296) ∙ are.length;
  value = λ k l. subst (λ j. number_at (slice_set counts (bin_of m x i) ((number_at counts (bin_of m x i) + 1) % 4294967296)) k ≡ (number_at x.u0 k + hits m x k j) % 4294967296)
      (sym (add-one i)) (value_more m x i counts are inside k l);
}

-- a word of a destination that has one
bin_inside : (m : ℕ) (x : Numbers) (i : ℕ) → 0 < m → bin_of m x i < m
bin_inside m x i room = omega arith

-- one invocation more: what is put, and the counts
pub counted_more : (m : ℕ) (x : Numbers) (i : ℕ) (counts grown : List ℕ) (puts after : List Put) (number value : ℕ) → 0 < m →
    (puts ≡ puts_before Histogram m x i) × AreCounts m x i counts → number ≡ number_at x.t0 i →
    value ≡ (number_at counts (number % m) + 1) % 4294967296 → grown ≡ slice_set counts (number % m) value →
    after ≡ puts ++ kept m (record { word = number % m; value = value }) →
    (after ≡ puts_before Histogram m x (i + 1)) × AreCounts m x (i + 1) grown
counted_more m x i counts grown puts after number value room so_far is_number is_value is_grown is_after =
    let bin : number % m ≡ bin_of m x i = ap (λ t. t % m) is_number in
    let inside : bin_of m x i < m = bin_inside m x i room in
    let here : value ≡ (number_at counts (bin_of m x i) + 1) % 4294967296 = is_value ∙ ap (λ t. (number_at counts t + 1) % 4294967296) bin in
    let same : record { word = number % m; value = value } ≡ put_at Histogram m x i = cc (bin, here, count_is m x i counts so_far.1 inside) in
    let grows : grown ≡ slice_set counts (bin_of m x i) ((number_at counts (bin_of m x i) + 1) % 4294967296) = cc (is_grown, bin, here) in (
      is_after ∙ ap (λ t. t ++ kept m (record { word = number % m; value = value })) so_far.0
          ∙ ap (λ p. puts_before Histogram m x i ++ kept m p) same ∙ sym (puts_more Histogram m x i),
      subst (λ t. AreCounts m x (i + 1) t) (sym grows) (counts_more m x i counts so_far.1 inside),
    )
