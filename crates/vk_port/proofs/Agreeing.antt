-- Words that a device writes agree with the numbers that the Vulkan machine writes.
use Rattle.std.specs.Prelude.{slice_index_or}
use Rattle.std.proofs.Common.{◌≡◌, ℕ, zero, suc, ◌+◌, ◌≤◌, Bool, true, false, cond, List, [], ◌∷◌, ◌++◌, map, length, take, drop, replicate, refl, sym, ap, subst, arith, Option, Some, None}
use Rattle.std.proofs.lemmas.List.{length-replicate}
use Rattle.std.proofs.Math.Seq.{take-length}
use Rattle.dx_base.specs.Lists.{put, range_of, changed_at}
use Rattle.vk_types.specs.declared.plan.PlanBuffer.{PlanBuffer}
use Rattle.vk_sync_rules.specs.Numbers.{put_numbers}
use Rattle.vk_sync_rules.specs.NextState.{where_seen}
use Rattle.vk_port.specs.Agreement.{IsNumber, Agree, AgreeEach}
use Rattle.vk_port.specs.Words.{first_words}

agree_long : (xs : List ℕ) (ns : List (Option ℕ)) → Agree xs ns → length xs ≡ length ns
agree_long [] [] h = refl
agree_long [] (n ∷ ns) h = absurd h
agree_long (x ∷ xs) [] h = absurd h
agree_long (x ∷ xs) (n ∷ ns) h = ap suc (agree_long xs ns h.1)

agree_take : (k : ℕ) (xs : List ℕ) (ns : List (Option ℕ)) → Agree xs ns → Agree (take k xs) (take k ns)
agree_take zero xs ns h = tt
agree_take (suc k) [] [] h = tt
agree_take (suc k) [] (n ∷ ns) h = absurd h
agree_take (suc k) (x ∷ xs) [] h = absurd h
agree_take (suc k) (x ∷ xs) (n ∷ ns) h = (h.0, agree_take k xs ns h.1)

agree_drop : (k : ℕ) (xs : List ℕ) (ns : List (Option ℕ)) → Agree xs ns → Agree (drop k xs) (drop k ns)
agree_drop zero xs ns h = h
agree_drop (suc k) [] [] h = tt
agree_drop (suc k) [] (n ∷ ns) h = absurd h
agree_drop (suc k) (x ∷ xs) [] h = absurd h
agree_drop (suc k) (x ∷ xs) (n ∷ ns) h = agree_drop k xs ns h.1

agree_append : (xs ys : List ℕ) (ns ms : List (Option ℕ)) → Agree xs ns → Agree ys ms → Agree (xs ++ ys) (ns ++ ms)
agree_append [] ys [] ms h k = k
agree_append [] ys (n ∷ ns) ms h k = absurd h
agree_append (x ∷ xs) ys [] ms h k = absurd h
agree_append (x ∷ xs) ys (n ∷ ns) ms h k = (h.0, agree_append xs ys ns ms h.1 k)

-- what is not seen may be any number
number_test : (t : Bool) (x : ℕ) (n : Option ℕ) → IsNumber x n → IsNumber x (cond t n None)
number_test true x n h = h
number_test false x n h = tt

agree_seen : (test : ℕ → Bool) (word : ℕ) (xs : List ℕ) (ns : List (Option ℕ)) → Agree xs ns → Agree xs (where_seen test word ns)
agree_seen test word [] [] h = tt
agree_seen test word [] (n ∷ ns) h = absurd h
agree_seen test word (x ∷ xs) [] h = absurd h
agree_seen test word (x ∷ xs) (n ∷ ns) h = (number_test (test word) x n h.0, agree_seen test (word + 1) xs ns h.1)

-- words are the numbers of themselves
agree_known : (xs : List ℕ) → Agree xs (map (λ (x : ℕ). Some x) xs)
agree_known [] = tt
agree_known (x ∷ xs) = (refl, agree_known xs)

-- words written over others agree with numbers written over theirs
pub agree_put : (first : ℕ) (new xs : List ℕ) (ms ns : List (Option ℕ)) → Agree new ms → Agree xs ns → Agree (put first new xs) (put_numbers first ms ns)
agree_put first new xs ms ns h k =
    rw (agree_long xs ns k, agree_long new ms h)
    (agree_take (length ns) (take first xs ++ (new ++ drop (first + length ms) xs)) (take first ns ++ (ms ++ drop (first + length ms) ns))
    (agree_append (take first xs) (new ++ drop (first + length ms) xs) (take first ns) (ms ++ drop (first + length ms) ns) (agree_take first xs ns k)
    (agree_append new (drop (first + length ms) xs) ms (drop (first + length ms) ns) h (agree_drop (first + length ms) xs ns k))))

-- no more words than were opened agree with what may be any number, from the front on
agree_opened : (count : ℕ) (new xs : List ℕ) (ns : List (Option ℕ)) → length new ≤ count → Agree xs ns →
    Agree (take (length xs) (new ++ drop (length new) xs)) (take (length ns) (replicate count None ++ drop count ns))
agree_opened zero [] xs ns few h = rw (take-length xs, take-length ns) h
agree_opened zero (y ∷ new) xs ns few h = absurd (omega (arith, few))
agree_opened (suc count) [] [] [] few h = tt
agree_opened (suc count) [] [] (n ∷ ns) few h = absurd h
agree_opened (suc count) [] (x ∷ xs) [] few h = absurd h
agree_opened (suc count) [] (x ∷ xs) (n ∷ ns) few h = (tt, agree_opened count [] xs ns (omega arith) h.1)
agree_opened (suc count) (y ∷ new) [] [] few h = tt
agree_opened (suc count) (y ∷ new) [] (n ∷ ns) few h = absurd h
agree_opened (suc count) (y ∷ new) (x ∷ xs) [] few h = absurd h
agree_opened (suc count) (y ∷ new) (x ∷ xs) (n ∷ ns) few h = (tt, agree_opened count new xs ns (omega (arith, few)) h.1)

-- items put over others behind the first one
over_more : {X : Type 0} (first : ℕ) (new : List X) (x : X) (xs : List X) →
    take (suc (length xs)) (x ∷ take first xs ++ (new ++ drop (suc first + length new) (x ∷ xs))) ≡ x ∷ take (length xs) (take first xs ++ (new ++ drop (first + length new) xs))
over_more first new x xs =
    let next : suc first + length new ≡ suc (first + length new) = omega arith in
    ap (λ (k : ℕ). take (suc (length xs)) (x ∷ take first xs ++ (new ++ drop k (x ∷ xs)))) next

-- so it is from a place on
agree_open_put : (first count : ℕ) (new xs : List ℕ) (ns : List (Option ℕ)) → length new ≤ count → Agree xs ns →
    Agree (put first new xs) (put_numbers first (replicate count None) ns)
agree_open_put zero count new xs ns few h =
    let words : length new ≡ 0 + length new = omega arith in
    let long = length-replicate {A = Option ℕ} count None in
    let numbers : count ≡ 0 + length (replicate {A = Option ℕ} count None) = omega (arith, long) in
    subst (λ (k : ℕ). Agree (take (length xs) (new ++ drop k xs)) (put_numbers 0 (replicate count None) ns)) words
    (subst (λ (k : ℕ). Agree (take (length xs) (new ++ drop (length new) xs)) (take (length ns) (replicate count None ++ drop k ns))) numbers (agree_opened count new xs ns few h))
agree_open_put (suc first) count new [] [] few h = tt
agree_open_put (suc first) count new [] (n ∷ ns) few h = absurd h
agree_open_put (suc first) count new (x ∷ xs) [] few h = absurd h
agree_open_put (suc first) count new (x ∷ xs) (n ∷ ns) few h =
    subst (λ (ys : List ℕ). Agree ys (put_numbers (suc first) (replicate count None) (n ∷ ns))) (sym (over_more first new x xs))
    (subst (λ (ms : List (Option ℕ)). Agree (x ∷ put first new xs) ms) (sym (over_more first (replicate count None) n ns))
    (h.0, agree_open_put first count new xs ns few h.1))

agree_at : (k : ℕ) (xs : List (List ℕ)) (ns : List (List (Option ℕ))) → AgreeEach xs ns → Agree (slice_index_or xs k []) (slice_index_or ns k [])
agree_at k [] [] h = tt
agree_at k [] (n ∷ ns) h = absurd h
agree_at k (x ∷ xs) [] h = absurd h
agree_at zero (x ∷ xs) (n ∷ ns) h = h.0
agree_at (suc k) (x ∷ xs) (n ∷ ns) h = agree_at k xs ns h.1

agree_changed : (f : List ℕ → List ℕ) (g : List (Option ℕ) → List (Option ℕ)) → ((xs : List ℕ) (ns : List (Option ℕ)) → Agree xs ns → Agree (f xs) (g ns)) →
    (k : ℕ) (xs : List (List ℕ)) (ns : List (List (Option ℕ))) → AgreeEach xs ns → AgreeEach (changed_at f k xs) (changed_at g k ns)
agree_changed f g keep k [] [] h = tt
agree_changed f g keep k [] (n ∷ ns) h = absurd h
agree_changed f g keep k (x ∷ xs) [] h = absurd h
agree_changed f g keep zero (x ∷ xs) (n ∷ ns) h = (keep x n h.0, h.1)
agree_changed f g keep (suc k) (x ∷ xs) (n ∷ ns) h = (h.0, agree_changed f g keep k xs ns h.1)

-- what is read of a buffer agrees with what is seen of its numbers
pub agree_read : (test : ℕ → Bool) (buffer first count : ℕ) (words : List (List ℕ)) (numbers : List (List (Option ℕ))) → AgreeEach words numbers →
    Agree (range_of first count (slice_index_or words buffer [])) (where_seen test first (take count (drop first (slice_index_or numbers buffer []))))
agree_read test buffer first count words numbers h =
    let xs = slice_index_or words buffer [] in
    let ns = slice_index_or numbers buffer [] in
    agree_seen test first (take count (drop first xs)) (take count (drop first ns)) (agree_take count (drop first xs) (drop first ns) (agree_drop first xs ns (agree_at buffer words numbers h)))

-- words written into a buffer
pub agree_written : (buffer first : ℕ) (new : List ℕ) (words : List (List ℕ)) (numbers : List (List (Option ℕ))) (ms : List (Option ℕ)) → AgreeEach words numbers → Agree new ms →
    AgreeEach (changed_at (put first new) buffer words) (changed_at (put_numbers first ms) buffer numbers)
agree_written buffer first new words numbers ms h k = agree_changed (put first new) (put_numbers first ms) (λ xs ns a. agree_put first new xs ms ns k a) buffer words numbers h

-- words that are written by the host are known
pub agree_host : (buffer first : ℕ) (new : List ℕ) (words : List (List ℕ)) (numbers : List (List (Option ℕ))) → AgreeEach words numbers →
    AgreeEach (changed_at (put first new) buffer words) (changed_at (put_numbers first (map (λ (x : ℕ). Some x) new)) buffer numbers)
agree_host buffer first new words numbers h = agree_written buffer first new words numbers (map (λ (x : ℕ). Some x) new) h (agree_known new)

-- words written past an end, or from past one, into a buffer of which as many are opened
pub agree_past : (buffer first count : ℕ) (new : List ℕ) (words : List (List ℕ)) (numbers : List (List (Option ℕ))) → length new ≤ count → AgreeEach words numbers →
    AgreeEach (changed_at (put first new) buffer words) (changed_at (put_numbers first (replicate count None)) buffer numbers)
agree_past buffer first count new words numbers few h = agree_changed (put first new) (put_numbers first (replicate count None)) (λ xs ns a. agree_open_put first count new xs ns few a) buffer words numbers h

-- at first words are zeros, and so are numbers
agree_zeros : (n : ℕ) → Agree (replicate n 0) (replicate n (Some 0))
agree_zeros zero = tt
agree_zeros (suc n) = (refl, agree_zeros n)

pub agree_first : (buffers : List PlanBuffer) → AgreeEach (map first_words buffers) (map (λ (b : PlanBuffer). replicate b.words (Some 0)) buffers)
agree_first [] = tt
agree_first (b ∷ bs) = (agree_zeros b.words, agree_first bs)

-- a copy that is done at once in a device's words, whatever is seen
pub agree_copy : (test : ℕ → Bool) (to to_first from from_first count : ℕ) (words : List (List ℕ)) (numbers : List (List (Option ℕ))) → AgreeEach words numbers →
    AgreeEach (changed_at (put to_first (range_of from_first count (slice_index_or words from []))) to words)
    (changed_at (put_numbers to_first (where_seen test from_first (take count (drop from_first (slice_index_or numbers from []))))) to numbers)
agree_copy test to to_first from from_first count words numbers h =
    agree_written to to_first (range_of from_first count (slice_index_or words from [])) words numbers
    (where_seen test from_first (take count (drop from_first (slice_index_or numbers from [])))) h (agree_read test from from_first count words numbers h)
