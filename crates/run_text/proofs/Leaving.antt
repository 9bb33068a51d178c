-- What a run leaves, one more thread or queue at a time.
use Rattle.trace_text.proofs.Vocabulary.{ℕ, zero, suc, ◌≡◌, ◌+◌, ◌<◌, ◌∙◌, sym, Bool, true, false, List, [], ◌∷◌, ◌++◌, length, get_or, cond, arith, refl, append-nil, filter, range_with_len, map-id, Call, Event}
use Rattle.std.proofs.lemmas.List.FromFn.{filter_of_map_range_with_len_more}
use Rattle.run_text.specs.Left.{script_at, is_left, progress_of, is_unfinished_of}

-- one more number is tried
pub filter_next : (p : ℕ → Bool) (n : ℕ) →
    filter p (range_with_len 0 (n + 1)) ≡ filter p (range_with_len 0 n) ++ cond (p n) (n ∷ []) []
filter_next p n =
    let same : 0 + n ≡ n = omega arith in
    simp map-id at (filter_of_map_range_with_len_more p (λ k. k) 0 n n same)

-- a thread has a script
pub script_is : (ss : List (List Call)) (t : ℕ) (d : List Call) → t < length ss → script_at ss t ≡ get_or ss t d
script_is [] t d below = absurd (omega arith)
script_is (s ∷ ss) zero d below = refl
script_is (s ∷ ss) (suc t) d below = script_is ss t d (omega arith)

-- the number passes
pub kept_next : (p : ℕ → Bool) (n : ℕ) (found next : List ℕ) → found ≡ filter p (range_with_len 0 n) → p n ≡ true →
    next ≡ found ++ n ∷ [] → next ≡ filter p (range_with_len 0 (n + 1))
kept_next p n found next before passes grown = let step = rw passes at (filter_next p n) in cc

-- the number does not
pub left_next : (p : ℕ → Bool) (n : ℕ) (found : List ℕ) → found ≡ filter p (range_with_len 0 n) → p n ≡ false →
    found ≡ filter p (range_with_len 0 (n + 1))
left_next p n found before fails = before ∙ sym (rw (fails, append-nil) at (filter_next p n))

-- a thread is unfinished by its own script
pub left_script : (ss : List (List Call)) (h : List Event) (t : ℕ) (s : List Call) (calls : ℕ) (b : Bool) → t < length ss → s ≡ get_or ss t s →
    calls ≡ length s → b ≡ is_left calls (progress_of t h) → b ≡ is_unfinished_of ss h t
left_script ss h t s calls b below is counts e = rw (script_is ss t s below, ← is, ← counts) e
