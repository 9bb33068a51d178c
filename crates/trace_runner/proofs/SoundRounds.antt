-- What a trace of rounds says is sound.
use Rattle.std.proofs.Common.{Bool, ℕ, ◌≡◌, ◌<◌, ◌≤◌, ◌*◌, ◌^◌, ◌&&◌, nat_le, nat_lt, true, List, [], ◌∷◌, length, sum_by, refl, arith, lit≤}
use Rattle.std.specs.Cmp.{IsEquivalence}
use Rattle.std.specs.Cmp.Rules.{comparing}
use Rattle.std.specs.List.{All, flat_map, list_all}
use Rattle.std.specs.Str.{bytes_eq}
use Rattle.std.proofs.lemmas.Bool.{and_from, le-leb, lt-ltb}
use Rattle.std.proofs.lemmas.List.Elements.{All-head, All-tail}
use Rattle.std.proofs.lemmas.List.Sums.{sum_by-append, sum_by-cons}
use Rattle.std.proofs.lemmas.Map.Made.{IsDistinct-from_count}
use Rattle.d3d_machine.specs.declared.calls.Call.{Call}
use Rattle.d3d_machine.specs.World.{is_named}
use Rattle.trace_words.specs.Words.{is_name}
use Rattle.line_forms.specs.declared.kind.Kind.{Kind}
use Rattle.line_forms.specs.declared.kind.Kind.TheVariants as kind
use Rattle.trace_lines.specs.Kinds.{count_of, most_of}
use Rattle.d3d_machine.specs.Counts.{lists_of_call}
use Rattle.trace_text.specs.Sound.{is_wide, is_sound_call, IsSound}
use Rattle.trace_text.specs.WorldOf.{objects_from}
use Rattle.trace_runner.specs.Rounds.{Round, AreRising, IsSmall, AreSmall, calls_of, world_of_rounds, names_of_rounds, objects_of_rounds, value_of_rounds}

-- four words of 32 bits are data words
bits : (ws : List ℕ) → All (λ n. n < 2 ^ 32) ws → list_all (λ n. nat_lt n (2 ^ 32)) ws ≡ true
bits [] all = refl
bits (n ∷ ws) all =
    and_from (nat_lt n (2 ^ 32)) (list_all (λ n. nat_lt n (2 ^ 32)) ws) (lt-ltb n (2 ^ 32) (All-head (λ n. n < 2 ^ 32) n ws all))
    (bits ws (All-tail (λ n. n < 2 ^ 32) n ws all))

abbrev are_data_words : List ℕ → Bool
are_data_words ws = nat_le 1 (length ws) && (nat_le (length ws) 256 && list_all (λ n. nat_lt n (2 ^ 32)) ws)

data_words : (ws : List ℕ) → length ws ≡ 4 → All (λ n. n < 2 ^ 32) ws → are_data_words ws ≡ true
data_words ws four all =
    and_from (nat_le 1 (length ws)) (nat_le (length ws) 256 && list_all (λ n. nat_lt n (2 ^ 32)) ws) (le-leb 1 (length ws) (omega (arith, four)))
    (and_from (nat_le (length ws) 256) (list_all (λ n. nat_lt n (2 ^ 32)) ws) (le-leb (length ws) 256 (omega (arith, four))) (bits ws all))

-- the calls of rounds are sound
sound_calls : (v : ℕ) (rounds : List Round) → AreRising v rounds → AreSmall rounds → list_all is_sound_call (flat_map calls_of rounds) ≡ true
unfolding calls_of
sound_calls v [] rising small = refl
sound_calls v (r ∷ rounds) rising small =
    let one = All-head (λ r. IsSmall r) r rounds small in
    let words : are_data_words r.words ≡ true = data_words r.words rising.0.four one.words in
    let value : is_wide r.value ≡ true = lt-ltb r.value (2 ^ 64) one.value in
    let more = sound_calls r.value rounds rising.1 (All-tail (λ r. IsSmall r) r rounds small) in
    rw (words, value, more) refl

-- they name objects of their trace
named_calls : (all rounds : List Round) → list_all (is_named (world_of_rounds all)) (flat_map calls_of rounds) ≡ true
unfolding calls_of
named_calls all [] = refl
named_calls all (r ∷ rounds) = named_calls all rounds

-- each round has eight calls
pub count_calls : (rounds : List Round) → length (flat_map calls_of rounds) ≡ 8 * length rounds
unfolding calls_of
count_calls [] = refl
count_calls (r ∷ rounds) = omega (arith, count_calls rounds)

-- one list is executed in a round
count_lists : (rounds : List Round) → sum_by lists_of_call (flat_map calls_of rounds) ≡ length rounds
unfolding calls_of
count_lists [] = refl
count_lists (r ∷ rounds) =
    omega (arith, sum_by-append lists_of_call (calls_of r) (flat_map calls_of rounds), count_lists rounds)

few : (k : Kind) → count_of k objects_of_rounds ≤ most_of k
few kind.Queue = lit≤ tt
few kind.Fence = lit≤ tt
few kind.Resource = lit≤ tt
few kind.Allocator = lit≤ tt
few kind.List = lit≤ tt
few kind.Thread = lit≤ tt

equal_bytes : IsEquivalence bytes_eq
equal_bytes = search (comparing)

-- what a trace of at most 4,096 rounds says is sound
pub sound_rounds : (rounds : List Round) → AreRising 0 rounds → AreSmall rounds → length rounds ≤ 4096 → IsSound (value_of_rounds rounds)
unfolding is_name objects_from
sound_rounds rounds rising small most = record {
  named_all = refl;
  spelled = refl;
  different = IsDistinct-from_count equal_bytes names_of_rounds refl;
  objects = refl;
  few_objects = few;
  few_queues = lit≤ tt;
  few_words = lit≤ tt;
  few_threads = lit≤ tt;
  calls = rw (sound_calls 0 rounds rising small) refl;
  named = rw (named_calls rounds rounds) refl;
  few_calls = omega (arith, sum_by-cons (λ (s : List Call). length s) (flat_map calls_of rounds) [], count_calls rounds, most);
  few_lists = omega (arith, sum_by-cons (λ (s : List Call). sum_by lists_of_call s) (flat_map calls_of rounds) [], count_lists rounds, most);
}
