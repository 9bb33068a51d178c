-- The counts of objects, by the places of their kinds.
use Rattle.trace_text.proofs.Vocabulary.{ℕ, ◌≡◌, ◌≤◌, ◌+◌, ◌∙◌, false, List, [], ◌∷◌, ◌++◌, map, refl, add-zero, arith, lit≤, slice_set, if◌then◌else◌, sum_by_push, Declared, Kind, kind_of, kind_code, same_kind, count_of, most_of, words_of_object, is_one_too_many}
use Rattle.std.specs.Prelude.{slice_index_or}
use Rattle.line_forms.specs.declared.kind.Kind.TheVariants as kind
use Rattle.trace_text.specs.Counted.{IsCounted}
use Rattle.trace_lines.specs.Things.{kinds}
use Rattle.trace_text.proofs.Says.{kinds_same}
use Rattle.trace_text.proofs.SoundValues.{count_push, few_more, within_limits}

-- the number at a kind's place
pub place_number : (f : Kind → ℕ) (k : Kind) → slice_index_or (map f kinds) (kind_code k) 0 ≡ f k
place_number f kind.Queue = refl
place_number f _ = refl

-- one more at a kind's place
place_more : (f : Kind → ℕ) (k : Kind) → slice_set (map f kinds) (kind_code k) (f k + 1) ≡ map (λ j. f j + (if same_kind j k then 1 else 0)) kinds
place_more f kind.Queue = simp add-zero
place_more f _ = simp add-zero

-- one more object
pub counts_push : (ds : List Declared) (d : Declared) →
    slice_set (map (λ k. count_of k ds) kinds) (kind_code (kind_of d)) (count_of (kind_of d) ds + 1) ≡ map (λ k. count_of k (ds ++ d ∷ [])) kinds
counts_push ds d =
    place_more (λ k. count_of k ds) (kind_of d)
    ∙ rw (count_push kind.Queue ds d, count_push kind.Fence ds d, count_push kind.Resource ds d, count_push kind.Allocator ds d, count_push kind.List ds d, count_push kind.Thread ds d) refl

-- the number at the place of an object's kind, before one more
pub number_there : (ds : List Declared) (counts : List ℕ) (words : ℕ) (k : Kind) (place : ℕ) → IsCounted ds counts words → place ≡ kind_code k →
    slice_index_or counts place 0 ≡ count_of k ds
number_there ds counts words k place is at = rw (is.counts_are, at) (place_number (λ j. count_of j ds) k)

-- no kind has more than 4,096 objects
few_all : (k : Kind) → most_of k ≤ 4096
few_all kind.Queue = lit≤ tt
few_all _ = lit≤ tt

pub number_small : (ds : List Declared) (counts : List ℕ) (words : ℕ) (k : Kind) (place : ℕ) → IsCounted ds counts words → place ≡ kind_code k →
    slice_index_or counts place 0 ≤ 4096
number_small ds counts words k place is at = omega (arith, number_there ds counts words k place is at, is.few k, few_all k)

-- one more object is counted
pub counted_push : (ds : List Declared) (d : Declared) (counts : List ℕ) (words : ℕ) (k : Kind) (place more : ℕ) → IsCounted ds counts words →
    k ≡ kind_of d → place ≡ kind_code k → more ≡ words_of_object d → is_one_too_many ds d ≡ false →
    IsCounted (ds ++ d ∷ []) (slice_set counts place (slice_index_or counts place 0 + 1)) (words + more)
counted_push ds d counts words k place more is of at adds room =
    let within = within_limits ds d room in
    let there = number_there ds counts words k place is at in
    record {
      counts_are = rw (there, is.counts_are, at, of) (counts_push ds d);
      words_are = rw (sum_by_push words_of_object ds d) (omega (arith, is.words_are, adds));
      few = λ j. few_more ds d j (most_of j) (λ same. let one = kinds_same j (kind_of d) in rw one (within.count)) (is.few j);
      few_words = omega (arith, is.words_are, adds, within.words);
    }
