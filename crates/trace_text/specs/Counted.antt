-- The counts beside a list of objects.
use Rattle.std.specs.Prelude.{ℕ, ◌≡◌, ◌≤◌, List, map}
use Rattle.line_forms.specs.declared.kind.Kind.{Kind}
use Rattle.trace_lines.specs.declared.object.Declared.{Declared}
use Rattle.trace_lines.specs.Kinds.{count_of, most_of, words_of_all}
use Rattle.trace_lines.specs.Things.{kinds}

-- the numbers are the counts of the objects by kind and the words of all of them, and within the limits
pub record IsCounted (ds : List Declared) (counts : List ℕ) (words : ℕ) : Type 0 where
  pub counts_are : counts ≡ map (λ k. count_of k ds) kinds
  pub words_are : words ≡ words_of_all ds
  pub few : (k : Kind) → count_of k ds ≤ most_of k
  pub few_words : words ≤ 1048576
