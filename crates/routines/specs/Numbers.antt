-- The numbers that a routine reads.
use Rattle.std.specs.Prelude.{ℕ, zero, suc, ◌+◌, List, [], ◌∷◌, ◌++◌, slice_index_or, Option, Some, None}
use Rattle.dx_base.specs.declared.kinds.Routine.{Routine}
use Rattle.dx_base.specs.declared.kinds.View.{View}
use Rattle.routines.specs.declared.bounds.Bound.{Bound}
use Rattle.routines.specs.declared.bounds.Source0.{Source0}
use Rattle.routines.specs.declared.bounds.Source0.TheVariants as source
use Rattle.routines.specs.declared.numbers.Numbers.{Numbers}
use Rattle.routines.specs.declared.uses.Extent.{Extent}
use Rattle.routines.specs.Cells.{Cell, cell}
use Rattle.routines.specs.Uses.{uses_of, words_used, read_of_u0}

-- a word of a view, counted from the view's first one
abbrev pub cell_of : View → ℕ → Cell
cell_of view word = cell view.resource view.sub (view.first + word)

-- the numbers of the first words of a view
abbrev pub first_numbers : (Cell → ℕ) → View → ℕ → List ℕ
first_numbers memory view zero = []
first_numbers memory view (suc k) = first_numbers memory view k ++ memory (cell_of view k) ∷ []

-- the numbers of the words that are used of a register
abbrev pub numbers_at : (Cell → ℕ) → Option View → Extent → ℕ → List ℕ
numbers_at memory None extent n = []
numbers_at memory (Some view) extent n = first_numbers memory view (words_used extent n view.words)

-- the word of the constant register
abbrev pub constant_of : (Cell → ℕ) → Source0 → Extent → ℕ → ℕ
constant_of memory source.None extent n = 0
constant_of memory (source.Word c) extent n = c
constant_of memory (source.Buffer view) extent n = slice_index_or (numbers_at memory (Some view) extent n) 0 0

-- what a routine with so many invocations reads
abbrev pub numbers_of : (Cell → ℕ) → Routine → Bound → ℕ → Numbers
numbers_of memory routine bound n = record {
  t0 = numbers_at memory bound.t0 (uses_of routine).t0 n;
  t1 = numbers_at memory bound.t1 (uses_of routine).t1 n;
  u0 = numbers_at memory bound.u0 (read_of_u0 routine) n;
  c = constant_of memory bound.b0 (uses_of routine).b0 n;
}
