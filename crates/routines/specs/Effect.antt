-- What a routine stores.
use Rattle.std.specs.Prelude.{ℕ, ◌+◌, List, [], ◌∷◌, map, Option, Some, None, if◌then◌else◌}
use Rattle.dx_base.specs.declared.kinds.Routine.{Routine}
use Rattle.dx_base.specs.declared.kinds.View.{View}
use Rattle.routines.specs.declared.bounds.Bound.{Bound}
use Rattle.routines.specs.declared.numbers.Numbers.{Numbers}
use Rattle.routines.specs.declared.puts.Put.{Put}
use Rattle.routines.specs.declared.stores.Store.{Store}
use Rattle.routines.specs.Cells.{Cell, cell, same_cell}
use Rattle.routines.specs.Numbers.{numbers_of}
use Rattle.routines.specs.Puts.{puts_of}

-- a number for a word of a view
abbrev pub store_in : View → Put → Store
store_in view p = record { resource = view.resource; sub = view.sub; word = view.first + p.word; value = p.value }

-- what is stored through u0, by the numbers that are read; nothing where it is not bound
abbrev pub stores_by : Routine → Option View → ℕ → Numbers → List Store
stores_by routine None n x = []
stores_by routine (Some view) n x = map (store_in view) (puts_of routine n view.words x)

-- what a routine with n invocations stores, in order
abbrev pub stores_of : (Cell → ℕ) → Routine → Bound → ℕ → List Store
stores_of memory routine bound n = stores_by routine bound.u0 n (numbers_of memory routine bound n)

-- the cell of a store
abbrev pub cell_of_store : Store → Cell
cell_of_store s = cell s.resource s.sub s.word

-- memory after a store
abbrev pub stored : Store → (Cell → ℕ) → Cell → ℕ
stored s memory c = if same_cell c (cell_of_store s) then s.value else memory c

-- memory after some, in order
abbrev pub after_stores : List Store → (Cell → ℕ) → Cell → ℕ
after_stores [] memory = memory
after_stores (s ∷ ss) memory = after_stores ss (stored s memory)

-- memory after a routine
abbrev pub after_routine : Routine → Bound → ℕ → (Cell → ℕ) → Cell → ℕ
after_routine routine bound n memory = after_stores (stores_of memory routine bound n) memory
