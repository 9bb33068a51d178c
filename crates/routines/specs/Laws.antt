-- The laws of the routines.
use Rattle.std.specs.Prelude.{◌≡◌, ℕ, true}
use Rattle.dx_base.specs.Each.{Each}
use Rattle.dx_base.specs.declared.kinds.Routine.{Routine}
use Rattle.routines.specs.declared.bounds.Bound.{Bound}
use Rattle.routines.specs.Actions.{IsAction}
use Rattle.routines.specs.Cells.{Cell}
use Rattle.routines.specs.Effect.{stores_of, cell_of_store, after_routine}
use Rattle.routines.specs.Touches.{touches_of, is_read, is_written}

-- what is stored goes by the numbers of the words that are read
abbrev pub StoresGoByReads : Type 0
StoresGoByReads =
    (routine : Routine) (bound : Bound) (n : ℕ) (x y : Cell → ℕ) →
    ((c : Cell) → is_read (touches_of routine bound n) c ≡ true → x c ≡ y c) → stores_of x routine bound n ≡ stores_of y routine bound n

-- each word that is stored is one of those that are written
abbrev pub StoresAreWrites : Type 0
StoresAreWrites =
    (routine : Routine) (bound : Bound) (n : ℕ) (x : Cell → ℕ) →
    Each (λ s. is_written (touches_of routine bound n) (cell_of_store s) ≡ true) (stores_of x routine bound n)

-- a routine is an action on its accesses
abbrev pub RoutinesAreActions : Type 0
RoutinesAreActions =
    (routine : Routine) (bound : Bound) (n : ℕ) →
    IsAction (is_read (touches_of routine bound n)) (is_written (touches_of routine bound n)) (after_routine routine bound n)
