-- The accesses of a routine. They go by the views and by the number of invocations, and never by memory.
use Rattle.std.specs.Prelude.{ℕ, ◌+◌, ◌==◌, ◌&&◌, nat_lt, nat_le, Bool, true, false, List, [], ◌∷◌, ◌++◌, Option, Some, None, if◌then◌else◌, ◌^◌, IsTrue}
use Rattle.std.specs.List.{list_any}
use Rattle.dx_base.specs.declared.kinds.Routine.{Routine}
use Rattle.dx_base.specs.declared.kinds.View.{View}
use Rattle.dx_flags.specs.declared.accesses.Access.{Access}
use Rattle.dx_flags.specs.AccessNames.{UNORDERED_ACCESS, SHADER_RESOURCE, CONSTANT_BUFFER}
use Rattle.dx_flags.specs.Accesses.{one_access}
use Rattle.routines.specs.declared.bounds.Bound.{Bound}
use Rattle.routines.specs.declared.bounds.Source0.{Source0}
use Rattle.routines.specs.declared.bounds.Source0.TheVariants as source
use Rattle.routines.specs.declared.touches.Touch.{Touch}
use Rattle.routines.specs.declared.uses.Extent.{Extent}
use Rattle.routines.specs.Cells.{Cell}
use Rattle.routines.specs.Uses.{uses_of, words_used}

-- the words of a view, from its first one on; none where there are none
abbrev pub touch : View → ℕ → Access → Bool → Bool → List Touch
touch view words access reads writes =
    if words == 0 then []
    else record { resource = view.resource; sub = view.sub; first = view.first; words = words; access = access; reads = reads; writes = writes } ∷ []

-- what is used of a register
abbrev pub touch_of : Option View → Extent → ℕ → Access → Bool → Bool → List Touch
touch_of None extent n access reads writes = []
touch_of (Some view) extent n access reads writes = touch view (words_used extent n view.words) access reads writes

-- the view that stands for the constant register, if one does
abbrev pub view_of : Source0 → Option View
view_of source.None = None
view_of (source.Word c) = None
view_of (source.Buffer view) = Some view

-- the accesses of a routine with so many invocations, register by register
abbrev pub touches_of : Routine → Bound → ℕ → List Touch
touches_of routine bound n =
    touch_of bound.t0 (uses_of routine).t0 n (one_access SHADER_RESOURCE) true false
    ++ (touch_of bound.t1 (uses_of routine).t1 n (one_access SHADER_RESOURCE) true false
    ++ (touch_of (view_of bound.b0) (uses_of routine).b0 n (one_access CONSTANT_BUFFER) true false
    ++ touch_of bound.u0 (uses_of routine).u0 n (one_access UNORDERED_ACCESS) (uses_of routine).updates true))

-- an access is of a cell
abbrev pub has_cell : Cell → Touch → Bool
has_cell c t =
    (t.resource.0 == c.resource.0) && ((t.sub == c.sub) && (nat_le t.first c.word && nat_lt c.word (t.first + t.words)))

-- some access reads a cell, or writes it
abbrev pub is_read : List Touch → Cell → Bool
is_read touches c = list_any (λ (t : Touch). t.reads && has_cell c t) touches

abbrev pub is_written : List Touch → Cell → Bool
is_written touches c = list_any (λ (t : Touch). t.writes && has_cell c t) touches

-- the words of a view, if there is one, end below 2 ^ 32
abbrev pub ends_below : Option View → Bool
ends_below None = true
ends_below (Some view) = nat_lt (view.first + view.words) (2 ^ 32)

-- the same as a condition of calls
abbrev pub EndsBelow : Option View → Type 0
EndsBelow bound = IsTrue (ends_below bound)

-- the words of the views of all registers do
pub record AreViews (bound : Bound) : Type 0 where
  pub t0 : EndsBelow bound.t0
  pub t1 : EndsBelow bound.t1
  pub u0 : EndsBelow bound.u0
  pub b0 : EndsBelow (view_of bound.b0)
