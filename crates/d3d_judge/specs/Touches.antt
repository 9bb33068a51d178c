-- What scopes and host calls touch, and who knows it: the rules B1 and B10.
use Rattle.std.specs.Prelude.{◌+◌, ◌==◌, nat_lt, max, min, cond, List, Bool, true, false, not, ◌&&◌}
use Rattle.std.specs.List.{list_any}
use Rattle.clocks.specs.declared.clock.Clock.{Clock}
use Rattle.clocks.specs.Clocks.{Act, OfQueue, OfThread, knows}
use Rattle.enhanced_barriers.specs.declared.barriers.Barrier.{Barrier}
use Rattle.d3d_judge.specs.Commands.{Range, Access, is_change}

-- what is done to words, or to a layout
pub data Doing : Type 0 where
  Reads : Doing
  Writes : Doing
  Changes : Doing  -- a layout change: it counts as a write of the whole subresource
  Names : Doing  -- a barrier that names a layout: it counts as a read of the layout

-- words that an operation or a call touches
pub record Touch : Type 0 where
  pub act : Act
  pub range : Range
  pub doing : Doing

-- an earlier and a later touch of a word conflict
abbrev pub conflict : Doing → Doing → Bool
conflict Reads Reads = false
conflict Reads Writes = true
conflict Reads Changes = true
conflict Reads Names = false
conflict Writes Reads = true
conflict Writes Writes = true
conflict Writes Changes = true
conflict Writes Names = false
conflict Changes Reads = true
conflict Changes Writes = true
conflict Changes Changes = true
conflict Changes Names = true
conflict Names Reads = false
conflict Names Writes = false
conflict Names Changes = true
conflict Names Names = false

-- two ranges share a word
abbrev pub overlaps : Range → Range → Bool
overlaps a b = (a.resource == b.resource) && ((a.sub == b.sub) && nat_lt (max a.first b.first) (min (a.first + a.words) (b.first + b.words)))

-- an earlier and a later touch conflict at a word
abbrev pub meets : Touch → Touch → Bool
meets m t = conflict m.doing t.doing && overlaps m.range t.range

abbrev pub is_operation : Act → Bool
is_operation (OfQueue q n) = true
is_operation (OfThread t n) = false

-- B1 of a touch by a scope: an earlier scope's touch meets it, and the clock does not know that scope
abbrev pub breaks_one : Clock → List Touch → Touch → Bool
breaks_one clock made t = list_any (λ m. is_operation m.act && (meets m t && not (knows clock m.act))) made

-- B10 of a touch by a scope: an earlier host access meets it, and the clock does not know that call
abbrev pub breaks_ten : Clock → List Touch → Touch → Bool
breaks_ten clock made t = list_any (λ m. not (is_operation m.act) && (meets m t && not (knows clock m.act))) made

-- B10 of a host access: an earlier touch meets it, and the clock does not know it
abbrev pub breaks_ten_host : Clock → List Touch → Touch → Bool
breaks_ten_host clock made t = list_any (λ m. meets m t && not (knows clock m.act)) made

abbrev pub doing_of : Access → Doing
doing_of a = cond a.writes Writes Reads

-- what an access touches
abbrev pub touch_of : Act → Access → Touch
touch_of act a = record { act = act; range = a.range; doing = doing_of a }

-- what a barrier of a texture touches
abbrev pub touch_of_barrier : Act → Barrier → Range → Touch
touch_of_barrier act b r = record { act = act; range = r; doing = cond (is_change b) Changes Names }
