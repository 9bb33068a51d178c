-- What the rules have at first: the clocks, and what they read of each resource.
use Rattle.std.specs.Prelude.{ℕ, List, [], ◌∷◌, map, Bool, false, Option, Some, None}
use Rattle.dx_base.specs.declared.kinds.Home.{Home}
use Rattle.dx_base.specs.declared.kinds.Home.TheVariants as home
use Rattle.dx_flags.specs.declared.layouts.Layout.{Layout}
use Rattle.dx_flags.specs.declared.layouts.Layout.TheVariants as layout
use Rattle.d3d_machine.specs.declared.world.Resource.{Resource}
use Rattle.d3d_machine.specs.declared.world.Resource.TheVariants.{Buffer}
use Rattle.d3d_machine.specs.declared.world.World.{World}
use Rattle.d3d_judge.specs.Carried.{Clocks, item_or, first_clocks}
use Rattle.d3d_judge.specs.Commands.{Range}

-- what the rules read of a resource: its home, whether it is a texture, and one of simultaneous access, its layout at first, and
-- the words of each subresource. A buffer is one subresource, whose layout is COMMON
pub record Traits : Type 0 where
  pub home : Home
  pub texture : Bool
  pub shared : Bool
  pub start : Layout
  pub subs : List ℕ

-- a resource without words, as a dead one is
abbrev pub no_traits : Traits
no_traits = record { home = home.Enhanced; texture = false; shared = false; start = layout.Common; subs = [] }

abbrev pub traits_of : Option Resource → Traits
traits_of None = no_traits
traits_of (Some (Buffer h words)) = record { home = h; texture = false; shared = false; start = layout.Common; subs = words ∷ [] }

pub record Setting : Type 0 where
  pub clocks : Clocks
  pub resources : List Traits

abbrev pub setting_of : World → Setting
setting_of w = record { clocks = first_clocks w; resources = map traits_of w.resources }

-- what the rules read of the resource of that id
abbrev pub traits_at : Setting → ℕ → Traits
traits_at base r = item_or no_traits base.resources r

-- the layouts of all subresources of all resources at first
abbrev pub first_layouts : List Traits → List (List Layout)
first_layouts rs = map (λ r. map (λ _. r.start) r.subs) rs

-- the layout of the subresource that a range is of
abbrev pub layout_at : List (List Layout) → Range → Layout
layout_at layouts r = item_or layout.Common (item_or [] layouts r.resource) r.sub
