-- The judge: a fold over what happens at the events of a history.
use Rattle.std.specs.Prelude.{ℕ, suc, List, [], ◌∷◌, ◌++◌, Bool, true, false, Option, Some, None}
use Rattle.clocks.specs.declared.clock.Clock.{Clock}
use Rattle.clocks.specs.Clocks.{OfQueue}
use Rattle.dx_flags.specs.declared.layouts.Layout.{Layout}
use Rattle.d3d_machine.specs.declared.events.Event.{Event}
use Rattle.d3d_machine.specs.declared.world.World.{World}
use Rattle.verdicts.specs.declared.rules.Rule.{Rule}
use Rattle.verdicts.specs.declared.rules.Rule.TheVariants as rule
use Rattle.verdicts.specs.declared.rules.Verdict.{Verdict}
use Rattle.verdicts.specs.declared.rules.Verdict.TheVariants.{Clean, Broken}
use Rattle.d3d_judge.specs.Carried.{Clocks, Pending, call_clock, head_of, next_number, queue_joined, carried}
use Rattle.d3d_judge.specs.Commands.{Range, Command}
use Rattle.d3d_judge.specs.Made.{host_touch}
use Rattle.d3d_judge.specs.Happenings.{Happening, Calls, Wakes, Completes, Deed, Gives, SetsFence, WaitsFor, Asks, Stores, Loads, Nothing, Work, Executes, Signals, Waits, happenings}
use Rattle.d3d_judge.specs.Scopes.{Scoped, first_scope, scope_all, or_rule, wholes}
use Rattle.d3d_judge.specs.Setting.{Traits, Setting, setting_of, first_layouts}
use Rattle.d3d_judge.specs.Touches.{Reads, Writes, Touch, breaks_ten_host}

-- the judge's state: the clocks, all that was touched, which is never pruned, the layouts of all subresources, the lost words, the
-- number of events, and what is said of them
pub record Judged : Type 0 where
  pub clocks : Clocks
  pub made : List Touch
  pub layouts : List (List Layout)
  pub lost : List Range
  pub events : ℕ
  pub verdict : Verdict

-- the scope of an execute that completes
abbrev pub scope_of : Setting → Judged → ℕ → Pending → List Command → Scoped
scope_of base j q p cs = scope_all base j.made (queue_joined j.clocks q p) (OfQueue q (next_number j.clocks q)) (first_scope j.layouts j.lost) cs

-- what is found of an event: the first rule that it breaks, what it touches, and the layouts and lost words after it
pub record Found : Type 0 where
  pub broken : Option Rule
  pub touched : List Touch
  pub layouts : List (List Layout)
  pub lost : List Range

-- of an event that touches nothing
abbrev pub found_nothing : Judged → Found
found_nothing j = record { broken = None; touched = []; layouts = j.layouts; lost = j.lost }

abbrev pub found_in_scope : Scoped → Found
found_in_scope s = record { broken = s.broken; touched = s.touched; layouts = s.layouts; lost = s.lost }

abbrev pub found_in_work : Setting → Judged → ℕ → Pending → Work → Found
found_in_work base j q p (Executes cs) = found_in_scope (scope_of base j q p cs)
found_in_work base j q p (Signals f v) = found_nothing j
found_in_work base j q p (Waits f v) = found_nothing j

abbrev pub found_in_head : Setting → Judged → ℕ → Option Pending → Found
found_in_head base j q None = found_nothing j
found_in_head base j q (Some p) = found_in_work base j q p p.what

abbrev pub found_by_host : Judged → Clock → Touch → Found
found_by_host j clock t = record {
  broken = or_rule (breaks_ten_host clock j.made t) rule.B10 None;
  touched = t ∷ [];
  layouts = j.layouts;
  lost = j.lost;
}

abbrev pub found_in_call : Judged → ℕ → Deed → Found
found_in_call j t (Gives q o) = found_nothing j
found_in_call j t (SetsFence f v) = found_nothing j
found_in_call j t (WaitsFor f v) = found_nothing j
found_in_call j t (Asks f) = found_nothing j
found_in_call j t (Stores r) = found_by_host j (call_clock j.clocks t) (host_touch j.clocks t r Writes)
found_in_call j t (Loads r) = found_by_host j (call_clock j.clocks t) (host_touch j.clocks t r Reads)
found_in_call j t Nothing = found_nothing j

abbrev pub found_in : Setting → Judged → Happening → Found
found_in base j (Calls t what) = found_in_call j t what
found_in base j (Wakes t) = found_nothing j
found_in base j (Completes q) = found_in_head base j q (head_of j.clocks q)

-- one event more; at a broken rule the verdict alone changes beside
abbrev pub judged_next : Option Rule → Found → Clocks → Judged → Judged
judged_next None f clocks j = record j { clocks = clocks; made = j.made ++ f.touched; layouts = f.layouts; lost = f.lost; events = suc j.events }
judged_next (Some r) f clocks j = record j { events = suc j.events; verdict = Broken r (suc j.events) }

abbrev pub unless_broken : Verdict → Judged → Judged → Judged
unless_broken Clean next j = next
unless_broken (Broken r n) next j = j

-- the judge after an event; after a broken rule nothing changes
abbrev pub judge_step : Setting → Judged → Happening → Judged
judge_step base j e = unless_broken j.verdict (judged_next (found_in base j e).broken (found_in base j e) (carried j.clocks e) j) j

abbrev pub judge_all : Setting → Judged → List Happening → Judged
judge_all base j [] = j
judge_all base j (e ∷ es) = judge_all base (judge_step base j e) es

abbrev pub lost_of : Bool → ℕ → List ℕ → List Range
lost_of true id subs = wholes id 0 None subs
lost_of false id subs = []

-- textures begin with lost contents, buffers as zeros
abbrev pub first_lost : ℕ → List Traits → List Range
first_lost n [] = []
first_lost n (r ∷ rs) = lost_of r.texture n r.subs ++ first_lost (suc n) rs

abbrev pub first_judged : Setting → Judged
first_judged base = record {
  clocks = base.clocks;
  made = [];
  layouts = first_layouts base.resources;
  lost = first_lost 0 base.resources;
  events = 0;
  verdict = Clean;
}

-- what is said of events
abbrev pub judge_happenings : Setting → List Happening → Verdict
judge_happenings base es = (judge_all base (first_judged base) es).verdict

-- the judge after a history
abbrev pub judge_after : World → List Event → Judged
judge_after w h = judge_all (setting_of w) (first_judged (setting_of w)) (happenings w h)

-- what is said of a history
abbrev pub judge : World → List Event → Verdict
judge w h = (judge_after w h).verdict
