-- What the state of a judge is after events were fed and prepared for.
use Rattle.std.specs.Prelude.{◌≡◌, ◌<◌, ◌+◌, ◌^◌, List, [], map, length, true, Option, Some, None}
use Rattle.std.specs.List.{list_all}
use Rattle.dx_base.specs.Each.{Each}
use Rattle.d3d_machine.specs.declared.events.Event.{Event}
use Rattle.d3d_machine.specs.declared.world.World.{World}
use Rattle.d3d_machine.specs.World.{are_named, is_small_resource}
use Rattle.verdicts.specs.declared.rules.Verdict.TheVariants.{Clean}
use Rattle.d3d_judge.specs.declared.actors.Actor.{Actor}
use Rattle.d3d_judge.specs.declared.judge_parts.JudgeParts.{JudgeParts}
use Rattle.d3d_judge.specs.declared.judge_state.JudgeState.{JudgeState}
use Rattle.d3d_judge.specs.declared.late.Late.{Late}
use Rattle.d3d_judge.specs.declared.made.Prepared.{Prepared}
use Rattle.d3d_judge.specs.Fed.{Fed, fed_more, JudgeView}
use Rattle.d3d_judge.specs.Judged.{judge, judge_after}
use Rattle.d3d_judge.specs.JudgeParts.{Stands}
use Rattle.d3d_judge.specs.Prepared.{IsOf, TakesLate, IsReady}

abbrev pub actors_of : List Prepared → List Actor
actors_of ps = map (λ (p : Prepared). p.actor) ps

-- what contracts see of a judge
abbrev pub view_of : JudgeState → JudgeView
view_of s = record { world = s.kept.fed.world; history = s.kept.fed.history; prepared = actors_of s.prepared.items }

-- the parts stand behind all events but the last
pub record IsLate (f : Fed) (x : JudgeParts) (l : Late) : Type 0 where
  pub event : Event
  pub is : IsOf l.what event
  pub fed : f ≡ fed_more l.before.fed event
  pub takes : TakesLate f.world l.before.fed.history x l.what

-- they stand behind all events but a late one, while no rule is broken
abbrev pub IsBehind : Fed → JudgeParts → Option Late → Type 0
IsBehind f x None = judge f.world f.history ≡ Clean → Stands f.world f.history x
IsBehind f x (Some l) = IsLate f x l

-- nothing is prepared beside a late event
abbrev pub IsAlone : Option Late → List Prepared → Type 0
IsAlone None ps = Unit {0}
IsAlone (Some l) ps = ps ≡ []

-- a judge was fed events of a world whose calls name objects of it, and whose resources are small
pub record IsFed (s : JudgeState) : Type 0 where
  pub named : are_named s.kept.fed.world ≡ true
  pub sizes : list_all is_small_resource s.kept.fed.world.resources ≡ true
  pub counted : s.events ≡ length s.kept.fed.history
  pub behind : IsBehind s.kept.fed s.parts s.late
  pub ready : judge s.kept.fed.world s.kept.fed.history ≡ Clean → Each (IsReady s.kept.fed.world s.kept.fed.history s.parts) s.prepared.items
  pub alone : IsAlone s.late s.prepared.items

-- it may be fed one more of a world
pub record IsJudging (w : World) (s : JudgeState) : Type 0 where
  pub fed : IsFed s
  pub world : s.kept.fed.world ≡ w
  pub clean : judge w s.kept.fed.history ≡ Clean
  pub few : length s.kept.fed.history + 1 < 2 ^ 64

-- so it may while an event is taken
pub record AwaitsMore (s : JudgeState) : Type 0 where
  pub named : are_named s.kept.fed.world ≡ true
  pub sizes : list_all is_small_resource s.kept.fed.world.resources ≡ true
  pub counted : s.events ≡ length s.kept.fed.history
  pub clean : judge s.kept.fed.world s.kept.fed.history ≡ Clean
  pub events : (judge_after s.kept.fed.world s.kept.fed.history).events ≡ length s.kept.fed.history
  pub few : length s.kept.fed.history + 1 < 2 ^ 64
