-- Scopes whose commands are all copies, and the tables by which they are judged.
use Rattle.std.specs.Prelude.{ℕ, ◌+◌, ◌/◌, ◌≡◌, ◌<◌, ◌≤◌, ◌++◌, List, [], ◌∷◌, map, length, Bool, true, false, not, Option, None}
use Rattle.std.specs.List.{list_any}
use Rattle.dx_base.specs.Each.{Each}
use Rattle.dx_flags.specs.declared.atoms.Kind.{Kind}
use Rattle.dx_flags.specs.declared.layouts.Layout.{Layout}
use Rattle.dx_flags.specs.declared.layouts.Layout.TheVariants as layout
use Rattle.clocks.specs.declared.clock.Clock.{Clock}
use Rattle.clocks.specs.Clocks.{Act, OfQueue, OfThread, number, knows, with_op}
use Rattle.d3d_machine.specs.declared.calls.Record.{Record}
use Rattle.d3d_machine.specs.declared.calls.Record.TheVariants.{Copy}
use Rattle.d3d_machine.specs.declared.world.Resource.{Resource}
use Rattle.d3d_machine.specs.declared.world.World.{World}
use Rattle.verdicts.specs.declared.rules.Rule.{Rule}
use Rattle.verdicts.specs.declared.rules.Rule.TheVariants as rule
use Rattle.d3d_judge.specs.declared.word_touches.WordAccess.{WordAccess}
use Rattle.d3d_judge.specs.declared.sub_tables.SubTables.{SubTables}
use Rattle.d3d_judge.specs.Carried.{item_or}
use Rattle.d3d_judge.specs.CarriedClocks.{IsSized}
use Rattle.d3d_judge.specs.Commands.{Range, Access, Command, Accesses, Bars, copied_from, copied_to, command_of}
use Rattle.d3d_judge.specs.Happenings.{Work, Executes, Signals, Waits}
use Rattle.d3d_judge.specs.Setting.{Traits, no_traits, traits_of, setting_of}
use Rattle.d3d_judge.specs.Touches.{Touch}
use Rattle.d3d_judge.specs.Scopes.{Opened, Scoped, traits_allow, breaks_three, or_rule, scope_all}
use Rattle.d3d_judge.specs.WordTouches.{AreAllTied, AreShaped, HasTablesOfQueue, words_at}

-- the words that a copy reads, and those that it writes
abbrev pub words_from : Record → WordAccess
words_from (Copy d doff s soff bytes) = record { resource = s.0; sub = 0; first = soff / 4; words = bytes / 4; writes = false }

abbrev pub words_to : Record → WordAccess
words_to (Copy d doff s soff bytes) = record { resource = d.0; sub = 0; first = doff / 4; words = bytes / 4; writes = true }

abbrev pub range_by : WordAccess → Range
range_by a = record { resource = a.resource; sub = a.sub; first = a.first; words = a.words }

-- what a copy accesses
abbrev pub copy_accesses : Record → List Access
copy_accesses what = copied_from (range_by (words_from what)) ∷ copied_to (range_by (words_to what)) ∷ []

-- a range lies inside its subresource
pub record IsIn (rs : List Traits) (r : Range) : Type 0 where
  pub sub : r.sub < length (item_or no_traits rs r.resource).subs
  pub words : r.first + r.words ≤ words_at rs r.resource r.sub

-- each access of a command lies inside its subresource
abbrev pub AreIn : List Traits → Command → Type 0
AreIn rs (Accesses part xs) = Each (λ a. IsIn rs a.range) xs
AreIn rs (Bars b) = Unit {0}

-- and so does each of work
abbrev pub IsWorkIn : List Traits → Work → Type 0
IsWorkIn rs (Executes cs) = Each (AreIn rs) cs
IsWorkIn rs (Signals f v) = Unit {0}
IsWorkIn rs (Waits f v) = Unit {0}

-- an act of a queue or thread of a world, which a clock knows
pub record IsDone (w : World) (counts : Clock) (m : Touch) : Type 0 where
  pub queue : (q k : ℕ) → m.act ≡ OfQueue q k → q < length w.queues
  pub thread : (t k : ℕ) → m.act ≡ OfThread t k → t < length w.scripts
  pub known : knows counts m.act ≡ true

-- an opened access as a touch
abbrev pub touch_opened : Act → Opened → Touch
touch_opened act o = record { act = act; range = o.range; doing = o.doing }

-- a scope of operation n of a queue, so far, whose commands are copies: all that was made before is complete, and its clock
-- without its own number knows what its queue has completed; it touched what it opened, no barrier came, and nothing is lost
pub record InScope (w : World) (made : List Touch) (joint counts : Clock) (q n : ℕ) (s : Scoped) : Type 0 where
  pub done : Each (IsDone w counts) made
  pub queue : q < length w.queues
  pub next : number counts.queues q < n
  pub own : number counts.queues q ≤ number joint.queues q
  pub touched : s.touched ≡ map (touch_opened (OfQueue q n)) s.opened
  pub bare : Each (λ o. o.adders ≡ []) s.opened
  pub lost : s.lost ≡ []

-- the rule that copies break, the least at the first that breaks one, and where they break none, the tables after them
pub record AreJudged (w : World) (made : List Touch) (joint counts : Clock) (q n : ℕ) (s : Scoped) (whats : List Record) (new : List (List SubTables)) (r : Option Rule) : Type 0 where
  pub rule : r ≡ (scope_all (setting_of w) made joint (OfQueue q n) s (map command_of whats)).broken
  pub scope : r ≡ None → InScope w made joint counts q n (scope_all (setting_of w) made joint (OfQueue q n) s (map command_of whats))
  pub ties : r ≡ None → AreAllTied (made ++ (scope_all (setting_of w) made joint (OfQueue q n) s (map command_of whats)).touched) new

-- so it is in every scope, whatever was touched, whose clock is that one but for its own number
abbrev pub JudgesCopies : World → List (List SubTables) → Clock → Clock → ℕ → ℕ → List Record → List (List SubTables) → Option Rule → Type 0
JudgesCopies w old clock counts q n whats new r =
    (made : List Touch) (s : Scoped) (joint : Clock) → clock ≡ with_op joint q n → s.broken ≡ None → InScope w made joint counts q n s →
    AreAllTied (made ++ s.touched) old → AreJudged w made joint counts q n s whats new r

-- the tables of a copy's words are there, and its words lie inside their buffers
pub record IsCopyReady (w : World) (all : List (List SubTables)) (q : ℕ) (what : Record) : Type 0 where
  pub from : IsIn (map traits_of w.resources) (range_by (words_from what))
  pub to : IsIn (map traits_of w.resources) (range_by (words_to what))
  pub from_tables : HasTablesOfQueue all q (words_from what)
  pub to_tables : HasTablesOfQueue all q (words_to what)

-- what judging the copies of a scope asks of the tables and of its clocks
pub record AreCopiesReady (w : World) (all : List (List SubTables)) (clock counts : Clock) (q : ℕ) (whats : List Record) : Type 0 where
  pub small : (r s : ℕ) → words_at (map traits_of w.resources) r s ≤ 262144
  pub shaped : AreShaped (length w.queues) (length w.scripts) (map traits_of w.resources) all
  pub clock_sized : IsSized (length w.queues) (length w.scripts) clock
  pub counts_sized : IsSized (length w.queues) (length w.scripts) counts
  pub queue : q < length w.queues
  pub copies : Each (IsCopyReady w all q) whats

-- the state of a resource does not allow a copy from it, or to it: B3 of the copy, in whatever layouts
abbrev pub BreaksState : World → Record → Bool → Type 0
BreaksState w what b = (layouts : List (List Layout)) → b ≡ list_any (breaks_three (setting_of w) layouts) (copy_accesses what)

-- the state of a resource does not allow a kind of access to it; of a buffer no layout plays a part
abbrev pub refuses_kind : Option Resource → Kind → Bool
refuses_kind o k = not (traits_allow (traits_of o) layout.Common k)

-- what asking the tables of an access needs
pub record CanAsk (w : World) (all : List (List SubTables)) (clock : Clock) (a : WordAccess) : Type 0 where
  pub small : (r s : ℕ) → words_at (map traits_of w.resources) r s ≤ 262144
  pub shaped : AreShaped (length w.queues) (length w.scripts) (map traits_of w.resources) all
  pub sized : IsSized (length w.queues) (length w.scripts) clock
  pub inside : IsIn (map traits_of w.resources) (range_by a)

-- what adding an access of a queue to the tables needs
pub record CanAdd (w : World) (all : List (List SubTables)) (q : ℕ) (a : WordAccess) : Type 0 where
  pub small : (r s : ℕ) → words_at (map traits_of w.resources) r s ≤ 262144
  pub shaped : AreShaped (length w.queues) (length w.scripts) (map traits_of w.resources) all
  pub queue : q < length w.queues
  pub inside : IsIn (map traits_of w.resources) (range_by a)
  pub tables : HasTablesOfQueue all q a

-- the tables have the shapes of a world's
abbrev pub IsShapedFor : World → List (List SubTables) → Type 0
IsShapedFor w all = AreShaped (length w.queues) (length w.scripts) (map traits_of w.resources) all

-- the resources of a world are small
abbrev pub AreSmall : World → Type 0
AreSmall w = (r s : ℕ) → words_at (map traits_of w.resources) r s ≤ 262144

-- the least rule of four tests
abbrev pub least_of : Bool → Bool → Bool → Bool → Option Rule
least_of one two three ten = or_rule one rule.B1 (or_rule two rule.B2 (or_rule three rule.B3 (or_rule ten rule.B10 None)))
