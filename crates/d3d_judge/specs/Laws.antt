-- What the laws of clocks, scopes and the judge say.
use Rattle.std.specs.Prelude.{ℕ, ◌+◌, ◌≡◌, true, false, List, [], ◌∷◌, ◌++◌, length, map, slice_get, Some, None}
use Rattle.dx_base.specs.Each.{Each}
use Rattle.clocks.specs.declared.clock.Clock.{Clock}
use Rattle.clocks.specs.Clocks.{Act}
use Rattle.dx_flags.specs.declared.atoms.Part.{Part}
use Rattle.enhanced_barriers.specs.declared.barriers.Barrier.{Barrier}
use Rattle.d3d_machine.specs.declared.calls.Reply.{Reply}
use Rattle.d3d_machine.specs.declared.events.Event.{Event}
use Rattle.d3d_machine.specs.declared.events.Event.TheVariants as event
use Rattle.d3d_machine.specs.declared.world.World.{World}
use Rattle.d3d_machine.specs.Play.{state_after}
use Rattle.d3d_machine.specs.RightWords.{with_right_words}
use Rattle.d3d_judge.specs.Made.{touches_of, made_from}
use Rattle.verdicts.specs.declared.rules.Rule.{Rule}
use Rattle.verdicts.specs.declared.rules.Verdict.TheVariants.{Clean, Broken}
use Rattle.d3d_judge.specs.Ahead.{Behind, forgotten}
use Rattle.d3d_judge.specs.Carried.{Clocks, Pending, Sound, Fresh, carried, carried_all, clocks_after, head_of, queue_joined, first_clocks}
use Rattle.d3d_judge.specs.Commands.{Range, Access, pair_of, Command, Accesses, Bars, is_change}
use Rattle.d3d_judge.specs.Covering.{Known, Covering, AreApart, IsCoveredLater, bare, opened_from}
use Rattle.d3d_judge.specs.Judged.{scope_of, judge, judge_after}
use Rattle.d3d_judge.specs.Happenings.{Happening, Calls, Completes, Stores, Loads, Executes, with_reply, happenings, work_of}
use Rattle.d3d_judge.specs.Scopes.{Scoped, reaches, named, breaks_three, breaks_twelve, rule_of_command, scope_all}
use Rattle.d3d_judge.specs.Setting.{Setting, setting_of}
use Rattle.d3d_judge.specs.Touches.{Touch, conflict, doing_of, overlaps}

-- clocks that know only calls that were made and operations that are complete go on to do so
abbrev pub StaySound : Type 0
StaySound = (s : Clocks) (es : List Happening) → Sound s → Sound (carried_all s es)

-- the clocks of every history know only calls that were made and operations that are complete
abbrev pub ClocksAreSound : Type 0
ClocksAreSound = (w : World) (h : List Event) → Sound (clocks_after w h)

-- the pending operations of the clocks are the called and incomplete operations of the machine, queue by queue
abbrev pub PendingAreCalled : Type 0
PendingAreCalled = (w : World) (h : List Event) → map (map (λ p. p.what)) (clocks_after w h).pending ≡ map (map work_of) (state_after w h).desk.called

-- a host access is known to no clock but its thread's, right after it
abbrev pub LoadsAreFresh : Type 0
LoadsAreFresh = (s : Clocks) (t : ℕ) (r : Range) → Sound s → Fresh (carried s (Calls t (Loads r))) t

abbrev pub StoresAreFresh : Type 0
StoresAreFresh = (s : Clocks) (t : ℕ) (r : Range) → Sound s → Fresh (carried s (Calls t (Stores r))) t

-- what operations that complete from now on know beyond what is complete they know through one another alone
abbrev pub KnowAhead : Type 0
KnowAhead = (s : Clocks) (qs : List ℕ) → Sound s → Behind s.ends (carried_all s (map Completes qs)) (carried_all (forgotten s) (map Completes qs))

-- where the verdict is clean after an execute completed, the execute knows each earlier touch that meets one of its own
abbrev pub CleanExecutesKnow : Type 0
CleanExecutesKnow = (w : World) (h : List Event) (q : ℕ) (p : Pending) (cs : List Command) →
    judge w (h ++ event.Queue (record { 0 = q }) ∷ []) ≡ Clean →
    head_of (judge_after w h).clocks q ≡ Some p → p.what ≡ Executes cs →
    Each (Known (queue_joined (judge_after w h).clocks q p) (judge_after w h).made) (scope_of (setting_of w) (judge_after w h) q p cs).touched

-- of a clean verdict, the judge's clocks are those of the history
abbrev pub CleanClocksAre : Type 0
CleanClocksAre = (w : World) (h : List Event) → judge w h ≡ Clean → (judge_after w h).clocks ≡ clocks_after w h

-- of a clean verdict, what was made is all that the events touch, in order: a host write or a later access ends nothing of it
abbrev pub MadeIsAll : Type 0
MadeIsAll = (w : World) (h : List Event) → judge w h ≡ Clean → (judge_after w h).made ≡ made_from (setting_of w) (first_clocks w) (happenings w h)

-- what is broken stays so, with the rule and the event
abbrev pub BrokenStays : Type 0
BrokenStays = (w : World) (h more : List Event) (r : Rule) (n : ℕ) → judge w h ≡ Broken r n → judge w (h ++ more) ≡ Broken r n

-- no reply plays a part, and so no word that was read
abbrev pub RepliesPlayNoPart : Type 0
RepliesPlayNoPart = (w : World) (h : List Event) (r : Reply) → judge w (map (with_reply r) h) ≡ judge w h

-- with the words that the machine gives a history has the same clocks, and the same is said of it
pub record RightWordsPlayNoPart : Type 0 where
  pub clocks : (w : World) (h : List Event) → clocks_after w (with_right_words w h) ≡ clocks_after w h
  pub verdict : (w : World) (h : List Event) → judge w (with_right_words w h) ≡ judge w h

-- what holds of scopes in each setting, with whatever was made before
abbrev pub OfScopes : (Setting → List Touch → Clock → Act → Type 0) → Type 0
OfScopes P = (base : Setting) (made : List Touch) (clock : Clock) (act : Act) → P base made clock act

module _ (base : Setting) (made : List Touch) (clock : Clock) (act : Act) where
  -- at each place of a clean scope no rule is broken
  abbrev pub BreakNothing : Type 0
  BreakNothing = (s : Scoped) (xs ys : List Command) (c : Command) → (scope_all base made clock act s (xs ++ c ∷ ys)).broken ≡ None →
      rule_of_command base made clock act (scope_all base made clock act s xs) c ≡ None

  -- in a clean scope each earlier access that meets one of a command has a barrier between that covers it
  abbrev pub ScopesCover : Type 0
  ScopesCover = (s : Scoped) (ys zs : List Command) (part : Part) (xs : List Access) → s.place ≡ 0 → s.opened ≡ [] →
      (scope_all base made clock act s (ys ++ Accesses part xs ∷ zs)).broken ≡ None →
      Each (λ a. Each (λ o. conflict o.doing (doing_of a) ≡ true → overlaps o.range a.range ≡ true →
      Covering (ys ++ Accesses part xs ∷ zs) (scope_all base made clock act s ys).place o (pair_of part a)) (scope_all base made clock act s ys).opened) xs

  -- in a clean scope a layout change reaches each earlier access of its words
  abbrev pub ChangesReach : Type 0
  ChangesReach = (s : Scoped) (ys zs : List Command) (b : Barrier) →
      (scope_all base made clock act s (ys ++ Bars b ∷ zs)).broken ≡ None → is_change b ≡ true →
      Each (λ r. Each (λ o. overlaps o.range r ≡ true → reaches o b ≡ true) (scope_all base made clock act s ys).opened) (named base b.scope)

  -- in a clean scope each access is allowed, and reads no lost word
  abbrev pub AccessesAreAllowed : Type 0
  AccessesAreAllowed = (s : Scoped) (ys zs : List Command) (part : Part) (xs : List Access) →
      (scope_all base made clock act s (ys ++ Accesses part xs ∷ zs)).broken ≡ None →
      Each (λ a. (breaks_three base (scope_all base made clock act s ys).layouts a ≡ false) × (breaks_twelve (scope_all base made clock act s ys).lost a ≡ false)) xs

  -- what a clean scope opens are the accesses and the layout changes of its commands, in order
  abbrev pub OpenedAreAll : Type 0
  OpenedAreAll = (s : Scoped) (cs : List Command) → (scope_all base made clock act s cs).broken ≡ None →
      map bare (scope_all base made clock act s cs).opened ≡ map bare s.opened ++ opened_from base s.place cs

  -- what a clean scope touches is what its commands touch, in order
  abbrev pub TouchedAreAll : Type 0
  TouchedAreAll = (s : Scoped) (cs : List Command) → (scope_all base made clock act s cs).broken ≡ None →
      (scope_all base made clock act s cs).touched ≡ s.touched ++ touches_of base act cs

  -- the accesses of one command of a clean scope are apart
  abbrev pub CommandsApart : Type 0
  CommandsApart = (s : Scoped) (ys zs : List Command) (part : Part) (xs : List Access) →
      (scope_all base made clock act s (ys ++ Accesses part xs ∷ zs)).broken ≡ None → AreApart xs

  -- the place of a clean scope is that of its next command
  abbrev pub PlacesCount : Type 0
  PlacesCount = (s : Scoped) (ys : List Command) → (scope_all base made clock act s ys).broken ≡ None →
      (scope_all base made clock act s ys).place ≡ s.place + length ys

  -- of two accesses of a clean scope that meet, the earlier is covered before the later
  abbrev pub LaterCovers : Type 0
  LaterCovers = (s : Scoped) (ys zs ws : List Command) (part other : Part) (xs us : List Access) → s.place ≡ 0 → s.opened ≡ [] →
      (scope_all base made clock act s ((ys ++ Accesses part xs ∷ zs) ++ Accesses other us ∷ ws)).broken ≡ None →
      (i : ℕ) (a : Access) → slice_get xs i ≡ Some a → (k : ℕ) (b : Access) → slice_get us k ≡ Some b →
      conflict (doing_of a) (doing_of b) ≡ true → overlaps a.range b.range ≡ true →
      IsCoveredLater ((ys ++ Accesses part xs ∷ zs) ++ Accesses other us ∷ ws) (scope_all base made clock act s ys).place
      (scope_all base made clock act s (ys ++ Accesses part xs ∷ zs)).place (pair_of part a) (pair_of other b)
