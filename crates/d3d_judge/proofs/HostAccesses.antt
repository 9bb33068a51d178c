-- What a judge's parts become at a host access.
use Rattle.std.proofs.Common.{ℕ, suc, ◌≡◌, ◌<◌, ◌≤◌, ◌/◌, ◌∙◌, cond, nat_le, refl, ap, sym, subst, arith, List, [], ◌∷◌, ◌++◌, length, Bool, true, false, Option, Some, None, is_some, Result, Ok, Err}
use Rattle.std.specs.Result.{IfOk}
use Rattle.dx_base.proofs.Each.{each_on}
use Rattle.dx_base.specs.declared.hresult.Hresult.{Hresult}
use Rattle.dx_base.specs.declared.ids.ResourceId.{ResourceId}
use Rattle.clocks.specs.declared.clock.Clock.{Clock}
use Rattle.clocks.specs.Clocks.{OfQueue, OfThread, number, empty_clock}
use Rattle.d3d_machine.specs.declared.calls.Call.TheVariants as call
use Rattle.d3d_machine.specs.declared.events.Event.{Event}
use Rattle.d3d_machine.specs.declared.world.World.{World}
use Rattle.d3d_machine.specs.Checks.{write_refusal, read_refusal}
use Rattle.d3d_machine.specs.Play.{state_after}
use Rattle.d3d_judge.specs.declared.carried_clocks.CarriedClocks.{CarriedClocks}
use Rattle.d3d_judge.specs.declared.judge_parts.JudgeParts.{JudgeParts}
use Rattle.verdicts.specs.declared.rules.Rule.{Rule}
use Rattle.verdicts.specs.declared.rules.Rule.TheVariants as rule
use Rattle.d3d_judge.specs.declared.sub_tables.SubTables.{SubTables}
use Rattle.d3d_judge.specs.declared.word_touches.WordAccess.{WordAccess}
use Rattle.d3d_judge.specs.Carried.{Clocks, item_or, called_by, call_clock, carried, effect, one_call_more}
use Rattle.d3d_judge.specs.CarriedClocks.{clocks_of, IsSized, AreSized}
use Rattle.d3d_judge.specs.Commands.{Range}
use Rattle.d3d_judge.specs.CopyScopes.{range_by, IsDone, IsShapedFor}
use Rattle.d3d_judge.specs.Happenings.{Calls, Deed, Stores, Loads, Nothing, unless_refused, deed_of}
use Rattle.d3d_judge.specs.Judged.{Judged, Found, found_by_host, found_in, found_in_call, judge_after}
use Rattle.d3d_judge.specs.JudgeParts.{AreOpen, TakesCall, CallFound, DeedFound, deed_by, call_of_thread}
use Rattle.d3d_judge.specs.Made.{host_touch}
use Rattle.d3d_judge.specs.Scopes.{or_rule}
use Rattle.d3d_judge.specs.Setting.{setting_of}
use Rattle.d3d_judge.specs.SubTables.{doing_if}
use Rattle.d3d_judge.specs.Tables.{OfQueues, OfThreads}
use Rattle.d3d_judge.specs.Touches.{Touch, breaks_ten_host}
use Rattle.d3d_judge.specs.WordTouches.{touch_by, AreAllTied, TellsHost, HaveOneMore}
use Rattle.d3d_judge.proofs.Carried.{number_put}
use Rattle.d3d_judge.proofs.ClockSizes.{sized_clock}
use Rattle.d3d_judge.proofs.CarriedClocks.{sized_called}
use Rattle.d3d_judge.proofs.Standing.{stands_next, quiet_call, clocks_sized}
use Rattle.d3d_judge.proofs.Steady.{call_ends, item_changed}

found_either : (j : Judged) (t : ℕ) (r : Range) (b : Bool) → found_in_call j t (cond b (Stores r) (Loads r)) ≡ found_by_host j (call_clock j.clocks t) (host_touch j.clocks t r (doing_if b))
found_either j t r true = refl
found_either j t r false = refl

effect_either : (s : Clocks) (t : ℕ) (c : Clock) (r : Range) (b : Bool) → effect s t c (cond b (Stores r) (Loads r)) ≡ s
effect_either s t c r true = refl
effect_either s t c r false = refl

module _ (w : World) (h : List Event) (x : JudgeParts) (t : ℕ) (a : WordAccess) (k : AreOpen w h x) (thread : t < length w.scripts) where
  -- the clock of the call, as its thread has it after the call
  pub clock_is : (s : CarriedClocks) (c : Clock) → clocks_of s ≡ called_by (clocks_of x.clocks) t → c ≡ item_or empty_clock s.threads t → c ≡ call_clock (judge_after w h).clocks t
  clock_is s c called e =
      e ∙ (ap (λ (y : Clocks). item_or empty_clock y.threads t) called
      ∙ (item_changed (λ _. call_clock (clocks_of x.clocks) t) empty_clock t x.clocks.threads
      (let z = k.stands.steady.sized.thread_count in let g = ap (λ (y : Clocks). length y.threads) k.stands.clocks in omega (arith, z, g, thread))
      ∙ ap (λ y. call_clock y t) k.stands.clocks))

  pub clock_sized : (s : CarriedClocks) (c : Clock) → clocks_of s ≡ called_by (clocks_of x.clocks) t → c ≡ item_or empty_clock s.threads t → IsSized (length w.queues) (length w.scripts) c
  clock_sized s c called e =
      subst (IsSized (length w.queues) (length w.scripts)) (sym (clock_is s c called e))
      (sized_clock (length w.queues) (length w.scripts) (length w.fences) t (judge_after w h).clocks thread k.stands.steady.sized)

  abbrev touched : Touch
  touched = host_touch (judge_after w h).clocks t (range_by a) (doing_if a.writes)

  -- B10, as the tables tell it
  told : (c : Clock) (all : List (List SubTables)) (b : Bool) → c ≡ call_clock (judge_after w h).clocks t → IsSized (length w.queues) (length w.scripts) c → AreAllTied (judge_after w h).made all → TellsHost all c a b →
      b ≡ breaks_ten_host (call_clock (judge_after w h).clocks t) (judge_after w h).made touched
  told c all b e z tied tells =
      tells (OfThread t (suc (number (judge_after w h).clocks.ends.threads t))) (judge_after w h).made tied
      (subst (λ n. OfQueues n (judge_after w h).made) (sym z.queues_are)
      (each_on (IsDone w (judge_after w h).clocks.ends) (λ m. (q n : ℕ) → m.act ≡ OfQueue q n → q < length w.queues) (judge_after w h).made (λ m d. d.queue) k.stands.steady.done))
      (subst (λ n. OfThreads n (judge_after w h).made) (sym z.threads_are)
      (each_on (IsDone w (judge_after w h).clocks.ends) (λ m. (q n : ℕ) → m.act ≡ OfThread q n → q < length w.scripts) (judge_after w h).made (λ m d. d.thread) k.stands.steady.done))
      ∙ ap (λ y. breaks_ten_host y (judge_after w h).made touched) e

  found_is : found_in (setting_of w) (judge_after w h) (Calls t (deed_by a)) ≡ found_by_host (judge_after w h) (call_clock (judge_after w h).clocks t) touched
  found_is = found_either (judge_after w h) t (range_by a) a.writes

  touch_done : IsDone w (carried (judge_after w h).clocks (Calls t (deed_by a))).ends touched
  touch_done = subst (λ d. IsDone w d touched) (sym (call_ends (judge_after w h).clocks t (deed_by a))) (record {
    queue = λ q n e. no_queue t (suc (number (judge_after w h).clocks.ends.threads t)) q n e;
    thread = λ u n e. subst (λ y. y < length w.scripts) (thread_is t (suc (number (judge_after w h).clocks.ends.threads t)) u n e) thread;
    known = is_most (suc (number (judge_after w h).clocks.ends.threads t)) (number (one_call_more (judge_after w h).clocks.ends t).threads t)
        (let e = number_put (judge_after w h).clocks.ends.threads t (suc (number (judge_after w h).clocks.ends.threads t)) in omega (arith, e));
  })
    where
      no_queue : {P : Type 0} (p m q n : ℕ) → OfThread p m ≡ OfQueue q n → P
      no_queue p m q n e = absurd (cc)

      thread_is : (p m q n : ℕ) → OfThread p m ≡ OfThread q n → p ≡ q
      thread_is p m q n e = cc

      is_most : (n m : ℕ) → n ≤ m → nat_le n m ≡ true
      is_most n m e = grind (arith, e)

  -- an access that breaks a rule
  pub access_broken : (c : Clock) (all : List (List SubTables)) (b : Bool) (new : JudgeParts) → c ≡ call_clock (judge_after w h).clocks t → IsSized (length w.queues) (length w.scripts) c → AreAllTied (judge_after w h).made all → TellsHost all c a b →
      b ≡ true → DeedFound w h t (deed_by a) new (Some rule.B10)
  access_broken c all b new e z tied tells is v hs lists = record {
    rule = sym (ap (λ y. (found_in (setting_of w) (judge_after w h) y).broken) hs ∙ (ap (λ (y : Found). y.broken) found_is ∙ ap (λ y. or_rule y rule.B10 None) (sym (told c all b e z tied tells) ∙ is)));
    goes_on = λ none. absurd (not_none rule.B10 none);
  }
    where
      not_none : (r : Rule) → Some r ≡ None → ⊥
      not_none r e = cc

  -- and one that breaks none
  pub access_clean : (c : Clock) (all : List (List SubTables)) (b : Bool) (n : ℕ) (new : JudgeParts) → c ≡ call_clock (judge_after w h).clocks t → IsSized (length w.queues) (length w.scripts) c → AreAllTied (judge_after w h).made all → TellsHost all c a b →
      b ≡ false → clocks_of new.clocks ≡ called_by (clocks_of x.clocks) t → n ≡ number new.clocks.ends.threads t → new.lists ≡ x.lists → HaveOneMore all (OfThread t n) a new.touches.resources → IsShapedFor w new.touches.resources →
      DeedFound w h t (deed_by a) new None
  access_clean c all b n new e z tied tells is called hn same more shaped v hs lists =
      let none : (found_by_host (judge_after w h) (call_clock (judge_after w h).clocks t) touched).broken ≡ None = ap (λ y. or_rule y rule.B10 None) (sym (told c all b e z tied tells) ∙ is) in
      let n_is : n ≡ suc (number (judge_after w h).clocks.ends.threads t) =
      hn ∙ (ap (λ (y : Clocks). number y.ends.threads t) called
      ∙ (number_put x.clocks.ends.threads t (suc (number x.clocks.ends.threads t)) ∙ ap (λ (y : Clocks). suc (number y.ends.threads t)) k.stands.clocks)) in
      record {
        rule = sym (ap (λ y. (found_in (setting_of w) (judge_after w h) y).broken) hs ∙ (ap (λ (y : Found). y.broken) found_is ∙ none));
        goes_on = λ _. stands_next w h v x new (Calls t (deed_by a)) (found_by_host (judge_after w h) (call_clock (judge_after w h).clocks t) touched) k.clean k.stands hs found_is none thread
            (same ∙ (k.stands.lists ∙ sym lists)) (called ∙ sym (effect_either (called_by (clocks_of x.clocks) t) t (call_clock (clocks_of x.clocks) t) (range_by a) a.writes))
            (subst (λ m. AreAllTied ((judge_after w h).made ++ touch_by (OfThread t m) a ∷ []) new.touches.resources) n_is (more (judge_after w h).made tied))
            shaped (touch_done, tt) k.stands.steady.lost;
      }

module _ (w : World) (h : List Event) (x : JudgeParts) (t : ℕ) (k : AreOpen w h x) (thread : t < length w.scripts) (s : CarriedClocks) (called : clocks_of s ≡ called_by (clocks_of x.clocks) t) where
  after_sized : AreSized (length w.queues) (length w.scripts) (length w.fences) (clocks_of s)
  after_sized = subst (AreSized (length w.queues) (length w.scripts) (length w.fences)) (sym called) (sized_called (length w.queues) (length w.scripts) (length w.fences) (clocks_of x.clocks) t thread (clocks_sized w h x k.stands))

  -- the thread's clock and count are there after its call
  pub thread_there : t < length s.threads
  thread_there = let z = after_sized.thread_count in omega (arith, z, thread)

  pub counted_there : t < length s.ends.threads
  counted_there = let z = after_sized.ends.threads_are in omega (arith, z, thread)

pub if_ok : {A E : Type 0} {P Q : A → Type 0} (r : Result A E) → ((x : A) → P x → Q x) → IfOk r P → IfOk r Q
if_ok (Ok x) f h = f x h
if_ok (Err e) f h = h

refusal_is : (o : Option Hresult) → is_some o ≡ true → (d : Deed) → unless_refused o d ≡ Nothing
refusal_is None e d = cc
refusal_is (Some r) e d = refl

pub none_of : (o : Option Hresult) → is_some o ≡ false → o ≡ None
none_of None e = refl
none_of (Some r) e = cc

module _ (w : World) (h : List Event) (x new : JudgeParts) (t : ℕ) where
  -- writes and reads that are refused
  pub refused_write : (b : ResourceId) (offset : ℕ) (ws : List ℕ) → TakesCall w h x t (call.Write b offset ws) → is_some (write_refusal w b.0 offset (length ws)) ≡ true → new.lists ≡ x.lists →
      clocks_of new.clocks ≡ called_by (clocks_of x.clocks) t → new.touches ≡ x.touches → CallFound w h t (call.Write b offset ws) new None
  refused_write b offset ws k bad lists clocks touches =
      quiet_call w h x new t (call.Write b offset ws) Nothing k refl (refusal_is (write_refusal w b.0 offset (length ws)) bad (deed_of (state_after w h).desk (call.Write b offset ws)))
      (lists ∙ k.opened.stands.lists) clocks touches

  pub refused_read : (b : ResourceId) (offset bytes : ℕ) → TakesCall w h x t (call.Read b offset bytes) → is_some (read_refusal w b.0 offset bytes) ≡ true → new.lists ≡ x.lists →
      clocks_of new.clocks ≡ called_by (clocks_of x.clocks) t → new.touches ≡ x.touches → CallFound w h t (call.Read b offset bytes) new None
  refused_read b offset bytes k bad lists clocks touches =
      quiet_call w h x new t (call.Read b offset bytes) Nothing k refl (refusal_is (read_refusal w b.0 offset bytes) bad (deed_of (state_after w h).desk (call.Read b offset bytes)))
      (lists ∙ k.opened.stands.lists) clocks touches

  -- and those that are not
  pub found_write : (b : ResourceId) (offset : ℕ) (ws : List ℕ) (a : WordAccess) (r : Option Rule) → write_refusal w b.0 offset (length ws) ≡ None → a ≡ record { resource = b.0; sub = 0; first = offset / 4; words = length ws; writes = true } →
      DeedFound w h t (deed_by a) new r → CallFound w h t (call.Write b offset ws) new r
  found_write b offset ws a r good is found reply =
      found (call_of_thread t (call.Write b offset ws) reply)
      (ap (λ o. Calls t (unless_refused o (deed_of (state_after w h).desk (call.Write b offset ws)))) good ∙ ap (λ y. Calls t (deed_by y)) (sym is)) refl

  pub found_read : (b : ResourceId) (offset bytes : ℕ) (a : WordAccess) (r : Option Rule) → read_refusal w b.0 offset bytes ≡ None → a ≡ record { resource = b.0; sub = 0; first = offset / 4; words = bytes / 4; writes = false } →
      DeedFound w h t (deed_by a) new r → CallFound w h t (call.Read b offset bytes) new r
  found_read b offset bytes a r good is found reply =
      found (call_of_thread t (call.Read b offset bytes) reply)
      (ap (λ o. Calls t (unless_refused o (deed_of (state_after w h).desk (call.Read b offset bytes)))) good ∙ ap (λ y. Calls t (deed_by y)) (sym is)) refl
