-- A machine that is played goes on with its judge.
use Rattle.std.proofs.Common.{◌≡◌, ◌∙◌, ap, sym, subst, [], ◌∷◌, ◌++◌, Bool, true, false, Option, Some, None, Result, Ok, Err}
use Rattle.std.specs.Result.{IfOk, OnOk}
use Rattle.d3d_machine.specs.declared.events.Event.{Event}
use Rattle.d3d_machine.specs.declared.events.Event.TheVariants as event
use Rattle.dx_base.specs.declared.ids.QueueId.{QueueId}
use Rattle.dx_base.specs.declared.ids.ThreadId.{ThreadId}
use Rattle.d3d_machine.specs.declared.world.World.{World}
use Rattle.d3d_machine.specs.Effects.{after}
use Rattle.d3d_machine.specs.Play.{May, SameReply, state_after}
use Rattle.d3d_machine.specs.Shape.{HasShape}
use Rattle.d3d_machine.specs.State.{State}
use Rattle.d3d_machine.specs.Steps.{thread_step, queue_step, after_step}
use Rattle.d3d_machine.proofs.Runs.{state_after_append}
use Rattle.d3d_machine.proofs.Steps.{steps_may}
use Rattle.verdicts.specs.declared.rules.Verdict.{Verdict}
use Rattle.verdicts.specs.declared.rules.Verdict.TheVariants.{Clean, Broken}
use Rattle.d3d_judge.specs.Fed.{AnyReply, IsNext, JudgeView}
use Rattle.d3d_judge.specs.Judged.{judge}
use Rattle.judge_runs.specs.Played.{IsWith, IsPlayed, IsTaken, clean}

may_any : (w : World) (s : State) (e : Event) → May SameReply w s e → May AnyReply w s e
may_any w s (event.Call t c r) m = (m.0, m.1, tt)
may_any w s (event.Awake t) m = m
may_any w s (event.Queue q) m = m

-- what a thread's step, or a queue's, takes
pub thread_taken : (w : World) (s u : State) (t : ThreadId) (o : Option Event) → o ≡ thread_step w s t → u ≡ after_step w s (thread_step w s t) → IsTaken w s o u
thread_taken w s u t None e a = a ∙ ap (after_step w s) (sym e)
thread_taken w s u t (Some d) e a = (steps_may.thread w s t d (sym e), a ∙ ap (after_step w s) (sym e))

pub queue_taken : (w : World) (s u : State) (q : QueueId) (o : Option Event) → o ≡ queue_step s q → u ≡ after_step w s (queue_step s q) → IsTaken w s o u
queue_taken w s u q None e a = a ∙ ap (after_step w s) (sym e)
queue_taken w s u q (Some d) e a = (steps_may.queue w s q d (sym e), a ∙ ap (after_step w s) (sym e))

-- an event that was taken may be fed
pub may_feed : (w : World) (s u : State) (f : JudgeView) (e : Event) → IsWith w s f → IsTaken w s (Some e) u → IsNext w f.history e
may_feed w s u f e k m = subst (λ x. May AnyReply w x e) k.state (may_any w s e m.0)

-- and the machine goes on with its judge where no rule is broken
pub plays_on : (w : World) (s u : State) (f g : JudgeView) (e : Event) (v : Verdict) → IsWith w s f → IsTaken w s (Some e) u → HasShape w u → g.world ≡ f.world → g.history ≡ f.history ++ e ∷ [] → v ≡ judge w (f.history ++ e ∷ []) → IsPlayed w u g (clean v)
plays_on w s u f g e Clean k m shape hw hg hv = record {
  named = k.named;
  shape = shape;
  world = hw ∙ k.world;
  state = m.1 ∙ (ap (λ x. after w x e) k.state ∙ (sym (state_after_append w f.history e) ∙ ap (state_after w) (sym hg)));
  clean = subst (λ h. judge w h ≡ Clean) (sym hg) (sym hv);
}
plays_on w s u f g e (Broken r n) k m shape hw hg hv = tt

pub thread_result : {E : Type 0} (w : World) (s u : State) (t : ThreadId) (r : Result (Option Event) E) → IfOk r (λ o. o ≡ thread_step w s t) → OnOk r (u ≡ after_step w s (thread_step w s t)) → IfOk r (λ o. IsTaken w s o u)
thread_result w s u t (Ok o) e a = thread_taken w s u t o e a
thread_result w s u t (Err x) e a = tt

pub queue_result : {E : Type 0} (w : World) (s u : State) (q : QueueId) (r : Result (Option Event) E) → IfOk r (λ o. o ≡ queue_step s q) → OnOk r (u ≡ after_step w s (queue_step s q)) → IfOk r (λ o. IsTaken w s o u)
queue_result w s u q (Ok o) e a = queue_taken w s u q o e a
queue_result w s u q (Err x) e a = tt

-- it went on
pub went_on : (w : World) (s : State) (f : JudgeView) (b : Bool) → b ≡ true → IsPlayed w s f b → IsWith w s f
went_on w s f true e h = h
went_on w s f false e h = absurd (cc)
