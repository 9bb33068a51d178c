-- A call that is answered by an error leaves the device.
use Rattle.std.proofs.Common.{ℕ, ◌≡◌, refl, sym, ap, ◌∙◌, subst, List, [], ◌∷◌, ◌++◌, Option, Some, None, Result, Ok, Err, OnOk}
use Rattle.std.specs.Bool.{⊤}
use Rattle.dx_base.specs.declared.hresult.Hresult.{Hresult}
use Rattle.dx_base.specs.declared.steps.Step.TheVariants as step
use Rattle.d3d_machine.specs.declared.world.World.{World}
use Rattle.d3d_machine.specs.declared.calls.Call.{Call}
use Rattle.d3d_machine.specs.declared.calls.Reply.TheVariants as reply
use Rattle.d3d_machine.specs.declared.events.Event.{Event}
use Rattle.d3d_machine.specs.declared.events.Event.TheVariants as event
use Rattle.d3d_machine.specs.State.{State}
use Rattle.dx_base.specs.Effects.{unless}
use Rattle.dx_base.proofs.Effects.{unless_refused}
use Rattle.d3d_machine.specs.CallEffects.{does}
use Rattle.d3d_machine.specs.Replies.{refusal, good_reply, reply_or}
use Rattle.d3d_machine.specs.Play.{IsRunButWords, May, SameButWords, state_after}
use Rattle.d3d_machine.specs.Laws.{HasNoEffect}
use Rattle.d3d_machine.proofs.Refusals.{not_good, refused_calls_have_no_effect}
use Rattle.vk_sync_rules.specs.VkState.{VkState as Machine}
use Rattle.sys_core.specs.declared.faults.SysFault.{SysFault}
use Rattle.sys_core.specs.Goes.{SysState, WasTaken, AreRefusalsIdle, state_of}
use Rattle.sys_core.specs.Keeps.{SysView, IsSystem}
use Rattle.sys_core.specs.Host.{after_store, after_load}
use Rattle.sys_core.specs.ThreadSteps.{after_host, IsThreadStep}

-- a refused call, by its refusal
by_refusal : (w : World) (s : State) (m : Machine) (c : Call) (e : Hresult) (o : Option Hresult) → refusal w s.desk c ≡ o → reply.Error e ≡ reply_or o (good_reply s c) →
    after_load w (after_store w m (unless (does c).stores (refusal w s.desk c))) (unless (does c).reads (refusal w s.desk c)) (reply.Error e) ≡ m
by_refusal w s m c e None is replies = absurd (not_good s c e replies)
by_refusal w s m c e (Some x) is replies =
    ap (λ o. after_load w (after_store w m (unless (does c).stores o)) (unless (does c).reads o) (reply.Error e)) is
    ∙ ap (λ o. after_load w (after_store w m o) (unless (does c).reads (Some x)) (reply.Error e)) (unless_refused (does c).stores x)
    ∙ ap (λ o. after_load w m o (reply.Error e)) (unless_refused (does c).reads x)

last_is : (h : List Event) (d e : Event) → h ++ d ∷ [] ≡ h ++ e ∷ [] → d ≡ e
last_is [] d e is = cc
last_is (x ∷ h) d e is = last_is h d e (cc)

idle : (w : World) (s u : SysState) (n : ℕ) → IsSystem w u.history u.machine → IsThreadStep w s.history u.history s.machine u.machine n → AreRefusalsIdle w s u
idle w s u n now is t c e next =
    let event_is : is.event ≡ event.Call t c (reply.Error e) = last_is s.history is.event (event.Call t c (reply.Error e)) (sym is.history ∙ next) in
    let may : May SameButWords w (state_after w s.history) (event.Call t c (reply.Error e)) = subst (May SameButWords w (state_after w s.history)) event_is is.enabled in (
      is.machine ∙ ap (after_host w (state_after w s.history).desk s.machine) event_is
          ∙ by_refusal w (state_after w s.history) s.machine c e (refusal w (state_after w s.history).desk c) refl may.2,
      subst (λ h. HasNoEffect (state_after w s.history) (state_after w h) t c) (sym next)
          (refused_calls_have_no_effect w s.history t c e (subst (λ h. IsRunButWords w h) next now.run)),
    )

pub refusals : {D : Type 0} (n : ℕ) (s u : SysView D) (res : Result ⊤ SysFault) →
    IsSystem u.world u.history u.device.state → OnOk res (WasTaken (step.Thread n) s u) → OnOk res (AreRefusalsIdle s.world (state_of s) (state_of u))
refusals n s u (Ok x) now taken =
    idle s.world (state_of s) (state_of u) n (subst (λ w. IsSystem w u.history u.device.state) taken.world now) taken.goes
refusals n s u (Err x) now taken = tt
