-- A call that is answered by an error has no effect.
use Rattle.std.proofs.Common.{ℕ, ◌≡◌, refl, sym, ap, ◌∙◌, subst, List, [], ◌∷◌, ◌++◌, Option, Some, None}
use Rattle.dx_base.specs.declared.hresult.Hresult.{Hresult}
use Rattle.dx_base.specs.declared.ids.ThreadId.{ThreadId}
use Rattle.d3d_machine.specs.declared.world.World.{World}
use Rattle.d3d_machine.specs.declared.calls.Call.{Call}
use Rattle.d3d_machine.specs.declared.calls.Reply.{Reply}
use Rattle.d3d_machine.specs.declared.calls.Reply.TheVariants as reply
use Rattle.d3d_machine.specs.declared.events.Event.{Event}
use Rattle.d3d_machine.specs.declared.events.Event.TheVariants as event
use Rattle.d3d_machine.specs.State.{State, first_state, list_of, is_recording}
use Rattle.d3d_machine.specs.declared.events.Listed.{Listed}
use Rattle.d3d_machine.specs.CallEffects.{Change, Does, does}
use Rattle.d3d_machine.specs.Replies.{refusal, answer, good_reply, reply_or, reply_of}
use Rattle.d3d_machine.specs.Effects.{changed, change_unless, done_unless, operation_given, with_one, desk_by, memory_by, counted, after, after_all}
use Rattle.dx_base.specs.Effects.{At, changed_by}
use Rattle.dx_base.proofs.Effects.{unless_refused}
use Rattle.d3d_machine.specs.Play.{Plays, SameButWords, state_after}
use Rattle.d3d_machine.specs.Laws.{failed_lists_by, HasNoEffect, RefusedCallsHaveNoEffect}
use Rattle.d3d_machine.proofs.Runs.{state_after_append}
use Rattle.d3d_machine.proofs.CallsOnLists.{failed_by}

-- the reply of the last event of a play
last_reply : (w : World) (s : State) (es : List Event) (t : ThreadId) (c : Call) (r : Reply) →
    Plays SameButWords w s (es ++ event.Call t c r ∷ []) → SameButWords r (reply_of w (after_all w s es) c)
last_reply w s [] t c r p = p.0.2
last_reply w s (d ∷ es) t c r p = last_reply w (after w s d) es t c r p.1

not_answer : (s : State) (f : Option ℕ) (r : Option (At (ℕ × ℕ))) (e : Hresult) → reply.Error e ≡ answer s f r → ⊥
not_answer s (Some f) r e is = absurd (cc)
not_answer s None (Some r) e is = absurd (cc)
not_answer s None None e is = absurd (cc)

-- what a call answers that is not refused is no error
pub not_good : (s : State) (c : Call) (e : Hresult) → reply.Error e ≡ good_reply s c → ⊥
not_good s c e is = not_answer s (does c).asks (does c).reads e is

refused_lists : (w : World) (lists : List Listed) (l : Option ℕ) (k : Option (At Change)) (e : Hresult) →
    changed_by (changed w) (change_unless lists l k (Some e)) lists ≡ failed_lists_by lists l
refused_lists w lists None k e = ap (λ o. changed_by (changed w) o lists) (unless_refused k e)
refused_lists w lists (Some l) k e = failed_by w lists (is_recording (list_of lists l)) l

-- the state after a refused call
abbrev idle : World → State → ThreadId → Call → Hresult → State
idle w s t c e = record { desk = counted t.0 (desk_by w s.desk t.0 (done_unless s.desk.lists (does c) (Some e))); memory = memory_by (done_unless s.desk.lists (does c) (Some e)).stores s.memory }

is_idle : (w : World) (s : State) (t : ThreadId) (c : Call) (e : Hresult) → HasNoEffect s (idle w s t c e) t c
is_idle w s t c e =
    let x : Does = does c in
    record {
      memory = ap (λ o. memory_by o s.memory) (unless_refused x.stores e);
      fences = ap (λ o. changed_by (λ v _. v) o s.desk.fences) (unless_refused x.sets e);
      called = ap (λ o. changed_by with_one (operation_given s.desk.lists o) s.desk.called) (unless_refused x.gives e);
      threads = rw (unless_refused x.waits e, unless_refused x.sets e) refl;
      lists = refused_lists w s.desk.lists x.ends x.list e;
    }

by_refusal : (w : World) (s : State) (t : ThreadId) (c : Call) (r : Reply) (e : Hresult) (o : Option Hresult) → o ≡ refusal w s.desk c →
    reply.Error e ≡ reply_or o (good_reply s c) → HasNoEffect s (after w s (event.Call t c r)) t c
by_refusal w s t c r e None o is = absurd (not_good s c e is)
by_refusal w s t c r e (Some x) o is =
    subst (λ p. let u : State = record { desk = counted t.0 (desk_by w s.desk t.0 (done_unless s.desk.lists (does c) p)); memory = memory_by (done_unless s.desk.lists (does c) p).stores s.memory } in HasNoEffect s u t c)
    o (is_idle w s t c x)

pub refused_calls_have_no_effect : RefusedCallsHaveNoEffect
refused_calls_have_no_effect w h t c e run =
    subst (λ u. HasNoEffect (state_after w h) u t c) (sym (state_after_append w h (event.Call t c (reply.Error e))))
    (by_refusal w (state_after w h) t c (reply.Error e) e (refusal w (state_after w h).desk c) refl (last_reply w (first_state w) h t c (reply.Error e) run))
