-- In a world without queues nothing is ever called, and the device's words are the machine's memory.
use Rattle.std.proofs.Common.{ℕ, ◌≡◌, ◌<◌, ◌≤◌, ◌∙◌, sym, ap, refl, arith, List, [], ◌∷◌, ◌++◌, length, drop, Some, None, Option, true, inl, inr, get_or}
use Rattle.std.specs.Prelude.{nat_lt, if◌then◌else◌}
use Rattle.std.specs.List.{list_all}
use Rattle.std.proofs.lemmas.Bool.{ltb-true, cases_lt}
use Rattle.std.proofs.lemmas.Bool.Decides.{eqb_tells}
use Rattle.dx_base.specs.declared.hresult.Hresult.{Hresult}
use Rattle.dx_base.specs.Effects.{At, unless}
use Rattle.d3d_machine.specs.declared.world.World.{World}
use Rattle.d3d_machine.specs.declared.calls.Call.{Call}
use Rattle.d3d_machine.specs.declared.calls.Call.TheVariants as call
use Rattle.d3d_machine.specs.declared.events.Listed.{Listed}
use Rattle.d3d_machine.specs.declared.events.Event.{Event}
use Rattle.d3d_machine.specs.declared.events.Event.TheVariants as event
use Rattle.d3d_machine.specs.World.{IsWorld, is_named}
use Rattle.d3d_machine.specs.State.{State, first_state}
use Rattle.d3d_machine.specs.CallEffects.{here_of, Task, does}
use Rattle.d3d_machine.specs.Replies.{refusal_by}
use Rattle.d3d_machine.specs.Effects.{operation_of, operation_given, memory_after}
use Rattle.d3d_machine.specs.Play.{May, SameButWords, IsRunButWords, state_after}
use Rattle.d3d_machine.specs.Operations.{called_by, operations, counter}
use Rattle.d3d_machine.proofs.Operations.{operations_append}
use Rattle.d3d_machine.proofs.Runs.{run_induction, state_after_append}
use Rattle.d3d_machine.proofs.Named.{next_is_named, and_left}
use Rattle.vk_port.specs.declared.lanes.Lane.{Lane}
use Rattle.vk_port.specs.VkState.{VkState, no_lane}
use Rattle.sys_core.specs.Consistent.{IsDevice}
use Rattle.sys_core.specs.Memory.{memory_of}
use Rattle.sys_core.specs.Steps.{submitted_of}
use Rattle.sys_core.specs.Ahead.{run_commands, batches_undone, memory_ahead, AreAhead, IsQuiet}
use Rattle.sys_core.proofs.Ahead.{drop_past, IsIdle, idle_words, quiet_is_idle}

-- the queue to which a call gives a task is one of the world, where the call names objects of it
gives_named : (w : World) (c : Call) (x : At Task) → (does c).gives ≡ Some x → is_named w c ≡ true → x.place < length w.queues
gives_named w (call.Recording l what) x is named = absurd (cc)
gives_named w (call.Close l) x is named = absurd (cc)
gives_named w (call.Reset l a) x is named = absurd (cc)
gives_named w (call.Execute q ls) x is named =
    let place : q.0 ≡ x.place = grind arith in
    omega (arith, place, ltb-true q.0 (length w.queues) (and_left (nat_lt q.0 (length w.queues)) (list_all (λ l. nat_lt l.0 (length w.lists)) ls) named))
gives_named w (call.Signal q f v) x is named =
    let place : q.0 ≡ x.place = grind arith in
    omega (arith, place, ltb-true q.0 (length w.queues) (and_left (nat_lt q.0 (length w.queues)) (nat_lt f.0 (length w.fences)) named))
gives_named w (call.HostSignal f v) x is named = absurd (cc)
gives_named w (call.HostWait f v) x is named = absurd (cc)
gives_named w (call.Value f) x is named = absurd (cc)
gives_named w (call.Write b offset ws) x is named = absurd (cc)
gives_named w (call.Read b offset bytes) x is named = absurd (cc)

-- a call gives a queue that is none no operation
given_none : (w : World) (lists : List Listed) (q : ℕ) (o : Option (At Task)) (r : Option Hresult) → length w.queues ≤ q → ((x : At Task) → o ≡ Some x → x.place < length w.queues) →
    here_of q (operation_given lists (unless o r)) ≡ []
given_none w lists q None r past within = refl
given_none w lists q (Some x) (Some e) past within = refl
given_none w lists q (Some x) None past within =
    elim (eqb_tells x.place q) [
      | inl same ↦ absurd (omega (arith, same.1, past, within x refl))
      | inr other ↦ ap (λ t. if t then operation_of lists x.what ∷ [] else []) other.0
    ]

called_none : (w : World) (s : State) (q : ℕ) (e : Event) → IsWorld w → length w.queues ≤ q → May SameButWords w s e → called_by w s.desk q e ≡ []
called_none w s q (event.Call t c r) world past may =
    given_none w s.desk.lists q (does c).gives (refusal_by w s.desk.lists c) past (λ x is. gives_named w c x is (next_is_named w s.desk t.0 c world may.1))
called_none w s q (event.Awake t) world past may = refl
called_none w s q (event.Queue p) world past may = refl

-- a run calls nothing on a queue that is none
pub operations_none : (w : World) (q : ℕ) → IsWorld w → length w.queues ≤ q → (h : List Event) → IsRunButWords w h → operations w h q ≡ []
operations_none w q world past =
    run_induction (λ h. operations w h q ≡ []) w refl
    (λ h e run is may. operations_append w (first_state w) q h e ∙ ap (λ os. os ++ called_by w (state_after w h).desk q e) is
    ∙ called_none w (state_after w h) q e world past may)

no_lane_there : (lanes : List Lane) → length lanes ≤ 0 → batches_undone (get_or lanes 0 no_lane).batches ≡ []
no_lane_there [] none = refl
no_lane_there (x ∷ lanes) none = absurd (omega (arith, none))

-- in a world without queues nothing is ever left to do
pub no_queue_idle : (w : World) (h : List Event) (v : VkState) → IsWorld w → IsRunButWords w h → length w.queues ≤ 0 → length v.lanes ≤ 0 → IsIdle w h v
no_queue_idle w h v world run none lanes =
    let os : operations w h 0 ≡ [] = operations_none w 0 world none h run in
    record {
      undone = no_lane_there v.lanes lanes;
      held = drop_past (submitted_of v 0) (operations w h 0) (omega (arith, ap length os));
      called = drop_past (counter h 0) (operations w h 0) (omega (arith, ap length os));
    }

-- where nothing is left to do, it suffices that the words are the machine's memory
pub idle_ahead : (w : World) (h : List Event) (v : VkState) (words : List (List ℕ)) → IsIdle w h v → memory_of w words ≡ (state_after w h).memory → AreAhead w h v words
idle_ahead w h v words idle same = record {
  ahead = ap (λ cs. memory_ahead (drop (submitted_of v 0) (operations w h 0)) (memory_of w (run_commands cs words))) idle.undone
      ∙ ap (λ os. memory_ahead os (memory_of w words)) idle.held ∙ same ∙ ap (λ os. memory_ahead os (state_after w h).memory) (sym idle.called);
}

-- in a world without queues, an event by which words and memory change alike
pub no_queue_event : (w : World) (h : List Event) (e : Event) (v : VkState) (words : List (List ℕ)) → IsWorld w → IsRunButWords w (h ++ e ∷ []) →
    length w.queues ≤ 0 → length v.lanes ≤ 0 → memory_of w words ≡ memory_after w (state_after w h) e → AreAhead w (h ++ e ∷ []) v words
no_queue_event w h e v words world run none lanes same =
    idle_ahead w (h ++ e ∷ []) v words (no_queue_idle w (h ++ e ∷ []) v world run none lanes)
    (same ∙ ap (λ (s : State). s.memory) (sym (state_after_append w h e)))

-- where no called operation is incomplete, nothing is left to do, with a queue or without
pub is_idle : (w : World) (h : List Event) (v : VkState) → IsWorld w → IsRunButWords w h → IsDevice w h v → IsQuiet (state_after w h) → IsIdle w h v
is_idle w h v world run device quiet =
    elim (cases_lt 0 (length w.queues)) [
      | inl some ↦ quiet_is_idle w h v run device some quiet
      | inr none ↦ no_queue_idle w h v world run none (omega (arith, device.objects.lanes, none))
    ]

-- where no called operation is incomplete, words that are ahead are the machine's memory
pub quiet_words : (w : World) (h : List Event) (v : VkState) (words : List (List ℕ)) → IsWorld w → IsRunButWords w h → IsDevice w h v → AreAhead w h v words → IsQuiet (state_after w h) →
    memory_of w words ≡ (state_after w h).memory
quiet_words w h v words world run device is quiet = idle_words w h v words is (is_idle w h v world run device quiet)
