-- What a judge's parts become at each form of call that touches no word.
use Rattle.std.proofs.Common.{ℕ, ◌≡◌, ◌<◌, ◌≤◌, ◌+◌, ◌^◌, ◌∙◌, nat_lt, refl, ap, sym, subst, arith, List, length, Bool, true, ◌&&◌, Option, Some, None, Result, Ok, Err}
use Rattle.std.specs.Result.{OnErr}
use Rattle.std.proofs.lemmas.List.{length-map}
use Rattle.dx_base.specs.Each.{Each}
use Rattle.dx_base.proofs.Lists.{and_both}
use Rattle.dx_base.specs.declared.hresult.Hresult.{Hresult}
use Rattle.dx_base.specs.declared.ids.AllocatorId.{AllocatorId}
use Rattle.dx_base.specs.declared.ids.FenceId.{FenceId}
use Rattle.dx_base.specs.declared.ids.ListId.{ListId}
use Rattle.dx_base.specs.declared.ids.QueueId.{QueueId}
use Rattle.clocks.specs.Clocks.{number}
use Rattle.d3d_machine.specs.declared.calls.Call.TheVariants as call
use Rattle.d3d_machine.specs.declared.calls.Record.{Record}
use Rattle.d3d_machine.specs.declared.events.Command.{Command}
use Rattle.d3d_machine.specs.declared.events.Event.{Event}
use Rattle.d3d_machine.specs.declared.events.Operation.TheVariants as operation
use Rattle.d3d_machine.specs.declared.world.World.{World}
use Rattle.d3d_machine.specs.Lists.{lists_after_record, lists_after_close, lists_after_reset, execute_refusal, commands_of, answer_or}
use Rattle.d3d_machine.specs.Play.{state_after}
use Rattle.d3d_machine.specs.Replies.{refusal}
use Rattle.d3d_machine.specs.State.{State}
use Rattle.d3d_machine.proofs.Served.{served_record, served_close, served_reset}
use Rattle.d3d_judge.specs.declared.carried_clocks.CarriedClocks.{CarriedClocks}
use Rattle.d3d_judge.specs.declared.judge_parts.JudgeParts.{JudgeParts}
use Rattle.d3d_judge.specs.declared.word_touches.WordTouches.{WordTouches}
use Rattle.d3d_judge.specs.Carried.{Clocks, carried, called_by}
use Rattle.d3d_judge.specs.CarriedClocks.{clocks_of, pending_in, updates_in, AreSized}
use Rattle.d3d_judge.specs.Happenings.{Calls, Gives, SetsFence, WaitsFor, Asks, Nothing, unless_refused, deed_of, work_of}
use Rattle.d3d_judge.specs.CopyScopes.{IsShapedFor}
use Rattle.d3d_judge.specs.Judged.{judge_after}
use Rattle.d3d_judge.specs.JudgeParts.{Stands, TakesCall, CallFound}
use Rattle.d3d_judge.specs.WordTouches.{AreAllTied}
use Rattle.d3d_machine.proofs.Shape.{run_has_shape}
use Rattle.d3d_judge.proofs.CarriedClocks.{thread_numbers}
use Rattle.d3d_judge.proofs.Standing.{quiet_call, clocks_sized}

lt_of : (a b : ℕ) → nat_lt a b ≡ true → a < b
lt_of a b h = grind (arith, h)

-- what a call names is there
pub named_first : (a b : ℕ) (more : Bool) → (nat_lt a b && more) ≡ true → a < b
named_first a b more h = lt_of a b (and_both (nat_lt a b) more h).0

pub named_second : (a b : ℕ) (first : Bool) → (first && nat_lt a b) ≡ true → a < b
named_second a b first h = lt_of a b (and_both first (nat_lt a b) h).1

pub named_only : (a b : ℕ) → nat_lt a b ≡ true → a < b
named_only a b h = lt_of a b h

-- parts with the same lists, clocks and touches stand where others stand
pub stands_as : (w : World) (h : List Event) (x y : JudgeParts) → Stands w h x → y.lists ≡ x.lists → clocks_of y.clocks ≡ clocks_of x.clocks → y.touches ≡ x.touches → Stands w h y
stands_as w h x y s lists clocks touches = record {
  lists = lists ∙ s.lists;
  clocks = clocks ∙ s.clocks;
  ties = subst (λ z. AreAllTied (judge_after w h).made z.resources) (sym touches) s.ties;
  shaped = subst (λ z. IsShapedFor w z.resources) (sym touches) s.shaped;
  events = s.events;
  steady = s.steady;
}

pub on_err : {A E P : Type 0} (r : Result A E) → P → OnErr r P
on_err (Ok x) h = tt
on_err (Err e) h = h

-- and so do parts whose tables have what they had
pub stands_touched : (w : World) (h : List Event) (x : JudgeParts) (touches : WordTouches) → Stands w h x → (AreAllTied (judge_after w h).made x.touches.resources → AreAllTied (judge_after w h).made touches.resources) →
    IsShapedFor w touches.resources → Stands w h (record x { touches = touches })
stands_touched w h x touches s ties shaped = record {
  lists = s.lists;
  clocks = s.clocks;
  ties = ties s.ties;
  shaped = shaped;
  events = s.events;
  steady = s.steady;
}

module _ (w : World) (h : List Event) (x : JudgeParts) (u : CarriedClocks) (same : clocks_of u ≡ clocks_of x.clocks) (s : Stands w h x) where
  sized_here : AreSized (length w.queues) (length w.scripts) (length w.fences) (clocks_of u)
  sized_here = subst (AreSized (length w.queues) (length w.scripts) (length w.fences)) (sym same) (clocks_sized w h x s)

  -- the clocks have the sizes that they have
  pub sized_at : AreSized (length u.queues) (length u.threads) (length u.updates) (clocks_of u)
  sized_at =
      let z = sized_here in
      subst (λ a. AreSized a (length u.threads) (length u.updates) (clocks_of u)) (sym z.queue_count)
      (subst (λ a. AreSized (length w.queues) a (length u.updates) (clocks_of u)) (sym z.thread_count)
      (subst (λ a. AreSized (length w.queues) (length w.scripts) a (clocks_of u)) (sym (sym (length-map u.updates updates_in) ∙ z.fence_count)) z))

  pub thread_at : (t : ℕ) → t < length w.scripts → t < length u.threads
  thread_at t l = let e = sized_here.thread_count in omega (arith, l, e)

  pub queue_at : (q : ℕ) → q < length w.queues → q < length u.queues
  queue_at q l = let e = sized_here.queue_count in omega (arith, l, e)

  pub pending_at : (q : ℕ) → q < length w.queues → q < length u.pending
  pending_at q l = let e = sym (length-map u.pending pending_in) ∙ sized_here.pending_count in omega (arith, l, e)

  pub fence_at : (f : ℕ) → f < length w.fences → f < length u.updates
  fence_at f l = let e = sym (length-map u.updates updates_in) ∙ sized_here.fence_count in omega (arith, l, e)

  pub numbers_at : (t : ℕ) → t < length w.scripts → Each (λ c. t < length c.threads) u.threads
  numbers_at t l = thread_numbers (length w.queues) (length w.scripts) (length w.fences) (clocks_of u) t sized_here l

  pub call_small : (t : ℕ) → length h + 1 < 2 ^ 64 → number u.ends.threads t + 1 < 2 ^ 64
  call_small t l =
      let a = subst (λ (c : Clocks). number c.ends.threads t ≤ (judge_after w h).events) (sym (same ∙ s.clocks)) (s.steady.few_calls t) in
      let b = s.events in
      omega (arith, a, b, l)

  pub operation_small : (q : ℕ) → length h + 1 < 2 ^ 64 → number u.ends.queues q + 1 < 2 ^ 64
  operation_small q l =
      let a = subst (λ (c : Clocks). number c.ends.queues q ≤ (judge_after w h).events) (sym (same ∙ s.clocks)) (s.steady.few_operations q) in
      let b = s.events in
      omega (arith, a, b, l)

-- a list of the world is there
pub list_at : (w : World) (h : List Event) (x : JudgeParts) → Stands w h x → (l : ℕ) → l < length w.lists → l < length x.lists
list_at w h x s l b = let e = ap (λ xs. length xs) s.lists in let g = (run_has_shape w h).desk.lists in omega (arith, b, e, g)

pub unless_nothing : (r : Option Hresult) → unless_refused r Nothing ≡ Nothing
unless_nothing None = refl
unless_nothing (Some e) = refl

module _ (w : World) (h : List Event) (x new : JudgeParts) (t : ℕ) where
  -- calls on lists
  pub found_record : (l : ListId) (what : Record) → TakesCall w h x t (call.Recording l what) → new.lists ≡ lists_after_record w x.lists l.0 what →
      clocks_of new.clocks ≡ called_by (clocks_of x.clocks) t → new.touches ≡ x.touches → CallFound w h t (call.Recording l what) new None
  found_record l what k lists clocks touches =
      quiet_call w h x new t (call.Recording l what) Nothing k refl (unless_nothing (refusal w (state_after w h).desk (call.Recording l what)))
      (lists ∙ (ap (λ xs. lists_after_record w xs l.0 what) k.opened.stands.lists ∙ sym (ap (λ (s : State). s.desk.lists) (served_record w (state_after w h) t l what)))) clocks touches

  pub found_close : (l : ListId) → TakesCall w h x t (call.Close l) → new.lists ≡ lists_after_close x.lists l.0 →
      clocks_of new.clocks ≡ called_by (clocks_of x.clocks) t → new.touches ≡ x.touches → CallFound w h t (call.Close l) new None
  found_close l k lists clocks touches =
      quiet_call w h x new t (call.Close l) Nothing k refl (unless_nothing (refusal w (state_after w h).desk (call.Close l)))
      (lists ∙ (ap (λ xs. lists_after_close xs l.0) k.opened.stands.lists ∙ sym (ap (λ (s : State). s.desk.lists) (served_close w (state_after w h) t l)))) clocks touches

  pub found_reset : (l : ListId) (a : AllocatorId) → TakesCall w h x t (call.Reset l a) → new.lists ≡ lists_after_reset w x.lists l.0 a.0 →
      clocks_of new.clocks ≡ called_by (clocks_of x.clocks) t → new.touches ≡ x.touches → CallFound w h t (call.Reset l a) new None
  found_reset l a k lists clocks touches =
      quiet_call w h x new t (call.Reset l a) Nothing k refl (unless_nothing (refusal w (state_after w h).desk (call.Reset l a)))
      (lists ∙ (ap (λ xs. lists_after_reset w xs l.0 a.0) k.opened.stands.lists ∙ sym (ap (λ (s : State). s.desk.lists) (served_reset w (state_after w h) t l a)))) clocks touches

  -- an execution that is refused, and one that is not
  refused_by : (o : Option Hresult) (cs : List Command) (e : Hresult) → Err e ≡ answer_or o cs → o ≡ Some e
  refused_by None cs e is = cc
  refused_by (Some d) cs e is = cc

  given_by : (o : Option Hresult) (cs ds : List Command) → Ok ds ≡ answer_or o cs → (o ≡ None) × (ds ≡ cs)
  given_by None cs ds is = (refl, cc)
  given_by (Some d) cs ds is = absurd (cc)

  pub found_refused : (q : QueueId) (ls : List ListId) (e : Hresult) → TakesCall w h x t (call.Execute q ls) → Err e ≡ answer_or (execute_refusal w x.lists q.0 ls) (commands_of x.lists ls) →
      new.lists ≡ x.lists → clocks_of new.clocks ≡ called_by (clocks_of x.clocks) t → new.touches ≡ x.touches → CallFound w h t (call.Execute q ls) new None
  found_refused q ls e k is lists clocks touches =
      quiet_call w h x new t (call.Execute q ls) Nothing k refl
      (ap (λ r. unless_refused r (deed_of (state_after w h).desk (call.Execute q ls)))
      (subst (λ xs. execute_refusal w xs q.0 ls ≡ Some e) k.opened.stands.lists (refused_by (execute_refusal w x.lists q.0 ls) (commands_of x.lists ls) e is)))
      (lists ∙ k.opened.stands.lists) clocks touches

  pub found_execute : (q : QueueId) (ls : List ListId) (cs : List Command) → TakesCall w h x t (call.Execute q ls) → Ok cs ≡ answer_or (execute_refusal w x.lists q.0 ls) (commands_of x.lists ls) →
      new.lists ≡ x.lists → clocks_of new.clocks ≡ carried (clocks_of x.clocks) (Calls t (Gives q.0 (work_of (operation.Execute cs)))) → new.touches ≡ x.touches → CallFound w h t (call.Execute q ls) new None
  found_execute q ls cs k is lists clocks touches =
      let g = given_by (execute_refusal w x.lists q.0 ls) (commands_of x.lists ls) cs is in
      quiet_call w h x new t (call.Execute q ls) (Gives q.0 (work_of (operation.Execute cs))) k refl
      (ap (λ r. unless_refused r (deed_of (state_after w h).desk (call.Execute q ls))) (subst (λ xs. execute_refusal w xs q.0 ls ≡ None) k.opened.stands.lists g.0)
      ∙ ap (λ ds. Gives q.0 (work_of (operation.Execute ds))) (sym (g.1 ∙ ap (λ xs. commands_of xs ls) k.opened.stands.lists)))
      (lists ∙ k.opened.stands.lists) clocks touches

  -- signals and waits
  pub found_signal : (q : QueueId) (f : FenceId) (v : ℕ) → TakesCall w h x t (call.Signal q f v) → new.lists ≡ x.lists →
      clocks_of new.clocks ≡ carried (clocks_of x.clocks) (Calls t (Gives q.0 (work_of (operation.Signal f v)))) → new.touches ≡ x.touches → CallFound w h t (call.Signal q f v) new None
  found_signal q f v k lists clocks touches = quiet_call w h x new t (call.Signal q f v) (Gives q.0 (work_of (operation.Signal f v))) k refl refl (lists ∙ k.opened.stands.lists) clocks touches

  pub found_set : (f : FenceId) (v : ℕ) → TakesCall w h x t (call.HostSignal f v) → new.lists ≡ x.lists →
      clocks_of new.clocks ≡ carried (clocks_of x.clocks) (Calls t (SetsFence f.0 v)) → new.touches ≡ x.touches → CallFound w h t (call.HostSignal f v) new None
  found_set f v k lists clocks touches = quiet_call w h x new t (call.HostSignal f v) (SetsFence f.0 v) k refl refl (lists ∙ k.opened.stands.lists) clocks touches

  pub found_wait : (f : FenceId) (v : ℕ) → TakesCall w h x t (call.HostWait f v) → new.lists ≡ x.lists →
      clocks_of new.clocks ≡ carried (clocks_of x.clocks) (Calls t (WaitsFor f.0 v)) → new.touches ≡ x.touches → CallFound w h t (call.HostWait f v) new None
  found_wait f v k lists clocks touches = quiet_call w h x new t (call.HostWait f v) (WaitsFor f.0 v) k refl refl (lists ∙ k.opened.stands.lists) clocks touches

  pub found_ask : (f : FenceId) → TakesCall w h x t (call.Value f) → new.lists ≡ x.lists →
      clocks_of new.clocks ≡ carried (clocks_of x.clocks) (Calls t (Asks f.0)) → new.touches ≡ x.touches → CallFound w h t (call.Value f) new None
  found_ask f k lists clocks touches = quiet_call w h x new t (call.Value f) (Asks f.0) k refl refl (lists ∙ k.opened.stands.lists) clocks touches
