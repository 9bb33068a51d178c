-- In a run of rounds each state is a moment: host accesses come where nothing is called and incomplete, and
-- until all is finished the thread or the queue can go on.
use Rattle.std.proofs.Common.{ℕ, zero, suc, ◌≡◌, ◌+◌, ◌≤◌, ◌∙◌, refl, sym, ap, subst, arith, Bool, true, false, List, [], ◌∷◌, length, drop, slice_get, Option, Some, None}
use Rattle.std.specs.Prelude.{nat_lt}
use Rattle.std.specs.List.{flat_map, list_all}
use Rattle.std.proofs.lemmas.Option.{slice_get_within}
use Rattle.dx_base.specs.declared.hresult.Hresult.{Hresult}
use Rattle.d3d_machine.specs.declared.world.World.{World}
use Rattle.d3d_machine.specs.declared.calls.Call.{Call}
use Rattle.d3d_machine.specs.declared.events.Event.{Event}
use Rattle.d3d_machine.specs.declared.events.Event.TheVariants as event
use Rattle.d3d_machine.specs.State.{Desk, State, first_state, place_of, called_of, next_call}
use Rattle.d3d_machine.specs.Replies.{refusal}
use Rattle.d3d_machine.specs.Effects.{after, desk_after, desk_after_call, woken}
use Rattle.d3d_machine.specs.Play.{May, SameButWords, IsRunButWords, state_after, is_marked}
use Rattle.d3d_machine.specs.Operations.{operations, called_by}
use Rattle.d3d_machine.proofs.Operations.{operations_append}
use Rattle.d3d_machine.proofs.Runs.{run_induction, state_after_append}
use Rattle.sys_core.specs.Ahead.{IsQuiet, is_access, is_good_access, is_host_access, AreHostAccessesQuiet, AreSingle}
use Rattle.sys_core.specs.InOrder.{is_single}
use Rattle.trace_runner.specs.Rounds.{Round, calls_of, world_with, world_of_rounds, AreRising}
use Rattle.trace_runner.specs.Moments.{Opening, row, Moment, round_value, left_at, wait_in, waits_at, next_in, next_at, after_call, after_queue, after_awake, called_at, desk_at, IsMoment}
use Rattle.trace_runner.proofs.Moments.{given_by, Goes, next_goes, left_behind, begins_behind, Leads, queue_leads, awake_leads}
use Rattle.sys_core.proofs.Whole.{quiet_append}
use Rattle.dx_base.proofs.Lists.{all_append}

-- a desk at a moment, with the calls of the script that are behind those made
pub record IsAt (calls : List Call) (d : Desk) : Type 0 where
  pub made : ℕ
  pub moment : Moment
  pub desk : d ≡ desk_at made moment
  pub left : drop made calls ≡ left_at moment
  pub within : made ≤ length calls
  pub stands : IsMoment moment

-- the next item stands before those behind it
next_dropped : (cs : List Call) (n : ℕ) (c : Call) → slice_get cs n ≡ Some c → drop n cs ≡ c ∷ drop (n + 1) cs
next_dropped [] n c is = absurd (cc)
next_dropped (d ∷ cs) zero c is = let same : d ≡ c = cc in ap (λ x. x ∷ cs) same
next_dropped (d ∷ cs) (suc n) c is =
    let one : suc (n + 1) ≡ suc n + 1 = omega arith in
    next_dropped cs n c is ∙ ap (λ k. c ∷ drop k (d ∷ cs)) one

-- where the thread does not wait, its next call is the first of those that are left
comes_next : (calls : List Call) (n : ℕ) (m : Moment) (c : Call) → drop n calls ≡ left_at m → waits_at m ≡ None → slice_get calls n ≡ Some c → next_at m ≡ Some c
comes_next calls n m c left none is =
    ap (λ b. next_in b (left_at m)) (no_wait (row m.stage).waits m.done (round_value m.rounds) none) ∙ ap (λ cs. slice_get cs 0) (sym left ∙ next_dropped calls n c is)
  where
    no_wait : (b : Bool) (d v : ℕ) → wait_in b d v ≡ None → b ≡ false
    no_wait true d v none = absurd (cc)
    no_wait false d v none = refl

-- what a call that may come does
pub call_at : (calls : List Call) (n : ℕ) (m : Moment) (c : Call) → drop n calls ≡ left_at m → IsMoment m → waits_at m ≡ None → slice_get calls n ≡ Some c →
    Goes calls n m c
call_at calls n m c left stands none is = next_goes calls n m c stands (comes_next calls n m c left none is)

call_keeps : (calls : List Call) (n : ℕ) (m : Moment) (t : ℕ) (c : Call) → drop n calls ≡ left_at m → IsMoment m →
    (place_of (desk_at n m) t).waits ≡ None → next_call (world_with calls) (desk_at n m) t ≡ Some c →
    IsAt calls (desk_after_call (world_with calls) (desk_at n m) t c)
call_keeps calls n m zero c left stands none is =
    let goes : Goes calls n m c = call_at calls n m c left stands none is in
    let both : c ∷ drop (n + 1) calls ≡ c ∷ left_at (after_call m) = sym (next_dropped calls n c is) ∙ left ∙ goes.left in
    record {
      made = n + 1;
      moment = after_call m;
      desk = goes.moves;
      left = cc;
      within = omega (arith, slice_get_within calls n c is);
      stands = goes.stands;
    }
call_keeps calls n m (suc t) c left stands none is = absurd (cc)

-- a desk to which a moment leads without a call
leads_on : (calls : List Call) (n : ℕ) (m : Moment) (d : Desk) (new : Moment) → drop n calls ≡ left_at m → n ≤ length calls → Leads n m d new → IsAt calls d
leads_on calls n m d new left within leads = record {
  made = n;
  moment = new;
  desk = leads.moves;
  left = left ∙ sym leads.left;
  within = within;
  stands = leads.stands;
}

awake_keeps : (calls : List Call) (n : ℕ) (m : Moment) (t : ℕ) → drop n calls ≡ left_at m → n ≤ length calls → IsMoment m →
    is_marked (place_of (desk_at n m) t).waits ≡ true → IsAt calls (woken t (desk_at n m))
awake_keeps calls n m zero left within stands met = leads_on calls n m (woken 0 (desk_at n m)) (after_awake m) left within (awake_leads n m stands met)
awake_keeps calls n m (suc t) left within stands met = absurd (cc)

queue_keeps : (calls : List Call) (n : ℕ) (m : Moment) (q : ℕ) → drop n calls ≡ left_at m → n ≤ length calls → IsMoment m →
    nat_lt 0 (length (called_of (desk_at n m) q)) ≡ true → IsAt calls (desk_after (world_with calls) (desk_at n m) (event.Queue (record { 0 = q })))
queue_keeps calls n m zero left within stands some =
    leads_on calls n m (desk_after (world_with calls) (desk_at n m) (event.Queue (record { 0 = 0 }))) (after_queue m) left within
    (queue_leads (world_with calls) n m stands some)
queue_keeps calls n m (suc q) left within stands some = absurd (cc)

moment_keeps : (calls : List Call) (n : ℕ) (m : Moment) (memory : List (List ℕ)) (e : Event) → drop n calls ≡ left_at m → n ≤ length calls → IsMoment m →
    May SameButWords (world_with calls) (record { desk = desk_at n m; memory = memory }) e → IsAt calls (desk_after (world_with calls) (desk_at n m) e)
moment_keeps calls n m memory (event.Call t c r) left within stands may = call_keeps calls n m t.0 c left stands may.0 may.1
moment_keeps calls n m memory (event.Awake t) left within stands may = awake_keeps calls n m t.0 left within stands may
moment_keeps calls n m memory (event.Queue q) left within stands may = queue_keeps calls n m q.0 left within stands may

-- an event that may come leads from moment to moment
pub event_keeps : (calls : List Call) (s : State) (e : Event) → IsAt calls s.desk → May SameButWords (world_with calls) s e → IsAt calls (after (world_with calls) s e).desk
event_keeps calls s e at may =
    let now : May SameButWords (world_with calls) (record { desk = desk_at at.made at.moment; memory = s.memory }) e =
    subst (λ d. May SameButWords (world_with calls) (record { desk = d; memory = s.memory }) e) at.desk may in
    subst (λ d. IsAt calls (desk_after (world_with calls) d e)) (sym at.desk) (moment_keeps calls at.made at.moment s.memory e at.left at.within at.stands now)

-- in a run of rounds with rising values each state is a moment
pub run_is_at : (rounds : List Round) (h : List Event) → AreRising 0 rounds → IsRunButWords (world_of_rounds rounds) h →
    IsAt (flat_map calls_of rounds) (state_after (world_of_rounds rounds) h).desk
run_is_at rounds h rising run =
    let w : World = world_of_rounds rounds in
    let calls : List Call = flat_map calls_of rounds in
    run_induction (λ es. IsAt calls (state_after w es).desk) w
    (record {
      made = 0;
      moment = record { number = 0; before = 0; rounds = rounds; stage = Opening; done = 0 };
      desk = refl;
      left = left_behind rounds;
      within = omega arith;
      stands = record { least = omega arith; most_done = omega arith; rising = rising; some = begins_behind rounds };
    })
    (λ es e before at may. subst (λ s. IsAt calls s.desk) (sym (state_after_append w es e)) (event_keeps calls (state_after w es) e at may))
    h run

good_is_access : (r : Option Hresult) (c : Call) → is_good_access r c ≡ true → is_access c ≡ true
good_is_access None c good = good
good_is_access (Some e) c good = absurd (cc)

-- nothing is called and incomplete at a moment whose one queue is empty
empty_queue : (n : ℕ) (m : Moment) → called_at m ≡ [] → (q : ℕ) → called_of (desk_at n m) q ≡ []
empty_queue n m none zero = none
empty_queue n m none (suc q) = refl

call_is_quiet : (calls : List Call) (n : ℕ) (m : Moment) (t : ℕ) (c : Call) → drop n calls ≡ left_at m → IsMoment m →
    (place_of (desk_at n m) t).waits ≡ None → next_call (world_with calls) (desk_at n m) t ≡ Some c → is_access c ≡ true → called_at m ≡ []
call_is_quiet calls n m zero c left stands none is access = (call_at calls n m c left stands none is).quiet access
call_is_quiet calls n m (suc t) c left stands none is access = absurd (cc)

moment_is_quiet : (calls : List Call) (n : ℕ) (m : Moment) (memory : List (List ℕ)) (e : Event) → drop n calls ≡ left_at m → IsMoment m →
    May SameButWords (world_with calls) (record { desk = desk_at n m; memory = memory }) e →
    is_host_access (world_with calls) (record { desk = desk_at n m; memory = memory }) e ≡ true → (q : ℕ) → called_of (desk_at n m) q ≡ []
moment_is_quiet calls n m memory (event.Call t c r) left stands may access =
    empty_queue n m (call_is_quiet calls n m t.0 c left stands may.0 may.1 (good_is_access (refusal (world_with calls) (desk_at n m) c) c access))
moment_is_quiet calls n m memory (event.Awake t) left stands may access = absurd (cc)
moment_is_quiet calls n m memory (event.Queue q) left stands may access = absurd (cc)

-- a host access that may come at a moment comes where no called operation is incomplete
pub access_at : (calls : List Call) (s : State) (e : Event) → IsAt calls s.desk → May SameButWords (world_with calls) s e →
    is_host_access (world_with calls) s e ≡ true → IsQuiet s
access_at calls s e at may access =
    let now : State = record { desk = desk_at at.made at.moment; memory = s.memory } in
    let same : s ≡ now = ap (λ d. record { desk = d; memory = s.memory }) at.desk in
    let may_now : May SameButWords (world_with calls) now e = subst (λ x. May SameButWords (world_with calls) x e) same may in
    let access_now : is_host_access (world_with calls) now e ≡ true = subst (λ x. is_host_access (world_with calls) x e ≡ true) same access in
    subst IsQuiet (sym same) (record { none_called = moment_is_quiet calls at.made at.moment s.memory e at.left at.stands may_now access_now })

-- in a run of rounds with rising values, host accesses come only where no called operation is incomplete
pub rounds_are_quiet : (rounds : List Round) (h : List Event) → AreRising 0 rounds → IsRunButWords (world_of_rounds rounds) h →
    AreHostAccessesQuiet (world_of_rounds rounds) h
rounds_are_quiet rounds h rising run =
    let w : World = world_of_rounds rounds in
    let calls : List Call = flat_map calls_of rounds in
    run_induction (λ es. AreHostAccessesQuiet w es) w tt
    (λ es e before are may. quiet_append w es e are (access_at calls (state_after w es) e (run_is_at rounds es rising before) may))
    h run

call_at_single : (calls : List Call) (n : ℕ) (m : Moment) (q t : ℕ) (c : Call) → drop n calls ≡ left_at m → IsMoment m →
    (place_of (desk_at n m) t).waits ≡ None → next_call (world_with calls) (desk_at n m) t ≡ Some c →
    list_all is_single (given_by (world_with calls) (desk_at n m) q c) ≡ true
call_at_single calls n m q zero c left stands none is = (call_at calls n m c left stands none is).single q
call_at_single calls n m q (suc t) c left stands none is = absurd (cc)

moment_is_single : (calls : List Call) (n : ℕ) (m : Moment) (memory : List (List ℕ)) (q : ℕ) (e : Event) → drop n calls ≡ left_at m → IsMoment m →
    May SameButWords (world_with calls) (record { desk = desk_at n m; memory = memory }) e → list_all is_single (called_by (world_with calls) (desk_at n m) q e) ≡ true
moment_is_single calls n m memory q (event.Call t c r) left stands may = call_at_single calls n m q t.0 c left stands may.0 may.1
moment_is_single calls n m memory q (event.Awake t) left stands may = refl
moment_is_single calls n m memory q (event.Queue p) left stands may = refl

-- an event that may come at a moment gives a queue operations of at most one command
single_at : (calls : List Call) (s : State) (q : ℕ) (e : Event) → IsAt calls s.desk → May SameButWords (world_with calls) s e →
    list_all is_single (called_by (world_with calls) s.desk q e) ≡ true
single_at calls s q e at may =
    let now : May SameButWords (world_with calls) (record { desk = desk_at at.made at.moment; memory = s.memory }) e =
    subst (λ d. May SameButWords (world_with calls) (record { desk = d; memory = s.memory }) e) at.desk may in
    subst (λ d. list_all is_single (called_by (world_with calls) d q e) ≡ true) (sym at.desk) (moment_is_single calls at.made at.moment s.memory q e at.left at.stands now)

-- in a run of rounds with rising values, each called operation has at most one command
pub rounds_are_single : (rounds : List Round) (h : List Event) → AreRising 0 rounds → IsRunButWords (world_of_rounds rounds) h → AreSingle (world_of_rounds rounds) h
rounds_are_single rounds h rising run =
    let w : World = world_of_rounds rounds in
    let calls : List Call = flat_map calls_of rounds in
    λ q. run_induction (λ es. list_all is_single (operations w es q) ≡ true) w refl
    (λ es e before are may.
    subst (λ os. list_all is_single os ≡ true) (sym (operations_append w (first_state w) q es e))
    (all_append is_single (operations w es q) (called_by w (state_after w es).desk q e) are (single_at calls (state_after w es) q e (run_is_at rounds es rising before) may)))
    h run
