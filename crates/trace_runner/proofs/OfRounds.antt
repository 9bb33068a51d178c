-- Runs of a world of rounds: they are calm, calls are not refused, and the machine is never stuck.
use Rattle.std.proofs.Common.{ℕ, zero, suc, ◌≡◌, ◌<◌, ◌≤◌, ◌∙◌, refl, sym, ap, subst, arith, lit≤, Bool, true, false, List, [], ◌∷◌, ◌++◌, length, drop, Some, None, ◌⊎◌, inl, inr}
use Rattle.std.specs.Prelude.{◌&&◌}
use Rattle.std.specs.List.{flat_map, list_all}
use Rattle.std.proofs.lemmas.Bool.{lt-ltb}
use Rattle.std.proofs.lemmas.List.{length-drop, length-append}
use Rattle.dx_base.specs.declared.ids.ThreadId.{ThreadId}
use Rattle.d3d_machine.specs.declared.world.World.{World}
use Rattle.d3d_machine.specs.declared.calls.Call.{Call}
use Rattle.d3d_machine.specs.declared.calls.Reply.{Reply}
use Rattle.d3d_machine.specs.declared.events.Event.{Event}
use Rattle.d3d_machine.specs.declared.events.Event.TheVariants as event
use Rattle.d3d_machine.specs.State.{Desk, State, first_state, place_of, called_of, next_call, script_of}
use Rattle.d3d_machine.specs.Replies.{refusal}
use Rattle.d3d_machine.specs.Effects.{after, after_all}
use Rattle.d3d_machine.specs.Play.{May, Plays, SameButWords, IsRunButWords, IsFinished, state_after}
use Rattle.sys_core.specs.Ahead.{records_copies, IsOfBuffers, IsCalm}
use Rattle.sys_core.specs.Laws.{CanGoOn}
use Rattle.sys_core.specs.Steps.{is_ready_place}
use Rattle.trace_runner.specs.Rounds.{Round, calls_of, world_with, world_of_rounds, AreRising, IsOfRounds}
use Rattle.trace_runner.specs.Moments.{Stage, Opening, Written, Begun, Recorded, Ended, Executed, Signalled, Waits, Woken, row, Moment, left_of, left_at, wait_in, waits_at, called_at, desk_at, IsMoment, GoesOn}
use Rattle.trace_runner.proofs.Moments.{waits_there}
use Rattle.trace_runner.proofs.Rounds.{IsAt, call_at, run_is_at, rounds_are_quiet, rounds_are_single}

by_thread : (calls : List Call) (n : ℕ) (m : Moment) → is_ready_place calls (record { made = n; waits = waits_at m }) ≡ true → GoesOn (world_with calls) (desk_at n m)
by_thread calls n m ready = inr (inl (0, lit≤ tt, ready))

by_queue : (calls : List Call) (n : ℕ) (m : Moment) → 0 < length (called_at m) → GoesOn (world_with calls) (desk_at n m)
by_queue calls n m some = inr (inr (0, lit≤ tt, some))

-- a moment behind all rounds
abbrev end : ℕ → ℕ → ℕ → Moment
end number before d = record { number = number; before = before; rounds = []; stage = Opening; done = d }

all_made : (calls : List Call) (n number before d : ℕ) → n ≡ length calls → (t : ℕ) →
    (place_of (desk_at n (end number before d)) t).made ≡ length (script_of (world_with calls) t)
all_made calls n number before d all zero = all
all_made calls n number before d all (suc t) = refl

none_waits : (n number before d : ℕ) (t : ℕ) → (place_of (desk_at n (end number before d)) t).waits ≡ None
none_waits n number before d zero = refl
none_waits n number before d (suc t) = refl

none_called : (n number before d : ℕ) (q : ℕ) → called_of (desk_at n (end number before d)) q ≡ []
none_called n number before d zero = refl
none_called n number before d (suc q) = refl

-- behind the last round all is finished
finished : (calls : List Call) (n number before d : ℕ) → drop n calls ≡ [] → n ≤ length calls → IsFinished (world_with calls) (desk_at n (end number before d))
finished calls n number before d left within = record {
  scripts = all_made calls n number before d (omega (arith, length-drop n calls, ap length left));
  waits = none_waits n number before d;
  queues = none_called n number before d;
}

-- in a round a call is left
made_few : (s : Stage) → (row s).made ≤ 7
made_few Opening = lit≤ tt
made_few Written = lit≤ tt
made_few Begun = lit≤ tt
made_few Recorded = lit≤ tt
made_few Ended = lit≤ tt
made_few Executed = lit≤ tt
made_few Signalled = lit≤ tt
made_few Waits = lit≤ tt
made_few Woken = lit≤ tt

eight_calls : (r : Round) → length (calls_of r) ≡ 8
unfolding calls_of
eight_calls r = refl

call_left : (k : ℕ) (r : Round) (rs : List Round) → k ≤ 7 → 0 < length (left_of k (r ∷ rs))
call_left k r rs few =
    omega (arith, length-append (drop k (calls_of r)) (flat_map calls_of rs), length-drop k (calls_of r), eight_calls r, few)

-- in a round the thread is ready, or the queue has an operation to complete
round_goes_on : (calls : List Call) (n number before : ℕ) (r : Round) (rs : List Round) (d : ℕ) (s : Stage) →
    let m : Moment = record { number = number; before = before; rounds = r ∷ rs; stage = s; done = d } in
    (drop n calls ≡ left_at m → IsMoment m → GoesOn (world_with calls) (desk_at n m))
round_goes_on calls n number before r rs d s left stands = by_wait (row s).waits refl
  where
    m : Moment
    m = record { number = number; before = before; rounds = r ∷ rs; stage = s; done = d }

    waiting : (d : ℕ) → let u : Moment = record { number = number; before = before; rounds = r ∷ rs; stage = Waits; done = d } in GoesOn (world_with calls) (desk_at n u)
    waiting zero = by_queue calls n (record { number = number; before = before; rounds = r ∷ rs; stage = Waits; done = 0 }) (lit≤ tt)
    waiting (suc zero) = by_queue calls n (record { number = number; before = before; rounds = r ∷ rs; stage = Waits; done = 1 }) (lit≤ tt)
    waiting (suc (suc d)) = by_thread calls n (record { number = number; before = before; rounds = r ∷ rs; stage = Waits; done = suc (suc d) }) refl

    by_wait : (b : Bool) → (row s).waits ≡ b → GoesOn (world_with calls) (desk_at n m)
    by_wait true is =
        subst (λ x. let u : Moment = record { number = number; before = before; rounds = r ∷ rs; stage = x; done = d } in GoesOn (world_with calls) (desk_at n u))
        (sym (waits_there s is)) (waiting d)
    by_wait false is =
        by_thread calls n m
        (ap (λ b. is_ready_place calls (record { made = n; waits = wait_in b d r.value })) is
        ∙ lt-ltb n (length calls) (omega (arith, length-drop n calls, ap length left, call_left (row s).made r rs (made_few s))))

moment_goes_on : (calls : List Call) (n number before : ℕ) (rounds : List Round) (d : ℕ) (s : Stage) →
    let m : Moment = record { number = number; before = before; rounds = rounds; stage = s; done = d } in
    (drop n calls ≡ left_at m → n ≤ length calls → IsMoment m → GoesOn (world_with calls) (desk_at n m))
moment_goes_on calls n number before [] d s left within stands =
    subst (λ x. let u : Moment = record { number = number; before = before; rounds = []; stage = x; done = d } in GoesOn (world_with calls) (desk_at n u))
    (sym stands.some) (inl (finished calls n number before d left within))
moment_goes_on calls n number before (r ∷ rs) d s left within stands = round_goes_on calls n number before r rs d s left stands

-- at a moment the machine is not stuck
pub at_goes_on : (calls : List Call) (d : Desk) → IsAt calls d → GoesOn (world_with calls) d
at_goes_on calls d at = subst (GoesOn (world_with calls)) (sym at.desk) (moment_goes_on calls at.made at.moment.number at.moment.before at.moment.rounds at.moment.done at.moment.stage at.left at.within at.stands)

thread_is_good : (calls : List Call) (n : ℕ) (m : Moment) (t : ℕ) (c : Call) → drop n calls ≡ left_at m → IsMoment m →
    (place_of (desk_at n m) t).waits ≡ None → next_call (world_with calls) (desk_at n m) t ≡ Some c → refusal (world_with calls) (desk_at n m) c ≡ None
thread_is_good calls n m zero c left stands none is = (call_at calls n m c left stands none is).good
thread_is_good calls n m (suc t) c left stands none is = absurd (cc)

-- at a moment no call that may come is refused
pub at_is_good : (calls : List Call) (d : Desk) (t : ℕ) (c : Call) → IsAt calls d → (place_of d t).waits ≡ None →
    next_call (world_with calls) d t ≡ Some c → refusal (world_with calls) d c ≡ None
at_is_good calls d t c at none is =
    let now : Desk = desk_at at.made at.moment in
    let none_now : (place_of now t).waits ≡ None = subst (λ x. (place_of x t).waits ≡ None) at.desk none in
    let next_now : next_call (world_with calls) now t ≡ Some c = subst (λ x. next_call (world_with calls) x t ≡ Some c) at.desk is in
    subst (λ x. refusal (world_with calls) x c ≡ None) (sym at.desk) (thread_is_good calls at.made at.moment t c at.left at.stands none_now next_now)

-- a fact of the runs of all worlds of rising rounds is one of the runs of a world of rounds
of_rounds : (P : World → List Event → Type 0) →
    ((rounds : List Round) (h : List Event) → AreRising 0 rounds → IsRunButWords (world_of_rounds rounds) h → P (world_of_rounds rounds) h) →
    (w : World) (h : List Event) → IsOfRounds w → IsRunButWords w h → P w h
of_rounds P holds w h of run = subst (λ x. P x h) of.world (holds of.rounds h of.rising (subst (λ x. IsRunButWords x h) (sym of.world) run))

-- a round records a copy of a buffer, and nothing else
records_of_rounds : (rounds : List Round) → list_all records_copies (flat_map calls_of rounds) ≡ true
unfolding calls_of
records_of_rounds [] = refl
records_of_rounds (r ∷ rounds) = records_of_rounds rounds

-- a world of rounds is one of buffers
rounds_of_buffers : (rounds : List Round) → IsOfBuffers (world_of_rounds rounds)
rounds_of_buffers rounds = record {
  queues = record { few_queues = lit≤ tt };
  resources = refl;
  records_alone = ap (λ t. t && true) (records_of_rounds rounds);
}

-- a run of a world of rounds is calm: host accesses come only where no called operation is incomplete, and each called
-- operation has at most one command
pub rounds_are_calm : (w : World) (h : List Event) → IsOfRounds w → IsRunButWords w h → IsCalm w h
rounds_are_calm = of_rounds IsCalm
    (λ rounds h rising run. record {
      world = rounds_of_buffers rounds;
      quiet = rounds_are_quiet rounds h rising run;
      single = rounds_are_single rounds h rising run;
    })

-- after a run of a world of rounds all is finished, or the thread is ready, or the queue has an operation to complete
pub rounds_go_on : (w : World) (h : List Event) → IsOfRounds w → IsRunButWords w h → IsFinished w (state_after w h).desk ⊎ CanGoOn w h
rounds_go_on = of_rounds (λ w h. GoesOn w (state_after w h).desk)
    (λ rounds h rising run. at_goes_on (flat_map calls_of rounds) (state_after (world_of_rounds rounds) h).desk (run_is_at rounds h rising run))

-- in a run of a world of rounds no call is refused
pub rounds_are_good : (w : World) (h : List Event) → IsOfRounds w → IsRunButWords w h → (t : ThreadId) (c : Call) (r : Reply) →
    May SameButWords w (state_after w h) (event.Call t c r) → refusal w (state_after w h).desk c ≡ None
rounds_are_good = of_rounds
    (λ w h. (t : ThreadId) → (c : Call) → (r : Reply) → May SameButWords w (state_after w h) (event.Call t c r) → refusal w (state_after w h).desk c ≡ None)
    (λ rounds h rising run t c r may.
    at_is_good (flat_map calls_of rounds) (state_after (world_of_rounds rounds) h).desk t.0 c (run_is_at rounds h rising run) may.0 may.1)

-- an event inside a play could come, behind the events before it
pub record CouldCome (Same : Reply → Reply → Type 0) (w : World) (s : State) (before : List Event) (e : Event) : Type 0 where
  pub plays : Plays Same w s before
  pub may : May Same w (after_all w s before) e

-- each event of a play could come
pub could_come : (Same : Reply → Reply → Type 0) (w : World) (s : State) (before : List Event) (e : Event) (behind : List Event) →
    Plays Same w s (before ++ e ∷ behind) → CouldCome Same w s before e
could_come Same w s [] e behind plays = record { plays = tt; may = plays.0 }
could_come Same w s (d ∷ before) e behind plays =
    let more : CouldCome Same w (after w s d) before e = could_come Same w (after w s d) before e behind plays.1 in
    record { plays = (plays.0, more.plays); may = more.may }

-- no call of a run of a world of rounds was refused
pub rounds_were_good : (w : World) (before : List Event) (t : ThreadId) (c : Call) (r : Reply) (behind : List Event) → IsOfRounds w →
    IsRunButWords w (before ++ event.Call t c r ∷ behind) → refusal w (state_after w before).desk c ≡ None
rounds_were_good w before t c r behind of run =
    let came : CouldCome SameButWords w (first_state w) before (event.Call t c r) = could_come SameButWords w (first_state w) before (event.Call t c r) behind run in
    rounds_are_good w before of came.plays t c r came.may
