-- The steps of a run of rounds, from moment to moment.
use Rattle.std.proofs.Common.{ℕ, zero, suc, ◌≡◌, ◌*◌, ◌+◌, ◌<◌, ◌≤◌, ◌&&◌, nat_le, refl, sym, ap, subst, arith, Bool, true, false, List, [], ◌∷◌, length, Option, Some, None}
use Rattle.std.specs.Prelude.{◌==◌, nat_lt, not, if◌then◌else◌}
use Rattle.std.specs.List.{flat_map, list_all}
use Rattle.std.proofs.lemmas.Bool.{le-leb, lt-leb}
use Rattle.dx_base.specs.declared.hresult.Hresult.TheVariants.{InvalidArg}
use Rattle.d3d_machine.specs.declared.world.World.{World}
use Rattle.d3d_machine.specs.declared.calls.Call.{Call}
use Rattle.d3d_machine.specs.declared.calls.Call.TheVariants as call
use Rattle.d3d_machine.specs.declared.events.Event.TheVariants as event
use Rattle.d3d_machine.specs.declared.events.Listed.{Listed}
use Rattle.d3d_machine.specs.declared.events.Operation.{Operation}
use Rattle.d3d_machine.specs.declared.events.Operation.TheVariants as operation
use Rattle.d3d_machine.specs.State.{Desk}
use Rattle.d3d_machine.specs.World.{is_upload, is_inside, words_in}
use Rattle.d3d_machine.specs.Replies.{refusal, refuse_if}
use Rattle.d3d_machine.specs.Effects.{operation_given, done, desk_after, desk_after_call, woken}
use Rattle.d3d_machine.specs.CallEffects.{here_of}
use Rattle.d3d_machine.specs.Play.{is_marked}
use Rattle.sys_core.specs.Ahead.{is_access}
use Rattle.sys_core.specs.InOrder.{is_single}
use Rattle.trace_runner.specs.Rounds.{Round, AreRising, calls_of, world_with}
use Rattle.trace_runner.specs.Moments.{Stage, Opening, Written, Begun, Recorded, Ended, Executed, Signalled, Waits, Woken, Given, Nothing, Copies, Signals, most, row, Moment, execute_copy, left_of, left_at, is_through, round_value, value_in, in_flight, called_at, list_in, wait_in, waits_at, next_at, desk_with, desk_at, after_call, after_queue, after_awake, IsStageOf, IsMoment}

-- a fact of the next call, where there is one
abbrev pub OnNext : (Call → Type 0) → Option Call → Type 0
OnNext P None = Unit {0}
OnNext P (Some c) = P c

-- a fact of the next call holds of a call that is the next
pub on_next : (P : Call → Type 0) (o : Option Call) (c : Call) → OnNext P o → o ≡ Some c → P c
on_next P None c holds is = absurd (cc)
on_next P (Some d) c holds is = let same : d ≡ c = cc in subst P same holds

-- the value of the round suffices exactly where its signal is complete
reached : (d before v : ℕ) → before < v → nat_le v (value_in d before v) ≡ is_through d
reached zero before v above = lt-leb v before above
reached (suc zero) before v above = lt-leb v before above
reached (suc (suc d)) before v above = le-leb v v (omega arith)

-- the operation that a call gives that queue, where it gives it one
abbrev pub given_by : World → Desk → ℕ → Call → List Operation
given_by w d q c = here_of q (operation_given d.lists (done w d.lists c).gives)

if_single : (t : Bool) (o : Operation) → is_single o ≡ true → list_all is_single (if t then o ∷ [] else []) ≡ true
if_single true o single = ap (λ u. u && true) single
if_single false o single = refl

-- what the next call does: it leads to the moment behind it, comes where nothing is called and incomplete if it reads or
-- writes a buffer, gives a queue operations of at most one command, and is not refused
pub record Goes (calls : List Call) (n : ℕ) (m : Moment) (c : Call) : Type 0 where
  pub moves : desk_after_call (world_with calls) (desk_at n m) 0 c ≡ desk_at (n + 1) (after_call m)
  pub quiet : is_access c ≡ true → called_at m ≡ []
  pub single : (q : ℕ) → list_all is_single (given_by (world_with calls) (desk_at n m) q c) ≡ true
  pub good : refusal (world_with calls) (desk_at n m) c ≡ None
  pub left : left_at m ≡ c ∷ left_at (after_call m)
  pub stands : IsMoment (after_call m)

goes_of : (calls : List Call) (n : ℕ) (m : Moment) (c : Call) → desk_after_call (world_with calls) (desk_at n m) 0 c ≡ desk_at (n + 1) (after_call m) →
    (is_access c ≡ true → called_at m ≡ []) → ((q : ℕ) → list_all is_single (given_by (world_with calls) (desk_at n m) q c) ≡ true) →
    refusal (world_with calls) (desk_at n m) c ≡ None → left_at m ≡ c ∷ left_at (after_call m) → IsMoment (after_call m) → Goes calls n m c
goes_of calls n m c moves quiet single good left stands = record { moves = moves; quiet = quiet; single = single; good = good; left = left; stands = stands }

-- a moment of a round that is not over
abbrev moment : ℕ → ℕ → Round → List Round → ℕ → Stage → Moment
moment number before r rs d s = record { number = number; before = before; rounds = r ∷ rs; stage = s; done = d }

-- the write of four words is not refused
good_write : (calls : List Call) (d : Desk) (r : Round) → length r.words ≡ 4 → refusal (world_with calls) d (call.Write (record { 0 = 0 }) 0 r.words) ≡ None
good_write calls d r four =
    let w : World = world_with calls in
    ap (λ k. refuse_if (not (is_upload w 0 && is_inside (words_in w 0) 0 (4 * k))) InvalidArg None) four

-- the calls of the rounds behind
pub left_behind : (rs : List Round) → flat_map calls_of rs ≡ left_of 0 rs
left_behind [] = refl
left_behind (r ∷ rs) = refl

-- the rounds behind begin with none of their calls made
pub begins_behind : (rs : List Round) → IsStageOf rs Opening
begins_behind [] = refl
begins_behind (r ∷ rs) = tt

module _ (calls : List Call) (n number before : ℕ) (r : Round) (rs : List Round) (rising : AreRising before (r ∷ rs)) where
  -- the round stands at a stage
  stays : (k d : ℕ) (s : Stage) → (row s).least ≤ d → d ≤ most (row s).given → IsMoment (moment k before r rs d s)
  stays k d s least most_done = record { least = least; most_done = most_done; rising = rising; some = tt }

  resets : (k d : ℕ) → d ≤ 0 → Goes calls n (moment k before r rs d Written) (call.Reset (record { 0 = 0 }) (record { 0 = 0 }))
  unfolding calls_of
  resets zero d none = goes_of calls n _ _ refl (λ access. refl) (λ q. refl) refl refl (stays 0 d Begun (omega arith) none)
  resets (suc k) d none = goes_of calls n _ _ refl (λ access. refl) (λ q. refl) refl refl (stays (suc k) d Begun (omega arith) none)

  executes : (d : ℕ) → d ≤ 0 → Goes calls n (moment number before r rs d Ended) (call.Execute (record { 0 = 0 }) ((record { 0 = 0 }) ∷ []))
  unfolding calls_of
  executes zero none =
      goes_of calls n _ _ refl (λ access. refl) (λ q. if_single (0 == q) execute_copy refl) refl refl (stays number 0 Executed (omega arith) (omega arith))
  executes (suc d) none = absurd (omega (arith, none))

  signals : (d : ℕ) → d ≤ 1 → Goes calls n (moment number before r rs d Executed) (call.Signal (record { 0 = 0 }) (record { 0 = 0 }) r.value)
  unfolding calls_of
  signals zero less =
      goes_of calls n _ _ refl (λ access. absurd (cc)) (λ q. if_single (0 == q) (operation.Signal (record { 0 = 0 }) r.value) refl) refl refl
      (stays number 0 Signalled (omega arith) (omega arith))
  signals (suc zero) less =
      goes_of calls n _ _ refl (λ access. absurd (cc)) (λ q. if_single (0 == q) (operation.Signal (record { 0 = 0 }) r.value) refl) refl refl
      (stays number 1 Signalled (omega arith) (omega arith))
  signals (suc (suc d)) less = absurd (omega (arith, less))

  -- the wait is met at once where the signal is complete
  waits_on : (d : ℕ) → d ≤ 2 → Goes calls n (moment number before r rs d Signalled) (call.HostWait (record { 0 = 0 }) r.value)
  unfolding calls_of
  waits_on d most_done =
      let waiting : Bool → Desk = λ b.
      desk_with (n + 1) (value_in d before r.value) (in_flight Signals d r.value) (list_in (row Signalled).list number)
      (Some (record { fence = 0; value = r.value; marked = b })) in
      goes_of calls n _ _ (ap waiting (reached d before r.value rising.0.above)) (λ access. absurd (cc)) (λ q. refl) refl refl
      (stays number d Waits (omega arith) most_done)

  reads : (d : ℕ) → 2 ≤ d → Goes calls n (moment number before r rs d Woken) (call.Read (record { 0 = 1 }) 0 16)
  unfolding calls_of
  reads zero over = absurd (omega (arith, over))
  reads (suc zero) over = absurd (omega (arith, over))
  reads (suc (suc d)) over =
      goes_of calls n _ _ refl (λ access. refl) (λ q. refl) refl (ap (λ cs. call.Read (record { 0 = 1 }) 0 16 ∷ cs) (left_behind rs))
      (record { least = omega arith; most_done = omega arith; rising = rising.1; some = begins_behind rs })

  -- the next call of a round that is not over
  round_goes : (d : ℕ) (s : Stage) → (row s).least ≤ d → d ≤ most (row s).given →
      OnNext (Goes calls n (moment number before r rs d s)) (next_at (moment number before r rs d s))
  unfolding calls_of
  round_goes d Opening least most_done =
      goes_of calls n _ _ refl (λ access. refl) (λ q. refl) (good_write calls (desk_at n (moment number before r rs d Opening)) r rising.0.four) refl
      (stays number d Written least most_done)
  round_goes d Written least most_done = resets number d most_done
  round_goes d Begun least most_done = goes_of calls n _ _ refl (λ access. refl) (λ q. refl) refl refl (stays number d Recorded least most_done)
  round_goes d Recorded least most_done = goes_of calls n _ _ refl (λ access. refl) (λ q. refl) refl refl (stays number d Ended least most_done)
  round_goes d Ended least most_done = executes d most_done
  round_goes d Executed least most_done = signals d most_done
  round_goes d Signalled least most_done = waits_on d most_done
  round_goes d Waits least most_done = tt
  round_goes d Woken least most_done = reads d least

next_by : (calls : List Call) (n number before : ℕ) (rounds : List Round) (d : ℕ) (s : Stage) → let m : Moment = record { number = number; before = before; rounds = rounds; stage = s; done = d } in
    IsMoment m → OnNext (Goes calls n m) (next_at m)
next_by calls n number before [] d s stands = by_stage s stands.some
  where
    by_stage : (s : Stage) → s ≡ Opening → let m : Moment = record { number = number; before = before; rounds = []; stage = s; done = d } in OnNext (Goes calls n m) (next_at m)
    by_stage s is = subst (λ s. let m : Moment = record { number = number; before = before; rounds = []; stage = s; done = d } in OnNext (Goes calls n m) (next_at m)) (sym is) tt
next_by calls n number before (r ∷ rs) d s stands = round_goes calls n number before r rs stands.rising d s stands.least stands.most_done

-- what the next call of a moment does
pub next_goes : (calls : List Call) (n : ℕ) (m : Moment) (c : Call) → IsMoment m → next_at m ≡ Some c → Goes calls n m c
next_goes calls n m c stands is = on_next (Goes calls n m) (next_at m) c (next_by calls n m.number m.before m.rounds m.done m.stage stands) is

-- the completion of the oldest operation, by what is in flight
completes : (w : World) (n : ℕ) (g : Given) (d before v : ℕ) (list : Listed) (b : Bool) → nat_lt 0 (length (in_flight g d v)) ≡ true →
    desk_after w (desk_with n (value_in d before v) (in_flight g d v) list (wait_in b d v)) (event.Queue (record { 0 = 0 }))
    ≡ desk_with n (value_in (suc d) before v) (in_flight g (suc d) v) list (wait_in b (suc d) v)
completes w n Nothing d before v list b some = absurd (cc)
completes w n Copies zero before v list true some = refl
completes w n Copies zero before v list false some = refl
completes w n Copies (suc d) before v list b some = absurd (cc)
completes w n Signals zero before v list true some = refl
completes w n Signals zero before v list false some = refl
completes w n Signals (suc zero) before v list true some =
    ap (λ b. desk_with n v [] list (Some (record { fence = 0; value = v; marked = b }))) (le-leb v v (omega arith))
completes w n Signals (suc zero) before v list false some = refl
completes w n Signals (suc (suc d)) before v list b some = absurd (cc)

-- one operation more can be complete
one_more : (g : Given) (d v : ℕ) → nat_lt 0 (length (in_flight g d v)) ≡ true → suc d ≤ most g
one_more Nothing d v some = absurd (cc)
one_more Copies zero v some = omega arith
one_more Copies (suc d) v some = absurd (cc)
one_more Signals zero v some = omega arith
one_more Signals (suc zero) v some = omega arith
one_more Signals (suc (suc d)) v some = absurd (cc)

-- a desk leads to that of a moment, with the same calls left
pub record Leads (n : ℕ) (m : Moment) (d : Desk) (new : Moment) : Type 0 where
  pub moves : d ≡ desk_at n new
  pub left : left_at new ≡ left_at m
  pub stands : IsMoment new

-- the completion of the oldest operation leads to the moment behind it
pub queue_leads : (w : World) (n : ℕ) (m : Moment) → IsMoment m → nat_lt 0 (length (called_at m)) ≡ true →
    Leads n m (desk_after w (desk_at n m) (event.Queue (record { 0 = 0 }))) (after_queue m)
queue_leads w n m stands some =
    let v : ℕ = round_value m.rounds in
    record {
      moves = completes w n (row m.stage).given m.done m.before v (list_in (row m.stage).list m.number) (row m.stage).waits some;
      left = refl;
      stands = record {
        least = omega (arith, stands.least);
        most_done = one_more (row m.stage).given m.done v some;
        rising = stands.rising;
        some = stands.some;
      };
    }

-- the thread waits at one stage alone
pub waits_there : (s : Stage) → (row s).waits ≡ true → s ≡ Waits
waits_there Opening is = absurd (cc)
waits_there Written is = absurd (cc)
waits_there Begun is = absurd (cc)
waits_there Recorded is = absurd (cc)
waits_there Ended is = absurd (cc)
waits_there Executed is = absurd (cc)
waits_there Signalled is = absurd (cc)
waits_there Waits is = refl
waits_there Woken is = absurd (cc)

-- a marked wait is there, and the round's signal is complete
marked_is : (b : Bool) (d v : ℕ) → is_marked (wait_in b d v) ≡ true → (b ≡ true) × (2 ≤ d)
marked_is true zero v met = absurd (cc)
marked_is true (suc zero) v met = absurd (cc)
marked_is true (suc (suc d)) v met = (refl, omega arith)
marked_is false d v met = absurd (cc)

awake_by : (n number before : ℕ) (rounds : List Round) (d : ℕ) → let m : Moment = record { number = number; before = before; rounds = rounds; stage = Waits; done = d } in
    IsMoment m → 2 ≤ d → Leads n m (woken 0 (desk_at n m)) (after_awake m)
awake_by n number before [] d stands over = absurd (let no : Waits ≡ Opening = stands.some in cc)
awake_by n number before (r ∷ rs) d stands over = record {
  moves = refl;
  left = refl;
  stands = record { least = over; most_done = stands.most_done; rising = stands.rising; some = tt };
}

-- the waking of the thread leads to the moment behind it
pub awake_leads : (n : ℕ) (m : Moment) → IsMoment m → is_marked (waits_at m) ≡ true → Leads n m (woken 0 (desk_at n m)) (after_awake m)
awake_leads n m stands met =
    let found = marked_is (row m.stage).waits m.done (round_value m.rounds) met in
    by_stage m.stage (waits_there m.stage found.0) stands found.1
  where
    by_stage : (s : Stage) → s ≡ Waits → IsMoment (record m { stage = s }) → 2 ≤ m.done → Leads n (record m { stage = s }) (woken 0 (desk_at n (record m { stage = s }))) (after_awake (record m { stage = s }))
    by_stage s is = subst (λ s. IsMoment (record m { stage = s }) → 2 ≤ m.done → Leads n (record m { stage = s }) (woken 0 (desk_at n (record m { stage = s }))) (after_awake (record m { stage = s })))
        (sym is) (λ stands over. awake_by n m.number m.before m.rounds m.done stands over)
