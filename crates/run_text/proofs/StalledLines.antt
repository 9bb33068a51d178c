-- How far threads and queues have come by a history, and by the machine's state.
use Rattle.std.proofs.Common.{ℕ, zero, suc, ◌≡◌, ◌≢◌, ◌<◌, ◌≤◌, ◌+◌, ◌-◌, ◌==◌, ◌&&◌, ◌||◌, not, ◌∙◌, refl, sym, ap, subst, arith, cond, Bool, true, false, List, [], ◌∷◌, ◌++◌, length, drop, take, slice_get, count_by, map, is_some, ◌⊎◌, inl, inr, Option, Some, None}
use Rattle.std.specs.Prelude.{if◌then◌else◌, nat_lt}
use Rattle.std.proofs.lemmas.Bool.{cases_eq}
use Rattle.std.proofs.lemmas.Bool.Decides.{nat_tests}
use Rattle.std.proofs.lemmas.List.{length-append, length-drop, length-take, length-map}
use Rattle.std.proofs.lemmas.List.Recursion.{is_count_by}
use Rattle.dx_base.specs.Lists.{changed_at}
use Rattle.dx_base.specs.Effects.{At, at, unless}
use Rattle.dx_base.specs.declared.hresult.Hresult.{Hresult}
use Rattle.dx_base.specs.declared.kinds.ListType.{ListType}
use Rattle.d3d_machine.specs.declared.world.World.{World}
use Rattle.d3d_machine.specs.declared.calls.Call.{Call}
use Rattle.d3d_machine.specs.declared.calls.Call.TheVariants as call
use Rattle.d3d_machine.specs.declared.calls.Reply.{Reply}
use Rattle.d3d_machine.specs.declared.calls.Reply.TheVariants as reply
use Rattle.d3d_machine.specs.declared.events.Event.{Event}
use Rattle.d3d_machine.specs.declared.events.Event.TheVariants as event
use Rattle.d3d_machine.specs.declared.events.Operation.{Operation}
use Rattle.d3d_machine.specs.declared.events.Operation.TheVariants as operation
use Rattle.d3d_machine.specs.declared.events.Listed.{Listed}
use Rattle.d3d_machine.specs.State.{Desk, State, Place, Waiting, place_of, script_of, value_of, called_of, first_state, opening_place}
use Rattle.d3d_machine.specs.CallEffects.{Task, executes, signals, here_of}
use Rattle.d3d_machine.specs.Replies.{refusal_by, reply_or}
use Rattle.d3d_machine.specs.Effects.{done, marked_option, marked_place, begins_wait, marked_places, waiting_places, dropped, desk_after_operation, head_of, after, one_call_more, operation_given, operation_of}
use Rattle.d3d_machine.specs.Operations.{called_by, operations, counter}
use Rattle.d3d_machine.specs.Play.{May, SameButWords, IsRunButWords, state_after, calls_by, calls_in}
use Rattle.d3d_machine.specs.Shape.{HasShape}
use Rattle.d3d_machine.proofs.Operations.{HoldsRest, called_after, operations_append}
use Rattle.d3d_machine.proofs.Places.{place_in, kept_at, changed_here, changed_other, scripted, made_is_calls, runs_follow_scripts}
use Rattle.d3d_machine.proofs.Runs.{run_induction, state_after_append}
use Rattle.d3d_machine.proofs.Shape.{run_has_shape}
use Rattle.d3d_machine.proofs.Waits.{waits_mapped}
use Rattle.run_text.specs.declared.left.Progress.{Progress}
use Rattle.run_text.specs.Left.{is_wait, progress_after, progress_from, progress_of, is_left, is_done, is_call_on, gives, completes, is_busy, script_at, is_unfinished_of}
use Rattle.run_text.specs.StalledLines.{is_short_of, StalledLinesTellTheState}

-- a history that goes on by one event
progress_more : (t : ℕ) (p : Progress) (h : List Event) (e : Event) → progress_from t p (h ++ e ∷ []) ≡ progress_after t (progress_from t p h) e
unfolding progress_from
progress_more t p [] e = refl
progress_more t p (d ∷ h) e = progress_more t (progress_after t p d) h e

calls_step : (t : ℕ) (p : Progress) (e : Event) → (progress_after t p e).calls ≡ p.calls + length (calls_by t e)
calls_step t p (event.Call u c r) = by_thread (u.0 == t)
  where
    by_thread : (b : Bool) → (if b then record { calls = p.calls + 1; waits = is_wait c } else p).calls ≡ p.calls + length (if b then c ∷ [] else [])
    by_thread true = refl
    by_thread false = omega arith
calls_step t p (event.Awake u) = by_thread (u.0 == t)
  where
    by_thread : (b : Bool) → (if b then record { calls = p.calls; waits = false } else p).calls ≡ p.calls + 0
    by_thread true = omega arith
    by_thread false = omega arith
calls_step t p (event.Queue q) = omega arith

-- the calls of a thread are counted
calls_counted : (t : ℕ) (p : Progress) (h : List Event) → (progress_from t p h).calls ≡ p.calls + length (calls_in t h)
unfolding progress_from
calls_counted t p [] = omega arith
calls_counted t p (e ∷ h) = omega (arith, calls_counted t (progress_after t p e) h, calls_step t p e, length-append (calls_by t e) (calls_in t h))

-- the call that begins a wait is a wait, refused or not
wait_begins : (w : World) (d : Desk) (c : Call) → is_some (done w d.lists c).waits ≡ is_wait c
wait_begins w d (call.Recording l what) = refl
wait_begins w d _ = refl

abbrev waits_at : List Place → ℕ → Bool
waits_at ps t = is_some (place_in ps t).waits

marks_keep : (f v : ℕ) (o : Option Waiting) → is_some (marked_option f v o) ≡ is_some o
marks_keep f v None = refl
marks_keep f v (Some x) = refl

-- marks change nothing in who waits
marked_wait_on : (o : Option (At ℕ)) (ps : List Place) (t : ℕ) → waits_at (marked_places o ps) t ≡ waits_at ps t
marked_wait_on None ps t = refl
marked_wait_on (Some x) ps t = ap is_some (waits_mapped x.place x.what ps t) ∙ marks_keep x.place x.what (place_in ps t).waits

begin_here : (d : Desk) (t : ℕ) (o : Option (At ℕ)) (ps : List Place) → t < length ps → waits_at ps t ≡ false → waits_at (waiting_places d t o ps) t ≡ is_some o
begin_here d t None ps inside none = none
begin_here d t (Some x) ps inside none = ap (λ p. is_some p.waits) (changed_here (begins_wait (value_of d x.place) x.place x.what) ps t inside)

begin_other : (d : Desk) (u t : ℕ) (o : Option (At ℕ)) (ps : List Place) → u ≢ t → waits_at (waiting_places d u o ps) t ≡ waits_at ps t
begin_other d u t None ps other = refl
begin_other d u t (Some x) ps other = ap (λ p. is_some p.waits) (changed_other (begins_wait (value_of d x.place) x.place x.what) ps u t other)

length_marked : (o : Option (At ℕ)) (ps : List Place) → length (marked_places o ps) ≡ length ps
length_marked None ps = refl
length_marked (Some x) ps = length-map ps (marked_place x.place x.what)

completion_keeps : (d : Desk) (o : Option Operation) (t : ℕ) → waits_at (desk_after_operation d o).threads t ≡ waits_at d.threads t
completion_keeps d None t = refl
completion_keeps d (Some (operation.Execute commands)) t = refl
completion_keeps d (Some (operation.Signal f v)) t = ap is_some (waits_mapped f.0 v d.threads t) ∙ marks_keep f.0 v (place_in d.threads t).waits

woken_here : (ps : List Place) (t : ℕ) → waits_at (changed_at (λ p. record p { waits = None }) t ps) t ≡ false
woken_here [] t = refl
woken_here (p ∷ ps) zero = refl
woken_here (p ∷ ps) (suc t) = woken_here ps t

if_same : {A : Type 0} (x y : A) (u t : ℕ) → u ≡ t → (if (u == t) then x else y) ≡ x
if_same x y u t same = let yes : (u == t) ≡ true = grind (arith, nat_tests) in rw yes refl

if_other : {A : Type 0} (x y : A) (u t : ℕ) → u ≢ t → (if (u == t) then x else y) ≡ y
if_other x y u t other = let no : (u == t) ≡ false = grind (arith, nat_tests) in rw no refl

-- who waits after an event, by the event alone
waits_step : (w : World) (s : State) (e : Event) (t : ℕ) (p : Progress) → HasShape w s → May SameButWords w s e → p.waits ≡ waits_at s.desk.threads t →
    (progress_after t p e).waits ≡ waits_at (after w s e).desk.threads t
waits_step w s (event.Call u c r) t p shape may was =
    let inside : u.0 < length s.desk.threads = rw shape.desk.threads (scripted w.scripts u.0 (place_of s.desk u.0).made c may.1) in
    let ps : List Place = marked_places (done w s.desk.lists c).sets s.desk.threads in
    let counts : waits_at (after w s (event.Call u c r)).desk.threads t ≡ waits_at (waiting_places s.desk u.0 (done w s.desk.lists c).waits ps) t =
    kept_at (λ p. is_some p.waits) one_call_more (λ p. refl) (waiting_places s.desk u.0 (done w s.desk.lists c).waits ps) u.0 t in
    elim (cases_eq u.0 t) [
      | inl same ↦
          let none : waits_at ps u.0 ≡ false = marked_wait_on (done w s.desk.lists c).sets s.desk.threads u.0 ∙ ap is_some may.0 in
          let begun : waits_at (waiting_places s.desk u.0 (done w s.desk.lists c).waits ps) u.0 ≡ is_some (done w s.desk.lists c).waits =
          begin_here s.desk u.0 (done w s.desk.lists c).waits ps (rw (length_marked (done w s.desk.lists c).sets s.desk.threads) inside) none in
          ap (λ x. x.waits) (if_same (record { calls = p.calls + 1; waits = is_wait c }) p u.0 t same)
          ∙ sym (counts ∙ subst (λ k. waits_at (waiting_places s.desk u.0 (done w s.desk.lists c).waits ps) k ≡ is_some (done w s.desk.lists c).waits) same begun ∙ wait_begins w s.desk c)
      | inr other ↦
          ap (λ x. x.waits) (if_other (record { calls = p.calls + 1; waits = is_wait c }) p u.0 t other)
          ∙ was ∙ sym (counts ∙ begin_other s.desk u.0 t (done w s.desk.lists c).waits ps other ∙ marked_wait_on (done w s.desk.lists c).sets s.desk.threads t)
    ]
waits_step w s (event.Awake u) t p shape may was =
    elim (cases_eq u.0 t) [
      | inl same ↦
          ap (λ x. x.waits) (if_same (record { calls = p.calls; waits = false }) p u.0 t same)
          ∙ sym (subst (λ k. waits_at (changed_at (λ x. record x { waits = None }) u.0 s.desk.threads) k ≡ false) same (woken_here s.desk.threads u.0))
      | inr other ↦
          ap (λ x. x.waits) (if_other (record { calls = p.calls; waits = false }) p u.0 t other)
          ∙ was ∙ sym (ap (λ x. is_some x.waits) (changed_other (λ x. record x { waits = None }) s.desk.threads u.0 t other))
    ]
waits_step w s (event.Queue q) t p shape may was = was ∙ sym (completion_keeps (dropped s.desk q.0) (head_of s.desk q.0) t)

none_wait : {A : Type 0} (scripts : List A) (t : ℕ) → waits_at (map (λ _. opening_place) scripts) t ≡ false
none_wait [] t = refl
none_wait (x ∷ scripts) zero = refl
none_wait (x ∷ scripts) (suc t) = none_wait scripts t

first_waits : (w : World) (t : ℕ) → (progress_of t []).waits ≡ waits_at (state_after w []).desk.threads t
unfolding progress_from
first_waits w t = sym (none_wait w.scripts t)

-- who waits after a run
waits_are : (w : World) (h : List Event) → IsRunButWords w h → (t : ℕ) → (progress_of t h).waits ≡ waits_at (state_after w h).desk.threads t
waits_are w h run = run_induction (λ es. (t : ℕ) → (progress_of t es).waits ≡ waits_at (state_after w es).desk.threads t) w
    (λ t. first_waits w t)
    (λ es e before holds may t.
    rw (progress_more t (record { calls = 0; waits = false }) es e, state_after_append w es e)
    (waits_step w (state_after w es) e t (progress_of t es) (run_has_shape w es) may (holds t)))
    h run

-- as many calls as a script has at most
short_is : (made long : ℕ) → made ≤ long → nat_lt made long ≡ not (made == long)
short_is made long few = grind (arith, nat_tests, few)

or_swap : (a b : Bool) → (a || b) ≡ (b || a)
or_swap true true = refl
or_swap false false = refl
or_swap _ _ = refl

threads_tell : (w : World) (h : List Event) → IsRunButWords w h → (t : ℕ) → t < length w.scripts →
    is_unfinished_of w.scripts h t ≡ is_short_of (script_of w t) (place_of (state_after w h).desk t)
threads_tell w h run t inside =
    let made : ℕ = (place_of (state_after w h).desk t).made in
    let long : ℕ = length (script_of w t) in
    let count : (progress_of t h).calls ≡ made = omega (arith, calls_counted t (record { calls = 0; waits = false }) h, made_is_calls w h run t) in
    let few : made ≤ long = omega (arith, made_is_calls w h run t, ap length (runs_follow_scripts w h run t), length-take (length (calls_in t h)) (script_of w t)) in
    ap (λ b. b || nat_lt (progress_of t h).calls long) (waits_are w h run t)
    ∙ ap (λ n. waits_at (state_after w h).desk.threads t || nat_lt n long) count
    ∙ ap (λ b. waits_at (state_after w h).desk.threads t || b) (short_is made long few)
    ∙ or_swap (waits_at (state_after w h).desk.threads t) (not (made == long))

-- a count goes on by one item
counted : {A : Type 0} → (A → Bool) → List A → ℕ
counted p [] = 0
counted p (x ∷ xs) = cond (p x) (1 + counted p xs) (counted p xs)

count_more : {A : Type 0} (p : A → Bool) (xs : List A) (x : A) → counted p (xs ++ x ∷ []) ≡ counted p xs + cond (p x) 1 0
unfolding counted
count_more p [] x = omega arith
count_more p (y ∷ xs) x = by_test (p y) (count_more p xs x)
  where
    by_test : (b : Bool) → counted p (xs ++ x ∷ []) ≡ counted p xs + cond (p x) 1 0 →
        cond b (1 + counted p (xs ++ x ∷ [])) (counted p (xs ++ x ∷ [])) ≡ cond b (1 + counted p xs) (counted p xs) + cond (p x) 1 0
    by_test true more = omega (arith, more)
    by_test false more = more

count_is : {A : Type 0} (p : A → Bool) (xs : List A) → counted p xs ≡ count_by p xs
unfolding counted
count_is p xs = is_count_by (counted p) p refl (λ x ys. refl) xs

done_is : (r : Reply) → SameButWords r reply.Done → is_done r ≡ true
done_is reply.Done same = refl
done_is (reply.Value v) same = absurd (cc)
done_is (reply.Words ws) same = absurd same
done_is (reply.Error e) same = absurd (cc)

refused_is : (r : Reply) (e : Hresult) → SameButWords r (reply.Error e) → is_done r ≡ false
refused_is reply.Done e same = absurd (cc)
refused_is _ e same = refl

-- a queue is given an operation where the call is on it and is done
given_one : (lists : List Listed) (o : Option Hresult) (r : Reply) (x : Task) (k q : ℕ) → SameButWords r (reply_or o reply.Done) →
    length (here_of q (operation_given lists (unless (at k x) o))) ≡ cond ((k == q) && is_done r) 1 0
given_one lists None r x k q same = rw (done_is r same) (by_test (k == q))
  where
    by_test : (t : Bool) → length (if t then operation_of lists x ∷ [] else []) ≡ cond (t && true) 1 0
    by_test true = refl
    by_test false = refl
given_one lists (Some e) r x k q same = rw (refused_is r e same) (by_test (k == q))
  where
    by_test : (t : Bool) → length (here_of q (operation_given lists (unless (at k x) (Some e)))) ≡ cond (t && false) 1 0
    by_test true = refl
    by_test false = refl

gives_step : (w : World) (s : State) (q : ℕ) (e : Event) → May SameButWords w s e → length (called_by w s.desk q e) ≡ cond (gives q e) 1 0
gives_step w s q (event.Call t (call.Execute p ls) r) may = given_one s.desk.lists (refusal_by w s.desk.lists (call.Execute p ls)) r (executes ls) p.0 q may.2
gives_step w s q (event.Call t (call.Signal p f v) r) may = given_one s.desk.lists None r (signals f v) p.0 q may.2
gives_step w s q _ may = refl

none_counted : (q : ℕ) → 0 ≡ counted (gives q) []
unfolding counted
none_counted q = refl

-- the operations of a queue are counted by the calls that are done
operations_counted : (w : World) (h : List Event) → IsRunButWords w h → (q : ℕ) → length (operations w h q) ≡ counted (gives q) h
operations_counted w h run = run_induction (λ es. (q : ℕ) → length (operations w es q) ≡ counted (gives q) es) w
    (λ q. none_counted q)
    (λ es e before holds may q.
    rw (operations_append w (first_state w) q es e, count_more (gives q) es e)
    (omega (arith, holds q, length-append (operations w es q) (called_by w (state_after w es).desk q e), gives_step w (state_after w es) q e may)))
    h run

completions_counted : (h : List Event) (q : ℕ) → counter h q ≡ counted (completes q) h
unfolding counted
completions_counted [] q = refl
completions_counted (event.Queue p ∷ h) q = by_test (p.0 == q) (completions_counted h q)
  where
    by_test : (b : Bool) → counter h q ≡ counted (completes q) h → (if b then 1 else 0) + counter h q ≡ cond b (1 + counted (completes q) h) (counted (completes q) h)
    by_test true more = omega (arith, more)
    by_test false more = omega (arith, more)
completions_counted (_ ∷ h) q = omega (arith, completions_counted h q)

behind_is : (n long : ℕ) → n ≤ long → nat_lt n long ≡ nat_lt 0 (long - n)
behind_is n long few = grind (arith, nat_tests, few)

there_is : {A : Type 0} (xs : List A) (k : ℕ) → k < length xs → (x : A) × (slice_get xs k ≡ Some x)
there_is [] k inside = absurd (omega arith)
there_is (x ∷ xs) zero inside = (x, refl)
there_is (x ∷ xs) (suc k) inside = there_is xs k (omega arith)

abbrev called_or_none : Option (List Operation) → List Operation
called_or_none o = elim o [ None ↦ [] | Some x ↦ x ]

queues_tell : (w : World) (h : List Event) → IsRunButWords w h → (q : ℕ) → q < length w.queues → is_busy h q ≡ nat_lt 0 (length (called_of (state_after w h).desk q))
queues_tell w h run q inside =
    let there : (x : ListType) × (slice_get w.queues q ≡ Some x) = there_is w.queues q inside in
    let n : ℕ = counter h q in
    let os : List Operation = operations w h q in
    let held : HoldsRest (state_after w h).desk q n os = called_after SameButWords w q h there.0 there.1 run in
    let is : called_of (state_after w h).desk q ≡ drop n os = ap called_or_none held.rest in
    let rest : length (called_of (state_after w h).desk q) ≡ length os - n = ap length is ∙ length-drop n os in
    ap (λ k. nat_lt k (count_by (gives q) h)) (sym (count_is (completes q) h) ∙ sym (completions_counted h q))
    ∙ ap (λ k. nat_lt n k) (sym (count_is (gives q) h) ∙ sym (operations_counted w h run q))
    ∙ behind_is n (length os) held.within ∙ ap (λ k. nat_lt 0 k) (sym rest)

pub stalled_lines_tell : StalledLinesTellTheState
stalled_lines_tell = record { threads = threads_tell; queues = queues_tell }
