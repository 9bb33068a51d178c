-- The pending operations of the clocks are those of the machine.
use Rattle.std.proofs.Common.{ℕ, zero, suc, ◌≡◌, ◌∙◌, refl, sym, ap, List, [], ◌∷◌, ◌++◌, map, drop, Option, Some, None, arith}
use Rattle.dx_base.specs.Lists.{changed_at}
use Rattle.dx_base.proofs.Lists.{map_changed}
use Rattle.dx_base.specs.declared.hresult.Hresult.{Hresult}
use Rattle.clocks.specs.declared.clock.Clock.{Clock}
use Rattle.d3d_machine.specs.declared.calls.Call.{Call}
use Rattle.d3d_machine.specs.declared.calls.Call.TheVariants as call
use Rattle.d3d_machine.specs.declared.events.Event.{Event}
use Rattle.d3d_machine.specs.declared.events.Event.TheVariants as event
use Rattle.d3d_machine.specs.declared.events.Operation.{Operation}
use Rattle.d3d_machine.specs.declared.events.Operation.TheVariants as operation
use Rattle.d3d_machine.specs.declared.world.World.{World}
use Rattle.d3d_machine.specs.CallEffects.{does}
use Rattle.d3d_machine.specs.Effects.{after, after_all, done_unless, desk_by, dropped, desk_after_operation}
use Rattle.d3d_machine.specs.Effects as effects
use Rattle.d3d_machine.specs.Play.{state_after}
use Rattle.d3d_machine.specs.Replies.{refusal}
use Rattle.d3d_machine.specs.State.{Desk, State, first_state}
use Rattle.d3d_judge.specs.Carried.{item_or, Clocks, Pending, effect, called_by, call_clock, head, head_of, completed, carried, carried_all, first_clocks, clocks_after}
use Rattle.d3d_judge.specs.Happenings.{Work, unless_refused, deed_of, work_of, happening_of, happenings_from}

abbrev works : List (List Pending) → List (List Work)
works xs = map (map (λ p. p.what)) xs

abbrev tasks : List (List Operation) → List (List Work)
tasks xs = map (map work_of) xs

map_more : {A B : Type 0} (f : A → B) (xs : List A) (y : A) → map f (xs ++ y ∷ []) ≡ map f xs ++ f y ∷ []
map_more f [] y = refl
map_more f (x ∷ xs) y = ap (λ t. f x ∷ t) (map_more f xs y)

map_less : {A B : Type 0} (f : A → B) (xs : List A) → map f (drop 1 xs) ≡ drop 1 (map f xs)
map_less f [] = refl
map_less f (x ∷ xs) = refl

-- one operation more
more_follow : (xs : List (List Pending)) (ys : List (List Operation)) (q : ℕ) (p : Pending) (o : Operation) → works xs ≡ tasks ys → p.what ≡ work_of o →
    works (changed_at (λ os. os ++ p ∷ []) q xs) ≡ tasks (changed_at (λ os. os ++ o ∷ []) q ys)
more_follow xs ys q p o h e =
    map_changed (map (λ (r : Pending). r.what)) (λ os. os ++ p ∷ []) (λ ws. ws ++ p.what ∷ []) q xs (λ os. map_more (λ (r : Pending). r.what) os p)
    ∙ (ap (λ zs. changed_at (λ ws. ws ++ p.what ∷ []) q zs) h
    ∙ (ap (λ x. changed_at (λ ws. ws ++ x ∷ []) q (tasks ys)) e
    ∙ sym (map_changed (map work_of) (λ os. os ++ o ∷ []) (λ ws. ws ++ work_of o ∷ []) q ys (λ os. map_more work_of os o))))

-- one operation less
less_follow : (xs : List (List Pending)) (ys : List (List Operation)) (q : ℕ) → works xs ≡ tasks ys → works (changed_at (drop 1) q xs) ≡ tasks (changed_at (drop 1) q ys)
less_follow xs ys q h =
    map_changed (map (λ (r : Pending). r.what)) (drop 1) (drop 1) q xs (λ os. map_less (λ (r : Pending). r.what) os)
    ∙ (ap (λ zs. changed_at (drop 1) q zs) h
    ∙ sym (map_changed (map work_of) (drop 1) (drop 1) q ys (λ os. map_less work_of os)))

nothing_there : (xs : List (List Pending)) (q : ℕ) → head (item_or [] xs q) ≡ None → changed_at (drop 1) q xs ≡ xs
nothing_there [] q e = refl
nothing_there ([] ∷ xs) zero e = refl
nothing_there ((p ∷ ps) ∷ xs) zero e = absurd (grind (arith, e))
nothing_there (ps ∷ xs) (suc q) e = ap (λ t. ps ∷ t) (nothing_there xs q e)

completed_pending : (s : Clocks) (q : ℕ) (o : Option Pending) → head (item_or [] s.pending q) ≡ o → (completed s q o).pending ≡ changed_at (drop 1) q s.pending
completed_pending s q None e = sym (nothing_there s.pending q e)
completed_pending s q (Some p) e = refl

operation_called : (d : Desk) (o : Option Operation) → (desk_after_operation d o).called ≡ d.called
operation_called d None = refl
operation_called d (Some (operation.Execute commands)) = refl
operation_called d (Some (operation.Signal f v)) = refl

-- a call, refused or not
call_follows : (w : World) (s : Clocks) (d : Desk) (t : ℕ) (k : Clock) (c : Call) (r : Option Hresult) → works s.pending ≡ tasks d.called →
    works (effect s t k (unless_refused r (deed_of d c))).pending ≡ tasks (desk_by w d t (done_unless d.lists (does c) r)).called
call_follows w s d t k (call.Recording l what) None h = h
call_follows w s d t k (call.Recording l what) (Some e) h = h
call_follows w s d t k (call.Close l) None h = h
call_follows w s d t k (call.Close l) (Some e) h = h
call_follows w s d t k (call.Reset l a) None h = h
call_follows w s d t k (call.Reset l a) (Some e) h = h
call_follows w s d t k (call.Execute q ls) None h = more_follow s.pending d.called q.0 _ _ h refl
call_follows w s d t k (call.Execute q ls) (Some e) h = h
call_follows w s d t k (call.Signal q f v) None h = more_follow s.pending d.called q.0 _ _ h refl
call_follows w s d t k (call.Signal q f v) (Some e) h = h
call_follows w s d t k (call.HostSignal f v) None h = h
call_follows w s d t k (call.HostSignal f v) (Some e) h = h
call_follows w s d t k (call.HostWait f v) None h = h
call_follows w s d t k (call.HostWait f v) (Some e) h = h
call_follows w s d t k (call.Value f) None h = h
call_follows w s d t k (call.Value f) (Some e) h = h
call_follows w s d t k (call.Write b offset ws) None h = h
call_follows w s d t k (call.Write b offset ws) (Some e) h = h
call_follows w s d t k (call.Read b offset bytes) None h = h
call_follows w s d t k (call.Read b offset bytes) (Some e) h = h

event_follows : (w : World) (s : Clocks) (u : State) (e : Event) → works s.pending ≡ tasks u.desk.called →
    works (carried s (happening_of w u.desk e)).pending ≡ tasks (after w u e).desk.called
event_follows w s u (event.Call t c r) h = call_follows w (called_by s t.0) u.desk t.0 (call_clock s t.0) c (refusal w u.desk c) h
event_follows w s u (event.Awake t) h = h
event_follows w s u (event.Queue q) h =
    ap works (completed_pending s q.0 (head_of s q.0) refl)
    ∙ (less_follow s.pending u.desk.called q.0 h
    ∙ sym (ap tasks (operation_called (dropped u.desk q.0) (effects.head_of u.desk q.0))))

all_follow : (w : World) (s : Clocks) (u : State) (h : List Event) → works s.pending ≡ tasks u.desk.called →
    works (carried_all s (happenings_from w u h)).pending ≡ tasks (after_all w u h).desk.called
all_follow w s u [] is = is
all_follow w s u (e ∷ h) is = all_follow w (carried s (happening_of w u.desk e)) (after w u e) h (event_follows w s u e is)

no_work : {A : Type 0} (xs : List A) → works (map (λ _. []) xs) ≡ tasks (map (λ _. []) xs)
no_work [] = refl
no_work (x ∷ xs) = ap (λ t. [] ∷ t) (no_work xs)

pub pending_are_called : (w : World) (h : List Event) → map (map (λ p. p.what)) (clocks_after w h).pending ≡ map (map work_of) (state_after w h).desk.called
pending_are_called w h = all_follow w (first_clocks w) (first_state w) h (no_work w.queues)
