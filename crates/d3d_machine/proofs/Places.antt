-- The place of a thread after an event, and its calls in a run.
use Rattle.std.proofs.Common.{ℕ, zero, suc, ◌≡◌, ◌≢◌, ◌<◌, ◌+◌, ◌==◌, refl, sym, ap, ◌∙◌, subst, true, false, List, [], ◌∷◌, ◌++◌, map, take, length, slice_get, length-append, append-nil, add-one, add-zero, ◌⊎◌, inl, inr, Option, Some, None, arith}
use Rattle.std.proofs.lemmas.Bool.{cases_eq}
use Rattle.std.proofs.lemmas.Bool.Decides.{nat_tests}
use Rattle.dx_base.specs.Lists.{changed_at}
use Rattle.dx_base.specs.Effects.{At}
use Rattle.dx_base.specs.declared.ids.ThreadId.{ThreadId}
use Rattle.d3d_machine.specs.declared.world.World.{World}
use Rattle.d3d_machine.specs.declared.calls.Call.{Call}
use Rattle.d3d_machine.specs.declared.calls.Reply.{Reply}
use Rattle.d3d_machine.specs.declared.events.Operation.{Operation}
use Rattle.d3d_machine.specs.declared.events.Operation.TheVariants as operation
use Rattle.d3d_machine.specs.declared.events.Event.{Event}
use Rattle.d3d_machine.specs.declared.events.Event.TheVariants as event
use Rattle.d3d_machine.specs.State.{Desk, State, Place, place_of, script_of, next_call, value_of, opening_place}
use Rattle.d3d_machine.specs.CallEffects.{Does}
use Rattle.d3d_machine.specs.Effects.{done, desk_by, marked_place, begins_wait, marked_places, waiting_places, dropped, desk_after_operation, head_of, desk_after_call, after}
use Rattle.d3d_machine.specs.Play.{May, SameButWords, IsRunButWords, state_after, calls_by, calls_in, AreOfScripts}
use Rattle.d3d_machine.specs.Shape.{HasShape}
use Rattle.d3d_machine.proofs.CallEffects.{length_threads}
use Rattle.d3d_machine.proofs.Shape.{run_has_shape}
use Rattle.d3d_machine.proofs.Runs.{state_after_append, calls_in_append, run_induction}

-- the place of that thread among places
abbrev pub place_in : List Place → ℕ → Place
place_in ps t = elim (slice_get ps t) [ None ↦ opening_place | Some x ↦ x ]

-- what a change of a place leaves
pub kept_at : {B : Type 0} (g : Place → B) (f : Place → Place) → ((p : Place) → g (f p) ≡ g p) → (ps : List Place) (u t : ℕ) →
    g (place_in (changed_at f u ps) t) ≡ g (place_in ps t)
kept_at g f k [] u t = refl
kept_at g f k (p ∷ ps) zero zero = k p
kept_at g f k (p ∷ ps) zero (suc t) = refl
kept_at g f k (p ∷ ps) (suc u) zero = refl
kept_at g f k (p ∷ ps) (suc u) (suc t) = kept_at g f k ps u t

-- what a change of all places leaves
pub kept_map : {B : Type 0} (g : Place → B) (f : Place → Place) → ((p : Place) → g (f p) ≡ g p) → (ps : List Place) (t : ℕ) →
    g (place_in (map f ps) t) ≡ g (place_in ps t)
kept_map g f k [] t = refl
kept_map g f k (p ∷ ps) zero = k p
kept_map g f k (p ∷ ps) (suc t) = kept_map g f k ps t

pub changed_here : (f : Place → Place) (ps : List Place) (t : ℕ) → t < length ps → place_in (changed_at f t ps) t ≡ f (place_in ps t)
changed_here f [] t h = absurd (omega arith)
changed_here f (p ∷ ps) zero h = refl
changed_here f (p ∷ ps) (suc t) h = changed_here f ps t (omega arith)

pub changed_other : (f : Place → Place) (ps : List Place) (u t : ℕ) → u ≢ t → place_in (changed_at f u ps) t ≡ place_in ps t
changed_other f [] u t n = refl
changed_other f (p ∷ ps) zero zero n = absurd (n refl)
changed_other f (p ∷ ps) zero (suc t) n = refl
changed_other f (p ∷ ps) (suc u) zero n = refl
changed_other f (p ∷ ps) (suc u) (suc t) n = changed_other f ps u t (λ e. n (ap suc e))

pub made_marked : (o : Option (At ℕ)) (ps : List Place) (t : ℕ) → (place_in (marked_places o ps) t).made ≡ (place_in ps t).made
made_marked None ps t = refl
made_marked (Some x) ps t = kept_map (λ p. p.made) (marked_place x.place x.what) (λ p. refl) ps t

made_waiting : (d : Desk) (u : ℕ) (o : Option (At ℕ)) (ps : List Place) (t : ℕ) → (place_in (waiting_places d u o ps) t).made ≡ (place_in ps t).made
made_waiting d u None ps t = refl
made_waiting d u (Some x) ps t = kept_at (λ p. p.made) (begins_wait (value_of d x.place) x.place x.what) (λ p. refl) ps u t

-- what a call does leaves the count of calls
pub made_done : (w : World) (d : Desk) (u : ℕ) (x : Does) (t : ℕ) → (place_of (desk_by w d u x) t).made ≡ (place_of d t).made
made_done w d u x t = made_waiting d u x.waits (marked_places x.sets d.threads) t ∙ made_marked x.sets d.threads t

made_operation : (d : Desk) (o : Option Operation) (t : ℕ) → (place_of (desk_after_operation d o) t).made ≡ (place_of d t).made
made_operation d None t = refl
made_operation d (Some (operation.Execute commands)) t = refl
made_operation d (Some (operation.Signal f v)) t = kept_map (λ p. p.made) (marked_place f.0 v) (λ p. refl) d.threads t

-- a thread that has a next call is one of the world
pub scripted : (scripts : List (List Call)) (u i : ℕ) (c : Call) → slice_get (elim (slice_get scripts u) [ None ↦ [] | Some cs ↦ cs ]) i ≡ Some c → u < length scripts
scripted [] u i c h = cc
scripted (x ∷ xs) zero i c h = omega arith
scripted (x ∷ xs) (suc u) i c h = let more : u < length xs = scripted xs u i c h in omega arith

pub calls_by_yes : (t : ℕ) (u : ThreadId) (c : Call) (r : Reply) → u.0 ≡ t → calls_by t (event.Call u c r) ≡ c ∷ []
calls_by_yes t u c r e = let yes : (u.0 == t) ≡ true = grind (arith, nat_tests) in rw yes refl

pub calls_by_no : (t : ℕ) (u : ThreadId) (c : Call) (r : Reply) → u.0 ≢ t → calls_by t (event.Call u c r) ≡ []
calls_by_no t u c r n = let no : (u.0 == t) ≡ false = grind (arith, nat_tests) in rw no refl

abbrev pub one_more : Place → Place
one_more p = record p { made = p.made + 1 }

made_call : (w : World) (d : Desk) (u : ThreadId) (c : Call) (r : Reply) (t : ℕ) → u.0 < length d.threads → (u.0 ≡ t) ⊎ (u.0 ≡ t → ⊥) →
    (place_of (desk_after_call w d u.0 c) t).made ≡ (place_of d t).made + length (calls_by t (event.Call u c r))
made_call w d u c r t inside (inl e) =
    let here : place_in (changed_at one_more u.0 (desk_by w d u.0 (done w d.lists c)).threads) u.0
    ≡ one_more (place_of (desk_by w d u.0 (done w d.lists c)) u.0)
    = changed_here one_more (desk_by w d u.0 (done w d.lists c)).threads u.0 (rw (length_threads d u.0 (done w d.lists c)) inside) in
    let one : length (calls_by u.0 (event.Call u c r)) ≡ 1 = ap length (calls_by_yes u.0 u c r refl) in
    subst (λ k. (place_of (desk_after_call w d u.0 c) k).made ≡ (place_of d k).made + length (calls_by k (event.Call u c r))) e
    (ap (λ p. p.made) here ∙ rw (made_done w d u.0 (done w d.lists c) u.0, one) refl)
made_call w d u c r t inside (inr n) =
    ap (λ p. p.made) (changed_other one_more (desk_by w d u.0 (done w d.lists c)).threads u.0 t n)
    ∙ made_done w d u.0 (done w d.lists c) t ∙ rw (ap length (calls_by_no t u c r n)) (omega arith)

first_made : {A : Type 0} (scripts : List A) (t : ℕ) → (place_in (map (λ _. opening_place) scripts) t).made ≡ 0
first_made [] t = refl
first_made (x ∷ scripts) zero = refl
first_made (x ∷ scripts) (suc t) = first_made scripts t

-- a call counts for its thread, and no other event does
pub made_step : (w : World) (s : State) (e : Event) (t : ℕ) → HasShape w s → May SameButWords w s e →
    (place_of (after w s e).desk t).made ≡ (place_of s.desk t).made + length (calls_by t e)
made_step w s (event.Call u c r) t h m =
    let inside : u.0 < length s.desk.threads = rw h.desk.threads (scripted w.scripts u.0 (place_of s.desk u.0).made c m.1) in
    made_call w s.desk u c r t inside (cases_eq u.0 t)
made_step w s (event.Awake u) t h m = kept_at (λ p. p.made) (λ p. record p { waits = None }) (λ p. refl) s.desk.threads u.0 t ∙ sym (add-zero (place_of s.desk t).made)
made_step w s (event.Queue q) t h m = made_operation (dropped s.desk q.0) (head_of s.desk q.0) t ∙ sym (add-zero (place_of s.desk t).made)

-- how many calls a thread has made in a run
pub made_is_calls : (w : World) (h : List Event) → IsRunButWords w h → (t : ℕ) → (place_of (state_after w h).desk t).made ≡ length (calls_in t h)
made_is_calls w h run = run_induction (λ es. (t : ℕ) → (place_of (state_after w es).desk t).made ≡ length (calls_in t es)) w
    (λ t. first_made w.scripts t)
    (λ es e before holds may t.
    let moved : (place_of (after w (state_after w es) e).desk t).made ≡ (place_of (state_after w es).desk t).made + length (calls_by t e)
    = made_step w (state_after w es) e t (run_has_shape w es) may in
    let was : (place_of (state_after w es).desk t).made ≡ length (calls_in t es) = holds t in
    rw (state_after_append w es e, calls_in_append t es e, length-append (calls_in t es) (calls_by t e), moved, was) refl)
    h run

next_taken : (xs : List Call) (n : ℕ) (c : Call) → slice_get xs n ≡ Some c → take (suc n) xs ≡ take n xs ++ c ∷ []
next_taken [] n c h = cc
next_taken (x ∷ xs) zero c h = cc
next_taken (x ∷ xs) (suc n) c h = ap (λ t. x ∷ t) (next_taken xs n c h)

-- the first calls of a script, and the next one
follows_more : (script calls : List Call) (c : Call) → calls ≡ take (length calls) script → slice_get script (length calls) ≡ Some c →
    calls ++ c ∷ [] ≡ take (length (calls ++ c ∷ [])) script
follows_more script calls c h e =
    let long : length (calls ++ c ∷ []) ≡ suc (length calls) = length-append calls (c ∷ []) ∙ add-one (length calls) in
    rw (long, next_taken script (length calls) c e) (ap (λ xs. xs ++ c ∷ []) h)

follows_step : (w : World) (s : State) (calls : List Call) (e : Event) (t : ℕ) → May SameButWords w s e → (place_of s.desk t).made ≡ length calls →
    calls ≡ take (length calls) (script_of w t) → calls ++ calls_by t e ≡ take (length (calls ++ calls_by t e)) (script_of w t)
follows_step w s calls (event.Call u c r) t m made h = elim (cases_eq u.0 t) [
  | inl e ↦ let next : slice_get (script_of w t) (length calls) ≡ Some c
      = subst (λ n. slice_get (script_of w t) n ≡ Some c) made (subst (λ k. next_call w s.desk k ≡ Some c) e m.1) in
      rw (calls_by_yes t u c r e) (follows_more (script_of w t) calls c h next)
  | inr n ↦ rw (calls_by_no t u c r n, append-nil calls) h
]
follows_step w s calls (event.Awake u) t m made h = rw (append-nil calls) h
follows_step w s calls (event.Queue q) t m made h = rw (append-nil calls) h

-- each thread's calls in a run are the first of its script
pub runs_follow_scripts : (w : World) (h : List Event) → IsRunButWords w h → AreOfScripts w h
runs_follow_scripts w h run = run_induction (λ es. (t : ℕ) → calls_in t es ≡ take (length (calls_in t es)) (script_of w t)) w
    (λ t. refl)
    (λ es e before holds may t.
    rw (calls_in_append t es e) (follows_step w (state_after w es) (calls_in t es) e t may (made_is_calls w es before t) (holds t)))
    h run
