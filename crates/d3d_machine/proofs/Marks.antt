-- A wait is marked exactly where an update suffices that was current at its call or is applied since.
use Rattle.std.proofs.Common.{ℕ, zero, suc, ◌≡◌, ◌≢◌, ◌<◌, ◌≤◌, ◌-◌, ◌==◌, ◌||◌, nat_le, refl, sym, ap, ◌∙◌, subst, Bool, true, false, if◌then◌else◌, ◌⊎◌, inl, inr, List, [], ◌∷◌, ◌++◌, drop, length, slice_get, Option, Some, None, arith}
use Rattle.std.specs.List.{list_any}
use Rattle.std.proofs.lemmas.List.{drop-append-le}
use Rattle.std.proofs.lemmas.List.Folds.{list_any-append}
use Rattle.std.proofs.lemmas.Bool.{cases_eq}
use Rattle.std.proofs.lemmas.Bool.Decides.{nat_tests}
use Rattle.dx_base.specs.Lists.{changed_at}
use Rattle.dx_base.specs.Effects.{At, changed_by}
use Rattle.d3d_machine.specs.declared.world.World.{World}
use Rattle.d3d_machine.specs.declared.events.Operation.{Operation}
use Rattle.d3d_machine.specs.declared.events.Operation.TheVariants as operation
use Rattle.d3d_machine.specs.declared.events.Event.{Event}
use Rattle.d3d_machine.specs.declared.events.Event.TheVariants as event
use Rattle.d3d_machine.specs.State.{Desk, State, value_of, first_state}
use Rattle.d3d_machine.specs.CallEffects.{here_of}
use Rattle.d3d_machine.specs.Effects.{done, dropped, desk_after_operation, head_of, after, after_all}
use Rattle.d3d_machine.specs.Play.{state_after}
use Rattle.d3d_machine.specs.Fences.{operation_sets, update_of, updates_from, applied_updates, is_met}
use Rattle.d3d_machine.specs.Marks.{current_update}
use Rattle.d3d_machine.specs.Shape.{HasShape}
use Rattle.d3d_machine.proofs.Shape.{after_has_shape, first_has_shape}
use Rattle.d3d_machine.proofs.Runs.{updates_from_append}

or_false : (b : Bool) → (b || false) ≡ b
or_false true = refl
or_false false = refl

-- more updates
pub is_met_more : (applied more : List ℕ) (since v : ℕ) → since ≤ length applied →
    is_met (applied ++ more) since v ≡ (is_met applied since v || list_any (λ u. nat_le v u) more)
is_met_more applied more since v h = rw (drop-append-le since applied more h) (list_any-append (λ u. nat_le v u) (drop since applied) more)

-- one update more
pub is_met_one : (applied : List ℕ) (u since v : ℕ) → since ≤ length applied →
    is_met (applied ++ u ∷ []) since v ≡ (is_met applied since v || nat_le v u)
is_met_one applied u since v h = is_met_more applied (u ∷ []) since v h ∙ ap (λ b. is_met applied since v || b) (or_false (nat_le v u))

-- the updates after one event more
pub applied_append : (w : World) (h : List Event) (e : Event) (f : ℕ) →
    applied_updates w (h ++ e ∷ []) f ≡ applied_updates w h f ++ update_of w (state_after w h).desk f e
applied_append w h e f = ap (λ us. value_of (first_state w).desk f ∷ us) (updates_from_append w (first_state w) f h e)

abbrev value_in : List ℕ → ℕ → ℕ
value_in vs f = elim (slice_get vs f) [ None ↦ 0 | Some v ↦ v ]

value_here : (v : ℕ) (vs : List ℕ) (f : ℕ) → f < length vs → value_in (changed_at (λ _. v) f vs) f ≡ v
value_here v [] f h = absurd (omega arith)
value_here v (x ∷ vs) zero h = refl
value_here v (x ∷ vs) (suc f) h = value_here v vs f (omega arith)

value_other : (v : ℕ) (vs : List ℕ) (g f : ℕ) → g ≢ f → value_in (changed_at (λ _. v) g vs) f ≡ value_in vs f
value_other v [] g f n = refl
value_other v (x ∷ vs) zero zero n = absurd (n refl)
value_other v (x ∷ vs) zero (suc f) n = refl
value_other v (x ∷ vs) (suc g) zero n = refl
value_other v (x ∷ vs) (suc g) (suc f) n = value_other v vs g f (λ e. n (ap suc e))

-- a fence's value and its last update: none more, or one more that is the value
FenceStep : ℕ → List ℕ → ℕ → Type 0
FenceStep old us new = ((us ≡ []) × (new ≡ old)) ⊎ (us ≡ new ∷ [])

signal_step : (vs : List ℕ) (g f v : ℕ) → f < length vs →
    FenceStep (value_in vs f) (if (g == f) then v ∷ [] else []) (value_in (changed_at (λ _. v) g vs) f)
unfolding FenceStep
signal_step vs g f v h = elim (cases_eq g f) [
  | inl e ↦ let yes : (f == f) ≡ true = grind (arith, nat_tests) in rw (e, yes) (inr (ap (λ x. x ∷ []) (sym (value_here v vs f h))))
  | inr n ↦ let no : (g == f) ≡ false = grind (arith, nat_tests) in rw no (inl (refl, value_other v vs g f n))
]

operation_step : (d : Desk) (o : Option Operation) (f : ℕ) → f < length d.fences →
    FenceStep (value_of d f) (here_of f (operation_sets o)) (value_of (desk_after_operation d o) f)
unfolding FenceStep
operation_step d None f h = inl (refl, refl)
operation_step d (Some (operation.Execute commands)) f h = inl (refl, refl)
operation_step d (Some (operation.Signal g v)) f h = signal_step d.fences g.0 f v h

-- a fence that takes a value where it is one
sets_step : (o : Option (At ℕ)) (vs : List ℕ) (f : ℕ) → f < length vs → FenceStep (value_in vs f) (here_of f o) (value_in (changed_by (λ v _. v) o vs) f)
unfolding FenceStep
sets_step None vs f h = inl (refl, refl)
sets_step (Some x) vs f h = signal_step vs x.place f x.what h

fence_step : (w : World) (s : State) (e : Event) (f : ℕ) → f < length s.desk.fences →
    FenceStep (value_of s.desk f) (update_of w s.desk f e) (value_of (after w s e).desk f)
unfolding FenceStep
fence_step w s (event.Call u c r) f h = sets_step (done w s.desk.lists c).sets s.desk.fences f h
fence_step w s (event.Awake u) f h = inl (refl, refl)
fence_step w s (event.Queue q) f h = operation_step (dropped s.desk q.0) (head_of s.desk q.0) f h

last_step : (old new last : ℕ) (us more : List ℕ) → FenceStep old us new → drop (length more) (new ∷ more) ≡ last ∷ [] →
    drop (length (us ++ more)) (old ∷ (us ++ more)) ≡ last ∷ []
unfolding FenceStep
last_step old new last us more (inl p) h = rw p.0 (subst (λ x. drop (length more) (x ∷ more) ≡ last ∷ []) p.1 h)
last_step old new last us more (inr e) h = rw e h

last_from : (w : World) (s : State) (f : ℕ) (es : List Event) → HasShape w s → f < length w.fences →
    drop (length (updates_from w s f es)) (value_of s.desk f ∷ updates_from w s f es) ≡ value_of (after_all w s es).desk f ∷ []
last_from w s f [] shape h = refl
last_from w s f (e ∷ es) shape h =
    last_step (value_of s.desk f) (value_of (after w s e).desk f) (value_of (after_all w (after w s e) es).desk f) (update_of w s.desk f e)
    (updates_from w (after w s e) f es) (fence_step w s e f (rw shape.desk.fences h))
    (last_from w (after w s e) f es (after_has_shape w s e shape) h)

-- the value of a fence is the last applied update
pub value_is_last : (w : World) (h : List Event) (f : ℕ) → f < length w.fences →
    drop (current_update w h f) (applied_updates w h f) ≡ value_of (state_after w h).desk f ∷ []
value_is_last w h f inside = last_from w (first_state w) f h (first_has_shape w) inside

-- at the call a wait is met exactly where the value suffices
pub met_at_call : (w : World) (h : List Event) (f v : ℕ) → f < length w.fences →
    is_met (applied_updates w h f) (current_update w h f) v ≡ nat_le v (value_of (state_after w h).desk f)
met_at_call w h f v inside = ap (list_any (λ u. nat_le v u)) (value_is_last w h f inside) ∙ or_false (nat_le v (value_of (state_after w h).desk f))
