-- The past goes on by one event, and its parts are what the folds over histories say.
use Rattle.std.proofs.Common.{ℕ, zero, suc, ◌≡◌, ◌<◌, ◌+◌, ◌∙◌, sym, ap, refl, arith, List, [], ◌∷◌, ◌++◌, length, map, slice_get, Some, None, Option, append_assoc, inl, inr}
use Rattle.std.proofs.lemmas.List.{append-nil, map-append, length-map}
use Rattle.std.proofs.lemmas.Option.{slice_get-map}
use Rattle.std.proofs.lemmas.Bool.Decides.{eqb_tells}
use Rattle.std.specs.Option.{option_map}
use Rattle.std.specs.Prelude.{if◌then◌else◌, ◌==◌}
use Rattle.dx_base.specs.Effects.{At, changed_by}
use Rattle.dx_base.proofs.Effects.{length_by}
use Rattle.dx_base.specs.declared.kinds.ListType.{ListType}
use Rattle.dx_base.proofs.Lists.{map_changed, get_changed, get_changed_other}
use Rattle.d3d_machine.specs.declared.world.World.{World}
use Rattle.d3d_machine.specs.declared.events.Operation.{Operation}
use Rattle.d3d_machine.specs.declared.events.Event.{Event}
use Rattle.d3d_machine.specs.declared.events.Event.TheVariants as event
use Rattle.d3d_machine.specs.State.{first_state, value_of}
use Rattle.d3d_machine.specs.Effects.{with_one, after, after_all}
use Rattle.d3d_machine.specs.Play.{state_after}
use Rattle.d3d_machine.specs.Fences.{event_sets, update_of, updates_from, applied_updates}
use Rattle.d3d_machine.specs.Operations.{event_gives, called_by, operations_from, operations, completions_by, counter}
use Rattle.d3d_machine.specs.Past.{CalledAt, with_called, event_moves, event_completes, moved, first_place, Past, after_past, past_from, past, first_past}
use Rattle.d3d_machine.proofs.CallEffects.{one_more_here}

from_append : (w : World) (p : Past) (h : List Event) (e : Event) → past_from w p (h ++ e ∷ []) ≡ after_past w (past_from w p h) e
from_append w p [] e = refl
from_append w p (d ∷ h) e = from_append w (after_past w p d) h e

-- one event more
pub past_append : (w : World) (h : List Event) (e : Event) → past w (h ++ e ∷ []) ≡ after_past w (past w h) e
past_append w h e = from_append w (first_past w) h e

state_on : (w : World) (p : Past) (h : List Event) → (past_from w p h).state ≡ after_all w p.state h
state_on w p [] = refl
state_on w p (e ∷ h) = state_on w (after_past w p e) h

-- the state that a history leaves
pub state_is : (w : World) (h : List Event) → (past w h).state ≡ state_after w h
state_is w h = state_on w (first_past w) h

places_on : (w : World) (p : Past) (h : List Event) → length (past_from w p h).places ≡ length p.places
places_on w p [] = refl
places_on w p (e ∷ h) = places_on w (after_past w p e) h ∙ length_by (moved p.updates) (event_moves w p.state.desk e) p.places

-- there is a place for each thread of the world
pub places_many : (w : World) (h : List Event) → length (past w h).places ≡ length w.scripts
places_many w h = places_on w (first_past w) h ∙ length-map w.scripts (λ _. first_place)

updates_on : (w : World) (p : Past) (h : List Event) (f : ℕ) (us : List ℕ) → slice_get p.updates f ≡ Some us →
    slice_get (past_from w p h).updates f ≡ Some (us ++ updates_from w p.state f h)
updates_on w p [] f us is = is ∙ ap (λ ys. Some ys) (sym (append-nil us))
updates_on w p (e ∷ h) f us is =
    updates_on w (after_past w p e) h f (us ++ update_of w p.state.desk f e) (one_more_here (event_sets w p.state.desk e) p.updates f us is)
    ∙ ap (λ ys. Some ys) (append_assoc us (update_of w p.state.desk f e) (updates_from w (after w p.state e) f h))

value_at : (vs : List ℕ) (f : ℕ) → f < length vs → slice_get (map (λ v. v ∷ []) vs) f ≡ Some ((elim (slice_get vs f) [ None ↦ 0 | Some v ↦ v ]) ∷ [])
value_at [] f within = absurd (omega (arith, within))
value_at (v ∷ vs) zero within = refl
value_at (v ∷ vs) (suc f) within = value_at vs f (omega (arith, within))

-- the updates of each fence of the world are its applied updates
pub updates_are : (w : World) (h : List Event) (f : ℕ) → f < length w.fences → slice_get (past w h).updates f ≡ Some (applied_updates w h f)
updates_are w h f within = updates_on w (first_past w) h f (value_of (first_state w).desk f ∷ []) (value_at w.fences f within)

-- the operations of a queue without the places of their calls
abbrev pub without_calls : List CalledAt → List Operation
without_calls os = map (λ x. x.operation) os

called_more : (k : ℕ) (o : Operation) (os : List CalledAt) → without_calls (with_called k o os) ≡ with_one o (without_calls os)
called_more k o os = map-append (λ (x : CalledAt). x.operation) os ((record { call = k; operation = o }) ∷ [])

operations_by : (k : ℕ) (o : Option (At Operation)) (oss : List (List CalledAt)) → map without_calls (changed_by (with_called k) o oss) ≡ changed_by with_one o (map without_calls oss)
operations_by k None oss = refl
operations_by k (Some x) oss = map_changed without_calls (with_called k x.what) (with_one x.what) x.place oss (called_more k x.what)

operations_on : (w : World) (p : Past) (h : List Event) (q : ℕ) (os : List Operation) → slice_get (map without_calls p.operations) q ≡ Some os →
    slice_get (map without_calls (past_from w p h).operations) q ≡ Some (os ++ operations_from w p.state q h)
operations_on w p [] q os is = is ∙ ap (λ ys. Some ys) (sym (append-nil os))
operations_on w p (e ∷ h) q os is =
    operations_on w (after_past w p e) h q (os ++ called_by w p.state.desk q e)
    (ap (λ xs. slice_get xs q) (operations_by p.events (event_gives w p.state.desk e) p.operations) ∙ one_more_here (event_gives w p.state.desk e) (map without_calls p.operations) q os is)
    ∙ ap (λ ys. Some ys) (append_assoc os (called_by w p.state.desk q e) (operations_from w (after w p.state e) q h))

none_called : (xs : List ListType) → map without_calls (map (λ _. []) xs) ≡ map (λ _. []) xs
none_called [] = refl
none_called (x ∷ xs) = ap (λ ys. [] ∷ ys) (none_called xs)

-- the operations of each queue of the world are those that the history called on it
pub operations_are : (w : World) (h : List Event) (q : ℕ) (x : ListType) → slice_get w.queues q ≡ Some x →
    slice_get (map without_calls (past w h).operations) q ≡ Some (operations w h q)
operations_are w h q x is =
    operations_on w (first_past w) h q []
    (ap (λ oss. slice_get oss q) (none_called w.queues) ∙ slice_get-map (λ _. []) w.queues q ∙ ap (option_map (λ _. [])) is)

completed_one : (e : Event) (ns : List ℕ) (q n : ℕ) → slice_get ns q ≡ Some n → slice_get (changed_by (λ n m. m + n) (event_completes e) ns) q ≡ Some (n + completions_by q e)
completed_one (event.Call t c r) ns q n is = is ∙ ap (λ m. Some m) (omega arith)
completed_one (event.Awake t) ns q n is = is ∙ ap (λ m. Some m) (omega arith)
completed_one (event.Queue p) ns q n is =
    elim (eqb_tells p.0 q) [
      | inl same ↦ rw same.0 (ap (λ k. slice_get (changed_by (λ n m. m + n) (Some (record { place = k; what = 1 })) ns) q) same.1 ∙ get_changed (λ m. m + 1) ns q ∙ ap (option_map (λ m. m + 1)) is)
      | inr other ↦ rw other.0 (get_changed_other (λ m. m + 1) ns p.0 q other.1 ∙ is ∙ ap (λ m. Some m) (omega arith))
    ]

completed_on : (w : World) (p : Past) (h : List Event) (q n : ℕ) → slice_get p.completed q ≡ Some n → slice_get (past_from w p h).completed q ≡ Some (n + counter h q)
completed_on w p [] q n is = is ∙ ap (λ m. Some m) (omega arith)
completed_on w p (e ∷ h) q n is =
    completed_on w (after_past w p e) h q (n + completions_by q e) (completed_one e p.completed q n is) ∙ ap (λ m. Some m) (omega arith)

-- the completed operations of each queue of the world are as many as the history completed
pub completed_are : (w : World) (h : List Event) (q : ℕ) (x : ListType) → slice_get w.queues q ≡ Some x → slice_get (past w h).completed q ≡ Some (counter h q)
completed_are w h q x is =
    completed_on w (first_past w) h q 0 (slice_get-map (λ _. 0) w.queues q ∙ ap (option_map (λ _. 0)) is) ∙ ap (λ n. Some n) (omega arith)
