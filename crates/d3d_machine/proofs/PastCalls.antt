-- Each operation of a past has the place of the event that gave it to its queue.
use Rattle.std.proofs.Common.{ℕ, zero, suc, ◌≡◌, ◌≤◌, ◌<◌, ◌+◌, ◌∙◌, sym, ap, subst, refl, arith, List, [], ◌∷◌, ◌++◌, length, map, take, slice_get, true, Some, None, Option, append_assoc, inl, inr}
use Rattle.std.proofs.lemmas.List.{append-nil, take-append-le}
use Rattle.std.proofs.Math.Seq.{take-append_seam}
use Rattle.std.proofs.lemmas.Option.{slice_get_within}
use Rattle.std.proofs.lemmas.Bool.Decides.{eqb_tells}
use Rattle.std.specs.Option.{option_map}
use Rattle.std.specs.Prelude.{if◌then◌else◌, ◌==◌}
use Rattle.dx_base.specs.Lists.{changed_at}
use Rattle.dx_base.specs.Each.{Each}
use Rattle.dx_base.specs.Effects.{At, changed_by}
use Rattle.dx_base.proofs.Each.{each_on, each_append}
use Rattle.dx_base.proofs.Lists.{get_changed, get_changed_other}
use Rattle.d3d_machine.specs.declared.world.World.{World}
use Rattle.d3d_machine.specs.declared.events.Operation.{Operation}
use Rattle.d3d_machine.specs.declared.events.Event.{Event}
use Rattle.d3d_machine.specs.CallEffects.{here_of}
use Rattle.d3d_machine.specs.State.{State}
use Rattle.d3d_machine.specs.Play.{state_after}
use Rattle.d3d_machine.specs.Operations.{event_gives}
use Rattle.d3d_machine.specs.Past.{CalledAt, with_called, Past, after_past, past_from, past, first_past, IsCalledAt, PastsHaveOperations}
use Rattle.d3d_machine.proofs.Past.{past_append, state_is, operations_are, completed_are}

from_front : (P : List Event → Type 0) → ((h : List Event) (e : Event) → P h → P (h ++ e ∷ [])) → (done rest : List Event) → P done → P (done ++ rest)
from_front P step done [] p = subst P (sym (append-nil done)) p
from_front P step done (e ∷ rest) p = subst P (append_assoc done (e ∷ []) rest) (from_front P step (done ++ e ∷ []) rest (step done e p))

-- what holds of no event, and goes on by each event, holds of every history
pub history_induction : (P : List Event → Type 0) → P [] → ((h : List Event) (e : Event) → P h → P (h ++ e ∷ [])) → (h : List Event) → P h
history_induction P base step h = from_front P step [] h base

events_on : (w : World) (p : Past) (h : List Event) → (past_from w p h).events ≡ p.events + length h
events_on w p [] = omega arith
events_on w p (e ∷ h) = omega (arith, events_on w (after_past w p e) h)

-- how many events there were
pub events_many : (w : World) (h : List Event) → (past w h).events ≡ length h
events_many w h = omega (arith, events_on w (first_past w) h)

got_first : {A : Type 0} (xs ys : List A) (k : ℕ) (x : A) → slice_get xs k ≡ Some x → slice_get (xs ++ ys) k ≡ Some x
got_first [] ys k x is = absurd (cc)
got_first (y ∷ xs) ys zero x is = is
got_first (y ∷ xs) ys (suc k) x is = got_first xs ys k x is

got_last : {A : Type 0} (xs : List A) (x : A) → slice_get (xs ++ x ∷ []) (length xs) ≡ Some x
got_last [] x = refl
got_last (y ∷ xs) x = got_last xs x

-- an operation called before one event more
older : (w : World) (h : List Event) (e : Event) (q : ℕ) (x : CalledAt) → IsCalledAt w h q x → IsCalledAt w (h ++ e ∷ []) q x
older w h e q x is =
    let within : x.call ≤ length h = omega (arith, slice_get_within h x.call is.event is.there) in
    record {
      event = is.event;
      there = got_first h (e ∷ []) x.call is.event is.there;
      gives = ap (λ k. here_of q (event_gives w (state_after w k).desk is.event)) (take-append-le x.call h (e ∷ []) within) ∙ is.gives;
    }

-- the operation that an event calls
newest : (w : World) (h : List Event) (e : Event) (q : ℕ) (x : At Operation) → event_gives w (state_after w h).desk e ≡ Some x → (x.place == q) ≡ true →
    IsCalledAt w (h ++ e ∷ []) q (record { call = (past w h).events; operation = x.what })
newest w h e q x gives here =
    let many : (past w h).events ≡ length h = events_many w h in
    record {
      event = e;
      there = ap (slice_get (h ++ e ∷ [])) many ∙ got_last h e;
      gives = ap (λ k. here_of q (event_gives w (state_after w (take k (h ++ e ∷ []))).desk e)) many
          ∙ ap (λ k. here_of q (event_gives w (state_after w k).desk e)) (take-append_seam h (e ∷ [])) ∙ ap (here_of q) gives
          ∙ ap (λ b. if b then x.what ∷ [] else []) here;
    }

mapped_some : {A B : Type 0} (f : A → B) (o : Option A) (y : B) → option_map f o ≡ Some y → (x : A) × (o ≡ Some x) × (y ≡ f x)
mapped_some f None y is = absurd (cc)
mapped_some f (Some x) y is = (x, refl, grind arith)

abbrev AreCalled : World → List Event → Type 0
AreCalled w h = (q : ℕ) (os : List CalledAt) → slice_get (past w h).operations q ≡ Some os → Each (IsCalledAt w h q) os

-- the operations of a queue after one event more
called_more : (w : World) (h : List Event) (e : Event) (o : Option (At Operation)) → event_gives w (state_after w h).desk e ≡ o → AreCalled w h → (q : ℕ) (os : List CalledAt) →
    slice_get (changed_by (with_called (past w h).events) o (past w h).operations) q ≡ Some os → Each (IsCalledAt w (h ++ e ∷ []) q) os
called_more w h e None gives are q os is = each_on (IsCalledAt w h q) (IsCalledAt w (h ++ e ∷ []) q) os (older w h e q) (are q os is)
called_more w h e (Some x) gives are q os is =
    let f : List CalledAt → List CalledAt = with_called (past w h).events x.what in
    let oss : List (List CalledAt) = (past w h).operations in
    elim (eqb_tells x.place q) [
      | inl same ↦
          let here : option_map f (slice_get oss q) ≡ Some os = sym (get_changed f oss q) ∙ ap (λ k. slice_get (changed_at f k oss) q) (sym same.1) ∙ is in
          let found : (xs : List CalledAt) × (slice_get oss q ≡ Some xs) × (os ≡ f xs) = mapped_some f (slice_get oss q) os here in
          subst (Each (IsCalledAt w (h ++ e ∷ []) q)) (sym found.2)
          (each_append (IsCalledAt w (h ++ e ∷ []) q) found.0 ((record { call = (past w h).events; operation = x.what }) ∷ [])
          (each_on (IsCalledAt w h q) (IsCalledAt w (h ++ e ∷ []) q) found.0 (older w h e q) (are q found.0 found.1)) (newest w h e q x gives same.0, tt))
      | inr other ↦
          each_on (IsCalledAt w h q) (IsCalledAt w (h ++ e ∷ []) q) os (older w h e q) (are q os (sym (get_changed_other f oss x.place q other.1) ∙ is))
    ]

none_first : {A B : Type 0} (xs : List A) (q : ℕ) (os : List B) → slice_get (map (λ _. []) xs) q ≡ Some os → os ≡ []
none_first [] q os is = absurd (cc)
none_first (x ∷ xs) zero os is = grind arith
none_first (x ∷ xs) (suc q) os is = none_first xs q os is

calls_are : (w : World) (h : List Event) → AreCalled w h
calls_are w h =
    history_induction (AreCalled w)
    (λ q os is. subst (Each (IsCalledAt w [] q)) (sym (none_first w.queues q os is)) tt)
    (λ es e are q os is.
    called_more w es e (event_gives w (state_after w es).desk e) refl are q os
    (ap (λ (s : State). slice_get (changed_by (with_called (past w es).events) (event_gives w s.desk e) (past w es).operations) q) (sym (state_is w es))
    ∙ ap (λ (p : Past). slice_get p.operations q) (sym (past_append w es e)) ∙ is))
    h

pub pasts_have_operations : PastsHaveOperations
pasts_have_operations = record {
  operations = operations_are;
  calls = λ w h q os is. calls_are w h q os is;
  completed = completed_are;
}
