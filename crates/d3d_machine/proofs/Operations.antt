-- What a queue has called and not completed, by counts along a history.
use Rattle.std.proofs.Common.{ℕ, ◌≡◌, ◌≢◌, ◌≤◌, ◌+◌, ◌∙◌, sym, ap, subst, refl, arith, List, [], ◌∷◌, ◌++◌, length, drop, map, Some, None, Option, true, append_assoc, length-append, inl, inr}
use Rattle.std.proofs.lemmas.List.{drop-append-le, append-nil, drop-drop, length-drop}
use Rattle.std.proofs.lemmas.Option.{slice_get-map}
use borrow.Author.Tests.{ltb-true}
use Rattle.dx_base.specs.declared.kinds.ListType.{ListType}
use Rattle.std.proofs.lemmas.Bool.Decides.{eqb_tells}
use Rattle.std.specs.List.{slice_get}
use Rattle.std.specs.Option.{option_map}
use Rattle.std.specs.Prelude.{if◌then◌else◌, ◌==◌, nat_lt}
use Rattle.dx_base.specs.Lists.{changed_at}
use Rattle.dx_base.proofs.Lists.{get_changed, get_changed_other}
use Rattle.d3d_machine.specs.declared.world.World.{World}
use Rattle.d3d_machine.specs.declared.calls.Reply.{Reply}
use Rattle.d3d_machine.specs.declared.events.Operation.{Operation}
use Rattle.d3d_machine.specs.declared.events.Operation.TheVariants as operation
use Rattle.d3d_machine.specs.declared.events.Event.{Event}
use Rattle.d3d_machine.specs.declared.events.Event.TheVariants as event
use Rattle.d3d_machine.specs.State.{Desk, State, first_state, called_of}
use Rattle.d3d_machine.specs.Effects.{after, after_all, desk_after, desk_after_operation, dropped, head_of}
use Rattle.d3d_machine.specs.Play.{May, Plays, state_after}
use Rattle.d3d_machine.proofs.CallEffects.{one_more_here}
use Rattle.d3d_machine.specs.Operations.{event_gives, called_by, operations_from, operations, completions_by, counter}

-- the operations of a history that goes on by one event
pub operations_append : (w : World) (s : State) (q : ℕ) (h : List Event) (e : Event) →
    operations_from w s q (h ++ e ∷ []) ≡ operations_from w s q h ++ called_by w (after_all w s h).desk q e
operations_append w s q [] e = append-nil (called_by w s.desk q e)
operations_append w s q (d ∷ h) e =
    ap (λ os. called_by w s.desk q d ++ os) (operations_append w (after w s d) q h e)
    ∙ sym (append_assoc (called_by w s.desk q d) (operations_from w (after w s d) q h) (called_by w (after_all w (after w s d) h).desk q e))

-- the count of completions of a history that goes on by one event
pub counter_append : (q : ℕ) (h : List Event) (e : Event) → counter (h ++ e ∷ []) q ≡ counter h q + completions_by q e
counter_append q [] e = omega arith
counter_append q (d ∷ h) e = omega (arith, counter_append q h e)

called_is : (d : Desk) (q : ℕ) (os : List Operation) → slice_get d.called q ≡ Some os → called_of d q ≡ os
called_is d q os is = ap (λ (o : Option (List Operation)). elim o [ None ↦ [] | Some x ↦ x ]) is

-- the item that a change at a place leaves there
changed_here : (f : List Operation → List Operation) (p q : ℕ) (xs : List (List Operation)) (os : List Operation) → p ≡ q → slice_get xs q ≡ Some os →
    slice_get (changed_at f p xs) q ≡ Some (f os)
changed_here f p q xs os same is = subst (λ k. slice_get (changed_at f k xs) q ≡ Some (f os)) (sym same) (get_changed f xs q ∙ ap (option_map f) is)

changed_there : (f : List Operation → List Operation) (p q : ℕ) (xs : List (List Operation)) (os : List Operation) → p ≢ q → slice_get xs q ≡ Some os →
    slice_get (changed_at f p xs) q ≡ Some os
changed_there f p q xs os other is = get_changed_other f xs p q other ∙ is

more_by_none : (d : Desk) (q : ℕ) (os : List Operation) → slice_get d.called q ≡ Some os → slice_get d.called q ≡ Some (os ++ [])
more_by_none d q os is = is ∙ ap (λ xs. Some xs) (sym (append-nil os))

operation_keeps : (d : Desk) (o : Option Operation) → (desk_after_operation d o).called ≡ d.called
operation_keeps d None = refl
operation_keeps d (Some (operation.Execute commands)) = refl
operation_keeps d (Some (operation.Signal f v)) = refl

drop_step : (d : Desk) (p q : ℕ) (os : List Operation) → slice_get d.called q ≡ Some os →
    slice_get (dropped d p).called q ≡ Some (drop (if (p == q) then 1 else 0) os)
drop_step d p q os is =
    elim (eqb_tells p q) [
      | inl same ↦ rw same.0 (changed_here (drop 1) p q d.called os same.1 is)
      | inr other ↦ rw other.0 (changed_there (drop 1) p q d.called os other.1 is)
    ]

-- the called and incomplete operations of a queue after an event
pub called_step : (w : World) (d : Desk) (q : ℕ) (e : Event) (os : List Operation) → slice_get d.called q ≡ Some os →
    slice_get (desk_after w d e).called q ≡ Some (drop (completions_by q e) (os ++ called_by w d q e))
called_step w d q (event.Call t c r) os is = one_more_here (event_gives w d (event.Call t c r)) d.called q os is
called_step w d q (event.Awake t) os is = more_by_none d q os is
called_step w d q (event.Queue p) os is =
    ap (λ xs. slice_get xs q) (operation_keeps (dropped d p.0) (head_of d p.0)) ∙ drop_step d p.0 q os is
    ∙ ap (λ xs. Some (drop (if (p.0 == q) then 1 else 0) xs)) (sym (append-nil os))

-- an event completes no more operations than there are
completes_some : (Same : Reply → Reply → Type 0) (w : World) (s : State) (q : ℕ) (e : Event) (os : List Operation) → slice_get s.desk.called q ≡ Some os →
    May Same w s e → completions_by q e ≤ length os
completes_some Same w s q (event.Call t c r) os is may = omega arith
completes_some Same w s q (event.Awake t) os is may = omega arith
completes_some Same w s q (event.Queue p) os is may =
    elim (eqb_tells p.0 q) [
      | inl same ↦
          let here : called_of s.desk p.0 ≡ os = subst (λ k. called_of s.desk k ≡ os) (sym same.1) (called_is s.desk q os is) in
          let some : nat_lt 0 (length os) ≡ true = subst (λ xs. nat_lt 0 (length xs) ≡ true) here may in
          rw same.0 (omega (arith, ltb-true 0 (length os) some))
      | inr other ↦ rw other.0 (omega arith)
    ]

drop_more : {A : Type 0} (a b : ℕ) (xs ys zs : List A) → a ≤ length (xs ++ ys) → drop b (drop a (xs ++ ys) ++ zs) ≡ drop (a + b) (xs ++ (ys ++ zs))
drop_more a b xs ys zs le =
    ap (drop b) (sym (drop-append-le a (xs ++ ys) zs le)) ∙ drop-drop b a ((xs ++ ys) ++ zs) ∙ ap (drop (a + b)) (append_assoc xs ys zs)

drop_more_length : {A : Type 0} (a b : ℕ) (xs ys zs : List A) → a ≤ length (xs ++ ys) → b ≤ length (drop a (xs ++ ys) ++ zs) → a + b ≤ length (xs ++ (ys ++ zs))
drop_more_length a b xs ys zs le more =
    omega (arith, length-append (drop a (xs ++ ys)) zs, length-drop a (xs ++ ys), length-append xs ys, length-append xs (ys ++ zs), length-append ys zs)

-- what a queue holds is what was called, without what has completed
pub record HoldsRest (d : Desk) (q n : ℕ) (os : List Operation) : Type 0 where
  pub rest : slice_get d.called q ≡ Some (drop n os)
  pub within : n ≤ length os

pub called_from : (Same : Reply → Reply → Type 0) (w : World) (s : State) (q : ℕ) (h : List Event) (os : List Operation) → slice_get s.desk.called q ≡ Some os →
    Plays Same w s h → HoldsRest (after_all w s h).desk q (counter h q) (os ++ operations_from w s q h)
called_from Same w s q [] os is plays = record { rest = is ∙ ap (λ xs. Some xs) (sym (append-nil os)); within = omega arith }
called_from Same w s q (e ∷ h) os is plays =
    let a : ℕ = completions_by q e in
    let by : List Operation = called_by w s.desk q e in
    let later : List Operation = operations_from w (after w s e) q h in
    let some : a ≤ length (os ++ by) = omega (arith, completes_some Same w s q e os is plays.0, length-append os by) in
    let more : HoldsRest (after_all w (after w s e) h).desk q (counter h q) (drop a (os ++ by) ++ later) =
    called_from Same w (after w s e) q h (drop a (os ++ by)) (called_step w s.desk q e os is) plays.1 in
    record {
      rest = more.rest ∙ ap (λ xs. Some xs) (drop_more a (counter h q) os by later some);
      within = drop_more_length a (counter h q) os by later some more.within;
    }

first_called : (w : World) (q : ℕ) (x : ListType) → slice_get w.queues q ≡ Some x → slice_get (first_state w).desk.called q ≡ Some []
first_called w q x is = slice_get-map (λ _. []) w.queues q ∙ ap (option_map (λ _. [])) is

-- after a run, a queue of the world holds the operations that were called on it and have not completed
pub called_after : (Same : Reply → Reply → Type 0) (w : World) (q : ℕ) (h : List Event) (x : ListType) → slice_get w.queues q ≡ Some x →
    Plays Same w (first_state w) h → HoldsRest (state_after w h).desk q (counter h q) (operations w h q)
called_after Same w q h x is plays = called_from Same w (first_state w) q h [] (first_called w q x is) plays
