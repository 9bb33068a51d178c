-- All commands of lists and of operations are good, whatever the events.
use Rattle.std.proofs.Common.{ℕ, zero, suc, ◌≡◌, ◌∙◌, ap, refl, List, [], ◌∷◌, length, map, Some, None, Option, Bool, true, false}
use Rattle.std.specs.List.{list_all}
use Rattle.std.specs.Prelude.{◌==◌, not, nat_le, drop, if◌then◌else◌}
use Rattle.dx_base.specs.Effects.{At, changed_by}
use Rattle.dx_base.specs.declared.hresult.Hresult.{Hresult}
use Rattle.dx_base.specs.declared.hresult.Hresult.TheVariants.{InvalidArg, Fail}
use Rattle.dx_base.proofs.Lists.{and_both, and_of, all_changed, all_append}
use Rattle.d3d_machine.specs.declared.world.World.{World}
use Rattle.d3d_machine.specs.declared.calls.Record.{Record}
use Rattle.d3d_machine.specs.declared.calls.Record.TheVariants.{Copy}
use Rattle.d3d_machine.specs.declared.events.Listed.{Listed}
use Rattle.d3d_machine.specs.declared.events.Operation.{Operation}
use Rattle.d3d_machine.specs.declared.events.Event.{Event}
use Rattle.d3d_machine.specs.declared.events.Event.TheVariants as event
use Rattle.d3d_machine.specs.State.{Desk, State, first_state, list_of, declared_list}
use Rattle.d3d_machine.specs.CallEffects.{here_of, Change, records, closes, fails, begins, Task, executes, signals}
use Rattle.d3d_machine.specs.Replies.{refuse_if, argument_error, record_error, is_copy}
use Rattle.d3d_machine.specs.Effects.{changed, recorded, recorded_or, kept_or, gathered, operation_of, operation_given, with_one, done, dropped, head_of, desk_after_operation, desk_after, after, after_all}
use Rattle.d3d_machine.specs.Laws.{RecordedAreGood}
use Rattle.d3d_machine.specs.Play.{state_after}
use Rattle.d3d_machine.specs.declared.events.Operation.TheVariants as operation
use Rattle.d3d_machine.specs.Operations.{called_by, operations_from, operations}
use Rattle.d3d_machine.specs.Good.{is_good_record, is_good_command, is_good_list, is_good_operation}
use Rattle.d3d_machine.proofs.Short.{operation_lists}

no_error : (w : World) (what : Record) → argument_error w what ≡ None → is_good_record w what ≡ true
no_error w (Copy d doff s soff bytes) none = by_test (is_copy w d.0 doff s.0 soff bytes) none
  where
    by_test : (b : Bool) → refuse_if (not b) InvalidArg None ≡ None → b ≡ true
    by_test true h = refl
    by_test false h = absurd (cc)

first_error : (b : Bool) (o : Option Hresult) → refuse_if b Fail o ≡ None → o ≡ None
first_error true o h = absurd (cc)
first_error false o h = h

recorded_good : (w : World) (what : Record) (x : Listed) → is_good_list w x ≡ true → is_good_list w (recorded w what x) ≡ true
recorded_good w what x good = by_kept x.error
  where
    by_error : (o : Option Hresult) → record_error w x what ≡ o → is_good_list w (recorded_or o what x) ≡ true
    by_error (Some e) is = good
    by_error None is =
        all_append (is_good_command w) x.commands ((record { what = what }) ∷ []) good
        (and_of (is_good_record w what) true (no_error w what (first_error (nat_le 1024 (length x.commands)) (argument_error w what) is)) refl)

    by_kept : (o : Option Hresult) → is_good_list w (kept_or o x (recorded_or (record_error w x what) what x)) ≡ true
    by_kept (Some e) = good
    by_kept None = by_error (record_error w x what) refl

abbrev AreGood : World → List Listed → Type 0
AreGood w lists = list_all (is_good_list w) lists ≡ true

change_good : (w : World) (k : Change) (x : Listed) → is_good_list w x ≡ true → is_good_list w (changed w k x) ≡ true
change_good w (records what) x good = recorded_good w what x good
change_good w closes x good = good
change_good w fails x good = good
change_good w (begins a) x good = refl

changes_good : (w : World) (o : Option (At Change)) (lists : List Listed) → AreGood w lists → AreGood w (changed_by (changed w) o lists)
changes_good w None lists good = good
changes_good w (Some x) lists good = all_changed (is_good_list w) (changed w x.what) x.place lists good (change_good w x.what)

event_good : (w : World) (d : Desk) (e : Event) → AreGood w d.lists → AreGood w (desk_after w d e).lists
event_good w d (event.Call t c r) good = changes_good w (done w d.lists c).list d.lists good
event_good w d (event.Awake t) good = good
event_good w d (event.Queue q) good = ap (list_all (is_good_list w)) (operation_lists (dropped d q.0) (head_of d q.0)) ∙ good

list_good : (w : World) (lists : List Listed) (l : ℕ) → AreGood w lists → is_good_list w (list_of lists l) ≡ true
list_good w [] l good = refl
list_good w (x ∷ xs) zero good = (and_both (is_good_list w x) (list_all (is_good_list w) xs) good).0
list_good w (x ∷ xs) (suc l) good = list_good w xs l (and_both (is_good_list w x) (list_all (is_good_list w) xs) good).1

gathered_good : (w : World) (lists : List Listed) (ls : List ℕ) → AreGood w lists → list_all (is_good_command w) (gathered lists ls) ≡ true
gathered_good w lists [] good = refl
gathered_good w lists (l ∷ ls) good =
    all_append (is_good_command w) (list_of lists l).commands (gathered lists ls) (list_good w lists l good) (gathered_good w lists ls good)

one_good : (w : World) (b : Bool) (o : Operation) → is_good_operation w o ≡ true → list_all (is_good_operation w) (if b then o ∷ [] else []) ≡ true
one_good w true o good = and_of (is_good_operation w o) true good refl
one_good w false o good = refl

task_good : (w : World) (lists : List Listed) (k : Task) → AreGood w lists → is_good_operation w (operation_of lists k) ≡ true
task_good w lists (executes ls) good = gathered_good w lists (map (λ l. l.0) ls) good
task_good w lists (signals f v) good = refl

called_good : (w : World) (lists : List Listed) (q : ℕ) (o : Option (At Task)) → AreGood w lists →
    list_all (is_good_operation w) (here_of q (operation_given lists o)) ≡ true
called_good w lists q None good = refl
called_good w lists q (Some x) good = one_good w (x.place == q) (operation_of lists x.what) (task_good w lists x.what good)

by_event : (w : World) (d : Desk) (q : ℕ) (e : Event) → AreGood w d.lists → list_all (is_good_operation w) (called_by w d q e) ≡ true
by_event w d q (event.Call t c r) good = called_good w d.lists q (done w d.lists c).gives good
by_event w d q (event.Awake t) good = refl
by_event w d q (event.Queue p) good = refl

from_good : (w : World) (s : State) (q : ℕ) (h : List Event) → AreGood w s.desk.lists → list_all (is_good_operation w) (operations_from w s q h) ≡ true
from_good w s q [] good = refl
from_good w s q (e ∷ h) good =
    all_append (is_good_operation w) (called_by w s.desk q e) (operations_from w (after w s e) q h) (by_event w s.desk q e good)
    (from_good w (after w s e) q h (event_good w s.desk e good))

declared_good : {A : Type 0} (w : World) (xs : List A) → list_all (is_good_list w) (map (λ _. declared_list) xs) ≡ true
declared_good w [] = refl
declared_good w (x ∷ xs) = declared_good w xs

-- every command of every operation that a history called is good
pub operations_are_good : (w : World) (h : List Event) (q : ℕ) → list_all (is_good_operation w) (operations w h q) ≡ true
operations_are_good w h q = from_good w (first_state w) q h (declared_good w w.lists)

abbrev AreCalledGood : World → List (List Operation) → Type 0
AreCalledGood w called = list_all (λ os. list_all (is_good_operation w) os) called ≡ true

given_good : (w : World) (lists : List Listed) (o : Option (At Task)) (called : List (List Operation)) → AreGood w lists → AreCalledGood w called →
    AreCalledGood w (changed_by with_one (operation_given lists o) called)
given_good w lists None called good all = all
given_good w lists (Some x) called good all =
    all_changed (λ os. list_all (is_good_operation w) os) (with_one (operation_of lists x.what)) x.place called all
    (λ os h. all_append (is_good_operation w) os (operation_of lists x.what ∷ []) h (and_of (is_good_operation w (operation_of lists x.what)) true (task_good w lists x.what good) refl))

rest_good : (w : World) (os : List Operation) → list_all (is_good_operation w) os ≡ true → list_all (is_good_operation w) (drop 1 os) ≡ true
rest_good w [] h = refl
rest_good w (o ∷ os) h = (and_both (is_good_operation w o) (list_all (is_good_operation w) os) h).1

called_by_operation : (d : Desk) (o : Option Operation) → (desk_after_operation d o).called ≡ d.called
called_by_operation d None = refl
called_by_operation d (Some (operation.Execute commands)) = refl
called_by_operation d (Some (operation.Signal f v)) = refl

event_called_good : (w : World) (d : Desk) (e : Event) → AreGood w d.lists → AreCalledGood w d.called → AreCalledGood w (desk_after w d e).called
event_called_good w d (event.Call t c r) good all = given_good w d.lists (done w d.lists c).gives d.called good all
event_called_good w d (event.Awake t) good all = all
event_called_good w d (event.Queue q) good all =
    ap (list_all (λ os. list_all (is_good_operation w) os)) (called_by_operation (dropped d q.0) (head_of d q.0))
    ∙ all_changed (λ os. list_all (is_good_operation w) os) (drop 1) q.0 d.called all (rest_good w)

both_good : (w : World) (s : State) (h : List Event) → AreGood w s.desk.lists → AreCalledGood w s.desk.called →
    AreGood w (after_all w s h).desk.lists × AreCalledGood w (after_all w s h).desk.called
both_good w s [] good all = (good, all)
both_good w s (e ∷ h) good all = both_good w (after w s e) h (event_good w s.desk e good) (event_called_good w s.desk e good all)

none_called : {A : Type 0} (w : World) (xs : List A) → list_all (λ os. list_all (is_good_operation w) os) (map (λ _. []) xs) ≡ true
none_called w [] = refl
none_called w (x ∷ xs) = none_called w xs

-- every command of every list, and of every called operation that is not complete, is good
pub recorded_are_good : RecordedAreGood
recorded_are_good = record {
  lists = λ w h. (both_good w (first_state w) h (declared_good w w.lists) (none_called w w.queues)).0;
  called = λ w h. (both_good w (first_state w) h (declared_good w w.lists) (none_called w w.queues)).1;
}
