-- No list of a run has more commands than a list may hold.
use Rattle.std.proofs.Common.{ℕ, zero, suc, ◌≡◌, ◌<◌, ◌≤◌, ◌+◌, ◌*◌, nat_le, refl, sym, subst, Bool, true, false, List, [], ◌∷◌, ◌++◌, map, length, length-append, Option, Some, None, lit≤, arith}
use Rattle.std.proofs.Math.ListN.{length-map}
use Rattle.std.proofs.lemmas.Bool.Decides.{nat_tests}
use Rattle.dx_base.specs.Lists.{changed_at}
use Rattle.dx_base.specs.Effects.{At, changed_by}
use Rattle.dx_base.specs.declared.hresult.Hresult.{Hresult}
use Rattle.dx_base.specs.declared.hresult.Hresult.TheVariants.{Fail}
use Rattle.dx_base.specs.declared.ids.ListId.{ListId}
use Rattle.d3d_machine.specs.declared.world.World.{World}
use Rattle.d3d_machine.specs.declared.calls.Record.{Record}
use Rattle.d3d_machine.specs.declared.events.Listed.{Listed}
use Rattle.d3d_machine.specs.declared.events.Operation.{Operation}
use Rattle.d3d_machine.specs.declared.events.Operation.TheVariants as operation
use Rattle.d3d_machine.specs.declared.events.Event.{Event}
use Rattle.d3d_machine.specs.declared.events.Event.TheVariants as event
use Rattle.d3d_machine.specs.State.{Desk, State, list_of, first_state, declared_list}
use Rattle.d3d_machine.specs.CallEffects.{Change, records, closes, fails, begins}
use Rattle.d3d_machine.specs.Replies.{refuse_if, record_error, argument_error}
use Rattle.d3d_machine.specs.Effects.{changed, done, dropped, desk_after_operation, head_of, desk_after, after, after_all, recorded, recorded_or, kept_or, gathered}
use Rattle.d3d_machine.specs.Play.{state_after}
use Rattle.d3d_machine.specs.Lists.{commands_of}
use Rattle.d3d_machine.specs.Shape.{AreShort}

abbrev Short : Listed → Type 0
Short x = length x.commands ≤ 1024

-- a change that keeps a list short keeps all short
changed_short : (f : Listed → Listed) → ((x : Listed) → Short x → Short (f x)) → (lists : List Listed) (i l : ℕ) →
    ((k : ℕ) → Short (list_of lists k)) → Short (list_of (changed_at f i lists) l)
changed_short f keeps [] i l h = h l
changed_short f keeps (x ∷ lists) zero zero h = keeps x (h 0)
changed_short f keeps (x ∷ lists) zero (suc l) h = h (suc l)
changed_short f keeps (x ∷ lists) (suc i) zero h = h 0
changed_short f keeps (x ∷ lists) (suc i) (suc l) h = changed_short f keeps lists i l (λ k. h (suc k))

keep_short : (o e : Option Hresult) (what : Record) (x : Listed) → Short x → (e ≡ None → length x.commands < 1024) → Short (kept_or o x (recorded_or e what x))
keep_short None None what x h room =
    let less : length x.commands < 1024 = room refl in
    let long : length (x.commands ++ (record { what = what }) ∷ []) ≡ length x.commands + 1 = length-append x.commands ((record { what = what }) ∷ []) in
    omega arith
keep_short None (Some e) what x h room = h
keep_short (Some o) e what x h room = h

room_left : (b : Bool) (n : ℕ) (more : Option Hresult) → nat_le 1024 n ≡ b → refuse_if b Fail more ≡ None → n < 1024
room_left true n more e h = cc
room_left false n more e h = grind (arith, nat_tests)

recorded_short : (w : World) (what : Record) (x : Listed) → Short x → Short (recorded w what x)
recorded_short w what x h =
    keep_short x.error (record_error w x what) what x h (room_left (nat_le 1024 (length x.commands)) (length x.commands) (argument_error w what) refl)

change_short : (w : World) (k : Change) (x : Listed) → Short x → Short (changed w k x)
change_short w (records what) x h = recorded_short w what x h
change_short w closes x h = h
change_short w fails x h = h
change_short w (begins a) x h = lit≤ tt

changes_short : (w : World) (o : Option (At Change)) (lists : List Listed) → ((k : ℕ) → Short (list_of lists k)) → (l : ℕ) → Short (list_of (changed_by (changed w) o lists) l)
changes_short w None lists h l = h l
changes_short w (Some x) lists h l = changed_short (changed w x.what) (change_short w x.what) lists x.place l h

pub operation_lists : (d : Desk) (o : Option Operation) → (desk_after_operation d o).lists ≡ d.lists
operation_lists d None = refl
operation_lists d (Some (operation.Execute commands)) = refl
operation_lists d (Some (operation.Signal f v)) = refl

desk_short : (w : World) (d : Desk) (e : Event) → ((k : ℕ) → Short (list_of d.lists k)) → (l : ℕ) → Short (list_of (desk_after w d e).lists l)
desk_short w d (event.Call t c r) h l = changes_short w (done w d.lists c).list d.lists h l
desk_short w d (event.Awake t) h l = h l
desk_short w d (event.Queue q) h l = subst (λ lists. Short (list_of lists l)) (sym (operation_lists (dropped d q.0) (head_of d q.0))) (h l)

-- an event keeps lists short
pub after_short : (w : World) (s : State) (e : Event) → AreShort s.desk.lists → AreShort (after w s e).desk.lists
after_short w s e h = record { each = λ l. desk_short w s.desk e h.each l }

-- events keep lists short
pub all_short : (w : World) (s : State) (es : List Event) → AreShort s.desk.lists → AreShort (after_all w s es).desk.lists
all_short w s [] h = h
all_short w s (e ∷ es) h = all_short w (after w s e) es (after_short w s e h)

first_short : {A : Type 0} (xs : List A) (l : ℕ) → Short (list_of (map (λ _. declared_list) xs) l)
first_short [] l = lit≤ tt
first_short (x ∷ xs) zero = lit≤ tt
first_short (x ∷ xs) (suc l) = first_short xs l

-- every list of a run has at most 1024 commands
pub lists_are_short : (w : World) (h : List Event) → AreShort (state_after w h).desk.lists
lists_are_short w h = all_short w (first_state w) h (record { each = first_short w.lists })

-- the commands of lists that are short
pub gathered_is_short : (lists : List Listed) (ls : List ℕ) → AreShort lists → length (gathered lists ls) ≤ 1024 * length ls
gathered_is_short lists [] h = lit≤ tt
gathered_is_short lists (l ∷ ls) h =
    let one : length (list_of lists l).commands ≤ 1024 = h.each l in
    let more : length (gathered lists ls) ≤ 1024 * length ls = gathered_is_short lists ls h in
    let both : length ((list_of lists l).commands ++ gathered lists ls) ≡ length (list_of lists l).commands + length (gathered lists ls)
    = length-append (list_of lists l).commands (gathered lists ls) in
    omega arith

-- the commands of lists that a run executes
pub commands_are_few : (w : World) (h : List Event) (ls : List ListId) → length (commands_of (state_after w h).desk.lists ls) ≤ 1024 * length ls
commands_are_few w h ls =
    let few : length (gathered (state_after w h).desk.lists (map (λ l. l.0) ls)) ≤ 1024 * length (map (λ l. l.0) ls)
    = gathered_is_short (state_after w h).desk.lists (map (λ l. l.0) ls) (lists_are_short w h) in
    subst (λ n. length (gathered (state_after w h).desk.lists (map (λ l. l.0) ls)) ≤ 1024 * n) (length-map ls (λ l. l.0)) few
