-- The search for an update that meets a wait: each step keeps what it has found.
use Rattle.std.proofs.Common.{ℕ, zero, suc, ◌≡◌, ◌<◌, ◌≤◌, ◌+◌, ◌∙◌, sym, ap, subst, refl, arith, add-one, List, [], ◌∷◌, length, map, slice_set, get_or, Option, Some, None, Bool, ◌||◌}
use Rattle.std.specs.List.{slice_get, list_any}
use Rattle.std.specs.Prelude.{nat_le}
use Rattle.std.proofs.lemmas.Bool.{lt-leb}
use Rattle.std.proofs.lemmas.List.{length-append}
use Rattle.dx_base.specs.Effects.{At, changed_by}
use Rattle.dx_base.specs.Lists.{changed_at}
use Rattle.dx_base.proofs.Each.{each_on, each_new, each_changed, each_got}
use Rattle.d3d_machine.specs.declared.calls.Call.{Call}
use Rattle.d3d_machine.specs.CallEffects.{does}
use Rattle.d3d_machine.specs.Effects.{with_one}
use Rattle.d3d_machine.specs.Fences.{is_met}
use Rattle.d3d_machine.specs.Past.{updates_at}
use Rattle.d3d_machine.proofs.Marks.{is_met_one}
use Rattle.sys_core.specs.declared.parts.Armed.{Armed}
use Rattle.sys_core.specs.declared.parts.Seat.{Seat}
use Rattle.sys_core.specs.declared.parts.Signalled.{Signalled}
use Rattle.sys_core.specs.Keeps.{ready_by}
use Rattle.sys_core.specs.Parts.{place_since, armed_or, seat_after, woken_seat, opening_seat, updated_by}
use Rattle.sys_core.specs.WaitSearches.{IsSearched, IsWaitSearched, AreSearched}

-- no thread waits at first
pub searched_first : {A : Type 0} (fences : List (List ℕ)) (scripts : List A) → AreSearched fences (map (λ _. opening_seat) scripts)
searched_first fences scripts = each_new (λ (s : Seat). IsWaitSearched fences s.waits) (λ _. opening_seat) (λ _. tt) scripts

-- an update that comes says the same of both places
one_more : (us : List (List ℕ)) (g v f : ℕ) (a : Armed) → IsSearched (updates_at us f) a → IsSearched (updates_at (changed_at (with_one v) g us) f) a
one_more [] g v f a is = is
one_more (u ∷ us) zero v zero a is = record {
  since_within = omega (arith, is.since_within, length-append u (v ∷ []));
  seen_within = omega (arith, is.seen_within, length-append u (v ∷ []));
  tells = is_met_one u v a.since a.value is.since_within ∙ ap (λ b. b || nat_le a.value v) is.tells ∙ sym (is_met_one u v a.seen a.value is.seen_within);
}
one_more (u ∷ us) zero v (suc f) a is = is
one_more (u ∷ us) (suc g) v zero a is = is
one_more (u ∷ us) (suc g) v (suc f) a is = one_more us g v f a is

wait_more : (us : List (List ℕ)) (g v : ℕ) (o : Option Armed) → IsWaitSearched us o → IsWaitSearched (changed_at (with_one v) g us) o
wait_more us g v None is = tt
wait_more us g v (Some a) is = one_more us g v a.fence.0 a is

-- a fence takes a value
pub searched_update : (us : List (List ℕ)) (g v : ℕ) (seats : List Seat) → AreSearched us seats → AreSearched (changed_at (with_one v) g us) seats
searched_update us g v seats all =
    each_on (λ (s : Seat). IsWaitSearched us s.waits) (λ (s : Seat). IsWaitSearched (changed_at (with_one v) g us) s.waits) seats (λ s is. wait_more us g v s.waits is) all

pub searched_set : (us : List (List ℕ)) (o : Option (At ℕ)) (seats : List Seat) → AreSearched us seats → AreSearched (changed_by with_one o us) seats
searched_set us None seats all = all
searched_set us (Some x) seats all = searched_update us x.place x.what seats all

pub searched_signal : (us : List (List ℕ)) (o : Option Signalled) (seats : List Seat) → AreSearched us seats → AreSearched (updated_by o us) seats
searched_signal us None seats all = all
searched_signal us (Some x) seats all = searched_update us x.fence.0 x.value seats all

-- a wait that begins
begun : (us : List (List ℕ)) (o : Option (At ℕ)) (waits : Option Armed) → IsWaitSearched us waits → IsWaitSearched us (armed_or us o waits)
begun us None waits is = is
begun us (Some x) waits is = record { since_within = omega arith; seen_within = omega arith; tells = refl }

-- a call
pub searched_call : (us : List (List ℕ)) (c : Call) (t : ℕ) (seats : List Seat) → AreSearched us seats → AreSearched us (changed_at (seat_after us c) t seats)
searched_call us c t seats all = each_changed (λ (s : Seat). IsWaitSearched us s.waits) (seat_after us c) t seats (λ s is. begun us (does c).waits s.waits is) all

-- a waking
pub searched_awake : (us : List (List ℕ)) (t : ℕ) (seats : List Seat) → AreSearched us seats → AreSearched us (changed_at woken_seat t seats)
searched_awake us t seats all = each_changed (λ (s : Seat). IsWaitSearched us s.waits) woken_seat t seats (λ s is. tt) all

-- a wait is met where an update that is still to be looked at suffices
pub met_where_sought : (script : List Call) (fences : List (List ℕ)) (seats : List Seat) (t : ℕ) (s : Seat) (a : Armed) (b : Bool) → AreSearched fences seats →
    slice_get seats t ≡ Some s → s.waits ≡ Some a → b ≡ is_met (updates_at fences a.fence.0) a.seen a.value → (z : Seat) → slice_get seats t ≡ Some z → b ≡ ready_by script fences z
met_where_sought script fences seats t s a b all at waits is z found =
    let same : s ≡ z = let e : Some s ≡ Some z = sym at ∙ found in grind arith in
    let sought : IsSearched (updates_at fences a.fence.0) a = subst (IsWaitSearched fences) waits (each_got (λ (y : Seat). IsWaitSearched fences y.waits) seats t s all at) in
    let made : ℕ → Option Armed → Seat = λ m o. record { made = m; waits = o } in
    is ∙ sym sought.tells ∙ sym (ap (λ o. ready_by script fences (made s.made o)) waits) ∙ ap (ready_by script fences) same

-- an update that does not suffice is passed
passed_one : (us : List ℕ) (k v d : ℕ) → k < length us → get_or us k d < v → is_met us k v ≡ is_met us (suc k) v
passed_one [] k v d within less = absurd (omega (arith, within))
passed_one (u ∷ us) zero v d within less = ap (λ b. b || list_any (λ x. nat_le v x) us) (lt-leb v u less)
passed_one (u ∷ us) (suc k) v d within less = passed_one us k v d (omega (arith, within)) less

pub passed_next : (us : List ℕ) (k v d : ℕ) → k < length us → get_or us k d < v → is_met us k v ≡ is_met us (k + 1) v
passed_next us k v d within less = passed_one us k v d within less ∙ ap (λ j. is_met us j v) (sym (add-one k))

-- the search of a wait has come further
pub searched_on : (us : List ℕ) (a b : Armed) → IsSearched us a → b.since ≡ a.since → b.value ≡ a.value → b.seen ≤ length us → is_met us a.seen a.value ≡ is_met us b.seen a.value → IsSearched us b
searched_on us a b is since value within tells = record {
  since_within = omega (arith, is.since_within, since);
  seen_within = within;
  tells = ap (λ k. is_met us k b.value) since ∙ ap (λ v. is_met us a.since v) value ∙ is.tells ∙ tells ∙ ap (λ v. is_met us b.seen v) (sym value);
}

-- the place of a thread, found and written
pub seat_searched : (fences : List (List ℕ)) (seats : List Seat) (t : ℕ) (s : Seat) → AreSearched fences seats → slice_get seats t ≡ Some s → IsWaitSearched fences s.waits
seat_searched fences seats t s all at = each_got (λ (y : Seat). IsWaitSearched fences y.waits) seats t s all at

pub seat_set : (fences : List (List ℕ)) (seats : List Seat) (t : ℕ) (y : Seat) → AreSearched fences seats → IsWaitSearched fences y.waits → AreSearched fences (slice_set seats t y)
seat_set fences [] t y all is = tt
seat_set fences (s ∷ seats) zero y all is = (is, all.1)
seat_set fences (s ∷ seats) (suc t) y all is = (all.0, seat_set fences seats t y all.1 is)

pub seat_same : (seats : List Seat) (t : ℕ) (s y : Seat) → slice_get seats t ≡ Some s → place_since y ≡ place_since s → map place_since (slice_set seats t y) ≡ map place_since seats
seat_same [] t s y at same = refl
seat_same (x ∷ seats) zero s y at same = let e : x ≡ s = grind arith in ap (λ p. p ∷ map place_since seats) (same ∙ sym (ap place_since e))
seat_same (x ∷ seats) (suc t) s y at same = ap (λ ps. place_since x ∷ ps) (seat_same seats t s y at same)
