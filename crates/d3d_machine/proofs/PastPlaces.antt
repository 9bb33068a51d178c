-- The places and the updates of a past tell the machine's threads and fences.
use Rattle.std.proofs.Common.{ℕ, zero, suc, ◌≡◌, ◌≢◌, ◌<◌, ◌≤◌, ◌+◌, ◌-◌, ◌∙◌, sym, ap, subst, refl, arith, List, [], ◌∷◌, ◌++◌, length, drop, map, slice_get, Some, None, Option, Bool, true, false, length-append, inl, inr}
use Rattle.std.proofs.lemmas.List.{length-map}
use Rattle.std.proofs.lemmas.Bool.{cases_eq, ltb-true, lt-ltb}
use Rattle.std.proofs.lemmas.Bool.Decides.{nat_tests}
use Rattle.std.specs.List.{list_any, list_all}
use Rattle.std.specs.Prelude.{◌==◌, ◌&&◌, ◌||◌, nat_lt, nat_le, slice_index_or}
use Rattle.dx_base.specs.Lists.{changed_at}
use Rattle.dx_base.proofs.Lists.{map_changed, get_or_changed, get_or_changed_other, and_both, and_of, all_changed}
use Rattle.d3d_machine.specs.declared.world.World.{World}
use Rattle.d3d_machine.specs.declared.calls.Call.{Call}
use Rattle.d3d_machine.specs.declared.calls.Call.TheVariants as call
use Rattle.d3d_machine.specs.declared.events.Listed.{Listed}
use Rattle.d3d_machine.specs.declared.events.Operation.{Operation}
use Rattle.d3d_machine.specs.declared.events.Operation.TheVariants as operation
use Rattle.d3d_machine.specs.declared.events.Event.{Event}
use Rattle.d3d_machine.specs.declared.events.Event.TheVariants as event
use Rattle.d3d_machine.specs.World.{IsWorld, is_named}
use Rattle.dx_base.specs.Effects.{At, changed_by}
use Rattle.dx_base.proofs.Effects.{unless_some}
use Rattle.d3d_machine.specs.CallEffects.{does}
use Rattle.d3d_machine.specs.State.{Place, Desk, State, value_of, opening_place}
use Rattle.d3d_machine.specs.Replies.{refusal_by}
use Rattle.d3d_machine.specs.Effects.{with_one, after, done, begins_wait, one_call_more, marked_place, marked_places, waiting_places, head_of, dropped, desk_after_operation}
use Rattle.d3d_machine.specs.Play.{May, SameButWords, state_after}
use Rattle.d3d_machine.specs.Fences.{operation_sets, event_sets, is_met}
use Rattle.d3d_machine.proofs.Runs.{state_after_append, run_induction}
use Rattle.d3d_machine.proofs.Marks.{is_met_one}
use Rattle.d3d_machine.proofs.CallEffects.{is_wait}
use Rattle.d3d_machine.proofs.Named.{next_is_named}
use Rattle.d3d_machine.proofs.Shape.{run_has_shape}
use Rattle.d3d_machine.specs.Past.{WaitSince, PlaceSince, Move, calls, wakes, event_moves, Past, updates_at, moved, first_place, after_past, past, first_past, last_of, place_from, is_behind, IsRight, PastsAreRight}
use Rattle.d3d_machine.proofs.Past.{past_append}

-- lists of updates

index_end : (us : List ℕ) (v : ℕ) → slice_index_or (us ++ v ∷ []) (length us) 0 ≡ v
index_end [] v = refl
index_end (u ∷ us) v = index_end us v

last_more : (us : List ℕ) (v : ℕ) → last_of (us ++ v ∷ []) ≡ v
last_more us v = ap (λ n. slice_index_or (us ++ v ∷ []) n 0) (omega (arith, length-append us (v ∷ []))) ∙ index_end us v

drop_last : (u : ℕ) (us : List ℕ) → drop (length us) (u ∷ us) ≡ slice_index_or (u ∷ us) (length us) 0 ∷ []
drop_last u [] = refl
drop_last u (x ∷ us) = drop_last x us

or_false : (b : Bool) → (b || false) ≡ b
or_false true = refl
or_false false = refl

-- a wait on the last update is met where that suffices
last_met : (us : List ℕ) (v : ℕ) → 0 < length us → is_met us (length us - 1) v ≡ nat_le v (last_of us)
last_met [] v some = absurd (omega (arith, some))
last_met (u ∷ us) v some =
    let less : length (u ∷ us) - 1 ≡ length us = omega arith in
    rw less (ap (list_any (λ x. nat_le v x)) (drop_last u us) ∙ or_false (nat_le v (slice_index_or (u ∷ us) (length us) 0)))

some_within : (us : List (List ℕ)) (f : ℕ) → 0 < length (updates_at us f) → f < length us
some_within [] f some = absurd (omega (arith, some))
some_within (u ∷ us) zero some = omega arith
some_within (u ∷ us) (suc f) some = omega (arith, some_within us f some)

some_at : (us : List (List ℕ)) (f : ℕ) → list_all (λ xs. nat_lt 0 (length xs)) us ≡ true → f < length us → 0 < length (updates_at us f)
some_at [] f filled within = absurd (omega (arith, within))
some_at (u ∷ us) zero filled within = ltb-true 0 (length u) (and_both (nat_lt 0 (length u)) (list_all (λ xs. nat_lt 0 (length xs)) us) filled).0
some_at (u ∷ us) (suc f) filled within = some_at us f (and_both (nat_lt 0 (length u)) (list_all (λ xs. nat_lt 0 (length xs)) us) filled).1 (omega (arith, within))

value_is : (us : List (List ℕ)) (f : ℕ) → f < length us → (elim (slice_get (map last_of us) f) [ None ↦ 0 | Some v ↦ v ]) ≡ last_of (updates_at us f)
value_is [] f within = absurd (omega (arith, within))
value_is (u ∷ us) zero within = refl
value_is (u ∷ us) (suc f) within = value_is us f (omega (arith, within))

longer : (us : List (List ℕ)) (g v f : ℕ) → length (updates_at us f) ≤ length (updates_at (changed_at (with_one v) g us) f)
longer [] g v f = omega arith
longer (u ∷ us) zero v zero = omega (arith, length-append u (v ∷ []))
longer (u ∷ us) zero v (suc f) = omega arith
longer (u ∷ us) (suc g) v zero = omega arith
longer (u ∷ us) (suc g) v (suc f) = longer us g v f

-- one update more of a fence meets the waits on it for which it suffices
mark_one : (us : List (List ℕ)) (g v f since value : ℕ) → since < length (updates_at us f) →
    is_met (updates_at (changed_at (with_one v) g us) f) since value ≡ (is_met (updates_at us f) since value || ((f == g) && nat_le value v))
mark_one us g v f since value within = elim (cases_eq g f) [
  | inl e ↦ let yes : (f == f) ≡ true = grind (arith, nat_tests) in
      rw (e, yes) (ap (λ xs. is_met xs since value) (get_or_changed (with_one v) us f [] (some_within us f (omega (arith, within))))
      ∙ is_met_one (updates_at us f) v since value (omega (arith, within)))
  | inr n ↦ let no : (f == g) ≡ false = grind (arith, nat_tests) in
      rw no (ap (λ xs. is_met xs since value) (get_or_changed_other (with_one v) us g f [] n) ∙ sym (or_false (is_met (updates_at us f) since value)))
]

-- places after an event: a value that a fence takes, and a move

place_marked : (us : List (List ℕ)) (x : At ℕ) (s : PlaceSince) → is_behind us s.waits ≡ true →
    place_from (changed_at (with_one x.what) x.place us) s ≡ marked_place x.place x.what (place_from us s)
place_marked us x s behind = by_wait s.made s.waits behind
  where
    by_wait : (made : ℕ) (o : Option WaitSince) → is_behind us o ≡ true → place_from (changed_at (with_one x.what) x.place us) (record { made = made; waits = o }) ≡ marked_place x.place x.what (place_from us (record { made = made; waits = o }))
    by_wait made None is = refl
    by_wait made (Some a) is =
        ap (λ b. let p : Place = record { made = made; waits = Some (record { fence = a.fence; value = a.value; marked = b }) } in p)
        (mark_one us x.place x.what a.fence a.since a.value (ltb-true a.since (length (updates_at us a.fence)) is))

map_on : {A B : Type 0} (p : A → Bool) (f g : A → B) (xs : List A) → list_all p xs ≡ true → ((x : A) → p x ≡ true → f x ≡ g x) → map f xs ≡ map g xs
map_on p f g [] all same = refl
map_on p f g (x ∷ xs) all same =
    let both : (p x ≡ true) × (list_all p xs ≡ true) = and_both (p x) (list_all p xs) all in
    ap (λ y. y ∷ map f xs) (same x both.0) ∙ ap (λ ys. g x ∷ ys) (map_on p f g xs both.1 same)

map_map : {A B C : Type 0} (f : B → C) (g : A → B) (xs : List A) → map f (map g xs) ≡ map (λ x. f (g x)) xs
map_map f g [] = refl
map_map f g (x ∷ xs) = ap (λ ys. f (g x) ∷ ys) (map_map f g xs)

all_on : {A : Type 0} (p q : A → Bool) (xs : List A) → ((x : A) → p x ≡ true → q x ≡ true) → list_all p xs ≡ true → list_all q xs ≡ true
all_on p q [] keeps all = refl
all_on p q (x ∷ xs) keeps all =
    let both : (p x ≡ true) × (list_all p xs ≡ true) = and_both (p x) (list_all p xs) all in
    and_of (q x) (list_all q xs) (keeps x both.0) (all_on p q xs keeps both.1)

places_marked : (us : List (List ℕ)) (o : Option (At ℕ)) (places : List PlaceSince) → list_all (λ s. is_behind us s.waits) places ≡ true →
    map (place_from (changed_by with_one o us)) places ≡ marked_places o (map (place_from us) places)
places_marked us None places behind = refl
places_marked us (Some x) places behind =
    map_on (λ s. is_behind us s.waits) (place_from (changed_at (with_one x.what) x.place us)) (λ s. marked_place x.place x.what (place_from us s)) places behind (place_marked us x)
    ∙ sym (map_map (marked_place x.place x.what) (place_from us) places)

still_behind : (us : List (List ℕ)) (o : Option (At ℕ)) (a : Option WaitSince) → is_behind us a ≡ true → is_behind (changed_by with_one o us) a ≡ true
still_behind us None a is = is
still_behind us (Some x) None is = refl
still_behind us (Some x) (Some a) is =
    lt-ltb a.since (length (updates_at (changed_at (with_one x.what) x.place us) a.fence))
    (omega (arith, ltb-true a.since (length (updates_at us a.fence)) is, longer us x.place x.what a.fence))

-- the machine's place after a move
abbrev pub place_moved : Desk → Move → Place → Place
place_moved d (calls None) p = one_call_more p
place_moved d (calls (Some x)) p = one_call_more (begins_wait (value_of d x.place) x.place x.what p)
place_moved d wakes p = record p { waits = None }

-- where a move begins a wait, no fence takes a value, and the fence has an update, of which the last is its value
abbrev FitsMove : List (List ℕ) → List (List ℕ) → Desk → Option (At Move) → Type 0
FitsMove us more d None = Unit {0}
FitsMove us more d (Some m) = (x : At ℕ) → m.what ≡ calls (Some x) → (more ≡ us) × ((0 < length (updates_at us x.place)) × (value_of d x.place ≡ last_of (updates_at us x.place)))

place_moves : (us more : List (List ℕ)) (d : Desk) (t : ℕ) (k : Move) → FitsMove us more d (Some (record { place = t; what = k })) → (s : PlaceSince) →
    place_from more (moved us k s) ≡ place_moved d k (place_from more s)
place_moves us more d t (calls None) fits s = refl
place_moves us more d t wakes fits s = refl
place_moves us more d t (calls (Some x)) fits s =
    let fit : (more ≡ us) × ((0 < length (updates_at us x.place)) × (value_of d x.place ≡ last_of (updates_at us x.place))) = fits x refl in
    ap (λ b. let p : Place = record { made = s.made + 1; waits = Some (record { fence = x.place; value = x.what; marked = b }) } in p)
    (ap (λ xs. is_met (updates_at xs x.place) (length (updates_at us x.place) - 1) x.what) fit.0
    ∙ last_met (updates_at us x.place) x.what fit.1.0 ∙ ap (nat_le x.what) (sym fit.1.1))

behind_moved : (us more : List (List ℕ)) (d : Desk) (t : ℕ) (k : Move) → FitsMove us more d (Some (record { place = t; what = k })) → (s : PlaceSince) → is_behind more s.waits ≡ true →
    is_behind more (moved us k s).waits ≡ true
behind_moved us more d t (calls None) fits s is = is
behind_moved us more d t wakes fits s is = refl
behind_moved us more d t (calls (Some x)) fits s is =
    let fit : (more ≡ us) × ((0 < length (updates_at us x.place)) × (value_of d x.place ≡ last_of (updates_at us x.place))) = fits x refl in
    rw fit.0 (lt-ltb (length (updates_at us x.place) - 1) (length (updates_at us x.place)) (omega (arith, fit.1.0)))

places_moved : (us more : List (List ℕ)) (d : Desk) (o : Option (At Move)) (places : List PlaceSince) → FitsMove us more d o →
    map (place_from more) (changed_by (moved us) o places) ≡ changed_by (place_moved d) o (map (place_from more) places)
places_moved us more d None places fits = refl
places_moved us more d (Some m) places fits = map_changed (place_from more) (moved us m.what) (place_moved d m.what) m.place places (place_moves us more d m.place m.what fits)

all_moved : (us more : List (List ℕ)) (d : Desk) (o : Option (At Move)) (places : List PlaceSince) → FitsMove us more d o → list_all (λ s. is_behind more s.waits) places ≡ true →
    list_all (λ s. is_behind more s.waits) (changed_by (moved us) o places) ≡ true
all_moved us more d None places fits behind = behind
all_moved us more d (Some m) places fits behind = all_changed (λ s. is_behind more s.waits) (moved us m.what) m.place places behind (behind_moved us more d m.place m.what fits)

-- the machine after an event

changed_twice : {A : Type 0} (f g : A → A) (k : ℕ) (xs : List A) → changed_at g k (changed_at f k xs) ≡ changed_at (λ x. g (f x)) k xs
changed_twice f g k [] = refl
changed_twice f g zero (x ∷ xs) = refl
changed_twice f g (suc k) (x ∷ xs) = ap (λ ys. x ∷ ys) (changed_twice f g k xs)

counted_wait : (d : Desk) (t : ℕ) (o : Option (At ℕ)) (ps : List Place) → changed_at one_call_more t (waiting_places d t o ps) ≡ changed_at (place_moved d (calls o)) t ps
counted_wait d t None ps = refl
counted_wait d t (Some x) ps = changed_twice (begins_wait (value_of d x.place) x.place x.what) one_call_more t ps

operation_threads : (d : Desk) (o : Option Operation) → (desk_after_operation d o).threads ≡ marked_places (operation_sets o) d.threads
operation_threads d None = refl
operation_threads d (Some (operation.Execute cs)) = refl
operation_threads d (Some (operation.Signal f v)) = refl

operation_fences : (d : Desk) (o : Option Operation) → (desk_after_operation d o).fences ≡ changed_by (λ v _. v) (operation_sets o) d.fences
operation_fences d None = refl
operation_fences d (Some (operation.Execute cs)) = refl
operation_fences d (Some (operation.Signal f v)) = refl

-- the threads' places after an event
pub threads_after : (w : World) (s : State) (e : Event) →
    (after w s e).desk.threads ≡ changed_by (place_moved s.desk) (event_moves w s.desk e) (marked_places (event_sets w s.desk e) s.desk.threads)
threads_after w s (event.Call t c r) = counted_wait s.desk t.0 (done w s.desk.lists c).waits (marked_places (done w s.desk.lists c).sets s.desk.threads)
threads_after w s (event.Awake t) = refl
threads_after w s (event.Queue q) = operation_threads (dropped s.desk q.0) (head_of s.desk q.0)

fences_after : (w : World) (s : State) (e : Event) → (after w s e).desk.fences ≡ changed_by (λ v _. v) (event_sets w s.desk e) s.desk.fences
fences_after w s (event.Call t c r) = refl
fences_after w s (event.Awake t) = refl
fences_after w s (event.Queue q) = operation_fences (dropped s.desk q.0) (head_of s.desk q.0)

lasts_after : (o : Option (At ℕ)) (us : List (List ℕ)) → changed_by (λ v _. v) o (map last_of us) ≡ map last_of (changed_by with_one o us)
lasts_after None us = refl
lasts_after (Some x) us = sym (map_changed last_of (with_one x.what) (λ _. x.what) x.place us (λ xs. last_more xs x.what))

filled_after : (o : Option (At ℕ)) (us : List (List ℕ)) → list_all (λ xs. nat_lt 0 (length xs)) us ≡ true → list_all (λ xs. nat_lt 0 (length xs)) (changed_by with_one o us) ≡ true
filled_after None us filled = filled
filled_after (Some x) us filled =
    all_changed (λ xs. nat_lt 0 (length xs)) (with_one x.what) x.place us filled (λ xs is. lt-ltb 0 (length (xs ++ x.what ∷ [])) (omega (arith, length-append xs (x.what ∷ []))))

-- what an event needs: a call names objects of the world
abbrev IsNamedEvent : World → Event → Type 0
IsNamedEvent w (event.Call t c r) = is_named w c ≡ true
IsNamedEvent w (event.Awake t) = Unit {0}
IsNamedEvent w (event.Queue q) = Unit {0}

calls_inj : (a b : Option (At ℕ)) → calls a ≡ calls b → a ≡ b
calls_inj a b e = grind arith

event_fits : (w : World) (p : Past) (e : Event) → IsRight p → length p.updates ≡ length w.fences → IsNamedEvent w e →
    FitsMove p.updates (changed_by with_one (event_sets w p.state.desk e) p.updates) p.state.desk (event_moves w p.state.desk e)
event_fits w p (event.Queue q) right long named = tt
event_fits w p (event.Awake t) right long named = λ x is. absurd (cc)
event_fits w p (event.Call t c r) right long named = λ x is.
    let lists : List Listed = p.state.desk.lists in
    let wait : c ≡ call.HostWait (record { 0 = x.place }) x.what =
    is_wait c x (unless_some (does c).waits (refusal_by w lists c) x (calls_inj (done w lists c).waits (Some x) is)) in
    let fence : x.place < length p.updates = omega (arith, long, ltb-true x.place (length w.fences) (subst (λ k. is_named w k ≡ true) wait named)) in (
      ap (λ k. changed_by with_one (done w lists k).sets p.updates) wait,
      (
        some_at p.updates x.place right.filled fence,
        ap (λ vs. elim (slice_get vs x.place) [ None ↦ 0 | Some v ↦ v ]) right.values ∙ value_is p.updates x.place fence,
      ),
    )

-- an event keeps the past right
right_after : (w : World) (p : Past) (e : Event) → IsRight p → length p.updates ≡ length w.fences → IsNamedEvent w e → IsRight (after_past w p e)
right_after w p e right long named =
    let d : Desk = p.state.desk in
    let us : List (List ℕ) = p.updates in
    let more : List (List ℕ) = changed_by with_one (event_sets w d e) us in
    let fits : FitsMove us more d (event_moves w d e) = event_fits w p e right long named in
    record {
      threads = threads_after w p.state e ∙ ap (λ ps. changed_by (place_moved d) (event_moves w d e) (marked_places (event_sets w d e) ps)) right.threads
          ∙ ap (changed_by (place_moved d) (event_moves w d e)) (sym (places_marked us (event_sets w d e) p.places right.behind))
          ∙ sym (places_moved us more d (event_moves w d e) p.places fits);
      behind = all_moved us more d (event_moves w d e) p.places fits
          (all_on (λ s. is_behind us s.waits) (λ s. is_behind more s.waits) p.places (λ s is. still_behind us (event_sets w d e) s.waits is) right.behind);
      values = fences_after w p.state e ∙ ap (changed_by (λ v _. v) (event_sets w d e)) right.values ∙ lasts_after (event_sets w d e) us;
      filled = filled_after (event_sets w d e) us right.filled;
    }

-- a run

places_open : {A : Type 0} (us : List (List ℕ)) (scripts : List A) → map (λ _. opening_place) scripts ≡ map (place_from us) (map (λ _. first_place) scripts)
places_open us [] = refl
places_open us (x ∷ xs) = ap (λ ys. opening_place ∷ ys) (places_open us xs)

behind_open : {A : Type 0} (us : List (List ℕ)) (scripts : List A) → list_all (λ s. is_behind us s.waits) (map (λ _. first_place) scripts) ≡ true
behind_open us [] = refl
behind_open us (x ∷ xs) = behind_open us xs

values_open : (vs : List ℕ) → vs ≡ map last_of (map (λ v. v ∷ []) vs)
values_open [] = refl
values_open (v ∷ vs) = ap (λ xs. v ∷ xs) (values_open vs)

filled_open : (vs : List ℕ) → list_all (λ xs. nat_lt 0 (length xs)) (map (λ v. v ∷ []) vs) ≡ true
filled_open [] = refl
filled_open (v ∷ vs) = filled_open vs

event_named : (w : World) (s : State) (e : Event) → IsWorld w → May SameButWords w s e → IsNamedEvent w e
event_named w s (event.Call t c r) world may = next_is_named w s.desk t.0 c world may.1
event_named w s (event.Awake t) world may = tt
event_named w s (event.Queue q) world may = tt

pub pasts_are_right : PastsAreRight
pasts_are_right w h world run = run_induction (λ es. IsRight (past w es) × ((past w es).state ≡ state_after w es)) w
    (record { threads = places_open (first_past w).updates w.scripts; behind = behind_open (first_past w).updates w.scripts; values = values_open w.fences; filled = filled_open w.fences }, refl)
    (λ es e before is may.
    let long : length (past w es).updates ≡ length w.fences =
    sym (length-map (past w es).updates last_of) ∙ ap length (sym is.0.values) ∙ ap (λ (s : State). length s.desk.fences) is.1 ∙ (run_has_shape w es).desk.fences in
    rw (past_append w es e, state_after_append w es e)
    (right_after w (past w es) e is.0 long (event_named w (state_after w es) e world may), ap (λ s. after w s e) is.1))
    h run
