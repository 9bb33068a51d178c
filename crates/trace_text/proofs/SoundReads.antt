-- From what was read, the lines of the rest of a sound value give that value: the objects and the thread.
use Rattle.trace_text.proofs.Vocabulary.{ℕ, ◌≡◌, ◌≤◌, ◌+◌, ◌&&◌, ◌∙◌, nat_le, nat_lt, Bool, true, false, List, [], ◌∷◌, ◌++◌, length, map, drop, refl, sym, ap, subst, arith, append_assoc, append-nil, length-append, if◌then◌else◌, list_all, bytes_eq, and_parts, or_from, lt-leb, le-ltb, map_push, length-map, list_all-append, sum_by-append, sum_by-cons, Call, Item, Header, Declares, Starts, Calls, Ends, Declared, Reading, Kind, Thing, items_of, object_items, thread_items, kind_of, count_of, most_of, words_of_object, words_of_all, next_thing, is_one_too_many, known_names, opening, with_item, is_fit_name, is_sound_object, IsSound, same_kind, Value}
use Rattle.std.specs.List.{IsDistinct}
use Rattle.line_forms.specs.declared.kind.Kind.TheVariants as kind
use Rattle.trace_text.proofs.NamesBack.{AreNamed, fresh_among, named_object, named_thread}
use Rattle.trace_text.proofs.Naming.{names_in, insert_new}
use Rattle.trace_text.proofs.Says.{kind_same}
use Rattle.trace_text.proofs.Reaching.{Reaches, reach_item, reach_end, InCalls, reach_calls}
use Rattle.trace_text.proofs.Opening.{IsOpen, header_fits, CanName, object_fits, thread_fits}

-- what all items pass, one in their midst passes
one_passes : {A : Type 0} (p : A → Bool) (xs ys all : List A) (x : A) → xs ++ x ∷ ys ≡ all → list_all p all ≡ true → p x ≡ true
one_passes p xs ys all x is pass =
    let whole : (list_all p xs && list_all p (x ∷ ys)) ≡ true = sym (list_all-append p xs (x ∷ ys)) ∙ (ap (list_all p) is ∙ pass) in
    (and_parts (p x) (list_all p ys) (and_parts (list_all p xs) (list_all p (x ∷ ys)) whole).1).0

-- how many of a kind there are with one in their midst
count_midst : (k : Kind) (before ds all : List Declared) (d : Declared) → before ++ d ∷ ds ≡ all →
    count_of k before + (if same_kind k (kind_of d) then 1 else 0) ≤ count_of k all
count_midst k before ds all d is =
    let one : Declared → ℕ = λ x. if same_kind k (kind_of x) then 1 else 0 in
    let whole = ap (count_of k) is in
    omega (arith, whole, sum_by-append one before (d ∷ ds), sum_by-cons one d ds)

-- the next object passes no limit
object_room : (before ds all : List Declared) (d : Declared) → before ++ d ∷ ds ≡ all → count_of (kind_of d) all ≤ most_of (kind_of d) →
    words_of_all all ≤ 1048576 → is_one_too_many before d ≡ false
unfolding is_one_too_many
object_room before ds all d is few_objects few_words =
    let counts : count_of (kind_of d) before + 1 ≤ count_of (kind_of d) all =
    rw (kind_same (kind_of d)) at (count_midst (kind_of d) before ds all d is) in
    let words = ap words_of_all is in
    let split = sum_by-append words_of_object before (d ∷ ds) in
    let first = sum_by-cons words_of_object d ds in
    or_from (nat_le (most_of (kind_of d)) (count_of (kind_of d) before)) (nat_lt 1048576 (words_of_all before + words_of_object d))
    (lt-leb (most_of (kind_of d)) (count_of (kind_of d) before) (omega (arith, counts, few_objects)))
    (le-ltb 1048576 (words_of_all before + words_of_object d) (omega (arith, words, split, first, few_words)))

-- no thread came yet, and names and objects of a value are left
record InObjects (v : Value) (ns : List (List ℕ)) (ds : List Declared) (r : Reading) : Type 0 where
  may : IsOpen r
  named : AreNamed r.names r.declared
  long : length r.names ≡ length r.declared
  none : r.scripts ≡ []
  names : names_in r.names ++ ns ≡ v.names
  objects : r.declared ++ ds ≡ v.declared

-- the next name is new
can_name : (v : Value) → IsSound v → (n : List ℕ) (ns : List (List ℕ)) (ds : List Declared) (r : Reading) → InObjects v (n ∷ ns) ds r → CanName r n
can_name v sound n ns ds r at = record {
  may = at.may;
  none = ap length at.none;
  fit = one_passes is_fit_name (names_in r.names) ns v.names n at.names sound.spelled;
  fresh = fresh_among r.names n ns (subst (IsDistinct bytes_eq) (sym at.names) sound.different);
}

-- one more object
object_in : (v : Value) (n : List ℕ) (ns : List (List ℕ)) (d : Declared) (ds : List Declared) (r : Reading) → CanName r n →
    InObjects v (n ∷ ns) (d ∷ ds) r → InObjects v ns ds (with_item r (Declares n d))
unfolding with_item
object_in v n ns d ds r can at =
    let t = next_thing r.declared d in
    let more : InObjects v ns ds (record r { names = r.names ++ (n, t) ∷ []; declared = r.declared ++ d ∷ [] }) = record {
      may = record { begun = at.may.begun; open_yet = at.may.open_yet };
      named = named_object r.names r.declared n d at.long can.fit can.fresh at.named;
      long = omega (arith, length-append r.names ((n, t) ∷ []), length-append r.declared (d ∷ []), at.long);
      none = at.none;
      names = ap (λ ms. ms ++ ns) (map_push (λ (e : List ℕ × Thing). e.0) r.names (n, t)) ∙ (append_assoc (names_in r.names) (n ∷ []) ns ∙ at.names);
      objects = append_assoc r.declared (d ∷ []) ds ∙ at.objects;
    } in
    subst (λ names. InObjects v ns ds (record r { names = names; declared = r.declared ++ d ∷ [] })) (sym (insert_new r.names n t can.fresh)) more

-- the first thread
thread_in : (v : Value) (n : List ℕ) (cs : List Call) (r : Reading) → CanName r n → InObjects v (n ∷ []) [] r → v.scripts ≡ cs ∷ [] →
    InCalls v [] cs (with_item r (Starts n))
unfolding with_item
thread_in v n cs r can at scripts =
    let t : Thing = record { kind = kind.Thread; number = length r.scripts } in
    let more : InCalls v [] cs (record r { names = r.names ++ (n, t) ∷ []; scripts = r.scripts ++ [] ∷ [] }) = record {
      may = record { begun = at.may.begun; open_yet = at.may.open_yet };
      named = named_thread r.names r.declared n t (omega (arith, at.long)) at.named;
      names = map_push (λ (e : List ℕ × Thing). e.0) r.names (n, t) ∙ at.names;
      objects = sym (append-nil r.declared) ∙ at.objects;
      before = ap (λ ss. ss ++ [] ∷ []) at.none;
      all = scripts;
    } in
    subst (λ names. InCalls v [] cs (record r { names = names; scripts = r.scripts ++ [] ∷ [] })) (sym (insert_new r.names n t can.fresh)) more

-- as many names are left as objects and threads
names_left : (v : Value) → IsSound v → (ns : List (List ℕ)) (ds : List Declared) (r : Reading) → InObjects v ns ds r →
    length ns ≡ length ds + length v.scripts
names_left v sound ns ds r at =
    omega (
      arith,
      ap length at.names,
      ap length at.objects,
      length-append (names_in r.names) ns,
      length-append r.declared ds,
      length-map r.names (λ (e : List ℕ × Thing). e.0),
      at.long,
      sound.named_all,
    )

-- the lines of what is left
abbrev items_left : Value → List (List ℕ) → List Declared → List Item
items_left v ns ds = object_items ns ds ++ (thread_items (drop (length ds) ns) v.scripts ++ Ends ∷ [])

-- the lines of the only thread, where there is one, and the last line
reach_thread : (v : Value) → IsSound v → (ns : List (List ℕ)) (r : Reading) → InObjects v ns [] r → (ss : List (List Call)) → v.scripts ≡ ss →
    Reaches r (thread_items ns ss ++ Ends ∷ []) v
unfolding thread_items
reach_thread v sound [] r at [] is =
    let names : names_in r.names ≡ v.names = sym (append-nil (names_in r.names)) ∙ at.names in
    let objects : r.declared ≡ v.declared = sym (append-nil r.declared) ∙ at.objects in
    let scripts : r.scripts ≡ v.scripts = at.none ∙ sym is in
    reach_end r v at.may (rw (names, objects, scripts) refl)
reach_thread v sound (n ∷ ns) r at [] is = absurd (omega (arith, names_left v sound (n ∷ ns) [] r at, ap length is))
reach_thread v sound [] r at (cs ∷ []) is = absurd (omega (arith, names_left v sound [] [] r at, ap length is))
reach_thread v sound (n ∷ []) r at (cs ∷ []) is =
    let can = can_name v sound n [] [] r at in
    let same : (map Calls cs ++ []) ++ Ends ∷ [] ≡ map Calls cs ++ Ends ∷ [] = ap (λ items. items ++ Ends ∷ []) (append-nil (map Calls cs)) in
    reach_item r (Starts n) ((map Calls cs ++ []) ++ Ends ∷ []) v (thread_fits r (known_names v.names v.declared) n can)
    (subst (λ items. Reaches (with_item r (Starts n)) items v) (sym same)
    (reach_calls v sound cs [] (with_item r (Starts n)) (thread_in v n cs r can at is)))
reach_thread v sound (n ∷ m ∷ ns) r at (cs ∷ []) is = absurd (omega (arith, names_left v sound (n ∷ m ∷ ns) [] r at, ap length is))
reach_thread v sound ns r at (cs ∷ bs ∷ ss) is = absurd (omega (arith, ap length is, sound.few_threads))

-- the lines of the objects, and those behind them
reach_objects : (v : Value) → IsSound v → (ds : List Declared) (ns : List (List ℕ)) (r : Reading) → InObjects v ns ds r → Reaches r (items_left v ns ds) v
unfolding object_items
reach_objects v sound [] [] r at = reach_thread v sound [] r at v.scripts refl
reach_objects v sound [] (n ∷ ns) r at = reach_thread v sound (n ∷ ns) r at v.scripts refl
reach_objects v sound (d ∷ ds) [] r at = absurd (omega (arith, names_left v sound [] (d ∷ ds) r at))
reach_objects v sound (d ∷ ds) (n ∷ ns) r at =
    let can = can_name v sound n ns (d ∷ ds) r at in
    let good = one_passes is_sound_object r.declared ds v.declared d at.objects sound.objects in
    let first : same_kind kind.Queue (kind_of d) ≡ true → count_of kind.Queue r.declared ≡ 0 =
    λ is. omega (arith, rw is at (count_midst kind.Queue r.declared ds v.declared d at.objects), sound.few_queues) in
    let room = object_room r.declared ds v.declared d at.objects (sound.few_objects (kind_of d)) sound.few_words in
    reach_item r (Declares n d) (items_left v ns ds) v (object_fits r (known_names v.names v.declared) n can d good first room)
    (reach_objects v sound ds ns (with_item r (Declares n d)) (object_in v n ns d ds r can at))

-- nothing but the first line was read
start : (v : Value) → InObjects v v.names v.declared (with_item opening Header)
unfolding with_item
start v = record {
  may = record { begun = refl; open_yet = refl };
  named = λ k i below. absurd (omega arith);
  long = refl;
  none = refl;
  names = refl;
  objects = refl;
}

-- the items of a sound value may come one behind the other
pub sound_runs : (v : Value) → IsSound v → Reaches opening (items_of v) v
sound_runs v sound =
    reach_item opening Header (items_left v v.names v.declared) v (header_fits (known_names v.names v.declared))
    (reach_objects v sound v.declared v.names (with_item opening Header) (start v))
