-- What is read is sound, line by line.
use Rattle.trace_text.proofs.Vocabulary.{ℕ, ◌≡◌, ◌<◌, ◌≤◌, ◌+◌, ◌==◌, ◌&&◌, ◌||◌, ◌∙◌, nat_le, nat_lt, Bool, true, false, List, [], ◌∷◌, ◌++◌, length, map, Option, Some, None, Ok, refl, sym, ap, subst, arith, append-nil, append_assoc, if◌then◌else◌, list_all, lookup, bytes_eq, and_from, lt-ltb, le-leb, ltb-true, ltb-false, eqb-false, nat_tests, map_push, length-map, slice_get_within, Call, is_named, insert_entry, is_name, Cause, Kind, AreCalled, read_row, line_kept, AreShortNames, pass, pass_one, sound_read, named_read, new_read, Class, Item, Header, Declares, Starts, Calls, Ends, Declared, Queue, Reading, Thing, item_formed, item_words, form_row, kind_of, count_of, next_thing, is_one_too_many, KnownNames, names_of_kind, known_names, known_of, is_later, name_at, is_second, is_misplaced, is_header, fault_of_place, is_over, with_item, has_queue, has_thread, object_named, naming_of, is_call_too_many, not, is_some, and_parts, is_fit_name, is_sound_object, is_sound_call, IsSound, Names, same_kind, value_in, world_of_value, objects_of}
use Rattle.line_forms.specs.declared.cause.Cause.TheVariants as cause
use Rattle.line_forms.specs.declared.kind.Kind.TheVariants as kind
use Rattle.trace_lines.specs.declared.form.Class.TheVariants as class
use Rattle.trace_text.proofs.Naming.{names_in, insert_new, not_any, names_count, ArePlaced, placed_object, placed_thread}
use Rattle.trace_text.proofs.Own.{item_news, object_class, item_class, is_timely, own, object_built, counts_in, named_same}
use Rattle.trace_text.proofs.Passing.{no_cause}
use Rattle.trace_text.proofs.Says.{IsNew, IsNameOf, number_says, new_says, is_new, new_read as new_passes, new_facts, name_there, short_fit}
use Rattle.trace_text.proofs.SoundValues.{sound_object, sound_thread, sound_call}
use Rattle.trace_text.proofs.SoundWorlds.{queues_are, fences_are, resources_are, allocators_are, lists_are}

-- what was read is sound: it says a sound value, and each name of an object names that object by its kind and number
pub record IsKept (r : Reading) : Type 0 where
  pub sound : IsSound (value_in r)
  pub placed : ArePlaced r.names r.declared

-- names are as many as objects and threads
pub names_long : (r : Reading) → IsKept r → length r.names ≡ length r.declared + length r.scripts
names_long r kept = sym (length-map r.names (λ (e : List ℕ × Thing). e.0)) ∙ kept.sound.named_all

-- what was read with one more name
pub named : (r : Reading) (n : List ℕ) (t : Thing) → IsNew r.names n → insert_entry bytes_eq r.names n t ≡ r.names ++ (n, t) ∷ []
named r n t new = insert_new r.names n t new.fresh

-- one more object
kept_object : (r : Reading) (n : List ℕ) (d : Declared) → IsKept r → IsNew r.names n → length r.scripts ≡ 0 → is_sound_object d ≡ true →
    is_one_too_many r.declared d ≡ false → (same_kind kind.Queue (kind_of d) ≡ true → count_of kind.Queue r.declared ≡ 0) →
    IsKept (with_item r (Declares n d))
unfolding with_item
kept_object r n d kept new none good room queues =
    let t = next_thing r.declared d in
    let more : IsKept (record r { names = r.names ++ (n, t) ∷ []; declared = r.declared ++ d ∷ [] }) = record {
      sound = subst (λ ns. IsSound (record { names = ns; declared = r.declared ++ d ∷ []; scripts = r.scripts }))
          (sym (map_push (λ (e : List ℕ × Thing). e.0) r.names (n, t)))
          (sound_object (value_in r) n d kept.sound none new.fit (not_any r.names n new.fresh) good room queues);
      placed = placed_object r.names r.declared n d (omega (arith, names_long r kept, none)) kept.placed;
    } in
    subst (λ names. IsKept (record r { names = names; declared = r.declared ++ d ∷ [] })) (sym (named r n t new)) more

-- one more thread
kept_thread : (r : Reading) (n : List ℕ) → IsKept r → IsNew r.names n → length r.scripts ≡ 0 → IsKept (with_item r (Starts n))
unfolding with_item
kept_thread r n kept new none =
    let t : Thing = record { kind = kind.Thread; number = length r.scripts } in
    let more : IsKept (record r { names = r.names ++ (n, t) ∷ []; scripts = r.scripts ++ [] ∷ [] }) = record {
      sound = subst (λ ns. IsSound (record { names = ns; declared = r.declared; scripts = r.scripts ++ [] ∷ [] }))
          (sym (map_push (λ (e : List ℕ × Thing). e.0) r.names (n, t)))
          (sound_thread (value_in r) n kept.sound none new.fit (not_any r.names n new.fresh));
      placed = placed_thread r.names r.declared n (length r.scripts) (omega (arith, names_long r kept)) kept.placed;
    } in
    subst (λ names. IsKept (record r { names = names; scripts = r.scripts ++ [] ∷ [] })) (sym (named r n t new)) more

-- one more call
kept_call : (r : Reading) (c : Call) → IsKept r → 0 < length r.scripts → is_sound_call c ≡ true → is_named (world_of_value (value_in r)) c ≡ true →
    is_call_too_many r.scripts c ≡ false → IsKept (with_item r (Calls c))
unfolding with_item
kept_call r c kept some good names room = record {
  sound = sound_call (value_in r) c kept.sound some good names room;
  placed = kept.placed;
}

-- the names of what was read, by kind
abbrev pub known_in : Reading → KnownNames
known_in r = known_names (names_in r.names) r.declared

-- a word that names an object names a thing of that kind, which is no thread
record IsObject (names : Names) (k : Kind) (i : ℕ) (w : List ℕ) : Type 0 where
  named : IsNameOf names k i w
  apart : same_kind k kind.Thread ≡ false

is_object_named : (names : Names) (k : Kind) (w : List ℕ) (i : ℕ) → object_named names k w ≡ Ok i → IsObject names k i w
is_object_named names kind.Thread w i e = cc
is_object_named names k w i e = record { named = number_says k names w i e; apart = refl }

-- the names of a kind, and how many things of it there are
known_kind : (ns : List (List ℕ)) (ds : List Declared) (k : Kind) (i : ℕ) → known_of (known_names ns ds) k i ≡ name_at (names_of_kind k ns ds) i
known_kind ns ds kind.Queue i = refl
known_kind ns ds _ i = refl

pub counts_are : (ds : List Declared) (ss : List (List Call)) (k : Kind) → same_kind k kind.Thread ≡ false →
    counts_in (record (objects_of ds) { scripts = ss }) k ≡ count_of k ds
counts_are ds ss kind.Queue apart = queues_are ds
counts_are ds ss kind.Fence apart = fences_are ds
counts_are ds ss kind.Resource apart = resources_are ds
counts_are ds ss kind.Allocator apart = allocators_are ds
counts_are ds ss kind.List apart = lists_are ds
counts_are ds ss kind.Thread apart = cc

-- the name of a thing is the word that named it, and a new name is its own word
pub are_called : (names : Names) (ds : List Declared) → ArePlaced names ds → AreCalled (naming_of names) (known_of (known_names (names_in names) ds))
are_called names ds placed = record { things = things; new = λ w m e. (new_says names w m e).0 }
  where
    things : (k : Kind) (w : List ℕ) (i : ℕ) → object_named names k w ≡ Ok i → known_of (known_names (names_in names) ds) k i ≡ w
    things k w i e =
        let is = is_object_named names k w i e in
        known_kind (names_in names) ds k i
        ∙ name_there (names_of_kind k (names_in names) ds) i w (placed k i w is.apart is.named)

-- names are spelled well, and short
pub short_names : (names : Names) → AreShortNames (naming_of names)
short_names names = record {
  things = λ k w i e. ((is_object_named names k w i e).named.spelled, (is_object_named names k w i e).named.short);
  new = λ w m e. short_fit w (and_parts (is_fit_name w) (not (is_some (lookup (bytes_eq w) names))) (new_says names w m e).1).0;
}

-- a number that a word names is one of an object
all_below : (r : Reading) → IsKept r → (k : Kind) (w : List ℕ) (i : ℕ) → object_named r.names k w ≡ Ok i →
    nat_lt i (counts_in (world_of_value (value_in r)) k) ≡ true
all_below r kept k w i e =
    let is = is_object_named r.names k w i e in
    let within = slice_get_within (names_of_kind k (names_in r.names) r.declared) i w (kept.placed k i w is.apart is.named) in
    let counts = names_count k (names_in r.names) r.declared (omega (arith, kept.sound.named_all)) in
    lt-ltb i (counts_in (world_of_value (value_in r)) k) (omega (arith, within, counts, counts_are r.declared r.scripts k is.apart))

-- where a line may stand
pub record Stands (r : Reading) (c : Class) : Type 0 where
  pub first : is_second r c ≡ false
  pub placed : is_misplaced r c ≡ false
  pub begun : (r.begun || is_header c) ≡ true

-- a line that has no fault of place stands where it may
pub stands : (r : Reading) (c : Class) → fault_of_place r c ≡ None → Stands r c
unfolding fault_of_place
stands r c e =
    let start : Option Cause = if r.begun || is_header c then None else Some cause.Form in
    let first = no_cause (is_second r c) cause.Later (if is_misplaced r c then Some cause.Order else start) e in
    let placed = no_cause (is_misplaced r c) cause.Order start first.1 in
    record { first = first.0; placed = placed.0; begun = begun (r.begun || is_header c) placed.1 }
  where
    begun : (t : Bool) → (if t then None else Some cause.Form) ≡ None → t ≡ true
    begun true e = refl
    begun false e = cc

-- a declaration stands before the threads, a call behind one
pub no_threads : (r : Reading) → nat_lt 0 (length r.scripts) ≡ false → length r.scripts ≡ 0
no_threads r is = omega (arith, ltb-false 0 (length r.scripts) is)

-- a call stands behind a thread
pub some_threads : (r : Reading) → (length r.scripts == 0) ≡ false → 0 < length r.scripts
some_threads r is = let none = eqb-false (length r.scripts) 0 is in grind (arith, nat_tests)

-- an object stands before the threads, and a queue is the first
pub object_place : (r : Reading) (d : Declared) → is_misplaced r (object_class d) ≡ nat_lt 0 (length r.scripts)
object_place r (Queue t) = refl
object_place r _ = refl

object_first : (r : Reading) (d : Declared) → is_second r (object_class d) ≡ false → same_kind kind.Queue (kind_of d) ≡ true → count_of kind.Queue r.declared ≡ 0
object_first r (Queue t) first is = omega (arith, ltb-false 0 (count_of kind.Queue r.declared) first)
object_first r _ first is = cc

-- what a line adds is kept
module _ (r : Reading) (kept : IsKept r) where
  -- an item whose line was read
  module _ (ws : List (List ℕ)) (in_time : is_later ws ≡ false) where
    -- an item's new name is new
    pub news_pass : (i : Item) → read_row (naming_of r.names) (form_row (item_formed i).form) ws ≡ Ok (item_formed i).line →
        pass (item_news (is_new r.names) i) ≡ true
    news_pass i reads =
        subst (λ bs. pass bs ≡ true) ((own i).news (is_new r.names))
        (new_read (naming_of r.names) (is_new r.names) (λ w m e. new_passes r.names w m e) (form_row (item_formed i).form) ws (item_formed i).line reads)

    -- its types and places do not come later
    pub read_timely : (i : Item) → read_row (naming_of r.names) (form_row (item_formed i).form) ws ≡ Ok (item_formed i).line → is_timely i ≡ true
    read_timely (Declares n d) reads =
        let i = Declares n d in
        let same : item_words (known_in r) i ≡ ws =
        line_kept (naming_of r.names) (known_of (known_in r)) (are_called r.names r.declared kept.placed) (form_row (item_formed i).form) (item_formed i).line ws
        ((own i).kept refl) reads in
        object_built (known_in r) n d (ap is_later same ∙ in_time)
        (sound_read (naming_of r.names) (form_row (item_formed i).form) ws (item_formed i).line reads)
    read_timely _ reads = refl

    pub kept_item : (i : Item) → read_row (naming_of r.names) (form_row (item_formed i).form) ws ≡ Ok (item_formed i).line → Stands r (item_class i) →
        is_over r i ≡ false → IsKept (with_item r i)
    unfolding is_over with_item
    kept_item (Declares n d) reads at within =
        let new = new_facts r.names n (pass_one (is_new r.names n) (news_pass (Declares n d) reads)) in
        kept_object r n d kept new (no_threads r (sym (object_place r d) ∙ at.placed)) (read_timely (Declares n d) reads) within
        (λ is. object_first r d at.first is)
    kept_item (Starts n) reads at within =
        let new = new_facts r.names n (pass_one (is_new r.names n) (news_pass (Starts n) reads)) in kept_thread r n kept new (no_threads r at.first)
    kept_item (Calls c) reads at within =
        let w = world_of_value (value_in r) in
        let row = form_row (item_formed (Calls c)).form in
        let good = sound_read (naming_of r.names) row ws (item_formed (Calls c)).line reads in
        let names = named_read (naming_of r.names) (counts_in w) (known_of (known_in r)) (are_called r.names r.declared kept.placed) (all_below r kept) row ws
        (item_formed (Calls c)).line reads in
        kept_call r c kept (some_threads r at.placed) good (named_same w (known_of (known_in r)) c ∙ names) within
    kept_item _ reads at within = record { sound = kept.sound; placed = kept.placed }
