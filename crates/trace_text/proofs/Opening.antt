-- The objects, the threads and the calls of a sound value, the first line and the last may stand in lines.
use Rattle.trace_text.proofs.Vocabulary.{ℕ, ◌≡◌, ◌==◌, ◌&&◌, ◌||◌, ◌∙◌, not, nat_lt, Bool, true, false, List, [], ◌∷◌, length, None, is_some, refl, sym, ap, subst, arith, if◌then◌else◌, lookup, bytes_eq, and_from, le-ltb, Call, is_named, IsGoodLine, is_sound_line, is_named_line, pass, Class, Item, Header, Declares, Starts, Calls, Ends, Declared, Reading, item_formed, form_row, kind_of, count_of, is_one_too_many, KnownNames, known_of, opening, is_second, is_header, fault_of_place, is_over, naming_of, is_call_too_many, is_fit_name, is_sound_object, is_sound_call, same_kind, objects_of}
use Rattle.line_forms.specs.declared.kind.Kind.TheVariants as kind
use Rattle.trace_lines.specs.declared.form.Class.TheVariants as class
use Rattle.trace_text.proofs.Fitting.{Fits, in_place, item_good, call_good}
use Rattle.trace_text.proofs.NamesBack.{AreNamed}
use Rattle.trace_text.proofs.Own.{item_class, object_class, own, object_wide, counts_in, named_same}
use Rattle.trace_text.proofs.Says.{is_new}
use Rattle.trace_text.proofs.Sound.{known_in, object_place}

-- the first line of all
pub header_fits : (known : KnownNames) → Fits opening known Header
unfolding fault_of_place is_over
header_fits known = record {
  open_yet = refl;
  place = refl;
  timely = (own Header).timely known refl;
  good = item_good opening known Header refl refl refl;
  within = refl;
}

-- a line may come behind the first and before the last
pub record IsOpen (r : Reading) : Type 0 where
  pub begun : r.begun ≡ true
  pub open_yet : r.ended ≡ false

-- what begun stands behind the first line
pub has_begun : (r : Reading) (t : Bool) → r.begun ≡ true → (r.begun || t) ≡ true
has_begun r t is = rw is refl

-- the last line
pub end_fits : (r : Reading) (known : KnownNames) → IsOpen r → Fits r known Ends
unfolding is_over
end_fits r known may = record {
  open_yet = may.open_yet;
  place = in_place r class.End refl refl (has_begun r false may.begun);
  timely = (own Ends).timely known refl;
  good = item_good r known Ends refl refl refl;
  within = refl;
}

-- a new name, before the first thread
pub record CanName (r : Reading) (n : List ℕ) : Type 0 where
  pub may : IsOpen r
  pub none : length r.scripts ≡ 0
  pub fit : is_fit_name n ≡ true
  pub fresh : lookup (bytes_eq n) r.names ≡ None

-- it is new
can_new : (r : Reading) (n : List ℕ) → CanName r n → pass (is_new r.names n ∷ []) ≡ true
can_new r n can =
    let free : not (is_some (lookup (bytes_eq n) r.names)) ≡ true = rw (can.fresh) refl in
    and_from (is_new r.names n) true (and_from (is_fit_name n) (not (is_some (lookup (bytes_eq n) r.names))) can.fit free) refl

-- no thread came
no_thread : (r : Reading) → length r.scripts ≡ 0 → nat_lt 0 (length r.scripts) ≡ false
no_thread r none = le-ltb 0 (length r.scripts) (omega (arith, none))

-- the first thread
pub thread_fits : (r : Reading) (known : KnownNames) (n : List ℕ) → CanName r n → Fits r known (Starts n)
unfolding is_over
thread_fits r known n can = record {
  open_yet = can.may.open_yet;
  place = in_place r class.Thread (no_thread r can.none) refl (has_begun r false can.may.begun);
  timely = (own (Starts n)).timely known refl;
  good = item_good r known (Starts n) refl refl (can_new r n can);
  within = rw (can.none) refl;
}

-- a declaration of an object
pub object_fits : (r : Reading) (known : KnownNames) (n : List ℕ) → CanName r n → (d : Declared) → is_sound_object d ≡ true →
    (same_kind kind.Queue (kind_of d) ≡ true → count_of kind.Queue r.declared ≡ 0) → is_one_too_many r.declared d ≡ false → Fits r known (Declares n d)
unfolding is_over
object_fits r known n can d good first room = record {
  open_yet = can.may.open_yet;
  place = in_place r (object_class d) (by_second (same_kind kind.Queue (kind_of d)) first) (object_place r d ∙ no_thread r can.none) (begun (same_kind kind.Queue (kind_of d)));
  timely = (own (Declares n d)).timely known good;
  good = item_good r known (Declares n d) refl (object_wide n d good) (can_new r n can);
  within = room;
}
  where
    by_second : (t : Bool) → (t ≡ true → count_of kind.Queue r.declared ≡ 0) → is_second r (if t then class.Queue else class.Declaration) ≡ false
    by_second true first = le-ltb 0 (count_of kind.Queue r.declared) (omega (arith, first refl))
    by_second false first = refl

    begun : (t : Bool) → (r.begun || is_header (if t then class.Queue else class.Declaration)) ≡ true
    begun t = rw (can.may.begun) refl

-- a call of the last thread
pub call_fits : (r : Reading) → IsOpen r → (length r.scripts == 0) ≡ false → (ss : List (List Call)) (c : Call) → AreNamed r.names r.declared →
    is_sound_call c ≡ true → is_named (record (objects_of r.declared) { scripts = ss }) c ≡ true → is_call_too_many r.scripts c ≡ false →
    Fits r (known_in r) (Calls c)
unfolding is_over
call_fits r may some ss c named good ids room = record {
  open_yet = may.open_yet;
  place = in_place r class.Call refl some (has_begun r false may.begun);
  timely = (own (Calls c)).timely (known_in r) refl;
  good = call_good r c ss named good (sym (named_same (record (objects_of r.declared) { scripts = ss }) (known_of (known_in r)) c) ∙ ids);
  within = room;
}
