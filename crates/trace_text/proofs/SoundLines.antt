-- What lines write is sound.
use Rattle.trace_text.proofs.Vocabulary.{ℕ, ◌≡◌, ◌⊎◌, inl, inr, Bool, true, List, [], ◌∷◌, ◌++◌, length, Result, Ok, Err, None, ◌∙◌, ap, refl, sym, subst, arith, lit≤, ∥∥₁_elim, list_all, le-leb, props, Call, World, IsWorld, Item, Header, Declares, Starts, Calls, Ends, Declared, Reading, Cause, Trace, class_of, opening, and_then, fault_of_place, with_item, known_names, seen, IsSound, with_line, Value, with_lines, IsWritten, objects_of, world_of_value}
use Rattle.std.specs.List.{IsDistinct}
use Rattle.d3d_machine.specs.World.{HasOneQueueAtMost}
use Rattle.trace_text.proofs.Fitting.{printed_line, short_again}
use Rattle.trace_text.proofs.Own.{item_class, own}
use Rattle.trace_text.proofs.Passing.{and_ok}
use Rattle.trace_text.proofs.PrintedLines.{IsShort, is_short_call, AreShortCalls}
use Rattle.trace_text.proofs.Sound.{IsKept, known_in, Stands, stands, no_threads, object_place, kept_item}
use Rattle.trace_text.proofs.SoundValues.{all_call}
use Rattle.trace_text.proofs.SoundWorlds.{sound_world, few_queues_of}
use Rattle.trace_text.proofs.Taking.{Takes, line_passes, item_reads}

-- lines that are read one by one keep what each line keeps
lines_keep : (P : Reading → Type 0) → ((r s : Reading) (line : List ℕ) → P r → with_line r line ≡ Ok s → P s) →
    (lines : List (List ℕ)) (r s : Reading) → P r → with_lines r lines ≡ Ok s → P s
unfolding with_lines
lines_keep P keeps [] r s p e = let same : r ≡ s = cc in subst P same p
lines_keep P keeps (line ∷ lines) r s p e =
    let step = and_ok (with_line r line) (λ u. with_lines u lines) s e in lines_keep P keeps lines step.0 s (keeps r step.0 line p step.1) step.2

-- an item that is taken stands where it may
takes_stands : (r s : Reading) (line : List ℕ) (t : Takes r line s) → Stands r (item_class t.others.item)
takes_stands r s line t =
    let read = item_reads r.names t.others.form t.ws t.others.item t.others.means in
    let class_is : class_of t.others.form ≡ item_class t.others.item = ap class_of read.form_is ∙ (own t.others.item).class_is in
    stands r (item_class t.others.item) (subst (λ c. fault_of_place r c ≡ None) class_is t.others.in_place)

-- a line of words keeps what is sound
words_kept : (r s : Reading) (line : List ℕ) → IsKept r → Takes r line s → IsKept s
words_kept r s line kept t =
    let taken = t.others in
    let read = item_reads r.names taken.form t.ws taken.item taken.means in
    subst IsKept taken.becomes (kept_item r kept t.ws taken.in_time taken.item read.reads (takes_stands r s line t) taken.within)

-- where no script is, no call is long
none_short : (p : Call → Bool) (ss : List (List Call)) → length ss ≡ 0 → list_all (λ s. list_all p s) ss ≡ true
none_short p [] none = refl
none_short p (s ∷ ss) none = absurd (omega (arith, none))

one_short : (p : Call → Bool) (ss : List (List Call)) → length ss ≡ 0 → list_all (λ s. list_all p s) (ss ++ [] ∷ []) ≡ true
one_short p [] none = refl
one_short p (s ∷ ss) none = absurd (omega (arith, none))

-- a line keeps what is sound
line_kept : (r s : Reading) (line : List ℕ) → IsKept r → with_line r line ≡ Ok s → IsKept s
line_kept r s line kept e =
    elim (line_passes r s line e).either [ inl same ↦ subst IsKept same kept | inr t ↦ words_kept r s line kept t ]

-- what was read is sound, and the lines of its calls are short
record IsShortKept (r : Reading) : Type 0 where
  kept : IsKept r
  short : AreShortCalls (known_in r) r.scripts

-- an item keeps the lines of calls short: before the first thread there are none, and behind it no name of an object comes
short_item : (r : Reading) (i : Item) → AreShortCalls (known_in r) r.scripts → Stands r (item_class i) → IsShort (printed_line (known_in r) i) →
    AreShortCalls (known_in (with_item r i)) (with_item r i).scripts
unfolding with_item
short_item r (Declares n d) short at line =
    none_short (is_short_call (known_in (with_item r (Declares n d)))) r.scripts (no_threads r (sym (object_place r d) ∙ at.placed))
short_item r (Starts n) short at line = one_short (is_short_call (known_in (with_item r (Starts n)))) r.scripts (no_threads r at.first)
short_item r (Calls c) short at line =
    all_call (is_short_call (known_in r)) r.scripts c short (le-leb (length (printed_line (known_in r) (Calls c))) 4096 line)
short_item r _ short at line = short

-- a line keeps them short
line_short_kept : (r s : Reading) (line : List ℕ) → IsShortKept r → with_line r line ≡ Ok s → IsShortKept s
line_short_kept r s line p e = record {
  kept = line_kept r s line p.kept e;
  short = elim (line_passes r s line e).either [
    | inl same ↦ subst (λ u. AreShortCalls (known_in u) u.scripts) same p.short
    | inr t ↦
        subst (λ u. AreShortCalls (known_in u) u.scripts) t.others.becomes
        (short_item r t.others.item p.short (takes_stands r s line t) (short_again r s line p.kept t))
  ];
}

-- nothing is sound
opening_kept : IsKept opening
unfolding IsDistinct
opening_kept = record {
  sound = record {
    named_all = refl;
    spelled = refl;
    different = tt;
    objects = refl;
    few_objects = λ k. omega arith;
    few_queues = lit≤ tt;
    few_words = lit≤ tt;
    few_threads = lit≤ tt;
    calls = refl;
    named = refl;
    few_calls = lit≤ tt;
    few_lists = lit≤ tt;
  };
  placed = λ k i w apart named. cc (named.found);
}

-- what lines write is sound, and the lines of its calls are short
written_keeps : (v : Value) (w : IsWritten v) → IsShortKept w.written.reading
written_keeps v w =
    lines_keep IsShortKept line_short_kept w.lines opening w.written.reading (record { kept = opening_kept; short = refl }) w.written.reads

pub written_is_sound : (v : Value) → IsWritten v → IsSound v
written_is_sound v w = subst IsSound w.written.says (written_keeps v w).kept.sound

pub written_calls : (v : Value) → IsWritten v → AreShortCalls (known_names v.names v.declared) v.scripts
written_calls v w =
    subst (λ (u : Value). AreShortCalls (known_names u.names u.declared) u.scripts) w.written.says (written_keeps v w).short

-- that a value is sound has one proof
sound_prop : (v : Value) → IsProp (IsSound v)
sound_prop v = hlevel props

-- each trace says a sound value, and its world is valid
pub trace_is_sound : (t : Trace) → IsSound (seen t)
trace_is_sound t = ∥∥₁_elim t.written (sound_prop (seen t)) (written_is_sound (seen t))

-- the world of each trace is valid, and has one queue at most
pub record IsGoodWorld (w : World) : Type 0 where
  pub valid : IsWorld w
  pub few_queues : HasOneQueueAtMost w

-- by the parts of the world
pub parts_are_world : (t : Trace) (w : World) (ds : List Declared) (ss kept : List (List Call)) → ds ≡ t.declared → w ≡ objects_of ds →
    kept ≡ t.scripts → ss ≡ kept → IsGoodWorld (record w { scripts = ss })
parts_are_world t w ds ss kept declared objects scripts copied =
    let same : record w { scripts = ss } ≡ world_of_value (seen t) = rw (objects, declared, copied, scripts) refl in
    let sound = trace_is_sound t in
    subst IsGoodWorld (sym same) (record { valid = sound_world (seen t) sound; few_queues = few_queues_of (seen t) sound })
