-- Items that are read one behind the other, and their printed lines.
use Rattle.trace_text.proofs.Vocabulary.{ℕ, ◌≡◌, ◌≤◌, ◌&&◌, ◌∙◌, nat_le, Bool, true, false, List, [], ◌∷◌, ◌++◌, length, map, flat_map, drop, Ok, refl, sym, ap, arith, AllByRecursion, list_all, and_parts, and_from, leb-true, list_all-append, list_all-map, Call, is_plain_byte, is_bounded, bounded_short, Item, Header, Declares, Starts, Calls, Ends, Declared, Queue, Fence, Buffer, Allocator, list, Reading, item_formed, item_text, form_row, text_of_lines, items_of, object_items, thread_items, KnownNames, known_names, known_of, with_item, naming_of, Value, with_lines}
use Rattle.trace_text.proofs.Fitting.{Fits, printed_line, item_bytes, item_line, item_taken}
use Rattle.trace_text.proofs.Own.{fine}
use Rattle.trace_text.proofs.Sound.{short_names}
use Rattle.trace_text.proofs.Written.{cons_read}

-- the lines of what they mean
abbrev pub printed_lines : KnownNames → List Item → List (List ℕ)
printed_lines known items = map (printed_line known) items

-- the text of items is that of their lines
pub text_is : (known : KnownNames) (items : List Item) → flat_map (item_text known) items ≡ text_of_lines (printed_lines known items)
text_is known [] = refl
text_is known (i ∷ items) = rw (item_line known i, text_is known items) refl

-- items that may come one behind the other, from what was read to what is read then
abbrev pub Runs : KnownNames → Reading → List Item → Reading → Type 0
Runs known r [] s = r ≡ s
Runs known r (i ∷ items) s = Fits r known i × Runs known (with_item r i) items s

-- their lines are of plain bytes
pub runs_plain : (known : KnownNames) (items : List Item) (r s : Reading) → Runs known r items s →
    AllByRecursion (λ line. list_all is_plain_byte line ≡ true) (printed_lines known items)
runs_plain known [] r s run = tt
runs_plain known (i ∷ items) r s run = (item_bytes r.names known i run.0.good, runs_plain known items (with_item r i) s run.1)

-- and are read, where none is too long
abbrev pub IsShort : List ℕ → Type 0
IsShort line = length line ≤ 4096

pub runs_read : (known : KnownNames) (items : List Item) (r s : Reading) → Runs known r items s → AllByRecursion IsShort (printed_lines known items) →
    with_lines r (printed_lines known items) ≡ Ok s
unfolding with_lines
runs_read known [] r s run short = ap Ok run
runs_read known (i ∷ items) r s run short =
    cons_read (printed_line known i) (printed_lines known items) r (with_item r i) s (item_taken r known i run.0 short.0)
    (runs_read known items (with_item r i) s run.1 short.1)

-- the line of a call is short; those of all other forms are
abbrev pub is_short_call : KnownNames → Call → Bool
is_short_call known c = nat_le (length (printed_line known (Calls c))) 4096

abbrev is_short_item : KnownNames → Item → Bool
is_short_item known (Calls c) = is_short_call known c
is_short_item known _ = true

bounded_object : (n : List ℕ) (d : Declared) → is_bounded (form_row (item_formed (Declares n d)).form) ≡ true
bounded_object n (Queue t) = refl
bounded_object n _ = refl

item_short : (r : Reading) (known : KnownNames) (i : Item) → Fits r known i → is_short_item known i ≡ true → IsShort (printed_line known i)
item_short r known i fits h = by_item i fits h
  where
    other : (i : Item) → Fits r known i → is_bounded (form_row (item_formed i).form) ≡ true → IsShort (printed_line known i)
    other i fits few =
        bounded_short (naming_of r.names) (known_of known) (short_names r.names) (form_row (item_formed i).form) (item_formed i).line (fine i).plain few fits.good

    by_item : (i : Item) → Fits r known i → is_short_item known i ≡ true → IsShort (printed_line known i)
    by_item (Declares n d) fits h = other (Declares n d) fits (bounded_object n d)
    by_item (Calls c) fits h = leb-true (length (printed_line known (Calls c))) 4096 h
    by_item i fits h = other i fits refl

pub runs_short : (known : KnownNames) (items : List Item) (r s : Reading) → Runs known r items s → list_all (is_short_item known) items ≡ true →
    AllByRecursion IsShort (printed_lines known items)
runs_short known [] r s run h = tt
runs_short known (i ∷ items) r s run h =
    let both = and_parts (is_short_item known i) (list_all (is_short_item known) items) h in
    (item_short r known i run.0 both.0, runs_short known items (with_item r i) s run.1 both.1)

-- all items of a value are short where its calls are
object_short : (known : KnownNames) (ns : List (List ℕ)) (ds : List Declared) → list_all (is_short_item known) (object_items ns ds) ≡ true
unfolding object_items
object_short known (n ∷ ns) (d ∷ ds) = object_short known ns ds
object_short known _ _ = refl

abbrev pub AreShortCalls : KnownNames → List (List Call) → Type 0
AreShortCalls known ss = list_all (λ s. list_all (is_short_call known) s) ss ≡ true

thread_short : (known : KnownNames) (ns : List (List ℕ)) (ss : List (List Call)) → AreShortCalls known ss →
    list_all (is_short_item known) (thread_items ns ss) ≡ true
unfolding thread_items
thread_short known [] ss h = refl
thread_short known (n ∷ ns) [] h = refl
thread_short known (n ∷ ns) (s ∷ ss) h =
    let both = and_parts (list_all (is_short_call known) s) (list_all (λ s. list_all (is_short_call known) s) ss) h in
    list_all-append (is_short_item known) (map Calls s) (thread_items ns ss)
    ∙ and_from (list_all (is_short_item known) (map Calls s)) (list_all (is_short_item known) (thread_items ns ss))
    (list_all-map (is_short_item known) Calls s ∙ both.0) (thread_short known ns ss both.1)

pub items_short : (v : Value) → AreShortCalls (known_names v.names v.declared) v.scripts →
    list_all (is_short_item (known_names v.names v.declared)) (items_of v) ≡ true
items_short v h =
    let test = is_short_item (known_names v.names v.declared) in
    let threads = thread_items (drop (length v.declared) v.names) v.scripts in
    list_all-append test (object_items v.names v.declared) (threads ++ Ends ∷ [])
    ∙ and_from (list_all test (object_items v.names v.declared)) (list_all test (threads ++ Ends ∷ []))
    (object_short (known_names v.names v.declared) v.names v.declared)
    (list_all-append test threads (Ends ∷ [])
    ∙ and_from (list_all test threads) true (thread_short (known_names v.names v.declared) (drop (length v.declared) v.names) v.scripts h) refl)
