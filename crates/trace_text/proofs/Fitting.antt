-- A line is taken whose values, as they are printed, are read back.
use Rattle.trace_text.proofs.Vocabulary.{ℕ, ◌≡◌, ◌<◌, ◌≤◌, ◌^◌, ◌==◌, ◌&&◌, ◌||◌, ◌∙◌, not, nat_le, nat_lt, Bool, true, false, List, [], ◌∷◌, ◌++◌, length, Some, None, Ok, refl, sym, ap, subst, arith, append_assoc, AllByRecursion, list_all, and_parts, and_from, leb-true, le-leb, ltb-true, nat_tests, Call, is_named, words_of, is_plain, is_plain_byte, is_name, is_letter, is_name_byte, Line, Kind, form_for, AllGood, IsGoodLine, shaped_from, shaped_line, rest_of_line, line_text, Place, Word, Name, NewName, Number, DataWord, FlagWord, Set, Choice, AllOr, AllOrNumber, Row, Known, part_texts, rest_texts, line_words, spaced, joined, text_of, Naming, read_row, is_sound_line, is_named_line, prints_back, line_of, line_is, line_again, IsPlainWord, ArePlain, words_again, are_words, plain_line, line_plain, line_short, pass, line_from, Class, Form, Item, Header, Declares, Starts, Calls, Ends, Declared, Reading, Formed, item_formed, item_words, item_text, form_row, forms, class_of, count_of, KnownNames, names_of_kind, known_names, known_of, name_at, is_later, is_second, is_misplaced, is_header, fault_of_place, is_over, with_item, object_named, naming_of, is_sound_object, is_sound_call, is_skipped, with_line, Names, same_kind, number_named, objects_of}
use Rattle.line_forms.specs.declared.kind.Kind.TheVariants as kind
use Rattle.line_forms.specs.declared.part.PartValue.{PartValue}
use Rattle.trace_text.proofs.NamesBack.{AreNamed}
use Rattle.trace_text.proofs.Naming.{names_in}
use Rattle.trace_text.proofs.Own.{item_news, item_class, is_call, own, own_line, counts_in, is_spoken, fine}
use Rattle.trace_text.proofs.Says.{is_new, new_back, number_back}
use Rattle.trace_text.proofs.Sound.{IsKept, known_in, counts_are, are_called, short_names}
use Rattle.trace_text.proofs.Taking.{Takes, TakesWords, item_reads, item_read_back, taken_line}

-- the line of an item
abbrev pub printed_line : KnownNames → Item → List ℕ
printed_line known i = line_of (item_words known i)

-- a line has no fault of place
pub in_place : (r : Reading) (c : Class) → is_second r c ≡ false → is_misplaced r c ≡ false → (r.begun || is_header c) ≡ true → fault_of_place r c ≡ None
unfolding fault_of_place
in_place r c first placed begun = rw (first, placed, begun) refl

-- an item may come next, and its values are read back
pub record Fits (r : Reading) (known : KnownNames) (i : Item) : Type 0 where
  pub open_yet : r.ended ≡ false
  pub place : fault_of_place r (item_class i) ≡ None
  pub timely : is_later (item_words known i) ≡ false
  pub good : IsGoodLine (naming_of r.names) (known_of known) (form_row (item_formed i).form) (item_formed i).line
  pub within : is_over r i ≡ false

-- the words of an item are plain
item_plain : (names : Names) (known : KnownNames) (i : Item) →
    IsGoodLine (naming_of names) (known_of known) (form_row (item_formed i).form) (item_formed i).line → ArePlain (item_words known i)
item_plain names known i good =
    line_plain (naming_of names) (known_of known) (short_names names) (form_row (item_formed i).form) (item_formed i).line (fine i).plain good

-- a line that begins with a letter is no comment
not_comment : (b : ℕ) → is_letter b ≡ true → (b == 35) ≡ false
not_comment b h = grind (arith, nat_tests)

spoken_line : (w : List ℕ) (ws : List (List ℕ)) → is_name w ≡ true → is_skipped (line_of (w ∷ ws)) ≡ false
unfolding is_name
spoken_line [] ws h = cc
spoken_line (b ∷ bs) [] h = not_comment b (and_parts (is_letter b) (list_all is_name_byte bs) h).0
spoken_line (b ∷ bs) (w ∷ ws) h = not_comment b (and_parts (is_letter b) (list_all is_name_byte bs) h).0

-- words of which the first is a name
record Begins (ws : List (List ℕ)) : Type 0 where
  some : 0 < length ws
  spoken : is_skipped (line_of ws) ≡ false

begins : (n : Naming) (known : Known) (ps : List Place) (vs : List PartValue) (us : List (List ℕ)) → is_spoken ps ≡ true → AllGood n known ps vs →
    Begins (part_texts known ps vs ++ us)
unfolding part_texts
begins n known (p ∷ ps) [] us is good = absurd good
begins n known (Word t ∷ ps) (v ∷ vs) us is good = record { some = omega arith; spoken = spoken_line t (part_texts known ps vs ++ us) is }
begins n known _ _ us is good = cc

item_begins : (names : Names) (known : KnownNames) (i : Item) →
    IsGoodLine (naming_of names) (known_of known) (form_row (item_formed i).form) (item_formed i).line → Begins (item_words known i)
unfolding line_words
item_begins names known i good =
    begins (naming_of names) (known_of known) (form_row (item_formed i).form).parts (item_formed i).line.values
    (rest_texts (known_of known) (form_row (item_formed i).form).rest (item_formed i).line.rest) (fine i).spoken good.values

-- a line of words is cut into them
words_back : (ws : List (List ℕ)) → 0 < length ws → ArePlain ws → words_of (line_of ws) ≡ ws
words_back [] some all = absurd (omega (arith, some))
words_back (w ∷ ws) some all = words_again w ws all.0.one (are_words ws all.1)

-- its bytes are plain
bytes_plain : (ws : List (List ℕ)) → 0 < length ws → ArePlain ws → list_all is_plain_byte (line_of ws) ≡ true
bytes_plain [] some all = absurd (omega (arith, some))
bytes_plain (w ∷ ws) some all = plain_line w ws all.0 all.1

pub item_bytes : (names : Names) (known : KnownNames) (i : Item) →
    IsGoodLine (naming_of names) (known_of known) (form_row (item_formed i).form) (item_formed i).line → list_all is_plain_byte (printed_line known i) ≡ true
item_bytes names known i good = bytes_plain (item_words known i) (item_begins names known i good).some (item_plain names known i good)

-- the line is taken
pub item_taken : (r : Reading) (known : KnownNames) (i : Item) → Fits r known i → length (printed_line known i) ≤ 4096 →
    with_line r (printed_line known i) ≡ Ok (with_item r i)
unfolding is_plain
item_taken r known i fits short =
    let begin = item_begins r.names known i fits.good in
    let plain = item_plain r.names known i fits.good in
    let reads = prints_back.reads (naming_of r.names) (known_of known) (form_row (item_formed i).form) (item_formed i).line fits.good in
    taken_line r (with_item r i) (printed_line known i) (record {
      ws = item_words known i;
      plain = and_from (nat_le (length (printed_line known i)) 4096) (list_all is_plain_byte (printed_line known i))
          (le-leb (length (printed_line known i)) 4096 short) (item_bytes r.names known i fits.good);
      open_yet = fits.open_yet;
      spoken = begin.spoken;
      words = words_back (item_words known i) begin.some plain;
      others = record {
        form = (item_formed i).form;
        item = i;
        in_time = fits.timely;
        found = (own i).found known;
        in_place = subst (λ c. fault_of_place r c ≡ None) (sym (own i).class_is) fits.place;
        means = item_read_back r.names (item_words known i) i reads;
        within = fits.within;
        becomes = refl;
      };
    })

-- a line that was taken is printed as short
pub short_again : (r s : Reading) (line : List ℕ) → IsKept r → (t : Takes r line s) → length (printed_line (known_in r) t.others.item) ≤ 4096
unfolding is_plain
short_again r s line kept t =
    let i = t.others.item in
    let read = item_reads r.names t.others.form t.ws i t.others.means in
    let short = leb-true (length line) 4096 (and_parts (nat_le (length line) 4096) (list_all is_plain_byte line) t.plain).0 in
    line_short (naming_of r.names) (known_of (known_in r)) (short_names r.names) (are_called r.names r.declared kept.placed)
    (form_row (item_formed i).form) t.ws (item_formed i).line (fine i).plain (fine i).short read.reads
    (subst (λ l. length l ≤ 4096) (sym (line_again line t.ws t.words)) short)

-- the name of an object is read as its number
called_object : (r : Reading) (ss : List (List Call)) → AreNamed r.names r.declared → (k : Kind) (i : ℕ) → same_kind k kind.Thread ≡ false →
    nat_lt i (counts_in (record (objects_of r.declared) { scripts = ss }) k) ≡ true →
    number_named k r.names (name_at (names_of_kind k (names_in r.names) r.declared) i) ≡ Ok i
called_object r ss named k i apart h =
    let below = ltb-true i (counts_in (record (objects_of r.declared) { scripts = ss }) k) h in
    number_back r.names k i (name_at (names_of_kind k (names_in r.names) r.declared) i)
    (named k i (omega (arith, counts_are r.declared ss k apart, below)))

called : (r : Reading) (ss : List (List Call)) → AreNamed r.names r.declared → (k : Kind) (i : ℕ) →
    nat_lt i (counts_in (record (objects_of r.declared) { scripts = ss }) k) ≡ true →
    object_named r.names k (known_of (known_in r) k i) ≡ Ok i
called r ss named kind.Thread i h = absurd (omega (arith, ltb-true i 0 h))
called r ss named kind.Queue i h = called_object r ss named kind.Queue i refl h
called r ss named k i h = called_object r ss named k i refl h

-- an item's values are of their parts' kinds
item_shaped : (i : Item) → shaped_line (form_row (item_formed i).form) (item_formed i).line ≡ (item_formed i).line
item_shaped i =
    let f = (item_formed i).form in
    let line = (item_formed i).line in
    let whole : item_formed i ≡ record { form = f; line = shaped_line (form_row f) line } = ap item_formed (sym (own i).makes) ∙ own_line f line in
    sym (ap (λ (g : Formed). g.line) whole)

-- words, each behind a space, and the end of a line
spaced_rest : (ws us : List (List ℕ)) → spaced ws ++ rest_of_line us ≡ rest_of_line (ws ++ us)
unfolding spaced rest_of_line
spaced_rest [] us = refl
spaced_rest (w ∷ ws) us = ap (λ more. 32 ∷ more) (append_assoc w (spaced ws) (rest_of_line us) ∙ ap (λ more. w ++ more) (spaced_rest ws us))

text_words : (ws us : List (List ℕ)) → 0 < length ws → joined ws ++ rest_of_line us ≡ line_of (ws ++ us) ++ 10 ∷ []
unfolding joined line_text
text_words [] us some = absurd (omega (arith, some))
text_words (w ∷ ws) us some = append_assoc w (spaced ws) (rest_of_line us) ∙ (ap (λ more. w ++ more) (spaced_rest ws us) ∙ line_is w (ws ++ us))

texts_some : (known : Known) (ps : List Place) (vs : List PartValue) → is_spoken ps ≡ true → shaped_from 0 ps vs ≡ vs → 0 < length (part_texts known ps vs)
unfolding part_texts
texts_some known [] vs is same = cc
texts_some known (p ∷ ps) [] is same = cc
texts_some known (p ∷ ps) (v ∷ vs) is same = omega arith

-- the text of an item is its line, and then a line feed
pub item_line : (known : KnownNames) (i : Item) → item_text known i ≡ printed_line known i ++ 10 ∷ []
unfolding item_text text_of line_words
item_line known i =
    let row = form_row (item_formed i).form in
    let line = (item_formed i).line in
    text_words (part_texts (known_of known) row.parts line.values) (rest_texts (known_of known) row.rest line.rest)
    (texts_some (known_of known) row.parts line.values (fine i).spoken (ap (λ (x : Line). x.values) (item_shaped i)))

-- a call whose values are sound and name objects is read back
pub call_good : (r : Reading) (c : Call) (ss : List (List Call)) → AreNamed r.names r.declared → is_sound_call c ≡ true →
    is_named_line (counts_in (record (objects_of r.declared) { scripts = ss })) (known_of (known_in r)) (form_row (item_formed (Calls c)).form)
    (item_formed (Calls c)).line ≡ true →
    IsGoodLine (naming_of r.names) (known_of (known_in r)) (form_row (item_formed (Calls c)).form) (item_formed (Calls c)).line
call_good r c ss named sound names =
    line_from (naming_of r.names) (known_of (known_in r)) (counts_in (record (objects_of r.declared) { scripts = ss })) (is_new r.names) (called r ss named)
    (λ m h. new_back r.names m h) (form_row (item_formed (Calls c)).form) (item_formed (Calls c)).line (item_shaped (Calls c)) sound names
    (subst (λ bs. pass bs ≡ true) (sym ((own (Calls c)).news (is_new r.names))) refl)

-- an item that is no call names no object; where its values are sound and its name is new, it is read back
pub item_good : (r : Reading) (known : KnownNames) (i : Item) → is_call i ≡ false → is_sound_line (form_row (item_formed i).form) (item_formed i).line ≡ true →
    pass (item_news (is_new r.names) i) ≡ true →
    IsGoodLine (naming_of r.names) (known_of known) (form_row (item_formed i).form) (item_formed i).line
item_good r known i alone sound new =
    line_from (naming_of r.names) (known_of known) (λ k. 0) (is_new r.names) (λ k j below. absurd (omega (arith, ltb-true j 0 below)))
    (λ m h. new_back r.names m h) (form_row (item_formed i).form) (item_formed i).line (item_shaped i) sound ((own i).alone alone (λ k. 0) (known_of known))
    (subst (λ bs. pass bs ≡ true) (sym ((own i).news (is_new r.names))) new)
