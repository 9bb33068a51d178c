-- The text of a trace of rounds is read as what the trace says.
use Rattle.std.proofs.Common.{ℕ, ◌≡◌, ◌<◌, ◌≤◌, ◌+◌, ◌*◌, ◌^◌, List, [], ◌∷◌, ◌++◌, length, map, decimal, Ok, refl, sym, ap, subst, arith, lit≤, lit<, length-append}
use Rattle.std.specs.Prelude.{codes}
use Rattle.std.specs.List.{All, flat_map}
use Rattle.std.specs.Fmt.{digits}
use Rattle.std.proofs.lemmas.Fmt.{length-decimal-le}
use Rattle.std.proofs.lemmas.List.{length-map}
use Rattle.std.proofs.lemmas.List.Elements.{All-head, All-tail}
use Rattle.trace_words.specs.Lines.{pieces_of}
use Rattle.trace_lines.specs.declared.item.Item.TheVariants.{Calls, Ends}
use Rattle.trace_text.specs.Grammar.{text_of_lines}
use Rattle.trace_lines.specs.Formed.{item_text}
use Rattle.line_forms.specs.Printing.{part_texts, rest_texts, line_words, joined, spaced, text_of}
use Rattle.trace_text.specs.Items.{items_of, object_items, thread_items, trace_text}
use Rattle.trace_lines.specs.Known.{KnownNames, known_names, names_of_kind}
use Rattle.trace_text.specs.Laws.{HasShortLines}
use Rattle.line_forms.specs.Lines.{hex_word, hex_from, rest_of_line}
use Rattle.trace_text.specs.Values.{value_of}
use Rattle.trace_text.specs.WorldOf.{objects_from, world_of_value}
use Rattle.line_forms.proofs.PlainWords.{line_of}
use Rattle.line_forms.proofs.WordsBack.{length_hex}
use Rattle.trace_text.proofs.Fitting.{printed_line}
use Rattle.trace_text.proofs.PrintedLines.{printed_lines, text_is}
use Rattle.trace_text.proofs.SoundWritten.{sound_reads}
use Rattle.trace_runner.specs.Rounds.{Round, AreRising, IsSmall, AreSmall, IsOfRounds, first_round, first_lines, calls_of, names_of_rounds, objects_of_rounds, value_of_rounds}
use Rattle.trace_runner.proofs.ShortLines.{AreBrief, pieces_short, text_short}
use Rattle.trace_runner.proofs.SoundRounds.{sound_rounds, count_calls}

abbrev names : KnownNames
names = known_names names_of_rounds objects_of_rounds

-- a line that ends with a value of 64 bits
value_brief : (word : List ℕ) (v : ℕ) → length word ≤ 40 → v < 2 ^ 64 → length (word ++ decimal v) ≤ 63
value_brief word v few small =
    let digits : length (decimal v) ≤ 20 = length-decimal-le 20 v (lit< tt) (omega (arith, small)) small in
    omega (arith, length-append word (decimal v), digits, few)

-- the length of a line that ends with data words
data_long : (word : List ℕ) (ns : List ℕ) → length (line_of (word ∷ map hex_word ns)) ≡ length word + 9 * length ns
unfolding hex_word
data_long word [] = omega arith
data_long word (n ∷ ns) =
    omega (arith, length-append word (32 ∷ line_of (hex_word n ∷ map hex_word ns)), data_long (hex_word n) ns, length_hex 8 n)

-- the line that writes four words
words_brief : (ws : List ℕ) → length ws ≡ 4 → length (line_of (codes "write" ∷ codes "u" ∷ decimal 0 ∷ map hex_word ws)) ≤ 63
unfolding digits
words_brief ws four = omega (arith, data_long (decimal 0) ws, four)

-- the lines of the calls and the last line
calls_brief : (v : ℕ) (rounds : List Round) → AreRising v rounds → AreSmall rounds →
    AreBrief (printed_lines names ((map Calls (flat_map calls_of rounds) ++ []) ++ Ends ∷ []))
unfolding calls_of names_of_kind digits line_words part_texts rest_texts
calls_brief v [] rising small = (lit≤ tt, tt)
calls_brief v (r ∷ rounds) rising small =
    let one = All-head (λ r. IsSmall r) r rounds small in
    let signal = value_brief (codes "signal q f ") r.value (lit≤ tt) one.value in
    let wait = value_brief (codes "hostwait f ") r.value (lit≤ tt) one.value in
    let more = calls_brief r.value rounds rising.1 (All-tail (λ r. IsSmall r) r rounds small) in
    (words_brief r.words rising.0.four, (lit≤ tt, (lit≤ tt, (lit≤ tt, (lit≤ tt, (signal, (wait, (lit≤ tt, more))))))))

-- all lines
lines_brief : (rounds : List Round) → AreRising 0 rounds → AreSmall rounds → AreBrief (printed_lines names (items_of (value_of_rounds rounds)))
unfolding object_items thread_items names_of_kind digits line_words part_texts rest_texts
lines_brief rounds rising small =
    (lit≤ tt, (lit≤ tt, (lit≤ tt, (lit≤ tt, (lit≤ tt, (lit≤ tt, (lit≤ tt, (lit≤ tt, (lit≤ tt, calls_brief 0 rounds rising small)))))))))

-- how many lines there are
count_lines : (rounds : List Round) → length (printed_lines names (items_of (value_of_rounds rounds))) ≡ 8 * length rounds + 10
unfolding object_items thread_items
count_lines rounds =
    let calls = flat_map calls_of rounds in
    let rest = (map Calls calls ++ []) ++ Ends ∷ [] in
    omega (
      arith,
      length-map rest (printed_line names),
      length-append (map Calls calls ++ []) (Ends ∷ []),
      length-append (map Calls calls) [],
      length-map calls Calls,
      count_calls rounds,
    )

-- the text is that of its lines
text : (rounds : List Round) → trace_text (value_of_rounds rounds) ≡ text_of_lines (printed_lines names (items_of (value_of_rounds rounds)))
unfolding trace_text
text rounds = text_is names (items_of (value_of_rounds rounds))

-- the text is read
pub rounds_are_read : (rounds : List Round) → AreRising 0 rounds → AreSmall rounds → length rounds ≤ 4096 →
    value_of (trace_text (value_of_rounds rounds)) ≡ Ok (value_of_rounds rounds)
rounds_are_read rounds rising small most =
    let lines = printed_lines names (items_of (value_of_rounds rounds)) in
    let brief = lines_brief rounds rising small in
    let short : HasShortLines (value_of_rounds rounds) =
    subst (λ bytes. All (λ line. length line ≤ 4096) (pieces_of bytes)) (sym (text rounds)) (pieces_short lines brief) in
    let few : length (trace_text (value_of_rounds rounds)) ≤ 16777216 =
    omega (arith, ap length (text rounds), text_short lines brief, count_lines rounds, most) in
    sound_reads (value_of_rounds rounds) (sound_rounds rounds rising small most) short few

-- what it says has a world of rounds
pub rounds_have_worlds : (rounds : List Round) → AreRising 0 rounds → IsOfRounds (world_of_value (value_of_rounds rounds))
unfolding objects_from
rounds_have_worlds rounds rising = record { rounds = rounds; rising = rising; world = refl }

-- the text of the first example's round
pub first_text : trace_text (value_of_rounds (first_round ∷ [])) ≡ text_of_lines first_lines
unfolding trace_text item_text text_of joined spaced part_texts rest_texts rest_of_line object_items thread_items names_of_kind calls_of hex_word hex_from digits
first_text = refl
