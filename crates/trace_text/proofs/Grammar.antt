-- What is read of a text, and the lines of the text.
use Rattle.trace_text.proofs.Vocabulary.{ℕ, ◌≡◌, ◌≤◌, ◌+◌, ◌==◌, ◌&&◌, ◌∙◌, eqb, nat_lt, nat_le, Bool, true, false, List, [], ◌∷◌, ◌++◌, length, map, Result, Ok, Err, refl, sym, ap, subst, arith, length-append, append_assoc, if◌then◌else◌, All, AllByRecursion, list_all, slice_split, join_with_byte, and_parts, ltb-false, le-ltb, nat_tests, slice_split_at, join_with_byte-slice_split, pieces_of, is_plain, is_plain_byte, Call, Declared, Reading, Cause, text_of_lines, IsTextOf, opening, and_then, with_line, with_last, sized, pieces_from, reading_of, Value, value_in, valued, value_of, with_lines, IsWritten, apart_from}
use Rattle.line_forms.specs.declared.cause.Cause.TheVariants as cause
use Rattle.trace_text.proofs.Passing.{and_ok, stopped}
use Rattle.trace_text.proofs.TextSteps.{stepped, HasFirst}
use Rattle.trace_text.proofs.Taking.{line_passes}
use Rattle.trace_text.proofs.Written.{at_line_ok, sized_ok, last_ok, cons_read}

-- a plain byte is no line feed
plain_feeds : (b : ℕ) → is_plain_byte b ≡ true → eqb b 10 ≡ false
plain_feeds b h = grind (arith, nat_tests)

-- the pieces of a text whose first line is of plain bytes
pieces_more : (line : List ℕ) (lines : List (List ℕ)) → list_all is_plain_byte line ≡ true →
    pieces_of (text_of_lines (line ∷ lines)) ≡ line ∷ pieces_of (text_of_lines lines)
pieces_more line lines plain =
    ap (slice_split (λ b. eqb b 10)) (append_assoc line (10 ∷ []) (text_of_lines lines))
    ∙ slice_split_at (λ b. eqb b 10) line 10 (text_of_lines lines) (apart_from 10 is_plain_byte line plain_feeds plain) refl

-- the pieces of a text of lines
pub pieces_back : (lines : List (List ℕ)) → AllByRecursion (λ line. list_all is_plain_byte line ≡ true) lines →
    pieces_of (text_of_lines lines) ≡ lines ++ [] ∷ []
pieces_back [] all = refl
pieces_back (line ∷ lines) all = pieces_more line lines all.0 ∙ ap (λ more. line ∷ more) (pieces_back lines all.1)

-- a text whose last line is followed by nothing
join_lines : (lines : List (List ℕ)) → join_with_byte 10 (lines ++ [] ∷ []) ≡ text_of_lines lines
join_lines [] = refl
join_lines (line ∷ []) = sym (append_assoc line (10 ∷ []) [])
join_lines (line ∷ next ∷ lines) =
    ap (λ more. line ++ 10 ∷ more) (join_lines (next ∷ lines)) ∙ sym (append_assoc line (10 ∷ []) (text_of_lines (next ∷ lines)))

-- a line and its line feed
length_line : (line : List ℕ) (lines : List (List ℕ)) → length (text_of_lines (line ∷ lines)) ≡ length line + 1 + length (text_of_lines lines)
length_line line lines =
    omega (arith, length-append (line ++ 10 ∷ []) (text_of_lines lines), length-append line (10 ∷ []))

-- what fits
sized_small : (end : ℕ) (found : Result Reading Cause) (s : Reading) → sized end found ≡ Ok s → end ≤ 16777216
unfolding sized
sized_small end found s e = ltb-false 16777216 end (stopped (nat_lt 16777216 end) cause.Size found s e).0

-- what fits is found
sized_is : (end : ℕ) (found : Result Reading Cause) → end ≤ 16777216 → sized end found ≡ found
unfolding sized
sized_is end found small = rw (le-ltb 16777216 end small) refl

-- pieces that were read are lines, and then nothing
record AreLines (pieces : List (List ℕ)) (at : ℕ) (r s : Reading) : Type 0 where
  lines : List (List ℕ)
  are : pieces ≡ lines ++ [] ∷ []
  reads : with_lines r lines ≡ Ok s
  ended : s.ended ≡ true
  short : at + length (text_of_lines lines) ≤ 16777216

-- pieces that were read
pieces_are : (pieces : List (List ℕ)) (n at : ℕ) (r s : Reading) → pieces_from n at r pieces ≡ Ok s → AreLines pieces at r s
unfolding pieces_from with_lines
pieces_are [] n at r s e = cc
pieces_are (piece ∷ []) n at r s e =
    let follows = at_line_ok n (sized (at + length piece) (with_last r piece)) (λ s. Ok s) s e in
    let found = sized_ok (at + length piece) (with_last r piece) follows.0 follows.1 in
    let ends = last_ok r follows.0 piece found in
    let same : follows.0 ≡ s = cc (follows.2) in
    let small = sized_small (at + length piece) (with_last r piece) follows.0 follows.1 in
    record {
      lines = [];
      are = ap (λ p. p ∷ []) ends.2;
      reads = rw (ends.0, same) refl;
      ended = rw (← same) ends.1;
      short = omega (arith, small);
    }
pieces_are (piece ∷ next ∷ more) n at r s e =
    let follows = at_line_ok n (sized (at + length piece + 1) (with_line r piece))
    (λ s. pieces_from (n + 1) (at + length piece + 1) s (next ∷ more)) s e in
    let taken = sized_ok (at + length piece + 1) (with_line r piece) follows.0 follows.1 in
    let others = pieces_are (next ∷ more) (n + 1) (at + length piece + 1) follows.0 s follows.2 in
    record {
      lines = piece ∷ others.lines;
      are = ap (λ ps. piece ∷ ps) others.are;
      reads = cons_read piece others.lines r follows.0 s taken others.reads;
      ended = others.ended;
      short = omega (arith, length_line piece others.lines, others.short);
    }

-- what is read of a text is a value that lines write
pub reading_is_written : (text : List ℕ) (r : Reading) → reading_of text ≡ Ok r → IsWritten (value_in r)
unfolding reading_of
reading_is_written text r e =
    let all = pieces_are (pieces_of text) 1 0 opening r e in
    record { lines = all.lines; written = record { reading = r; reads = all.reads; ended = all.ended; says = refl } }

-- a value of those parts is written, where what was read has them
pub parts_are_written : (text : List ℕ) (r : Reading) (names : List (List ℕ)) (declared : List Declared) (scripts : List (List Call)) →
    reading_of text ≡ Ok r → names ≡ map (λ e. e.0) r.names → declared ≡ r.declared → scripts ≡ r.scripts →
    IsWritten (record { names = names; declared = declared; scripts = scripts })
parts_are_written text r names declared scripts reads a b c = rw (a, b, c) (reading_is_written text r reads)

-- what is read of a text is what the text writes
pub read_writes : (text : List ℕ) (v : Value) → value_of text ≡ Ok v → IsTextOf text v
unfolding value_of reading_of
read_writes text v e = by_found (pieces_from 1 0 opening (pieces_of text)) refl e
  where
    by_found : (found : Result Reading (ℕ × Cause)) → pieces_from 1 0 opening (pieces_of text) ≡ found → valued found ≡ Ok v → IsTextOf text v
    by_found (Err p) is e = cc
    by_found (Ok r) is e =
        let all = pieces_are (pieces_of text) 1 0 opening r is in
        let text_is : text ≡ text_of_lines all.lines =
        sym (join_with_byte-slice_split 10 text) ∙ (ap (join_with_byte 10) all.are ∙ join_lines all.lines) in
        record {
          lines = all.lines;
          write = record { reading = r; reads = all.reads; ended = all.ended; says = cc };
          text_is = text_is;
          short = omega (arith, ap length text_is, all.short);
        }

-- plain lines are of plain bytes
pub bytes_plain : (lines : List (List ℕ)) → AllByRecursion (λ line. is_plain line ≡ true) lines → AllByRecursion (λ line. list_all is_plain_byte line ≡ true) lines
unfolding is_plain
bytes_plain [] all = tt
bytes_plain (line ∷ lines) all = ((and_parts (nat_le (length line) 4096) (list_all is_plain_byte line) all.0).1, bytes_plain lines all.1)

-- lines that were read are of plain bytes
pub lines_plain : (lines : List (List ℕ)) (r s : Reading) → with_lines r lines ≡ Ok s → AllByRecursion (λ line. list_all is_plain_byte line ≡ true) lines
unfolding with_lines is_plain
lines_plain [] r s e = tt
lines_plain (line ∷ lines) r s e =
    let step = and_ok (with_line r line) (λ u. with_lines u lines) s e in
    ((and_parts (nat_le (length line) 4096) (list_all is_plain_byte line) (line_passes r step.0 line step.1).plain).1, lines_plain lines step.0 s step.2)

-- behind lines nothing more stands
some_first : (lines : List (List ℕ)) → HasFirst (lines ++ [] ∷ [])
some_first [] = record { first = []; others = []; is = refl }
some_first (line ∷ lines) = record { first = line; others = lines ++ [] ∷ []; is = refl }

-- what ended stays as it is
ends_with : (r : Reading) → r.ended ≡ true → with_last r [] ≡ Ok r
unfolding with_last
ends_with r is = rw is refl

-- lines that can be read are read as pieces
lines_from : (lines : List (List ℕ)) (n at : ℕ) (r s : Reading) → with_lines r lines ≡ Ok s → s.ended ≡ true →
    at + length (text_of_lines lines) ≤ 16777216 → pieces_from n at r (lines ++ [] ∷ []) ≡ Ok s
unfolding with_lines pieces_from
lines_from [] n at r s e ended small =
    let same : r ≡ s = cc in
    rw (sized_is (at + 0) (with_last r []) (omega (arith, small)), ends_with r (subst (λ u. u.ended ≡ true) (sym same) ended)) (ap Ok same)
lines_from (line ∷ lines) n at r s e ended small =
    let step = and_ok (with_line r line) (λ u. with_lines u lines) s e in
    let fits : at + length line + 1 ≤ 16777216 = omega (arith, length_line line lines, small) in
    let more = lines_from lines (n + 1) (at + length line + 1) step.0 s step.2 ended (omega (arith, length_line line lines, small)) in
    stepped n at r line (lines ++ [] ∷ []) (some_first lines) ∙ (rw (sized_is (at + length line + 1) (with_line r line) fits, step.1) more)

-- a text that writes a value is read as that value
pub written_reads : (text : List ℕ) (v : Value) → IsTextOf text v → value_of text ≡ Ok v
unfolding value_of reading_of
written_reads text v t =
    let w = t.write in
    let pieces : pieces_of text ≡ t.lines ++ [] ∷ [] =
    ap pieces_of t.text_is ∙ pieces_back t.lines (lines_plain t.lines opening w.reading w.reads) in
    let short : 0 + length (text_of_lines t.lines) ≤ 16777216 = omega (arith, ap length t.text_is, t.short) in
    ap (λ ps. valued (pieces_from 1 0 opening ps)) pieces
    ∙ (ap valued (lines_from t.lines 1 0 opening w.reading w.reads w.ended short) ∙ ap Ok w.says)

-- a text writes one value
pub one_meaning : (text : List ℕ) (v u : Value) → IsTextOf text v → IsTextOf text u → v ≡ u
one_meaning text v u t w =
    let first = written_reads text v t in
    let second = written_reads text u w in
    cc
