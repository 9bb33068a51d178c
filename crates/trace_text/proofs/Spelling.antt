-- The spelling of data words plays no part.
use Rattle.trace_text.proofs.Vocabulary.{ℕ, ◌≡◌, ◌≤◌, ◌∙◌, refl, sym, ap, subst, arith, Bool, true, false, List, [], ◌∷◌, ◌++◌, length, length-append, Option, Some, None, Result, Ok, Err, ◌⊎◌, inl, inr, nat_le, ◌&&◌, if◌then◌else◌, wrapped, two_of, form_for, Naming, or_form, word_of, each_of, read_parts, read_rest, read_row, line_again, AllByRecursion, words_of, pieces_of, is_plain, data_word_of, Reading, Cause, form_row, made, text_of_lines, IsTextOf, is_later, fault_of_place, placed_of, taken_of, and_then, naming_of, read_item, meant_of, by_form, with_words, is_skipped, with_line, Value, AreLinesOf, value_of, with_lines}
use Rattle.std.specs.Prelude.{codes}
use Rattle.line_forms.specs.declared.cause.Cause.TheVariants as cause
use Rattle.line_forms.specs.declared.part.Rest.TheVariants.{Words}
use Rattle.line_forms.specs.Finding.{fits}
use Rattle.trace_words.specs.Rows.{is_among}
use Rattle.trace_lines.specs.declared.form.Class.TheVariants as class
use Rattle.trace_lines.specs.declared.form.Form.TheVariants as form
use Rattle.trace_text.specs.Spelling.{AreSpelled, IsSameWrite, AreAlike, SpellingsPlayNoPart}
use Rattle.trace_text.proofs.Grammar.{written_reads, read_writes, pieces_back, bytes_plain, lines_plain}

count_same : (ws us : List (List ℕ)) → AreSpelled ws us → length ws ≡ length us
count_same [] [] same = refl
count_same (w ∷ ws) (u ∷ us) same = omega (arith, count_same ws us same.1)
count_same _ _ same = absurd same

-- each word means the same
each_same : (ws us : List (List ℕ)) → AreSpelled ws us → each_of word_of ws ≡ each_of word_of us
unfolding each_of word_of
each_same [] [] same = refl
each_same (w ∷ ws) (u ∷ us) same =
    ap (λ (o : Option ℕ). wrapped (λ v. v.0 ∷ v.1) (two_of (or_form o) (each_of word_of ws))) same.0
    ∙ ap (λ (x : Result (List ℕ) Cause). wrapped (λ v. v.0 ∷ v.1) (two_of (or_form (data_word_of u)) x)) (each_same ws us same.1)
each_same _ _ same = absurd same

rest_same : (n : Naming) (ws us : List (List ℕ)) → AreSpelled ws us → read_rest n Words ws ≡ read_rest n Words us
unfolding read_rest
rest_same n ws us same =
    ap (λ (k : ℕ). if nat_le 1 k && nat_le k 256 then each_of word_of ws else Err cause.Form) (count_same ws us same)
    ∙ ap (λ (x : Result (List ℕ) Cause). if nat_le 1 (length us) && nat_le (length us) 256 then x else Err cause.Form) (each_same ws us same)

-- what a line that writes does, by what its data words mean
abbrev write_of : Reading → List ℕ → List ℕ → Result (List ℕ) Cause → Result Reading Cause
write_of r buffer offset rest =
    and_then
    (placed_of (fault_of_place r class.Call)
    (wrapped (made form.Write)
    (wrapped (λ v. record { values = v.0; rest = v.1 })
    (two_of (read_parts (naming_of r.names) (form_row form.Write).parts (codes "write" ∷ buffer ∷ offset ∷ [])) rest))))
    (taken_of r)

write_is : (r : Reading) (buffer offset : List ℕ) (ws : List (List ℕ)) →
    with_words r (codes "write" ∷ buffer ∷ offset ∷ ws) ≡ write_of r buffer offset (read_rest (naming_of r.names) Words ws)
unfolding with_words is_later is_among form_for fits meant_of read_item read_row read_parts
write_is r buffer offset ws = refl

words_same : (r : Reading) (buffer offset : List ℕ) (ws us : List (List ℕ)) → AreSpelled ws us →
    with_words r (codes "write" ∷ buffer ∷ offset ∷ ws) ≡ with_words r (codes "write" ∷ buffer ∷ offset ∷ us)
words_same r buffer offset ws us same =
    write_is r buffer offset ws ∙ ap (write_of r buffer offset) (rest_same (naming_of r.names) ws us same) ∙ sym (write_is r buffer offset us)

-- a line that writes is not skipped
not_skipped : (line buffer offset : List ℕ) (ws : List (List ℕ)) → words_of line ≡ codes "write" ∷ buffer ∷ offset ∷ ws → is_skipped line ≡ false
not_skipped line buffer offset ws is = subst (λ xs. is_skipped xs ≡ false) (line_again line (codes "write" ∷ buffer ∷ offset ∷ ws) is) refl

line_same : (r : Reading) (line other : List ℕ) → IsSameWrite line other → with_line r line ≡ with_line r other
unfolding with_line
line_same r line other s =
    rw (
      not_skipped line s.buffer s.offset s.words s.line_is,
      not_skipped other s.buffer s.offset s.spelled s.other_is,
      s.plain,
      s.line_is,
      s.other_is,
      words_same r s.buffer s.offset s.words s.spelled s.same,
    ) refl

first_same : (r : Reading) (line other : List ℕ) → (line ≡ other) ⊎ IsSameWrite line other → with_line r line ≡ with_line r other
first_same r line other (inl same) = ap (with_line r) same
first_same r line other (inr same) = line_same r line other same

later_same : (x : Result Reading Cause) (f g : Reading → Result Reading Cause) → ((s : Reading) → f s ≡ g s) → and_then x f ≡ and_then x g
later_same (Ok s) f g same = same s
later_same (Err e) f g same = refl

lines_same : (r : Reading) (lines others : List (List ℕ)) → AreAlike lines others → with_lines r lines ≡ with_lines r others
unfolding with_lines
lines_same r [] [] alike = refl
lines_same r (line ∷ lines) (other ∷ others) alike =
    ap (λ x. and_then x (λ s. with_lines s lines)) (first_same r line other alike.0)
    ∙ later_same (with_line r other) (λ s. with_lines s lines) (λ s. with_lines s others) (λ s. lines_same s lines others alike.1)
lines_same r _ _ alike = absurd alike

lines_are : (lines others : List (List ℕ)) (v : Value) → AreAlike lines others → AreLinesOf lines v → AreLinesOf others v
lines_are lines others v alike are = record {
  reading = are.reading;
  reads = sym (lines_same _ lines others alike) ∙ are.reads;
  ended = are.ended;
  says = are.says;
}

-- lists with the same last item
front_same : {A : Type 0} (xs ys : List A) (z : A) → xs ++ z ∷ [] ≡ ys ++ z ∷ [] → xs ≡ ys
front_same [] [] z same = refl
front_same [] (y ∷ ys) z same = absurd (omega (arith, ap length same, length-append ys (z ∷ [])))
front_same (x ∷ xs) [] z same = absurd (omega (arith, ap length same, length-append xs (z ∷ [])))
front_same (x ∷ xs) (y ∷ ys) z same =
    let first : x ≡ y = cc in
    let later : xs ++ z ∷ [] ≡ ys ++ z ∷ [] = cc in
    rw first (ap (λ (us : List _). y ∷ us) (front_same xs ys z later))

-- plain lines are the pieces of their text
text_lines : (lines : List (List ℕ)) (v : Value) → AllByRecursion (λ line. is_plain line ≡ true) lines → value_of (text_of_lines lines) ≡ Ok v → AreLinesOf lines v
text_lines lines v plain is =
    let found : IsTextOf (text_of_lines lines) v = read_writes (text_of_lines lines) v is in
    let same : lines ++ [] ∷ [] ≡ found.lines ++ [] ∷ [] =
    sym (pieces_back lines (bytes_plain lines plain)) ∙ ap pieces_of found.text_is ∙ pieces_back found.lines (lines_plain found.lines _ _ found.write.reads) in
    subst (λ xs. AreLinesOf xs v) (sym (front_same lines found.lines [] same)) found.write

pub spellings_play_no_part : SpellingsPlayNoPart
spellings_play_no_part = record {
  lines = lines_are;
  texts = λ lines others v alike plain is short.
      written_reads (text_of_lines others) v (record { lines = others; write = lines_are lines others v alike (text_lines lines v plain is); text_is = refl; short = short });
}
