-- Reading a text, one line at a time.
use Rattle.std.proofs.Common.{ℕ, ◌≡◌, ◌+◌, ◌-◌, ◌≤◌, ◌∙◌, Bool, true, false, List, [], ◌∷◌, length, Result, Ok, Err, eqb, arith, refl, ap}
use Rattle.std.specs.List.{onto_first, slice_split}
use Rattle.std.proofs.lemmas.List.{length-append}
use Rattle.std.proofs.lemmas.List.Splits.{slice_split-cons_no, slice_split-cons_yes}
use Rattle.trace_words.specs.Cut.{CutsOff}
use Rattle.trace_words.specs.Lines.{pieces_of}
use Rattle.line_forms.specs.declared.cause.Cause.{Cause}
use Rattle.journal_text.specs.declared.fault.LineFault.{LineFault}
use Rattle.journal_text.specs.declared.fault.LineFault.TheVariants.{Refused, Memory}
use Rattle.journal_text.specs.declared.reading.Reading.{Reading}
use Rattle.journal_text.specs.Texts.{Answers, Leaves, at_line, fault_at, pieces_from, sized, with_last, with_line}

-- a list of pieces has a first one
pub record HasFirst (xs : List (List ℕ)) : Type 0 where
  pub first : List ℕ
  pub others : List (List ℕ)
  pub is : xs ≡ first ∷ others

onto_has : (x : ℕ) (parts : List (List ℕ)) → HasFirst (onto_first x parts)
onto_has x [] = record { first = x ∷ []; others = []; is = refl }
onto_has x (part ∷ parts) = record { first = x ∷ part; others = parts; is = refl }

pub split_has : (p : ℕ → Bool) (text : List ℕ) → HasFirst (slice_split p text)
split_has p [] = record { first = []; others = []; is = refl }
split_has p (x ∷ xs) = by_test (p x) refl
  where
    by_test : (t : Bool) → p x ≡ t → HasFirst (slice_split p (x ∷ xs))
    by_test true e = record { first = []; others = slice_split p xs; is = slice_split-cons_yes p x xs e }
    by_test false e =
        let onto = onto_has x (slice_split p xs) in
        record { first = onto.first; others = onto.others; is = slice_split-cons_no p x xs e ∙ onto.is }

-- a line and those behind it
pub stepped : (n at : ℕ) (r : Reading) (line : List ℕ) (more : List (List ℕ)) → HasFirst more →
    pieces_from n at r (line ∷ more)
    ≡ at_line n (sized (at + length line + 1) (with_line r line)) (λ s. pieces_from (n + 1) (at + length line + 1) s more)
unfolding pieces_from
stepped n at r line [] has = cc (has.is)
stepped n at r line (next ∷ more) has = refl

-- a line that is cut off, and the text behind it
pub cut_step : (n at : ℕ) (r : Reading) (rest line behind : List ℕ) → CutsOff 10 rest line behind →
    pieces_from n at r (pieces_of rest)
    ≡ at_line n (sized (at + length line + 1) (with_line r line)) (λ s. pieces_from (n + 1) (at + length line + 1) s (pieces_of behind))
cut_step n at r rest line behind cut =
    ap (pieces_from n at r) cut.pieces ∙ stepped n at r line (pieces_of behind) (split_has (λ b. eqb b 10) behind)

-- the bytes before a line, with the line and its line feed
pub end_is : (whole rest line behind : List ℕ) → CutsOff 10 rest line behind → length rest ≤ length whole →
    (length whole - length rest) + length line + 1 ≡ length whole - length behind
end_is whole rest line behind cut inside =
    let long : length rest ≡ length line + (length behind + 1) = ap length cut.bytes ∙ simp length-append (omega arith) in
    omega arith

-- a line is taken
pub line_taken : (n at : ℕ) (r s : Reading) (rest line behind : List ℕ) (end : ℕ) → CutsOff 10 rest line behind → at + length line + 1 ≡ end →
    sized end (with_line r line) ≡ Ok s → pieces_from n at r (pieces_of rest) ≡ pieces_from (n + 1) end s (pieces_of behind)
line_taken n at r s rest line behind end cut ends takes =
    rw (cut_step n at r rest line behind cut, ends, takes) refl

-- a line is refused
pub line_refused : (n at : ℕ) (r : Reading) (rest line behind : List ℕ) (end : ℕ) (c : Cause) → CutsOff 10 rest line behind →
    at + length line + 1 ≡ end → sized end (with_line r line) ≡ Err c → pieces_from n at r (pieces_of rest) ≡ Err (n, c)
line_refused n at r rest line behind end c cut ends refuses =
    rw (cut_step n at r rest line behind cut, ends, refuses) refl

-- no line feed is left
pub last_told : (n at : ℕ) (r : Reading) (rest : List ℕ) (end : ℕ) (found : Result Reading Cause) → pieces_of rest ≡ rest ∷ [] →
    at + length rest ≡ end → sized end (with_last r rest) ≡ found → pieces_from n at r (pieces_of rest) ≡ at_line n found (λ s. Ok s)
unfolding pieces_from
last_told n at r rest end found alone ends tells = rw (alone, ends, tells) refl

-- a line is not taken
pub line_faulted : (n at : ℕ) (r s : Reading) (rest line behind : List ℕ) (end : ℕ) (f : LineFault) → CutsOff 10 rest line behind →
    at + length line + 1 ≡ end → Leaves {A = Unit {0}} (Err f) s (sized end (with_line r line)) →
    Answers {A = Reading} (Err (fault_at n f)) (pieces_from n at r (pieces_of rest))
line_faulted n at r s rest line behind end (Refused c) cut ends faults = line_refused n at r rest line behind end c cut ends faults
line_faulted n at r s rest line behind end Memory cut ends faults = tt
