-- What is read of a text is written by its lines.
use Rattle.trace_text.proofs.Vocabulary.{ℕ, ◌≡◌, ◌==◌, ◌&&◌, Bool, true, false, List, [], ◌∷◌, length, Result, Ok, Err, nat_lt, refl, if◌then◌else◌, and_parts, eqb-true, nil_from_length, is_plain, Cause, Reading, with_line, with_last, sized, at_line, with_lines}
use Rattle.line_forms.specs.declared.cause.Cause.TheVariants as cause
use Rattle.trace_text.proofs.Passing.{stopped}

-- what was found was not past the limit of a text
pub sized_ok : (end : ℕ) (found : Result Reading Cause) (s : Reading) → sized end found ≡ Ok s → found ≡ Ok s
unfolding sized
sized_ok end found s e = (stopped (nat_lt 16777216 end) cause.Size found s e).1

-- what followed a line that was taken
pub at_line_ok : (n : ℕ) (x : Result Reading Cause) (more : Reading → Result Reading (ℕ × Cause)) (s : Reading) →
    at_line n x more ≡ Ok s → (u : Reading) × (x ≡ Ok u) × (more u ≡ Ok s)
at_line_ok n (Ok u) more s e = (u, refl, e)
at_line_ok n (Err c) more s e = cc

-- nothing but the end of a text stood behind the last line feed
abbrev pub Ends : Reading → Reading → List ℕ → Type 0
Ends r s piece = (r ≡ s) × (s.ended ≡ true) × (piece ≡ [])

pub last_ok : (r s : Reading) (piece : List ℕ) → with_last r piece ≡ Ok s → Ends r s piece
unfolding with_last
last_ok r s piece e = by_tests (length piece == 0 && r.ended) (is_plain piece) refl e
  where
    by_tests : (t u : Bool) → (length piece == 0 && r.ended) ≡ t → (if t then Ok r else (if u then Err cause.Cut else Err cause.Line)) ≡ Ok s → Ends r s piece
    by_tests true u is e =
        let both = and_parts (length piece == 0) r.ended is in
        let same : r ≡ s = cc in
        (same, rw (← same) both.1, nil_from_length piece (eqb-true (length piece) 0 both.0))
    by_tests false true is e = cc
    by_tests false false is e = cc

-- one more line
pub cons_read : (line : List ℕ) (lines : List (List ℕ)) (r u s : Reading) → with_line r line ≡ Ok u → with_lines u lines ≡ Ok s →
    with_lines r (line ∷ lines) ≡ Ok s
unfolding with_lines
cons_read line lines r u s one others = rw one others
