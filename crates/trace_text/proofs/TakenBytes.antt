-- The first bytes of a text decide what it says.
use Rattle.trace_text.proofs.Vocabulary.{ℕ, zero, suc, ◌≡◌, ◌<◌, ◌≤◌, ◌+◌, ◌-◌, ◌∙◌, eqb, nat_lt, Bool, true, false, List, [], ◌∷◌, ◌++◌, length, take, take_all, length-take-le, Result, Ok, Err, inl, inr, arith, refl, sym, ap, subst, append_assoc, append-nil, All, eqb-true, leb_tells, take-append-le, All-append, All-nil, All-take, slice_split_at, slice_split_none, CutsOff, pieces_of, Reading, Cause, opening, with_line, with_last, sized, at_line, pieces_from, reading_of, valued, value_of}
use Rattle.std.proofs.Math.Seq.{take-append-add}
use Rattle.line_forms.specs.declared.cause.Cause.TheVariants as cause
use Rattle.trace_text.proofs.TextSteps.{cut_step}

-- no byte of a line is a line feed
abbrev HasNoFeed : List ℕ → Type 0
HasNoFeed line = All (λ b. eqb b 10 ≡ false) line

-- behind so many bytes, and with room for so many up to the first past the limit, a text reads as its first bytes do
abbrev ReadsAsTaken : List ℕ → Type 0
ReadsAsTaken text =
    (n at room : ℕ) (r : Reading) → at + room ≡ 16777217 → pieces_from n at r (pieces_of (take room text)) ≡ pieces_from n at r (pieces_of text)

-- an end past the limit is refused for the size
is_past : (end : ℕ) → 16777216 < end → nat_lt 16777216 end ≡ true
is_past end past = elim (leb_tells 16777217 end) [ inl tells ↦ tells.0 | inr tells ↦ absurd (omega (arith, tells.1, past)) ]

sized_past : (end : ℕ) (found : Result Reading Cause) → 16777216 < end → sized end found ≡ Err cause.Size
unfolding sized
sized_past end found past = rw (is_past end past) refl

-- so is a first line that goes past the limit
past_limit : (n at : ℕ) (r : Reading) (line : List ℕ) (more : List (List ℕ)) → 16777216 < at + length line →
    pieces_from n at r (line ∷ more) ≡ Err (n, cause.Size)
unfolding pieces_from
past_limit n at r line [] past = rw (sized_past (at + length line) (with_last r line) past) refl
past_limit n at r line (next ∷ more) past = rw (sized_past (at + length line + 1) (with_line r line) (omega (arith, past))) refl

-- the line alone is one piece
alone : (line : List ℕ) → HasNoFeed line → pieces_of line ≡ line ∷ []
alone line no_feed = slice_split_none (λ b. eqb b 10) line no_feed

-- a line, a line feed, and what stands behind it
cut_at : (line behind : List ℕ) → HasNoFeed line → CutsOff 10 (line ++ 10 ∷ behind) line behind
cut_at line behind no_feed = record { pieces = slice_split_at (λ b. eqb b 10) line 10 behind no_feed refl; bytes = refl }

-- the first bytes of a line that has no room are refused for the size
no_room : (line : List ℕ) (n at room : ℕ) (r : Reading) → HasNoFeed line → at + room ≡ 16777217 → room ≤ length line →
    pieces_from n at r (pieces_of (take room line)) ≡ Err (n, cause.Size)
no_room line n at room r no_feed ends less =
    ap (pieces_from n at r) (alone (take room line) (All-take (λ b. eqb b 10 ≡ false) room line no_feed))
    ∙ past_limit n at r (take room line) [] (omega (arith, ends, length-take-le room line less))

-- a line and nothing behind it
line_alone : (line : List ℕ) → HasNoFeed line → ReadsAsTaken line
line_alone line no_feed n at room r ends = elim (leb_tells (length line) room) [
  | inl short ↦ ap (λ text. pieces_from n at r (pieces_of text)) (take_all room line short.1)
  | inr long ↦
      no_room line n at room r no_feed ends (omega (arith, long.1))
      ∙ sym (ap (pieces_from n at r) (alone line no_feed) ∙ past_limit n at r line [] (omega (arith, ends, long.1)))
]

-- what follows a line that was read is the same where it is the same for each reading
same_at_line : (n : ℕ) (found : Result Reading Cause) (these those : Reading → Result Reading (ℕ × Cause)) →
    ((s : Reading) → these s ≡ those s) → at_line n found these ≡ at_line n found those
same_at_line n (Ok s) these those same = same s
same_at_line n (Err c) these those same = refl

-- the first bytes, where they hold the first line and its line feed
take_behind : (line behind : List ℕ) (room : ℕ) → length line < room → take room (line ++ 10 ∷ behind) ≡ line ++ 10 ∷ take (room - length line - 1) behind
take_behind line behind room more =
    let k = room - length line - 1 in
    let is : room ≡ length line + suc k = omega (arith, more) in
    ap (λ m. take m (line ++ 10 ∷ behind)) is ∙ take-append-add line (10 ∷ behind) (suc k)

-- a line that has room, with its line feed
line_fits : (line behind : List ℕ) (n at room : ℕ) (r : Reading) → HasNoFeed line → ReadsAsTaken behind → at + room ≡ 16777217 → length line < room →
    pieces_from n at r (pieces_of (take room (line ++ 10 ∷ behind))) ≡ pieces_from n at r (pieces_of (line ++ 10 ∷ behind))
line_fits line behind n at room r no_feed reads ends fits =
    let left = room - length line - 1 in
    let end = at + length line + 1 in
    let found = sized end (with_line r line) in
    ap (λ text. pieces_from n at r (pieces_of text)) (take_behind line behind room fits)
    ∙ cut_step n at r (line ++ 10 ∷ take left behind) line (take left behind) (cut_at line (take left behind) no_feed)
    ∙ same_at_line n found (λ s. pieces_from (n + 1) end s (pieces_of (take left behind))) (λ s. pieces_from (n + 1) end s (pieces_of behind))
    (λ s. reads (n + 1) end left s (omega (arith, ends, fits)))
    ∙ sym (cut_step n at r (line ++ 10 ∷ behind) line behind (cut_at line behind no_feed))

-- a line that a line feed ends
line_ended : (line behind : List ℕ) → HasNoFeed line → ReadsAsTaken behind → ReadsAsTaken (line ++ 10 ∷ behind)
line_ended line behind no_feed reads n at room r ends = elim (leb_tells room (length line)) [
  | inl less ↦
      ap (λ text. pieces_from n at r (pieces_of text)) (take-append-le room line (10 ∷ behind) less.1)
      ∙ no_room line n at room r no_feed ends less.1
      ∙ sym (ap (pieces_from n at r) (cut_at line behind no_feed).pieces
      ∙ past_limit n at r line (pieces_of behind) (omega (arith, ends, less.1)))
  | inr more ↦ line_fits line behind n at room r no_feed reads ends (omega (arith, more.1))
]

-- one byte more that is no line feed
one_more : (line : List ℕ) (b : ℕ) → HasNoFeed line → eqb b 10 ≡ false → HasNoFeed (line ++ b ∷ [])
one_more line b no_feed other =
    All-append (λ b. eqb b 10 ≡ false) line (b ∷ []) no_feed one
  where
    one : HasNoFeed (b ∷ [])
    one zero default inside = other
    one (suc i) default inside = absurd (omega (arith, inside))

-- the first bytes of a text, of which the front of a line is known
reads_taken : (rest front : List ℕ) → HasNoFeed front → ReadsAsTaken (front ++ rest)
reads_taken [] front no_feed = subst ReadsAsTaken (sym (append-nil front)) (line_alone front no_feed)
reads_taken (b ∷ rest) front no_feed =
    by_byte (eqb b 10) refl (reads_taken rest [] (All-nil (λ b. eqb b 10 ≡ false))) (reads_taken rest (front ++ b ∷ []))
  where
    by_byte : (t : Bool) → eqb b 10 ≡ t → ReadsAsTaken rest → (HasNoFeed (front ++ b ∷ []) → ReadsAsTaken ((front ++ b ∷ []) ++ rest)) →
        ReadsAsTaken (front ++ b ∷ rest)
    by_byte true is behind more = subst (λ feed. ReadsAsTaken (front ++ feed ∷ rest)) (sym (eqb-true b 10 is)) (line_ended front rest no_feed behind)
    by_byte false is behind more = subst ReadsAsTaken (append_assoc front (b ∷ []) rest) (more (one_more front b no_feed is))

-- what is read of the first bytes is what the whole text says
pub first_bytes : (all : List ℕ) → value_of (take 16777217 all) ≡ value_of all
unfolding value_of reading_of
first_bytes all = ap valued (reads_taken all [] (All-nil (λ b. eqb b 10 ≡ false)) 1 0 16777217 opening refl)
