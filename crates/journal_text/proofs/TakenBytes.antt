-- The first bytes of a text decide what it says.
use Rattle.std.proofs.Common.{ℕ, zero, suc, ◌≡◌, ◌<◌, ◌≤◌, ◌+◌, ◌-◌, ◌∙◌, eqb, nat_lt, Bool, true, false, List, [], ◌∷◌, ◌++◌, length, take, length-take-le, Result, Ok, Err, inl, inr, arith, refl, sym, ap, subst, append_assoc, append-nil, length-append}
use Rattle.std.specs.List.{All}
use Rattle.std.proofs.Math.Seq.{take-append-add}
use Rattle.std.proofs.lemmas.Bool.{eqb-true}
use Rattle.std.proofs.lemmas.Bool.Decides.{leb_tells}
use Rattle.std.proofs.lemmas.List.{take-append-le, take_all}
use Rattle.std.proofs.lemmas.List.Elements.{All-append, All-nil, All-take}
use Rattle.std.proofs.lemmas.List.Splits.{slice_split_at, slice_split_none}
use Rattle.line_forms.specs.declared.cause.Cause.{Cause}
use Rattle.line_forms.specs.declared.cause.Cause.TheVariants as cause
use Rattle.trace_words.specs.Cut.{CutsOff}
use Rattle.trace_words.specs.Lines.{pieces_of}
use Rattle.vk_types.specs.declared.plan.DevicePlan.{DevicePlan}
use Rattle.vk_types.specs.declared.steps.VkStep.{VkStep}
use Rattle.journal_text.specs.declared.reading.Reading.{Reading}
use Rattle.journal_text.specs.Reading.{opening}
use Rattle.journal_text.specs.Texts.{at_line, journal_of, journaled, pieces_from, reading_of, sized, with_last, with_line}
use Rattle.journal_text.proofs.TextSteps.{cut_step}

-- no byte of a line is a line feed
abbrev HasNoFeed : List ℕ → Type 0
HasNoFeed line = All (λ b. eqb b 10 ≡ false) line

-- behind so many bytes, and with room for so many up to the first past the limit, a text reads as its first bytes do
abbrev ReadsAsTaken : List ℕ → Type 0
ReadsAsTaken text =
    (n at room : ℕ) (r : Reading) → at + room ≡ 268435457 → pieces_from n at r (pieces_of (take room text)) ≡ pieces_from n at r (pieces_of text)

-- an end past the limit is refused for the size
is_past : (end : ℕ) → 268435456 < end → nat_lt 268435456 end ≡ true
is_past end past = elim (leb_tells 268435457 end) [ inl tells ↦ tells.0 | inr tells ↦ absurd (omega (arith, tells.1, past)) ]

sized_past : (end : ℕ) (found : Result Reading Cause) → 268435456 < end → sized end found ≡ Err cause.Size
unfolding sized
sized_past end found past = rw (is_past end past) refl

-- so is a first line that goes past the limit
past_limit : (n at : ℕ) (r : Reading) (line : List ℕ) (more : List (List ℕ)) → 268435456 < at + length line →
    pieces_from n at r (line ∷ more) ≡ Err (n, cause.Size)
unfolding pieces_from
past_limit n at r line [] past = rw (sized_past (at + length line) (with_last r line) past) refl
past_limit n at r line (next ∷ more) past = rw (sized_past (at + length line + 1) (with_line r line) (omega (arith, past))) refl

-- the line alone is one piece
alone : (line : List ℕ) → HasNoFeed line → pieces_of line ≡ line ∷ []
alone line no_feed = slice_split_none (λ b. eqb b 10) line no_feed

-- a line, a line feed, and what stands behind it
cut_at : (line behind : List ℕ) → HasNoFeed line → CutsOff 10 (line ++ 10 ∷ behind) line behind
cut_at line behind no_feed = record { pieces = slice_split_at (λ b. eqb b 10) line 10 behind no_feed refl; bytes = refl }

-- the first bytes of a line that has no room are refused for the size
no_room : (line : List ℕ) (n at room : ℕ) (r : Reading) → HasNoFeed line → at + room ≡ 268435457 → room ≤ length line →
    pieces_from n at r (pieces_of (take room line)) ≡ Err (n, cause.Size)
no_room line n at room r no_feed ends less =
    ap (pieces_from n at r) (alone (take room line) (All-take (λ b. eqb b 10 ≡ false) room line no_feed))
    ∙ past_limit n at r (take room line) [] (omega (arith, ends, length-take-le room line less))

-- a line and nothing behind it
line_alone : (line : List ℕ) → HasNoFeed line → ReadsAsTaken line
line_alone line no_feed n at room r ends = elim (leb_tells (length line) room) [
  | inl short ↦ ap (λ text. pieces_from n at r (pieces_of text)) (take_all room line short.1)
  | inr long ↦
      no_room line n at room r no_feed ends (omega (arith, long.1))
      ∙ sym (ap (pieces_from n at r) (alone line no_feed) ∙ past_limit n at r line [] (omega (arith, ends, long.1)))
]

-- what follows a line that was read is the same where it is the same for each reading
same_at_line : (n : ℕ) (found : Result Reading Cause) (these those : Reading → Result Reading (ℕ × Cause)) →
    ((s : Reading) → these s ≡ those s) → at_line n found these ≡ at_line n found those
same_at_line n (Ok s) these those same = same s
same_at_line n (Err c) these those same = refl

-- the first bytes, where they hold the first line and its line feed
take_behind : (line behind : List ℕ) (room : ℕ) → length line < room → take room (line ++ 10 ∷ behind) ≡ line ++ 10 ∷ take (room - length line - 1) behind
take_behind line behind room more =
    let k = room - length line - 1 in
    let is : room ≡ length line + suc k = omega (arith, more) in
    ap (λ m. take m (line ++ 10 ∷ behind)) is ∙ take-append-add line (10 ∷ behind) (suc k)

-- a line that has room, with its line feed
line_fits : (line behind : List ℕ) (n at room : ℕ) (r : Reading) → HasNoFeed line → ReadsAsTaken behind → at + room ≡ 268435457 → length line < room →
    pieces_from n at r (pieces_of (take room (line ++ 10 ∷ behind))) ≡ pieces_from n at r (pieces_of (line ++ 10 ∷ behind))
line_fits line behind n at room r no_feed reads ends fits =
    let left = room - length line - 1 in
    let end = at + length line + 1 in
    let found = sized end (with_line r line) in
    ap (λ text. pieces_from n at r (pieces_of text)) (take_behind line behind room fits)
    ∙ cut_step n at r (line ++ 10 ∷ take left behind) line (take left behind) (cut_at line (take left behind) no_feed)
    ∙ same_at_line n found (λ s. pieces_from (n + 1) end s (pieces_of (take left behind))) (λ s. pieces_from (n + 1) end s (pieces_of behind))
    (λ s. reads (n + 1) end left s (omega (arith, ends, fits)))
    ∙ sym (cut_step n at r (line ++ 10 ∷ behind) line behind (cut_at line behind no_feed))

-- a line that a line feed ends
line_ended : (line behind : List ℕ) → HasNoFeed line → ReadsAsTaken behind → ReadsAsTaken (line ++ 10 ∷ behind)
line_ended line behind no_feed reads n at room r ends = elim (leb_tells room (length line)) [
  | inl less ↦
      ap (λ text. pieces_from n at r (pieces_of text)) (take-append-le room line (10 ∷ behind) less.1)
      ∙ no_room line n at room r no_feed ends less.1
      ∙ sym (ap (pieces_from n at r) (cut_at line behind no_feed).pieces
      ∙ past_limit n at r line (pieces_of behind) (omega (arith, ends, less.1)))
  | inr more ↦ line_fits line behind n at room r no_feed reads ends (omega (arith, more.1))
]

-- one byte more that is no line feed
one_more : (line : List ℕ) (b : ℕ) → HasNoFeed line → eqb b 10 ≡ false → HasNoFeed (line ++ b ∷ [])
one_more line b no_feed other =
    All-append (λ b. eqb b 10 ≡ false) line (b ∷ []) no_feed one
  where
    one : HasNoFeed (b ∷ [])
    one zero default inside = other
    one (suc i) default inside = absurd (omega (arith, inside))

-- what holds of a line alone, and of a line and its line feed before a text of which it holds, holds of each text of which the
-- front of a line is known
by_lines : (P : List ℕ → Type 0) → ((line : List ℕ) → HasNoFeed line → P line) →
    ((line behind : List ℕ) → HasNoFeed line → P behind → P (line ++ 10 ∷ behind)) → (rest front : List ℕ) → HasNoFeed front → P (front ++ rest)
by_lines P of_line of_lines [] front no_feed = subst P (sym (append-nil front)) (of_line front no_feed)
by_lines P of_line of_lines (b ∷ rest) front no_feed =
    by_byte (eqb b 10) refl (by_lines P of_line of_lines rest [] (All-nil (λ b. eqb b 10 ≡ false))) (by_lines P of_line of_lines rest (front ++ b ∷ []))
  where
    by_byte : (t : Bool) → eqb b 10 ≡ t → P rest → (HasNoFeed (front ++ b ∷ []) → P ((front ++ b ∷ []) ++ rest)) → P (front ++ b ∷ rest)
    by_byte true is behind more = subst (λ feed. P (front ++ feed ∷ rest)) (sym (eqb-true b 10 is)) (of_lines front rest no_feed behind)
    by_byte false is behind more = subst P (append_assoc front (b ∷ []) rest) (more (one_more front b no_feed is))

-- what is read of the first bytes is what the whole text says
pub first_bytes : (all : List ℕ) → journal_of (take 268435457 all) ≡ journal_of all
unfolding journal_of reading_of
first_bytes all = ap journaled (by_lines ReadsAsTaken line_alone line_ended all [] (All-nil (λ b. eqb b 10 ≡ false)) 1 0 268435457 opening refl)

-- a text that is read to its end passes no limit
abbrev EndsWithin : List ℕ → Type 0
EndsWithin text = (n at : ℕ) (r s : Reading) → pieces_from n at r (pieces_of text) ≡ Ok s → at + length text ≤ 268435456

-- nor does a line and nothing behind it
alone_within : (line : List ℕ) → HasNoFeed line → EndsWithin line
alone_within line no_feed n at r s read =
    let of_line : pieces_from n at r (line ∷ []) ≡ Ok s = sym (ap (pieces_from n at r) (alone line no_feed)) ∙ read in
    elim (leb_tells 268435457 (at + length line)) [
      | inl past ↦ absurd (cc (past_limit n at r line [] past.1, of_line))
      | inr short ↦ omega (arith, short.1)
    ]

-- what follows a line was read where the whole was
follows : (n : ℕ) (found : Result Reading Cause) (more : Reading → Result Reading (ℕ × Cause)) (s : Reading) → at_line n found more ≡ Ok s →
    (t : Reading) × (more t ≡ Ok s)
follows n (Ok t) more s read = (t, read)
follows n (Err c) more s read = absurd (cc)

-- nor does a line that a line feed ends
ended_within : (line behind : List ℕ) → HasNoFeed line → EndsWithin behind → EndsWithin (line ++ 10 ∷ behind)
ended_within line behind no_feed within n at r s read =
    let end = at + length line + 1 in
    let after = follows n (sized end (with_line r line)) (λ s. pieces_from (n + 1) end s (pieces_of behind)) s
    (sym (cut_step n at r (line ++ 10 ∷ behind) line behind (cut_at line behind no_feed)) ∙ read) in
    omega (arith, within (n + 1) end after.0 s after.1, length-append line (10 ∷ behind))

-- the reading of a text that is a journal
reading_read : (read : Result Reading (ℕ × Cause)) (j : DevicePlan × List VkStep) → journaled read ≡ Ok j → (s : Reading) × (read ≡ Ok s)
reading_read (Ok s) j is = (s, refl)
reading_read (Err p) j is = absurd (cc)

-- a text that is a journal is no longer than the limit
pub within_limit : (all : List ℕ) (j : DevicePlan × List VkStep) → journal_of all ≡ Ok j → length all ≤ 268435456
unfolding journal_of reading_of
within_limit all j is =
    let read = reading_read (pieces_from 1 0 opening (pieces_of all)) j is in
    omega (arith, by_lines EndsWithin alone_within ended_within all [] (All-nil (λ b. eqb b 10 ≡ false)) 1 0 opening read.0 read.1)
