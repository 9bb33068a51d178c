-- A text of short lines: none of its pieces is long, and it is not long itself.
use Rattle.std.proofs.Common.{ℕ, ◌≡◌, ◌≤◌, ◌*◌, ◌∙◌, eqb, Bool, true, false, List, [], ◌∷◌, ◌++◌, length, refl, ap, subst, sym, arith, lit≤, length-append, append_assoc}
use Rattle.std.specs.List.{All, AllByRecursion, onto_first}
use Rattle.std.proofs.lemmas.List.Elements.{All-from_recursion}
use Rattle.std.proofs.lemmas.List.Splits.{slice_split-cons_yes, slice_split-cons_no}
use Rattle.trace_words.specs.Lines.{pieces_of}
use Rattle.trace_text.specs.Grammar.{text_of_lines}

-- lines of at most 63 bytes
abbrev pub AreBrief : List (List ℕ) → Type 0
AreBrief lines = AllByRecursion (λ line. length line ≤ 63) lines

-- pieces of at most 4,096 bytes
abbrev ArePieces : List (List ℕ) → Type 0
ArePieces pieces = AllByRecursion (λ piece. length piece ≤ 4096) pieces

-- the first of some pieces has at most so many bytes, and the others at most 4,096
record BeginsShort (n : ℕ) (pieces : List (List ℕ)) : Type 0 where
  first : List ℕ
  others : List (List ℕ)
  are : pieces ≡ first ∷ others
  short : length first ≤ n
  behind : ArePieces others

-- so have all of them
all_short : (n : ℕ) (pieces : List (List ℕ)) → n ≤ 4096 → BeginsShort n pieces → ArePieces pieces
all_short n pieces few at = subst ArePieces (sym at.are) (omega (arith, at.short, few), at.behind)

-- a line and its line feed before a text
cut : (line text : List ℕ) → length line ≤ 4096 → ArePieces (pieces_of text) → BeginsShort (length line) (pieces_of (line ++ 10 ∷ text))
cut [] text few all = record {
  first = [];
  others = pieces_of text;
  are = slice_split-cons_yes (λ b. eqb b 10) 10 text refl;
  short = omega arith;
  behind = all;
}
cut (b ∷ line) text few all = by_byte (eqb b 10) refl (cut line text (omega (arith, few)) all)
  where
    by_byte : (t : Bool) → eqb b 10 ≡ t → BeginsShort (length line) (pieces_of (line ++ 10 ∷ text)) →
        BeginsShort (length (b ∷ line)) (pieces_of ((b ∷ line) ++ 10 ∷ text))
    by_byte true is at = record {
      first = [];
      others = pieces_of (line ++ 10 ∷ text);
      are = slice_split-cons_yes (λ b. eqb b 10) b (line ++ 10 ∷ text) is;
      short = omega arith;
      behind = all_short (length line) (pieces_of (line ++ 10 ∷ text)) (omega (arith, few)) at;
    }
    by_byte false is at = record {
      first = b ∷ at.first;
      others = at.others;
      are = slice_split-cons_no (λ b. eqb b 10) b (line ++ 10 ∷ text) is ∙ ap (onto_first b) at.are;
      short = omega (arith, at.short);
      behind = at.behind;
    }

-- the pieces of a text of short lines
pieces : (lines : List (List ℕ)) → AreBrief lines → ArePieces (pieces_of (text_of_lines lines))
pieces [] brief = (lit≤ tt, tt)
pieces (line ∷ lines) brief =
    let few : length line ≤ 4096 = omega (arith, brief.0) in
    subst (λ text. ArePieces (pieces_of text)) (sym (append_assoc line (10 ∷ []) (text_of_lines lines)))
    (all_short (length line) (pieces_of (line ++ 10 ∷ text_of_lines lines)) few (cut line (text_of_lines lines) few (pieces lines brief.1)))

-- no piece of a text of short lines is long
pub pieces_short : (lines : List (List ℕ)) → AreBrief lines → All (λ line. length line ≤ 4096) (pieces_of (text_of_lines lines))
pieces_short lines brief = All-from_recursion (λ line. length line ≤ 4096) (pieces_of (text_of_lines lines)) (pieces lines brief)

-- a text of short lines has at most 64 bytes a line
pub text_short : (lines : List (List ℕ)) → AreBrief lines → length (text_of_lines lines) ≤ 64 * length lines
text_short [] brief = lit≤ tt
text_short (line ∷ lines) brief =
    omega (
      arith,
      length-append (line ++ 10 ∷ []) (text_of_lines lines),
      length-append line (10 ∷ []),
      brief.0,
      text_short lines brief.1,
    )
