-- Laws of the text of a trace.
use Rattle.std.specs.Prelude.{ℕ, ◌≡◌, ◌↔◌, ◌≤◌, List, length, take, Ok}
use Rattle.std.specs.List.{All}
use Rattle.trace_words.specs.Lines.{pieces_of}
use Rattle.trace_text.specs.declared.trace.Trace.{Trace}
use Rattle.trace_text.specs.Grammar.{IsTextOf}
use Rattle.trace_text.specs.Items.{trace_text}
use Rattle.trace_text.specs.Seen.{seen}
use Rattle.trace_text.specs.Sound.{IsSound}
use Rattle.trace_text.specs.Values.{Value, IsWritten, value_of}

-- what lines write is sound, and so is what each trace says
pub record SaysSound : Type 0 where
  pub lines : (v : Value) → IsWritten v → IsSound v
  pub traces : (t : Trace) → IsSound (seen t)

-- what is read of a text is what the text writes, a text that writes a value is read as that value, and no text writes two
pub record ReadsTexts : Type 0 where
  pub read_writes : (text : List ℕ) (v : Value) → value_of text ≡ Ok v → IsTextOf text v
  pub written_reads : (text : List ℕ) (v : Value) → IsTextOf text v → value_of text ≡ Ok v
  pub one_meaning : (text : List ℕ) (v u : Value) → IsTextOf text v → IsTextOf text u → v ≡ u

-- the text of a value that lines write is read as that value, where it is at most 16,777,216 bytes long; so is the
-- text of what a trace says
pub record PrintsBack : Type 0 where
  pub lines : (v : Value) → IsWritten v → length (trace_text v) ≤ 16777216 → value_of (trace_text v) ≡ Ok v
  pub traces : (t : Trace) → length (trace_text (seen t)) ≤ 16777216 → value_of (trace_text (seen t)) ≡ Ok (seen t)

-- each line of the text of a value has at most 4,096 bytes, its line feed not counted
abbrev pub HasShortLines : Value → Type 0
HasShortLines v = All (λ line. length line ≤ 4096) (pieces_of (trace_text v))

-- lines write a value exactly where it is sound and no line of its text is too long; and then it is read of that text,
-- where the whole text is not too long
pub record ReadsSound : Type 0 where
  pub written : (v : Value) → IsWritten v ↔ (IsSound v × HasShortLines v)
  pub reads : (v : Value) → IsSound v → HasShortLines v → length (trace_text v) ≤ 16777216 → value_of (trace_text v) ≡ Ok v

-- what the first bytes of a text say, up to the first past the limit, is what the whole text says, its bad line and cause included
abbrev pub FirstBytesCount : Type 0
FirstBytesCount = (all : List ℕ) → value_of (take 16777217 all) ≡ value_of all
