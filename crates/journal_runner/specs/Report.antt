-- What a call says: what it was given, what it answers, and what it wrote.
use Rattle.std.specs.Prelude.{ℕ, ◌≡◌, ◌⊎◌, Bool, true, false, List, [], ◌∷◌, Option, IfSome, Result, Ok, Err}
use Rattle.std.specs.Io.KnownBytes.{Appends}
use Rattle.dx_base.specs.Faults.{HasRisen}
use Rattle.line_forms.specs.declared.cause.Cause.{Cause}
use Rattle.text_io.specs.Prefix.{AppendsPart}
use Rattle.journal_runner.specs.Answers.{Answer, answer_by, check_in, has_number, text_of}
use Rattle.journal_runner.specs.declared.fault.ToolFault.TheVariants as fault
use Rattle.vk_journal_check.specs.declared.checking.StepCheck.{StepCheck}

-- what a call was given: the words, the bytes that the source told, and the counts of faults of the source before and after
pub record Given : Type 0 where
  pub words : List (List ℕ)
  pub told : Option (List ℕ)
  pub source : ℕ × ℕ

-- the sink before and after: what it told of its bytes, and its counts of faults
pub record Sunk : Type 0 where
  pub before : Option (List ℕ)
  pub after : Option (List ℕ)
  pub faults : ℕ × ℕ

-- the words are ones of the program, which takes none
abbrev pub are_good : List (List ℕ) → Bool
are_good [] = true
are_good (word ∷ words) = false

-- a text that says something: the one that the source had, where it tells it
pub record IsRead (told : Option (List ℕ)) (said : Result StepCheck (ℕ × Cause)) : Type 0 where
  pub text : List ℕ
  pub says : check_in text ≡ said
  pub given : IfSome told (λ all. check_in all ≡ said)

-- an answer is what a text says, or that memory was refused
abbrev pub Checks : Answer → Result StepCheck (ℕ × Cause) → Type 0
Checks (Ok c) said = said ≡ Ok c
Checks (Err fault.Usage) said = ⊥
Checks (Err (fault.Refused n c)) said = said ≡ Err (n, c)
Checks (Err fault.ReadFault) said = ⊥
Checks (Err fault.WriteFault) said = ⊥
Checks (Err fault.Memory) said = Unit {0}

-- what an answer says of what the call was given
abbrev pub Says : Given → Answer → Type 0
Says g (Ok c) = (are_good g.words ≡ true) × IsRead g.told (Ok c)
Says g (Err fault.Usage) = are_good g.words ≡ false
Says g (Err (fault.Refused n c)) = (are_good g.words ≡ true) × IsRead g.told (Err (n, c))
Says g (Err fault.ReadFault) = (are_good g.words ≡ true) × HasRisen g.source.0 g.source.1
Says g (Err fault.WriteFault) = ⊥
Says g (Err fault.Memory) = are_good g.words ≡ true

-- the whole text was written; or a write failed, and a part of it was, from its beginning
abbrev pub Writes : Sunk → List ℕ → Answer → Answer → Type 0
Writes k text meant r =
    ((r ≡ meant) × Appends k.before k.after text) ⊎ ((r ≡ Err fault.WriteFault) × (AppendsPart k.before k.after text × HasRisen k.faults.0 k.faults.1))

-- an answer's text was written; or memory was refused for it, where it has a number, and the text that tells this was
abbrev pub IsWritten : Sunk → Answer → Answer → Type 0
IsWritten k meant r = Writes k (text_of meant) meant r ⊎ ((has_number meant ≡ true) × Writes k (text_of (Err fault.Memory)) (Err fault.Memory) r)

-- the report of a call: what it was to answer before that was written, which says what holds of what it was given, and of which
-- the text was written
pub record IsReport (g : Given) (k : Sunk) (r : Answer) : Type 0 where
  pub meant : Answer
  pub says : Says g meant
  pub text : Writes k (text_of meant) meant r

-- the answer to bad words
abbrev pub IsUsage : Sunk → Answer → Type 0
IsUsage k r = Writes k (text_of (Err fault.Usage)) (Err fault.Usage) r

-- the answer to a text where neither the source nor the sink fails: what it says, or that memory was refused
abbrev pub IsAnswerTo : List ℕ → Answer → Type 0
IsAnswerTo text r = (r ≡ answer_by (check_in text)) ⊎ (r ≡ Err fault.Memory)
