-- Answers of the program: what a text says of its steps, the line that tells an answer, and the exit status.
use Rattle.std.specs.Prelude.{ℕ, Bool, true, false, List, [], ◌∷◌, decimal, codes, Result, Ok, Err}
use Rattle.line_forms.specs.Causes.{cause_word}
use Rattle.line_forms.specs.Lines.{line_text}
use Rattle.line_forms.specs.declared.cause.Cause.{Cause}
use Rattle.journal_runner.specs.declared.fault.ToolFault.{ToolFault}
use Rattle.journal_runner.specs.declared.fault.ToolFault.TheVariants as fault
use Rattle.journal_text.specs.Texts.{journal_of}
use Rattle.vk_journal_check.specs.StepChecks.{checked}
use Rattle.vk_journal_check.specs.declared.checking.StepCheck.{StepCheck}
use Rattle.vk_journal_check.specs.declared.checking.StepCheck.TheVariants as check
use Rattle.vk_sync_rules.specs.declared.rules.VkRule.{VkRule}
use Rattle.vk_sync_rules.specs.declared.rules.VkRule.TheVariants as rule
use Rattle.vk_types.specs.declared.plan.DevicePlan.{DevicePlan}
use Rattle.vk_types.specs.declared.steps.VkStep.{VkStep}

-- the answer of the program: what the steps are, or why it does not say
abbrev pub Answer : Type 0
Answer = Result StepCheck ToolFault

-- what the steps of a journal are, where there is one
abbrev pub check_of : Result (DevicePlan × List VkStep) (ℕ × Cause) → Result StepCheck (ℕ × Cause)
check_of (Ok j) = Ok (checked j.0 j.1)
check_of (Err p) = Err p

-- what the steps of a text's journal are; or the text's first bad line, counted from 1, and the first of its causes
abbrev pub check_in : List ℕ → Result StepCheck (ℕ × Cause)
check_in text = check_of (journal_of text)

-- the answer to a text, where no fault comes
abbrev pub answer_by : Result StepCheck (ℕ × Cause) → Answer
answer_by (Ok c) = Ok c
answer_by (Err p) = Err (fault.Refused p.0 p.1)

-- the name of a rule
abbrev pub rule_word : VkRule → List ℕ
rule_word rule.V1 = codes "V1"
rule_word rule.V2 = codes "V2"
rule_word rule.V3 = codes "V3"
rule_word rule.V4 = codes "V4"
rule_word rule.V5 = codes "V5"
rule_word rule.V6 = codes "V6"
rule_word rule.V7 = codes "V7"
rule_word rule.V8 = codes "V8"
rule_word rule.V9 = codes "V9"
rule_word rule.V10 = codes "V10"

-- the words of the line that tells what steps are
abbrev pub check_words : StepCheck → List (List ℕ)
check_words check.Clean = codes "clean" ∷ []
check_words (check.Broken r n) = codes "broken" ∷ rule_word r ∷ decimal n ∷ []
check_words (check.Impossible n) = codes "impossible" ∷ decimal n ∷ []

-- the text that tells an answer: one line, and nothing where the sink failed
abbrev pub text_of : Answer → List ℕ
text_of (Ok c) = line_text (check_words c)
text_of (Err fault.Usage) = line_text (codes "usage" ∷ [])
text_of (Err (fault.Refused n c)) = line_text (codes "refused" ∷ codes "line" ∷ decimal n ∷ cause_word c ∷ [])
text_of (Err fault.ReadFault) = line_text (codes "read" ∷ codes "fault" ∷ [])
text_of (Err fault.WriteFault) = []
text_of (Err fault.Memory) = line_text (codes "out" ∷ codes "of" ∷ codes "memory" ∷ codes "8007000e" ∷ [])

-- the text that tells an answer has a number, and takes memory
abbrev pub has_number : Answer → Bool
has_number (Ok check.Clean) = false
has_number (Ok (check.Broken r n)) = true
has_number (Ok (check.Impossible n)) = true
has_number (Err fault.Usage) = false
has_number (Err (fault.Refused n c)) = true
has_number (Err fault.ReadFault) = false
has_number (Err fault.WriteFault) = false
has_number (Err fault.Memory) = false

-- the exit status of the program
abbrev pub exit_code_of : Answer → ℕ
exit_code_of (Ok check.Clean) = 0
exit_code_of (Ok (check.Broken r n)) = 6
exit_code_of (Ok (check.Impossible n)) = 1
exit_code_of (Err fault.Usage) = 2
exit_code_of (Err (fault.Refused n c)) = 3
exit_code_of (Err fault.ReadFault) = 4
exit_code_of (Err fault.WriteFault) = 5
exit_code_of (Err fault.Memory) = 8
