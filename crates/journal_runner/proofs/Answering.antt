-- What an answer says of what the call was given, and what is written of it.
use Rattle.std.proofs.Common.{ℕ, ◌≡◌, ◌≤◌, ◌∙◌, refl, sym, ap, subst, arith, Bool, true, false, List, [], length, take, drop, Option, Some, None, IfSome, OnOk, ◌⊎◌, inl, inr, Result, Ok, Err}
use Rattle.std.proofs.lemmas.List.{drop_all}
use Rattle.dx_base.specs.Faults.{HasRisen}
use Rattle.line_forms.specs.declared.cause.Cause.{Cause}
use Rattle.journal_text.proofs.TakenBytes.{first_bytes, within_limit}
use Rattle.journal_text.specs.Texts.{journal_of}
use Rattle.journal_runner.specs.Answers.{Answer, answer_by, check_in, check_of, has_number, text_of}
use Rattle.journal_runner.specs.Report.{Checks, Given, IsAnswerTo, IsRead, IsReport, IsUsage, IsWritten, Says, Sunk, Writes, are_good}
use Rattle.journal_runner.specs.declared.fault.ToolFault.TheVariants as fault
use Rattle.vk_journal_check.specs.declared.checking.StepCheck.{StepCheck}
use Rattle.vk_journal_check.specs.declared.checking.StepCheck.TheVariants as check
use Rattle.vk_types.specs.declared.plan.DevicePlan.{DevicePlan}
use Rattle.vk_types.specs.declared.steps.VkStep.{VkStep}

-- what the first bytes say, the source's text says
same_check : (told : Option (List ℕ)) (text : List ℕ) (said : Result StepCheck (ℕ × Cause)) → IfSome told (λ all. text ≡ take 268435457 all) →
    check_in text ≡ said → IfSome told (λ all. check_in all ≡ said)
same_check None text said first says = tt
same_check (Some all) text said first says = ap check_of (sym (first_bytes all) ∙ ap journal_of (sym first)) ∙ says

-- the answer to the bytes that were read says what it says of the source's text
pub answered : (g : Given) (text : List ℕ) (r : Answer) → are_good g.words ≡ true → IfSome g.told (λ all. text ≡ take 268435457 all) → Checks r (check_in text) →
    Says g r
answered g text (Ok c) good first says = (good, record { text = text; says = says; given = same_check g.told text (Ok c) first says })
answered g text (Err fault.Usage) good first says = absurd says
answered g text (Err (fault.Refused n c)) good first says = (good, record { text = text; says = says; given = same_check g.told text (Err (n, c)) first says })
answered g text (Err fault.ReadFault) good first says = absurd says
answered g text (Err fault.WriteFault) good first says = absurd says
answered g text (Err fault.Memory) good first says = good

-- memory is refused for a line where the words are good
number_good : (g : Given) (meant : Answer) → Says g meant → has_number meant ≡ true → are_good g.words ≡ true
number_good g (Ok check.Clean) says number = says.0
number_good g (Ok (check.Broken r n)) says number = says.0
number_good g (Ok (check.Impossible n)) says number = says.0
number_good g (Err fault.Usage) says number = absurd cc
number_good g (Err (fault.Refused n c)) says number = says.0
number_good g (Err fault.ReadFault) says number = says.0
number_good g (Err fault.WriteFault) says number = absurd says
number_good g (Err fault.Memory) says number = says

-- the report of what was meant and written
pub reported : (g : Given) (k : Sunk) (meant r : Answer) → Says g meant → IsWritten k meant r → IsReport g k r
reported g k meant r says (inl whole) = record { meant = meant; says = says; text = whole }
reported g k meant r says (inr refused) = record { meant = Err fault.Memory; says = number_good g meant says refused.0; text = refused.1 }

-- bad words have one answer
pub usage_meant : (g : Given) (meant : Answer) → are_good g.words ≡ false → Says g meant → meant ≡ Err fault.Usage
usage_meant g (Ok c) bad says = absurd cc
usage_meant g (Err fault.Usage) bad says = refl
usage_meant g (Err (fault.Refused n c)) bad says = absurd cc
usage_meant g (Err fault.ReadFault) bad says = absurd cc
usage_meant g (Err fault.WriteFault) bad says = absurd says
usage_meant g (Err fault.Memory) bad says = absurd cc

usage_written : (k : Sunk) (r : Answer) → IsWritten k (Err fault.Usage) r → IsUsage k r
usage_written k r (inl whole) = whole
usage_written k r (inr refused) = absurd cc

pub usage_said : (g : Given) (k : Sunk) (meant r : Answer) → are_good g.words ≡ false → Says g meant → IsWritten k meant r → IsUsage k r
usage_said g k meant r bad says written = usage_written k r (subst (λ m. IsWritten k m r) (usage_meant g meant bad says) written)

-- where the sink does not fail, the answer is the one that was meant
kept : (k : Sunk) (text : List ℕ) (meant r : Answer) → (HasRisen k.faults.0 k.faults.1 → ⊥) → Writes k text meant r → r ≡ meant
kept k text meant r none (inl whole) = whole.0
kept k text meant r none (inr failed) = absurd (none failed.1.1)

-- the answer that is meant where the source does not fail
meant_to : (g : Given) (all : List ℕ) (meant : Answer) → g.told ≡ Some all → are_good g.words ≡ true → (HasRisen g.source.0 g.source.1 → ⊥) → Says g meant → IsAnswerTo all meant
meant_to g all (Ok c) told good none says = inl (ap answer_by (sym (subst (λ t. IfSome t (λ text. check_in text ≡ Ok c)) told says.1.given)))
meant_to g all (Err fault.Usage) told good none says = absurd cc
meant_to g all (Err (fault.Refused n c)) told good none says = inl (ap answer_by (sym (subst (λ t. IfSome t (λ text. check_in text ≡ Err (n, c))) told says.1.given)))
meant_to g all (Err fault.ReadFault) told good none says = absurd (none says.1)
meant_to g all (Err fault.WriteFault) told good none says = absurd says
meant_to g all (Err fault.Memory) told good none says = inr refl

written_to : (k : Sunk) (all : List ℕ) (meant r : Answer) → (HasRisen k.faults.0 k.faults.1 → ⊥) → IsAnswerTo all meant → IsWritten k meant r → IsAnswerTo all r
written_to k all meant r none is (inl whole) = subst (IsAnswerTo all) (sym (kept k (text_of meant) meant r none whole)) is
written_to k all meant r none is (inr refused) = inr (kept k (text_of (Err fault.Memory)) (Err fault.Memory) r none refused.1)

answer_to : (told : Option (List ℕ)) (g : Given) (k : Sunk) (meant r : Answer) → g.told ≡ told → are_good g.words ≡ true → (HasRisen g.source.0 g.source.1 → ⊥) → (HasRisen k.faults.0 k.faults.1 → ⊥) →
    Says g meant → IsWritten k meant r → IfSome told (λ all. IsAnswerTo all r)
answer_to None g k meant r is good reads writes says written = tt
answer_to (Some all) g k meant r is good reads writes says written = written_to k all meant r writes (meant_to g all meant is good reads says) written

-- the answer where neither the source nor the sink fails
pub completed : (g : Given) (k : Sunk) (meant r : Answer) → are_good g.words ≡ true → (HasRisen g.source.0 g.source.1 → ⊥) → (HasRisen k.faults.0 k.faults.1 → ⊥) →
    Says g meant → IsWritten k meant r → IfSome g.told (λ all. IsAnswerTo all r)
completed g k meant r good reads writes says written = answer_to g.told g k meant r refl good reads writes says written

-- the steps of a journal were checked where a text's check is told
journal_checked : (read : Result (DevicePlan × List VkStep) (ℕ × Cause)) (c : StepCheck) → check_of read ≡ Ok c → (j : DevicePlan × List VkStep) × (read ≡ Ok j)
journal_checked (Ok j) c is = (j, refl)
journal_checked (Err p) c is = absurd cc

-- nothing is left of a text whose first bytes are a journal
none_left : (all text : List ℕ) (c : StepCheck) → text ≡ take 268435457 all → check_in text ≡ Ok c → drop 268435457 all ≡ []
none_left all text c first says =
    let read = journal_checked (journal_of text) c says in
    let short = within_limit all read.0 (sym (first_bytes all) ∙ ap journal_of (sym first) ∙ read.1) in
    drop_all 268435457 all (omega (arith, short))

-- the source was read to its end where its text's steps were checked
pub read_whole : (told after : Option (List ℕ)) (text : List ℕ) (r : Answer) → IfSome told (λ all. text ≡ take 268435457 all) →
    IfSome told (λ all. after ≡ Some (drop 268435457 all)) → Checks r (check_in text) → OnOk r (IfSome told (λ all. after ≡ Some []))
read_whole None after text (Ok c) first left says = tt
read_whole (Some all) after text (Ok c) first left says = left ∙ ap Some (none_left all text c first says)
read_whole told after text (Err e) first left says = tt
