-- What it is for a history to break no rule.
use Rattle.verdicts.specs.declared.rules.Verdict.{Verdict}
use Rattle.verdicts.specs.declared.rules.Verdict.TheVariants.{Clean, Broken}

-- no rule is broken so far
abbrev pub IsClean : Verdict → Type 0
IsClean Clean = Unit {0}
IsClean (Broken r n) = ⊥
