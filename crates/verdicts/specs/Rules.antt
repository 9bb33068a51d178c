-- The names of rules.
use Rattle.std.specs.Prelude.{ℕ, List, codes}
use Rattle.verdicts.specs.declared.rules.Rule.{Rule}
use Rattle.verdicts.specs.declared.rules.Rule.TheVariants as rule

-- the name of a rule
abbrev pub rule_word : Rule → List ℕ
rule_word rule.B1 = codes "B1"
rule_word rule.B2 = codes "B2"
rule_word rule.B3 = codes "B3"
rule_word rule.B4 = codes "B4"
rule_word rule.B5 = codes "B5"
rule_word rule.B6 = codes "B6"
rule_word rule.B7 = codes "B7"
rule_word rule.B8 = codes "B8"
rule_word rule.B9 = codes "B9"
rule_word rule.B10 = codes "B10"
rule_word rule.B11 = codes "B11"
rule_word rule.B12 = codes "B12"
rule_word rule.B13 = codes "B13"
