use Rattle.std.proofs.Common.{◌≡◌, drop}
use Rattle.line_forms.specs.Choices.{chosen}
use Rattle.line_forms.proofs.choice.chosen.Given as goal

abbrev pub invariant-loop-choice : goal.invariant-loop-choice
invariant-loop-choice l = chosen (drop l.choice-index l.choices) l.word ≡ chosen l.choices l.word
