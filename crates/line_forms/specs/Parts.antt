-- Rows of parts: the forms of lines.
use Rattle.std.specs.Prelude.{ℕ, List}
use Rattle.line_forms.specs.declared.choice.Choices.{Choices}
use Rattle.line_forms.specs.declared.kind.Kind.{Kind}
use Rattle.line_forms.specs.declared.part.Part.{Part}
use Rattle.line_forms.specs.declared.part.Part.TheVariants as part
use Rattle.line_forms.specs.declared.part.Rest.{Rest}
use Rattle.line_forms.specs.declared.sets.SetOf.{SetOf}

-- what may stand at a place of a line
pub data Place : Type 0 where
  -- that very word
  Word : List ℕ → Place
  -- the name of a thing of that kind
  Name : Kind → Place
  -- a name that is not declared yet
  NewName : Place
  -- a decimal number below 2^64
  Number : Place
  -- 1 to 8 hexadecimal digits, printed with eight
  DataWord : Place
  -- 1 to 8 hexadecimal digits, printed without leading zeros
  FlagWord : Place
  -- names of a set, each at most once, joined by bars
  Set : SetOf → Place
  -- one of some words
  Choice : Choices → Place
  -- `all`, or the name of a thing of that kind
  AllOr : Kind → Place
  -- `all`, or a decimal number below 2^64
  AllOrNumber : Place

-- what a part of the code's rows says
abbrev pub place_of : Part → Place
place_of (part.Word t) = Word t.now
place_of (part.Name k) = Name k
place_of part.NewName = NewName
place_of part.Number = Number
place_of part.DataWord = DataWord
place_of part.FlagWord = FlagWord
place_of (part.Set s) = Set s
place_of (part.Choice c) = Choice c
place_of (part.AllOr k) = AllOr k
place_of part.AllOrNumber = AllOrNumber

-- a form of lines: a part for each of the first words, and what stands behind them
pub record Row : Type 0 where
  pub parts : List Place
  pub rest : Rest
