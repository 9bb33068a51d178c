-- The numbers of a list, as a chooser gives them.
use Rattle.std.specs.Prelude.{ℕ, List, Option, slice_index_or}

-- a chooser of the numbers of a list
pub record ListView : Type 0 where
  pub list : List ℕ
  pub started : Option ℕ
  -- the numbers given since the last start
  pub given : List ℕ

-- the number at a place of the list, and 0 behind its end
abbrev pub listed : List ℕ → ℕ → ℕ
listed list k = slice_index_or list k 0
