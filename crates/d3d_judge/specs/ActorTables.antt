-- Tables of numbers by word, one for each queue or for each thread, where one was made.
use Rattle.std.specs.Prelude.{ℕ, ◌≡◌, ◌≤◌, nat_lt, List, length, replicate, Bool, false, Option, Some, None}
use Rattle.dx_base.specs.Each.{Each}
use Rattle.dx_base.specs.Lists.{changed_at}
use Rattle.clocks.specs.Clocks.{number}
use Rattle.word_trees.specs.Numbers.{most, raised}
use Rattle.d3d_judge.specs.Carried.{item_or}
use Rattle.d3d_judge.specs.Tables.{table, AllInside}
use Rattle.d3d_judge.specs.Touches.{Touch}

-- the greatest number of a table in a range is above another number; where there is no table, none is
abbrev pub above : Option (List ℕ) → ℕ → ℕ → ℕ → Bool
above None known first end = false
above (Some zs) known first end = nat_lt known (most 0 first end zs)

-- the same by the table of an actor, and what is known of it
abbrev pub actor_above : List (Option (List ℕ)) → List ℕ → ℕ → ℕ → ℕ → Bool
actor_above tables known first end a = above (item_or None tables a) (number known a) first end

-- a table has the touches that a test picks; where there is no table, the test picks none
abbrev pub Tells : (Touch → Bool) → List Touch → Option (List ℕ) → Type 0
Tells pick made None = Each (λ m. pick m ≡ false) made
Tells pick made (Some zs) = (zs ≡ table pick made (replicate (length zs) 0)) × AllInside pick (length zs) made

-- the table of each actor has the touches that the actor's test picks
abbrev pub AreTied : (ℕ → Touch → Bool) → List Touch → List (Option (List ℕ)) → Type 0
AreTied picks made tables = (a : ℕ) → Tells (picks a) made (item_or None tables a)

abbrev pub raised_table : ℕ → ℕ → ℕ → Option (List ℕ) → Option (List ℕ)
raised_table first end n None = None
raised_table first end n (Some zs) = Some (raised 0 first end n zs)

abbrev pub made_table : ℕ → Option (List ℕ) → Option (List ℕ)
made_table n None = Some (replicate n 0)
made_table n (Some zs) = Some zs

-- a table was made, of that many words or more, where there was none
pub record IsMade (words : ℕ) (old new : Option (List ℕ)) : Type 0 where
  pub made : ℕ
  pub enough : words ≤ made
  pub table : new ≡ made_table made old

-- the same of the table of an actor
pub record AreMade (words : ℕ) (old : List (Option (List ℕ))) (a : ℕ) (new : List (Option (List ℕ))) : Type 0 where
  pub made : ℕ
  pub enough : words ≤ made
  pub tables : new ≡ changed_at (made_table made) a old
