-- Numbers of words in order, and the greatest of a range.
use Rattle.std.specs.Prelude.{ℕ, suc, ◌&&◌, ◌||◌, nat_le, nat_lt, max, List, [], ◌∷◌, Bool, false, cond}

-- a place is in a range
abbrev pub within : ℕ → ℕ → ℕ → Bool
within k a b = nat_le a k && nat_lt k b

-- the greatest number in a range, of a list that begins at place k; 0 where there is none
abbrev pub most : ℕ → ℕ → ℕ → List ℕ → ℕ
most k a b [] = 0
most k a b (x ∷ xs) = max (cond (within k a b) x 0) (most (suc k) a b xs)

-- the numbers of a range raised to n, of a list that begins at place k
abbrev pub raised : ℕ → ℕ → ℕ → ℕ → List ℕ → List ℕ
raised k a b n [] = []
raised k a b n (x ∷ xs) = cond (within k a b) (max n x) x ∷ raised (suc k) a b n xs

-- the greatest number of a list
abbrev pub greatest : List ℕ → ℕ
greatest [] = 0
greatest (x ∷ xs) = max x (greatest xs)

-- some place of a list that begins at place k is in a range
abbrev pub some_within : ℕ → ℕ → ℕ → List ℕ → Bool
some_within k a b [] = false
some_within k a b (x ∷ xs) = within k a b || some_within (suc k) a b xs
