-- Words on lists that several layers share.
use Rattle.std.specs.Prelude.{ℕ, zero, suc, ◌+◌, List, [], ◌∷◌, ◌++◌, length, take, drop}

-- the list with the item at a place changed by a function; the list itself where the place is past its end
abbrev pub changed_at : {A : Type 0} → (A → A) → ℕ → List A → List A
changed_at f k [] = []
changed_at f zero (x ∷ xs) = f x ∷ xs
changed_at f (suc k) (x ∷ xs) = x ∷ changed_at f k xs

-- words with others written into them from one place on; those that would lie past the end are left out
abbrev pub put : ℕ → List ℕ → List ℕ → List ℕ
put first new words = take (length words) (take first words ++ (new ++ drop (first + length new) words))

-- some of the words from one place on, as far as there are
abbrev pub range_of : ℕ → ℕ → List ℕ → List ℕ
range_of first count words = take count (drop first words)
