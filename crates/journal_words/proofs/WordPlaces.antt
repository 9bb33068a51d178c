-- Words of lines, as far as a place.
use Rattle.std.proofs.Common.{ℕ, zero, suc, ◌≡◌, take, List, [], ◌∷◌, ap, map, refl}

-- the first words
pub map_take : {A B : Type 0} (f : A → B) (i : ℕ) (xs : List A) → map f (take i xs) ≡ take i (map f xs)
map_take f zero xs = refl
map_take f (suc i) [] = refl
map_take f (suc i) (x ∷ xs) = ap (λ ys. f x ∷ ys) (map_take f i xs)
