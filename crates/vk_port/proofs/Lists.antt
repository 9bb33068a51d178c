-- Items of lists, by their place.
use Rattle.std.proofs.Common.{◌≡◌, ℕ, zero, suc, ◌+◌, ◌<◌, ◌≤◌, min, List, [], ◌∷◌, ◌++◌, map, length, drop, take, get_or, refl, sym, ap, ◌∙◌, arith, Some, slice_get}
use Rattle.std.proofs.lemmas.Option.{slice_get_within, get_or_from_slice_get}
use Rattle.std.proofs.lemmas.List.{map_more}
use Rattle.dx_base.specs.Lists.{changed_at}
pub use Rattle.vk_types.proofs.Lists.{opened, changed_is_set, written_back}
use Rattle.std.proofs.Math.Seq.{drop-nil}
use Rattle.std.proofs.Math.ListN.{drop_of_length-le, length-take}

-- each place of a list has an item
pub item_at : {X : Type 0} (xs : List X) (i : ℕ) → i < length xs → (x : X) × (slice_get xs i ≡ Some x)
item_at [] i h = absurd (omega (arith, h))
item_at (x ∷ xs) zero h = (x, refl)
item_at (x ∷ xs) (suc i) h = item_at xs i (omega (arith, h))

-- the first items of a list keep their places
pub get_of_take : {X : Type 0} (n : ℕ) (xs : List X) (i : ℕ) → i < n → slice_get (take n xs) i ≡ slice_get xs i
get_of_take zero xs i h = absurd (omega (arith, h))
get_of_take (suc n) [] i h = refl
get_of_take (suc n) (x ∷ xs) zero h = refl
get_of_take (suc n) (x ∷ xs) (suc i) h = get_of_take n xs i (omega (arith, h))

-- behind the first items there is none
pub drop_of_take : {X : Type 0} (n : ℕ) (xs : List X) (i : ℕ) → min n (length xs) ≤ i → drop i (take n xs) ≡ []
drop_of_take n xs i h = drop_of_length-le (take n xs) {i = i} (rw (length-take n xs) h)

-- past the end nothing changes
pub changed_past : {X : Type 0} (f : X → X) (k : ℕ) (xs : List X) → length xs ≤ k → changed_at f k xs ≡ xs
changed_past f k [] h = refl
changed_past f zero (x ∷ xs) h = absurd (omega (arith, h))
changed_past f (suc k) (x ∷ xs) h = ap (λ ys. x ∷ ys) (changed_past f k xs (omega (arith, h)))

-- a change keeps the length
pub length_changed : {X : Type 0} (f : X → X) (k : ℕ) (xs : List X) → length (changed_at f k xs) ≡ length xs
length_changed f k [] = refl
length_changed f zero (x ∷ xs) = refl
length_changed f (suc k) (x ∷ xs) = ap suc (length_changed f k xs)

-- one more item of a list is mapped
pub mapped_more : {X Y : Type 0} (f : X → Y) (xs : List X) (i : ℕ) (x : X) → slice_get xs i ≡ Some x → map f (take (i + 1) xs) ≡ map f (take i xs) ++ f x ∷ []
mapped_more f xs i x h =
    let within : i < length xs = slice_get_within xs i x h in
    let same : get_or xs i x ≡ x = get_or_from_slice_get xs i x x h in
    rw (map_more f xs i x within, same) refl

-- the item with which a list from a place on begins
pub head_at : {X : Type 0} (xs : List X) (i : ℕ) (x : X) (ys : List X) → x ∷ ys ≡ drop i xs → slice_get xs i ≡ Some x
head_at [] i x ys h = let none : length (x ∷ ys) ≡ 0 = ap length (h ∙ drop-nil i) in absurd (omega (arith, none))
head_at (z ∷ xs) zero x ys h = ap (λ (zs : List _). slice_get zs 0) (sym h)
head_at (z ∷ xs) (suc i) x ys h = head_at xs i x ys h

-- the others of a list from a place on
pub tail_at : {X : Type 0} (xs : List X) (i : ℕ) (x : X) (ys : List X) → x ∷ ys ≡ drop i xs → ys ≡ drop (i + 1) xs
tail_at xs i x ys h = ap (drop 1) (h ∙ opened xs i x (head_at xs i x ys h))
