-- A list with one item changed.
use Rattle.std.proofs.Common.{◌≡◌, ◌≢◌, ℕ, zero, suc, ◌<◌, Bool, ◌&&◌, List, [], ◌∷◌, map, length, get_or, refl, ap, inl, inr}
use Rattle.std.specs.List.{list_all}
use Rattle.std.proofs.lemmas.List.{get_or-set_same, get_or-set_other}
use Rattle.dx_base.specs.Lists.{changed_at}
use Rattle.vk_port.proofs.Lists.{changed_is_set, changed_past}
use Rattle.std.proofs.lemmas.Bool.{cases_lt}

-- the item that was changed
pub get_changed : {X : Type 0} (f : X → X) (k : ℕ) (xs : List X) (d : X) → k < length xs → get_or (changed_at f k xs) k d ≡ f (get_or xs k d)
get_changed f k xs d h = rw (changed_is_set f k xs d h, get_or-set_same xs k (f (get_or xs k d)) d h) refl

-- another item
pub get_unchanged : {X : Type 0} (f : X → X) (k : ℕ) (xs : List X) (i : ℕ) (d : X) → i ≢ k → get_or (changed_at f k xs) i d ≡ get_or xs i d
get_unchanged f k xs i d other =
    elim (cases_lt k (length xs)) as (λ _. get_or (changed_at f k xs) i d ≡ get_or xs i d) [
      | inl h ↦ rw (changed_is_set f k xs d h, get_or-set_other xs k i (f (get_or xs k d)) d other) refl
      | inr h ↦ rw (changed_past f k xs h) refl
    ]

-- what a change keeps of each item
pub map_changed : {X Y : Type 0} (g : X → Y) (f : X → X) (k : ℕ) (xs : List X) → ((x : X) → g (f x) ≡ g x) → map g (changed_at f k xs) ≡ map g xs
map_changed g f k [] same = refl
map_changed g f zero (x ∷ xs) same = ap (λ (y : _). y ∷ map g xs) (same x)
map_changed g f (suc k) (x ∷ xs) same = ap (λ (ys : List _). g x ∷ ys) (map_changed g f k xs same)

-- a test that a change keeps
pub all_changed : {X : Type 0} (p : X → Bool) (f : X → X) (k : ℕ) (xs : List X) → ((x : X) → p (f x) ≡ p x) → list_all p (changed_at f k xs) ≡ list_all p xs
all_changed p f k [] same = refl
all_changed p f zero (x ∷ xs) same = ap (λ (b : Bool). b && list_all p xs) (same x)
all_changed p f (suc k) (x ∷ xs) same = ap (λ (b : Bool). p x && b) (all_changed p f k xs same)
