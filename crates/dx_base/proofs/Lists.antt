-- A list with the item at a place changed: by writing there, its length, and its items.
use Rattle.std.proofs.Common.{ℕ, zero, suc, ◌≡◌, ◌≢◌, ◌<◌, ◌≤◌, ◌+◌, ◌∙◌, refl, ap, List, [], ◌∷◌, ◌++◌, length, get_or, slice_set, slice_get, Some, option_map, map, take, add-one, arith}
use Rattle.std.proofs.lemmas.List.{length-take, length-append, length-drop}
use Rattle.std.proofs.Common.{drop, Bool, true, false}
use Rattle.std.specs.List.{list_all}
use Rattle.std.specs.Prelude.{◌&&◌}
use Rattle.dx_base.specs.Lists.{changed_at, put}

module _ {A : Type 0} where
  -- writing at a place what a function makes of the item there
  pub set_is_changed : (f : A → A) (xs : List A) (i : ℕ) (x : A) → slice_get xs i ≡ Some x → slice_set xs i (f x) ≡ changed_at f i xs
  set_is_changed f [] i y h = refl
  set_is_changed f (x ∷ xs) zero y h = cc
  set_is_changed f (x ∷ xs) (suc i) y h = ap (λ t. x ∷ t) (set_is_changed f xs i y h)

  -- the same for an item that was lent to be written
  pub write_is_changed : (f : A → A) (xs : List A) (i : ℕ) (x y : A) → i < length xs → x ≡ get_or xs i x → y ≡ f x → slice_set xs i y ≡ changed_at f i xs
  write_is_changed f [] i x y l h e = refl
  write_is_changed f (z ∷ xs) zero x y l h e = cc
  write_is_changed f (z ∷ xs) (suc i) x y l h e = ap (λ t. z ∷ t) (write_is_changed f xs i x y (omega arith) h e)

  -- writing the item that stands there changes nothing
  pub write_is_same : (xs : List A) (i : ℕ) (x y : A) → i < length xs → x ≡ get_or xs i x → y ≡ x → slice_set xs i y ≡ xs
  write_is_same [] i x y l h e = refl
  write_is_same (z ∷ xs) zero x y l h e = cc
  write_is_same (z ∷ xs) (suc i) x y l h e = ap (λ t. z ∷ t) (write_is_same xs i x y (omega arith) h e)

  -- past the end nothing changes
  pub changed_past : (f : A → A) (xs : List A) (i : ℕ) → length xs ≤ i → changed_at f i xs ≡ xs
  changed_past f [] i l = refl
  changed_past f (x ∷ xs) zero l = absurd (omega arith)
  changed_past f (x ∷ xs) (suc i) l = ap (λ t. x ∷ t) (changed_past f xs i (omega arith))

  pub length_changed : (f : A → A) (xs : List A) (i : ℕ) → length (changed_at f i xs) ≡ length xs
  length_changed f [] i = refl
  length_changed f (x ∷ xs) zero = refl
  length_changed f (x ∷ xs) (suc i) = ap suc (length_changed f xs i)

  -- the item at the place that was changed
  pub get_changed : (f : A → A) (xs : List A) (i : ℕ) → slice_get (changed_at f i xs) i ≡ option_map f (slice_get xs i)
  get_changed f [] i = refl
  get_changed f (x ∷ xs) zero = refl
  get_changed f (x ∷ xs) (suc i) = get_changed f xs i

  -- the item at another place
  pub get_changed_other : (f : A → A) (xs : List A) (i j : ℕ) → i ≢ j → slice_get (changed_at f i xs) j ≡ slice_get xs j
  get_changed_other f [] i j n = refl
  get_changed_other f (x ∷ xs) zero zero n = absurd (n refl)
  get_changed_other f (x ∷ xs) zero (suc j) n = refl
  get_changed_other f (x ∷ xs) (suc i) zero n = refl
  get_changed_other f (x ∷ xs) (suc i) (suc j) n = get_changed_other f xs i j (λ e. n (ap suc e))

  -- the same with a default past the end
  pub get_or_changed : (f : A → A) (xs : List A) (i : ℕ) (d : A) → i < length xs → get_or (changed_at f i xs) i d ≡ f (get_or xs i d)
  get_or_changed f [] i d l = absurd (omega arith)
  get_or_changed f (x ∷ xs) zero d l = refl
  get_or_changed f (x ∷ xs) (suc i) d l = get_or_changed f xs i d (omega arith)

  pub get_or_changed_other : (f : A → A) (xs : List A) (i j : ℕ) (d : A) → i ≢ j → get_or (changed_at f i xs) j d ≡ get_or xs j d
  get_or_changed_other f [] i j d n = refl
  get_or_changed_other f (x ∷ xs) zero zero d n = absurd (n refl)
  get_or_changed_other f (x ∷ xs) zero (suc j) d n = refl
  get_or_changed_other f (x ∷ xs) (suc i) zero d n = refl
  get_or_changed_other f (x ∷ xs) (suc i) (suc j) d n = get_or_changed_other f xs i j d (λ e. n (ap suc e))

  -- two functions that agree at the item change the list alike
  pub changed_alike : (f g : A → A) (xs : List A) (i : ℕ) (x : A) → slice_get xs i ≡ Some x → f x ≡ g x → changed_at f i xs ≡ changed_at g i xs
  changed_alike f g [] i x h e = refl
  changed_alike f g (y ∷ xs) zero x h e = let same : y ≡ x = cc in rw same (ap (λ t. t ∷ xs) e)
  changed_alike f g (y ∷ xs) (suc i) x h e = ap (λ t. y ∷ t) (changed_alike f g xs i x h e)

same_for_next : {A B : Type 0} (y : B) (xs : List A) (i : ℕ) → i < length xs → map (λ _. y) (take (suc i) xs) ≡ map (λ _. y) (take i xs) ++ y ∷ []
same_for_next y [] i l = absurd (omega arith)
same_for_next y (x ∷ xs) zero l = refl
same_for_next y (x ∷ xs) (suc i) l = ap (λ t. y ∷ t) (same_for_next y xs i (omega arith))

-- one value for each item, and one item more
pub same_for_more : {A B : Type 0} (y : B) (xs : List A) (i : ℕ) → i < length xs → map (λ _. y) (take (i + 1) xs) ≡ map (λ _. y) (take i xs) ++ y ∷ []
same_for_more y xs i l = rw (add-one i) (same_for_next y xs i l)

-- a map over a changed list
pub map_changed : {A B : Type 0} (g : A → B) (f : A → A) (e : B → B) (k : ℕ) (xs : List A) → ((x : A) → g (f x) ≡ e (g x)) →
    map g (changed_at f k xs) ≡ changed_at e k (map g xs)
map_changed g f e k [] same = refl
map_changed g f e zero (x ∷ xs) same = ap (λ y. y ∷ map g xs) (same x)
map_changed g f e (suc k) (x ∷ xs) same = ap (λ ys. g x ∷ ys) (map_changed g f e k xs same)

-- two functions that agree everywhere map a list alike
pub map_alike : {A B : Type 0} (f g : A → B) (xs : List A) → ((x : A) → f x ≡ g x) → map f xs ≡ map g xs
map_alike f g [] same = refl
map_alike f g (x ∷ xs) same = ap (λ y. y ∷ map f xs) (same x) ∙ ap (λ ys. g x ∷ ys) (map_alike f g xs same)

-- words written into others leave their number
pub length_put : (first : ℕ) (new words : List ℕ) → length (put first new words) ≡ length words
length_put first new words =
    length-take (length words) (take first words ++ (new ++ drop (first + length new) words))
    ∙ omega (
      arith,
      length-append (take first words) (new ++ drop (first + length new) words),
      length-append new (drop (first + length new) words),
      length-take first words,
      length-drop (first + length new) words,
    )

-- a written item, seen through a function
pub map_write : {A B : Type 0} (f : A → B) (g : B → B) (xs : List A) (i : ℕ) (x y : A) → i < length xs → x ≡ get_or xs i x → f y ≡ g (f x) →
    map f (slice_set xs i y) ≡ changed_at g i (map f xs)
map_write f g [] i x y l h e = refl
map_write f g (z ∷ xs) zero x y l h e = ap (λ t. t ∷ map f xs) (e ∙ ap (λ t. g (f t)) h)
map_write f g (z ∷ xs) (suc i) x y l h e = ap (λ t. f z ∷ t) (map_write f g xs i x y (omega arith) h e)

-- a written item that looks as before, seen through a function
pub map_write_same : {A B : Type 0} (f : A → B) (xs : List A) (i : ℕ) (x y : A) → i < length xs → x ≡ get_or xs i x → f y ≡ f x →
    map f (slice_set xs i y) ≡ map f xs
map_write_same f [] i x y l h e = refl
map_write_same f (z ∷ xs) zero x y l h e = ap (λ t. t ∷ map f xs) (e ∙ ap f h)
map_write_same f (z ∷ xs) (suc i) x y l h e = ap (λ t. f z ∷ t) (map_write_same f xs i x y (omega arith) h e)

-- both sides of a test that holds
pub and_both : (a b : Bool) → (a && b) ≡ true → (a ≡ true) × (b ≡ true)
and_both true b h = (refl, h)
and_both false b h = absurd (cc)

pub and_of : (a b : Bool) → a ≡ true → b ≡ true → (a && b) ≡ true
and_of a b x y = ap (λ t. t && b) x ∙ y

-- a test of each item, of which one is changed
pub all_changed : {A : Type 0} (p : A → Bool) (f : A → A) (k : ℕ) (xs : List A) → list_all p xs ≡ true → ((x : A) → p x ≡ true → p (f x) ≡ true) → list_all p (changed_at f k xs) ≡ true
all_changed p f k [] all keeps = refl
all_changed p f zero (x ∷ xs) all keeps =
    let both : (p x ≡ true) × (list_all p xs ≡ true) = and_both (p x) (list_all p xs) all in
    and_of (p (f x)) (list_all p xs) (keeps x both.0) both.1
all_changed p f (suc k) (x ∷ xs) all keeps =
    let both : (p x ≡ true) × (list_all p xs ≡ true) = and_both (p x) (list_all p xs) all in
    and_of (p x) (list_all p (changed_at f k xs)) both.0 (all_changed p f k xs both.1 keeps)

-- a test of each item of two lists
pub all_append : {A : Type 0} (p : A → Bool) (xs ys : List A) → list_all p xs ≡ true → list_all p ys ≡ true → list_all p (xs ++ ys) ≡ true
all_append p [] ys first second = second
all_append p (x ∷ xs) ys first second =
    let both : (p x ≡ true) × (list_all p xs ≡ true) = and_both (p x) (list_all p xs) first in
    and_of (p x) (list_all p (xs ++ ys)) both.0 (all_append p xs ys both.1 second)
