-- What holds of each item of a list: through a map, of two lists one behind the other, and at a place.
use Rattle.std.proofs.Common.{ℕ, zero, suc, ◌≡◌, refl, sym, subst, List, [], ◌∷◌, ◌++◌, map, slice_get, Some, arith}
use Rattle.std.specs.List.{flat_map}
use Rattle.dx_base.specs.Lists.{changed_at}
use Rattle.dx_base.specs.Each.{Each}

-- a fact that follows from another one
pub each_on : {A : Type 0} (Q P : A → Type 0) (xs : List A) → ((x : A) → Q x → P x) → Each Q xs → Each P xs
each_on Q P [] h all = tt
each_on Q P (x ∷ xs) h all = (h x all.0, each_on Q P xs h all.1)

-- a fact that follows from two others
pub each_both : {A : Type 0} (Q R P : A → Type 0) (xs : List A) → ((x : A) → Q x → R x → P x) → Each Q xs → Each R xs → Each P xs
each_both Q R P [] h all more = tt
each_both Q R P (x ∷ xs) h all more = (h x all.0 more.0, each_both Q R P xs h all.1 more.1)

-- a fact of every value holds of each item
pub each_any : {A : Type 0} (P : A → Type 0) → ((x : A) → P x) → (xs : List A) → Each P xs
each_any P h [] = tt
each_any P h (x ∷ xs) = (h x, each_any P h xs)

-- the images of items of which another fact holds
pub each_map : {A B : Type 0} (Q : A → Type 0) (P : B → Type 0) (f : A → B) → ((x : A) → Q x → P (f x)) → (xs : List A) → Each Q xs → Each P (map f xs)
each_map Q P f h [] all = tt
each_map Q P f h (x ∷ xs) all = (h x all.0, each_map Q P f h xs all.1)

-- the images of any items
pub each_new : {A B : Type 0} (P : B → Type 0) (f : A → B) → ((x : A) → P (f x)) → (xs : List A) → Each P (map f xs)
each_new P f h [] = tt
each_new P f h (x ∷ xs) = (h x, each_new P f h xs)

-- two lists, one behind the other
pub each_append : {A : Type 0} (P : A → Type 0) (xs ys : List A) → Each P xs → Each P ys → Each P (xs ++ ys)
each_append P [] ys all more = more
each_append P (x ∷ xs) ys all more = (all.0, each_append P xs ys all.1 more)

-- the first of two lists, one behind the other
pub each_first : {A : Type 0} (P : A → Type 0) (xs ys : List A) → Each P (xs ++ ys) → Each P xs
each_first P [] ys all = tt
each_first P (x ∷ xs) ys all = (all.0, each_first P xs ys all.1)

-- the second of two lists, one behind the other
pub each_second : {A : Type 0} (P : A → Type 0) (xs ys : List A) → Each P (xs ++ ys) → Each P ys
each_second P [] ys all = all
each_second P (x ∷ xs) ys all = each_second P xs ys all.1

-- the lists that items stand for, one behind the other
pub each_flat : {A B : Type 0} (P : B → Type 0) (f : A → List B) → ((x : A) → Each P (f x)) → (xs : List A) → Each P (flat_map f xs)
each_flat P f h [] = tt
each_flat P f h (x ∷ xs) = each_append P (f x) (flat_map f xs) (h x) (each_flat P f h xs)

-- a list with one item changed
pub each_changed : {A : Type 0} (P : A → Type 0) (f : A → A) (k : ℕ) (xs : List A) → ((x : A) → P x → P (f x)) → Each P xs → Each P (changed_at f k xs)
each_changed P f k [] h all = tt
each_changed P f zero (x ∷ xs) h all = (h x all.0, all.1)
each_changed P f (suc k) (x ∷ xs) h all = (all.0, each_changed P f k xs h all.1)

-- the item at a place
pub each_got : {A : Type 0} (P : A → Type 0) (xs : List A) (i : ℕ) (x : A) → Each P xs → slice_get xs i ≡ Some x → P x
each_got P [] zero x all e = absurd (grind (arith, e))
each_got P [] (suc i) x all e = absurd (grind (arith, e))
each_got P (y ∷ xs) zero x all e = let same : y ≡ x = grind (arith, e) in subst P same all.0
each_got P (y ∷ xs) (suc i) x all e = each_got P xs i x all.1 e

-- a fact of the item at every place
pub each_from : {A : Type 0} (P : A → Type 0) (xs : List A) → ((i : ℕ) (x : A) → slice_get xs i ≡ Some x → P x) → Each P xs
each_from P [] h = tt
each_from P (x ∷ xs) h = (h 0 x refl, each_from P xs (λ i y e. h (suc i) y e))

-- a list that is empty
pub each_none : {A : Type 0} (P : A → Type 0) (xs : List A) → xs ≡ [] → Each P xs
each_none P xs e = subst (λ ys. Each P ys) (sym e) tt
