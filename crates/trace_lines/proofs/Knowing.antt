-- Loops over two lists, pair by pair, and the names of the objects of a kind.
use Rattle.std.proofs.Common.{ℕ, suc, ◌≡◌, ◌+◌, ◌<◌, ◌≤◌, ◌⊎◌, inl, inr, ◌∙◌, sym, Bool, true, false, List, [], ◌∷◌, ◌++◌, length, drop, drop-cons, get_or, arith, add-one, refl, append_assoc, append-nil, if◌then◌else◌}
use Rattle.std.specs.Prelude.{min}
use Rattle.std.proofs.Math.Nat.{min-eq_left, min-eq_right, min-le_left, min-le_right}
use Rattle.std.proofs.lemmas.Bool.Decides.{leb_tells}
use Rattle.std.proofs.lemmas.List.{drop_all}
use Rattle.line_forms.specs.declared.kind.Kind.{Kind}
use Rattle.trace_lines.specs.declared.object.Declared.{Declared}
use Rattle.trace_lines.specs.Kinds.{kind_of}
use Rattle.trace_lines.specs.Known.{names_of_kind}
use Rattle.trace_lines.specs.Things.{same_kind}

-- what makes a list of the pairs of two lists, one after the other
pub record IsOfPairs {A B C : Type 0} (f : List A → List B → List C) (g : A → B → List C) : Type 0 where
  pub left : (ys : List B) → f [] ys ≡ []
  pub right : (xs : List A) → f xs [] ≡ []
  pub pair : (x : A) (y : B) (xs : List A) (ys : List B) → f (x ∷ xs) (y ∷ ys) ≡ g x y ++ f xs ys

-- a place behind the shorter of two lists is behind one of them
past_one : (a b i : ℕ) → min a b ≤ i → (a ≤ i) ⊎ (b ≤ i)
past_one a b i past = elim (leb_tells a b) [
  | inl e ↦ inl (rw (min-eq_left {n = a} {m = b} e.1) at past)
  | inr e ↦ inr (rw (min-eq_right {n = b} {m = a} (omega (arith, e.1))) at past)
]

-- behind the shorter list no pairs are left
pub pairs_end : {A B C : Type 0} (f : List A → List B → List C) (g : A → B → List C) → IsOfPairs f g →
    (xs : List A) (ys : List B) (i n : ℕ) (old all : List C) → n ≡ min (length xs) (length ys) → n ≤ i → old ++ f (drop i xs) (drop i ys) ≡ all → old ≡ all
pairs_end f g of xs ys i n old all is past e = elim (past_one (length xs) (length ys) i (rw is at past)) [
  | inl p ↦ sym (append-nil old) ∙ (rw (drop_all i xs p, of.left (drop i ys)) at e)
  | inr p ↦ sym (append-nil old) ∙ (rw (drop_all i ys p, of.right (drop i xs)) at e)
]

-- one more pair
pub pairs_more : {A B C : Type 0} (f : List A → List B → List C) (g : A → B → List C) → IsOfPairs f g →
    (xs : List A) (ys : List B) (i n : ℕ) (x : A) (y : B) (old new all : List C) → n ≡ min (length xs) (length ys) → i < n →
    x ≡ get_or xs i x → new ≡ old ++ g x (get_or ys i y) → old ++ f (drop i xs) (drop i ys) ≡ all → new ++ f (drop (i + 1) xs) (drop (i + 1) ys) ≡ all
pairs_more f g of xs ys i n x y old new all is below this grown e =
    let left : i < length xs = omega (arith, is, below, min-le_left (length xs) (length ys)) in
    let right : i < length ys = omega (arith, is, below, min-le_right (length xs) (length ys)) in
    let step = of.pair (get_or xs i x) (get_or ys i y) (drop (suc i) xs) (drop (suc i) ys) in
    rw (grown, this, add-one i, append_assoc, ← step, ← drop-cons xs i x left, ← drop-cons ys i y right) e

-- the name of an object of a kind
abbrev pub kind_name : Kind → List ℕ → Declared → List (List ℕ)
kind_name k n d = if same_kind k (kind_of d) then n ∷ [] else []

pub kind_pairs : (k : Kind) → IsOfPairs (names_of_kind k) (kind_name k)
unfolding names_of_kind
kind_pairs k = record { left = λ ys. refl; right = λ xs. none xs; pair = λ x y xs ys. refl }
  where
    none : (xs : List (List ℕ)) → names_of_kind k xs [] ≡ []
    none [] = refl
    none (x ∷ xs) = refl

-- one more object, of the kind or not
pub kind_more : (k : Kind) (ns : List (List ℕ)) (ds : List Declared) (i m : ℕ) (n : List ℕ) (d : Declared) (kind : Kind) (same : Bool) (old new all : List (List ℕ)) →
    m ≡ min (length ns) (length ds) → i < m → n ≡ get_or ns i n → kind ≡ kind_of (get_or ds i d) → same ≡ same_kind k kind →
    new ≡ old ++ (if same then n ∷ [] else []) → old ++ names_of_kind k (drop i ns) (drop i ds) ≡ all →
    new ++ names_of_kind k (drop (i + 1) ns) (drop (i + 1) ds) ≡ all
kind_more k ns ds i m n d kind same old new all is below this of tells grown =
    pairs_more (names_of_kind k) (kind_name k) (kind_pairs k) ns ds i m n d old new all is below this (rw (← of, ← tells) grown)
