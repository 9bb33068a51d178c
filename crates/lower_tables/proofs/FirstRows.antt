-- Look-ups of a key find the first row that has it.
use Rattle.std.proofs.Common.{◌≡◌, ◌==◌, ◌||◌, ◌++◌, ℕ, Bool, true, false, List, [], ◌∷◌, Option, Some, None, if◌then◌else◌, refl, ap, ◌∙◌, ◌⊎◌, inl, inr, true≢false, sym}
use Rattle.std.proofs.lemmas.Bool.{eqb-true, eq-eqb}
use Rattle.std.proofs.lemmas.Option.{none-some}
use Rattle.lower_tables.specs.Laws.{has_key, IsInFirstRow, TheFirstRowCounts}
use Rattle.lower_tables.specs.Rows.{first_value}

-- the first row passes, and has the value, or it does not, and a later one has it
pub here_or_later : {V : Type 0} (b : Bool) (x : V) (later : Option V) (v : V) → (if b then Some x else later) ≡ Some v → ((b ≡ true) × (v ≡ x)) ⊎ ((b ≡ false) × (later ≡ Some v))
here_or_later true x later v h = let same : v ≡ x = cc in inl (refl, same)
here_or_later false x later v h = inr (refl, h)

neither : (a b : Bool) → a ≡ false → b ≡ false → (a || b) ≡ false
neither true b h k = absurd (true≢false h)
neither false b h k = k

-- where a look-up finds nothing, no row passes
none_here : {V : Type 0} (b more : Bool) (x : V) (later : Option V) → (later ≡ None → more ≡ false) → (if b then Some x else later) ≡ None → (b || more) ≡ false
none_here true more x later rest h = absurd (none-some x (sym h))
none_here false more x later rest h = rest h

none_only : {V : Type 0} (key : ℕ) (rows : List (ℕ × V)) → first_value key rows ≡ None → has_key key rows ≡ false
none_only key [] h = refl
none_only key (row ∷ rows) h = none_here (row.0 == key) (has_key key rows) row.1 (first_value key rows) (none_only key rows) h

-- where the first row does not pass, a look-up finds what the later rows give
later_gives : {V : Type 0} (b more : Bool) (x : V) (later found : Option V) → (more ≡ false → later ≡ found) → (b || more) ≡ false → (if b then Some x else later) ≡ found
later_gives true more x later found rest h = absurd (true≢false h)
later_gives false more x later found rest h = rest h

none_where : {V : Type 0} (key : ℕ) (rows : List (ℕ × V)) → has_key key rows ≡ false → first_value key rows ≡ None
none_where key [] h = refl
none_where key (row ∷ rows) h = later_gives (row.0 == key) (has_key key rows) row.1 (first_value key rows) None (none_where key rows) h

-- behind rows without the key
behind : {V : Type 0} (key : ℕ) (v : V) (before after : List (ℕ × V)) → has_key key before ≡ false → first_value key (before ++ ((key, v) ∷ after)) ≡ Some v
behind key v [] after h = rw (eq-eqb key key refl) refl
behind key v (row ∷ before) after h =
    later_gives (row.0 == key) (has_key key before) row.1 (first_value key (before ++ ((key, v) ∷ after))) (Some v) (behind key v before after) h

some_where : {V : Type 0} (key : ℕ) (rows : List (ℕ × V)) (v : V) → IsInFirstRow key v rows → first_value key rows ≡ Some v
some_where key rows v is = ap (first_value key) is.split ∙ behind key v is.before is.after is.first

same_row : {V : Type 0} (row : ℕ × V) (key : ℕ) (v : V) → row.0 ≡ key → v ≡ row.1 → row ≡ (key, v)
same_row row key v k same = rw (sym k, same) refl

some_only : {V : Type 0} (key : ℕ) (rows : List (ℕ × V)) (v : V) → first_value key rows ≡ Some v → IsInFirstRow key v rows
some_only key [] v h = absurd (none-some v h)
some_only key (row ∷ rows) v h =
    elim (here_or_later (row.0 == key) row.1 (first_value key rows) v h) [
      | inl here ↦ record { before = []; after = rows; split = ap (λ first. first ∷ rows) (same_row row key v (eqb-true row.0 key here.0) here.1); first = refl }
      | inr later ↦
          let rest = some_only key rows v later.1 in
          record { before = row ∷ rest.before; after = rest.after; split = ap (λ more. row ∷ more) rest.split; first = neither (row.0 == key) (has_key key rest.before) later.0 rest.first }
    ]

pub first_counts : (V : Type 0) → TheFirstRowCounts V
first_counts V = record {
  none = λ key rows. (none_only key rows, none_where key rows);
  some = λ key rows v. (some_only key rows v, some_where key rows v);
}
