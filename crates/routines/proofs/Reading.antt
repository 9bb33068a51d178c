-- What is stored goes by the numbers of the words that are read.
use Rattle.std.proofs.Common.{ℕ, zero, suc, ◌≡◌, ◌<◌, ◌==◌, ◌∙◌, refl, sym, ap, Bool, true, false, ◌&&◌, ◌||◌, List, [], ◌∷◌, ◌++◌, Option, Some, None, arith, if◌then◌else◌, slice_index_or}
use Rattle.std.specs.List.{list_any}
use Rattle.dx_base.specs.declared.kinds.Routine.{Routine}
use Rattle.dx_base.specs.declared.kinds.View.{View}
use Rattle.dx_flags.specs.declared.accesses.Access.{Access}
use Rattle.dx_flags.specs.AccessNames.{UNORDERED_ACCESS, SHADER_RESOURCE, CONSTANT_BUFFER}
use Rattle.dx_flags.specs.Accesses.{one_access}
use Rattle.routines.specs.declared.bounds.Bound.{Bound}
use Rattle.routines.specs.declared.bounds.Source0.{Source0}
use Rattle.routines.specs.declared.bounds.Source0.TheVariants as source
use Rattle.routines.specs.declared.touches.Touch.{Touch}
use Rattle.routines.specs.declared.uses.Extent.{Extent}
use Rattle.routines.specs.declared.uses.Extent.TheVariants.{Nothing}
use Rattle.routines.specs.Cells.{Cell}
use Rattle.routines.specs.Effect.{stores_by}
use Rattle.routines.specs.Laws.{StoresGoByReads}
use Rattle.routines.specs.Numbers.{cell_of, first_numbers, numbers_at, constant_of, numbers_of}
use Rattle.routines.specs.Touches.{touch, touch_of, touches_of, view_of, has_cell, is_read}
use Rattle.routines.specs.Uses.{uses_of, words_used}
use Rattle.routines.proofs.Counting.{by_cases}

-- a test of some item of two lists, one behind the other
pub any_first : {A : Type 0} (p : A → Bool) (xs ys : List A) → list_any p xs ≡ true → list_any p (xs ++ ys) ≡ true
any_first p [] ys h = absurd (cc)
any_first p (x ∷ xs) ys h = by_cases (p x)
    (λ e. ap (λ t. t || list_any p (xs ++ ys)) e)
    (λ e. ap (λ t. t || list_any p (xs ++ ys)) e ∙ any_first p xs ys (sym (ap (λ t. t || list_any p xs) e) ∙ h))

pub any_second : {A : Type 0} (p : A → Bool) (xs ys : List A) → list_any p ys ≡ true → list_any p (xs ++ ys) ≡ true
any_second p [] ys h = h
any_second p (x ∷ xs) ys h = by_cases (p x)
    (λ e. ap (λ t. t || list_any p (xs ++ ys)) e)
    (λ e. ap (λ t. t || list_any p (xs ++ ys)) e ∙ any_second p xs ys h)

-- a word of a view is one of those used
has_word : (view : View) (words k : ℕ) (access : Access) (reads writes : Bool) → k < words →
    has_cell (cell_of view k) (record { resource = view.resource; sub = view.sub; first = view.first; words = words; access = access; reads = reads; writes = writes }) ≡ true
has_word view words k access reads writes l = grind arith

some_words : (words k : ℕ) → k < words → (words == 0) ≡ false
some_words words k l = grind arith

-- a test of the access of words that are used holds of some access
pub touch_has : (flag : Touch → Bool) (view : View) (words k : ℕ) (access : Access) (reads writes : Bool) → k < words →
    flag (record { resource = view.resource; sub = view.sub; first = view.first; words = words; access = access; reads = reads; writes = writes }) ≡ true →
    list_any (λ (t : Touch). flag t && has_cell (cell_of view k) t) (touch view words access reads writes) ≡ true
touch_has flag view words k access reads writes l flagged =
    rw (some_words words k l, flagged, has_word view words k access reads writes l) refl

-- the numbers of words on which two memories agree
numbers_same : (x y : Cell → ℕ) (view : View) (words : ℕ) → ((k : ℕ) → k < words → x (cell_of view k) ≡ y (cell_of view k)) →
    first_numbers x view words ≡ first_numbers y view words
numbers_same x y view zero agree = refl
numbers_same x y view (suc k) agree =
    ap (λ ns. ns ++ x (cell_of view k) ∷ []) (numbers_same x y view k (λ j l. agree j (omega arith)))
    ∙ ap (λ v. first_numbers y view k ++ v ∷ []) (agree k (omega arith))

part_same : (x y : Cell → ℕ) (bound : Option View) (extent : Extent) (n : ℕ) (access : Access) (writes : Bool) →
    ((c : Cell) → is_read (touch_of bound extent n access true writes) c ≡ true → x c ≡ y c) → numbers_at x bound extent n ≡ numbers_at y bound extent n
part_same x y None extent n access writes agree = refl
part_same x y (Some view) extent n access writes agree =
    numbers_same x y view (words_used extent n view.words)
    (λ k l. agree (cell_of view k) (touch_has (λ (t : Touch). t.reads) view (words_used extent n view.words) k access true writes l refl))

u0_same : (x y : Cell → ℕ) (bound : Option View) (extent : Extent) (updates : Bool) (n : ℕ) (access : Access) →
    ((c : Cell) → is_read (touch_of bound extent n access updates true) c ≡ true → x c ≡ y c) →
    numbers_at x bound (if updates then extent else Nothing) n ≡ numbers_at y bound (if updates then extent else Nothing) n
u0_same x y bound extent true n access agree = part_same x y bound extent n access true agree
u0_same x y None extent false n access agree = refl
u0_same x y (Some view) extent false n access agree = refl

constant_same : (x y : Cell → ℕ) (bound : Source0) (extent : Extent) (n : ℕ) (access : Access) →
    ((c : Cell) → is_read (touch_of (view_of bound) extent n access true false) c ≡ true → x c ≡ y c) → constant_of x bound extent n ≡ constant_of y bound extent n
constant_same x y source.None extent n access agree = refl
constant_same x y (source.Word c) extent n access agree = refl
constant_same x y (source.Buffer view) extent n access agree =
    ap (λ ns. slice_index_or ns 0 0) (part_same x y (Some view) extent n access false agree)

module _ (routine : Routine) (bound : Bound) (n : ℕ) where
  abbrev pub of_t0 : List Touch
  of_t0 = touch_of bound.t0 (uses_of routine).t0 n (one_access SHADER_RESOURCE) true false

  abbrev pub of_t1 : List Touch
  of_t1 = touch_of bound.t1 (uses_of routine).t1 n (one_access SHADER_RESOURCE) true false

  abbrev pub of_b0 : List Touch
  of_b0 = touch_of (view_of bound.b0) (uses_of routine).b0 n (one_access CONSTANT_BUFFER) true false

  abbrev pub of_u0 : List Touch
  of_u0 = touch_of bound.u0 (uses_of routine).u0 n (one_access UNORDERED_ACCESS) (uses_of routine).updates true

  -- a test that an access of u0 passes
  pub some_of_u0 : (p : Touch → Bool) → list_any p of_u0 ≡ true → list_any p (touches_of routine bound n) ≡ true
  some_of_u0 p h = any_second p of_t0 (of_t1 ++ (of_b0 ++ of_u0)) (any_second p of_t1 (of_b0 ++ of_u0) (any_second p of_b0 of_u0 h))

  some_of_b0 : (p : Touch → Bool) → list_any p of_b0 ≡ true → list_any p (touches_of routine bound n) ≡ true
  some_of_b0 p h = any_second p of_t0 (of_t1 ++ (of_b0 ++ of_u0)) (any_second p of_t1 (of_b0 ++ of_u0) (any_first p of_b0 of_u0 h))

  some_of_t1 : (p : Touch → Bool) → list_any p of_t1 ≡ true → list_any p (touches_of routine bound n) ≡ true
  some_of_t1 p h = any_second p of_t0 (of_t1 ++ (of_b0 ++ of_u0)) (any_first p of_t1 (of_b0 ++ of_u0) h)

  -- what is read of two memories that agree there
  numbers_agree : (x y : Cell → ℕ) → ((c : Cell) → is_read (touches_of routine bound n) c ≡ true → x c ≡ y c) →
      numbers_of x routine bound n ≡ numbers_of y routine bound n
  numbers_agree x y agree =
      let t0 = part_same x y bound.t0 (uses_of routine).t0 n (one_access SHADER_RESOURCE) false
      (λ c h. agree c (any_first (λ (t : Touch). t.reads && has_cell c t) of_t0 (of_t1 ++ (of_b0 ++ of_u0)) h)) in
      let t1 = part_same x y bound.t1 (uses_of routine).t1 n (one_access SHADER_RESOURCE) false
      (λ c h. agree c (some_of_t1 (λ (t : Touch). t.reads && has_cell c t) h)) in
      let b0 = constant_same x y bound.b0 (uses_of routine).b0 n (one_access CONSTANT_BUFFER)
      (λ c h. agree c (some_of_b0 (λ (t : Touch). t.reads && has_cell c t) h)) in
      let u0 = u0_same x y bound.u0 (uses_of routine).u0 (uses_of routine).updates n (one_access UNORDERED_ACCESS)
      (λ c h. agree c (some_of_u0 (λ (t : Touch). t.reads && has_cell c t) h)) in
      cc (t0, t1, b0, u0)

pub stores_same : StoresGoByReads
stores_same routine bound n x y agree = ap (stores_by routine bound.u0 n) (numbers_agree routine bound n x y agree)
