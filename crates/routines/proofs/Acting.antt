-- A routine is an action on its accesses.
use Rattle.std.proofs.Common.{ℕ, zero, suc, ◌≡◌, ◌<◌, ◌≤◌, ◌+◌, ◌-◌, ◌==◌, ◌∙◌, refl, sym, ap, subst, Bool, true, false, ◌&&◌, ◌||◌, nat_lt, List, [], ◌∷◌, ◌++◌, map, Option, Some, None, arith, if◌then◌else◌}
use Rattle.std.specs.List.{list_any}
use Rattle.std.proofs.lemmas.Bool.{lt-ltb, ltb-true}
use Rattle.std.proofs.lemmas.List.Folds.{list_any-append}
use Rattle.dx_base.specs.Each.{Each}
use Rattle.dx_base.specs.declared.ids.ResourceId.{ResourceId}
use Rattle.dx_base.specs.declared.kinds.Routine.{Routine}
use Rattle.dx_base.specs.declared.kinds.Routine.TheVariants.{Fill, Move, Add, Mul, Gather, Scatter, Sums, Histogram}
use Rattle.dx_base.specs.declared.kinds.View.{View}
use Rattle.dx_flags.specs.declared.accesses.Access.{Access}
use Rattle.dx_flags.specs.AccessNames.{UNORDERED_ACCESS, SHADER_RESOURCE, CONSTANT_BUFFER}
use Rattle.dx_flags.specs.Accesses.{one_access}
use Rattle.routines.specs.declared.bounds.Bound.{Bound}
use Rattle.routines.specs.declared.numbers.Numbers.{Numbers}
use Rattle.routines.specs.declared.puts.Put.{Put}
use Rattle.routines.specs.declared.stores.Store.{Store}
use Rattle.routines.specs.declared.touches.Touch.{Touch}
use Rattle.routines.specs.declared.uses.Extent.{Extent}
use Rattle.routines.specs.Cells.{Cell, cell, same_cell}
use Rattle.routines.specs.Effect.{store_in, stores_by, stores_of, cell_of_store, stored, after_stores}
use Rattle.routines.specs.Laws.{RoutinesAreActions}
use Rattle.routines.specs.Numbers.{cell_of, numbers_of}
use Rattle.routines.specs.Puts.{put_at, puts_before, puts_of, kept, word_at, writers}
use Rattle.routines.specs.Touches.{touch_of, touches_of, view_of, has_cell, is_read, is_written}
use Rattle.routines.specs.Uses.{uses_of, words_used}
use Rattle.routines.proofs.Counting.{by_cases}
use Rattle.routines.proofs.Reading.{of_t0, of_t1, of_b0, of_u0, some_of_u0, stores_same, any_first, any_second}
use Rattle.routines.proofs.Writing.{stores_written}

cells_agree : (a b : Cell) → same_cell a b ≡ true → a ≡ b
cells_agree a b h = grind arith

-- a store elsewhere leaves a cell, and no store looks at more than the cell itself
stored_else : (s : Store) (x : Cell → ℕ) (c : Cell) → same_cell c (cell_of_store s) ≡ false → stored s x c ≡ x c
stored_else s x c e = ap (λ (b : Bool). if b then s.value else x c) e

stored_here : (s : Store) (x : Cell → ℕ) (c : Cell) → same_cell c (cell_of_store s) ≡ true → stored s x c ≡ s.value
stored_here s x c e = ap (λ (b : Bool). if b then s.value else x c) e

stored_same : (s : Store) (x y : Cell → ℕ) (c : Cell) → x c ≡ y c → stored s x c ≡ stored s y c
stored_same s x y c e = ap (λ v. if same_cell c (cell_of_store s) then s.value else v) e

after_same : (ss : List Store) (x y : Cell → ℕ) (c : Cell) → x c ≡ y c → after_stores ss x c ≡ after_stores ss y c
after_same [] x y c e = e
after_same (s ∷ ss) x y c e = after_same ss (stored s x) (stored s y) c (stored_same s x y c e)

-- a cell that is not written stays
after_else : (is : Cell → Bool) (ss : List Store) (x : Cell → ℕ) (c : Cell) → Each (λ (s : Store). is (cell_of_store s) ≡ true) ss → is c ≡ false →
    after_stores ss x c ≡ x c
after_else is [] x c all n = refl
after_else is (s ∷ ss) x c all n =
    after_else is ss (stored s x) c all.1 n
    ∙ stored_else s x c (by_cases (same_cell c (cell_of_store s))
    (λ e. absurd (let t : is c ≡ true = ap is (cells_agree c (cell_of_store s) e) ∙ all.0 in cc))
    (λ e. e))

-- a cell that is stored has what was stored
abbrev is_hit : Cell → List Store → Bool
is_hit c ss = list_any (λ (s : Store). same_cell c (cell_of_store s)) ss

after_hit : (ss : List Store) (x y : Cell → ℕ) (c : Cell) → is_hit c ss ≡ true → after_stores ss x c ≡ after_stores ss y c
after_hit [] x y c h = absurd (cc)
after_hit (s ∷ ss) x y c h = by_cases (same_cell c (cell_of_store s))
    (λ e. after_same ss (stored s x) (stored s y) c (stored_here s x c e ∙ sym (stored_here s y c e)))
    (λ e. after_hit ss (stored s x) (stored s y) c (sym (ap (λ t. t || is_hit c ss) e) ∙ h))

-- a test of some item of two lists, but of none of the first
any_behind : {A : Type 0} (p : A → Bool) (xs ys : List A) → list_any p xs ≡ false → list_any p (xs ++ ys) ≡ true → list_any p ys ≡ true
any_behind p xs ys none some = sym (list_any-append p xs ys ∙ ap (λ t. t || list_any p ys) none) ∙ some

-- what is written is written through u0
module _ (routine : Routine) (bound : Bound) (n : ℕ) where
  unwritten : (c : Cell) (b : Option View) (extent : Extent) (access : Access) → is_written (touch_of b extent n access true false) c ≡ false
  unwritten c None extent access = refl
  unwritten c (Some view) extent access = by_cases (words_used extent n view.words == 0)
      (λ e. rw e refl)
      (λ e. rw e refl)

  pub written_in_u0 : (c : Cell) → is_written (touches_of routine bound n) c ≡ true → is_written (of_u0 routine bound n) c ≡ true
  written_in_u0 c h =
      let p : Touch → Bool = λ t. t.writes && has_cell c t in
      any_behind p (of_b0 routine bound n) (of_u0 routine bound n) (unwritten c (view_of bound.b0) (uses_of routine).b0 (one_access CONSTANT_BUFFER))
      (any_behind p (of_t1 routine bound n) (of_b0 routine bound n ++ of_u0 routine bound n) (unwritten c bound.t1 (uses_of routine).t1 (one_access SHADER_RESOURCE))
      (any_behind p (of_t0 routine bound n) (of_t1 routine bound n ++ (of_b0 routine bound n ++ of_u0 routine bound n)) (unwritten c bound.t0 (uses_of routine).t0 (one_access SHADER_RESOURCE)) h))

-- words that are read and written
read_there : (none : Bool) (view : View) (words : ℕ) (access : Access) (c : Cell) →
    is_written (if none then [] else record { resource = view.resource; sub = view.sub; first = view.first; words = words; access = access; reads = true; writes = true } ∷ []) c ≡ true →
    is_read (if none then [] else record { resource = view.resource; sub = view.sub; first = view.first; words = words; access = access; reads = true; writes = true } ∷ []) c ≡ true
read_there true view words access c h = h
read_there false view words access c h = h

reads_too : (c : Cell) (u0 : Option View) (extent : Extent) (n : ℕ) (access : Access) (updates : Bool) → updates ≡ true →
    is_written (touch_of u0 extent n access updates true) c ≡ true → is_read (touch_of u0 extent n access updates true) c ≡ true
reads_too c None extent n access updates e h = h
reads_too c (Some view) extent n access true e h = read_there (words_used extent n view.words == 0) view (words_used extent n view.words) access c h
reads_too c (Some view) extent n access false e h = absurd (cc)

cell_is : (c : Cell) (resource : ResourceId) (sub word : ℕ) → resource.0 ≡ c.resource.0 → sub ≡ c.sub → word ≡ c.word → c ≡ cell resource sub word
cell_is c resource sub word e f g =
    sym (ap (λ r. cell (record { 0 = r }) sub word) e ∙ ap (λ s. cell c.resource s word) f ∙ ap (λ w. cell c.resource c.sub w) g)

-- a cell that is written is a word of the view
record IsWordOf (c : Cell) (view : View) (words : ℕ) : Type 0 where
  k : ℕ
  within : k < words
  same : c ≡ cell_of view k

word_there : (none reads : Bool) (view : View) (words : ℕ) (access : Access) (c : Cell) →
    is_written (if none then [] else record { resource = view.resource; sub = view.sub; first = view.first; words = words; access = access; reads = reads; writes = true } ∷ []) c ≡ true →
    IsWordOf c view words
word_there true reads view words access c h = absurd (cc)
word_there false reads view words access c h =
    let parts : (view.resource.0 ≡ c.resource.0) × (view.sub ≡ c.sub) × (view.first ≤ c.word) × (c.word < view.first + words) = (grind arith, grind arith, grind arith, grind arith) in
    record {
      k = c.word - view.first;
      within = omega (arith, parts.2, parts.3);
      same = cell_is c view.resource view.sub (view.first + (c.word - view.first)) parts.0 parts.1 (omega (arith, parts.2));
    }

-- a routine that does not read u0 has an invocation for each word that it writes
record IsOwn (routine : Routine) (n m : ℕ) (x : Numbers) (k : ℕ) : Type 0 where
  early : k < writers routine n
  own : word_at routine m x k ≡ k
  inside : k < m

writes_own : (routine : Routine) (n m : ℕ) (x : Numbers) (k : ℕ) → (uses_of routine).updates ≡ false → k < words_used (uses_of routine).u0 n m → IsOwn routine n m x k
writes_own Fill n m x k e l = record { early = omega arith; own = refl; inside = omega arith }
writes_own Move n m x k e l = record { early = omega arith; own = refl; inside = omega arith }
writes_own Add n m x k e l = record { early = omega arith; own = refl; inside = omega arith }
writes_own Mul n m x k e l = record { early = omega arith; own = refl; inside = omega arith }
writes_own Gather n m x k e l = record { early = omega arith; own = refl; inside = omega arith }
writes_own Scatter n m x k e l = absurd (cc)
writes_own Sums n m x k e l = record { early = omega arith; own = refl; inside = omega arith }
writes_own Histogram n m x k e l = absurd (cc)

-- what an invocation that writes its own word puts
kept_hit : (m : ℕ) (p : Put) (j : ℕ) → p.word ≡ j → j < m → list_any (λ (q : Put). q.word == j) (kept m p) ≡ true
kept_hit m p j own inside =
    let within : nat_lt p.word m ≡ true = lt-ltb p.word m (omega arith) in
    subst (λ (b : Bool). list_any (λ (q : Put). q.word == j) (if b then p ∷ [] else []) ≡ true) (sym within) (grind arith)

has_put : (routine : Routine) (m : ℕ) (x : Numbers) (i j : ℕ) → j < i → word_at routine m x j ≡ j → j < m →
    list_any (λ (p : Put). p.word == j) (puts_before routine m x i) ≡ true
has_put routine m x zero j l own inside = absurd (omega arith)
has_put routine m x (suc i) j l own inside = by_cases (nat_lt j i)
    (λ e. any_first (λ (p : Put). p.word == j) (puts_before routine m x i) (kept m (put_at routine m x i)) (has_put routine m x i j (ltb-true j i e) own inside))
    (λ e. let last : j ≡ i = grind (arith, e) in
    any_second (λ (p : Put). p.word == j) (puts_before routine m x i) (kept m (put_at routine m x i))
    (kept_hit m (put_at routine m x i) j (subst (λ k. word_at routine m x k ≡ j) last own) inside))

-- what is put is stored
stored_put : (view : View) (j : ℕ) (ps : List Put) → list_any (λ (p : Put). p.word == j) ps ≡ true → is_hit (cell_of view j) (map (store_in view) ps) ≡ true
stored_put view j [] h = absurd (cc)
stored_put view j (p ∷ ps) h = by_cases (p.word == j)
    (λ e. ap (λ t. t || is_hit (cell_of view j) (map (store_in view) ps)) (hits_word view j p e))
    (λ e. any_later (same_cell (cell_of view j) (cell_of_store (store_in view p))) (is_hit (cell_of view j) (map (store_in view) ps))
    (stored_put view j ps (sym (ap (λ t. t || list_any (λ (q : Put). q.word == j) ps) e) ∙ h)))
  where
    hits_word : (view : View) (j : ℕ) (p : Put) → (p.word == j) ≡ true → same_cell (cell_of view j) (cell_of_store (store_in view p)) ≡ true
    hits_word view j p e = grind arith

    any_later : (a b : Bool) → b ≡ true → (a || b) ≡ true
    any_later true b h = refl
    any_later false b h = h

-- each cell that a routine writes without reading it is stored
covered : (routine : Routine) (u0 : Option View) (n : ℕ) (x : Numbers) (c : Cell) (access : Access) → (uses_of routine).updates ≡ false →
    is_written (touch_of u0 (uses_of routine).u0 n access (uses_of routine).updates true) c ≡ true → is_hit c (stores_by routine u0 n x) ≡ true
covered routine None n x c access e h = absurd (cc)
covered routine (Some view) n x c access e h =
    let words : ℕ = words_used (uses_of routine).u0 n view.words in
    let word = word_there (words == 0) (uses_of routine).updates view words access c h in
    let own = writes_own routine n view.words x word.k e word.within in
    subst (λ t. is_hit t (stores_by routine (Some view) n x) ≡ true) (sym word.same)
    (stored_put view word.k (puts_of routine n view.words x) (has_put routine view.words x (writers routine n) word.k own.early own.own own.inside))

pub actions : RoutinesAreActions
actions routine bound n = record {
  inside = λ x y agree c w.
      let through : is_written (of_u0 routine bound n) c ≡ true = written_in_u0 routine bound n c w in
      ap (λ ss. after_stores ss x c) (stores_same routine bound n x y agree)
      ∙ by_cases (uses_of routine).updates
      (λ e. after_same (stores_of y routine bound n) x y c
      (agree c (some_of_u0 routine bound n (λ (t : Touch). t.reads && has_cell c t) (reads_too c bound.u0 (uses_of routine).u0 n (one_access UNORDERED_ACCESS) (uses_of routine).updates e through))))
      (λ e. after_hit (stores_of y routine bound n) x y c (covered routine bound.u0 n (numbers_of y routine bound n) c (one_access UNORDERED_ACCESS) e through));
  outside = λ x c free. after_else (is_written (touches_of routine bound n)) (stores_of x routine bound n) x c (stores_written routine bound n x) free;
}
