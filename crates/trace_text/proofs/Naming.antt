-- What names name, one more name at a time.
use Rattle.trace_text.proofs.Vocabulary.{ℕ, zero, suc, ◌≡◌, ◌⊎◌, inl, inr, ◌≤◌, ◌+◌, ◌||◌, ◌∙◌, Bool, true, false, List, [], ◌∷◌, ◌++◌, length, map, slice_get, Some, None, refl, sym, ap, arith, subst, cond_both, append_assoc, append-nil, if◌then◌else◌, list_any, lookup, bytes_eq, map_push, length-map, sum_by-cons, insert_entry, Declared, Kind, Thing, kind_of, count_of, next_thing, names_of_kind, Names, same_kind}
use Rattle.line_forms.specs.declared.kind.Kind.TheVariants as kind
use Rattle.trace_text.proofs.Says.{IsNameOf, named_among, bytes_same, kind_same}

-- the names alone
abbrev pub names_in : Names → List (List ℕ)
names_in names = map (λ e. e.0) names

module _ {X : Type 0} where
  -- a new name is not the first, nor one of the others
  pub not_first : (e : List ℕ × X) (es : List (List ℕ × X)) (n : List ℕ) → lookup (bytes_eq n) (e ∷ es) ≡ None →
      (bytes_eq n e.0 ≡ false) × (lookup (bytes_eq n) es ≡ None)
  not_first e es n none = by_test (bytes_eq n e.0) none
    where
      by_test : (t : Bool) → (if t then Some e.1 else lookup (bytes_eq n) es) ≡ None → (t ≡ false) × (lookup (bytes_eq n) es ≡ None)
      by_test true none = cc
      by_test false none = (refl, none)

  -- a new name goes behind the others
  pub insert_new : (es : List (List ℕ × X)) (n : List ℕ) (x : X) → lookup (bytes_eq n) es ≡ None →
      insert_entry bytes_eq es n x ≡ es ++ (n, x) ∷ []
  insert_new [] n x none = refl
  insert_new (e ∷ es) n x none = let other = not_first e es n none in rw (other.0) (ap (λ more. e ∷ more) (insert_new es n x other.1))

  -- a new name is none of the others
  pub not_any : (es : List (List ℕ × X)) (n : List ℕ) → lookup (bytes_eq n) es ≡ None → list_any (bytes_eq n) (map (λ e. e.0) es) ≡ false
  not_any [] n none = refl
  not_any (e ∷ es) n none = let other = not_first e es n none in rw (other.0) (not_any es n other.1)

  -- what is found with one more name: one of the others, or the new one
  found_more : (es : List (List ℕ × X)) (n w : List ℕ) (x y : X) → lookup (bytes_eq w) (es ++ (n, x) ∷ []) ≡ Some y →
      (lookup (bytes_eq w) es ≡ Some y) ⊎ ((w ≡ n) × (x ≡ y))
  found_more [] n w x y e =
      cond_both (bytes_eq w n) (Some x) None (λ o. o ≡ Some y → (None ≡ Some y) ⊎ ((w ≡ n) × (x ≡ y))) (λ is e. inr (bytes_same w n is, cc)) (λ is e. inl e) e
  found_more (f ∷ es) n w x y e = by_test (bytes_eq w f.0) (λ more. found_more es n w x y more) e
    where
      by_test : (t : Bool) → (lookup (bytes_eq w) (es ++ (n, x) ∷ []) ≡ Some y → (lookup (bytes_eq w) es ≡ Some y) ⊎ ((w ≡ n) × (x ≡ y))) →
          (if t then Some f.1 else lookup (bytes_eq w) (es ++ (n, x) ∷ [])) ≡ Some y →
          ((if t then Some f.1 else lookup (bytes_eq w) es) ≡ Some y) ⊎ ((w ≡ n) × (x ≡ y))
      by_test true behind e = inl e
      by_test false behind e = behind e

  -- an item of a list, and the item behind a list
  pub get_front : (xs ys : List X) (i : ℕ) (x : X) → slice_get xs i ≡ Some x → slice_get (xs ++ ys) i ≡ Some x
  get_front [] ys i x e = cc
  get_front (y ∷ xs) ys zero x e = e
  get_front (y ∷ xs) ys (suc i) x e = get_front xs ys i x e

  -- the item behind a list
  pub get_last : (xs : List X) (x : X) → slice_get (xs ++ x ∷ []) (length xs) ≡ Some x
  get_last [] x = refl
  get_last (y ∷ xs) x = get_last xs x

-- the names of a kind with one more object
pub names_push : (k : Kind) (ns : List (List ℕ)) (ds : List Declared) (n : List ℕ) (d : Declared) → length ns ≡ length ds →
    names_of_kind k (ns ++ n ∷ []) (ds ++ d ∷ []) ≡ names_of_kind k ns ds ++ (if same_kind k (kind_of d) then n ∷ [] else [])
unfolding names_of_kind
names_push k [] [] n d same = append-nil (if same_kind k (kind_of d) then n ∷ [] else [])
names_push k (m ∷ ns) (e ∷ ds) n d same =
    ap (λ more. (if same_kind k (kind_of e) then m ∷ [] else []) ++ more) (names_push k ns ds n d (omega arith))
    ∙ sym (append_assoc (if same_kind k (kind_of e) then m ∷ [] else []) (names_of_kind k ns ds) (if same_kind k (kind_of d) then n ∷ [] else []))
names_push k _ _ n d same = absurd (omega arith)

-- a thread's name is none of an object
pub names_behind : (k : Kind) (ns : List (List ℕ)) (ds : List Declared) (n : List ℕ) → length ds ≤ length ns →
    names_of_kind k (ns ++ n ∷ []) ds ≡ names_of_kind k ns ds
unfolding names_of_kind
names_behind k [] [] n few = refl
names_behind k [] (e ∷ ds) n few = absurd (omega arith)
names_behind k (m ∷ ns) [] n few = refl
names_behind k (m ∷ ns) (e ∷ ds) n few =
    ap (λ more. (if same_kind k (kind_of e) then m ∷ [] else []) ++ more) (names_behind k ns ds n (omega arith))

-- there is a name for each object of a kind
pub names_count : (k : Kind) (ns : List (List ℕ)) (ds : List Declared) → length ds ≤ length ns →
    length (names_of_kind k ns ds) ≡ count_of k ds
unfolding names_of_kind
names_count k [] [] few = refl
names_count k [] (e ∷ ds) few = absurd (omega arith)
names_count k (m ∷ ns) [] few = refl
names_count k (m ∷ ns) (e ∷ ds) few =
    let counted = sum_by-cons (λ (x : Declared). if same_kind k (kind_of x) then 1 else 0) e ds in
    rw (counted, ← names_count k ns ds (omega arith)) (by_test (same_kind k (kind_of e)) (names_of_kind k ns ds))
  where
    by_test : (t : Bool) (more : List (List ℕ)) → length ((if t then m ∷ [] else []) ++ more) ≡ (if t then 1 else 0) + length more
    by_test true more = omega arith
    by_test false more = omega arith

-- the name of a thing is the one of its number among those of its kind; threads are not objects
abbrev pub ArePlaced : Names → List Declared → Type 0
ArePlaced names ds =
    (k : Kind) (i : ℕ) (w : List ℕ) → same_kind k kind.Thread ≡ false → IsNameOf names k i w →
    slice_get (names_of_kind k (names_in names) ds) i ≡ Some w

-- a name of an object that was there is in its place, and so is the new one
placed_old : (k : Kind) (i : ℕ) (w : List ℕ) (ns : List (List ℕ)) (ds : List Declared) (n : List ℕ) (d : Declared) → length ns ≡ length ds →
    slice_get (names_of_kind k ns ds) i ≡ Some w → slice_get (names_of_kind k (ns ++ n ∷ []) (ds ++ d ∷ [])) i ≡ Some w
placed_old k i w ns ds n d same at =
    ap (λ all. slice_get all i) (names_push k ns ds n d same)
    ∙ get_front (names_of_kind k ns ds) (if same_kind k (kind_of d) then n ∷ [] else []) i w at

-- the name of the new object
placed_new : (ns : List (List ℕ)) (ds : List Declared) (n : List ℕ) (d : Declared) → length ns ≡ length ds →
    slice_get (names_of_kind (kind_of d) (ns ++ n ∷ []) (ds ++ d ∷ [])) (count_of (kind_of d) ds) ≡ Some n
placed_new ns ds n d same =
    rw (names_push (kind_of d) ns ds n d same, kind_same (kind_of d), ← names_count (kind_of d) ns ds (omega arith))
    (get_last (names_of_kind (kind_of d) ns ds) n)

-- one more object
pub placed_object : (names : Names) (ds : List Declared) (n : List ℕ) (d : Declared) → length names ≡ length ds → ArePlaced names ds →
    ArePlaced (names ++ (n, next_thing ds d) ∷ []) (ds ++ d ∷ [])
placed_object names ds n d same placed k i w apart named =
    subst (λ ns. slice_get (names_of_kind k ns (ds ++ d ∷ [])) i ≡ Some w) (sym (map_push (λ (e : List ℕ × Thing). e.0) names (n, next_thing ds d)))
    (by_found (found_more names n w (next_thing ds d) named.thing named.found))
  where
    long : length (names_in names) ≡ length ds
    long = length-map names (λ (e : List ℕ × Thing). e.0) ∙ same

    by_found : (lookup (bytes_eq w) names ≡ Some named.thing) ⊎ ((w ≡ n) × (next_thing ds d ≡ named.thing)) →
        slice_get (names_of_kind k (names_in names ++ n ∷ []) (ds ++ d ∷ [])) i ≡ Some w
    by_found (inl old) =
        placed_old k i w (names_in names) ds n d long (placed k i w apart (named_among (names ++ (n, next_thing ds d) ∷ []) names k i w named old))
    by_found (inr new) =
        let kind_is : k ≡ kind_of d = named.kind_is ∙ ap (λ (t : Thing). t.kind) (sym new.1) in
        let number_is : i ≡ count_of (kind_of d) ds = sym named.number_is ∙ ap (λ (t : Thing). t.number) (sym new.1) in
        rw (kind_is, number_is, new.0) (placed_new (names_in names) ds n d long)

-- no kind of objects is that of threads
apart_from : (k : Kind) → k ≡ kind.Thread → same_kind k kind.Thread ≡ false → ⊥
apart_from k is apart = let yes : same_kind k kind.Thread ≡ true = ap (λ j. same_kind j kind.Thread) is in cc

-- one more thread
pub placed_thread : (names : Names) (ds : List Declared) (n : List ℕ) (number : ℕ) → length ds ≤ length names → ArePlaced names ds →
    ArePlaced (names ++ (n, record { kind = kind.Thread; number = number }) ∷ []) ds
placed_thread names ds n number few placed k i w apart named =
    subst (λ ns. slice_get (names_of_kind k ns ds) i ≡ Some w)
    (sym (map_push (λ (e : List ℕ × Thing). e.0) names (n, record { kind = kind.Thread; number = number })))
    (rw (names_behind k (names_in names) ds n long)
    (by_found (found_more names n w (record { kind = kind.Thread; number = number }) named.thing named.found)))
  where
    long : length ds ≤ length (names_in names)
    long = omega (arith, length-map names (λ (e : List ℕ × Thing). e.0))

    by_found : (lookup (bytes_eq w) names ≡ Some named.thing) ⊎ ((w ≡ n) × (record { kind = kind.Thread; number = number } ≡ named.thing)) →
        slice_get (names_of_kind k (names_in names) ds) i ≡ Some w
    by_found (inl old) = placed k i w apart (named_among (names ++ (n, record { kind = kind.Thread; number = number }) ∷ []) names k i w named old)
    by_found (inr new) =
        let kind_is : k ≡ kind.Thread = named.kind_is ∙ ap (λ (t : Thing). t.kind) (sym new.1) in
        absurd (apart_from k kind_is apart)
