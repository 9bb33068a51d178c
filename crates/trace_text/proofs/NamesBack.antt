-- The name of an object names that object, one more name at a time.
use Rattle.trace_text.proofs.Vocabulary.{ℕ, suc, ◌≡◌, inl, inr, ◌<◌, ◌≤◌, ◌∙◌, Bool, true, false, List, [], ◌∷◌, ◌++◌, length, map, slice_get, get_or, Some, None, refl, sym, ap, arith, if◌then◌else◌, IsEquivalence, comparing, AllByRecursion, lookup, bytes_eq, leb-true, leb_tells, map_push, length-map, slice_get-get_or, Declared, Kind, Thing, kind_of, count_of, next_thing, names_of_kind, name_at, is_fit_name, Names, same_kind}
use Rattle.std.specs.List.{IsDistinct}
use Rattle.trace_text.proofs.Naming.{not_first, names_in, get_front, get_last, names_push, names_behind, names_count}
use Rattle.trace_text.proofs.Says.{IsNameOf, named_among, kinds_same, fit_parts, name_there}
use Rattle.trace_text.proofs.SoundValues.{count_push}

-- equal bytes are an equivalence
equal_bytes : IsEquivalence bytes_eq
equal_bytes = search (comparing)

module _ {X : Type 0} where
  -- what is found among some is found with others behind them
  found_front : (es fs : List (List ℕ × X)) (w : List ℕ) (x : X) → lookup (bytes_eq w) es ≡ Some x → lookup (bytes_eq w) (es ++ fs) ≡ Some x
  found_front [] fs w x e = cc
  found_front (f ∷ es) fs w x e = by_test (bytes_eq w f.0) (λ more. found_front es fs w x more) e
    where
      by_test : (t : Bool) → (lookup (bytes_eq w) es ≡ Some x → lookup (bytes_eq w) (es ++ fs) ≡ Some x) →
          (if t then Some f.1 else lookup (bytes_eq w) es) ≡ Some x → (if t then Some f.1 else lookup (bytes_eq w) (es ++ fs)) ≡ Some x
      by_test true behind e = e
      by_test false behind e = behind e

  -- a new name is found at the end
  found_last : (es : List (List ℕ × X)) (n : List ℕ) (x : X) → lookup (bytes_eq n) es ≡ None → lookup (bytes_eq n) (es ++ (n, x) ∷ []) ≡ Some x
  found_last [] n x none = rw (equal_bytes.refl n) refl
  found_last (e ∷ es) n x none = let other = not_first e es n none in rw (other.0) (found_last es n x other.1)

  -- a name is new where names differ
  pub fresh_among : (es : List (List ℕ × X)) (n : List ℕ) (ns : List (List ℕ)) → IsDistinct bytes_eq (map (λ e. e.0) es ++ n ∷ ns) →
      lookup (bytes_eq n) es ≡ None
  unfolding IsDistinct
  fresh_among [] n ns apart = refl
  fresh_among (e ∷ es) n ns apart =
      let other : bytes_eq n e.0 ≡ false = equal_bytes.symm n e.0 ∙ apart_of (map (λ f. f.0) es) apart.0 in
      rw (other) (fresh_among es n ns apart.1)
    where
      apart_of : (ms : List (List ℕ)) → AllByRecursion (λ m. bytes_eq e.0 m ≡ false) (ms ++ n ∷ ns) → bytes_eq e.0 n ≡ false
      apart_of [] all = all.0
      apart_of (m ∷ ms) all = apart_of ms all.1

-- the name of each object, by its kind and number, names it
abbrev pub AreNamed : Names → List Declared → Type 0
AreNamed names ds =
    (k : Kind) (i : ℕ) → i < count_of k ds → IsNameOf names k i (name_at (names_of_kind k (names_in names) ds) i)

-- a name names the same with other names behind it
named_front : (names more : Names) (k : Kind) (i : ℕ) (w : List ℕ) → IsNameOf names k i w → IsNameOf (names ++ more) k i w
named_front names more k i w is = named_among names (names ++ more) k i w is (found_front names more w is.thing is.found)

-- the name of a place among the first
name_front : (ns ms : List (List ℕ)) (i : ℕ) → i < length ns → name_at (ns ++ ms) i ≡ name_at ns i
name_front ns ms i within =
    let there = slice_get-get_or ns i [] within in
    name_there (ns ++ ms) i (get_or ns i []) (get_front ns ms i (get_or ns i []) there) ∙ sym (name_there ns i (get_or ns i []) there)

-- the new name names the new thing
named_new : (names : Names) (n : List ℕ) (t : Thing) → is_fit_name n ≡ true → lookup (bytes_eq n) names ≡ None →
    IsNameOf (names ++ (n, t) ∷ []) t.kind t.number n
named_new names n t fit fresh = record {
  thing = t;
  found = found_last names n t fresh;
  kind_is = refl;
  number_is = refl;
  spelled = (fit_parts n fit).spelled;
  short = leb-true (length n) 32 (fit_parts n fit).short;
}

-- one more object
pub named_object : (names : Names) (ds : List Declared) (n : List ℕ) (d : Declared) → length names ≡ length ds → is_fit_name n ≡ true →
    lookup (bytes_eq n) names ≡ None → AreNamed names ds → AreNamed (names ++ (n, next_thing ds d) ∷ []) (ds ++ d ∷ [])
named_object names ds n d same fit fresh all k i below =
    rw (map_push (λ (e : List ℕ × Thing). e.0) names (n, next_thing ds d), names_push k ns ds n d long)
    (elim (leb_tells (suc i) (count_of k ds)) [ inl is ↦ old is.1 | inr is ↦ new (omega (arith, is.1)) (same_kind k (kind_of d)) refl ])
  where
    ns : List (List ℕ)
    ns = names_in names

    long : length ns ≡ length ds
    long = length-map names (λ (e : List ℕ × Thing). e.0) ∙ same

    counted : length (names_of_kind k ns ds) ≡ count_of k ds
    counted = names_count k ns ds (omega (arith, long))

    Named : List (List ℕ) → Type 0
    Named more = IsNameOf (names ++ (n, next_thing ds d) ∷ []) k i (name_at (names_of_kind k ns ds ++ more) i)

    old : i < count_of k ds → Named (if same_kind k (kind_of d) then n ∷ [] else [])
    old is =
        rw (name_front (names_of_kind k ns ds) (if same_kind k (kind_of d) then n ∷ [] else []) i (omega (arith, is, counted)))
        (named_front names ((n, next_thing ds d) ∷ []) k i (name_at (names_of_kind k ns ds) i) (all k i is))

    new : count_of k ds ≤ i → (t : Bool) → same_kind k (kind_of d) ≡ t → Named (if t then n ∷ [] else [])
    new past false is = absurd (omega (arith, rw (count_push k ds d, is) at below, past))
    new past true is =
        let here : i ≡ count_of k ds = omega (arith, rw (count_push k ds d, is) at below, past) in
        let there : name_at (names_of_kind k ns ds ++ n ∷ []) i ≡ n =
        name_there (names_of_kind k ns ds ++ n ∷ []) i n
        (ap (slice_get (names_of_kind k ns ds ++ n ∷ [])) (here ∙ sym counted) ∙ get_last (names_of_kind k ns ds) n) in
        let kinds : k ≡ kind_of d = kinds_same k (kind_of d) is in
        rw (there, here, kinds) (named_new names n (next_thing ds d) fit fresh)

-- one more thread
pub named_thread : (names : Names) (ds : List Declared) (n : List ℕ) (t : Thing) → length ds ≤ length names → AreNamed names ds →
    AreNamed (names ++ (n, t) ∷ []) ds
named_thread names ds n t few all k i below =
    let long : length ds ≤ length (names_in names) = omega (arith, length-map names (λ (e : List ℕ × Thing). e.0), few) in
    rw (map_push (λ (e : List ℕ × Thing). e.0) names (n, t), names_behind k (names_in names) ds n long)
    (named_front names ((n, t) ∷ []) k i (name_at (names_of_kind k (names_in names) ds) i) (all k i below))
