-- What each of several words means, one more word at a time.
use Rattle.line_forms.proofs.Vocabulary.{ℕ, suc, ◌≡◌, ◌+◌, ◌<◌, ◌≤◌, ◌∙◌, sym, List, [], ◌∷◌, ◌++◌, length, map, drop, drop-cons, get_or, slice_get, min, nat_le, Bool, true, false, zero, Bor, Result, Ok, Err, refl, ap, arith, add-one, append_assoc, append-nil, nat_tests, leb_tells, inl, inr, drop_all, length-map, Cause, Place, place_of, PartValue, earlier_of, wrapped, two_of, Naming, read_at, read_parts, each_of}
use Rattle.line_forms.specs.declared.part.Part.{Part}

-- of three causes the earliest is the same in whatever order they are compared
pub earlier_assoc : (a b c : Cause) → earlier_of (earlier_of a b) c ≡ earlier_of a (earlier_of b c)
unfolding earlier_of
earlier_assoc a b c = grind (arith, nat_tests)

module _ {A : Type 0} where
  -- two lists, one behind the other, or the earlier cause
  abbrev pub behind_of : Result (List A) Cause → Result (List A) Cause → Result (List A) Cause
  behind_of a b = wrapped (λ p. p.0 ++ p.1) (two_of a b)

  -- a value goes from the front of a list to the end of another
  moved : (found : Result (List A) Cause) (x : Result A Cause) (more : Result (List A) Cause) →
      behind_of (wrapped (λ v. v.0 ++ v.1 ∷ []) (two_of found x)) more ≡ behind_of found (wrapped (λ v. v.0 ∷ v.1) (two_of x more))
  unfolding two_of
  moved (Ok xs) (Ok x) (Ok ys) = ap Ok (append_assoc xs (x ∷ []) ys)
  moved (Ok xs) (Err d) (Ok ys) = refl
  moved (Err c) (Ok x) (Ok ys) = refl
  moved (Err c) (Err d) (Err e) = ap Err (earlier_assoc c d e)
  moved _ _ _ = refl

  -- no word is left
  ended : (f : List ℕ → Result A Cause) (found : Result (List A) Cause) → behind_of found (each_of f []) ≡ found
  unfolding two_of each_of
  ended f (Ok xs) = ap Ok (append-nil xs)
  ended f (Err c) = refl

  pub each_end : (f : List ℕ → Result A Cause) (found all : Result (List A) Cause) (ws : List (Bor (List ℕ))) (i : ℕ) → length ws ≤ i →
      behind_of found (each_of f (map (λ w. w.now) (drop i ws))) ≡ all → found ≡ all
  each_end f found all ws i past e =
      let none : drop i ws ≡ [] = drop_all i ws past in
      sym (ended f found) ∙ (rw none at e)

  -- nothing was found before
  begun : (more : Result (List A) Cause) → behind_of (Ok []) more ≡ more
  unfolding two_of
  begun (Ok ys) = refl
  begun (Err e) = refl

  pub each_begin : (f : List ℕ → Result A Cause) (ws : List (List ℕ)) → behind_of (Ok []) (each_of f ws) ≡ each_of f ws
  each_begin f ws = begun (each_of f ws)

  -- one more word is read
  pub each_more : (f : List ℕ → Result A Cause) (found : Result (List A) Cause) (ws : List (Bor (List ℕ))) (i : ℕ) (d : Bor (List ℕ)) →
      i < length ws →
      behind_of (wrapped (λ v. v.0 ++ v.1 ∷ []) (two_of found (f (get_or ws i d).now))) (each_of f (map (λ w. w.now) (drop (i + 1) ws)))
      ≡ behind_of found (each_of f (map (λ w. w.now) (drop i ws)))
  unfolding each_of
  each_more f found ws i d below =
      rw (add-one i, drop-cons ws i d) (moved found (f (get_or ws i d).now) (each_of f (map (λ w. w.now) (drop (suc i) ws))))

-- words from a place on
pub map_drop : {A B : Type 0} (f : A → B) (i : ℕ) (xs : List A) → map f (drop i xs) ≡ drop i (map f xs)
map_drop f zero xs = refl
map_drop f (suc i) [] = refl
map_drop f (suc i) (x ∷ xs) = map_drop f i xs

first_at : {A : Type 0} (xs : List A) (i : ℕ) → slice_get (drop i xs) 0 ≡ slice_get xs i
first_at xs zero = refl
first_at [] (suc i) = refl
first_at (x ∷ xs) (suc i) = first_at xs i

next_at : {A : Type 0} (xs : List A) (i : ℕ) → drop 1 (drop i xs) ≡ drop (suc i) xs
next_at xs zero = refl
next_at [] (suc i) = refl
next_at (x ∷ xs) (suc i) = next_at xs i

-- there is a part for each of the code's
pub length_places : (ps : List Part) → length (map place_of ps) ≡ length ps
length_places ps = length-map ps place_of

module _ (n : Naming) where
  -- the first part and the others
  part_first : (p : Place) (ps : List Place) (us : List (List ℕ)) →
      read_parts n (p ∷ ps) us ≡ wrapped (λ v. v.0 ∷ v.1) (two_of (read_at n p (slice_get us 0)) (read_parts n ps (drop 1 us)))
  unfolding read_parts
  part_first p ps [] = refl
  part_first p ps (u ∷ us) = refl

  pub parts_begin : (ps : List Place) (ws : List (List ℕ)) → behind_of (Ok []) (read_parts n ps ws) ≡ read_parts n ps ws
  parts_begin ps ws = begun (read_parts n ps ws)

  pub parts_more : (found : Result (List PartValue) Cause) (ps : List Part) (ws : List (List ℕ)) (i : ℕ) (d : Part) → i < length ps →
      behind_of (wrapped (λ v. v.0 ++ v.1 ∷ []) (two_of found (read_at n (place_of (get_or ps i d)) (slice_get ws i))))
      (read_parts n (map place_of (drop (i + 1) ps)) (drop (i + 1) ws))
      ≡ behind_of found (read_parts n (map place_of (drop i ps)) (drop i ws))
  parts_more found ps ws i d below =
      rw (add-one i, drop-cons ps i d, part_first (place_of (get_or ps i d)) (map place_of (drop (suc i) ps)) (drop i ws), first_at ws i, next_at ws i)
      (moved found (read_at n (place_of (get_or ps i d)) (slice_get ws i)) (read_parts n (map place_of (drop (suc i) ps)) (drop (suc i) ws)))

  pub parts_end : (found all : Result (List PartValue) Cause) (ps : List Part) (ws : List (List ℕ)) (i : ℕ) → length ps ≤ i →
      behind_of found (read_parts n (map place_of (drop i ps)) ws) ≡ all → found ≡ all
  unfolding read_parts two_of
  parts_end found all ps ws i past e =
      let none : drop i ps ≡ [] = drop_all i ps past in last found (rw none at e)
    where
      last : (found : Result (List PartValue) Cause) → behind_of found (Ok []) ≡ all → found ≡ all
      last (Ok xs) e = ap Ok (sym (append-nil xs)) ∙ e
      last (Err c) e = e

-- no more can be dropped than there is
pub drop_most : {A : Type 0} (i : ℕ) (xs : List A) → drop (min i (length xs)) xs ≡ drop i xs
drop_most i xs = elim (leb_tells i (length xs)) [
  | inl h ↦ let same : min i (length xs) ≡ i = omega (arith, h.1) in rw same refl
  | inr h ↦
      let same : min i (length xs) ≡ length xs = omega (arith, h.1) in
      rw (same, drop_all (length xs) xs (omega arith), drop_all i xs (omega (arith, h.1))) refl
]
