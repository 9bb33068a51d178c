-- What is read passes the tests of its parts, and what passes them is read of its own words.
use Rattle.line_forms.proofs.Vocabulary.{ℕ, ◌≡◌, ◌≢◌, ◌∙◌, ◌+◌, ◌<◌, ◌^◌, ◌&&◌, inl, inr, not, nat_le, nat_lt, Bool, true, false, List, [], ◌∷◌, ◌++◌, length, map, drop, decimal, Option, None, Some, Ok, refl, sym, ap, subst, add-one, arith, list_all, bytes_eq, and_parts, and_from, lt-ltb, le-leb, ltb-true, list_all-append, bytes_eq-Decides, false_from_ne_true, is_number, Line, Kind, PartValue, Rest, Nothing, Names, Words, wrapped, two_of, choices_of, chosen, choice_text, shaped, shaped_from, shaped_rest, shaped_line, AllGood, IsGoodLine, AreNamed, Place, Word, Name, NewName, Number, DataWord, FlagWord, Set, Choice, AllOr, AllOrNumber, Row, Known, part_text, rest_texts, Naming, or_form, all_text, number_of, all_or_of, read_part, each_of, read_rest, read_row, IsHexadecimal, Says, SayAll, SayEach, SayRest, id_in, name_in, number_in, word_in, choice_in, all_or_in, all_or_number_in, value_at}
use Rattle.line_forms.specs.declared.part.PartValue.TheVariants as value
use Rattle.line_forms.specs.Sound.{all_of, of_some, sound_tests, sound_rest, named_tests, named_rest, all_tests, is_sound_line, is_named_line}
use Rattle.line_forms.specs.Values.{set_in}
use Rattle.line_forms.proofs.ChoicesBack.{as_own}
use Rattle.line_forms.proofs.Good.{value_there, each_small, hex_small, words_again}
use Rattle.line_forms.proofs.Grammar.{grammar, not_same, part_tells}
use Rattle.line_forms.proofs.SetsBack.{set_back, set_fits}
use Rattle.line_forms.proofs.SetsSay.{set_said}
use Rattle.line_forms.proofs.WordsBack.{number_back, word_back, flag_back}

-- each of some tests is passed
abbrev pub pass : List Bool → Bool
pass bs = list_all (λ b. b) bs

-- all of them are
pub all_from : (bs : List Bool) → pass bs ≡ true → all_of bs ≡ true
all_from [] h = refl
all_from (b ∷ []) h = (and_parts b true h).0
all_from (b ∷ c ∷ bs) h = let both = and_parts b (pass (c ∷ bs)) h in and_from b (all_of (c ∷ bs)) both.0 (all_from (c ∷ bs) both.1)

pub all_each : (bs : List Bool) → all_of bs ≡ true → pass bs ≡ true
all_each [] h = refl
all_each (b ∷ []) h = and_from b true h refl
all_each (b ∷ c ∷ bs) h = let both = and_parts b (all_of (c ∷ bs)) h in and_from b (pass (c ∷ bs)) both.0 (all_each (c ∷ bs) both.1)

-- tests, and others behind them
pass_join : (xs ys : List Bool) → pass xs ≡ true → pass ys ≡ true → pass (xs ++ ys) ≡ true
pass_join xs ys a b = list_all-append (λ (x : Bool). x) xs ys ∙ and_from (pass xs) (pass ys) a b

pass_split : (xs ys : List Bool) → pass (xs ++ ys) ≡ true → (pass xs ≡ true) × (pass ys ≡ true)
pass_split xs ys h = and_parts (pass xs) (pass ys) (sym (list_all-append (λ (x : Bool). x) xs ys) ∙ h)

pub one_pass : (b : Bool) → b ≡ true → pass (b ∷ []) ≡ true
one_pass b h = and_from b true h refl

pub pass_one : (b : Bool) → pass (b ∷ []) ≡ true → b ≡ true
pass_one b h = (and_parts b true h).0

-- words that differ
other_words : (a b : List ℕ) → a ≢ b → not (bytes_eq a b) ≡ true
other_words a b apart = ap not (false_from_ne_true (bytes_eq a b) (λ is. apart ((bytes_eq-Decides a b).0 is)))

not_true : (t : Bool) → not t ≡ true → t ≡ false
not_true true h = cc
not_true false h = refl

module _ (n : Naming) where
  -- what is read passes
  module _ (test : Place → PartValue → List Bool) (passes : (p : Place) (w : List ℕ) (v : PartValue) → Says n p v w → pass (test p v) ≡ true) where
    parts_pass : (ps : List Place) (vs : List PartValue) (ws : List (List ℕ)) (more : List Bool) → SayAll n ps vs ws → pass more ≡ true →
        pass (all_tests test ps vs more) ≡ true
    parts_pass [] [] ws more h m = m
    parts_pass (p ∷ ps) vs [] more h m = absurd h
    parts_pass (p ∷ ps) (v ∷ vs) (w ∷ ws) more h m = pass_join (test p v) (all_tests test ps vs more) (passes p w v h.0) (parts_pass ps vs ws more h.1 m)
    parts_pass _ _ _ more h m = absurd h

    line_passes : (row : Row) (ws : List (List ℕ)) (line : Line) (more : List Bool) → pass more ≡ true → read_row n row ws ≡ Ok line →
        pass (all_tests test row.parts line.values more) ≡ true
    line_passes row ws line more m e = parts_pass row.parts line.values ws more (grammar.says n row line ws e).values m

  hex_pass : (w : List ℕ) (i : ℕ) → IsHexadecimal i w → pass (nat_lt i (2 ^ 32) ∷ []) ≡ true
  hex_pass w i h = one_pass (nat_lt i (2 ^ 32)) (lt-ltb i (2 ^ 32) (hex_small w i h))

  sound_part : (p : Place) (w : List ℕ) (v : PartValue) → Says n p v w → pass (sound_tests p v) ≡ true
  sound_part Number w v h = rw (h.2) (one_pass (nat_lt h.0 (2 ^ 64)) (lt-ltb h.0 (2 ^ 64) h.1.0))
  sound_part DataWord w v h = rw (h.2) (hex_pass w h.0 h.1)
  sound_part FlagWord w v h = rw (h.2) (hex_pass w h.0 h.1)
  sound_part (Set s) w v h =
      let fit = set_fits s w h.0 (set_said s w h.0 h.1) in
      rw (h.2) (and_from (nat_lt 0 h.0) (nat_lt h.0 128 && true) (lt-ltb 0 h.0 fit.0) (one_pass (nat_lt h.0 128) (lt-ltb h.0 128 fit.1)))
  sound_part AllOrNumber w v (inl h) = rw (h.1) refl
  sound_part AllOrNumber w v (inr h) = rw (h.1.2) (one_pass (nat_lt h.1.0 (2 ^ 64)) (lt-ltb h.1.0 (2 ^ 64) h.1.1.0))
  sound_part _ w v h = refl

  rest_sound : (r : Rest) (xs : List ℕ) (ws : List (List ℕ)) → SayRest n r xs ws → pass (sound_rest r xs) ≡ true
  rest_sound Words xs ws h =
      let all = each_small xs ws h.2 in
      and_from (nat_le 1 (length xs)) (nat_le (length xs) 256 && (list_all (λ x. nat_lt x (2 ^ 32)) xs && true)) (le-leb 1 (length xs) (omega (arith, all.0, h.0)))
      (and_from (nat_le (length xs) 256) (list_all (λ x. nat_lt x (2 ^ 32)) xs && true) (le-leb (length xs) 256 (omega (arith, all.0, h.1)))
      (one_pass (list_all (λ x. nat_lt x (2 ^ 32)) xs) all.1))
  rest_sound _ xs ws h = refl

  -- what is read is sound
  pub sound_read : (row : Row) (ws : List (List ℕ)) (line : Line) → read_row n row ws ≡ Ok line → is_sound_line row line ≡ true
  sound_read row ws line e =
      let rest = rest_sound row.rest line.rest (drop (length row.parts) ws) (grammar.says n row line ws e).rest in
      all_from (all_tests sound_tests row.parts line.values (sound_rest row.rest line.rest))
      (line_passes sound_tests sound_part row ws line (sound_rest row.rest line.rest) rest e)

  -- what is read names things
  module _ (counts : Kind → ℕ) (known : Known) (named : AreNamed n known) (below : (k : Kind) (w : List ℕ) (i : ℕ) → n.number k w ≡ Ok i → nat_lt i (counts k) ≡ true) where
    named_part : (p : Place) (w : List ℕ) (v : PartValue) → Says n p v w → pass (named_tests counts known p v) ≡ true
    named_part (Name k) w v h = rw (h.2) (one_pass (nat_lt h.0 (counts k)) (below k w h.0 h.1))
    named_part (AllOr k) w v (inl h) = rw (h.1) refl
    named_part (AllOr k) w v (inr h) =
        let i = h.1.0 in
        let other : not (bytes_eq (known k i) all_text) ≡ true =
        subst (λ u. not (bytes_eq u all_text) ≡ true) (sym (named.things k w i h.1.1)) (other_words w all_text h.0) in
        rw (h.1.2)
        (one_pass (nat_lt i (counts k) && not (bytes_eq (known k i) all_text))
        (and_from (nat_lt i (counts k)) (not (bytes_eq (known k i) all_text)) (below k w i h.1.1) other))
    named_part _ w v h = refl

    each_below : (k : Kind) (xs : List ℕ) (ws : List (List ℕ)) → SayEach (λ i w. n.number k w ≡ Ok i) xs ws → list_all (λ i. nat_lt i (counts k)) xs ≡ true
    each_below k [] [] h = refl
    each_below k (x ∷ xs) (w ∷ ws) h =
        and_from (nat_lt x (counts k)) (list_all (λ i. nat_lt i (counts k)) xs) (below k w x h.0) (each_below k xs ws h.1)
    each_below k _ _ h = absurd h

    rest_named : (r : Rest) (xs : List ℕ) (ws : List (List ℕ)) → SayRest n r xs ws → pass (named_rest counts r xs) ≡ true
    rest_named (Names k) xs ws h = one_pass (list_all (λ i. nat_lt i (counts k)) xs) (each_below k xs ws h)
    rest_named _ xs ws h = refl

    pub named_read : (row : Row) (ws : List (List ℕ)) (line : Line) → read_row n row ws ≡ Ok line → is_named_line counts known row line ≡ true
    named_read row ws line e =
        let rest = rest_named row.rest line.rest (drop (length row.parts) ws) (grammar.says n row line ws e).rest in
        all_from (all_tests (named_tests counts known) row.parts line.values (named_rest counts row.rest line.rest))
        (line_passes (named_tests counts known) named_part row ws line (named_rest counts row.rest line.rest) rest e)

-- the test of a new name
abbrev pub new_tests : (List ℕ → Bool) → Place → PartValue → List Bool
new_tests new NewName v = new (name_in v) ∷ []
new_tests new _ v = []

-- what is read declares new names
module _ (n : Naming) (new : List ℕ → Bool) (fresh : (w m : List ℕ) → n.fresh w ≡ Ok m → new m ≡ true) where
  new_part : (p : Place) (w : List ℕ) (v : PartValue) → Says n p v w → pass (new_tests new p v) ≡ true
  new_part NewName w v h = rw (h.2) (one_pass (new h.0) (fresh w h.0 h.1))
  new_part _ w v h = refl

  pub new_read : (row : Row) (ws : List (List ℕ)) (line : Line) → read_row n row ws ≡ Ok line → pass (all_tests (new_tests new) row.parts line.values []) ≡ true
  new_read row ws line e = line_passes n (new_tests new) new_part row ws line [] refl e

-- `all` is no number
no_number : (i : ℕ) → number_of all_text ≡ Ok i → ⊥
unfolding number_of is_number
no_number i e = cc

-- a number is not `all`
no_all : (i : ℕ) → i < 2 ^ 64 → bytes_eq (decimal i) all_text ≡ false
no_all i small =
    false_from_ne_true (bytes_eq (decimal i) all_text)
    (λ is. no_number i (subst (λ w. number_of w ≡ Ok i) ((bytes_eq-Decides (decimal i) all_text).0 is) (number_back i small)))

-- what passes the tests is read of its own words
module _ (n : Naming) (known : Known) (counts : Kind → ℕ) (new : List ℕ → Bool)
    (called : (k : Kind) (i : ℕ) → nat_lt i (counts k) ≡ true → n.number k (known k i) ≡ Ok i)
    (fresh : (m : List ℕ) → new m ≡ true → n.fresh m ≡ Ok m) where
  reads_number : (p : PartValue) → nat_lt (number_in p) (2 ^ 64) ≡ true → wrapped value.Number (number_of (decimal (number_in p))) ≡ Ok (value.Number (number_in p))
  reads_number p h = ap (wrapped value.Number) (number_back (number_in p) (ltb-true (number_in p) (2 ^ 64) h))

  part_from : (p : Place) (v : PartValue) → shaped p v ≡ v → pass (sound_tests p v) ≡ true → pass (named_tests counts known p v) ≡ true →
      pass (new_tests new p v) ≡ true → read_part n p (part_text known p v) ≡ Ok v
  part_from (Word t) v is s m f = (part_tells n (Word t) t).said v (refl, sym is)
  part_from (Name k) v is s m f =
      ap (wrapped value.Id) (called k (id_in v) (pass_one (nat_lt (id_in v) (counts k)) m)) ∙ ap Ok is
  part_from NewName v is s m f = ap (wrapped value.NewName) (fresh (name_in v) (pass_one (new (name_in v)) f)) ∙ ap Ok is
  part_from Number v is s m f = reads_number v (pass_one (nat_lt (number_in v) (2 ^ 64)) s) ∙ ap Ok is
  part_from DataWord v is s m f =
      ap (wrapped value.Word) (word_back (word_in v) (ltb-true (word_in v) (2 ^ 32) (pass_one (nat_lt (word_in v) (2 ^ 32)) s))) ∙ ap Ok is
  part_from FlagWord v is s m f =
      ap (wrapped value.Word) (flag_back (word_in v) (ltb-true (word_in v) (2 ^ 32) (pass_one (nat_lt (word_in v) (2 ^ 32)) s))) ∙ ap Ok is
  part_from (Set k) v is s m f =
      let both = and_parts (nat_lt 0 (set_in v)) (nat_lt (set_in v) 128 && true) s in
      ap (wrapped value.Set) (set_back k (set_in v) (ltb-true 0 (set_in v) both.0) (ltb-true (set_in v) 128 (pass_one (nat_lt (set_in v) 128) both.1)))
      ∙ ap Ok is
  part_from (Choice c) v is s m f =
      subst (λ x. wrapped value.Chosen (or_form (chosen (choices_of c) (choice_text (choice_in x)))) ≡ Ok x) is
      (ap (λ o. wrapped value.Chosen (or_form o)) (as_own c (choice_in v)))
  part_from (AllOr k) v is s m f =
      subst (λ x. all_or_of value.AllOr (n.number k) (part_text known (AllOr k) x) ≡ Ok x) is (by_case (all_or_in v) m)
    where
      by_case : (o : Option ℕ) → pass (of_some (λ i. nat_lt i (counts k) && not (bytes_eq (known k i) all_text)) o) ≡ true →
          all_or_of value.AllOr (n.number k) (part_text known (AllOr k) (value.AllOr o)) ≡ Ok (value.AllOr o)
      by_case None h = (part_tells n (AllOr k) all_text).said (value.AllOr None) (inl (refl, refl))
      by_case (Some i) h =
          let both = and_parts (nat_lt i (counts k)) (not (bytes_eq (known k i) all_text))
          (pass_one (nat_lt i (counts k) && not (bytes_eq (known k i) all_text)) h) in
          (part_tells n (AllOr k) (known k i)).said (value.AllOr (Some i))
          (inr (not_same (known k i) all_text (not_true (bytes_eq (known k i) all_text) both.1), (i, called k i both.0, refl)))
  part_from AllOrNumber v is s m f =
      subst (λ x. all_or_of value.AllOrNumber number_of (part_text known AllOrNumber x) ≡ Ok x) is (by_case (all_or_number_in v) s)
    where
      by_case : (o : Option ℕ) → pass (of_some (λ i. nat_lt i (2 ^ 64)) o) ≡ true →
          all_or_of value.AllOrNumber number_of (part_text known AllOrNumber (value.AllOrNumber o)) ≡ Ok (value.AllOrNumber o)
      by_case None h = (part_tells n AllOrNumber all_text).said (value.AllOrNumber None) (inl (refl, refl))
      by_case (Some i) h =
          let small = ltb-true i (2 ^ 64) (pass_one (nat_lt i (2 ^ 64)) h) in
          (part_tells n AllOrNumber (decimal i)).said (value.AllOrNumber (Some i)) (inr (not_same (decimal i) all_text (no_all i small), (i, (small, refl), refl)))

  parts_from : (ps : List Place) (us vs : List PartValue) (i : ℕ) (xs ys zs : List Bool) → drop i vs ≡ us → shaped_from i ps vs ≡ us →
      pass (all_tests sound_tests ps us xs) ≡ true → pass (all_tests (named_tests counts known) ps us ys) ≡ true →
      pass (all_tests (new_tests new) ps us zs) ≡ true → AllGood n known ps us × (pass xs ≡ true) × (pass ys ≡ true)
  parts_from [] [] vs i xs ys zs e is s m f = (tt, s, m)
  parts_from (p ∷ ps) (u ∷ us) vs i xs ys zs e is s m f =
      let there = value_there vs us u i e in
      let head : shaped p (value_at vs i) ≡ u = cc in
      let tail : shaped_from (i + 1) ps vs ≡ us = cc in
      let own : shaped p u ≡ u = subst (λ x. shaped p x ≡ u) there.0 head in
      let ss = pass_split (sound_tests p u) (all_tests sound_tests ps us xs) s in
      let ms = pass_split (named_tests counts known p u) (all_tests (named_tests counts known) ps us ys) m in
      let fs = pass_split (new_tests new p u) (all_tests (new_tests new) ps us zs) f in
      let more = parts_from ps us vs (i + 1) xs ys zs (rw (add-one i) there.1) tail ss.1 ms.1 fs.1 in
      ((record { kind = own; reads = part_from p u own ss.0 ms.0 fs.0 }, more.0), more.1, more.2)
  parts_from _ _ vs i xs ys zs e is s m f = cc

  each_from : (k : Kind) (xs : List ℕ) → list_all (λ i. nat_lt i (counts k)) xs ≡ true → each_of (n.number k) (map (known k) xs) ≡ Ok xs
  unfolding each_of two_of
  each_from k [] h = refl
  each_from k (x ∷ xs) h =
      let both = and_parts (nat_lt x (counts k)) (list_all (λ i. nat_lt i (counts k)) xs) h in rw (called k x both.0, each_from k xs both.1) refl

  rest_from : (r : Rest) (xs : List ℕ) → shaped_rest r xs ≡ xs → pass (sound_rest r xs) ≡ true → pass (named_rest counts r xs) ≡ true →
      read_rest n r (rest_texts known r xs) ≡ Ok xs
  unfolding read_rest rest_texts
  rest_from Nothing xs is s m = ap Ok is
  rest_from (Names k) xs is s m = each_from k xs (pass_one (list_all (λ i. nat_lt i (counts k)) xs) m)
  rest_from Words xs is s m =
      let first = and_parts (nat_le 1 (length xs)) (nat_le (length xs) 256 && (list_all (λ x. nat_lt x (2 ^ 32)) xs && true)) s in
      let second = and_parts (nat_le (length xs) 256) (list_all (λ x. nat_lt x (2 ^ 32)) xs && true) first.1 in
      words_again n known xs first.0 second.0 (pass_one (list_all (λ x. nat_lt x (2 ^ 32)) xs) second.1)

  -- a line of its parts' kinds that passes is read of its own words
  pub line_from : (row : Row) (line : Line) → shaped_line row line ≡ line → is_sound_line row line ≡ true → is_named_line counts known row line ≡ true →
      pass (all_tests (new_tests new) row.parts line.values []) ≡ true → IsGoodLine n known row line
  line_from row line is s m f =
      let values : shaped_from 0 row.parts line.values ≡ line.values = ap (λ (x : Line). x.values) is in
      let rest : shaped_rest row.rest line.rest ≡ line.rest = ap (λ (x : Line). x.rest) is in
      let all = parts_from row.parts line.values line.values 0 (sound_rest row.rest line.rest) (named_rest counts row.rest line.rest) [] refl values
      (all_each (all_tests sound_tests row.parts line.values (sound_rest row.rest line.rest)) s)
      (all_each (all_tests (named_tests counts known) row.parts line.values (named_rest counts row.rest line.rest)) m) f in
      record { values = all.0; rest = rest_from row.rest line.rest rest all.1 all.2 }
