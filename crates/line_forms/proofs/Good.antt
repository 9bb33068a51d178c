-- What is read is read of its own words.
use Rattle.line_forms.proofs.Vocabulary.{ℕ, zero, suc, ◌≡◌, ◌∙◌, ◌+◌, ◌<◌, ◌^◌, ◌&&◌, ◌++◌, inl, inr, nat_le, nat_lt, Bool, true, false, List, [], ◌∷◌, length, map, drop, Ok, refl, sym, ap, add-one, arith, list_all, and_parts, and_from, lt-ltb, le-leb, ltb-true, length-map, Line, Kind, PartValue, Rest, Nothing, Names, Words, wrapped, two_of, shaped, shaped_from, shaped_rest, shaped_line, IsGood, AllParts, AllGood, IsGoodLine, AreNamed, ReadsAgain, PrintsBack, hex_word, Place, Word, Name, NewName, Number, DataWord, FlagWord, Set, Choice, AllOr, AllOrNumber, Row, Known, part_text, part_texts, rest_texts, line_words, Naming, word_of, read_part, read_parts, each_of, read_rest, read_row, IsHexadecimal, Says, SayAll, SayEach, SayRest, value_at}
use Rattle.line_forms.specs.declared.part.PartValue.TheVariants as value
use Rattle.line_forms.proofs.Apart.{found_in}
use Rattle.line_forms.proofs.ChoicesBack.{choice_own}
use Rattle.line_forms.proofs.Grammar.{grammar, hex_tells, part_tells, rest_tells}
use Rattle.line_forms.proofs.SetsBack.{set_again}
use Rattle.line_forms.proofs.SetsSay.{set_said}
use Rattle.line_forms.proofs.WordsBack.{word_back, word_small, flag_back}

-- the value at a place
pub value_there : (vs us : List PartValue) (v : PartValue) (i : ℕ) → drop i vs ≡ v ∷ us → (value_at vs i ≡ v) × (drop (suc i) vs ≡ us)
value_there [] us v zero e = cc
value_there [] us v (suc i) e = cc
value_there (x ∷ vs) us v zero e = (cc, cc)
value_there (x ∷ vs) us v (suc i) e = value_there vs us v i e

-- values from a place on are of their parts' kinds
from_place : (ps : List Place) (us vs : List PartValue) (i : ℕ) → drop i vs ≡ us → AllParts (λ p v. shaped p v ≡ v) ps us → shaped_from i ps vs ≡ us
from_place [] [] vs i e good = refl
from_place (p ∷ ps) (u ∷ us) vs i e good =
    let there = value_there vs us u i e in
    rw (there.0, good.0, from_place ps us vs (i + 1) (rw (add-one i) there.1) good.1) refl
from_place _ _ vs i e good = absurd good

-- a fact of each value that a word says
parts_hold : (n : Naming) (P : Place → PartValue → Type 0) → ((p : Place) (w : List ℕ) (v : PartValue) → Says n p v w → P p v) →
    (ps : List Place) (vs : List PartValue) (ws : List (List ℕ)) → SayAll n ps vs ws → AllParts P ps vs
parts_hold n P holds [] [] ws h = tt
parts_hold n P holds (p ∷ ps) vs [] h = absurd h
parts_hold n P holds (p ∷ ps) (v ∷ vs) (w ∷ ws) h = (holds p w v h.0, parts_hold n P holds ps vs ws h.1)
parts_hold n P holds _ _ _ h = absurd h

-- what is said is of its part's kind
part_shaped : (n : Naming) (p : Place) (w : List ℕ) (v : PartValue) → Says n p v w → shaped p v ≡ v
part_shaped n (Word t) w v h = sym h.1
part_shaped n (Choice c) w v h = rw (h.2) (ap value.Chosen (choice_own c w h.0 h.1))
part_shaped n (AllOr k) w v (inl h) = rw (h.1) refl
part_shaped n (AllOr k) w v (inr h) = rw (h.1.2) refl
part_shaped n AllOrNumber w v (inl h) = rw (h.1) refl
part_shaped n AllOrNumber w v (inr h) = rw (h.1.2) refl
part_shaped n _ w v h = rw (h.2) refl

rest_shaped : (n : Naming) (r : Rest) (xs : List ℕ) (ws : List (List ℕ)) → SayRest n r xs ws → shaped_rest r xs ≡ xs
rest_shaped n Nothing xs ws h = sym h.1
rest_shaped n _ xs ws h = refl

line_shaped : (n : Naming) (row : Row) (ws : List (List ℕ)) (line : Line) → read_row n row ws ≡ Ok line → shaped_line row line ≡ line
line_shaped n row ws line e =
    let says = grammar.says n row line ws e in
    let all = parts_hold n (λ p v. shaped p v ≡ v) (part_shaped n) row.parts line.values ws says.values in
    rw (from_place row.parts line.values line.values 0 refl all, rest_shaped n row.rest line.rest (drop (length row.parts) ws) says.rest) refl

-- data words are below 2^32
pub hex_small : (w : List ℕ) (i : ℕ) → IsHexadecimal i w → i < 2 ^ 32
hex_small w i h = word_small w i ((hex_tells w).said i h)

pub each_small : (xs : List ℕ) (ws : List (List ℕ)) → SayEach IsHexadecimal xs ws → (length xs ≡ length ws) × (list_all (λ x. nat_lt x (2 ^ 32)) xs ≡ true)
each_small [] [] h = (refl, refl)
each_small (x ∷ xs) (w ∷ ws) h =
    let more = each_small xs ws h.1 in
    (ap suc more.0, and_from (nat_lt x (2 ^ 32)) (list_all (λ y. nat_lt y (2 ^ 32)) xs) (lt-ltb x (2 ^ 32) (hex_small w x h.0)) more.1)
each_small _ _ h = absurd h

-- and are read of eight digits
words_from : (xs : List ℕ) → list_all (λ x. nat_lt x (2 ^ 32)) xs ≡ true → each_of word_of (map hex_word xs) ≡ Ok xs
unfolding each_of two_of
words_from [] h = refl
words_from (x ∷ xs) h =
    let both = and_parts (nat_lt x (2 ^ 32)) (list_all (λ y. nat_lt y (2 ^ 32)) xs) h in
    rw (word_back x (ltb-true x (2 ^ 32) both.0), words_from xs both.1) refl

pub words_again : (n : Naming) (known : Known) (xs : List ℕ) → nat_le 1 (length xs) ≡ true → nat_le (length xs) 256 ≡ true →
    list_all (λ x. nat_lt x (2 ^ 32)) xs ≡ true → read_rest n Words (rest_texts known Words xs) ≡ Ok xs
unfolding read_rest rest_texts
words_again n known xs some few small =
    let long : length (map hex_word xs) ≡ length xs = length-map xs hex_word in rw (long, some, few) (words_from xs small)

-- the word of a part is printed as it was read
abbrev pub is_kept_part : Place → Bool
is_kept_part DataWord = false
is_kept_part FlagWord = false
is_kept_part (Set s) = false
is_kept_part _ = true

abbrev pub is_kept_rest : Rest → Bool
is_kept_rest Words = false
is_kept_rest _ = true

abbrev pub is_kept : Row → Bool
is_kept row = list_all is_kept_part row.parts && is_kept_rest row.rest

module _ (n : Naming) (known : Known) (named : AreNamed n known) where
  part_kept : (p : Place) (w : List ℕ) (v : PartValue) → is_kept_part p ≡ true → Says n p v w → part_text known p v ≡ w
  part_kept (Word t) w v k h = sym h.0
  part_kept (Name k) w v kept h = rw (h.2) (named.things k w h.0 h.1)
  part_kept NewName w v kept h = rw (h.2) (named.new w h.0 h.1)
  part_kept Number w v kept h = rw (h.2) (sym h.1.1)
  part_kept (Choice c) w v kept h = rw (h.2) (sym h.1.0)
  part_kept (AllOr k) w v kept (inl h) = rw (h.1) (sym h.0)
  part_kept (AllOr k) w v kept (inr h) = rw (h.1.2) (named.things k w h.1.0 h.1.1)
  part_kept AllOrNumber w v kept (inl h) = rw (h.1) (sym h.0)
  part_kept AllOrNumber w v kept (inr h) = rw (h.1.2) (sym h.1.1.1)
  part_kept _ w v kept h = cc

  parts_kept : (ps : List Place) (vs : List PartValue) (ws : List (List ℕ)) → list_all is_kept_part ps ≡ true → SayAll n ps vs ws →
      part_texts known ps vs ++ drop (length ps) ws ≡ ws
  unfolding part_texts
  parts_kept [] [] ws kept h = refl
  parts_kept (p ∷ ps) vs [] kept h = absurd h
  parts_kept (p ∷ ps) (v ∷ vs) (w ∷ ws) kept h =
      let both = and_parts (is_kept_part p) (list_all is_kept_part ps) kept in rw (part_kept p w v both.0 h.0, parts_kept ps vs ws both.1 h.1) refl
  parts_kept _ _ _ kept h = absurd h

  each_kept : (k : Kind) (xs : List ℕ) (ws : List (List ℕ)) → SayEach (λ i w. n.number k w ≡ Ok i) xs ws → map (known k) xs ≡ ws
  each_kept k [] [] h = refl
  each_kept k (x ∷ xs) (w ∷ ws) h = rw (named.things k w x h.0, each_kept k xs ws h.1) refl
  each_kept k _ _ h = absurd h

  rest_kept : (r : Rest) (xs : List ℕ) (ws : List (List ℕ)) → is_kept_rest r ≡ true → SayRest n r xs ws → rest_texts known r xs ≡ ws
  unfolding rest_texts
  rest_kept Nothing xs ws kept h = sym h.0
  rest_kept (Names k) xs ws kept h = each_kept k xs ws h
  rest_kept Words xs ws kept h = cc

  -- a line whose parts are all kept is printed as it was read
  pub line_kept : (row : Row) (line : Line) (ws : List (List ℕ)) → is_kept row ≡ true → read_row n row ws ≡ Ok line → line_words known row line ≡ ws
  unfolding line_words
  line_kept row line ws kept e =
      let both = and_parts (list_all is_kept_part row.parts) (is_kept_rest row.rest) kept in
      let says = grammar.says n row line ws e in
      ap (λ us. part_texts known row.parts line.values ++ us) (rest_kept row.rest line.rest (drop (length row.parts) ws) both.1 says.rest)
      ∙ parts_kept row.parts line.values ws both.0 says.values

  -- what is said is read of its printed word
  as_read : (p : Place) (w : List ℕ) (v : PartValue) → is_kept_part p ≡ true → Says n p v w → read_part n p (part_text known p v) ≡ Ok v
  as_read p w v kept h = ap (read_part n p) (part_kept p w v kept h) ∙ (part_tells n p w).said v h

  part_reads : (p : Place) (w : List ℕ) (v : PartValue) → Says n p v w → read_part n p (part_text known p v) ≡ Ok v
  part_reads DataWord w v h = rw (h.2) (ap (wrapped value.Word) (word_back h.0 (hex_small w h.0 h.1)))
  part_reads FlagWord w v h = rw (h.2) (ap (wrapped value.Word) (flag_back h.0 (hex_small w h.0 h.1)))
  part_reads (Set s) w v h = rw (h.2) (ap (wrapped value.Set) (set_again s w h.0 (set_said s w h.0 h.1)))
  part_reads p w v h = as_read p w v refl h

  part_good : (p : Place) (w : List ℕ) (v : PartValue) → Says n p v w → IsGood n known p v
  part_good p w v h = record { kind = part_shaped n p w v h; reads = part_reads p w v h }

  -- the words up to the end are read again
  rest_again : (r : Rest) (xs : List ℕ) (ws : List (List ℕ)) → SayRest n r xs ws → read_rest n r (rest_texts known r xs) ≡ Ok xs
  unfolding read_rest rest_texts
  rest_again Nothing xs ws h = ap Ok (sym h.1)
  rest_again (Names k) xs ws h = ap (each_of (n.number k)) (each_kept k xs ws h) ∙ (rest_tells n (Names k) ws).said xs h
  rest_again Words xs ws h =
      let all = each_small xs ws h.2 in
      words_again n known xs (le-leb 1 (length xs) (omega (arith, all.0, h.0))) (le-leb (length xs) 256 (omega (arith, all.0, h.1))) all.1

  -- a line that is read is good
  line_good : (row : Row) (ws : List (List ℕ)) (line : Line) → read_row n row ws ≡ Ok line → IsGoodLine n known row line
  line_good row ws line e =
      let says = grammar.says n row line ws e in
      record {
        values = parts_hold n (IsGood n known) part_good row.parts line.values ws says.values;
        rest = rest_again row.rest line.rest (drop (length row.parts) ws) says.rest;
      }

pub reads_again : ReadsAgain
reads_again = record { good = line_good; shaped = line_shaped }

parts_back : (n : Naming) (known : Known) (ps : List Place) (vs : List PartValue) (more : List (List ℕ)) → AllGood n known ps vs →
    read_parts n ps (part_texts known ps vs ++ more) ≡ Ok vs
unfolding read_parts part_texts two_of
parts_back n known [] [] more good = refl
parts_back n known (p ∷ ps) (v ∷ vs) more good = rw (good.0.reads, parts_back n known ps vs more good.1) refl
parts_back n known _ _ more good = absurd good

behind : (n : Naming) (known : Known) (ps : List Place) (vs : List PartValue) (more : List (List ℕ)) → AllGood n known ps vs →
    drop (length ps) (part_texts known ps vs ++ more) ≡ more
unfolding part_texts
behind n known [] [] more good = refl
behind n known (p ∷ ps) (v ∷ vs) more good = behind n known ps vs more good.1
behind n known _ _ more good = absurd good

-- a good line is read of its own words
line_back : (n : Naming) (known : Known) (row : Row) (line : Line) → IsGoodLine n known row line → read_row n row (line_words known row line) ≡ Ok line
unfolding read_row two_of line_words
line_back n known row line good =
    rw (
      parts_back n known row.parts line.values (rest_texts known row.rest line.rest) good.values,
      behind n known row.parts line.values (rest_texts known row.rest line.rest) good.values,
      good.rest,
    ) refl

pub prints_back : PrintsBack
unfolding line_words
prints_back = record { reads = line_back; finds = λ n known rows k row line all e good. found_in n known (λ r. r) rows k row line.values line.rest all e good.values }
