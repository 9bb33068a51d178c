-- Where a register is covered twice, a range begins at such a register.
use Rattle.std.proofs.Common.{◌≡◌, ℕ, ◌+◌, ◌<◌, ◌≤◌, Bool, true, false, ◌&&◌, nat_le, nat_lt, List, [], ◌∷◌, refl, sym, subst, ◌∙◌, arith, inl, inr}
use Rattle.std.proofs.lemmas.Bool.{and_parts, and_from, or_left, or_right, or_cases, leb-true, ltb-true, le-leb, lt-ltb, cases_lt, cases_Bool, cond-true, cond-false}
use Rattle.std.specs.List.{list_any}
use Rattle.dx_base.specs.declared.kinds.Class.{Class}
use Rattle.dx_base.specs.declared.kinds.Class.TheVariants.{Cbv, Srv, Uav}
use Rattle.root_signature.specs.declared.ranges.Range.{Range}
use Rattle.root_signature.specs.Ranges.{covers, is_class}
use Rattle.root_signature.proofs.Coverage.{count_covers}

same_class : (a b : Class) → is_class a b ≡ true → a ≡ b
same_class Cbv Cbv h = refl
same_class Cbv Srv h = absurd (cc)
same_class Cbv Uav h = absurd (cc)
same_class Srv Cbv h = absurd (cc)
same_class Srv Srv h = refl
same_class Srv Uav h = absurd (cc)
same_class Uav Cbv h = absurd (cc)
same_class Uav Srv h = absurd (cc)
same_class Uav Uav h = refl

is_itself : (a : Class) → is_class a a ≡ true
is_itself Cbv = refl
is_itself Srv = refl
is_itself Uav = refl

-- what it is that a range covers a register
record Covers (range : Range) (class : Class) (register : ℕ) : Type 0 where
  of : range.class ≡ class
  from : range.register ≤ register
  to : register < range.register + range.count

covers_parts : (range : Range) (class : Class) (register : ℕ) → covers range class register ≡ true → Covers range class register
covers_parts range class register h =
    let a = and_parts (is_class range.class class) (nat_le range.register register && nat_lt register (range.register + range.count)) h in
    let b = and_parts (nat_le range.register register) (nat_lt register (range.register + range.count)) a.1 in
    record { of = same_class _ _ a.0; from = leb-true _ _ b.0; to = ltb-true _ _ b.1 }

covers_from : (range : Range) (class : Class) (register : ℕ) → Covers range class register → covers range class register ≡ true
covers_from range class register c =
    let same : is_class range.class class ≡ true = subst (λ k. is_class range.class k ≡ true) c.of (is_itself range.class) in
    and_from _ _ same (and_from _ _ (le-leb _ _ c.from) (lt-ltb _ _ c.to))

-- of two ranges that cover one register, that which does not begin later covers the first register of the other
covers_first : (x y : Range) (class : Class) (register : ℕ) → covers x class register ≡ true → covers y class register ≡ true →
    x.register ≤ y.register → covers x y.class y.register ≡ true
covers_first x y class register here there before =
    let a = covers_parts x class register here in
    let b = covers_parts y class register there in
    let end : y.register < x.register + x.count = omega (arith, a.to, b.from) in
    covers_from x y.class y.register (record { of = a.of ∙ sym b.of; from = before; to = end })

-- one range more
count_here : (x : Range) (xs : List Range) (class : Class) (register : ℕ) → covers x class register ≡ true →
    count_covers class register (x ∷ xs) ≡ 1 + count_covers class register xs
count_here x xs class register h = cond-true (covers x class register) (1 + count_covers class register xs) (count_covers class register xs) h

count_not_here : (x : Range) (xs : List Range) (class : Class) (register : ℕ) → covers x class register ≡ false →
    count_covers class register (x ∷ xs) ≡ count_covers class register xs
count_not_here x xs class register h = cond-false (covers x class register) (1 + count_covers class register xs) (count_covers class register xs) h

count_more : (x : Range) (xs : List Range) (class : Class) (register : ℕ) → count_covers class register xs ≤ count_covers class register (x ∷ xs)
count_more x xs class register = elim (cases_Bool (covers x class register)) [
  | inl e ↦ let n = count_here x xs class register e in omega arith
  | inr e ↦ let n = count_not_here x xs class register e in omega arith
]

-- a range is one of a list: it settles each test of some of them
abbrev pub IsAmong : Range → List Range → Type 0
IsAmong x xs = (test : Range → Bool) → test x ≡ true → list_any test xs ≡ true

-- a range of a list that covers a register
record SomeCovers (xs : List Range) (class : Class) (register : ℕ) : Type 0 where
  range : Range
  among : IsAmong range xs
  here : covers range class register ≡ true

some_covers : (xs : List Range) (class : Class) (register : ℕ) → 0 < count_covers class register xs → SomeCovers xs class register
some_covers [] class register h = absurd (omega arith)
some_covers (x ∷ xs) class register h = elim (cases_Bool (covers x class register)) [
  | inl e ↦ record { range = x; among = λ test t. or_left (test x) (list_any test xs) t; here = e }
  | inr e ↦
      let n = count_not_here x xs class register e in
      let rest = some_covers xs class register (omega arith) in
      record { range = rest.range; among = λ test t. or_right (test x) (list_any test xs) (rest.among test t); here = rest.here }
]

any_counts : (xs : List Range) (class : Class) (register : ℕ) → list_any (λ x. covers x class register) xs ≡ true → 0 < count_covers class register xs
any_counts [] class register h = absurd (cc)
any_counts (x ∷ xs) class register h = elim (or_cases (covers x class register) (list_any (λ y. covers y class register) xs) h) [
  | inl e ↦ let n = count_here x xs class register e in omega arith
  | inr e ↦
      let n = any_counts xs class register e in
      let m = count_more x xs class register in
      omega arith
]

-- a range of a list at whose first register two of them are
pub record BeginsTwice (xs : List Range) : Type 0 where
  pub range : Range
  pub among : IsAmong range xs
  pub twice : 1 < count_covers range.class range.register xs

-- the first range and a later one
first_and_later : (x : Range) (xs : List Range) (class : Class) (register : ℕ) → covers x class register ≡ true →
    SomeCovers xs class register → BeginsTwice (x ∷ xs)
first_and_later x xs class register here later =
    let y = later.range in
    elim (cases_lt y.register x.register) [
      | inl before ↦
          let both = any_counts xs x.class x.register (later.among (λ z. covers z x.class x.register) (covers_first y x class register later.here here (omega arith))) in
          let one = count_here x xs x.class x.register (covers_first x x class register here here (omega arith)) in
          record { range = x; among = λ test t. or_left (test x) (list_any test xs) t; twice = omega arith }
      | inr before ↦
          let both = any_counts xs y.class y.register (later.among (λ z. covers z y.class y.register) (covers_first y y class register later.here later.here (omega arith))) in
          let one = count_here x xs y.class y.register (covers_first x y class register here later.here before) in
          record { range = y; among = λ test t. or_right (test x) (list_any test xs) (later.among test t); twice = omega arith }
    ]

-- where a register is covered twice, a range begins at such a register
pub begins_twice : (xs : List Range) (class : Class) (register : ℕ) → 1 < count_covers class register xs → BeginsTwice xs
begins_twice [] class register h = absurd (omega arith)
begins_twice (x ∷ xs) class register h = elim (cases_Bool (covers x class register)) [
  | inl e ↦
      let n = count_here x xs class register e in
      first_and_later x xs class register e (some_covers xs class register (omega arith))
  | inr e ↦
      let n = count_not_here x xs class register e in
      let rest = begins_twice xs class register (omega arith) in
      let more = count_more x xs rest.range.class rest.range.register in
      let twice = rest.twice in
      record { range = rest.range; among = λ test t. or_right (test x) (list_any test xs) (rest.among test t); twice = omega arith }
]
