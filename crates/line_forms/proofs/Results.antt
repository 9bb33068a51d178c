-- Results with causes: what both parts of two give, the earlier of two causes, and the one value or the first cause that a result tells.
use Rattle.line_forms.proofs.Vocabulary.{ℕ, ◌≡◌, ◌∙◌, ◌≤◌, ◌⊎◌, inl, inr, List, [], ◌∷◌, Some, Ok, Err, Result, refl, sym, ap, subst, arith, slice_get, cond_both, nat_le, nat_tests, Cause, rank_of, earlier_of, wrapped, two_of}
use Rattle.line_forms.specs.declared.cause.Cause.TheVariants as cause

-- both parts were read
pub two_read : {A B : Type 0} (a : Result A Cause) (b : Result B Cause) (v : A × B) → two_of a b ≡ Ok v → (a ≡ Ok v.0) × (b ≡ Ok v.1)
unfolding two_of
two_read (Ok x) (Ok y) v e = (cc, cc)
two_read (Err c) (Err d) v e = cc
two_read _ _ v e = cc

-- what a value was made of
pub record MadeOf {A B : Type 0} (f : A → B) (x : Result A Cause) (v : B) : Type 0 where
  pub from : A
  pub read : x ≡ Ok from
  pub makes : f from ≡ v

pub made_of : {A B : Type 0} (f : A → B) (x : Result A Cause) (v : B) → wrapped f x ≡ Ok v → MadeOf f x v
made_of f (Ok a) v e = record { from = a; read = refl; makes = cc }
made_of f (Err d) v e = cc

-- one of two is the earlier
earlier_is : (a b : Cause) → (earlier_of a b ≡ a) ⊎ (earlier_of a b ≡ b)
unfolding earlier_of
earlier_is a b = cond_both (nat_le (rank_of a) (rank_of b)) a b (λ c. (c ≡ a) ⊎ (c ≡ b)) (λ is. inl refl) (λ is. inr refl)

earlier_low : (a b : Cause) → (rank_of (earlier_of a b) ≤ rank_of a) × (rank_of (earlier_of a b) ≤ rank_of b)
unfolding earlier_of
earlier_low a b =
    cond_both (nat_le (rank_of a) (rank_of b)) a b (λ c. (rank_of c ≤ rank_of a) × (rank_of c ≤ rank_of b))
    (λ is. (omega arith, grind (arith, nat_tests))) (λ is. (grind (arith, nat_tests), omega arith))

-- an error that comes no later than a cause
abbrev pub Lower : {A : Type 0} → Result A Cause → Cause → Type 0
Lower x d = (e : Cause) × (x ≡ Err e) × (rank_of e ≤ rank_of d)

left_low : {A B : Type 0} (a : Result A Cause) (b : Result B Cause) (d : Cause) → Lower a d → Lower (two_of a b) d
unfolding two_of
left_low (Ok x) b d low = cc (low.1)
left_low (Err c) (Ok y) d low = let same : c ≡ low.0 = cc (low.1) in (low.0, ap Err same, low.2)
left_low (Err c) (Err f) d low = let same : c ≡ low.0 = cc (low.1) in (earlier_of c f, refl, omega (arith, (earlier_low c f).0, ap rank_of same, low.2))

right_low : {A B : Type 0} (a : Result A Cause) (b : Result B Cause) (d : Cause) → Lower b d → Lower (two_of a b) d
unfolding two_of
right_low a (Ok y) d low = cc (low.1)
right_low (Ok x) (Err f) d low = let same : f ≡ low.0 = cc (low.1) in (low.0, ap Err same, low.2)
right_low (Err c) (Err f) d low = let same : f ≡ low.0 = cc (low.1) in (earlier_of c f, refl, omega (arith, (earlier_low c f).1, ap rank_of same, low.2))

either_fails : {A B : Type 0} (a : Result A Cause) (b : Result B Cause) (c : Cause) → two_of a b ≡ Err c → (a ≡ Err c) ⊎ (b ≡ Err c)
unfolding two_of
either_fails (Ok x) (Ok y) c e = cc
either_fails (Ok x) (Err d) c e = inr cc
either_fails (Err d) (Ok y) c e = inl cc
either_fails (Err d) (Err f) c e =
    let same : earlier_of d f ≡ c = cc in
    elim (earlier_is d f) [ inl h ↦ inl (ap Err (sym h ∙ same)) | inr h ↦ inr (ap Err (sym h ∙ same)) ]

-- causes of one place in the order are one
all_causes : List Cause
all_causes = cause.Size ∷ cause.Line ∷ cause.Cut ∷ cause.After ∷ cause.Later ∷ cause.Order ∷ cause.Form ∷ cause.Number ∷ cause.Again ∷ cause.Name ∷ cause.Limit ∷ []

cause_back : (c : Cause) → slice_get all_causes (rank_of c) ≡ Some c
unfolding all_causes
cause_back cause.Size = refl
cause_back _ = refl

first_is : (a b : Cause) → rank_of a ≤ rank_of b → rank_of b ≤ rank_of a → a ≡ b
first_is a b low high =
    let same : Some a ≡ Some b = sym (cause_back a) ∙ (ap (slice_get all_causes) (omega (arith, low, high)) ∙ cause_back b) in cc

-- a result tells what is said and what is wrong: it is the one value that is said, or the first cause of what is wrong
pub record Tells {A : Type 0} (r : Result A Cause) (One : A → Type 0) (Wrong : Cause → Type 0) : Type 0 where
  pub says : (x : A) → r ≡ Ok x → One x
  pub said : (x : A) → One x → r ≡ Ok x
  pub wrong : (c : Cause) → r ≡ Err c → Wrong c
  pub told : (d : Cause) → Wrong d → Lower r d

module _ {A : Type 0} {One : A → Type 0} {Wrong : Cause → Type 0} where
  -- the one value that is said
  pub one_tells : (x : A) → One x → ((y : A) → One y → x ≡ y) → ((c : Cause) → Wrong c → ⊥) → Tells (Ok x) One Wrong
  one_tells x one only none = record {
    says = λ y e. let same : x ≡ y = cc in subst One same one;
    said = λ y h. ap Ok (only y h);
    wrong = λ c e. cc;
    told = λ d h. absurd (none d h);
  }

  -- the first cause, where nothing is said
  pub cause_tells : (c : Cause) → ((x : A) → One x → ⊥) → Wrong c → ((d : Cause) → Wrong d → rank_of c ≤ rank_of d) → Tells (Err c) One Wrong
  cause_tells c none wrong first = record {
    says = λ x e. cc;
    said = λ x h. absurd (none x h);
    wrong = λ d e. let same : c ≡ d = cc in subst Wrong same wrong;
    told = λ d h. (c, refl, first d h);
  }

  -- the same, said otherwise
  pub tells_same : {r : Result A Cause} {Two : A → Type 0} {Bad : Cause → Type 0} → Tells r One Wrong → ((x : A) → One x → Two x) → ((x : A) → Two x → One x) →
      ((c : Cause) → Wrong c → Bad c) → ((c : Cause) → Bad c → Wrong c) → Tells r Two Bad
  tells_same t a b c d = record { says = λ x e. a x (t.says x e); said = λ x h. t.said x (b x h); wrong = λ f e. c f (t.wrong f e); told = λ f h. t.told f (d f h) }

  -- what a value is made of
  pub wrapped_tells : {B : Type 0} {r : Result A Cause} (f : A → B) → Tells r One Wrong → Tells (wrapped f r) (λ y. (x : A) × One x × (y ≡ f x)) Wrong
  wrapped_tells {r = r} f t = record {
    says = λ y e. let m = made_of f r y e in (m.from, t.says m.from m.read, sym m.makes);
    said = λ y h. rw (t.said h.0 h.1, h.2) refl;
    wrong = λ c e. t.wrong c (failed r c e);
    told = λ d h. let low = t.told d h in (low.0, ap (wrapped f) low.1, low.2);
  }
    where
      failed : (r : Result A Cause) (c : Cause) → wrapped f r ≡ Err c → r ≡ Err c
      failed (Ok a) c e = cc
      failed (Err d) c e = cc

  -- two results
  pub two_tells : {B : Type 0} {a : Result A Cause} {b : Result B Cause} {Two : B → Type 0} {Bad : Cause → Type 0} → Tells a One Wrong → Tells b Two Bad →
      Tells (two_of a b) (λ v. One v.0 × Two v.1) (λ c. Wrong c ⊎ Bad c)
  unfolding two_of
  two_tells {a = a} {b = b} t u = record {
    says = λ v e. let both = two_read a b v e in (t.says v.0 both.0, u.says v.1 both.1);
    said = λ v h. rw (t.said v.0 h.0, u.said v.1 h.1) refl;
    wrong = λ c e. elim (either_fails a b c e) [ inl h ↦ inl (t.wrong c h) | inr h ↦ inr (u.wrong c h) ];
    told = λ c h. elim h [ inl w ↦ left_low a b c (t.told c w) | inr w ↦ right_low a b c (u.told c w) ];
  }

-- one more of several
pub cons_tells : {A : Type 0} {One : A → Type 0} {Wrong : Cause → Type 0} {a : Result A Cause} {b : Result (List A) Cause} {More : List A → Type 0} {Bad : Cause → Type 0} →
    Tells a One Wrong → Tells b More Bad → (All : List A → Type 0) → (All [] → ⊥) → ((x : A) (xs : List A) → One x × More xs → All (x ∷ xs)) →
    ((x : A) (xs : List A) → All (x ∷ xs) → One x × More xs) → Tells (wrapped (λ v. v.0 ∷ v.1) (two_of a b)) All (λ c. Wrong c ⊎ Bad c)
cons_tells {A} {One = One} {More = More} t u All none into out =
    tells_same (wrapped_tells (λ (v : A × List A). v.0 ∷ v.1) (two_tells t u)) (λ xs h. subst All (sym h.2) (into h.0.0 h.0.1 h.1)) by_list (λ c h. h) (λ c h. h)
  where
    by_list : (xs : List A) → All xs → (v : A × List A) × (One v.0 × More v.1) × (xs ≡ v.0 ∷ v.1)
    by_list [] h = absurd (none h)
    by_list (x ∷ xs) h = ((x, xs), out x xs h, refl)

-- none of several
pub nil_tells : {A : Type 0} (All : List A → Type 0) → All [] → ((x : A) (xs : List A) → All (x ∷ xs) → ⊥) → Tells (Ok []) All (λ c. ⊥)
nil_tells {A} All none more = one_tells [] none only (λ c h. h)
  where
    only : (xs : List A) → All xs → [] ≡ xs
    only [] h = refl
    only (x ∷ xs) h = absurd (more x xs h)

-- what is said in so many words
pub itself : {A : Type 0} (r : Result A Cause) → Tells r (λ x. r ≡ Ok x) (λ c. r ≡ Err c)
itself r = record { says = λ x e. e; said = λ x h. h; wrong = λ c e. e; told = λ d h. (d, h, omega arith) }

-- a word of no form is refused for that alone
pub form_tells : {A : Type 0} {One : A → Type 0} (r : Result A Cause) → ((x : A) → r ≡ Ok x → One x) → ((x : A) → One x → r ≡ Ok x) →
    ((c : Cause) → r ≡ Err c → c ≡ cause.Form) → Tells r One (λ c. (c ≡ cause.Form) × ((x : A) → One x → ⊥))
form_tells (Ok x) says said form = record { says = says; said = said; wrong = λ c e. cc; told = λ d h. absurd (h.1 x (says x refl)) }
form_tells (Err c) says said form = record {
  says = says;
  said = said;
  wrong = λ d e. (form d e, λ x h. cc (said x h));
  told = λ d h. (c, refl, rw (form c refl, h.0) (omega arith));
}

-- the first cause that is there, and the one that is told
pub told_first : {A : Type 0} {One : A → Type 0} {Wrong : Cause → Type 0} {r : Result A Cause} → Tells r One Wrong → (c d : Cause) → r ≡ Err c → Wrong d → rank_of c ≤ rank_of d
told_first t c d e h = let low = t.told d h in let same : low.0 ≡ c = cc (low.1) in subst (λ x. rank_of x ≤ rank_of d) same low.2

pub first_told : {A : Type 0} {One : A → Type 0} {Wrong : Cause → Type 0} {r : Result A Cause} → Tells r One Wrong → (c : Cause) → Wrong c →
    ((d : Cause) → Wrong d → rank_of c ≤ rank_of d) → r ≡ Err c
first_told t c there first = let low = t.told c there in low.1 ∙ ap Err (first_is low.0 c low.2 (first low.0 (t.wrong low.0 low.1)))
