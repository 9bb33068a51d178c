-- What is told of steps is their first fault.
use Rattle.std.proofs.Common.{ℕ, zero, suc, ◌≡◌, ◌<◌, ◌+◌, ◌∙◌, ◌⊎◌, inl, inr, Bool, true, false, ◌||◌, List, [], ◌∷◌, Option, Some, None, is_some, slice_get, refl, sym, ap, subst, add-one, add-zero, arith, if◌then◌else◌}
use Rattle.std.proofs.lemmas.Option.{none-some}
use Rattle.vk_journal_check.specs.declared.checking.StepCheck.{StepCheck}
use Rattle.vk_journal_check.specs.declared.checking.StepCheck.TheVariants.{Clean, Broken, Impossible}
use Rattle.vk_journal_check.specs.FirstFaults.{AreFaultless, IsBrokenAt, IsFirstFault, IsImpossibleAt, TellsFirstFaults, is_faulty, state_before}
use Rattle.vk_journal_check.specs.StepChecks.{check_from, check_of_rule, check_of_step, checked, first_of, is_impossible}
use Rattle.vk_sync_rules.specs.Rules.{after_step, rule_of}
use Rattle.vk_sync_rules.specs.VkState.{VkState, first_state}
use Rattle.vk_sync_rules.specs.declared.rules.VkRule.{VkRule}
use Rattle.vk_types.specs.declared.steps.VkStep.{VkStep}

-- what is told of one step, by whether it is impossible and the rule that it breaks
abbrev told_of : Bool → ℕ → Option VkRule → StepCheck
told_of t n o = if t then Impossible n else check_of_rule n o

clean_parts : (t : Bool) (n : ℕ) (o : Option VkRule) → told_of t n o ≡ Clean → (t || is_some o) ≡ false
clean_parts true n o e = cc
clean_parts false n None e = refl
clean_parts false n (Some r) e = cc

parts_clean : (t : Bool) (n : ℕ) (o : Option VkRule) → (t || is_some o) ≡ false → told_of t n o ≡ Clean
parts_clean true n o e = cc
parts_clean false n None e = refl
parts_clean false n (Some r) e = cc

impossible_parts : (t : Bool) (n : ℕ) (o : Option VkRule) (m : ℕ) → told_of t n o ≡ Impossible m → (m ≡ n) × (t ≡ true)
impossible_parts true n o m e = (cc, refl)
impossible_parts false n None m e = cc
impossible_parts false n (Some r) m e = cc

parts_impossible : (t : Bool) (n : ℕ) (o : Option VkRule) → t ≡ true → told_of t n o ≡ Impossible n
parts_impossible true n o e = refl
parts_impossible false n o e = cc

broken_parts : (t : Bool) (n : ℕ) (o : Option VkRule) (rule : VkRule) (m : ℕ) → told_of t n o ≡ Broken rule m → (m ≡ n) × ((t ≡ false) × (o ≡ Some rule))
broken_parts true n o rule m e = cc
broken_parts false n None rule m e = cc
broken_parts false n (Some r) rule m e = (cc, (refl, cc))

parts_broken : (t : Bool) (n : ℕ) (o : Option VkRule) (rule : VkRule) → t ≡ false → o ≡ Some rule → told_of t n o ≡ Broken rule n
parts_broken true n o rule e f = cc
parts_broken false n o rule e f = rw f refl

or_of_left : (t u : Bool) → t ≡ true → (t || u) ≡ true
or_of_left true u e = refl
or_of_left false u e = cc

or_of_some : (t : Bool) (o : Option VkRule) (rule : VkRule) → o ≡ Some rule → (t || is_some o) ≡ true
or_of_some true o rule e = refl
or_of_some false o rule e = rw e refl

-- the item that is there
same_step : (s u : VkStep) → Some s ≡ Some u → s ≡ u
same_step s u e = cc

-- a step that is fine, and those behind it
go_on : (v : VkState) (s : VkStep) (ss : List VkStep) (i : ℕ) (u : VkStep) → is_faulty v s ≡ false →
    IsFirstFault (after_step v s) ss i u → IsFirstFault v (s ∷ ss) (suc i) u
go_on v s ss i u fine first = record { there = first.there; faulty = first.faulty; earlier = earlier } where
  earlier : (j : ℕ) (x : VkStep) → j < suc i → slice_get (s ∷ ss) j ≡ Some x → is_faulty (state_before v (s ∷ ss) j) x ≡ false
  earlier zero x less at = subst (λ y. is_faulty v y ≡ false) (same_step s x at) fine
  earlier (suc j) x less at = first.earlier j x (omega (arith, less)) at

go_back : (v : VkState) (s : VkStep) (ss : List VkStep) (i : ℕ) (u : VkStep) → IsFirstFault v (s ∷ ss) (suc i) u → IsFirstFault (after_step v s) ss i u
go_back v s ss i u first = record {
  there = first.there;
  faulty = first.faulty;
  earlier = λ j x less at. first.earlier (suc j) x (omega (arith, less)) at;
}

begins : (v : VkState) (s : VkStep) (ss : List VkStep) → is_faulty v s ≡ true → IsFirstFault v (s ∷ ss) zero s
begins v s ss faulty = record { there = refl; faulty = faulty; earlier = λ j x less at. absurd (omega (arith, less)) }

-- the first fault is a step of one kind
record IsAt (P : VkState → VkStep → Type 0) (v : VkState) (ss : List VkStep) (i : ℕ) : Type 0 where
  step : VkStep
  first : IsFirstFault v ss i step
  is : P (state_before v ss i) step

-- a place of it, by the number that is told
record Finds (P : VkState → VkStep → Type 0) (v : VkState) (ss : List VkStep) (n m : ℕ) : Type 0 where
  place : ℕ
  counted : m ≡ n + place
  at : IsAt P v ss place

-- a kind of fault, and what is told of it
record IsKind (P : VkState → VkStep → Type 0) (make : ℕ → StepCheck) : Type 0 where
  tells : (v : VkState) (n : ℕ) (s : VkStep) → P v s → check_of_step v n s ≡ make n
  told : (v : VkState) (n : ℕ) (s : VkStep) (m : ℕ) → check_of_step v n s ≡ make m → (m ≡ n) × P v s
  faulty : (v : VkState) (s : VkStep) → P v s → is_faulty v s ≡ true
  other : (m : ℕ) → Clean ≡ make m → ⊥
  kept : (m : ℕ) (rest : StepCheck) → first_of (make m) rest ≡ make m

-- what is told is told of the step, or of those behind it
first_told : (c rest whole : StepCheck) → first_of c rest ≡ whole → (c ≡ Clean → rest ≡ whole) × ((c ≡ Clean → ⊥) → c ≡ whole)
first_told Clean rest whole e = (λ h. e, λ h. absurd (h refl))
first_told (Broken r n) rest whole e = (λ h. cc, λ h. e)
first_told (Impossible n) rest whole e = (λ h. cc, λ h. e)

clean_or_not : (c : StepCheck) → (c ≡ Clean) ⊎ (c ≡ Clean → ⊥)
clean_or_not Clean = inl refl
clean_or_not (Broken r n) = inr (λ h. cc)
clean_or_not (Impossible n) = inr (λ h. cc)

module _ (P : VkState → VkStep → Type 0) (make : ℕ → StepCheck) (kind : IsKind P make) where
  finds : (ss : List VkStep) (v : VkState) (n m : ℕ) → check_from v n ss ≡ make m → Finds P v ss n m
  finds [] v n m e = absurd (kind.other m e)
  finds (s ∷ ss) v n m e =
      by_first (clean_or_not (check_of_step v n s)) (first_told (check_of_step v n s) (check_from (after_step v s) (n + 1) ss) (make m) e)
      (λ rest. finds ss (after_step v s) (n + 1) m rest)
    where
      by_first : (check_of_step v n s ≡ Clean) ⊎ (check_of_step v n s ≡ Clean → ⊥) →
          (check_of_step v n s ≡ Clean → check_from (after_step v s) (n + 1) ss ≡ make m) × ((check_of_step v n s ≡ Clean → ⊥) → check_of_step v n s ≡ make m) →
          (check_from (after_step v s) (n + 1) ss ≡ make m → Finds P (after_step v s) ss (n + 1) m) → Finds P v (s ∷ ss) n m
      by_first (inl clean) parts more =
          let rest = more (parts.0 clean) in record {
            place = suc rest.place;
            counted = omega (arith, rest.counted);
            at = record {
              step = rest.at.step;
              first = go_on v s ss rest.place rest.at.step (clean_parts (is_impossible v s) n (rule_of v s) clean) rest.at.first;
              is = rest.at.is;
            };
          }
      by_first (inr faulty) parts more =
          let here = kind.told v n s m (parts.1 faulty) in record {
            place = zero;
            counted = omega (arith, here.0);
            at = record { step = s; first = begins v s ss (kind.faulty v s here.1); is = here.1 };
          }

  tells : (ss : List VkStep) (v : VkState) (n i : ℕ) → IsAt P v ss i → check_from v n ss ≡ make (n + i)
  tells [] v n zero at = absurd (none-some at.step at.first.there)
  tells [] v n (suc i) at = absurd (none-some at.step at.first.there)
  tells (s ∷ ss) v n zero at =
      let same = same_step s at.step at.first.there in
      let here : check_of_step v n s ≡ make n = kind.tells v n s (subst (λ y. P v y) (sym same) at.is) in
      rw (here, add-zero n) (kind.kept n (check_from (after_step v s) (n + 1) ss))
  tells (s ∷ ss) v n (suc i) at =
      let fine : is_faulty v s ≡ false = at.first.earlier zero s (omega arith) refl in
      let clean : check_of_step v n s ≡ Clean = parts_clean (is_impossible v s) n (rule_of v s) fine in
      let rest = tells ss (after_step v s) (n + 1) i (record { step = at.step; first = go_back v s ss i at.step at.first; is = at.is }) in
      let counted : n + 1 + i ≡ n + suc i = omega arith in
      rw clean (rest ∙ ap make counted)

-- the two kinds of faults
abbrev Impossibly : VkState → VkStep → Type 0
Impossibly v s = is_impossible v s ≡ true

abbrev Breaks : VkRule → VkState → VkStep → Type 0
Breaks rule v s = (is_impossible v s ≡ false) × (rule_of v s ≡ Some rule)

impossible_kind : IsKind Impossibly Impossible
impossible_kind = record {
  tells = λ v n s is. parts_impossible (is_impossible v s) n (rule_of v s) is;
  told = λ v n s m e. impossible_parts (is_impossible v s) n (rule_of v s) m e;
  faulty = λ v s is. or_of_left (is_impossible v s) (is_some (rule_of v s)) is;
  other = λ m e. cc;
  kept = λ m rest. refl;
}

broken_kind : (rule : VkRule) → IsKind (Breaks rule) (Broken rule)
broken_kind rule = record {
  tells = λ v n s is. parts_broken (is_impossible v s) n (rule_of v s) rule is.0 is.1;
  told = λ v n s m e. broken_parts (is_impossible v s) n (rule_of v s) rule m e;
  faulty = λ v s is. or_of_some (is_impossible v s) (rule_of v s) rule is.1;
  other = λ m e. cc;
  kept = λ m rest. refl;
}

-- steps that are clean
are_faultless : (ss : List VkStep) (v : VkState) (n : ℕ) → check_from v n ss ≡ Clean → AreFaultless v ss
are_faultless [] v n e zero u at = absurd (none-some u at)
are_faultless [] v n e (suc i) u at = absurd (none-some u at)
are_faultless (s ∷ ss) v n e i u at = by_place i at (λ more j here. are_faultless ss (after_step v s) (n + 1) more j u here) where
  parts : (check_of_step v n s ≡ Clean → check_from (after_step v s) (n + 1) ss ≡ Clean) × ((check_of_step v n s ≡ Clean → ⊥) → check_of_step v n s ≡ Clean)
  parts = first_told (check_of_step v n s) (check_from (after_step v s) (n + 1) ss) Clean e

  clean_first : (check_of_step v n s ≡ Clean) ⊎ (check_of_step v n s ≡ Clean → ⊥) → check_of_step v n s ≡ Clean
  clean_first (inl clean) = clean
  clean_first (inr faulty) = parts.1 faulty

  clean : check_of_step v n s ≡ Clean
  clean = clean_first (clean_or_not (check_of_step v n s))

  by_place : (j : ℕ) → slice_get (s ∷ ss) j ≡ Some u →
      (check_from (after_step v s) (n + 1) ss ≡ Clean → (k : ℕ) → slice_get ss k ≡ Some u → is_faulty (state_before (after_step v s) ss k) u ≡ false) →
      is_faulty (state_before v (s ∷ ss) j) u ≡ false
  by_place zero here more = subst (λ y. is_faulty v y ≡ false) (same_step s u here) (clean_parts (is_impossible v s) n (rule_of v s) clean)
  by_place (suc j) here more = more (parts.0 clean) j here

are_clean : (ss : List VkStep) (v : VkState) (n : ℕ) → AreFaultless v ss → check_from v n ss ≡ Clean
are_clean [] v n fine = refl
are_clean (s ∷ ss) v n fine =
    let clean : check_of_step v n s ≡ Clean = parts_clean (is_impossible v s) n (rule_of v s) (fine zero s refl) in
    rw clean (are_clean ss (after_step v s) (n + 1) (λ i u at. fine (suc i) u at))

-- a place, counted from 1
placed : (P : VkState → VkStep → Type 0) (v : VkState) (ss : List VkStep) (i : ℕ) → Finds P v ss 1 (suc i) → IsAt P v ss i
placed P v ss i found = let same : found.place ≡ i = omega (arith, found.counted) in subst (λ j. IsAt P v ss j) same found.at

one_more : (i : ℕ) → 1 + i ≡ suc i
one_more i = omega arith

pub tells_first_faults : TellsFirstFaults
tells_first_faults = record {
  clean = λ plan ss. (are_faultless ss (first_state plan) 1, are_clean ss (first_state plan) 1);
  broken = λ plan ss rule i. (
    λ e. let at = placed (Breaks rule) (first_state plan) ss i (finds (Breaks rule) (Broken rule) (broken_kind rule) ss (first_state plan) 1 (suc i) e) in
        record { step = at.step; first = at.first; possible = at.is.0; breaks = at.is.1 },
    λ at. tells (Breaks rule) (Broken rule) (broken_kind rule) ss (first_state plan) 1 i (record { step = at.step; first = at.first; is = (at.possible, at.breaks) })
        ∙ ap (Broken rule) (one_more i),
  );
  impossible = λ plan ss i. (
    λ e. let at = placed Impossibly (first_state plan) ss i (finds Impossibly Impossible impossible_kind ss (first_state plan) 1 (suc i) e) in
        record { step = at.step; first = at.first; impossible = at.is },
    λ at. tells Impossibly Impossible impossible_kind ss (first_state plan) 1 i (record { step = at.step; first = at.first; is = at.impossible })
        ∙ ap Impossible (one_more i),
  );
}
