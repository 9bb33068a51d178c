-- What holds of the state after an access that is allowed.
use Rattle.std.proofs.Common.{◌≡◌, Bool, true, false, ◌&&◌, ◌||◌, refl, sym, ap, subst, inl, inr, ◌⊎◌, Option, Some, None, cond}
use Rattle.std.proofs.lemmas.Bool.{and_parts, or_cases, eqb-true, eq-eqb}
use Rattle.std.specs.Int.Bits.{and_self}
use Rattle.std.proofs.lemmas.Nat.{and_or_self}
use Rattle.dx_flags.specs.declared.states.State.{State}
use Rattle.dx_flags.specs.StateNames.{StateName, COMMON, NON_PIXEL_SHADER_RESOURCE, PIXEL_SHADER_RESOURCE, COPY_SOURCE, COPY_DEST}
use Rattle.dx_flags.specs.States.{one_state, is_valid}
use Rattle.dx_flags.proofs.StateSets.{state_single}
use Rattle.legacy_states.specs.declared.currents.Current.{Current}
use Rattle.legacy_states.specs.declared.currents.Kind.{Kind}
use Rattle.legacy_states.specs.declared.currents.Kind.TheVariants.{Buffer, Shared, Plain}
use Rattle.legacy_states.specs.Currents.{contains, joined, is_state, is_read_state, is_promoted_read, promoted_to}
use Rattle.legacy_states.specs.Promotion.{may_be_promoted_to, promoted_from, promoted_of}
use Rattle.legacy_states.specs.Laws.{IsPromotion}
use Rattle.legacy_states.proofs.ReadUnions.{union_is_valid}

-- a set of states that is that of one name is valid
one_is_valid : (state : State) (name : StateName) → is_state state (one_state name) ≡ true → is_valid state ≡ true
one_is_valid state name is =
    let same : state ≡ one_state name = ap (λ n. record { 0 = n }) (eqb-true state.0 (one_state name).0 is) in
    subst (λ s. is_valid s ≡ true) (sym same) (state_single name)

-- what COMMON may be promoted to is valid
may_be_is_valid : (kind : Kind) (need : State) → may_be_promoted_to kind need ≡ true → is_valid need ≡ true
may_be_is_valid Buffer need may = may
may_be_is_valid Shared need may = may
may_be_is_valid Plain need may =
    elim (or_cases (is_state need (one_state NON_PIXEL_SHADER_RESOURCE)) (is_state need (one_state PIXEL_SHADER_RESOURCE) || (is_state need (one_state COPY_SOURCE) || is_state need (one_state COPY_DEST))) may) [
      | inl is ↦ one_is_valid need NON_PIXEL_SHADER_RESOURCE is
      | inr rest ↦ elim (or_cases (is_state need (one_state PIXEL_SHADER_RESOURCE)) (is_state need (one_state COPY_SOURCE) || is_state need (one_state COPY_DEST)) rest) [
        | inl is ↦ one_is_valid need PIXEL_SHADER_RESOURCE is
        | inr copies ↦ elim (or_cases (is_state need (one_state COPY_SOURCE)) (is_state need (one_state COPY_DEST)) copies) [
          | inl is ↦ one_is_valid need COPY_SOURCE is
          | inr is ↦ one_is_valid need COPY_DEST is
        ]
      ]
    ]

-- a choice that gave a value
of_choice : {A : Type 0} (test : Bool) (first second : Option A) (value : A) → cond test first second ≡ Some value →
    ((test ≡ true) × (first ≡ Some value)) ⊎ ((test ≡ false) × (second ≡ Some value))
of_choice true first second value h = inl (refl, h)
of_choice false first second value h = inr (refl, h)

same_value : {A : Type 0} (x y : A) → Some x ≡ Some y → x ≡ y
same_value x y h = cc

-- the state stays
stays : (now : Current) (need : State) (after : Current) → contains now.state need ≡ true → Some now ≡ Some after → IsPromotion now need after
stays now need after has is =
    subst (λ a. IsPromotion now need a) (same_value now after is) (record { met = has; from = inl refl; promoted = inl refl; valid = λ h. h })

-- from COMMON to the need
begins : (now : Current) (need : State) (after : Current) → is_valid need ≡ true → is_state now.state (one_state COMMON) ≡ true →
    Some (promoted_to need) ≡ Some after → IsPromotion now need after
begins now need after good common is =
    let was : now.state ≡ one_state COMMON = ap (λ n. record { 0 = n }) (eqb-true now.state.0 (one_state COMMON).0 common) in
    subst (λ a. IsPromotion now need a) (same_value (promoted_to need) after is)
    (record { met = eq-eqb _ _ (and_self need.0); from = inr (inl was); promoted = inr refl; valid = λ h. good })

-- from a union of read states to a wider one
widens : (now : Current) (need : State) (after : Current) → (is_promoted_read now && is_read_state need) ≡ true →
    Some (promoted_to (joined now.state need)) ≡ Some after → IsPromotion now need after
widens now need after both is =
    let parts = and_parts (is_promoted_read now) (is_read_state need) both in
    let read = (and_parts now.promoted (is_read_state now.state) parts.0).1 in
    subst (λ a. IsPromotion now need a) (same_value (promoted_to (joined now.state need)) after is)
    (record {
      met = eq-eqb _ _ (and_or_self need.0 now.state.0);
      from = inr (inr parts.0);
      promoted = inr refl;
      valid = λ h. union_is_valid now.state need read parts.1;
    })

pub is_promotion : (kind : Kind) (now : Current) (need : State) (after : Current) → promoted_of kind now need ≡ Some after → IsPromotion now need after
is_promotion kind now need after h =
    elim (of_choice (contains now.state need) (Some now) (cond (may_be_promoted_to kind need) (promoted_from now need) None) after h) [
      | inl here ↦ stays now need after here.0 here.1
      | inr later ↦ elim (of_choice (may_be_promoted_to kind need) (promoted_from now need) None after later.1) [
        | inl may ↦ elim (of_choice (is_state now.state (one_state COMMON)) (Some (promoted_to need)) (cond (is_promoted_read now && is_read_state need) (Some (promoted_to (joined now.state need))) None) after may.1) [
          | inl from ↦ begins now need after (may_be_is_valid kind need may.0) from.0 from.1
          | inr other ↦ elim (of_choice (is_promoted_read now && is_read_state need) (Some (promoted_to (joined now.state need))) None after other.1) [
            | inl read ↦ widens now need after read.0 read.1
            | inr none ↦ let no : None ≡ Some after = none.1 in absurd (cc)
          ]
        ]
        | inr none ↦ let no : None ≡ Some after = none.1 in absurd (cc)
      ]
    ]
