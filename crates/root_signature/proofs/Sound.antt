-- What holds of a signature that is not refused.
use Rattle.std.proofs.Common.{◌≡◌, ◌*◌, ◌≤◌, true, false, ◌||◌, List, [], ◌∷◌, length, refl, arith, inl, inr, Option, slice_get}
use Rattle.std.proofs.lemmas.Bool.{or_parts, ltb-false, cases_lt, false_from_ne_true, leb-true, and_parts, eqb-false}
use Rattle.std.specs.List.{list_any, list_all}
use Rattle.std.specs.Option.{option_to_list}
use Rattle.root_signature.specs.declared.params.Param.{Param}
use Rattle.root_signature.specs.declared.params.Param.TheVariants.{Const, Root, Table}
use Rattle.root_signature.specs.declared.places.Place.{Place}
use Rattle.root_signature.specs.declared.ranges.Range.{Range}
use Rattle.root_signature.specs.declared.versions.Version.{Version}
use Rattle.root_signature.specs.Costs.{cost_of, cost_of_param, costs_too_much, has_few_constants}
use Rattle.root_signature.specs.Laws.{IsSound}
use Rattle.root_signature.specs.Flags.{has_descriptor_flag}
use Rattle.root_signature.specs.Places.{places_of}
use Rattle.root_signature.specs.Ranges.{ranges_of, range_of_constants, range_of_root}
use Rattle.root_signature.specs.Refusals.{IsRefused, is_refused_param, is_refused_range, is_refused_word, has_no_registers, passes_registers}

-- few parameters with few constants cost little
pub few_cost_little : (params : List Param) → list_all has_few_constants params ≡ true → cost_of params ≤ 64 * length params
few_cost_little [] h = omega arith
few_cost_little (Const register count ∷ params) h =
    let parts = and_parts (has_few_constants (Const register count)) (list_all has_few_constants params) h in
    let rest = few_cost_little params parts.1 in
    let few = leb-true count 64 parts.0 in
    omega arith
few_cost_little (Root class register flags ∷ params) h = let rest = few_cost_little params h in omega arith
few_cost_little (Table ranges ∷ params) h = let rest = few_cost_little params h in omega arith

module _ (version : Version) where
  range_stays_inside : (range : Range) → is_refused_range version range ≡ false → passes_registers range ≡ false
  range_stays_inside range h =
      (or_parts (passes_registers range) (is_refused_word version range.flags)
      (or_parts (has_no_registers range) (passes_registers range || is_refused_word version range.flags) h).1).0

  ranges_stay_inside : (ranges : List Range) → list_any (is_refused_range version) ranges ≡ false → list_any passes_registers ranges ≡ false
  ranges_stay_inside [] h = refl
  ranges_stay_inside (range ∷ ranges) h =
      let parts = or_parts (is_refused_range version range) (list_any (is_refused_range version) ranges) h in
      rw (range_stays_inside range parts.0) (ranges_stay_inside ranges parts.1)

  param_stays_inside : (param : Param) → is_refused_param version param ≡ false → list_any passes_registers (ranges_of param) ≡ false
  param_stays_inside (Const register count) h = rw (range_stays_inside (range_of_constants register count) h) refl
  param_stays_inside (Root class register flags) h =
      let parts = or_parts (has_descriptor_flag flags) (is_refused_range version (range_of_root class register flags)) h in
      rw (range_stays_inside (range_of_root class register flags) parts.1) refl
  param_stays_inside (Table ranges) h = ranges_stay_inside ranges.items h

  params_stay_inside : (params : List Param) → list_any (is_refused_param version) params ≡ false →
      list_any (λ param. list_any passes_registers (ranges_of param)) params ≡ false
  params_stay_inside [] h = refl
  params_stay_inside (param ∷ params) h =
      let parts = or_parts (is_refused_param version param) (list_any (is_refused_param version) params) h in
      rw (param_stays_inside param parts.0) (params_stay_inside params parts.1)

  param_costs : (param : Param) → is_refused_param version param ≡ false → 1 ≤ cost_of_param param
  param_costs (Const register count) h =
      let parts = or_parts (has_no_registers (range_of_constants register count)) (passes_registers (range_of_constants register count) || is_refused_word version 0) h in
      let some = eqb-false count 0 parts.0 in
      omega arith
  param_costs (Root class register flags) h = omega arith
  param_costs (Table ranges) h = omega arith

  params_cost : (params : List Param) → list_any (is_refused_param version) params ≡ false → length params ≤ cost_of params
  params_cost [] h = omega arith
  params_cost (param ∷ params) h =
      let parts = or_parts (is_refused_param version param) (list_any (is_refused_param version) params) h in
      let one = param_costs param parts.0 in
      let rest = params_cost params parts.1 in
      omega arith

-- what holds of it
pub sound : (version : Version) (params : List Param) → (IsRefused version params → ⊥) → IsSound params
sound version params good =
    let cheap : costs_too_much params ≡ false = false_from_ne_true (costs_too_much params) (λ h. good (inl h)) in
    let each : list_any (is_refused_param version) params ≡ false = false_from_ne_true _ (λ h. good (inr (inl h))) in
    let cost : cost_of params ≤ 64 = ltb-false 64 (cost_of params) cheap in
    let many = params_cost version params each in
    record {
      few = omega arith;
      cost = cost;
      inside = params_stay_inside version params each;
      apart = λ class register. elim (cases_lt 1 (length (places_of params class register))) [
        | inl twice ↦ absurd (good (inr (inr (record { class = class; register = register; twice = twice }))))
        | inr once ↦ once
      ];
    }

-- the places of a register that has at most one are the first of them
pub one_place : (places : List Place) (first : Option Place) → first ≡ slice_get places 0 → length places ≤ 1 → places ≡ option_to_list first
one_place [] first is h = rw is refl
one_place (p ∷ []) first is h = rw is refl
one_place (p ∷ (q ∷ rest)) first is h = absurd (omega arith)
