-- What a fence keeps, as a list of updates.
use Rattle.std.proofs.Common.{ℕ, ◌≡◌, ◌≤◌, ◌+◌, ◌-◌, ◌^◌, ◌∙◌, refl, ap, sym, List, ◌++◌, length, take, drop, arith, length-append, length-drop}
use Rattle.std.specs.Option.{option_or}
use Rattle.std.proofs.lemmas.List.{drop_at, take_at, drop-append-le}
use Rattle.dx_base.specs.declared.ids.FenceId.{FenceId}
use Rattle.dx_base.specs.Roomy.{Roomy}
use Rattle.dx_base.specs.Each.{Each}
use Rattle.fence_timeline.specs.declared.update.Update.{Update}
use Rattle.fence_timeline.specs.declared.wait.Wait.{Wait}
use Rattle.fence_timeline.specs.Sufficient.{first_sufficient}
use Rattle.fence_timeline.specs.Waits.{IsIn, AreNumbered, earliest, AreInOrder}
use Rattle.fence_timeline.specs.FenceList.{IsSame, IsFenceList, let_go}
use Rattle.fence_timeline.specs.Endings.{EndsAlike}
use Rattle.fence_timeline.specs.Fence.{list_of, IsFence}
use Rattle.fence_timeline.proofs.Greatest.{first_append}
use Rattle.fence_timeline.proofs.OrderedWaits.{earliest_low, earliest_high, since_within, ordered_from}

-- what is kept is a fence as a list of updates
pub is_list : (f : FenceId) (base : ℕ) (applied pending : Roomy Update) (e : ℕ) (ws : List Wait) → IsFence f base applied pending e ws → IsFenceList (list_of f base applied pending ws)
is_list f base applied pending e ws is = record {
  some = is.some;
  inside = omega (arith, length-append applied.items pending.items);
  base = is.base_is;
  in_order = is.in_order;
  numbered = is.numbered;
  own = is.own;
}

-- the pending updates
pub pending_is : (us ps : List Update) → drop (length us) (us ++ ps) ≡ ps
pending_is us ps = drop_at us ps (length us) refl

pub applied_is : (us ps : List Update) → take (length us) (us ++ ps) ≡ us
applied_is us ps = take_at us ps (length us) refl

-- the updates that an armed wait may need are kept
pub since_kept : (f : FenceId) (base : ℕ) (applied pending : Roomy Update) (e : ℕ) (ws : List Wait) (w : Wait) → IsFence f base applied pending e ws → IsIn ws w →
    (base ≤ w.since) × (w.since - base ≤ length applied.items)
since_kept f base applied pending e ws w is armed =
    let within = since_within base (base + (length applied.items - 1)) ws armed.place w is.in_order armed.stands in
    (within.0, omega (arith, within.1, is.some))

-- letting go, as the code does it
pub let_go_same : (f : FenceId) (base base2 n room : ℕ) (applied applied2 pending : Roomy Update) (us : List Update) (ws : List Wait) →
    us ≡ applied.items ++ pending.items → n ≡ length applied.items → 1 ≤ length applied.items → AreInOrder base ws (base + (length applied.items - 1)) →
    base2 ≡ earliest (base + (length applied.items - 1)) ws → applied2.items ≡ drop (base2 - base) applied.items →
    IsSame (list_of f base2 applied2 pending ws) (let_go (record { id = f; base = base; updates = us; applied = n; armed = ws; spare = room }))
let_go_same f base base2 n room applied applied2 pending us ws parts count some order first kept =
    let low = earliest_low base (base + (length applied.items - 1)) ws order in
    let high = earliest_high base (base + (length applied.items - 1)) ws order in
    let now : earliest (base + (n - 1)) ws ≡ base2 = ap (λ (k : ℕ). earliest (base + (k - 1)) ws) count ∙ sym first in
    record {
      id = refl;
      base = sym now;
      updates =
          ap (λ xs. xs ++ pending.items) kept
          ∙ sym (drop-append-le (base2 - base) applied.items pending.items (omega (arith, first)))
          ∙ ap (drop (base2 - base)) (sym parts)
          ∙ ap (λ (k : ℕ). drop (k - base) us) (sym now);
      applied =
          ap length kept ∙ length-drop (base2 - base) applied.items ∙ ap (λ (k : ℕ). k - (base2 - base)) (sym count) ∙ ap (λ (k : ℕ). n - (k - base)) (sym now);
      armed = refl;
    }

-- what letting go keeps
pub let_go_keeps : (f : FenceId) (base base2 e : ℕ) (applied applied2 pending : Roomy Update) (ws : List Wait) →
    1 ≤ length applied.items → length pending.items ≤ applied.spare → base + length applied.items + length pending.items ≤ 2 ^ 64 - 1 →
    AreInOrder base ws (base + (length applied.items - 1)) → AreNumbered 0 ws → Each (λ w. w.fence ≡ f) ws → EndsAlike e pending.items →
    base2 ≡ earliest (base + (length applied.items - 1)) ws → applied2.items ≡ drop (base2 - base) applied.items →
    applied2.spare + length applied2.items ≡ applied.spare + length applied.items →
    IsFence f base2 applied2 pending e ws
let_go_keeps f base base2 e applied applied2 pending ws some room fits order numbered own ends first kept sum =
    let low = earliest_low base (base + (length applied.items - 1)) ws order in
    let high = earliest_high base (base + (length applied.items - 1)) ws order in
    let count : length applied2.items ≡ length applied.items - (base2 - base) = ap length kept ∙ length-drop (base2 - base) applied.items in
    let now : base2 + (length applied2.items - 1) ≡ base + (length applied.items - 1) = omega arith in
    record {
      some = omega arith;
      room = omega arith;
      fits = omega arith;
      base_is = first ∙ ap (λ (k : ℕ). earliest k ws) (sym now);
      in_order = rw (now, first) (ordered_from base (base + (length applied.items - 1)) ws order);
      numbered = numbered;
      own = own;
      ends = ends;
    }

-- the first update that suffices, of the applied ones from a place on and the pending ones
pub first_in_both : (v from : ℕ) (us ps : List Update) → from ≤ length us →
    first_sufficient v (drop from (us ++ ps)) ≡ option_or (first_sufficient v (drop from us)) (first_sufficient v ps)
first_in_both v from us ps within =
    ap (first_sufficient v) (drop-append-le from us ps within) ∙ first_append v (drop from us) ps
