-- What each call of a fence keeps, and that it does what its definition says.
use Rattle.std.proofs.Common.{ℕ, ◌≡◌, ◌≤◌, ◌<◌, ◌+◌, ◌-◌, ◌^◌, ◌∙◌, refl, ap, sym, subst, List, [], ◌∷◌, ◌++◌, length, take, drop, arith, length-append, append_assoc, true, false, Bool}
use Rattle.std.specs.Prelude.{if◌then◌else◌}
use Rattle.std.proofs.lemmas.List.{length_push}
use Rattle.dx_base.specs.declared.ids.FenceId.{FenceId}
use Rattle.dx_base.specs.Roomy.{Roomy}
use Rattle.dx_base.specs.Each.{Each}
use Rattle.dx_base.proofs.Each.{each_append}
use Rattle.fence_timeline.specs.declared.update.Update.{Update}
use Rattle.fence_timeline.specs.declared.wait.Wait.{Wait}
use Rattle.fence_timeline.specs.Waits.{AreNumbered, earliest, AreInOrder, without}
use Rattle.fence_timeline.specs.FenceList.{IsSame, let_go, caught, left, is_reached, host_update, host_signalled, caught_up, done_with}
use Rattle.fence_timeline.specs.Endings.{EndsAlike}
use Rattle.fence_timeline.specs.Fence.{list_of, spare_of, IsFence}
use Rattle.fence_timeline.proofs.WaitList.{numbered_without, each_without, numbered_behind}
use Rattle.fence_timeline.proofs.PendingList.{ends_left}
use Rattle.fence_timeline.proofs.OrderedWaits.{ordered_up, ordered_without, ordered_behind, earliest_behind}
use Rattle.fence_timeline.proofs.KeptFence.{let_go_same, let_go_keeps, pending_is, applied_is}

-- the pending updates in two parts
pub caught_left : (counters : List ℕ) (us : List Update) → caught counters us ++ left counters us ≡ us
caught_left counters [] = refl
caught_left counters (u ∷ us) = by_test (is_reached counters u.target) (caught_left counters us)
  where
    by_test : (b : Bool) → caught counters us ++ left counters us ≡ us →
        (if b then u ∷ caught counters us else []) ++ (if b then left counters us else u ∷ us) ≡ u ∷ us
    by_test true rest = ap (λ xs. u ∷ xs) rest
    by_test false rest = refl

-- what is let go of with more applied updates than before
pub record IsBefore (f : FenceId) (base : ℕ) (applied pending : Roomy Update) (ending : ℕ) (ws : List Wait) : Type 0 where
  pub some : 1 ≤ length applied.items
  pub room : length pending.items ≤ applied.spare
  pub fits : base + length applied.items + length pending.items ≤ 2 ^ 64 - 1
  pub in_order : AreInOrder base ws (base + (length applied.items - 1))
  pub numbered : AreNumbered 0 ws
  pub own : Each (λ w. w.fence ≡ f) ws
  pub ends : EndsAlike ending pending.items

pub kept_after : (f : FenceId) (base base2 e : ℕ) (applied applied2 pending : Roomy Update) (ws : List Wait) → IsBefore f base applied pending e ws →
    base2 ≡ earliest (base + (length applied.items - 1)) ws → applied2.items ≡ drop (base2 - base) applied.items →
    applied2.spare + length applied2.items ≡ applied.spare + length applied.items → IsFence f base2 applied2 pending e ws
kept_after f base base2 e applied applied2 pending ws is first kept sum =
    let_go_keeps f base base2 e applied applied2 pending ws is.some is.room is.fits is.in_order is.numbered is.own is.ends first kept sum

-- catching up
pub caught_before : (f : FenceId) (base e : ℕ) (applied applied1 pending pending1 : Roomy Update) (ws : List Wait) (counters : List ℕ) → IsFence f base applied pending e ws →
    applied1.items ≡ applied.items ++ caught counters pending.items → pending1.items ≡ left counters pending.items → length pending1.items ≤ applied1.spare →
    IsBefore f base applied1 pending1 e ws
caught_before f base e applied applied1 pending pending1 ws counters is caught_is left_is room =
    let count : length applied1.items ≡ length applied.items + length (caught counters pending.items) =
    ap length caught_is ∙ length-append applied.items (caught counters pending.items) in
    let sum : length (caught counters pending.items) + length pending1.items ≡ length pending.items =
    ap (λ (us : List Update). length (caught counters pending.items) + length us) left_is
    ∙ sym (length-append (caught counters pending.items) (left counters pending.items))
    ∙ ap length (caught_left counters pending.items)
    in
    record {
      some = omega (arith, is.some);
      room = room;
      fits = omega (arith, is.fits);
      in_order = ordered_up base (base + (length applied.items - 1)) (base + (length applied1.items - 1)) ws (omega arith) is.in_order;
      numbered = is.numbered;
      own = is.own;
      ends = rw left_is (ends_left e counters pending.items is.ends);
    }

pub caught_same : (f : FenceId) (base base2 e : ℕ) (applied applied1 applied2 pending pending1 : Roomy Update) (ws : List Wait) (counters : List ℕ) →
    IsBefore f base applied1 pending1 e ws → applied1.items ≡ applied.items ++ caught counters pending.items → pending1.items ≡ left counters pending.items →
    base2 ≡ earliest (base + (length applied1.items - 1)) ws → applied2.items ≡ drop (base2 - base) applied1.items →
    IsSame (list_of f base2 applied2 pending1 ws) (caught_up counters (list_of f base applied pending ws))
caught_same f base base2 e applied applied1 applied2 pending pending1 ws counters is caught_is left_is first kept =
    let A : List Update = applied.items in
    let P : List Update = pending.items in
    let parts : A ++ P ≡ applied1.items ++ pending1.items =
    ap (λ us. A ++ us) (sym (caught_left counters P))
    ∙ sym (append_assoc A (caught counters P) (left counters P))
    ∙ ap (λ us. us ++ left counters P) (sym caught_is)
    ∙ ap (λ us. applied1.items ++ us) (sym left_is)
    in
    let count : length A + length (caught counters (drop (length A) (A ++ P))) ≡ length applied1.items =
    ap (λ (us : List Update). length A + length (caught counters us)) (pending_is A P)
    ∙ sym (length-append A (caught counters P))
    ∙ ap length (sym caught_is)
    in
    let_go_same
    f base base2 (length A + length (caught counters (drop (length A) (A ++ P)))) (spare_of base applied pending) applied1 applied2 pending1 (A ++ P) ws
    parts count is.some is.in_order first kept

-- a host signal
pub host_before : (f : FenceId) (base e v : ℕ) (applied applied1 pending : Roomy Update) (ws : List Wait) → IsFence f base applied pending e ws →
    applied1.items ≡ applied.items ++ host_update v ∷ [] → length pending.items ≤ applied1.spare → base + length applied.items + length pending.items < 2 ^ 64 - 1 →
    IsBefore f base applied1 pending e ws
host_before f base e v applied applied1 pending ws is more room fits =
    let count : length applied1.items ≡ length applied.items + 1 = ap length more ∙ length_push applied.items (host_update v) in
    record {
      some = omega (arith, is.some);
      room = room;
      fits = omega arith;
      in_order = ordered_up base (base + (length applied.items - 1)) (base + (length applied1.items - 1)) ws (omega arith) is.in_order;
      numbered = is.numbered;
      own = is.own;
      ends = is.ends;
    }

pub host_same : (f : FenceId) (base base2 e v : ℕ) (applied applied1 applied2 pending : Roomy Update) (ws : List Wait) →
    IsBefore f base applied1 pending e ws → applied1.items ≡ applied.items ++ host_update v ∷ [] →
    base2 ≡ earliest (base + (length applied1.items - 1)) ws → applied2.items ≡ drop (base2 - base) applied1.items →
    IsSame (list_of f base2 applied2 pending ws) (host_signalled v (list_of f base applied pending ws))
host_same f base base2 e v applied applied1 applied2 pending ws is more first kept =
    let A : List Update = applied.items in
    let P : List Update = pending.items in
    let parts : take (length A) (A ++ P) ++ (host_update v ∷ drop (length A) (A ++ P)) ≡ applied1.items ++ P =
    ap (λ us. us ++ (host_update v ∷ drop (length A) (A ++ P))) (applied_is A P)
    ∙ ap (λ us. A ++ (host_update v ∷ us)) (pending_is A P)
    ∙ sym (append_assoc A (host_update v ∷ []) P)
    ∙ ap (λ us. us ++ P) (sym more)
    in
    let count : length A + 1 ≡ length applied1.items = sym (length_push A (host_update v)) ∙ ap length (sym more) in
    let_go_same
    f base base2 (length A + 1) (spare_of base applied pending) applied1 applied2 pending (take (length A) (A ++ P) ++ (host_update v ∷ drop (length A) (A ++ P))) ws
    parts count is.some is.in_order first kept

-- a wait that is done
pub done_before : (f : FenceId) (base e n : ℕ) (applied pending : Roomy Update) (ws left : List Wait) → IsFence f base applied pending e ws → left ≡ without n ws →
    IsBefore f base applied pending e left
done_before f base e n applied pending ws left is are = record {
  some = is.some;
  room = is.room;
  fits = is.fits;
  in_order = rw are (ordered_without base (base + (length applied.items - 1)) n ws is.in_order);
  numbered = rw are (numbered_without 0 n ws is.numbered);
  own = rw are (each_without (λ w. w.fence ≡ f) n ws is.own);
  ends = is.ends;
}

pub done_same : (f : FenceId) (base base2 e : ℕ) (applied applied2 pending : Roomy Update) (w : Wait) (ws left : List Wait) → IsBefore f base applied pending e left →
    left ≡ without w.number ws → base2 ≡ earliest (base + (length applied.items - 1)) left → applied2.items ≡ drop (base2 - base) applied.items →
    IsSame (list_of f base2 applied2 pending left) (done_with w (list_of f base applied pending ws))
done_same f base base2 e applied applied2 pending w ws left is are first kept =
    let known = let_go_same
    f base base2 (length applied.items) (spare_of base applied pending) applied applied2 pending (applied.items ++ pending.items) left
    refl refl is.some is.in_order first kept
    in
    subst
    (λ (xs : List Wait).
    IsSame
    (list_of f base2 applied2 pending left)
    (let_go (record {
      id = f;
      base = base;
      updates = applied.items ++ pending.items;
      applied = length applied.items;
      armed = xs;
      spare = spare_of base applied pending;
    })))
    are known

-- a wait that is armed
pub armed_keeps : (f : FenceId) (base e : ℕ) (applied pending : Roomy Update) (w : Wait) (ws all : List Wait) → IsFence f base applied pending e ws → all ≡ ws ++ w ∷ [] →
    w.fence ≡ f → w.since ≡ base + (length applied.items - 1) → Each (λ x. x.number < w.number) ws → IsFence f base applied pending e all
armed_keeps f base e applied pending w ws all is are own now fresh = rw are (record {
  some = is.some;
  room = is.room;
  fits = is.fits;
  base_is = is.base_is ∙ sym (earliest_behind (base + (length applied.items - 1)) ws w now);
  in_order = ordered_behind base (base + (length applied.items - 1)) ws w is.in_order now;
  numbered = numbered_behind 0 ws w is.numbered (omega arith) fresh;
  own = each_append (λ x. x.fence ≡ f) ws (w ∷ []) is.own (own, tt);
  ends = is.ends;
})

-- more room
pub room_keeps : (f : FenceId) (base e : ℕ) (applied applied2 pending pending2 : Roomy Update) (ws : List Wait) → IsFence f base applied pending e ws →
    applied2.items ≡ applied.items → pending2.items ≡ pending.items → applied.spare ≤ applied2.spare → IsFence f base applied2 pending2 e ws
room_keeps f base e applied applied2 pending pending2 ws is same same_pending more =
    let count : length applied2.items ≡ length applied.items = ap length same in
    let count_pending : length pending2.items ≡ length pending.items = ap length same_pending in
    record {
      some = omega (arith, is.some);
      room = omega (arith, is.room);
      fits = omega (arith, is.fits);
      base_is = is.base_is ∙ ap (λ (k : ℕ). earliest (base + (k - 1)) ws) (sym count);
      in_order = rw count is.in_order;
      numbered = is.numbered;
      own = is.own;
      ends = rw same_pending is.ends;
    }

-- a signal
pub signal_keeps : (f : FenceId) (base e e2 : ℕ) (applied pending pending2 : Roomy Update) (u : Update) (ws : List Wait) → IsFence f base applied pending e ws →
    1 ≤ spare_of base applied pending → pending2.items ≡ pending.items ++ u ∷ [] → EndsAlike e2 (pending.items ++ u ∷ []) → IsFence f base applied pending2 e2 ws
signal_keeps f base e e2 applied pending pending2 u ws is room more ends =
    let count : length pending2.items ≡ length pending.items + 1 = ap length more ∙ length_push pending.items u in
    record {
      some = is.some;
      room = omega (arith, is.room);
      fits = omega (arith, is.fits);
      base_is = is.base_is;
      in_order = is.in_order;
      numbered = is.numbered;
      own = is.own;
      ends = rw more ends;
    }
