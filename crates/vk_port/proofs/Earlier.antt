-- The commands of a lane that are not done and stand before a place.
use Rattle.std.proofs.Common.{◌≡◌, ℕ, zero, suc, ◌+◌, ◌<◌, ◌∙◌, Bool, true, false, not, min, List, [], ◌∷◌, ◌++◌, length, take, refl, sym, ap, subst, arith, true≢false, unwrap_or, Option, Some, slice_get, inl, inr, add-one}
use Rattle.std.specs.List.{list_all}
use Rattle.std.proofs.lemmas.Bool.{and_parts, and_from}
use Rattle.std.proofs.lemmas.List.{append-nil, append_assoc}
use Rattle.std.proofs.lemmas.List.Folds.{list_all-append}
use Rattle.std.proofs.lemmas.Option.{none-some, slice_get_within}
use Rattle.std.proofs.Math.ListN.{length-take}
use Rattle.vk_types.specs.declared.commands.VkCommand.{VkCommand}
use Rattle.vk_port.specs.declared.lanes.Lane.{Lane}
use Rattle.vk_port.specs.declared.lanes.Running.{Running}
use Rattle.vk_port.specs.Enabled.{unmarked, undone}
use Rattle.vk_port.specs.Meaning.{IsInOrder}
use Rattle.vk_port.specs.Orders.{orders, can_run}
use Rattle.vk_port.proofs.Lists.{get_of_take}

-- what stands in a Some
pub same_item : {X : Type 0} (x y : X) → Some x ≡ Some y → x ≡ y
same_item x y h = ap (λ (o : Option _). unwrap_or o x) h

-- a test that fails
not_true : (b : Bool) → not b ≡ true → b ≡ false
not_true true h = absurd (true≢false (sym h))
not_true false h = refl

-- an item among the first ones of a list
pub get_first : {X : Type 0} (n : ℕ) (xs : List X) (i : ℕ) (x : X) → slice_get (take n xs) i ≡ Some x → (i < n) × (slice_get xs i ≡ Some x)
get_first {X} n xs i x is =
    let within : i < min n (length xs) = rw (length-take n xs) at (slice_get_within {A = X} (take n xs) i x is) in
    let less : i < n = omega (arith, within) in
    (less, sym (get_of_take n xs i less) ∙ is)

-- the commands of batches that are not done, in order
abbrev pub all_undone : List Running → List VkCommand
all_undone [] = []
all_undone (r ∷ rs) = undone r ++ all_undone rs

-- the commands before a place in a batch that are not done
abbrev pub undone_before : ℕ → Running → List VkCommand
undone_before at r = unmarked (take at r.batch.commands) (take at r.done)

-- the commands before a place in a batch that comes behind others that are not done
abbrev pub earlier : List Running → ℕ → Running → List VkCommand
earlier rs at r = all_undone rs ++ undone_before at r

-- one more command that is done
pub unmarked_done : (i : ℕ) (cs : List VkCommand) (done : List Bool) (c : VkCommand) → slice_get cs i ≡ Some c → slice_get done i ≡ Some true →
    unmarked (take (suc i) cs) (take (suc i) done) ≡ unmarked (take i cs) (take i done)
unmarked_done i [] done c is mark = absurd (none-some c is)
unmarked_done i (e ∷ cs) [] c is mark = absurd (none-some true mark)
unmarked_done zero (e ∷ cs) (true ∷ done) c is mark = refl
unmarked_done zero (e ∷ cs) (false ∷ done) c is mark = absurd (true≢false (sym (same_item false true mark)))
unmarked_done (suc i) (e ∷ cs) (true ∷ done) c is mark = unmarked_done i cs done c is mark
unmarked_done (suc i) (e ∷ cs) (false ∷ done) c is mark = ap (λ (xs : List VkCommand). e ∷ xs) (unmarked_done i cs done c is mark)

-- one more command that is not done
pub unmarked_left : (i : ℕ) (cs : List VkCommand) (done : List Bool) (c : VkCommand) → slice_get cs i ≡ Some c → slice_get done i ≡ Some false →
    unmarked (take (suc i) cs) (take (suc i) done) ≡ unmarked (take i cs) (take i done) ++ c ∷ []
unmarked_left i [] done c is mark = absurd (none-some c is)
unmarked_left i (e ∷ cs) [] c is mark = absurd (none-some false mark)
unmarked_left zero (e ∷ cs) (true ∷ done) c is mark = absurd (true≢false (same_item true false mark))
unmarked_left zero (e ∷ cs) (false ∷ done) c is mark = ap (λ (x : VkCommand). x ∷ []) (same_item e c is)
unmarked_left (suc i) (e ∷ cs) (true ∷ done) c is mark = unmarked_left i cs done c is mark
unmarked_left (suc i) (e ∷ cs) (false ∷ done) c is mark = ap (λ (xs : List VkCommand). e ∷ xs) (unmarked_left i cs done c is mark)

-- one more batch
pub undone_more : (i : ℕ) (rs : List Running) (r : Running) → slice_get rs i ≡ Some r → all_undone (take (suc i) rs) ≡ all_undone (take i rs) ++ undone r
undone_more i [] r is = absurd (none-some r is)
undone_more zero (x ∷ rs) r is = append-nil (undone x) ∙ ap undone (same_item x r is)
undone_more (suc i) (x ∷ rs) r is =
    ap (λ (xs : List VkCommand). undone x ++ xs) (undone_more i rs r is) ∙ sym (append_assoc (undone x) (all_undone (take i rs)) (undone r))

-- the commands before the next place, behind one that is done
pub earlier_done : (rs : List Running) (r : Running) (i : ℕ) (c : VkCommand) → slice_get r.batch.commands i ≡ Some c → slice_get r.done i ≡ Some true → earlier rs (i + 1) r ≡ earlier rs i r
earlier_done rs r i c is mark = rw (add-one i) (ap (λ (xs : List VkCommand). all_undone rs ++ xs) (unmarked_done i r.batch.commands r.done c is mark))

-- the commands before the next place, behind one that is not done
pub earlier_left : (rs : List Running) (r : Running) (i : ℕ) (c : VkCommand) → slice_get r.batch.commands i ≡ Some c → slice_get r.done i ≡ Some false → earlier rs (i + 1) r ≡ earlier rs i r ++ c ∷ []
earlier_left rs r i c is mark =
    rw (add-one i)
    (ap (λ (xs : List VkCommand). all_undone rs ++ xs) (unmarked_left i r.batch.commands r.done c is mark)
    ∙ sym (append_assoc (all_undone rs) (undone_before i r) (c ∷ [])))

-- the commands before the next batch
pub earlier_batch : (rs : List Running) (i : ℕ) (r : Running) → slice_get rs i ≡ Some r → all_undone (take (i + 1) rs) ≡ all_undone (take i rs) ++ undone r
earlier_batch rs i r is = rw (add-one i) (undone_more i rs r is)

module _ (p : VkCommand → Bool) where
  -- a test of the commands of a batch that are not done is one of each
  each_left : (cs : List VkCommand) (done : List Bool) → list_all p (unmarked cs done) ≡ true → (i : ℕ) (c : VkCommand) → slice_get cs i ≡ Some c → slice_get done i ≡ Some false → p c ≡ true
  each_left [] done h i c is left = absurd (none-some c is)
  each_left (e ∷ cs) [] h i c is left = absurd (none-some false left)
  each_left (e ∷ cs) (true ∷ done) h zero c is left = absurd (true≢false (same_item true false left))
  each_left (e ∷ cs) (true ∷ done) h (suc i) c is left = each_left cs done h i c is left
  each_left (e ∷ cs) (false ∷ done) h zero c is left = subst (λ (x : VkCommand). p x ≡ true) (same_item e c is) (and_parts (p e) (list_all p (unmarked cs done)) h).0
  each_left (e ∷ cs) (false ∷ done) h (suc i) c is left = each_left cs done (and_parts (p e) (list_all p (unmarked cs done)) h).1 i c is left

  -- and the other way round
  left_each : (cs : List VkCommand) (done : List Bool) → ((i : ℕ) (c : VkCommand) → slice_get cs i ≡ Some c → slice_get done i ≡ Some false → p c ≡ true) → list_all p (unmarked cs done) ≡ true
  left_each [] done h = refl
  left_each (e ∷ cs) [] h = refl
  left_each (e ∷ cs) (true ∷ done) h = left_each cs done (λ i. h (suc i))
  left_each (e ∷ cs) (false ∷ done) h = and_from (p e) (list_all p (unmarked cs done)) (h 0 e refl refl) (left_each cs done (λ i. h (suc i)))

  -- a test of the commands of batches that are not done is one of those of each batch
  each_batch_left : (rs : List Running) → list_all p (all_undone rs) ≡ true → (i : ℕ) (r : Running) → slice_get rs i ≡ Some r → list_all p (undone r) ≡ true
  each_batch_left [] h i r is = absurd (none-some r is)
  each_batch_left (x ∷ rs) h zero r is =
      let both = and_parts (list_all p (undone x)) (list_all p (all_undone rs)) (sym (list_all-append p (undone x) (all_undone rs)) ∙ h) in
      subst (λ (y : Running). list_all p (undone y) ≡ true) (same_item x r is) both.0
  each_batch_left (x ∷ rs) h (suc i) r is =
      let both = and_parts (list_all p (undone x)) (list_all p (all_undone rs)) (sym (list_all-append p (undone x) (all_undone rs)) ∙ h) in
      each_batch_left rs both.1 i r is

  -- and the other way round
  left_each_batch : (rs : List Running) → ((i : ℕ) (r : Running) → slice_get rs i ≡ Some r → list_all p (undone r) ≡ true) → list_all p (all_undone rs) ≡ true
  left_each_batch [] h = refl
  left_each_batch (x ∷ rs) h =
      list_all-append p (undone x) (all_undone rs)
      ∙ and_from (list_all p (undone x)) (list_all p (all_undone rs)) (h 0 x refl) (left_each_batch rs (λ i. h (suc i)))

-- the test by which a command may be done
abbrev pub lets_go : VkCommand → VkCommand → Bool
lets_go c e = not (orders e c)

module _ (lane : Lane) (place : ℕ) (r : Running) (is : slice_get lane.batches place ≡ Some r) (at : ℕ) (c : VkCommand) where
  -- where the earlier commands that are not done let a command go, none of them orders it
  pub in_order_of : can_run (earlier (take place lane.batches) at r) c ≡ true → IsInOrder lane place at c
  in_order_of h i j e u before =
      let both = and_parts (list_all (lets_go c) (all_undone (take place lane.batches))) (list_all (lets_go c) (undone_before at r))
      (sym (list_all-append (lets_go c) (all_undone (take place lane.batches)) (undone_before at r)) ∙ h) in
      elim before [
        | inl less ↦
            not_true (orders e c)
            (each_left (lets_go c) u.running.batch.commands u.running.done
            (each_batch_left (lets_go c) (take place lane.batches) both.0 i u.running (get_of_take place lane.batches i less ∙ u.is_running)) j e u.is_command u.left)
        | inr same ↦
            let one : u.running ≡ r = same_item u.running r (sym (subst (λ (n : ℕ). slice_get lane.batches n ≡ Some u.running) same.0 u.is_running) ∙ is) in
            not_true (orders e c)
            (each_left (lets_go c) (take at r.batch.commands) (take at r.done) both.1 j e
            (get_of_take at r.batch.commands j same.1 ∙ subst (λ (x : Running). slice_get x.batch.commands j ≡ Some e) one u.is_command)
            (get_of_take at r.done j same.1 ∙ subst (λ (x : Running). slice_get x.done j ≡ Some false) one u.left))
      ]

  -- where no earlier command that is not done orders a command, they let it go
  pub can_run_of : IsInOrder lane place at c → can_run (earlier (take place lane.batches) at r) c ≡ true
  can_run_of ordered =
      list_all-append (lets_go c) (all_undone (take place lane.batches)) (undone_before at r)
      ∙ and_from (list_all (lets_go c) (all_undone (take place lane.batches))) (list_all (lets_go c) (undone_before at r))
      (left_each_batch (lets_go c) (take place lane.batches) (λ i x there.
      let first = get_first place lane.batches i x there in
      left_each (lets_go c) x.batch.commands x.done (λ j e known left.
      ap not (ordered i j e (record { running = x; is_running = first.1; is_command = known; left = left }) (inl first.0)))))
      (left_each (lets_go c) (take at r.batch.commands) (take at r.done) (λ j e known left.
      let command = get_first at r.batch.commands j e known in
      let mark = get_first at r.done j false left in
      ap not (ordered place j e (record { running = r; is_running = is; is_command = command.1; left = mark.1 }) (inr (refl, command.0)))))
