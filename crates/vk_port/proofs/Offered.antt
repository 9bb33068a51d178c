-- Each step that can be taken by its meaning is among those that are offered.
use Rattle.std.proofs.Common.{◌≡◌, ℕ, zero, suc, ◌+◌, ◌-◌, ◌≤◌, ◌∙◌, ◌&&◌, Bool, true, false, List, [], ◌∷◌, ◌++◌, take, refl, sym, ap, subst, arith, nat_lt, true≢false, Option, Some, None, slice_get, if◌then◌else◌}
use Rattle.std.proofs.lemmas.Bool.{lt-ltb}
use Rattle.std.proofs.lemmas.List.{append-nil, append_assoc}
use Rattle.std.proofs.lemmas.Option.{none-some}
use Rattle.vk_types.specs.declared.commands.VkCommand.{VkCommand}
use Rattle.vk_port.specs.declared.lanes.Running.{Running}
use Rattle.vk_port.specs.declared.steps.Stepped.{Stepped}
use Rattle.vk_port.specs.declared.steps.Stepped.TheVariants.{Passed, Ran, Bumped, Free}
use Rattle.vk_port.specs.Enabled.{reached, ready_pass, passes, unmarked, undone, ready_command, batch_commands, lane_commands, commands, all_done, ready_bump, bumps, enabled_steps}
use Rattle.vk_port.specs.Meaning.{IsPass, IsCommand, IsBump, IsEnabled}
use Rattle.vk_port.specs.Orders.{can_run}
use Rattle.vk_port.specs.VkState.{VkState}
use Rattle.vk_port.proofs.Earlier.{same_item, all_undone, can_run_of}
use Rattle.vk_port.proofs.Lists.{get_of_take}

-- a list has an item at some place
abbrev pub Has : {X : Type 0} → List X → X → Type 0
Has xs x = (k : ℕ) × (slice_get xs k ≡ Some x)

-- an item of the first of two lists
has_left : {X : Type 0} (xs ys : List X) (x : X) (k : ℕ) → slice_get xs k ≡ Some x → Has (xs ++ ys) x
has_left [] ys x k is = absurd (none-some x is)
has_left (y ∷ xs) ys x zero is = (zero, is)
has_left (y ∷ xs) ys x (suc k) is = let later = has_left xs ys x k is in (suc later.0, later.1)

-- an item of the second
has_right : {X : Type 0} (xs ys : List X) (x : X) → Has ys x → Has (xs ++ ys) x
has_right [] ys x h = h
has_right (y ∷ xs) ys x h = let later = has_right xs ys x h in (suc later.0, later.1)

module _ {L : Type 0} (part : ℕ → L → List Stepped) (whole : ℕ → List L → List Stepped)
    (turn : (q : ℕ) (l : L) (ls : List L) → whole q (l ∷ ls) ≡ part q l ++ whole (q + 1) ls) where
  -- a step of one part of a list that is put together of parts
  has_part : (ls : List L) (p q : ℕ) (l : L) → slice_get ls q ≡ Some l → (x : Stepped) → Has (part (p + q) l) x → Has (whole p ls) x
  has_part [] p q l is x h = absurd (none-some l is)
  has_part (y ∷ ls) p zero l is x h =
      let first : p + 0 ≡ p = omega arith in
      let here : Has (part p y) x = subst (λ (n : ℕ). Has (part n y) x) first (subst (λ (z : L). Has (part (p + 0) z) x) (sym (same_item y l is)) h) in
      subst (λ (xs : List Stepped). Has xs x) (sym (turn p y ls)) (has_left (part p y) (whole (p + 1) ls) x here.0 here.1)
  has_part (y ∷ ls) p (suc q) l is x h =
      let next : p + suc q ≡ p + 1 + q = omega arith in
      subst (λ (xs : List Stepped). Has xs x) (sym (turn p y ls))
      (has_right (part p y) (whole (p + 1) ls) x (has_part ls (p + 1) q l is x (subst (λ (n : ℕ). Has (part n l) x) next h)))

-- the first items of the first items
take_first : {X : Type 0} (m n : ℕ) (xs : List X) → m ≤ n → take m (take n xs) ≡ take m xs
take_first zero n xs h = refl
take_first (suc m) zero xs h = absurd (omega (arith, h))
take_first (suc m) (suc n) [] h = refl
take_first (suc m) (suc n) (x ∷ xs) h = ap (λ (ys : List _). x ∷ ys) (take_first m n xs (omega (arith, h)))

module _ (q : ℕ) where
  -- a command that is not done is offered, where the earlier ones let it go
  command_in : (n : ℕ) (cs : List VkCommand) (done : List Bool) (i k : ℕ) (before : List VkCommand) (c : VkCommand) → slice_get cs i ≡ Some c → slice_get done i ≡ Some false →
      can_run (before ++ unmarked (take i cs) (take i done)) c ≡ true → Has (batch_commands q n k before cs done) (Ran q n (k + i))
  command_in n [] done i k before c is left can = absurd (none-some c is)
  command_in n (e ∷ cs) [] i k before c is left can = absurd (none-some false left)
  command_in n (e ∷ cs) (true ∷ done) zero k before c is left can = absurd (true≢false (same_item true false left))
  command_in n (e ∷ cs) (true ∷ done) (suc i) k before c is left can =
      let next : k + 1 + i ≡ k + suc i = omega arith in
      subst (λ (m : ℕ). Has (batch_commands q n (k + 1) before cs done) (Ran q n m)) next (command_in n cs done i (k + 1) before c is left can)
  command_in n (e ∷ cs) (false ∷ done) zero k before c is left can =
      let goes : can_run before e ≡ true = ap (λ (d : VkCommand). can_run before d) (same_item e c is) ∙ ap (λ (es : List VkCommand). can_run es c) (sym (append-nil before)) ∙ can in
      let same : k ≡ k + 0 = omega arith in
      let here : ready_command q n k before e ≡ Ran q n k ∷ [] = ap (λ (b : Bool). if b then Ran q n k ∷ [] else []) goes in
      subst (λ (m : ℕ). Has (ready_command q n k before e ++ batch_commands q n (k + 1) (before ++ e ∷ []) cs done) (Ran q n m)) same
      (has_left (ready_command q n k before e) (batch_commands q n (k + 1) (before ++ e ∷ []) cs done) (Ran q n k) 0 (ap (λ (xs : List Stepped). slice_get xs 0) here))
  command_in n (e ∷ cs) (false ∷ done) (suc i) k before c is left can =
      let next : k + 1 + i ≡ k + suc i = omega arith in
      let later : Has (batch_commands q n (k + 1) (before ++ e ∷ []) cs done) (Ran q n (k + 1 + i)) =
      command_in n cs done i (k + 1) (before ++ e ∷ []) c is left (ap (λ (es : List VkCommand). can_run es c) (append_assoc before (e ∷ []) (unmarked (take i cs) (take i done))) ∙ can) in
      has_right (ready_command q n k before e) (batch_commands q n (k + 1) (before ++ e ∷ []) cs done) (Ran q n (k + suc i))
      (subst (λ (m : ℕ). Has (batch_commands q n (k + 1) (before ++ e ∷ []) cs done) (Ran q n m)) next later)

  -- a step of one batch is one of its lane
  batch_in : (rs : List Running) (place : ℕ) (before : List VkCommand) (r : Running) → slice_get rs place ≡ Some r → (x : Stepped) →
      Has (batch_commands q r.batch.number 1 (before ++ all_undone (take place rs)) r.batch.commands r.done) x → Has (lane_commands q before rs) x
  batch_in [] place before r is x h = absurd (none-some r is)
  batch_in (y ∷ rs) zero before r is x h =
      let here : Has (batch_commands q y.batch.number 1 before y.batch.commands y.done) x =
      subst (λ (es : List VkCommand). Has (batch_commands q y.batch.number 1 es y.batch.commands y.done) x) (append-nil before)
      (subst (λ (z : Running). Has (batch_commands q z.batch.number 1 (before ++ []) z.batch.commands z.done) x) (sym (same_item y r is)) h) in
      has_left (batch_commands q y.batch.number 1 before y.batch.commands y.done) (lane_commands q (before ++ undone y) rs) x here.0 here.1
  batch_in (y ∷ rs) (suc place) before r is x h =
      has_right (batch_commands q y.batch.number 1 before y.batch.commands y.done) (lane_commands q (before ++ undone y) rs) x
      (batch_in rs place (before ++ undone y) r is x
      (subst (λ (es : List VkCommand). Has (batch_commands q r.batch.number 1 es r.batch.commands r.done) x) (sym (append_assoc before (undone y) (all_undone (take place rs)))) h))

module _ (v : VkState) (q n : ℕ) where
  -- a pass
  has_pass : IsPass v q n → Has (passes v.timelines 0 v.lanes) (Passed q n)
  has_pass e =
      let steps : Option Running → List Stepped =
      λ o. elim o [ None ↦ [] | Some next ↦ if reached v.timelines next.batch.waits then Passed q next.batch.number ∷ [] else [] ] in
      let all : ready_pass v.timelines q e.lane ≡ Passed q n ∷ [] =
      ap steps e.is_next ∙ ap (λ (b : Bool). if b then Passed q e.next.batch.number ∷ [] else []) e.waits ∙ ap (λ (m : ℕ). Passed q m ∷ []) e.number in
      has_part (ready_pass v.timelines) (passes v.timelines) (λ p l ls. refl) v.lanes 0 q e.lane e.there (Passed q n)
      (subst (λ (p : ℕ). Has (ready_pass v.timelines p e.lane) (Passed q n)) (let same : q ≡ 0 + q = omega arith in same) (0, ap (λ (xs : List Stepped). slice_get xs 0) all))

  -- an end
  has_bump : IsBump v q n → Has (bumps 0 v.lanes) (Bumped q n)
  has_bump e =
      let steps : Option Running → List Stepped =
      λ o. elim o [ None ↦ [] | Some first ↦ if nat_lt 0 e.lane.passed && all_done first then Bumped q first.batch.number ∷ [] else [] ] in
      let all : ready_bump q e.lane ≡ Bumped q n ∷ [] =
      ap steps e.is_first ∙ ap (λ (b : Bool). if b && all_done e.first then Bumped q e.first.batch.number ∷ [] else []) (lt-ltb 0 e.lane.passed e.passed)
      ∙ ap (λ (b : Bool). if b then Bumped q e.first.batch.number ∷ [] else []) e.done ∙ ap (λ (m : ℕ). Bumped q m ∷ []) e.number in
      has_part ready_bump bumps (λ p l ls. refl) v.lanes 0 q e.lane e.there (Bumped q n)
      (subst (λ (p : ℕ). Has (ready_bump p e.lane) (Bumped q n)) (let same : q ≡ 0 + q = omega arith in same) (0, ap (λ (xs : List Stepped). slice_get xs 0) all))

  -- a command
  has_command : (k : ℕ) → IsCommand v q n k → Has (commands 0 v.lanes) (Ran q n k)
  has_command k e =
      let behind : take e.place (take e.lane.passed e.lane.batches) ≡ take e.place e.lane.batches = take_first e.place e.lane.passed e.lane.batches (omega (arith, e.passed)) in
      let step : Has (batch_commands q e.running.batch.number 1 (all_undone (take e.place e.lane.batches)) e.running.batch.commands e.running.done) (Ran q e.running.batch.number (1 + (k - 1))) =
      command_in q e.running.batch.number e.running.batch.commands e.running.done (k - 1) 1 (all_undone (take e.place e.lane.batches)) e.command e.is_command e.left
      (can_run_of e.lane e.place e.running e.is_running (k - 1) e.command e.in_order) in
      let in_lane : Has (lane_commands q [] (take e.lane.passed e.lane.batches)) (Ran q e.running.batch.number (1 + (k - 1))) =
      batch_in q (take e.lane.passed e.lane.batches) e.place [] e.running (get_of_take e.lane.passed e.lane.batches e.place e.passed ∙ e.is_running) (Ran q e.running.batch.number (1 + (k - 1)))
      (subst (λ (rs : List Running). Has (batch_commands q e.running.batch.number 1 (all_undone rs) e.running.batch.commands e.running.done) (Ran q e.running.batch.number (1 + (k - 1)))) (sym behind) step) in
      let place : 1 + (k - 1) ≡ k = omega (arith, e.counted) in
      let named : Has (lane_commands q [] (take e.lane.passed e.lane.batches)) (Ran q n k) =
      subst (λ (m : ℕ). Has (lane_commands q [] (take e.lane.passed e.lane.batches)) (Ran q n m)) place
      (subst (λ (m : ℕ). Has (lane_commands q [] (take e.lane.passed e.lane.batches)) (Ran q m (1 + (k - 1)))) e.number in_lane) in
      has_part (λ p lane. lane_commands p [] (take lane.passed lane.batches)) commands (λ p l ls. refl) v.lanes 0 q e.lane e.there (Ran q n k)
      (subst (λ (p : ℕ). Has (lane_commands p [] (take e.lane.passed e.lane.batches)) (Ran q n k)) (let same : q ≡ 0 + q = omega arith in same) named)

-- each step that can be taken by its meaning is among those that are offered
pub offered : (v : VkState) (s : Stepped) → IsEnabled v s → Has (enabled_steps v) s
offered v (Passed q n) e =
    let there = has_pass v q n e in
    has_left (passes v.timelines 0 v.lanes) (commands 0 v.lanes ++ bumps 0 v.lanes) (Passed q n) there.0 there.1
offered v (Ran q n k) e =
    let there = has_command v q n k e in
    has_right (passes v.timelines 0 v.lanes) (commands 0 v.lanes ++ bumps 0 v.lanes) (Ran q n k)
    (has_left (commands 0 v.lanes) (bumps 0 v.lanes) (Ran q n k) there.0 there.1)
offered v (Bumped q n) e =
    has_right (passes v.timelines 0 v.lanes) (commands 0 v.lanes ++ bumps 0 v.lanes) (Bumped q n)
    (has_right (commands 0 v.lanes) (bumps 0 v.lanes) (Bumped q n) (has_bump v q n e))
offered v Free e = absurd e
