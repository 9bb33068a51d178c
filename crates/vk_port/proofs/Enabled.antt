-- Each step that can be taken means what it says.
use Rattle.std.proofs.Common.{◌≡◌, ℕ, zero, suc, ◌+◌, ◌-◌, ◌<◌, ◌∙◌, ◌&&◌, Bool, true, false, List, [], ◌∷◌, ◌++◌, length, drop, take, refl, sym, ap, subst, arith, min, true≢false, nat_lt, unwrap_or, Option, Some, None, slice_get, if◌then◌else◌}
use Rattle.std.specs.List.{AllByRecursion}
use Rattle.vk_types.specs.declared.commands.VkCommand.{VkCommand}
use Rattle.vk_port.specs.declared.lanes.Lane.{Lane}
use Rattle.vk_port.specs.declared.lanes.Running.{Running}
use Rattle.vk_port.specs.declared.steps.Stepped.{Stepped}
use Rattle.vk_port.specs.declared.steps.Stepped.TheVariants.{Passed, Ran, Bumped, Free}
use Rattle.vk_port.specs.VkState.{VkState}
use Rattle.vk_port.specs.Enabled.{reached, ready_pass, passes, undone, batch_commands, lane_commands, commands, all_done, ready_bump, bumps, enabled_steps, ready_command}
use Rattle.vk_port.specs.Meaning.{IsEnabled, IsInOrder}
use Rattle.vk_port.specs.Offers.{rest_taken}
use Rattle.vk_port.specs.Orders.{can_run}
use Rattle.std.proofs.lemmas.Bool.{ltb-true}
use Rattle.std.proofs.lemmas.List.{append-nil}
use Rattle.std.proofs.lemmas.Option.{none-some, slice_get_within}
use Rattle.std.proofs.Math.ListN.{length-take}
use Rattle.vk_port.proofs.Earlier.{all_undone, earlier, earlier_done, earlier_left, earlier_batch, in_order_of}
use Rattle.vk_port.proofs.Lists.{head_at, tail_at, get_of_take}

-- a fact of each item of two lists
pub each_append : {X : Type 0} (P : X → Type 0) (xs ys : List X) → AllByRecursion P xs → AllByRecursion P ys → AllByRecursion P (xs ++ ys)
each_append P [] ys p q = q
each_append P (x ∷ xs) ys p q = (p.0, each_append P xs ys p.1 q)

-- a fact of each item is one of the item at a place
pub each_at : {X : Type 0} (P : X → Type 0) (xs : List X) (k : ℕ) (x : X) → AllByRecursion P xs → slice_get xs k ≡ Some x → P x
each_at P [] k x p is = absurd (none-some x is)
each_at P (y ∷ xs) zero x p is = subst P (ap (λ (o : Option _). unwrap_or o y) is) p.0
each_at P (y ∷ xs) (suc k) x p is = each_at P xs k x p.1 is

-- both of two tests that hold together
pub and_first : (a b : Bool) → (a && b) ≡ true → a ≡ true
and_first true b h = refl
and_first false b h = h

pub and_second : (a b : Bool) → (a && b) ≡ true → b ≡ true
and_second true b h = h
and_second false b h = absurd (true≢false (sym h))

-- a fact of an item, where a test holds
pub each_if : {X : Type 0} (P : X → Type 0) (b : Bool) (x : X) → (b ≡ true → P x) → AllByRecursion P (if b then x ∷ [] else [])
each_if P true x p = (p refl, tt)
each_if P false x p = tt

module _ {L : Type 0} (P : Stepped → Type 0) (part : ℕ → L → List Stepped) (whole : ℕ → List L → List Stepped)
    (none : (q : ℕ) → whole q [] ≡ []) (turn : (q : ℕ) (l : L) (ls : List L) → whole q (l ∷ ls) ≡ part q l ++ whole (q + 1) ls)
    (all : List L) (each : (q : ℕ) (l : L) → slice_get all q ≡ Some l → AllByRecursion P (part q l)) where
  -- a fact of each step of each lane
  each_lane : (ls : List L) (q : ℕ) → ls ≡ drop q all → AllByRecursion P (whole q ls)
  each_lane [] q from = subst (AllByRecursion P) (sym (none q)) tt
  each_lane (l ∷ ls) q from =
      subst (AllByRecursion P) (sym (turn q l ls))
      (each_append P (part q l) (whole (q + 1) ls) (each q l (head_at all q l ls from)) (each_lane ls (q + 1) (tail_at all q l ls from)))

module _ (v : VkState) where
  -- the pass of a lane
  each_pass : (q : ℕ) (lane : Lane) → slice_get v.lanes q ≡ Some lane → (next : Option Running) → slice_get lane.batches lane.passed ≡ next →
      AllByRecursion (IsEnabled v) (elim next [ None ↦ [] | Some r ↦ if reached v.timelines r.batch.waits then Passed q r.batch.number ∷ [] else [] ])
  each_pass q lane there None is = tt
  each_pass q lane there (Some r) is =
      each_if (IsEnabled v) (reached v.timelines r.batch.waits) (Passed q r.batch.number)
      (λ waits. record { lane = lane; there = there; next = r; is_next = is; number = refl; waits = waits })

  -- the end of a lane's first batch
  each_bump : (q : ℕ) (lane : Lane) → slice_get v.lanes q ≡ Some lane → (first : Option Running) → slice_get lane.batches 0 ≡ first →
      AllByRecursion (IsEnabled v) (elim first [ None ↦ [] | Some r ↦ if nat_lt 0 lane.passed && all_done r then Bumped q r.batch.number ∷ [] else [] ])
  each_bump q lane there None is = tt
  each_bump q lane there (Some r) is =
      each_if (IsEnabled v) (nat_lt 0 lane.passed && all_done r) (Bumped q r.batch.number)
      (λ both. record { lane = lane; there = there; first = r; is_first = is; number = refl; passed = ltb-true 0 lane.passed (and_first (nat_lt 0 lane.passed) (all_done r) both); done = and_second (nat_lt 0 lane.passed) (all_done r) both })

  module _ (q : ℕ) (lane : Lane) (there : slice_get v.lanes q ≡ Some lane) where
    -- the commands of a batch from a place on
    each_command : (place : ℕ) → place < lane.passed → (r : Running) → slice_get lane.batches place ≡ Some r →
        (cs : List VkCommand) (done : List Bool) (i : ℕ) (before : List VkCommand) → cs ≡ drop i r.batch.commands → done ≡ drop i r.done →
        before ≡ earlier (take place lane.batches) i r →
        AllByRecursion (IsEnabled v) (batch_commands q r.batch.number (i + 1) before cs done)
    each_command place passed r is [] done i before from marks held = tt
    each_command place passed r is (c ∷ cs) [] i before from marks held = tt
    each_command place passed r is (c ∷ cs) (true ∷ done) i before from marks held =
        each_command place passed r is cs done (i + 1) before (tail_at r.batch.commands i c cs from) (tail_at r.done i true done marks)
        (held ∙ sym (earlier_done (take place lane.batches) r i c (head_at r.batch.commands i c cs from) (head_at r.done i true done marks)))
    each_command place passed r is (c ∷ cs) (false ∷ done) i before from marks held =
        each_append (IsEnabled v) (ready_command q r.batch.number (i + 1) before c) (batch_commands q r.batch.number (i + 1 + 1) (before ++ c ∷ []) cs done)
        (each_if (IsEnabled v) (can_run before c) (Ran q r.batch.number (i + 1)) (λ can.
        let same : i ≡ i + 1 - 1 = omega arith in
        record {
          lane = lane;
          there = there;
          place = place;
          passed = passed;
          running = r;
          is_running = is;
          number = refl;
          counted = omega arith;
          command = c;
          is_command = subst (λ (j : ℕ). slice_get r.batch.commands j ≡ Some c) same (head_at r.batch.commands i c cs from);
          left = subst (λ (j : ℕ). slice_get r.done j ≡ Some false) same (head_at r.done i false done marks);
          in_order = subst (λ (j : ℕ). IsInOrder lane place j c) same (in_order_of lane place r is i c (ap (λ (es : List VkCommand). can_run es c) (sym held) ∙ can));
        }))
        (each_command place passed r is cs done (i + 1) (before ++ c ∷ []) (tail_at r.batch.commands i c cs from) (tail_at r.done i false done marks)
        (ap (λ (es : List VkCommand). es ++ c ∷ []) held ∙ sym (earlier_left (take place lane.batches) r i c (head_at r.batch.commands i c cs from) (head_at r.done i false done marks))))

    -- the commands of the batches that have passed, from a place on
    each_batch : (rs : List Running) (place : ℕ) (before : List VkCommand) → rs ≡ drop place (take lane.passed lane.batches) → before ≡ all_undone (take place lane.batches) →
        AllByRecursion (IsEnabled v) (lane_commands q before rs)
    each_batch [] place before from held = tt
    each_batch (r ∷ rs) place before from held =
        let is : slice_get (take lane.passed lane.batches) place ≡ Some r = head_at (take lane.passed lane.batches) place r rs from in
        let within : place < min lane.passed (length lane.batches) = rw (length-take lane.passed lane.batches) at (slice_get_within {A = Running} (take lane.passed lane.batches) place r is) in
        let passed : place < lane.passed = omega (arith, within) in
        let in_lane : slice_get lane.batches place ≡ Some r = sym (get_of_take lane.passed lane.batches place passed) ∙ is in
        each_append (IsEnabled v) (batch_commands q r.batch.number 1 before r.batch.commands r.done) (lane_commands q (before ++ undone r) rs)
        (each_command place passed r in_lane r.batch.commands r.done 0 before refl refl (held ∙ sym (append-nil (all_undone (take place lane.batches)))))
        (each_batch rs (place + 1) (before ++ undone r) (tail_at (take lane.passed lane.batches) place r rs from)
        (ap (λ (es : List VkCommand). es ++ undone r) held ∙ sym (earlier_batch lane.batches place r in_lane)))

  -- all steps that can be taken
  each_step : AllByRecursion (IsEnabled v) (enabled_steps v)
  each_step =
      each_append (IsEnabled v) (passes v.timelines 0 v.lanes) (commands 0 v.lanes ++ bumps 0 v.lanes)
      (each_lane (IsEnabled v) (ready_pass v.timelines) (passes v.timelines) (λ q. refl) (λ q l ls. refl) v.lanes (λ q l is. each_pass q l is (slice_get l.batches l.passed) refl) v.lanes 0 refl)
      (each_append (IsEnabled v) (commands 0 v.lanes) (bumps 0 v.lanes)
      (each_lane (IsEnabled v) (λ q lane. lane_commands q [] (take lane.passed lane.batches)) commands (λ q. refl) (λ q l ls. refl) v.lanes (λ q l is. each_batch q l is (take l.passed l.batches) 0 [] refl refl) v.lanes 0 refl)
      (each_lane (IsEnabled v) ready_bump bumps (λ q. refl) (λ q l ls. refl) v.lanes (λ q l is. each_bump q l is (slice_get l.batches 0) refl) v.lanes 0 refl))

  -- a step that can be taken means what it says
  pub enabled_means : (k : ℕ) (s : Stepped) → slice_get (enabled_steps v) k ≡ Some s → IsEnabled v s
  enabled_means k s is = each_at (IsEnabled v) (enabled_steps v) k s each_step is

-- no step of the Vulkan machine takes rest
pub no_rest : (v : VkState) (s : Stepped) → IsEnabled v s → rest_taken s ≡ 0
no_rest v (Passed q n) e = refl
no_rest v (Ran q n k) e = refl
no_rest v (Bumped q n) e = refl
no_rest v Free e = absurd e
