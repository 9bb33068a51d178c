-- Each step that is taken leaves one step fewer.
use Rattle.std.proofs.Common.{◌≡◌, ℕ, zero, suc, ◌+◌, ◌-◌, ◌<◌, ◌≤◌, ◌==◌, Bool, true, false, List, [], ◌∷◌, ◌++◌, map, length, drop, replicate, set, refl, sym, ap, subst, arith, add-one, eq-eqb, true≢false, Option, Some, slice_get, unwrap_or}
use Rattle.std.specs.List.{list_all}
use Rattle.std.proofs.lemmas.Bool.{ne_eqb, eqb-true, and_parts}
use Rattle.std.proofs.lemmas.Option.{none-some, slice_get_within, get_or_from_slice_get, slice_get-get_or}
use Rattle.dx_base.specs.Lists.{changed_at}
use Rattle.vk_types.specs.declared.batches.Batch.{Batch}
use Rattle.vk_types.specs.declared.commands.VkCommand.{VkCommand}
use Rattle.vk_port.specs.declared.lanes.Lane.{Lane}
use Rattle.vk_port.specs.declared.lanes.Running.{Running}
use Rattle.vk_port.specs.declared.steps.Stepped.{Stepped}
use Rattle.vk_port.specs.declared.steps.Stepped.TheVariants.{Passed, Ran, Bumped, Free}
use Rattle.vk_port.specs.After.{with_done, place_of, lane_after_run, lane_after_pass, lane_after_bump, started, lane_after_submit, after_step, after_submit}
use Rattle.vk_port.specs.Enabled.{enabled_steps, undone, unmarked, all_done}
use Rattle.vk_port.specs.Journal.{of_queue, first_number, are_numbered}
use Rattle.vk_port.specs.Left.{batches_left, lanes_left, steps_left}
use Rattle.vk_port.specs.Meaning.{IsEnabled}
use Rattle.vk_port.specs.Valid.{IsLane, IsValid, batch_of}
use Rattle.vk_port.specs.VkState.{VkState, lane_of, no_lane}
use Rattle.vk_port.proofs.Enabled.{enabled_means}

-- what stands in a Some
same_item : {X : Type 0} (x y : X) → Some x ≡ Some y → x ≡ y
same_item x y h = ap (λ (o : Option _). unwrap_or o x) h

-- one more batch has passed
pass_left : (passed : ℕ) (rs : List Running) → passed < length rs → suc (batches_left (suc passed) rs) ≡ batches_left passed rs
pass_left passed [] h = absurd (omega (arith, h))
pass_left zero (r ∷ rs) h = omega arith
pass_left (suc passed) (r ∷ rs) h = let less : suc (batches_left (suc passed) rs) ≡ batches_left passed rs = pass_left passed rs (omega (arith, h)) in omega (arith, less)

-- one more command is done
unmarked_less : (cs : List VkCommand) (done : List Bool) (i : ℕ) (c : VkCommand) → slice_get cs i ≡ Some c → slice_get done i ≡ Some false → suc (length (unmarked cs (set done i true))) ≡ length (unmarked cs done)
unmarked_less [] done i c is left = absurd (none-some c is)
unmarked_less (e ∷ cs) [] i c is left = absurd (none-some false left)
unmarked_less (e ∷ cs) (true ∷ done) zero c is left = absurd (true≢false (same_item true false left))
unmarked_less (e ∷ cs) (false ∷ done) zero c is left = refl
unmarked_less (e ∷ cs) (true ∷ done) (suc i) c is left = unmarked_less cs done i c is left
unmarked_less (e ∷ cs) (false ∷ done) (suc i) c is left = ap suc (unmarked_less cs done i c is left)

-- one batch has one command less to do
run_left : (f : Running → Running) (passed place : ℕ) (rs : List Running) (r : Running) → slice_get rs place ≡ Some r → suc (length (undone (f r))) ≡ length (undone r) → suc (batches_left passed (changed_at f place rs)) ≡ batches_left passed rs
run_left f passed place [] r is less = absurd (none-some r is)
run_left f zero zero (x ∷ rs) r is less =
    let here : suc (length (undone (f x))) ≡ length (undone x) = subst (λ (y : Running). suc (length (undone (f y))) ≡ length (undone y)) (sym (same_item x r is)) less in
    omega (arith, here)
run_left f (suc passed) zero (x ∷ rs) r is less =
    let here : suc (length (undone (f x))) ≡ length (undone x) = subst (λ (y : Running). suc (length (undone (f y))) ≡ length (undone y)) (sym (same_item x r is)) less in
    omega (arith, here)
run_left f zero (suc place) (x ∷ rs) r is less =
    let later : suc (batches_left zero (changed_at f place rs)) ≡ batches_left zero rs = run_left f zero place rs r is less in
    omega (arith, later)
run_left f (suc passed) (suc place) (x ∷ rs) r is less =
    let later : suc (batches_left passed (changed_at f place rs)) ≡ batches_left passed rs = run_left f passed place rs r is less in
    omega (arith, later)

-- of a batch all of whose commands are done nothing is undone
none_undone : (cs : List VkCommand) (done : List Bool) → list_all (λ mark. mark) done ≡ true → length (unmarked cs done) ≡ 0
none_undone [] done all = refl
none_undone (c ∷ cs) [] all = refl
none_undone (c ∷ cs) (true ∷ done) all = none_undone cs done all
none_undone (c ∷ cs) (false ∷ done) all = absurd (true≢false (sym all))

-- the first batch, all of whose commands are done, has ended
bump_left : (passed : ℕ) (rs : List Running) (r : Running) → slice_get rs 0 ≡ Some r → 0 < passed → all_done r ≡ true → suc (batches_left (passed - 1) (drop 1 rs)) ≡ batches_left passed rs
bump_left passed [] r is some all = absurd (none-some r is)
bump_left zero (x ∷ rs) r is some all = absurd (omega (arith, some))
bump_left (suc passed) (x ∷ rs) r is some all =
    let same : suc passed - 1 ≡ passed = omega arith in
    let none : length (undone x) ≡ 0 = subst (λ (y : Running). length (undone y) ≡ 0) (sym (same_item x r is)) (none_undone r.batch.commands r.done all) in
    rw same (omega (arith, none))

-- the steps left of a lane
abbrev pub lane_left : Lane → ℕ
lane_left lane = batches_left lane.passed lane.batches

-- the steps left where one lane was changed
pub lanes_changed : (f : Lane → Lane) (q : ℕ) (lanes : List Lane) (lane : Lane) → slice_get lanes q ≡ Some lane → lanes_left (changed_at f q lanes) + lane_left lane ≡ lanes_left lanes + lane_left (f lane)
lanes_changed f q [] lane is = absurd (none-some lane is)
lanes_changed f zero (x ∷ lanes) lane is = subst (λ (y : Lane). lanes_left (f x ∷ lanes) + lane_left y ≡ lanes_left (x ∷ lanes) + lane_left (f y)) (same_item x lane is) (omega arith)
lanes_changed f (suc q) (x ∷ lanes) lane is =
    let later : lanes_left (changed_at f q lanes) + lane_left lane ≡ lanes_left lanes + lane_left (f lane) = lanes_changed f q lanes lane is in
    omega (arith, later)

-- the later ones of batches without a gap have none
pub numbered_later : (m n : ℕ) (xs : List Batch) → are_numbered m xs ≡ true → are_numbered (m + n) (drop n xs) ≡ true
numbered_later m zero xs h = subst (λ (j : ℕ). are_numbered j xs ≡ true) (let same : m ≡ m + 0 = omega arith in same) h
numbered_later m (suc n) [] h = refl
numbered_later m (suc n) (x ∷ xs) h =
    let same : m + 1 + n ≡ m + suc n = omega arith in
    subst (λ (j : ℕ). are_numbered j (drop n xs) ≡ true) same (numbered_later (m + 1) n xs (and_parts (x.number == m) (are_numbered (m + 1) xs) h).1)

-- the number of a batch among batches without a gap
number_at : (m : ℕ) (rs : List Running) (place : ℕ) (r : Running) → are_numbered m (map batch_of rs) ≡ true → slice_get rs place ≡ Some r → r.batch.number ≡ m + place
number_at m [] place r numbered is = absurd (none-some r is)
number_at m (x ∷ rs) zero r numbered is =
    let both = and_parts (x.batch.number == m) (are_numbered (m + 1) (map batch_of rs)) numbered in
    let here : x.batch.number ≡ m = eqb-true x.batch.number m both.0 in
    subst (λ (y : Running). y.batch.number ≡ m + 0) (same_item x r is) (omega (arith, here))
number_at m (x ∷ rs) (suc place) r numbered is =
    let both = and_parts (x.batch.number == m) (are_numbered (m + 1) (map batch_of rs)) numbered in
    let later : r.batch.number ≡ m + 1 + place = number_at (m + 1) rs place r both.1 is in
    omega (arith, later)

-- a batch among batches without a gap is the first of its number
pub place_is : (m : ℕ) (rs : List Running) (place : ℕ) (r : Running) → are_numbered m (map batch_of rs) ≡ true → slice_get rs place ≡ Some r → place_of r.batch.number rs ≡ place
place_is m [] place r numbered is = absurd (none-some r is)
place_is m (x ∷ rs) zero r numbered is = rw (eq-eqb x.batch.number r.batch.number (ap (λ (y : Running). y.batch.number) (same_item x r is))) refl
place_is m (x ∷ rs) (suc place) r numbered is =
    let both = and_parts (x.batch.number == m) (are_numbered (m + 1) (map batch_of rs)) numbered in
    let here : x.batch.number ≡ m = eqb-true x.batch.number m both.0 in
    let there : r.batch.number ≡ m + 1 + place = number_at (m + 1) rs place r both.1 is in
    rw (ne_eqb x.batch.number r.batch.number (λ same. omega (arith, here, there, same)), place_is (m + 1) rs place r both.1 is) refl

-- in a valid state a batch is the first of its number in its lane
pub valid_place : (v : VkState) → IsValid v → (q : ℕ) (lane : Lane) → slice_get v.lanes q ≡ Some lane → (place : ℕ) (r : Running) → slice_get lane.batches place ≡ Some r → place_of r.batch.number lane.batches ≡ place
valid_place v valid q lane there place r is =
    let kept : IsLane (of_queue q v.journal) lane = subst (IsLane (of_queue q v.journal)) (get_or_from_slice_get v.lanes q lane no_lane there) (valid.lanes q) in
    place_is (first_number q + kept.finished) lane.batches place r
    (rw kept.are_last (numbered_later (first_number q) kept.finished (of_queue q v.journal) (valid.numbered q))) is

-- each step that can be taken leaves one step fewer
falls_when : (v : VkState) (s : Stepped) → IsValid v → IsEnabled v s → suc (steps_left (after_step v s)) ≡ steps_left v
falls_when v (Passed q n) valid e =
    let changed : lanes_left (changed_at lane_after_pass q v.lanes) + lane_left e.lane ≡ lanes_left v.lanes + lane_left (lane_after_pass e.lane) = lanes_changed lane_after_pass q v.lanes e.lane e.there in
    let less : suc (batches_left (suc e.lane.passed) e.lane.batches) ≡ batches_left e.lane.passed e.lane.batches = pass_left e.lane.passed e.lane.batches (slice_get_within e.lane.batches e.lane.passed e.next e.is_next) in
    let one : lane_left (lane_after_pass e.lane) ≡ batches_left (suc e.lane.passed) e.lane.batches = rw (add-one e.lane.passed) refl in
    omega (arith, changed, less, one)
falls_when v (Ran q n k) valid e =
    let changed : lanes_left (changed_at (lane_after_run n k) q v.lanes) + lane_left e.lane ≡ lanes_left v.lanes + lane_left (lane_after_run n k e.lane) = lanes_changed (lane_after_run n k) q v.lanes e.lane e.there in
    let place : place_of n e.lane.batches ≡ e.place = subst (λ (m : ℕ). place_of m e.lane.batches ≡ e.place) e.number (valid_place v valid q e.lane e.there e.place e.running e.is_running) in
    let less : suc (batches_left e.lane.passed (changed_at (with_done k) e.place e.lane.batches)) ≡ lane_left e.lane =
    run_left (with_done k) e.lane.passed e.place e.lane.batches e.running e.is_running (unmarked_less e.running.batch.commands e.running.done (k - 1) e.command e.is_command e.left) in
    let same : lane_left (lane_after_run n k e.lane) ≡ batches_left e.lane.passed (changed_at (with_done k) e.place e.lane.batches) =
    ap (λ (i : ℕ). batches_left e.lane.passed (changed_at (with_done k) i e.lane.batches)) place in
    omega (arith, changed, less, same)
falls_when v (Bumped q n) valid e =
    let changed : lanes_left (changed_at lane_after_bump q v.lanes) + lane_left e.lane ≡ lanes_left v.lanes + lane_left (lane_after_bump e.lane) = lanes_changed lane_after_bump q v.lanes e.lane e.there in
    let less : suc (batches_left (e.lane.passed - 1) (drop 1 e.lane.batches)) ≡ lane_left e.lane = bump_left e.lane.passed e.lane.batches e.first e.is_first e.passed e.done in
    omega (arith, changed, less)
falls_when v Free valid e = absurd e

-- each step that can be taken leaves one step fewer
pub falls : (v : VkState) → IsValid v → (k : ℕ) (s : Stepped) → slice_get (enabled_steps v) k ≡ Some s → suc (steps_left (after_step v s)) ≡ steps_left v
falls v valid k s is = falls_when v s valid (enabled_means v k s is)

-- all commands of a batch are left at first
pub unmarked_all : (cs : List VkCommand) → unmarked cs (replicate (length cs) false) ≡ cs
unmarked_all [] = refl
unmarked_all (c ∷ cs) = ap (λ (es : List VkCommand). c ∷ es) (unmarked_all cs)

-- one more batch behind batches of which not more have passed than there are
more_left : (passed : ℕ) (rs : List Running) (r : Running) → passed ≤ length rs → batches_left passed (rs ++ r ∷ []) ≡ batches_left passed rs + (2 + length (undone r))
more_left zero [] r h = omega arith
more_left (suc passed) [] r h = absurd (omega (arith, h))
more_left zero (x ∷ rs) r h = let later : batches_left zero (rs ++ r ∷ []) ≡ batches_left zero rs + (2 + length (undone r)) = more_left zero rs r (omega arith) in omega (arith, later)
more_left (suc passed) (x ∷ rs) r h = let later : batches_left passed (rs ++ r ∷ []) ≡ batches_left passed rs + (2 + length (undone r)) = more_left passed rs r (omega (arith, h)) in omega (arith, later)

-- a batch that is submitted adds a pass, an end, and its commands
pub submit_left : (v : VkState) (b : Batch) → IsValid v → b.queue < length v.lanes → steps_left (after_submit v b) ≡ steps_left v + (2 + length b.commands)
submit_left v b valid within =
    let there : slice_get v.lanes b.queue ≡ Some (lane_of v b.queue) = slice_get-get_or v.lanes b.queue no_lane within in
    let lane : Lane = lane_of v b.queue in
    let changed : lanes_left (changed_at (lane_after_submit b) b.queue v.lanes) + lane_left (lane_of v b.queue) ≡ lanes_left v.lanes + lane_left (lane_after_submit b (lane_of v b.queue)) = lanes_changed (lane_after_submit b) b.queue v.lanes (lane_of v b.queue) there in
    let more : lane_left (lane_after_submit b (lane_of v b.queue)) ≡ lane_left (lane_of v b.queue) + (2 + length (undone (started b))) = more_left (lane_of v b.queue).passed (lane_of v b.queue).batches (started b) (valid.lanes b.queue).passed in
    let all : length (undone (started b)) ≡ length b.commands = ap length (unmarked_all b.commands) in
    omega (arith, changed, more, all)
