-- How many steps are ready behind a command, where one that works alike is left in front.
use Rattle.std.proofs.Common.{◌≡◌, ℕ, zero, suc, ◌+◌, ◌-◌, ◌<◌, ◌==◌, ◌∙◌, Bool, true, false, ◌&&◌, nat_lt, List, [], ◌∷◌, ◌++◌, length, min, take, set, replicate, option_map, refl, sym, ap, subst, arith, true≢false, slice_get, Option, Some, None, if◌then◌else◌}
use Rattle.std.specs.List.{list_all}
use Rattle.std.proofs.lemmas.Bool.{and_parts, eqb-true}
use Rattle.std.proofs.lemmas.List.{length-append}
use Rattle.std.proofs.lemmas.Option.{none-some, get_or_from_slice_get}
use Rattle.std.proofs.Math.Logic.{∥∥₁_elim}
use Rattle.std.proofs.Props.{props}
use Rattle.dx_base.proofs.Lists.{get_changed}
use Rattle.dx_base.specs.Lists.{changed_at}
use Rattle.vk_types.specs.declared.commands.VkCommand.{VkCommand}
use Rattle.vk_port.specs.declared.ahead.Ahead.{Ahead}
use Rattle.vk_port.specs.declared.fronts.Front.{Front}
use Rattle.vk_port.specs.declared.lanes.Lane.{Lane}
use Rattle.vk_port.specs.declared.lanes.Running.{Running}
use Rattle.vk_port.specs.declared.steps.Stepped.{Stepped}
use Rattle.vk_port.specs.declared.steps.Stepped.TheVariants.{Passed, Bumped}
use Rattle.vk_port.specs.After.{with_done, place_of, command_at, lane_after_run}
use Rattle.vk_port.specs.Ahead.{no_ahead, summary, lets, batch_steps, lane_steps}
use Rattle.vk_port.specs.Enabled.{unmarked, undone, all_done, reached, ready_pass, passes, lane_commands, commands, ready_bump, bumps}
use Rattle.vk_port.specs.Fronts.{is_done_at, is_front, are_fronts, ready_steps, count_of, work_bits, work_alike, is_unset, has_alike}
use Rattle.vk_port.specs.Meaning.{IsCommand}
use Rattle.vk_port.specs.Valid.{IsValid, AreValidLanes}
use Rattle.vk_port.specs.VkState.{VkState, lane_of, no_lane}
use Rattle.vk_port.proofs.AlikeCommands.{Works, one_fewer, same_sum}
use Rattle.vk_port.proofs.Earlier.{same_item, all_undone, undone_before, can_run_of}
use Rattle.vk_port.proofs.Falls.{valid_place}
use Rattle.vk_port.proofs.LanePlaces.{IsFront, front_parts, front_at, no_steps, none_left}
use Rattle.vk_port.proofs.ValidLanes.{from_lanes}
use Rattle.vk_port.proofs.Summing.{lane_same, lets_is}

module _ (part : ℕ → Lane → List Stepped) (whole : ℕ → List Lane → List Stepped) (turn : (q : ℕ) (l : Lane) (ls : List Lane) → whole q (l ∷ ls) ≡ part q l ++ whole (q + 1) ls) (f : Lane → Lane) where
  -- a lane is changed, and not its steps
  whole_same : (ls : List Lane) (p q : ℕ) (l : Lane) → slice_get ls q ≡ Some l → part (p + q) (f l) ≡ part (p + q) l → whole p (changed_at f q ls) ≡ whole p ls
  whole_same [] p q l is same = absurd (none-some l is)
  whole_same (x ∷ ls) p zero l is same =
      let first : p + 0 ≡ p = omega arith in
      let here : part p (f x) ≡ part p x = subst (λ (y : Lane). part p (f y) ≡ part p y) (sym (same_item x l is)) (rw first at same) in
      turn p (f x) ls ∙ (ap (λ (xs : List Stepped). xs ++ whole (p + 1) ls) here ∙ sym (turn p x ls))
  whole_same (x ∷ ls) p (suc q) l is same =
      let next : p + suc q ≡ p + 1 + q = omega arith in
      turn p x (changed_at f q ls) ∙ (ap (λ (xs : List Stepped). part p x ++ xs) (whole_same ls (p + 1) q l is (rw next at same)) ∙ sym (turn p x ls))

  -- a lane is changed, and has one step fewer
  whole_fewer : (ls : List Lane) (p q : ℕ) (l : Lane) → slice_get ls q ≡ Some l → suc (length (part (p + q) (f l))) ≡ length (part (p + q) l) → suc (length (whole p (changed_at f q ls))) ≡ length (whole p ls)
  whole_fewer [] p q l is fewer = absurd (none-some l is)
  whole_fewer (x ∷ ls) p zero l is fewer =
      let first : p + 0 ≡ p = omega arith in
      let here : suc (length (part p (f x))) ≡ length (part p x) = subst (λ (y : Lane). suc (length (part p (f y))) ≡ length (part p y)) (sym (same_item x l is)) (rw first at fewer) in
      let after = ap length (turn p (f x) ls) ∙ length-append (part p (f x)) (whole (p + 1) ls) in
      let before = ap length (turn p x ls) ∙ length-append (part p x) (whole (p + 1) ls) in
      omega (arith, here, after, before)
  whole_fewer (x ∷ ls) p (suc q) l is fewer =
      let next : p + suc q ≡ p + 1 + q = omega arith in
      let rest = whole_fewer ls (p + 1) q l is (rw next at fewer) in
      let after = ap length (turn p x (changed_at f q ls)) ∙ length-append (part p x) (whole (p + 1) (changed_at f q ls)) in
      let before = ap length (turn p x ls) ∙ length-append (part p x) (whole (p + 1) ls) in
      omega (arith, rest, after, before)

-- a batch of a lane with one step fewer, behind batches all of whose commands are done
lane_fewer : (q : ℕ) (f : Running → Running) (a : Ahead) (passed b : ℕ) (rs : List Running) (r : Running) → slice_get rs b ≡ Some r → b < passed → list_all all_done (take b rs) ≡ true →
    suc (length (batch_steps q (f r).batch.number 1 a (f r).batch.commands (f r).done)) ≡ length (batch_steps q r.batch.number 1 a r.batch.commands r.done) →
    summary a (undone (f r)) ≡ summary a (undone r) →
    suc (length (lane_steps q a (take passed (changed_at f b rs)))) ≡ length (lane_steps q a (take passed rs))
lane_fewer q f a passed b [] r is less before fewer sum = absurd (none-some r is)
lane_fewer q f a zero b (x ∷ rs) r is less before fewer sum = absurd (omega (arith, less))
lane_fewer q f a (suc passed) zero (x ∷ rs) r is less before fewer sum =
    subst (λ (y : Running). suc (length (lane_steps q a (f y ∷ take passed rs))) ≡ length (lane_steps q a (y ∷ take passed rs))) (sym (same_item x r is)) here where
      here : suc (length (lane_steps q a (f r ∷ take passed rs))) ≡ length (lane_steps q a (r ∷ take passed rs))
      here =
          let after = length-append (batch_steps q (f r).batch.number 1 a (f r).batch.commands (f r).done) (lane_steps q (summary a (undone (f r))) (take passed rs)) in
          let behind = ap (λ (s : Ahead). length (lane_steps q s (take passed rs))) sum in
          let now = length-append (batch_steps q r.batch.number 1 a r.batch.commands r.done) (lane_steps q (summary a (undone r)) (take passed rs)) in
          omega (arith, after, behind, now, fewer)
lane_fewer q f a (suc passed) (suc b) (x ∷ rs) r is less before fewer sum =
    let parts = and_parts (all_done x) (list_all all_done (take b rs)) before in
    rw (no_steps q x.batch.number 1 a x.batch.commands x.done parts.0, none_left x.batch.commands x.done parts.0)
    (lane_fewer q f a passed b rs r is (omega (arith, less)) parts.1 fewer sum)

-- a batch of the lane with one command done
changed_batch : (k p : ℕ) (rs : List Running) (i : ℕ) (y : Running) → slice_get (changed_at (with_done k) p rs) i ≡ Some y → (x : Running) × (slice_get rs i ≡ Some x) × (y.batch.number ≡ x.batch.number)
changed_batch k p [] i y is = absurd (none-some y is)
changed_batch k zero (x ∷ rs) zero y is = (x, refl, ap (λ (r : Running). r.batch.number) (sym (same_item (with_done k x) y is)))
changed_batch k zero (x ∷ rs) (suc i) y is = (y, is, refl)
changed_batch k (suc p) (x ∷ rs) zero y is = (x, refl, ap (λ (r : Running). r.batch.number) (sym (same_item x y is)))
changed_batch k (suc p) (x ∷ rs) (suc i) y is = changed_batch k p rs i y is

get_here : (f : Running → Running) (p : ℕ) (rs : List Running) (r : Running) → slice_get rs p ≡ Some r → slice_get (changed_at f p rs) p ≡ Some (f r)
get_here f p [] r is = absurd (none-some r is)
get_here f zero (x ∷ rs) r is = ap (λ (y : Running). Some (f y)) (same_item x r is)
get_here f (suc p) (x ∷ rs) r is = get_here f p rs r is

get_behind : (f : Running → Running) (p : ℕ) (rs : List Running) (i : ℕ) → p < i → slice_get (changed_at f p rs) i ≡ slice_get rs i
get_behind f p [] i less = refl
get_behind f p (x ∷ rs) zero less = absurd (omega (arith, less))
get_behind f zero (x ∷ rs) (suc i) less = refl
get_behind f (suc p) (x ∷ rs) (suc i) less = get_behind f p rs i (omega (arith, less))

get_first : (f : Running → Running) (p : ℕ) (rs : List Running) → 0 < p → slice_get (changed_at f p rs) 0 ≡ slice_get rs 0
get_first f p [] less = refl
get_first f zero (x ∷ rs) less = absurd (omega (arith, less))
get_first f (suc p) (x ∷ rs) less = refl

take_before : (f : Running → Running) (p : ℕ) (rs : List Running) → take p (changed_at f p rs) ≡ take p rs
take_before f zero rs = refl
take_before f (suc p) [] = refl
take_before f (suc p) (x ∷ rs) = ap (λ (ys : List Running). x ∷ ys) (take_before f p rs)

-- nothing is left of batches all of whose commands are done
none_undone : (rs : List Running) → list_all all_done rs ≡ true → all_undone rs ≡ []
none_undone [] h = refl
none_undone (r ∷ rs) h =
    let parts = and_parts (all_done r) (list_all all_done rs) h in
    rw (none_left r.batch.commands r.done parts.0) (none_undone rs parts.1)

-- a mark that is not set
pub not_all : (done : List Bool) (i : ℕ) → slice_get done i ≡ Some false → list_all (λ mark. mark) done ≡ false
not_all [] i is = absurd (none-some false is)
not_all (false ∷ done) i is = refl
not_all (true ∷ done) zero is = absurd (true≢false (same_item true false is))
not_all (true ∷ done) (suc i) is = not_all done i is

unset_is : (o : Option Bool) → is_unset o ≡ true → o ≡ Some false
unset_is None h = absurd (true≢false (sym h))
unset_is (Some true) h = absurd (true≢false (sym h))
unset_is (Some false) h = refl

-- two commands that work alike
alike_is : (o : Option VkCommand) (c : VkCommand) → work_alike o (Some c) ≡ true → (d : VkCommand) × (o ≡ Some d) × Works (work_bits d) d × Works (work_bits d) c
alike_is None c h = absurd (true≢false (sym h))
alike_is (Some d) c h =
    let parts = and_parts (nat_lt 0 (work_bits d)) (work_bits d == work_bits c) h in
    let some : 0 < work_bits d = grind (arith, parts.0) in
    (d, refl, (some, refl), (some, sym (eqb-true (work_bits d) (work_bits c) parts.1)))

-- the batch at a lane's place, where a command there works alike
found_alike : (o : Option Running) (n g : ℕ) (command : Option VkCommand) →
    elim o [ None ↦ false | Some r ↦ (r.batch.number == n) && (is_unset (slice_get r.done g) && work_alike (slice_get r.batch.commands g) command) ] ≡ true →
    (r : Running) × (o ≡ Some r) × (r.batch.number ≡ n) × (slice_get r.done g ≡ Some false) × (work_alike (slice_get r.batch.commands g) command ≡ true)
found_alike None n g command h = absurd (true≢false (sym h))
found_alike (Some r) n g command h =
    let first = and_parts (r.batch.number == n) _ h in
    let second = and_parts (is_unset (slice_get r.done g)) _ first.1 in
    (r, refl, eqb-true r.batch.number n first.0, unset_is (slice_get r.done g) second.0, second.1)

module _ (v : VkState) (valid : IsValid v) (q n k : ℕ) (e : IsCommand v q n k) (front : Front) (is : is_front front (lane_after_run n k e.lane) ≡ true)
    (alike : has_alike (lane_after_run n k e.lane) front n (command_at n k e.lane.batches) ≡ true) where
  abbrev rs : List Running
  rs = e.lane.batches

  place : place_of n rs ≡ e.place
  place = subst (λ (m : ℕ). place_of m rs ≡ e.place) e.number (valid_place v valid q e.lane e.there e.place e.running e.is_running)

  done : slice_get (changed_at (with_done k) (place_of n rs) rs) e.place ≡ Some (with_done k e.running)
  done = rw place (get_here (with_done k) e.place rs e.running e.is_running)

  found : (r : Running) × (slice_get (changed_at (with_done k) (place_of n rs) rs) front.batch ≡ Some r) × (r.batch.number ≡ n) × (slice_get r.done front.command ≡ Some false) × (work_alike (slice_get r.batch.commands front.command) (command_at n k rs) ≡ true)
  found = found_alike (slice_get (changed_at (with_done k) (place_of n rs) rs) front.batch) n front.command (command_at n k rs) alike

  -- it is the batch of the command
  same_place : front.batch ≡ e.place
  same_place =
      let old = changed_batch k (place_of n rs) rs front.batch found.0 found.1 in
      let number : old.0.batch.number ≡ n = sym old.2 ∙ found.2 in
      let there : place_of old.0.batch.number rs ≡ front.batch = valid_place v valid q e.lane e.there front.batch old.0 old.1 in
      sym there ∙ (ap (λ (m : ℕ). place_of m rs) number ∙ place)

  same_batch : found.0 ≡ with_done k e.running
  same_batch = same_item found.0 (with_done k e.running) (sym found.1 ∙ (ap (λ (i : ℕ). slice_get (changed_at (with_done k) (place_of n rs) rs) i) same_place ∙ done))

  command : command_at n k rs ≡ Some e.command
  command = rw (place, e.is_running) e.is_command

  parts : IsFront front (lane_after_run n k e.lane)
  parts = front_parts front (lane_after_run n k e.lane) is

  other : (d : VkCommand) × (slice_get e.running.batch.commands front.command ≡ Some d) × Works (work_bits d) d × Works (work_bits d) e.command
  other = alike_is (slice_get e.running.batch.commands front.command) e.command
      (subst (λ (r : Running). work_alike (slice_get r.batch.commands front.command) (Some e.command) ≡ true) same_batch (subst (λ (o : Option VkCommand). work_alike (slice_get found.0.batch.commands front.command) o ≡ true) command found.4))

  still : slice_get (set e.running.done (k - 1) true) front.command ≡ Some false
  still = subst (λ (r : Running). slice_get r.done front.command ≡ Some false) same_batch found.3

  before : list_all (λ mark. mark) (take front.command (set e.running.done (k - 1) true)) ≡ true
  before = ap (is_done_at front.command) (sym (ap (λ (i : ℕ). slice_get (changed_at (with_done k) (place_of n rs) rs) i) same_place ∙ done)) ∙ parts.here

  -- the batches before it have no command left
  earlier : list_all all_done (take e.place rs) ≡ true
  earlier =
      let first : take e.place (changed_at (with_done k) (place_of n rs) rs) ≡ take e.place rs = rw place (take_before (with_done k) e.place rs) in
      ap (list_all all_done) (sym first) ∙ subst (λ (i : ℕ). list_all all_done (take i (changed_at (with_done k) (place_of n rs) rs)) ≡ true) same_place parts.before

  can : lets (summary no_ahead (unmarked (take (k - 1) e.running.batch.commands) (take (k - 1) e.running.done))) e.command ≡ true
  can =
      let runs = can_run_of e.lane e.place e.running e.is_running (k - 1) e.command e.in_order in
      lets_is (undone_before (k - 1) e.running) e.command ∙ (rw (none_undone (take e.place rs) earlier) at runs)

  -- the lane has one step fewer
  fewer : suc (length (lane_commands q [] (take e.lane.passed (changed_at (with_done k) (place_of n rs) rs)))) ≡ length (lane_commands q [] (take e.lane.passed rs))
  fewer =
      let steps = lane_fewer q (with_done k) no_ahead e.lane.passed e.place rs e.running e.is_running e.passed earlier
      (one_fewer (work_bits other.0) e.command other.3 q e.running.batch.number 1 no_ahead e.running.batch.commands e.running.done (k - 1) front.command other.0 e.is_command e.left other.1 other.2 still before can)
      (same_sum (work_bits other.0) e.command other.3 no_ahead e.running.batch.commands e.running.done (k - 1) front.command other.0 e.is_command e.left other.1 other.2 still before) in
      rw (place, ← lane_same q (take e.lane.passed (changed_at (with_done k) e.place rs)), ← lane_same q (take e.lane.passed rs)) steps

  -- and the same pass
  pass_same : ready_pass v.timelines q (lane_after_run n k e.lane) ≡ ready_pass v.timelines q e.lane
  pass_same =
      let there : slice_get (changed_at (with_done k) (place_of n rs) rs) e.lane.passed ≡ slice_get rs e.lane.passed = rw place (get_behind (with_done k) e.place rs e.lane.passed e.passed) in
      ap (λ (o : Option Running). elim o [ None ↦ [] | Some next ↦ if reached v.timelines next.batch.waits then Passed q next.batch.number ∷ [] else [] ]) there

  -- and no end, if it is the first
  abbrev ends : Option Running → List Stepped
  ends o = elim o [ None ↦ [] | Some first ↦ if nat_lt 0 e.lane.passed && all_done first then Bumped q first.batch.number ∷ [] else [] ]

  no_end : (r : Running) (i : ℕ) → slice_get r.done i ≡ Some false → ends (Some r) ≡ []
  no_end r i left = rw (not_all r.done i left) (none (nat_lt 0 e.lane.passed)) where
    none : (b : Bool) → (if b && false then Bumped q r.batch.number ∷ [] else []) ≡ []
    none true = refl
    none false = refl

  bump_same : ready_bump q (lane_after_run n k e.lane) ≡ ready_bump q e.lane
  bump_same = by_place e.place refl where
    by_place : (p : ℕ) → e.place ≡ p → ends (slice_get (changed_at (with_done k) (place_of n rs) rs) 0) ≡ ends (slice_get rs 0)
    by_place zero first =
        ap ends (ap (λ (i : ℕ). slice_get (changed_at (with_done k) (place_of n rs) rs) i) (sym first) ∙ done) ∙ (no_end (with_done k e.running) front.command still
        ∙ sym (ap ends (ap (slice_get rs) (sym first) ∙ e.is_running) ∙ no_end e.running (k - 1) e.left))
    by_place (suc p) later = let some : 0 < e.place = omega (arith, later) in ap ends (rw place (get_first (with_done k) e.place rs some))

  -- one step fewer is ready
  pub leaves_the_others : suc (length (ready_steps v.timelines (changed_at (lane_after_run n k) q v.lanes))) ≡ length (ready_steps v.timelines v.lanes)
  leaves_the_others =
      let changed = changed_at (lane_after_run n k) q v.lanes in
      let here : 0 + q ≡ q = omega arith in
      let a = ap length (whole_same (ready_pass v.timelines) (passes v.timelines) (λ _ _ _. refl) (lane_after_run n k) v.lanes 0 q e.lane e.there (rw here pass_same)) in
      let b = whole_fewer (λ p lane. lane_commands p [] (take lane.passed lane.batches)) commands (λ _ _ _. refl) (lane_after_run n k) v.lanes 0 q e.lane e.there (rw here fewer) in
      let c = ap length (whole_same ready_bump bumps (λ _ _ _. refl) (lane_after_run n k) v.lanes 0 q e.lane e.there (rw here bump_same)) in
      let after = length-append (passes v.timelines 0 changed) (commands 0 changed ++ bumps 0 changed) in
      let after2 = length-append (commands 0 changed) (bumps 0 changed) in
      let now = length-append (passes v.timelines 0 v.lanes) (commands 0 v.lanes ++ bumps 0 v.lanes) in
      let now2 = length-append (commands 0 v.lanes) (bumps 0 v.lanes) in
      omega (arith, a, b, c, after, after2, now, now2)

-- nothing is ready at first
no_passes : (t : List ℕ) (p n : ℕ) → passes t p (replicate n no_lane) ≡ []
no_passes t p zero = refl
no_passes t p (suc n) = no_passes t (p + 1) n

no_commands : (p n : ℕ) → commands p (replicate n no_lane) ≡ []
no_commands p zero = refl
no_commands p (suc n) = no_commands (p + 1) n

no_bumps : (p n : ℕ) → bumps p (replicate n no_lane) ≡ []
no_bumps p zero = refl
no_bumps p (suc n) = no_bumps (p + 1) n

pub none_ready : (t : List ℕ) (n : ℕ) → ready_steps t (replicate n no_lane) ≡ []
none_ready t n = rw (no_passes t 0 n, no_commands 0 n, no_bumps 0 n) refl

-- as many are ready behind the command, by the lanes and places after it
pub counted_behind : (v : VkState) (q n k ready : ℕ) (fronts : List Front) (front : Front) (lane : Lane) → ∥ AreValidLanes v.journal v.lanes ∥₁ → IsCommand v q n k → ready ≡ count_of (ready_steps v.timelines v.lanes) →
    are_fronts fronts (changed_at (lane_after_run n k) q v.lanes) ≡ true → slice_get fronts q ≡ Some front → slice_get (changed_at (lane_after_run n k) q v.lanes) q ≡ Some lane →
    has_alike lane front n (command_at n k (lane_of v q).batches) ≡ true → ready ≡ min (length (ready_steps v.timelines (changed_at (lane_after_run n k) q v.lanes)) + 1) 18446744073709551615
counted_behind v q n k ready fronts front lane valid e counted are is there alike = ∥∥₁_elim valid (hlevel props) (λ lanes.
    let changed = changed_at (lane_after_run n k) q v.lanes in
    let here : slice_get changed q ≡ Some (lane_after_run n k e.lane) = get_changed (lane_after_run n k) v.lanes q ∙ ap (option_map (lane_after_run n k)) e.there in
    let same : lane ≡ lane_after_run n k e.lane = same_item lane (lane_after_run n k e.lane) (sym there ∙ here) in
    let old : lane_of v q ≡ e.lane = get_or_from_slice_get v.lanes q e.lane no_lane e.there in
    let fewer = leaves_the_others v (from_lanes v lanes) q n k e front (subst (λ (l : Lane). is_front front l ≡ true) same (front_at fronts changed q front lane are is there))
    (subst (λ (l : Lane). has_alike (lane_after_run n k e.lane) front n (command_at n k l.batches) ≡ true) old (subst (λ (l : Lane). has_alike l front n (command_at n k (lane_of v q).batches) ≡ true) same alike)) in
    omega (arith, counted, fewer))
