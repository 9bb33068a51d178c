-- Which command a step of the device runs, and what stands before it.
use Rattle.std.proofs.Common.{ℕ, zero, suc, ◌≡◌, ◌+◌, ◌-◌, ◌∙◌, sym, ap, subst, refl, arith, List, [], ◌∷◌, ◌++◌, take, Some, None, Option, Bool, true, false, append-nil, append_assoc, slice_get, slice_set}
use Rattle.std.specs.Prelude.{◌&&◌, ◌||◌, nat_lt, if◌then◌else◌}
use Rattle.std.specs.List.{list_all, AllByRecursion}
use Rattle.std.proofs.lemmas.Bool.{and_parts}
use Rattle.dx_base.specs.Lists.{changed_at}
use Rattle.vk_types.specs.declared.commands.VkCommand.{VkCommand}
use Rattle.vk_port.specs.declared.lanes.Lane.{Lane}
use Rattle.vk_port.specs.declared.lanes.Running.{Running}
use Rattle.vk_port.specs.declared.steps.Stepped.{Stepped}
use Rattle.vk_port.specs.declared.steps.Stepped.TheVariants.{Passed, Ran, Bumped, Free}
use Rattle.vk_port.specs.After.{after_command, with_done}
use Rattle.vk_port.specs.Enabled.{undone, unmarked, reached, all_done, ready_command, batch_commands, lane_commands, ready_pass, passes, commands, ready_bump, bumps}
use Rattle.vk_port.specs.Orders.{can_run}
use Rattle.vk_port.proofs.Enabled.{each_append, each_at, each_if}
use Rattle.sys_core.specs.Ahead.{run_commands, batches_undone}
use Rattle.sys_core.specs.InOrder.{is_barrier, is_ordinary, is_short, opens, has_one_at_most, is_untouched, is_spent, are_in_order}
use Rattle.sys_core.proofs.InOrder as ordering
use Rattle.dx_base.proofs.Lists.{all_append}

-- a fact of each item, by another
pub each_map : {X : Type 0} (P Q : X → Type 0) → ((x : X) → P x → Q x) → (xs : List X) → AllByRecursion P xs → AllByRecursion Q xs
each_map P Q f [] all = tt
each_map P Q f (x ∷ xs) all = (f x all.0, each_map P Q f xs all.1)

-- a step runs a command of a batch that is not done, before which some are not done, where others of earlier batches are not
pub record RunsIn (q n k : ℕ) (pre cs : List VkCommand) (done : List Bool) (s : Stepped) : Type 0 where
  pub index : ℕ
  pub command : VkCommand
  pub before : List VkCommand
  pub after : List VkCommand
  pub is_command : slice_get cs index ≡ Some command
  pub step : s ≡ Ran q n (k + index)
  pub free : can_run (pre ++ before) command ≡ true
  pub was : unmarked cs done ≡ before ++ command ∷ after
  pub now : unmarked cs (slice_set done index true) ≡ before ++ after

each_of_batch : (q n k : ℕ) (pre cs : List VkCommand) (done : List Bool) → AllByRecursion (RunsIn q n k pre cs done) (batch_commands q n k pre cs done)
each_of_batch q n k pre [] done = tt
each_of_batch q n k pre (c ∷ cs) [] = tt
each_of_batch q n k pre (c ∷ cs) (true ∷ done) =
    each_map (RunsIn q n (k + 1) pre cs done) (RunsIn q n k pre (c ∷ cs) (true ∷ done))
    (λ s r. record {
      index = suc r.index;
      command = r.command;
      before = r.before;
      after = r.after;
      is_command = r.is_command;
      step = r.step ∙ ap (λ i. Ran q n i) (let e : k + 1 + r.index ≡ k + suc r.index = omega arith in e);
      free = r.free;
      was = r.was;
      now = r.now;
    })
    (batch_commands q n (k + 1) pre cs done) (each_of_batch q n (k + 1) pre cs done)
each_of_batch q n k pre (c ∷ cs) (false ∷ done) =
    each_append (RunsIn q n k pre (c ∷ cs) (false ∷ done)) (ready_command q n k pre c) (batch_commands q n (k + 1) (pre ++ c ∷ []) cs done)
    (each_if (RunsIn q n k pre (c ∷ cs) (false ∷ done)) (can_run pre c) (Ran q n k)
    (λ free. record {
      index = 0;
      command = c;
      before = [];
      after = unmarked cs done;
      is_command = refl;
      step = ap (λ i. Ran q n i) (let e : k ≡ k + 0 = omega arith in e);
      free = ap (λ ds. can_run ds c) (append-nil pre) ∙ free;
      was = refl;
      now = refl;
    }))
    (each_map (RunsIn q n (k + 1) (pre ++ c ∷ []) cs done) (RunsIn q n k pre (c ∷ cs) (false ∷ done))
    (λ s r. record {
      index = suc r.index;
      command = r.command;
      before = c ∷ r.before;
      after = r.after;
      is_command = r.is_command;
      step = r.step ∙ ap (λ i. Ran q n i) (let e : k + 1 + r.index ≡ k + suc r.index = omega arith in e);
      free = ap (λ ds. can_run ds r.command) (sym (append_assoc pre (c ∷ []) r.before)) ∙ r.free;
      was = ap (λ ds. c ∷ ds) r.was;
      now = ap (λ ds. c ∷ ds) r.now;
    })
    (batch_commands q n (k + 1) (pre ++ c ∷ []) cs done) (each_of_batch q n (k + 1) (pre ++ c ∷ []) cs done))

-- a step runs a command of one of the batches of a lane
pub record RunsOf (q : ℕ) (pre : List VkCommand) (rs : List Running) (s : Stepped) : Type 0 where
  pub place : ℕ
  pub running : Running
  pub there : slice_get rs place ≡ Some running
  pub runs : RunsIn q running.batch.number 1 (pre ++ batches_undone (take place rs)) running.batch.commands running.done s

each_of_lane : (q passed : ℕ) (pre : List VkCommand) (rs : List Running) → AllByRecursion (RunsOf q pre rs) (lane_commands q pre (take passed rs))
each_of_lane q zero pre rs = tt
each_of_lane q (suc passed) pre [] = tt
each_of_lane q (suc passed) pre (r ∷ rs) =
    each_append (RunsOf q pre (r ∷ rs)) (batch_commands q r.batch.number 1 pre r.batch.commands r.done) (lane_commands q (pre ++ undone r) (take passed rs))
    (each_map (RunsIn q r.batch.number 1 pre r.batch.commands r.done) (RunsOf q pre (r ∷ rs))
    (λ s runs. record {
      place = 0;
      running = r;
      there = refl;
      runs = subst (λ ds. RunsIn q r.batch.number 1 ds r.batch.commands r.done s) (sym (append-nil pre)) runs;
    })
    (batch_commands q r.batch.number 1 pre r.batch.commands r.done) (each_of_batch q r.batch.number 1 pre r.batch.commands r.done))
    (each_map (RunsOf q (pre ++ undone r) rs) (RunsOf q pre (r ∷ rs))
    (λ s of. record {
      place = suc of.place;
      running = of.running;
      there = of.there;
      runs = subst (λ ds. RunsIn q of.running.batch.number 1 ds of.running.batch.commands of.running.done s)
          (append_assoc pre (undone r) (batches_undone (take of.place rs))) of.runs;
    })
    (lane_commands q (pre ++ undone r) (take passed rs)) (each_of_lane q passed (pre ++ undone r) rs))

-- a step, where it runs a command, runs one of the batches of a lane
abbrev RunsWhere : ℕ → List Running → Stepped → Type 0
RunsWhere q rs (Passed p n) = Unit {0}
RunsWhere q rs (Ran p n k) = RunsOf q [] rs (Ran p n k)
RunsWhere q rs (Bumped p n) = Unit {0}
RunsWhere q rs Free = Unit {0}

where_runs : (q : ℕ) (rs : List Running) (s : Stepped) → RunsOf q [] rs s → RunsWhere q rs s
where_runs q rs (Passed p n) runs = tt
where_runs q rs (Ran p n k) runs = runs
where_runs q rs (Bumped p n) runs = tt
where_runs q rs Free runs = tt

no_pass_runs : (ts : List ℕ) (p q : ℕ) (rs : List Running) (o : Option Running) →
    AllByRecursion (RunsWhere q rs) (elim o [ None ↦ [] | Some next ↦ if reached ts next.batch.waits then Passed p next.batch.number ∷ [] else [] ])
no_pass_runs ts p q rs None = tt
no_pass_runs ts p q rs (Some r) = each_if (RunsWhere q rs) (reached ts r.batch.waits) (Passed p r.batch.number) (λ _. tt)

no_bump_runs : (p q passed : ℕ) (rs : List Running) (o : Option Running) →
    AllByRecursion (RunsWhere q rs) (elim o [ None ↦ [] | Some first ↦ if nat_lt 0 passed && all_done first then Bumped p first.batch.number ∷ [] else [] ])
no_bump_runs p q passed rs None = tt
no_bump_runs p q passed rs (Some r) = each_if (RunsWhere q rs) (nat_lt 0 passed && all_done r) (Bumped p r.batch.number) (λ _. tt)

-- where a step of a device with one lane runs a command, it is one of the lane's
pub lane_runs : (ts : List ℕ) (lane : Lane) (q n j k : ℕ) →
    slice_get (passes ts 0 (lane ∷ []) ++ (commands 0 (lane ∷ []) ++ bumps 0 (lane ∷ []))) j ≡ Some (Ran q n k) → RunsOf 0 [] lane.batches (Ran q n k)
lane_runs ts lane q n j k is =
    let P : Stepped → Type 0 = RunsWhere 0 lane.batches in
    let one : List Stepped = ready_pass ts 0 lane in
    let two : List Stepped = lane_commands 0 [] (take lane.passed lane.batches) in
    let three : List Stepped = ready_bump 0 lane in
    let all : AllByRecursion P ((one ++ []) ++ ((two ++ []) ++ (three ++ []))) =
    each_append P (one ++ []) ((two ++ []) ++ (three ++ []))
    (each_append P one [] (no_pass_runs ts 0 0 lane.batches (slice_get lane.batches lane.passed)) tt)
    (each_append P (two ++ []) (three ++ [])
    (each_append P two [] (each_map (RunsOf 0 [] lane.batches) P (where_runs 0 lane.batches) two (each_of_lane 0 lane.passed [] lane.batches)) tt)
    (each_append P three [] (no_bump_runs 0 0 lane.passed lane.batches (slice_get lane.batches 0)) tt)) in
    each_at P ((one ++ []) ++ ((two ++ []) ++ (three ++ []))) j (Ran q n k) all is

-- the commands that are not done, before and behind one of them
record IsSplit (rs : List Running) (place index : ℕ) (before : List VkCommand) (c : VkCommand) : Type 0 where
  rest : List VkCommand
  was : batches_undone rs ≡ before ++ c ∷ rest
  now : batches_undone (changed_at (with_done (1 + index)) place rs) ≡ before ++ rest

split : (rs : List Running) (place index : ℕ) (r : Running) (before after : List VkCommand) (c : VkCommand) → slice_get rs place ≡ Some r →
    undone r ≡ before ++ c ∷ after → unmarked r.batch.commands (slice_set r.done index true) ≡ before ++ after →
    IsSplit rs place index (batches_undone (take place rs) ++ before) c
split [] place index r before after c there was now = absurd (cc)
split (x ∷ rs) zero index r before after c there was now =
    let same : x ≡ r = grind arith in
    let at : 1 + index - 1 ≡ index = omega arith in
    record {
      rest = after ++ batches_undone rs;
      was = ap (λ (y : Running). undone y ++ batches_undone rs) same ∙ ap (λ ds. ds ++ batches_undone rs) was ∙ append_assoc before (c ∷ after) (batches_undone rs);
      now = ap (λ (y : Running). unmarked y.batch.commands (slice_set y.done (1 + index - 1) true) ++ batches_undone rs) same
          ∙ ap (λ i. unmarked r.batch.commands (slice_set r.done i true) ++ batches_undone rs) at
          ∙ ap (λ ds. ds ++ batches_undone rs) now ∙ append_assoc before after (batches_undone rs);
    }
split (x ∷ rs) (suc place) index r before after c there was now =
    let behind : IsSplit rs place index (batches_undone (take place rs) ++ before) c = split rs place index r before after c there was now in
    let moved : (ds : List VkCommand) → undone x ++ ((batches_undone (take place rs) ++ before) ++ ds) ≡ ((undone x ++ batches_undone (take place rs)) ++ before) ++ ds =
    λ ds. sym (append_assoc (undone x) (batches_undone (take place rs) ++ before) ds)
    ∙ ap (λ es. es ++ ds) (sym (append_assoc (undone x) (batches_undone (take place rs)) before)) in
    record {
      rest = behind.rest;
      was = ap (λ ds. undone x ++ ds) behind.was ∙ moved (c ∷ behind.rest);
      now = ap (λ ds. undone x ++ ds) behind.now ∙ moved behind.rest;
    }

-- the batches stay in order where one more command of a batch is done, before which only barriers were left
order_kept : (rs : List Running) (place index : ℕ) (r : Running) → slice_get rs place ≡ Some r → are_in_order rs ≡ true →
    list_all is_barrier (batches_undone (take place rs)) ≡ true → (is_spent r ≡ true → is_spent (with_done (1 + index) r) ≡ true) →
    are_in_order (changed_at (with_done (1 + index)) place rs) ≡ true
order_kept [] place index r there order spent stays = refl
order_kept (x ∷ rs) zero index r there order spent stays =
    let y : Running = with_done (1 + index) x in
    let same : x ≡ r = grind arith in
    let a : (is_short x.batch.commands ≡ true) × (((is_spent x || list_all is_untouched rs) && are_in_order rs) ≡ true) =
    and_parts (is_short x.batch.commands) ((is_spent x || list_all is_untouched rs) && are_in_order rs) order in
    let b : ((is_spent x || list_all is_untouched rs) ≡ true) × (are_in_order rs ≡ true) = and_parts (is_spent x || list_all is_untouched rs) (are_in_order rs) a.1 in
    let kept : is_spent x ≡ true → is_spent y ≡ true = subst (λ (z : Running). is_spent z ≡ true → is_spent (with_done (1 + index) z) ≡ true) (sym same) stays in
    ap (λ t. t && ((is_spent y || list_all is_untouched rs) && are_in_order rs)) a.0
    ∙ ap (λ t. t && are_in_order rs) (by_kind (is_spent x) (is_spent y) (list_all is_untouched rs) b.0 kept) ∙ b.1
  where
    by_kind : (t u v : Bool) → (t || v) ≡ true → (t ≡ true → u ≡ true) → (u || v) ≡ true
    by_kind true u v either kept = ap (λ z. z || v) (kept refl)
    by_kind false true v either kept = refl
    by_kind false false v either kept = either
order_kept (x ∷ rs) (suc place) index r there order spent stays =
    let more : List Running = changed_at (with_done (1 + index)) place rs in
    let a : (is_short x.batch.commands ≡ true) × (((is_spent x || list_all is_untouched rs) && are_in_order rs) ≡ true) =
    and_parts (is_short x.batch.commands) ((is_spent x || list_all is_untouched rs) && are_in_order rs) order in
    let b : ((is_spent x || list_all is_untouched rs) ≡ true) × (are_in_order rs ≡ true) = and_parts (is_spent x || list_all is_untouched rs) (are_in_order rs) a.1 in
    let here : is_spent x ≡ true = ordering.all_front is_barrier (undone x) (batches_undone (take place rs)) spent in
    let behind : list_all is_barrier (batches_undone (take place rs)) ≡ true = ordering.all_behind is_barrier (undone x) (batches_undone (take place rs)) spent in
    ap (λ t. t && ((is_spent x || list_all is_untouched more) && are_in_order more)) a.0
    ∙ ap (λ t. (t || list_all is_untouched more) && are_in_order more) here ∙ order_kept rs place index r there b.1 behind stays

-- a command of a lane whose step can be taken: what stands before it and is not done are barriers
pub record IsNextIn (bs : List Running) : Type 0 where
  pub place : ℕ
  pub running : Running
  pub index : ℕ
  pub command : VkCommand
  pub there : slice_get bs place ≡ Some running
  pub is_command : slice_get running.batch.commands index ≡ Some command
  pub rest : (m : List (List ℕ)) → run_commands (batches_undone bs) m ≡ run_commands (batches_undone (changed_at (with_done (1 + index)) place bs)) (after_command command m)
  pub in_order : are_in_order (changed_at (with_done (1 + index)) place bs) ≡ true

module _ (bs : List Running) (is_in_order : are_in_order bs ≡ true) (s : Stepped) (of : RunsOf 0 [] bs s) where
  abbrev r : Running
  r = of.running

  abbrev earlier : List VkCommand
  earlier = batches_undone (take of.place bs)

  parts : IsSplit bs of.place of.runs.index (earlier ++ of.runs.before) of.runs.command
  parts = split bs of.place of.runs.index r of.runs.before of.runs.after of.runs.command of.there of.runs.was of.runs.now

  ordinary : list_all is_ordinary ((earlier ++ of.runs.before) ++ of.runs.command ∷ parts.rest) ≡ true
  ordinary = subst (λ ds. list_all is_ordinary ds ≡ true) parts.was (ordering.all_ordinary bs is_in_order)

  command_ordinary : is_ordinary of.runs.command ≡ true
  command_ordinary =
      (and_parts (is_ordinary of.runs.command) (list_all is_ordinary parts.rest)
      (ordering.all_behind is_ordinary (earlier ++ of.runs.before) (of.runs.command ∷ parts.rest) ordinary)).0

  short : is_short r.batch.commands ≡ true
  short = ordering.short_at bs of.place r is_in_order of.there

  behind_barriers : (t : Bool) → is_barrier of.runs.command ≡ t → list_all is_barrier (earlier ++ of.runs.before) ≡ true
  behind_barriers true barrier =
      ordering.barrier_is_behind (earlier ++ of.runs.before) of.runs.command
      (ordering.all_front is_ordinary (earlier ++ of.runs.before) (of.runs.command ∷ parts.rest) ordinary) command_ordinary barrier of.runs.free
  behind_barriers false copy =
      let counts : has_one_at_most r.batch.commands ≡ true =
      (and_parts (list_all is_ordinary r.batch.commands) (has_one_at_most r.batch.commands)
      (and_parts (opens r.batch.commands) (list_all is_ordinary r.batch.commands && has_one_at_most r.batch.commands) short).1).1 in
      all_append is_barrier earlier of.runs.before
      (ordering.spent_before bs of.place r is_in_order of.there
      (λ none. ordering.untouched_copy earlier r.batch.commands r.done of.runs.before of.runs.after of.runs.command short none of.runs.was command_ordinary copy of.runs.free))
      (ordering.barriers_before of.runs.before of.runs.command of.runs.after copy
      (subst (λ ds. has_one_at_most ds ≡ true) of.runs.was (ordering.one_unmarked r.batch.commands r.done counts)))

  barriers : list_all is_barrier (earlier ++ of.runs.before) ≡ true
  barriers = behind_barriers (is_barrier of.runs.command) refl

  spent_stays : is_spent r ≡ true → is_spent (with_done (1 + of.runs.index) r) ≡ true
  spent_stays spent =
      let at : 1 + of.runs.index - 1 ≡ of.runs.index = omega arith in
      let all : list_all is_barrier (of.runs.before ++ of.runs.command ∷ of.runs.after) ≡ true = subst (λ ds. list_all is_barrier ds ≡ true) of.runs.was spent in
      let last : list_all is_barrier (of.runs.command ∷ of.runs.after) ≡ true = ordering.all_behind is_barrier of.runs.before (of.runs.command ∷ of.runs.after) all in
      ap (λ i. list_all is_barrier (unmarked r.batch.commands (slice_set r.done i true))) at ∙ ap (list_all is_barrier) of.runs.now
      ∙ all_append is_barrier of.runs.before of.runs.after (ordering.all_front is_barrier of.runs.before (of.runs.command ∷ of.runs.after) all)
      (and_parts (is_barrier of.runs.command) (list_all is_barrier of.runs.after) last).1

  pub next_in : IsNextIn bs
  next_in = record {
    place = of.place;
    running = r;
    index = of.runs.index;
    command = of.runs.command;
    there = of.there;
    is_command = of.runs.is_command;
    rest = λ m.
        ap (λ ds. run_commands ds m) parts.was ∙ ordering.barriers_do_nothing (earlier ++ of.runs.before) (of.runs.command ∷ parts.rest) m barriers
        ∙ sym (ordering.barriers_do_nothing (earlier ++ of.runs.before) parts.rest (after_command of.runs.command m) barriers)
        ∙ ap (λ ds. run_commands ds (after_command of.runs.command m)) (sym parts.now);
    in_order = order_kept bs of.place of.runs.index r of.there is_in_order (ordering.all_front is_barrier earlier of.runs.before barriers) spent_stays;
  }

-- where a step of a device with one lane runs a command, what stands before it and is not done are barriers
pub next_ran : (ts : List ℕ) (lane : Lane) (q n j k : ℕ) → are_in_order lane.batches ≡ true →
    slice_get (passes ts 0 (lane ∷ []) ++ (commands 0 (lane ∷ []) ++ bumps 0 (lane ∷ []))) j ≡ Some (Ran q n k) →
    (next : IsNextIn lane.batches) × (Ran 0 next.running.batch.number (1 + next.index) ≡ Ran q n k)
unfolding next_in lane_runs
next_ran ts lane q n j k in_order is =
    let of : RunsOf 0 [] lane.batches (Ran q n k) = lane_runs ts lane q n j k is in
    (next_in lane.batches in_order (Ran q n k) of, sym of.runs.step)
