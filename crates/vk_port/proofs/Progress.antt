-- A lane with an unfinished batch can take a step, unless its next batch waits.
use Rattle.std.proofs.Common.{◌≡◌, ℕ, zero, suc, ◌+◌, ◌<◌, ◌≤◌, ◌∙◌, ◌&&◌, Bool, true, false, List, [], ◌∷◌, ◌++◌, length, take, refl, sym, ap, subst, arith, nat_lt, Option, Some, None, slice_get, if◌then◌else◌, ◌⊎◌, inl, inr, length-append}
use Rattle.std.specs.List.{list_all}
use Rattle.std.proofs.lemmas.Bool.{cases_lt, lt-ltb, eqb-true}
use Rattle.vk_types.specs.declared.commands.VkCommand.{VkCommand}
use Rattle.vk_port.specs.declared.lanes.Lane.{Lane}
use Rattle.vk_port.specs.declared.lanes.Running.{Running}
use Rattle.vk_port.specs.declared.steps.Stepped.{Stepped}
use Rattle.vk_port.specs.declared.steps.Stepped.TheVariants.{Passed, Bumped}
use Rattle.vk_port.specs.Enabled.{reached, undone, ready_pass, passes, batch_commands, lane_commands, commands, all_done, ready_bump, bumps, enabled_steps}
use Rattle.vk_port.specs.Valid.{is_marked}
use Rattle.vk_port.specs.VkState.{VkState}

module _ {L : Type 0} (part : ℕ → L → List Stepped) (whole : ℕ → List L → List Stepped)
    (turn : (q : ℕ) (l : L) (ls : List L) → whole q (l ∷ ls) ≡ part q l ++ whole (q + 1) ls) where
  -- a list that is put together from lists is no shorter than one of them
  part_in : (ls : List L) (p q : ℕ) (l : L) → slice_get ls q ≡ Some l → length (part (p + q) l) ≤ length (whole p ls)
  part_in [] p q l is = absurd (cc)
  part_in (x ∷ ls) p zero l is =
      let same : x ≡ l = grind arith in
      let long : length (whole p (x ∷ ls)) ≡ length (part p x) + length (whole (p + 1) ls) = ap length (turn p x ls) ∙ length-append (part p x) (whole (p + 1) ls) in
      let here : length (part (p + 0) l) ≡ length (part p x) = ap (λ k. length (part k l)) (let e : p + 0 ≡ p = omega arith in e) ∙ ap (λ y. length (part p y)) (sym same) in
      omega (arith, long, here)
  part_in (x ∷ ls) p (suc q) l is =
      let long : length (whole p (x ∷ ls)) ≡ length (part p x) + length (whole (p + 1) ls) = ap length (turn p x ls) ∙ length-append (part p x) (whole (p + 1) ls) in
      let here : length (part (p + suc q) l) ≡ length (part (p + 1 + q) l) = ap (λ k. length (part k l)) (let e : p + suc q ≡ p + 1 + q = omega arith in e) in
      omega (arith, long, here, part_in ls (p + 1) q l is)

-- a batch of which each command has a mark has all commands done, or one that can run
batch_goes : (q n k : ℕ) (cs : List VkCommand) (done : List Bool) → length done ≡ length cs →
    (list_all (λ mark. mark) done ≡ true) ⊎ (0 < length (batch_commands q n k [] cs done))
batch_goes q n k [] [] same = inl refl
batch_goes q n k [] (m ∷ done) same = absurd (omega (arith, same))
batch_goes q n k (c ∷ cs) [] same = absurd (omega (arith, same))
batch_goes q n k (c ∷ cs) (true ∷ done) same = batch_goes q n (k + 1) cs done (omega (arith, same))
batch_goes q n k (c ∷ cs) (false ∷ done) same = inr (omega arith)

-- so has the first batch of a lane, where it has passed
first_goes : (q passed : ℕ) (rs : List Running) (r : Running) → slice_get rs 0 ≡ Some r → 0 < passed → is_marked r ≡ true →
    (all_done r ≡ true) ⊎ (0 < length (lane_commands q [] (take passed rs)))
first_goes q zero rs r is some marked = absurd (omega (arith, some))
first_goes q (suc passed) [] r is some marked = absurd (cc)
first_goes q (suc passed) (x ∷ rs) r is some marked =
    let same : r ≡ x = grind arith in
    let steps : List Stepped = batch_commands q x.batch.number 1 [] x.batch.commands x.done in
    let more : List Stepped = lane_commands q (undone x) (take passed rs) in
    let even : length x.done ≡ length x.batch.commands =
    eqb-true (length x.done) (length x.batch.commands) (subst (λ y. is_marked y ≡ true) same marked) in
    elim (batch_goes q x.batch.number 1 x.batch.commands x.done even) [
      | inl all ↦ inl (subst (λ y. all_done y ≡ true) (sym same) all)
      | inr goes ↦ inr (omega (arith, goes, length-append steps more))
    ]

-- the pass of a lane whose first batch is the next one, and does not wait
pass_is : (ts : List ℕ) (q : ℕ) (lane : Lane) (r : Running) → slice_get lane.batches 0 ≡ Some r → lane.passed ≡ 0 → reached ts r.batch.waits ≡ true →
    ready_pass ts q lane ≡ Passed q r.batch.number ∷ []
pass_is ts q lane r is none waits =
    let steps : Option Running → List Stepped =
    λ o. elim o [ None ↦ [] | Some next ↦ if reached ts next.batch.waits then Passed q next.batch.number ∷ [] else [] ] in
    ap (λ i. steps (slice_get lane.batches i)) none ∙ ap steps is ∙ ap (λ t. if t then Passed q r.batch.number ∷ [] else []) waits

-- the end of a lane's first batch that has passed, and whose commands are done
bump_is : (q : ℕ) (lane : Lane) (r : Running) → slice_get lane.batches 0 ≡ Some r → 0 < lane.passed → all_done r ≡ true →
    ready_bump q lane ≡ Bumped q r.batch.number ∷ []
bump_is q lane r is some all =
    let steps : Option Running → List Stepped =
    λ o. elim o [ None ↦ [] | Some first ↦ if nat_lt 0 lane.passed && all_done first then Bumped q first.batch.number ∷ [] else [] ] in
    ap steps is ∙ ap (λ t. if t && all_done r then Bumped q r.batch.number ∷ [] else []) (lt-ltb 0 lane.passed some)
    ∙ ap (λ t. if t then Bumped q r.batch.number ∷ [] else []) all

-- a lane with an unfinished batch can take a step, unless its next batch waits
pub lane_goes : (v : VkState) (q : ℕ) (lane : Lane) (r : Running) → slice_get v.lanes q ≡ Some lane → slice_get lane.batches 0 ≡ Some r → is_marked r ≡ true →
    (lane.passed ≡ 0 → reached v.timelines r.batch.waits ≡ true) → 0 < length (enabled_steps v)
lane_goes v q lane r there is marked waits =
    let xs : List Stepped = passes v.timelines 0 v.lanes in
    let ys : List Stepped = commands 0 v.lanes in
    let zs : List Stepped = bumps 0 v.lanes in
    let parts : length (enabled_steps v) ≡ length xs + (length ys + length zs) =
    length-append xs (ys ++ zs) ∙ ap (λ n. length xs + n) (length-append ys zs) in
    let pass : length (ready_pass v.timelines (0 + q) lane) ≤ length xs = part_in (ready_pass v.timelines) (passes v.timelines) (λ p l ls. refl) v.lanes 0 q lane there in
    let run : length (lane_commands (0 + q) [] (take lane.passed lane.batches)) ≤ length ys =
    part_in (λ p l. lane_commands p [] (take l.passed l.batches)) commands (λ p l ls. refl) v.lanes 0 q lane there in
    let bump : length (ready_bump (0 + q) lane) ≤ length zs = part_in ready_bump bumps (λ p l ls. refl) v.lanes 0 q lane there in
    elim (cases_lt 0 lane.passed) [
      | inl some ↦
          elim (first_goes (0 + q) lane.passed lane.batches r is some marked) [
            | inl all ↦ omega (arith, parts, bump, ap length (bump_is (0 + q) lane r is some all))
            | inr goes ↦ omega (arith, parts, run, goes)
          ]
      | inr none ↦
          let zeroth : lane.passed ≡ 0 = omega (arith, none) in
          omega (arith, parts, pass, ap length (pass_is v.timelines (0 + q) lane r is zeroth (waits zeroth)))
    ]
