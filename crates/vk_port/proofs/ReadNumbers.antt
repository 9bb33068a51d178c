-- What copies and the host read, where they see what was written.
use Rattle.std.proofs.Common.{◌≡◌, ℕ, zero, suc, ◌+◌, ◌<◌, ◌≤◌, ◌∙◌, Bool, true, false, cond, List, [], ◌∷◌, ◌++◌, length, map, take, drop, get_or, slice_get, refl, sym, ap, ap₂, subst, arith, Option, Some, None}
use Rattle.std.proofs.lemmas.List.{drop-map, length-map, map-append, take-map}
use Rattle.dx_base.specs.Each.{Each}
use Rattle.dx_base.specs.Lists.{changed_at, put, range_of}
use Rattle.dx_base.proofs.Each.{each_from, each_got, each_on}
use Rattle.vk_types.specs.declared.accesses.Accesses.{Accesses}
use Rattle.vk_types.specs.declared.commands.VkCommand.{VkCommand}
use Rattle.vk_types.specs.declared.commands.VkCommand.TheVariants.{Copy}
use Rattle.vk_types.specs.declared.plan.DevicePlan.{DevicePlan}
use Rattle.vk_types.specs.declared.stages.Stages.{Stages}
use Rattle.vk_types.specs.declared.steps.VkStep.{VkStep}
use Rattle.vk_types.specs.declared.steps.VkStep.TheVariants.{Command, HostWrite}
use Rattle.vk_sync_rules.specs.declared.accesses.DoneAccess.{DoneAccess}
use Rattle.vk_sync_rules.specs.declared.places.Place.{Place}
use Rattle.vk_sync_rules.specs.declared.ranges.VkResource.{VkResource}
use Rattle.vk_sync_rules.specs.declared.ranges.VkResource.TheVariants.{Buffer}
use Rattle.vk_sync_rules.specs.declared.ranges.WordRange.{WordRange}
use Rattle.vk_sync_rules.specs.AccessSets.{all_accesses, copy_reads, share}
use Rattle.vk_sync_rules.specs.Commands.{passes_end, pieces}
use Rattle.vk_sync_rules.specs.DoneAccesses.{last_write, sees}
use Rattle.vk_sync_rules.specs.Entries.{Enters, IsCovered}
use Rattle.vk_sync_rules.specs.FirstState.{Begins}
use Rattle.vk_sync_rules.specs.Machines.{known_numbers}
use Rattle.vk_sync_rules.specs.NextState.{after_run, host_passes_end, host_range, is_seen, numbers_read, numbers_written, where_seen}
use Rattle.vk_sync_rules.specs.Numbers.{numbers_in, opened, opened_all, put_numbers, stored}
use Rattle.vk_sync_rules.specs.Orders.{sort_of}
use Rattle.vk_sync_rules.specs.Pieces.{written_ranges}
use Rattle.vk_sync_rules.specs.Ranges.{has_word}
use Rattle.vk_sync_rules.specs.Rules.{after_step, after_steps, is_host_seen, of_each}
use Rattle.vk_sync_rules.specs.Runs.{Runs}
use Rattle.vk_sync_rules.specs.Sizes.{words_in}
use Rattle.vk_sync_rules.specs.VkState.{VkState as Machine}
use Rattle.vk_sync_rules.proofs.Barriers.{behind_steps}
use Rattle.vk_sync_rules.proofs.BatchEnds.{passed_steps}
use Rattle.vk_sync_rules.proofs.EndedBatches.{ended_steps}
use Rattle.vk_sync_rules.proofs.Entries.{entered_covered}
use Rattle.vk_sync_rules.proofs.LastWrites.{last_has}
use Rattle.vk_sync_rules.proofs.Makers.{owned_steps}
use Rattle.vk_sync_rules.proofs.Soundness.{sound_steps}
use Rattle.vk_port.specs.Agreement.{host_numbers, sees_word}
use Rattle.vk_port.specs.Reads.{AreKnown, IsLed, IsShownWrite, KeepNumbers}

pub stays_begun : (v : Machine) (ss : List VkStep) → Begins v → Runs v ss → Begins (after_steps v ss)
stays_begun v ss is runs = record {
  sound = sound_steps v ss is.sound runs;
  behind = behind_steps v ss is.sound is.behind runs;
  passed = passed_steps v ss is.passed runs;
  ended = ended_steps v ss is.passed is.ended runs;
  owned = owned_steps v ss is.owned runs;
}

-- where each word is seen, the numbers are those that stand there
where_all : (test : ℕ → Bool) → ((word : ℕ) → test word ≡ true) → (first : ℕ) (ns : List (Option ℕ)) → where_seen test first ns ≡ ns
where_all test h first [] = refl
where_all test h first (n ∷ ns) =
    let put_first : Option ℕ → List (Option ℕ) → List (Option ℕ) = λ x xs. x ∷ xs in
    ap₂ put_first (ap (λ t. cond t n None) (h first)) (where_all test h (first + 1) ns)

-- what holds of each write holds of the last write of a word
last_test : (test : DoneAccess → Bool) (accesses : List DoneAccess) → Each (λ (r : DoneAccess). r.writes ≡ true → test r ≡ true) accesses → (resource : VkResource) (word : ℕ) → of_each test (last_write resource word accesses) ≡ true
last_test test accesses all resource word = by_found (last_write resource word accesses) (last_has (λ r. test r ≡ true) resource word accesses written) where
  written : Each (λ (r : DoneAccess). r.writes ≡ true → has_word resource word r.range ≡ true → test r ≡ true) accesses
  written = each_on (λ (r : DoneAccess). r.writes ≡ true → test r ≡ true) (λ (r : DoneAccess). r.writes ≡ true → has_word resource word r.range ≡ true → test r ≡ true) accesses (λ r h w there. h w) all

  by_found : (o : Option DoneAccess) → ((w : DoneAccess) → o ≡ Some w → test w ≡ true) → of_each test o ≡ true
  by_found None h = refl
  by_found (Some w) h = h w refl

-- the test of a last write, in other words
test_of : (test : DoneAccess → Bool) (o : Option DoneAccess) → of_each test o ≡ true → elim o [ None ↦ true | Some w ↦ test w ] ≡ true
test_of test None h = refl
test_of test (Some w) h = h

pub reads_see : (v : Machine) (q n k : ℕ) (loaded : List ℕ) (c : VkCommand) (reads : Accesses) (range : WordRange) → Begins v → IsLed v q n k loaded c → share all_accesses reads ≡ true →
    numbers_read v q (sort_of c).takes reads (record { number = n; index = k }) range ≡ take range.count (drop range.first (numbers_in v.numbers range.resource))
reads_see v q n k loaded c reads range is led shares =
    where_all (is_seen v q stage reads here range.resource) seen range.first (take range.count (drop range.first (numbers_in v.numbers range.resource))) where
      stage : Stages
      stage = (sort_of c).takes

      here : Place
      here = record { number = n; index = k }

      sight : (i : ℕ) (r : DoneAccess) → slice_get v.accesses i ≡ Some r → r.writes ≡ true → sees q stage reads here r ≡ true
      sight i r found w =
          let enters : Enters q n r = each_got (Enters q n) v.accesses i r led.entered found in
          let cover : IsCovered q here r = entered_covered v q n k loaded c is.sound is.behind led.leading led.behind led.there led.device led.enabled i r found enters in
          cover.sight stage reads w led.device shares

      seen : (word : ℕ) → is_seen v q stage reads here range.resource word ≡ true
      seen word = test_of (sees q stage reads here) (last_write range.resource word v.accesses)
          (last_test (sees q stage reads here) v.accesses (each_from (λ (r : DoneAccess). r.writes ≡ true → sees q stage reads here r ≡ true) v.accesses sight) range.resource word)

-- known words of a buffer, a part of them, and others put over them
known_buffer : (words : List (List ℕ)) (b : ℕ) → get_or (map known_numbers words) b [] ≡ known_numbers (get_or words b [])
known_buffer [] b = refl
known_buffer (ws ∷ words) zero = refl
known_buffer (ws ∷ words) (suc b) = known_buffer words b

known_range : (first count : ℕ) (ws : List ℕ) → take count (drop first (known_numbers ws)) ≡ known_numbers (range_of first count ws)
known_range first count ws = ap (take count) (drop-map (λ (w : ℕ). Some w) first ws) ∙ take-map (λ (w : ℕ). Some w) count (drop first ws)

known_put : (first : ℕ) (new ws : List ℕ) → put_numbers first (known_numbers new) (known_numbers ws) ≡ known_numbers (put first new ws)
known_put first new ws =
    let some : ℕ → Option ℕ = λ w. Some w in
    let behind : drop (first + length (map some new)) (map some ws) ≡ map some (drop (first + length new) ws) =
    ap (λ k. drop (first + k) (map some ws)) (length-map new some) ∙ drop-map some (first + length new) ws in
    let inner : map some new ++ drop (first + length (map some new)) (map some ws) ≡ map some (new ++ drop (first + length new) ws) =
    ap (λ xs. map some new ++ xs) behind ∙ sym (map-append some new (drop (first + length new) ws)) in
    let outer : take first (map some ws) ++ (map some new ++ drop (first + length (map some new)) (map some ws)) ≡ map some (take first ws ++ (new ++ drop (first + length new) ws)) =
    ap₂ (λ xs ys. xs ++ ys) (take-map some first ws) inner ∙ sym (map-append some (take first ws) (new ++ drop (first + length new) ws)) in
    ap₂ (λ k xs. take k xs) (length-map ws some) outer ∙ take-map some (length ws) (take first ws ++ (new ++ drop (first + length new) ws))

known_changed : (first b : ℕ) (new : List ℕ) (words : List (List ℕ)) → changed_at (put_numbers first (known_numbers new)) b (map known_numbers words) ≡ map known_numbers (changed_at (put first new) b words)
known_changed first b new [] = refl
known_changed first zero new (ws ∷ words) = ap (λ xs. xs ∷ map known_numbers words) (known_put first new ws)
known_changed first (suc b) new (ws ∷ words) = ap (λ xss. known_numbers ws ∷ xss) (known_changed first b new words)

-- known words read, and stored in a buffer
read_known : (v : Machine) (buffer first count : ℕ) (words : List (List ℕ)) → AreKnown v words →
    take count (drop first (numbers_in v.numbers (Buffer buffer))) ≡ known_numbers (range_of first count (get_or words buffer []))
read_known v buffer first count words known =
    ap (λ bs. take count (drop first (get_or bs buffer []))) known
    ∙ (ap (λ ns. take count (drop first ns)) (known_buffer words buffer) ∙ known_range first count (get_or words buffer []))

stored_known : (v : Machine) (first b : ℕ) (new : List ℕ) (words : List (List ℕ)) → AreKnown v words →
    changed_at (put_numbers first (known_numbers new)) b v.numbers.buffers ≡ map known_numbers (changed_at (put first new) b words)
stored_known v first b new words known = ap (changed_at (put_numbers first (known_numbers new)) b) known ∙ known_changed first b new words

pub copies_known : (v : Machine) (q n k : ℕ) (loaded : List ℕ) (to to_first from from_first count : ℕ) (words : List (List ℕ)) → Begins v → IsLed v q n k loaded (Copy to to_first from from_first count) →
    passes_end v.plan loaded (Copy to to_first from from_first count) ≡ false → AreKnown v words →
    AreKnown (after_step v (Command q n k loaded)) (changed_at (put to_first (range_of from_first count (get_or words from []))) to words)
copies_known v q n k loaded to to_first from from_first count words is led inside known =
    subst (λ o. (after_run v q here loaded o).numbers.buffers ≡ after) (sym led.there)
    (subst (λ t. (cond t (opened_all (written_ranges (pieces v.plan loaded copy)) v.numbers) (numbers_written v q here loaded copy)).buffers ≡ after) (sym inside)
    (ap (λ ns. changed_at (put_numbers to_first ns) to v.numbers.buffers) read ∙ stored_known v to_first to (range_of from_first count (get_or words from [])) words known)) where
      here : Place
      here = record { number = n; index = k }

      copy : VkCommand
      copy = Copy to to_first from from_first count

      after : List (List (Option ℕ))
      after = map known_numbers (changed_at (put to_first (range_of from_first count (get_or words from []))) to words)

      source : WordRange
      source = record { resource = Buffer from; first = from_first; count = count }

      read : numbers_read v q (sort_of copy).takes copy_reads here source ≡ known_numbers (range_of from_first count (get_or words from []))
      read = reads_see v q n k loaded copy copy_reads source is led refl ∙ read_known v from from_first count words known

pub inside_passes_no_end : (plan : DevicePlan) (loaded : List ℕ) (to to_first from from_first count : ℕ) → to < length plan.buffers → to_first + count ≤ words_in plan (Buffer to) →
    from < length plan.buffers → from_first + count ≤ words_in plan (Buffer from) → passes_end plan loaded (Copy to to_first from from_first count) ≡ false
inside_passes_no_end plan loaded to to_first from from_first count has_to to_end has_from from_end = grind (arith, has_to, to_end, has_from, from_end)

pub steps_keep : (v : Machine) → KeepNumbers v
steps_keep v = record {
  submission = λ b. refl;
  pass = λ q n. refl;
  end = λ q n. refl;
  host_read = λ buffer first words. refl;
  update = λ heap slot. refl;
  barrier = λ q n k loaded from made to seen there. ap (λ o. (after_run v q (record { number = n; index = k }) loaded o).numbers) there;
}

pub host_reads_see : (v : Machine) (buffer first count : ℕ) → Each (IsShownWrite v) v.accesses → host_numbers v buffer first count ≡ take count (drop first (numbers_in v.numbers (Buffer buffer)))
host_reads_see v buffer first count shown =
    where_all (sees_word v buffer) (last_test (is_host_seen v) v.accesses shown (Buffer buffer)) first (take count (drop first (numbers_in v.numbers (Buffer buffer))))

pub host_reads_known : (v : Machine) (buffer first count : ℕ) (words : List (List ℕ)) → Each (IsShownWrite v) v.accesses → AreKnown v words →
    host_numbers v buffer first count ≡ known_numbers (range_of first count (get_or words buffer []))
host_reads_known v buffer first count words shown known = host_reads_see v buffer first count shown ∙ read_known v buffer first count words known

pub host_writes_known : (v : Machine) (buffer first : ℕ) (new : List ℕ) (words : List (List ℕ)) → host_passes_end v buffer first (length new) ≡ false → AreKnown v words →
    AreKnown (after_step v (HostWrite buffer first new)) (changed_at (put first new) buffer words)
host_writes_known v buffer first new words inside known =
    subst (λ t. (cond t (opened (host_range buffer first (length new)) v.numbers) (stored (host_range buffer first (length new)) (map (λ (w : ℕ). Some w) new) v.numbers)).buffers ≡ map known_numbers (changed_at (put first new) buffer words)) (sym inside)
    (stored_known v first buffer new words known)
