-- The words that a plain device stores stay the machine's numbers, where these are known.
use Rattle.std.proofs.Common.{◌≡◌, ℕ, Bool, true, false, cond, List, [], map, length, drop, sym, subst, arith, Option, Some, None}
use Rattle.std.specs.Prelude.{slice_index_or}
use Rattle.std.proofs.lemmas.Bool.{false≢true}
use Rattle.std.proofs.lemmas.List.{length-take}
use Rattle.std.proofs.lemmas.Option.{none-some}
use Rattle.dx_base.specs.Lists.{changed_at, put, range_of}
use Rattle.vk_types.specs.declared.commands.VkCommand.{VkCommand}
use Rattle.vk_types.specs.declared.commands.VkCommand.TheVariants.{Barrier, Copy, CopyImage, CopyIn, CopyOut, Clear, Dispatch}
use Rattle.vk_types.specs.declared.steps.VkStep.TheVariants.{HostWrite}
use Rattle.vk_sync_rules.specs.Commands.{pieces, passes_end}
use Rattle.vk_sync_rules.specs.NextState.{after_run, numbers_after, numbers_written, host_passes_end, host_range}
use Rattle.vk_sync_rules.specs.Numbers.{opened, opened_all, stored}
use Rattle.vk_sync_rules.specs.Pieces.{written_ranges}
use Rattle.vk_sync_rules.specs.Rules.{after_step as after_vk_step}
use Rattle.vk_sync_rules.specs.VkState.{VkState as Machine, command_at as machine_command_at}
use Rattle.vk_sync_rules.specs.declared.places.Place.{Place}
use Rattle.vk_port.specs.declared.steps.Stepped.TheVariants.{Passed, Ran, Bumped}
use Rattle.vk_port.specs.After.{after_found}
use Rattle.vk_port.specs.Agreement.{AgreeEach}
use Rattle.vk_port.specs.Journal.{command_fits}
use Rattle.vk_port.specs.Machine.{IsCounted, shown}
use Rattle.vk_port.proofs.Agreeing.{agree_copy, agree_host, agree_past}
use Rattle.vk_port.proofs.Earlier.{same_item}
use Rattle.vk_port.specs.declared.steps.Stepped.{Stepped}
use Rattle.vk_port.specs.declared.steps.Stepped.TheVariants.{Free}
use Rattle.vk_port.specs.Machine.{after_stepped}
use Rattle.vk_port.specs.Meaning.{IsEnabled}
use Rattle.vk_port.specs.Words.{words_after}
use Rattle.vk_port.proofs.Showing.{command_found, found_in_lane, command_fits_plan}

-- the words after a command that devices do
words_done : (v : Machine) (q : ℕ) (here : Place) (c : VkCommand) (words : List (List ℕ)) → command_fits v.plan c ≡ true → AgreeEach words v.numbers.buffers →
    AgreeEach (after_found (Some c) words) (numbers_after v q here [] c).buffers
words_done v q here (Barrier from made to seen None) words fits agree = agree
words_done v q here (Barrier from made to seen (Some change)) words fits agree = absurd (false≢true fits)
words_done v q here (Copy to to_first from from_first count) words fits agree = by_end (passes_end v.plan [] (Copy to to_first from from_first count)) where
  by_end : (t : Bool) → AgreeEach (changed_at (put to_first (range_of from_first count (slice_index_or words from []))) to words)
      (cond t (opened_all (written_ranges (pieces v.plan [] (Copy to to_first from from_first count))) v.numbers) (numbers_written v q here [] (Copy to to_first from from_first count))).buffers
  by_end true =
      let long = length-take count (drop from_first (slice_index_or words from [])) in
      agree_past to to_first count (range_of from_first count (slice_index_or words from [])) words v.numbers.buffers (omega (arith, long)) agree
  by_end false = agree_copy _ to to_first from from_first count words v.numbers.buffers agree
words_done v q here (CopyImage to to_sub to_layout from from_sub from_layout) words fits agree = absurd (false≢true fits)
words_done v q here (CopyIn image sub layout buffer first pitch) words fits agree = absurd (false≢true fits)
words_done v q here (CopyOut buffer first pitch image sub layout) words fits agree = absurd (false≢true fits)
words_done v q here (Clear target word) words fits agree = absurd (false≢true fits)
words_done v q here (Dispatch routine count t0 t1 u0 b0) words fits agree = absurd (false≢true fits)

-- behind a step that can be taken
words_found : (v : Machine) (q : ℕ) (p : Place) (o : Option VkCommand) (c : VkCommand) (words : List (List ℕ)) → o ≡ Some c → command_fits v.plan c ≡ true → AgreeEach words v.numbers.buffers →
    AgreeEach (after_found (Some c) words) (after_run v q p [] o).numbers.buffers
words_found v q p None c words is fits agree = absurd (none-some c is)
words_found v q p (Some d) c words is fits agree =
    subst (λ (x : VkCommand). AgreeEach (after_found (Some c) words) (numbers_after v q p [] x).buffers) (sym (same_item d c is)) (words_done v q p c words fits agree)

pub words_step : (v : Machine) → IsCounted v → (s : Stepped) → IsEnabled (shown v) s → (words : List (List ℕ)) → AgreeEach words v.numbers.buffers →
    AgreeEach (words_after (shown v) s words) (after_stepped v s []).numbers.buffers
words_step v counted (Passed q n) e words agree = agree
words_step v counted (Ran q n k) e words agree =
    subst (λ (o : Option VkCommand). AgreeEach (after_found o words) (after_run v q (record { number = n; index = k }) [] (machine_command_at v q (record { number = n; index = k }))).numbers.buffers)
    (sym (found_in_lane v counted q n k e))
    (words_found v q (record { number = n; index = k }) (machine_command_at v q (record { number = n; index = k })) e.command words (command_found v counted q n k e) (command_fits_plan v counted q n k e) agree)
words_step v counted (Bumped q n) e words agree = agree
words_step v counted Free e words agree = agree

-- behind words that the host writes
pub words_written : (v : Machine) (buffer first : ℕ) (new : List ℕ) (words : List (List ℕ)) → AgreeEach words v.numbers.buffers →
    AgreeEach (changed_at (put first new) buffer words) (after_vk_step v (HostWrite buffer first new)).numbers.buffers
words_written v buffer first new words agree = by_end (host_passes_end v buffer first (length new)) where
  by_end : (t : Bool) → AgreeEach (changed_at (put first new) buffer words)
      (cond t (opened (host_range buffer first (length new)) v.numbers) (stored (host_range buffer first (length new)) (map (λ (w : ℕ). Some w) new) v.numbers)).buffers
  by_end true = agree_past buffer first (length new) new words v.numbers.buffers (omega arith) agree
  by_end false = agree_host buffer first new words v.numbers.buffers agree
