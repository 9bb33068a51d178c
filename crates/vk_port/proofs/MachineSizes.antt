-- The machine keeps a number for each word of its buffers.
use Rattle.std.proofs.Common.{ℕ, zero, suc, ◌≡◌, ◌+◌, ◌-◌, ◌∙◌, refl, sym, ap, arith, min, List, [], ◌∷◌, ◌++◌, length, map, take, drop, replicate, Option, Some, None, Bool, true, false}
use Rattle.std.specs.List.{list_all, list_any}
use Rattle.std.specs.Prelude.{nat_lt, ◌==◌, ◌&&◌, if◌then◌else◌}
use Rattle.std.proofs.lemmas.List.{length-append, length-drop}
use Rattle.std.proofs.Math.ListN.{length-take}
use Rattle.dx_base.proofs.Lists.{and_both}
use Rattle.vk_types.specs.declared.batches.Batch.{Batch}
use Rattle.vk_types.specs.declared.commands.VkCommand.{VkCommand}
use Rattle.vk_types.specs.declared.commands.VkCommand.TheVariants.{Barrier, Copy, CopyImage, CopyIn, CopyOut, Clear, Dispatch}
use Rattle.vk_types.specs.declared.plan.DevicePlan.{DevicePlan}
use Rattle.vk_sync_rules.specs.declared.places.Place.{Place}
use Rattle.vk_sync_rules.specs.declared.ranges.VkResource.{VkResource}
use Rattle.vk_sync_rules.specs.declared.ranges.VkResource.TheVariants.{Buffer, Image}
use Rattle.vk_sync_rules.specs.declared.ranges.WordRange.{WordRange}
use Rattle.vk_sync_rules.specs.Commands.{pieces, passes_end, subs_of}
use Rattle.vk_sync_rules.specs.Dispatches.{views_of, numbers_of_dispatch, after_puts, after_routine, after_dispatch, invocations_of}
use Rattle.vk_sync_rules.specs.Copies.{copied_rows}
use Rattle.vk_sync_rules.specs.Registers.{answer_of, slots_of, words_of_register}
use Rattle.vk_types.specs.declared.registers.Count.{Count}
use Rattle.vk_types.specs.declared.registers.Register.{Register}
use Rattle.dx_base.specs.declared.kinds.Class.TheVariants.{Uav}
use Rattle.routines.specs.declared.puts.Put.{Put}
use Rattle.routines.specs.declared.numbers.Numbers.{Numbers as RoutineNumbers}
use Rattle.routines.specs.Puts.{puts_of}
use Rattle.dx_base.specs.declared.kinds.Routine.{Routine}
use Rattle.vk_sync_rules.specs.NextState.{is_undefined, rows_stored, after_clear, numbers_copied, whole_sub, reads_open, numbers_read, numbers_written, numbers_after, after_run, host_written, host_passes_end, host_range}
use Rattle.vk_sync_rules.specs.AccessSets.{copy_reads}
use Rattle.vk_sync_rules.specs.Numbers.{Numbers, changed_in, put_numbers, stored, opened, opened_all}
use Rattle.vk_sync_rules.specs.Orders.{sort_of}
use Rattle.vk_sync_rules.specs.Pieces.{written_ranges}
use Rattle.vk_sync_rules.specs.VkState.{VkState as Machine, batch_in, command_in, command_at, nth_command}
use Rattle.vk_port.specs.Journal.{command_fits, pairs_fit, fits_plan}
use Rattle.vk_types.specs.declared.stages.Stages.{Stages}
use Rattle.vk_port.specs.declared.steps.Stepped.{Stepped}
use Rattle.vk_port.specs.declared.steps.Stepped.TheVariants.{Passed, Ran, Bumped, Free}
use Rattle.vk_port.specs.Machine.{after_stepped}
use Rattle.vk_port.proofs.Changing.{map_changed}
use Rattle.vk_port.proofs.DeviceStages.{all_at}

put_length : (first : ℕ) (new ns : List (Option ℕ)) → length (put_numbers first new ns) ≡ length ns
put_length first new ns =
    let rest : length (drop (first + length new) ns) ≡ length ns - (first + length new) = length-drop (first + length new) ns in
    let behind : length (new ++ drop (first + length new) ns) ≡ length new + length (drop (first + length new) ns) = length-append new (drop (first + length new) ns) in
    let front : length (take first ns) ≡ min first (length ns) = length-take first ns in
    let all : length (take first ns ++ (new ++ drop (first + length new) ns)) ≡ length (take first ns) + length (new ++ drop (first + length new) ns) = length-append (take first ns) (new ++ drop (first + length new) ns) in
    length-take (length ns) (take first ns ++ (new ++ drop (first + length new) ns)) ∙ omega (arith, rest, behind, front, all)

-- the buffers of numbers have as many words
abbrev Sized : Numbers → Numbers → Type 0
Sized a b = map length a.buffers ≡ map length b.buffers

in_sized : (x : VkResource) (f : List (Option ℕ) → List (Option ℕ)) (m : Numbers) → ((ns : List (Option ℕ)) → length (f ns) ≡ length ns) → Sized (changed_in x f m) m
in_sized (Buffer b) f m each = map_changed length f b m.buffers each
in_sized (Image i s) f m each = refl

stored_sized : (range : WordRange) (new : List (Option ℕ)) (m : Numbers) → Sized (stored range new m) m
stored_sized range new m = in_sized range.resource (put_numbers range.first new) m (put_length range.first new)

all_opened : (ranges : List WordRange) (m : Numbers) → Sized (opened_all ranges m) m
all_opened [] m = refl
all_opened (range ∷ ranges) m = all_opened ranges (opened range m) ∙ stored_sized range (replicate range.count None) m

rows_sized : (v : Machine) (q : ℕ) (stage : Stages) (here : Place) (rows : List _) (m : Numbers) → Sized (rows_stored v q stage here rows m) m
rows_sized v q stage here [] m = refl
rows_sized v q stage here (row ∷ rows) m =
    rows_sized v q stage here rows (stored row.to (numbers_read v q stage copy_reads here row.from) m) ∙ stored_sized row.to (numbers_read v q stage copy_reads here row.from) m

puts_sized : (range : WordRange) (puts : List Put) (m : Numbers) → Sized (after_puts range puts m) m
puts_sized range [] m = refl
puts_sized range (p ∷ ps) m =
    let one : WordRange = record { resource = range.resource; first = range.first + p.word; count = 1 } in
    puts_sized range ps (stored one (Some p.value ∷ []) m) ∙ stored_sized one (Some p.value ∷ []) m

clear_sized : (o : Option WordRange) (word : ℕ) (m : Numbers) → Sized (after_clear o word m) m
clear_sized None word m = refl
clear_sized (Some range) word m = stored_sized range (replicate range.count (Some word)) m

routine_sized : (routine : Routine) (n : ℕ) (o : Option WordRange) (x : RoutineNumbers) (m : Numbers) → Sized (after_routine routine n o x m) m
routine_sized routine n None x m = refl
routine_sized routine n (Some range) x m = puts_sized range (puts_of routine n range.count x) m

if_sized : (t : Bool) (a b m : Numbers) → Sized a m → Sized b m → Sized (if t then a else b) m
if_sized true a b m ha hb = ha
if_sized false a b m ha hb = hb

copied_sized : (v : Machine) (q : ℕ) (here : Place) (c : VkCommand) → Sized (numbers_copied v q here c) v.numbers
copied_sized v q here c = rows_sized v q (sort_of c).takes here (copied_rows v.plan c) v.numbers

dispatch_sized : (routine : Routine) (count : Count) (views : _) (b0 : Register) (m : Numbers) → Sized (after_dispatch routine count views b0 m) m
dispatch_sized routine count views b0 m = routine_sized routine (invocations_of m count) views.u0 (numbers_of_dispatch m routine (invocations_of m count) views b0) m

written_sized : (v : Machine) (q : ℕ) (here : Place) (loaded : List ℕ) (c : VkCommand) → Sized (numbers_written v q here loaded c) v.numbers
written_sized v q here loaded (Barrier from made to seen None) = refl
written_sized v q here loaded (Barrier from made to seen (Some change)) =
    let ranges : List WordRange = map (whole_sub v.plan change.image) (subs_of v.plan change) in
    if_sized (is_undefined change.old) (opened_all ranges v.numbers) v.numbers v.numbers (all_opened ranges v.numbers) refl
written_sized v q here loaded (Copy to to_first from from_first words) = copied_sized v q here (Copy to to_first from from_first words)
written_sized v q here loaded (CopyImage to to_sub to_layout from from_sub from_layout) = copied_sized v q here (CopyImage to to_sub to_layout from from_sub from_layout)
written_sized v q here loaded (CopyIn image sub layout buffer first pitch) = copied_sized v q here (CopyIn image sub layout buffer first pitch)
written_sized v q here loaded (CopyOut buffer first pitch image sub layout) = copied_sized v q here (CopyOut buffer first pitch image sub layout)
written_sized v q here loaded (Clear target word) =
    clear_sized (words_of_register v.plan (answer_of (slots_of (Clear target word)) loaded) Uav target) word v.numbers
written_sized v q here loaded (Dispatch routine count t0 t1 u0 b0) =
    let c : VkCommand = Dispatch routine count t0 t1 u0 b0 in
    let ranges : List WordRange = written_ranges (pieces v.plan loaded c) in
    let views = views_of v.plan (answer_of (slots_of c) loaded) t0 t1 u0 b0 in
    if_sized (list_any (reads_open v q (sort_of c).takes here) (pieces v.plan loaded c)) (opened_all ranges v.numbers) (after_dispatch routine count views b0 v.numbers) v.numbers
    (all_opened ranges v.numbers) (dispatch_sized routine count views b0 v.numbers)

after_sized : (v : Machine) (q : ℕ) (here : Place) (loaded : List ℕ) (c : VkCommand) → Sized (numbers_after v q here loaded c) v.numbers
after_sized v q here loaded c = if_sized (passes_end v.plan loaded c) (opened_all (written_ranges (pieces v.plan loaded c)) v.numbers) (numbers_written v q here loaded c) v.numbers (all_opened (written_ranges (pieces v.plan loaded c)) v.numbers) (written_sized v q here loaded c)

-- a command leaves as many words of each buffer
pub run_sized : (v : Machine) (q : ℕ) (here : Place) (loaded : List ℕ) (o : Option VkCommand) → map length (after_run v q here loaded o).numbers.buffers ≡ map length v.numbers.buffers
run_sized v q here loaded None = refl
run_sized v q here loaded (Some c) = after_sized v q here loaded c

-- so does each step of a device
pub step_sizes : (v : Machine) (s : Stepped) (loaded : List ℕ) → map length (after_stepped v s loaded).numbers.buffers ≡ map length v.numbers.buffers
step_sizes v (Passed q n) loaded = refl
step_sizes v (Ran q n k) loaded = run_sized v q (record { number = n; index = k }) loaded (command_at v q (record { number = n; index = k }))
step_sizes v (Bumped q n) loaded = refl
step_sizes v Free loaded = refl

-- and leaves the plan
pub run_plan : (v : Machine) (q : ℕ) (here : Place) (loaded : List ℕ) (o : Option VkCommand) → (after_run v q here loaded o).plan ≡ v.plan
run_plan v q here loaded None = refl
run_plan v q here loaded (Some c) = refl

-- so does a host write
pub write_sized : (v : Machine) (buffer first : ℕ) (words : List ℕ) → map length (host_written v buffer first words).buffers ≡ map length v.numbers.buffers
write_sized v buffer first words = by_test (host_passes_end v buffer first (length words))
  where
    by_test : (t : Bool) → map length (let ns : Numbers = if t then opened (host_range buffer first (length words)) v.numbers else stored (host_range buffer first (length words)) (map (λ (w : ℕ). Some w) words) v.numbers in ns.buffers) ≡ map length v.numbers.buffers
    by_test true = stored_sized (host_range buffer first (length words)) (replicate (length words) None) v.numbers
    by_test false = stored_sized (host_range buffer first (length words)) (map (λ (w : ℕ). Some w) words) v.numbers

found_all : (p : Batch → Bool) (b c : Batch) (o : Option Batch) (t : Bool) → (if t then Some c else o) ≡ Some b → p c ≡ true → (o ≡ Some b → p b ≡ true) → p b ≡ true
found_all p b c o true at here rest = let same : c ≡ b = grind arith in ap p (sym same) ∙ here
found_all p b c o false at here rest = rest at

-- a test of each batch is one of a batch that is found
pub batch_all : (p : Batch → Bool) (q n : ℕ) (bs : List Batch) (b : Batch) → list_all p bs ≡ true → batch_in q n bs ≡ Some b → p b ≡ true
batch_all p q n [] b all at = absurd (cc)
batch_all p q n (c ∷ bs) b all at =
    let both : (p c ≡ true) × (list_all p bs ≡ true) = and_both (p c) (list_all p bs) all in
    found_all p b c (batch_in q n bs) ((c.queue == q) && (c.number == n)) at both.0 (λ found. batch_all p q n bs b both.1 found)

nth_all : (p : VkCommand → Bool) (cs : List VkCommand) (k : ℕ) (c : VkCommand) → list_all p cs ≡ true → nth_command cs k ≡ Some c → p c ≡ true
nth_all p cs zero c all at = absurd (cc)
nth_all p cs (suc k) c all at = all_at p cs k c all at

in_all : (plan : DevicePlan) (o : Option Batch) (k : ℕ) (c : VkCommand) → ((b : Batch) → o ≡ Some b → fits_plan plan b ≡ true) → command_in o k ≡ Some c → command_fits plan c ≡ true
in_all plan None k c all at = absurd (cc)
in_all plan (Some b) k c all at =
    let cs : Bool = list_all (command_fits plan) b.commands in
    let a : (nat_lt b.queue plan.queues ≡ true) × ((pairs_fit plan b.waits && (pairs_fit plan b.sets && cs)) ≡ true) = and_both (nat_lt b.queue plan.queues) (pairs_fit plan b.waits && (pairs_fit plan b.sets && cs)) (all b refl) in
    let d : (pairs_fit plan b.waits ≡ true) × ((pairs_fit plan b.sets && cs) ≡ true) = and_both (pairs_fit plan b.waits) (pairs_fit plan b.sets && cs) a.1 in
    nth_all (command_fits plan) b.commands k c (and_both (pairs_fit plan b.sets) cs d.1).1 at

-- a command of a journal whose batches fit is one that devices do
pub command_does : (v : Machine) (q : ℕ) (p : Place) (c : VkCommand) → list_all (fits_plan v.plan) v.journal ≡ true → command_at v q p ≡ Some c → command_fits v.plan c ≡ true
command_does v q p c fit at = in_all v.plan (batch_in q p.number v.journal) p.index c (λ b found. batch_all (fits_plan v.plan) q p.number v.journal b fit found) at
