-- The printed words of lines are plain: no spaces, and no other bytes than lines may have.
use Rattle.std.proofs.Common.{ℕ, ◌≡◌, ◌&&◌, ◌∙◌, not, Bool, true, List, [], ◌∷◌, ◌++◌, length, map, Option, Some, None, codes, decimal, arith, refl}
use Rattle.std.specs.List.{AllByRecursion, list_all}
use Rattle.std.proofs.lemmas.Bool.{and_from, and_parts}
use Rattle.std.proofs.lemmas.Bool.Decides.{nat_tests}
use Rattle.std.proofs.lemmas.List.Folds.{list_all-append}
use Rattle.dx_base.specs.declared.kinds.Class.{Class}
use Rattle.dx_base.specs.declared.kinds.Class.TheVariants as class
use Rattle.dx_base.specs.declared.kinds.Home.{Home}
use Rattle.dx_base.specs.declared.kinds.Home.TheVariants as home
use Rattle.dx_base.specs.declared.kinds.Routine.{Routine}
use Rattle.dx_base.specs.declared.kinds.Routine.TheVariants as routine
use Rattle.line_forms.specs.Lines.{hex_word}
use Rattle.line_forms.specs.Sets.{set_text}
use Rattle.line_forms.proofs.PlainWords.{digits_plain, hex_plain, is_plain_word, is_word_byte}
use Rattle.line_forms.proofs.SetsBack.{below, each_below}
use Rattle.line_forms.proofs.WordsBack.{all_hex}
use Rattle.vk_types.specs.declared.batches.Batch.{Batch}
use Rattle.vk_types.specs.declared.commands.VkCommand.{VkCommand}
use Rattle.vk_types.specs.declared.commands.VkCommand.TheVariants as command
use Rattle.vk_types.specs.declared.layouts.Change.{Change}
use Rattle.vk_types.specs.declared.layouts.VkLayout.{VkLayout}
use Rattle.vk_types.specs.declared.layouts.VkLayout.TheVariants as layout
use Rattle.vk_types.specs.declared.plan.DevicePlan.{DevicePlan}
use Rattle.vk_types.specs.declared.plan.PlanBuffer.{PlanBuffer}
use Rattle.vk_types.specs.declared.plan.PlanImage.{PlanImage}
use Rattle.vk_types.specs.declared.plan.PlanView.{PlanView}
use Rattle.vk_types.specs.declared.plan.PlanView.TheVariants as view
use Rattle.vk_types.specs.declared.registers.Count.{Count}
use Rattle.vk_types.specs.declared.registers.Count.TheVariants as count
use Rattle.vk_types.specs.declared.registers.Register.{Register}
use Rattle.vk_types.specs.declared.registers.Register.TheVariants as register
use Rattle.vk_types.specs.declared.steps.VkStep.{VkStep}
use Rattle.vk_types.specs.declared.steps.VkStep.TheVariants as step
use Rattle.journal_text.specs.Names.{is_large_image, is_large_view}
use Rattle.journal_text.specs.Printing.{batch_words, buffer_words, change_words, command_words, heap_words, image_words, queues_words, step_words, view_words}
use Rattle.journal_words.specs.PrintedWords.{count_word, pair_word, register_word, sub_word}
use Rattle.journal_words.specs.SoundWords.{is_access_set, is_narrow, is_sound_count, is_sound_pair, is_sound_register, is_sound_sub, is_stage_set, is_wide}
use Rattle.journal_text.specs.Sound.{is_sound_batch, is_sound_buffer, is_sound_change, is_sound_command, is_sound_image, is_sound_step, is_sound_view}
use Rattle.journal_words.specs.Tables.{access_rows, class_word, home_word, layout_word, routine_word, stage_rows}
use Rattle.journal_words.specs.Words.{set_word}
use Rattle.journal_words.proofs.WordsBack.{decimal_digits, narrow_is}

-- all words are plain
abbrev pub AllPlain : List (List ℕ) → Type 0
AllPlain ws = AllByRecursion (λ w. is_plain_word w ≡ true) ws

-- numbers
wide_plain : (n : ℕ) → is_wide n ≡ true → is_plain_word (decimal n) ≡ true
wide_plain n h = digits_plain (decimal n) (decimal_digits n (grind (arith, nat_tests)))

number : (n : ℕ) → is_narrow n ≡ true → is_plain_word (decimal n) ≡ true
number n h = digits_plain (decimal n) (decimal_digits n (omega (arith, narrow_is n h)))

data_plain : (n : ℕ) → is_plain_word (hex_word n) ≡ true
unfolding hex_word
data_plain n = hex_plain (hex_word n) (all_hex 8 n)

-- two words, one behind the other
joined : (a b : List ℕ) → is_plain_word a ≡ true → is_plain_word b ≡ true → is_plain_word (a ++ b) ≡ true
joined a b one other = list_all-append is_word_byte a b ∙ and_from (is_plain_word a) (is_plain_word b) one other

pair : (m n : ℕ) → is_plain_word (decimal m) ≡ true → is_plain_word (decimal n) ≡ true → is_plain_word (pair_word (m, n)) ≡ true
pair m n one other = joined (decimal m) (58 ∷ decimal n) one (joined (58 ∷ []) (decimal n) refl other)

-- words of tables
layout_plain : (l : VkLayout) → is_plain_word (layout_word l) ≡ true
layout_plain layout.Undefined = refl
layout_plain layout.General = refl
layout_plain layout.ShaderReadOnlyOptimal = refl
layout_plain layout.TransferSrcOptimal = refl
layout_plain layout.TransferDstOptimal = refl

home_plain : (h : Home) → is_plain_word (home_word h) ≡ true
home_plain home.Upload = refl
home_plain home.Readback = refl
home_plain home.Legacy = refl
home_plain home.Enhanced = refl

class_plain : (c : Class) → is_plain_word (class_word c) ≡ true
class_plain class.Cbv = refl
class_plain class.Srv = refl
class_plain class.Uav = refl

routine_plain : (r : Routine) → is_plain_word (routine_word r) ≡ true
routine_plain routine.Fill = refl
routine_plain routine.Move = refl
routine_plain routine.Add = refl
routine_plain routine.Mul = refl
routine_plain routine.Gather = refl
routine_plain routine.Scatter = refl
routine_plain routine.Sums = refl
routine_plain routine.Histogram = refl

-- sets: each is tried
unfoldable is_plain_set : List (List ℕ × ℕ) → ℕ → Bool
is_plain_set rows s = is_plain_word (set_word rows s)

all_stages_plain : list_all (is_plain_set stage_rows) (below 16) ≡ true
unfolding below is_plain_set set_word set_text
all_stages_plain = refl

all_accesses_plain : list_all (is_plain_set access_rows) (below 512) ≡ true
unfolding below is_plain_set set_word set_text
all_accesses_plain = refl

stages : (s : ℕ) → is_stage_set s ≡ true → is_plain_word (set_word stage_rows s) ≡ true
unfolding is_plain_set
stages s h = each_below (is_plain_set stage_rows) 16 s all_stages_plain (grind (arith, nat_tests))

accesses : (s : ℕ) → is_access_set s ≡ true → is_plain_word (set_word access_rows s) ≡ true
unfolding is_plain_set
accesses s h = each_below (is_plain_set access_rows) 512 s all_accesses_plain (grind (arith, nat_tests))

-- registers, counts and subresources
register_plain : (r : Register) → is_sound_register r ≡ true → is_plain_word (register_word r) ≡ true
register_plain register.Unbound h = refl
register_plain (register.Constant word) h = joined (codes "c:") (hex_word word) refl (data_plain word)
register_plain (register.Root buffer first) h =
    let both = and_parts (is_narrow buffer) (is_narrow first) h in
    joined (codes "b:") (pair_word (buffer, first)) refl (pair buffer first (number buffer both.0) (number first both.1))
register_plain (register.Fixed view) h = joined (codes "v:") (decimal view) refl (number view h)
register_plain (register.Slot heap slot) h =
    let both = and_parts (is_narrow heap) (is_narrow slot) h in
    joined (codes "s:") (pair_word (heap, slot)) refl (pair heap slot (number heap both.0) (number slot both.1))

count_plain : (c : Count) → is_sound_count c ≡ true → is_plain_word (count_word c) ≡ true
count_plain (count.Number n) h = number n h
count_plain (count.Word buffer word most) h =
    let both = and_parts (is_narrow buffer) (is_narrow word && is_narrow most) h in
    let more = and_parts (is_narrow word) (is_narrow most) both.1 in
    joined (codes "b:") (decimal buffer ++ 58 ∷ pair_word (word, most)) refl
    (joined (decimal buffer) (58 ∷ pair_word (word, most)) (number buffer both.0)
    (joined (58 ∷ []) (pair_word (word, most)) refl (pair word most (number word more.0) (number most more.1))))

sub_plain : (sub : Option ℕ) → is_sound_sub sub ≡ true → is_plain_word (sub_word sub) ≡ true
sub_plain None h = refl
sub_plain (Some sub) h = number sub h

-- several words
each_plain : {A : Type 0} (print : A → List ℕ) (sound : A → Bool) → ((x : A) → sound x ≡ true → is_plain_word (print x) ≡ true) →
    (xs : List A) → list_all sound xs ≡ true → AllPlain (map print xs)
each_plain print sound plain [] h = tt
each_plain print sound plain (x ∷ xs) h =
    let both = and_parts (sound x) (list_all sound xs) h in (plain x both.0, each_plain print sound plain xs both.1)

both_plain : (ws us : List (List ℕ)) → AllPlain ws → AllPlain us → AllPlain (ws ++ us)
both_plain [] us one other = other
both_plain (w ∷ ws) us one other = (one.0, both_plain ws us one.1 other)

pair_plain : (p : ℕ × ℕ) → is_sound_pair p ≡ true → is_plain_word (pair_word p) ≡ true
pair_plain p h = let both = and_parts (is_narrow p.0) (is_wide p.1) h in pair p.0 p.1 (number p.0 both.0) (wide_plain p.1 both.1)

change_plain : (change : Option Change) → is_sound_change change ≡ true → AllPlain (change_words change)
change_plain None h = tt
change_plain (Some c) h =
    let both = and_parts (is_narrow c.image) (is_sound_sub c.sub) h in
    (number c.image both.0, (sub_plain c.sub both.1, (layout_plain c.old, (layout_plain c.new, tt))))

-- the words of each line
pub command_plain : (c : VkCommand) → is_sound_command c ≡ true → AllPlain (command_words c)
command_plain (command.Barrier from made to seen change) h =
    let p0 = and_parts (is_stage_set from.0) (is_access_set made.0 && (is_stage_set to.0 && (is_access_set seen.0 && is_sound_change change))) h in
    let p1 = and_parts (is_access_set made.0) (is_stage_set to.0 && (is_access_set seen.0 && is_sound_change change)) p0.1 in
    let p2 = and_parts (is_stage_set to.0) (is_access_set seen.0 && is_sound_change change) p1.1 in
    let p3 = and_parts (is_access_set seen.0) (is_sound_change change) p2.1 in
    (refl, (stages from.0 p0.0, (accesses made.0 p1.0, (stages to.0 p2.0, (accesses seen.0 p3.0, change_plain change p3.1)))))
command_plain (command.Copy to to_first from from_first words) h =
    let p0 = and_parts (is_narrow to) (is_narrow to_first && (is_narrow from && (is_narrow from_first && is_narrow words))) h in
    let p1 = and_parts (is_narrow to_first) (is_narrow from && (is_narrow from_first && is_narrow words)) p0.1 in
    let p2 = and_parts (is_narrow from) (is_narrow from_first && is_narrow words) p1.1 in
    let p3 = and_parts (is_narrow from_first) (is_narrow words) p2.1 in
    (refl, (number to p0.0, (number to_first p1.0, (number from p2.0, (number from_first p3.0, (number words p3.1, tt))))))
command_plain (command.CopyImage to to_sub to_layout from from_sub from_layout) h =
    let p0 = and_parts (is_narrow to) (is_narrow to_sub && (is_narrow from && is_narrow from_sub)) h in
    let p1 = and_parts (is_narrow to_sub) (is_narrow from && is_narrow from_sub) p0.1 in
    let p2 = and_parts (is_narrow from) (is_narrow from_sub) p1.1 in
    (refl, (number to p0.0, (number to_sub p1.0, (layout_plain to_layout, (number from p2.0, (number from_sub p2.1, (layout_plain from_layout, tt)))))))
command_plain (command.CopyIn image sub layout buffer first pitch) h =
    let p0 = and_parts (is_narrow image) (is_narrow sub && (is_narrow buffer && (is_narrow first && is_narrow pitch))) h in
    let p1 = and_parts (is_narrow sub) (is_narrow buffer && (is_narrow first && is_narrow pitch)) p0.1 in
    let p2 = and_parts (is_narrow buffer) (is_narrow first && is_narrow pitch) p1.1 in
    let p3 = and_parts (is_narrow first) (is_narrow pitch) p2.1 in
    (refl, (number image p0.0, (number sub p1.0, (layout_plain layout, (number buffer p2.0, (number first p3.0, (number pitch p3.1, tt)))))))
command_plain (command.CopyOut buffer first pitch image sub layout) h =
    let p0 = and_parts (is_narrow buffer) (is_narrow first && (is_narrow pitch && (is_narrow image && is_narrow sub))) h in
    let p1 = and_parts (is_narrow first) (is_narrow pitch && (is_narrow image && is_narrow sub)) p0.1 in
    let p2 = and_parts (is_narrow pitch) (is_narrow image && is_narrow sub) p1.1 in
    let p3 = and_parts (is_narrow image) (is_narrow sub) p2.1 in
    (refl, (number buffer p0.0, (number first p1.0, (number pitch p2.0, (number image p3.0, (number sub p3.1, (layout_plain layout, tt)))))))
command_plain (command.Clear target word) h =
    let p0 = and_parts (is_sound_register target) (is_narrow word) h in
    (refl, (register_plain target p0.0, (data_plain word, tt)))
command_plain (command.Dispatch routine count t0 t1 u0 b0) h =
    let p0 = and_parts (is_sound_count count) (is_sound_register t0 && (is_sound_register t1 && (is_sound_register u0 && is_sound_register b0))) h in
    let p1 = and_parts (is_sound_register t0) (is_sound_register t1 && (is_sound_register u0 && is_sound_register b0)) p0.1 in
    let p2 = and_parts (is_sound_register t1) (is_sound_register u0 && is_sound_register b0) p1.1 in
    let p3 = and_parts (is_sound_register u0) (is_sound_register b0) p2.1 in
    (refl, (routine_plain routine, (count_plain count p0.0, (register_plain t0 p1.0, (register_plain t1 p2.0, (register_plain u0 p3.0, (register_plain b0 p3.1, tt)))))))

pub batch_plain : (b : Batch) → is_sound_batch b ≡ true → AllPlain (batch_words b)
batch_plain b h =
    let p0 = and_parts (is_narrow b.queue) (is_wide b.number && (is_narrow (length b.commands) && (list_all is_sound_pair b.waits && (list_all is_sound_pair b.sets && list_all is_sound_command b.commands)))) h in
    let p1 = and_parts (is_wide b.number) (is_narrow (length b.commands) && (list_all is_sound_pair b.waits && (list_all is_sound_pair b.sets && list_all is_sound_command b.commands))) p0.1 in
    let p2 = and_parts (is_narrow (length b.commands)) (list_all is_sound_pair b.waits && (list_all is_sound_pair b.sets && list_all is_sound_command b.commands)) p1.1 in
    let p3 = and_parts (list_all is_sound_pair b.waits) (list_all is_sound_pair b.sets && list_all is_sound_command b.commands) p2.1 in
    let p4 = and_parts (list_all is_sound_pair b.sets) (list_all is_sound_command b.commands) p3.1 in
    (refl, (number b.queue p0.0, (wide_plain b.number p1.0, (number (length b.commands) p2.0, (refl, both_plain (map pair_word b.waits) (codes "sets" ∷ map pair_word b.sets) (each_plain pair_word is_sound_pair pair_plain b.waits p3.0) (refl, each_plain pair_word is_sound_pair pair_plain b.sets p4.0))))))

pub step_plain : (s : VkStep) → is_sound_step s ≡ true → AllPlain (step_words s)
step_plain (step.Submit b) h = batch_plain b h
step_plain (step.Pass q n) h =
    let p0 = and_parts (is_narrow q) (is_wide n) h in
    (refl, (number q p0.0, (wide_plain n p0.1, tt)))
step_plain (step.Command q n k loaded) h =
    let p0 = and_parts (is_narrow q) (is_wide n && (is_narrow k && list_all is_narrow loaded)) h in
    let p1 = and_parts (is_wide n) (is_narrow k && list_all is_narrow loaded) p0.1 in
    let p2 = and_parts (is_narrow k) (list_all is_narrow loaded) p1.1 in
    (refl, (number q p0.0, (wide_plain n p1.0, (number k p2.0, each_plain decimal is_narrow number loaded p2.1))))
step_plain (step.Bump q n) h =
    let p0 = and_parts (is_narrow q) (is_wide n) h in
    (refl, (number q p0.0, (wide_plain n p0.1, tt)))
step_plain (step.HostWrite buffer first words) h =
    let p0 = and_parts (is_narrow buffer) (is_narrow first && list_all is_narrow words) h in
    let p1 = and_parts (is_narrow first) (list_all is_narrow words) p0.1 in
    (refl, (number buffer p0.0, (number first p1.0, each_plain hex_word is_narrow (λ w is. data_plain w) words p1.1)))
step_plain (step.HostRead buffer first words) h =
    let p0 = and_parts (is_narrow buffer) (is_narrow first && list_all is_narrow words) h in
    let p1 = and_parts (is_narrow first) (list_all is_narrow words) p0.1 in
    (refl, (number buffer p0.0, (number first p1.0, each_plain hex_word is_narrow (λ w is. data_plain w) words p1.1)))
step_plain (step.Update heap slot) h =
    let p0 = and_parts (is_narrow heap) (is_narrow slot) h in
    (refl, (number heap p0.0, (number slot p0.1, tt)))

pub buffer_plain : (b : PlanBuffer) → is_sound_buffer b ≡ true → AllPlain (buffer_words b)
buffer_plain b h =
    (refl, (number b.words h, (home_plain b.home, tt)))

pub image_plain : (i : PlanImage) → is_sound_image i ≡ true → AllPlain (image_words i)
image_plain i h =
    let p0 = and_parts (is_narrow i.width) (is_narrow i.height && (is_narrow i.mips && (is_narrow i.layers && not (is_large_image i)))) h in
    let p1 = and_parts (is_narrow i.height) (is_narrow i.mips && (is_narrow i.layers && not (is_large_image i))) p0.1 in
    let p2 = and_parts (is_narrow i.mips) (is_narrow i.layers && not (is_large_image i)) p1.1 in
    let p3 = and_parts (is_narrow i.layers) (not (is_large_image i)) p2.1 in
    (refl, (number i.width p0.0, (number i.height p1.0, (number i.mips p2.0, (number i.layers p3.0, tt)))))

pub heap_plain : (slots : ℕ) → is_narrow slots ≡ true → AllPlain (heap_words slots)
heap_plain slots h =
    (refl, (number slots h, tt))

pub view_plain : (v : PlanView) → is_sound_view v ≡ true → AllPlain (view_words v)
view_plain (view.Buffer c buffer first words) h =
    let p0 = and_parts (is_narrow buffer) (is_narrow first && (is_narrow words && not (is_large_view (view.Buffer c buffer first words)))) h in
    let p1 = and_parts (is_narrow first) (is_narrow words && not (is_large_view (view.Buffer c buffer first words))) p0.1 in
    let p2 = and_parts (is_narrow words) (not (is_large_view (view.Buffer c buffer first words))) p1.1 in
    (refl, (class_plain c, (refl, (number buffer p0.0, (number first p1.0, (number words p2.0, tt))))))
view_plain (view.Image c image sub) h =
    let p0 = and_parts (is_narrow image) (is_narrow sub) h in
    (refl, (class_plain c, (refl, (number image p0.0, (number sub p0.1, tt)))))

pub queues_plain : (plan : DevicePlan) → (is_narrow plan.queues && is_narrow plan.timelines) ≡ true → AllPlain (queues_words plan)
queues_plain plan h =
    let p0 = and_parts (is_narrow plan.queues) (is_narrow plan.timelines) h in
    (refl, (number plan.queues p0.0, (refl, (number plan.timelines p0.1, tt))))
