-- The printed words of a line are read as what they were printed from.
use Rattle.std.proofs.Common.{ℕ, ◌≡◌, ◌<◌, ◌^◌, ◌&&◌, not, Bool, true, false, List, [], ◌∷◌, ◌++◌, length, take, drop, map, Option, Some, None, Result, Ok, codes, decimal, arith, refl, rules, sym, ap, subst}
use Rattle.std.specs.List.{list_all}
use Rattle.std.specs.Str.{bytes_eq}
use Rattle.std.proofs.Math.Seq.{take-append_seam, drop-append_seam}
use Rattle.std.proofs.lemmas.Bool.{and_parts}
use Rattle.std.proofs.lemmas.Bool.Decides.{nat_tests}
use Rattle.std.proofs.lemmas.List.{length-map}
use Rattle.std.proofs.lemmas.Slice.Eq.{bytes_eq-Decides}
use Rattle.line_forms.specs.declared.cause.Cause.{Cause}
use Rattle.line_forms.specs.Causes.{two_of}
use Rattle.line_forms.specs.Lines.{hex_word}
use Rattle.line_forms.specs.Reading.{each_of, number_of, or_form, word_of}
use Rattle.line_forms.proofs.WordsBack.{number_back, word_back}
use Rattle.trace_words.specs.Rows.{row_of}
use Rattle.vk_types.specs.declared.batches.Batch.{Batch}
use Rattle.vk_types.specs.declared.commands.VkCommand.TheVariants as command
use Rattle.vk_types.specs.declared.layouts.Change.{Change}
use Rattle.vk_types.specs.declared.accesses.Accesses.{Accesses}
use Rattle.vk_types.specs.declared.stages.Stages.{Stages}
use Rattle.vk_types.specs.declared.layouts.VkLayout.{VkLayout}
use Rattle.vk_types.specs.declared.layouts.VkLayout.TheVariants as layout
use Rattle.vk_types.specs.declared.plan.DevicePlan.{DevicePlan}
use Rattle.vk_types.specs.declared.plan.PlanBuffer.{PlanBuffer}
use Rattle.vk_types.specs.declared.plan.PlanImage.{PlanImage}
use Rattle.vk_types.specs.declared.plan.PlanView.TheVariants as view
use Rattle.vk_types.specs.declared.registers.Count.{Count}
use Rattle.vk_types.specs.declared.registers.Count.TheVariants as count
use Rattle.vk_types.specs.declared.registers.Register.{Register}
use Rattle.vk_types.specs.declared.registers.Register.TheVariants as register
use Rattle.vk_types.specs.declared.steps.VkStep.TheVariants as step
use Rattle.dx_base.specs.declared.kinds.Class.{Class}
use Rattle.dx_base.specs.declared.kinds.Class.TheVariants as class_of_view
use Rattle.dx_base.specs.declared.kinds.Home.{Home}
use Rattle.dx_base.specs.declared.kinds.Home.TheVariants as home
use Rattle.dx_base.specs.declared.kinds.Routine.{Routine}
use Rattle.dx_base.specs.declared.kinds.Routine.TheVariants as routine
use Rattle.journal_words.specs.declared.form.Form.{Form}
use Rattle.journal_words.specs.declared.form.Form.TheVariants as form
use Rattle.journal_words.specs.declared.form.LineClass.{LineClass}
use Rattle.journal_words.specs.declared.form.LineClass.TheVariants as class
use Rattle.journal_text.specs.declared.item.Item.{Item}
use Rattle.journal_text.specs.declared.item.Item.TheVariants as item
use Rattle.journal_words.specs.Fields.{count_of, pair_of, register_of}
use Rattle.journal_words.specs.Forms.{class_of, form_of}
use Rattle.journal_text.specs.Items.{item_of}
use Rattle.journal_words.specs.LineWords.{Left, all_or_number_of, finished, literal_next, next, pairs_before, place_of_word}
use Rattle.journal_text.specs.Names.{is_large_image, is_large_view}
use Rattle.journal_text.specs.Printing.{batch_words, buffer_words, change_words, command_words, heap_words, image_words, queues_words, step_words, view_words}
use Rattle.journal_words.specs.PrintedWords.{count_word, pair_word, register_word, sub_word}
use Rattle.journal_words.specs.SoundWords.{is_access_set, is_narrow, is_sound_count, is_sound_pair, is_sound_register, is_sound_sub, is_stage_set, is_wide}
use Rattle.journal_text.specs.Sound.{is_sound_batch, is_sound_buffer, is_sound_change, is_sound_command, is_sound_image, is_sound_step, is_sound_view}
use Rattle.journal_words.specs.Tables.{access_rows, class_word, classes, home_word, homes, layout_word, layouts, routine_rows, routine_word, stage_rows, viewed}
use Rattle.journal_words.specs.Words.{cut_at, literal_of, narrow_of, set_of, set_word}
use Rattle.journal_words.proofs.SetsBack.{accesses_back, stages_back}
use Rattle.journal_words.proofs.WordsBack.{class_back, count_back, cut_number, home_back, layout_back, narrow_back, narrow_is, pair_back, register_back, routine_back, sub_back}

-- words that are left, with no cause against the line
abbrev left : List (List ℕ) → Left
left ws = record { words = ws; cause = None }

-- a word that is read
next_is : {A : Type 0} (read : List ℕ → Result A Cause) (otherwise x : A) (w : List ℕ) (ws : List (List ℕ)) → read w ≡ Ok x →
    next read otherwise (left (w ∷ ws)) ≡ (x, left ws)
unfolding next
next_is read otherwise x w ws e = rw e refl

-- words of each kind
number : (n : ℕ) (ws : List (List ℕ)) → is_narrow n ≡ true → next narrow_of 0 (left (decimal n ∷ ws)) ≡ (n, left ws)
number n ws h = next_is narrow_of 0 n (decimal n) ws (narrow_back n (narrow_is n h))

wide_is : (n : ℕ) → is_wide n ≡ true → n < 2 ^ 64
wide_is n h = grind (arith, nat_tests)

wide : (n : ℕ) (ws : List (List ℕ)) → is_wide n ≡ true → next number_of 0 (left (decimal n ∷ ws)) ≡ (n, left ws)
wide n ws h = next_is number_of 0 n (decimal n) ws (number_back n (wide_is n h))

data_word : (n : ℕ) (ws : List (List ℕ)) → is_narrow n ≡ true → next word_of 0 (left (hex_word n ∷ ws)) ≡ (n, left ws)
data_word n ws h = next_is word_of 0 n (hex_word n) ws (word_back n (narrow_is n h))

-- what words of a line are read as
pub record Reads (ws : List (List ℕ)) (c : LineClass) (i : Item) : Type 0 where
  pub form : Form
  pub found : form_of ws ≡ Some form
  pub class : class_of form ≡ c
  pub says : item_of form (drop 1 ws) ≡ Ok i

-- words of tables
layout_word_is : (l : VkLayout) (ws : List (List ℕ)) → next (λ w. or_form (row_of layouts w)) layout.Undefined (left (layout_word l ∷ ws)) ≡ (l, left ws)
layout_word_is l ws = next_is (λ w. or_form (row_of layouts w)) layout.Undefined l (layout_word l) ws (layout_back l)

home_is : (h : Home) (ws : List (List ℕ)) → next (λ w. or_form (row_of homes w)) home.Upload (left (home_word h ∷ ws)) ≡ (h, left ws)
home_is h ws = next_is (λ w. or_form (row_of homes w)) home.Upload h (home_word h) ws (home_back h)

class_is : (c : Class) (ws : List (List ℕ)) → next (λ w. or_form (row_of classes w)) class_of_view.Cbv (left (class_word c ∷ ws)) ≡ (c, left ws)
class_is c ws = next_is (λ w. or_form (row_of classes w)) class_of_view.Cbv c (class_word c) ws (class_back c)

routine_is : (r : Routine) (ws : List (List ℕ)) → next (λ w. or_form (row_of routine_rows w)) routine.Fill (left (routine_word r ∷ ws)) ≡ (r, left ws)
routine_is r ws = next_is (λ w. or_form (row_of routine_rows w)) routine.Fill r (routine_word r) ws (routine_back r)

viewed_buffer : (ws : List (List ℕ)) → next (λ w. or_form (row_of viewed w)) false (left (codes "buffer" ∷ ws)) ≡ (false, left ws)
unfolding row_of
viewed_buffer ws = next_is (λ w. or_form (row_of viewed w)) false false (codes "buffer") ws refl

viewed_image : (ws : List (List ℕ)) → next (λ w. or_form (row_of viewed w)) false (left (codes "image" ∷ ws)) ≡ (true, left ws)
unfolding row_of
viewed_image ws = next_is (λ w. or_form (row_of viewed w)) false true (codes "image") ws refl

-- registers, counts, sets, a subresource, and a word that stands as it is
register_is : (r : Register) (ws : List (List ℕ)) → is_sound_register r ≡ true →
    next register_of register.Unbound (left (register_word r ∷ ws)) ≡ (r, left ws)
register_is r ws h = next_is register_of register.Unbound r (register_word r) ws (register_back r h)

count_is : (c : Count) (ws : List (List ℕ)) → is_sound_count c ≡ true → next count_of (count.Number 0) (left (count_word c ∷ ws)) ≡ (c, left ws)
count_is c ws h = next_is count_of (count.Number 0) c (count_word c) ws (count_back c h)

stages_is : (s : ℕ) (ws : List (List ℕ)) → is_stage_set s ≡ true → next (set_of stage_rows) 0 (left (set_word stage_rows s ∷ ws)) ≡ (s, left ws)
stages_is s ws h = next_is (set_of stage_rows) 0 s (set_word stage_rows s) ws (stages_back s h)

accesses_is : (s : ℕ) (ws : List (List ℕ)) → is_access_set s ≡ true → next (set_of access_rows) 0 (left (set_word access_rows s ∷ ws)) ≡ (s, left ws)
accesses_is s ws h = next_is (set_of access_rows) 0 s (set_word access_rows s) ws (accesses_back s h)

sub_is : (sub : Option ℕ) (ws : List (List ℕ)) → is_sound_sub sub ≡ true → next all_or_number_of None (left (sub_word sub ∷ ws)) ≡ (sub, left ws)
sub_is sub ws h = next_is all_or_number_of None sub (sub_word sub) ws (sub_back sub h)

literal_is : (text : List ℕ) (ws : List (List ℕ)) → literal_next text (left (text ∷ ws)) ≡ left ws
unfolding literal_of
literal_is text ws = ap (λ p. p.1) (next_is (literal_of text) false true text ws (let same : bytes_eq text text ≡ true = search rules in rw same refl))

-- several words
each_back : {A : Type 0} (read : List ℕ → Result A Cause) (print : A → List ℕ) (sound : A → Bool) → ((x : A) → sound x ≡ true → read (print x) ≡ Ok x) →
    (xs : List A) → list_all sound xs ≡ true → each_of read (map print xs) ≡ Ok xs
unfolding each_of two_of
each_back read print sound back [] h = refl
each_back read print sound back (x ∷ xs) h =
    let both = and_parts (sound x) (list_all sound xs) h in rw (back x both.0, each_back read print sound back xs both.1) refl

-- a copy between buffers
pub copy_reads : (to to_first from from_first words : ℕ) → is_sound_command (command.Copy to to_first from from_first words) ≡ true →
    Reads (command_words (command.Copy to to_first from from_first words)) class.Command (item.Command (command.Copy to to_first from from_first words))
unfolding form_of row_of item_of finished
copy_reads to to_first from from_first words h =
    let p0 = and_parts (is_narrow to) (is_narrow to_first && (is_narrow from && (is_narrow from_first && is_narrow words))) h in
    let p1 = and_parts (is_narrow to_first) (is_narrow from && (is_narrow from_first && is_narrow words)) p0.1 in
    let p2 = and_parts (is_narrow from) (is_narrow from_first && is_narrow words) p1.1 in
    let p3 = and_parts (is_narrow from_first) (is_narrow words) p2.1 in
    record {
      form = form.Copy;
      found = refl;
      class = refl;
      says = rw (
        number to (decimal to_first ∷ decimal from ∷ decimal from_first ∷ decimal words ∷ []) p0.0,
        number to_first (decimal from ∷ decimal from_first ∷ decimal words ∷ []) p1.0,
        number from (decimal from_first ∷ decimal words ∷ []) p2.0,
        number from_first (decimal words ∷ []) p3.0,
        number words [] p3.1,
      ) refl;
    }

-- a copy between images
pub copy_image_reads : (to to_sub : ℕ) (to_layout : VkLayout) (from from_sub : ℕ) (from_layout : VkLayout) → is_sound_command (command.CopyImage to to_sub to_layout from from_sub from_layout) ≡ true →
    Reads (command_words (command.CopyImage to to_sub to_layout from from_sub from_layout)) class.Command (item.Command (command.CopyImage to to_sub to_layout from from_sub from_layout))
unfolding form_of row_of item_of finished
copy_image_reads to to_sub to_layout from from_sub from_layout h =
    let p0 = and_parts (is_narrow to) (is_narrow to_sub && (is_narrow from && is_narrow from_sub)) h in
    let p1 = and_parts (is_narrow to_sub) (is_narrow from && is_narrow from_sub) p0.1 in
    let p2 = and_parts (is_narrow from) (is_narrow from_sub) p1.1 in
    record {
      form = form.CopyImage;
      found = refl;
      class = refl;
      says = rw (
        number to (decimal to_sub ∷ layout_word to_layout ∷ decimal from ∷ decimal from_sub ∷ layout_word from_layout ∷ []) p0.0,
        number to_sub (layout_word to_layout ∷ decimal from ∷ decimal from_sub ∷ layout_word from_layout ∷ []) p1.0,
        layout_word_is to_layout (decimal from ∷ decimal from_sub ∷ layout_word from_layout ∷ []),
        number from (decimal from_sub ∷ layout_word from_layout ∷ []) p2.0,
        number from_sub (layout_word from_layout ∷ []) p2.1,
        layout_word_is from_layout [],
      ) refl;
    }

-- a copy into an image
pub copy_in_reads : (image sub : ℕ) (layout : VkLayout) (buffer first pitch : ℕ) → is_sound_command (command.CopyIn image sub layout buffer first pitch) ≡ true →
    Reads (command_words (command.CopyIn image sub layout buffer first pitch)) class.Command (item.Command (command.CopyIn image sub layout buffer first pitch))
unfolding form_of row_of item_of finished
copy_in_reads image sub layout buffer first pitch h =
    let p0 = and_parts (is_narrow image) (is_narrow sub && (is_narrow buffer && (is_narrow first && is_narrow pitch))) h in
    let p1 = and_parts (is_narrow sub) (is_narrow buffer && (is_narrow first && is_narrow pitch)) p0.1 in
    let p2 = and_parts (is_narrow buffer) (is_narrow first && is_narrow pitch) p1.1 in
    let p3 = and_parts (is_narrow first) (is_narrow pitch) p2.1 in
    record {
      form = form.CopyIn;
      found = refl;
      class = refl;
      says = rw (
        number image (decimal sub ∷ layout_word layout ∷ decimal buffer ∷ decimal first ∷ decimal pitch ∷ []) p0.0,
        number sub (layout_word layout ∷ decimal buffer ∷ decimal first ∷ decimal pitch ∷ []) p1.0,
        layout_word_is layout (decimal buffer ∷ decimal first ∷ decimal pitch ∷ []),
        number buffer (decimal first ∷ decimal pitch ∷ []) p2.0,
        number first (decimal pitch ∷ []) p3.0,
        number pitch [] p3.1,
      ) refl;
    }

-- a copy out of an image
pub copy_out_reads : (buffer first pitch image sub : ℕ) (layout : VkLayout) → is_sound_command (command.CopyOut buffer first pitch image sub layout) ≡ true →
    Reads (command_words (command.CopyOut buffer first pitch image sub layout)) class.Command (item.Command (command.CopyOut buffer first pitch image sub layout))
unfolding form_of row_of item_of finished
copy_out_reads buffer first pitch image sub layout h =
    let p0 = and_parts (is_narrow buffer) (is_narrow first && (is_narrow pitch && (is_narrow image && is_narrow sub))) h in
    let p1 = and_parts (is_narrow first) (is_narrow pitch && (is_narrow image && is_narrow sub)) p0.1 in
    let p2 = and_parts (is_narrow pitch) (is_narrow image && is_narrow sub) p1.1 in
    let p3 = and_parts (is_narrow image) (is_narrow sub) p2.1 in
    record {
      form = form.CopyOut;
      found = refl;
      class = refl;
      says = rw (
        number buffer (decimal first ∷ decimal pitch ∷ decimal image ∷ decimal sub ∷ layout_word layout ∷ []) p0.0,
        number first (decimal pitch ∷ decimal image ∷ decimal sub ∷ layout_word layout ∷ []) p1.0,
        number pitch (decimal image ∷ decimal sub ∷ layout_word layout ∷ []) p2.0,
        number image (decimal sub ∷ layout_word layout ∷ []) p3.0,
        number sub (layout_word layout ∷ []) p3.1,
        layout_word_is layout [],
      ) refl;
    }

-- a clear
pub clear_reads : (target : Register) (word : ℕ) → is_sound_command (command.Clear target word) ≡ true →
    Reads (command_words (command.Clear target word)) class.Command (item.Command (command.Clear target word))
unfolding form_of row_of item_of finished
clear_reads target word h =
    let p0 = and_parts (is_sound_register target) (is_narrow word) h in
    record {
      form = form.Clear;
      found = refl;
      class = refl;
      says = rw (
        register_is target (hex_word word ∷ []) p0.0,
        data_word word [] p0.1,
      ) refl;
    }

-- a dispatch
pub dispatch_reads : (routine : Routine) (count : Count) (t0 t1 u0 b0 : Register) → is_sound_command (command.Dispatch routine count t0 t1 u0 b0) ≡ true →
    Reads (command_words (command.Dispatch routine count t0 t1 u0 b0)) class.Command (item.Command (command.Dispatch routine count t0 t1 u0 b0))
unfolding form_of row_of item_of finished
dispatch_reads routine count t0 t1 u0 b0 h =
    let p0 = and_parts (is_sound_count count) (is_sound_register t0 && (is_sound_register t1 && (is_sound_register u0 && is_sound_register b0))) h in
    let p1 = and_parts (is_sound_register t0) (is_sound_register t1 && (is_sound_register u0 && is_sound_register b0)) p0.1 in
    let p2 = and_parts (is_sound_register t1) (is_sound_register u0 && is_sound_register b0) p1.1 in
    let p3 = and_parts (is_sound_register u0) (is_sound_register b0) p2.1 in
    record {
      form = form.Dispatch;
      found = refl;
      class = refl;
      says = rw (
        routine_is routine (count_word count ∷ register_word t0 ∷ register_word t1 ∷ register_word u0 ∷ register_word b0 ∷ []),
        count_is count (register_word t0 ∷ register_word t1 ∷ register_word u0 ∷ register_word b0 ∷ []) p0.0,
        register_is t0 (register_word t1 ∷ register_word u0 ∷ register_word b0 ∷ []) p1.0,
        register_is t1 (register_word u0 ∷ register_word b0 ∷ []) p2.0,
        register_is u0 (register_word b0 ∷ []) p3.0,
        register_is b0 [] p3.1,
      ) refl;
    }

-- a barrier without a change of layout
pub barrier_reads : (from : Stages) (made : Accesses) (to : Stages) (seen : Accesses) → is_sound_command (command.Barrier from made to seen None) ≡ true →
    Reads (command_words (command.Barrier from made to seen None)) class.Command (item.Command (command.Barrier from made to seen None))
unfolding form_of row_of item_of finished
barrier_reads from made to seen h =
    let p0 = and_parts (is_stage_set from.0) (is_access_set made.0 && (is_stage_set to.0 && (is_access_set seen.0 && true))) h in
    let p1 = and_parts (is_access_set made.0) (is_stage_set to.0 && (is_access_set seen.0 && true)) p0.1 in
    let p2 = and_parts (is_stage_set to.0) (is_access_set seen.0 && true) p1.1 in
    let p3 = and_parts (is_access_set seen.0) (true) p2.1 in
    record {
      form = form.Barrier;
      found = refl;
      class = refl;
      says = rw (
        stages_is from.0 (set_word access_rows made.0 ∷ set_word stage_rows to.0 ∷ set_word access_rows seen.0 ∷ []) p0.0,
        accesses_is made.0 (set_word stage_rows to.0 ∷ set_word access_rows seen.0 ∷ []) p1.0,
        stages_is to.0 (set_word access_rows seen.0 ∷ []) p2.0,
        accesses_is seen.0 [] p3.0,
      ) refl;
    }

-- a barrier with one
pub change_reads : (from : Stages) (made : Accesses) (to : Stages) (seen : Accesses) (c : Change) → is_sound_command (command.Barrier from made to seen (Some c)) ≡ true →
    Reads (command_words (command.Barrier from made to seen (Some c))) class.Command (item.Command (command.Barrier from made to seen (Some c)))
unfolding form_of row_of item_of finished
change_reads from made to seen c h =
    let p0 = and_parts (is_stage_set from.0) (is_access_set made.0 && (is_stage_set to.0 && (is_access_set seen.0 && is_sound_change (Some c)))) h in
    let p1 = and_parts (is_access_set made.0) (is_stage_set to.0 && (is_access_set seen.0 && is_sound_change (Some c))) p0.1 in
    let p2 = and_parts (is_stage_set to.0) (is_access_set seen.0 && is_sound_change (Some c)) p1.1 in
    let p3 = and_parts (is_access_set seen.0) (is_sound_change (Some c)) p2.1 in
    let q = and_parts (is_narrow c.image) (is_sound_sub c.sub) p3.1 in
    record {
      form = form.Barrier;
      found = refl;
      class = refl;
      says = rw (
        stages_is from.0 (set_word access_rows made.0 ∷ set_word stage_rows to.0 ∷ set_word access_rows seen.0 ∷ change_words (Some c)) p0.0,
        accesses_is made.0 (set_word stage_rows to.0 ∷ set_word access_rows seen.0 ∷ change_words (Some c)) p1.0,
        stages_is to.0 (set_word access_rows seen.0 ∷ change_words (Some c)) p2.0,
        accesses_is seen.0 (change_words (Some c)) p3.0,
        number c.image (sub_word c.sub ∷ layout_word c.old ∷ layout_word c.new ∷ []) q.0,
        sub_is c.sub (layout_word c.old ∷ layout_word c.new ∷ []) q.1,
        layout_word_is c.old (layout_word c.new ∷ []),
        layout_word_is c.new [],
      ) refl;
    }

-- a buffer
pub buffer_reads : (b : PlanBuffer) → is_sound_buffer b ≡ true →
    Reads (buffer_words b) class.Plan (item.Buffer b)
unfolding form_of row_of item_of finished
buffer_reads b h =
    record {
      form = form.Buffer;
      found = refl;
      class = refl;
      says = rw (
        number b.words (home_word b.home ∷ []) h,
        home_is b.home [],
      ) refl;
    }

-- an image
pub image_reads : (i : PlanImage) → is_sound_image i ≡ true →
    Reads (image_words i) class.Plan (item.Image i)
unfolding form_of row_of item_of finished
image_reads i h =
    let p0 = and_parts (is_narrow i.width) (is_narrow i.height && (is_narrow i.mips && (is_narrow i.layers && not (is_large_image i)))) h in
    let p1 = and_parts (is_narrow i.height) (is_narrow i.mips && (is_narrow i.layers && not (is_large_image i))) p0.1 in
    let p2 = and_parts (is_narrow i.mips) (is_narrow i.layers && not (is_large_image i)) p1.1 in
    let p3 = and_parts (is_narrow i.layers) (not (is_large_image i)) p2.1 in
    record {
      form = form.Image;
      found = refl;
      class = refl;
      says = rw (
        number i.width (decimal i.height ∷ decimal i.mips ∷ decimal i.layers ∷ []) p0.0,
        number i.height (decimal i.mips ∷ decimal i.layers ∷ []) p1.0,
        number i.mips (decimal i.layers ∷ []) p2.0,
        number i.layers [] p3.0,
      ) refl;
    }

-- a heap
pub heap_reads : (slots : ℕ) → is_narrow slots ≡ true →
    Reads (heap_words slots) class.Plan (item.Heap slots)
unfolding form_of row_of item_of finished
heap_reads slots h =
    record {
      form = form.Heap;
      found = refl;
      class = refl;
      says = rw (number slots [] h) refl;
    }

-- a view of a buffer
pub buffer_view_reads : (c : Class) (buffer first words : ℕ) → is_sound_view (view.Buffer c buffer first words) ≡ true →
    Reads (view_words (view.Buffer c buffer first words)) class.Plan (item.View (view.Buffer c buffer first words))
unfolding form_of row_of item_of finished
buffer_view_reads c buffer first words h =
    let p0 = and_parts (is_narrow buffer) (is_narrow first && (is_narrow words && not (is_large_view (view.Buffer c buffer first words)))) h in
    let p1 = and_parts (is_narrow first) (is_narrow words && not (is_large_view (view.Buffer c buffer first words))) p0.1 in
    let p2 = and_parts (is_narrow words) (not (is_large_view (view.Buffer c buffer first words))) p1.1 in
    record {
      form = form.View;
      found = refl;
      class = refl;
      says = rw (
        class_is c (codes "buffer" ∷ decimal buffer ∷ decimal first ∷ decimal words ∷ []),
        viewed_buffer (decimal buffer ∷ decimal first ∷ decimal words ∷ []),
        number buffer (decimal first ∷ decimal words ∷ []) p0.0,
        number first (decimal words ∷ []) p1.0,
        number words [] p2.0,
      ) refl;
    }

-- a view of an image
pub image_view_reads : (c : Class) (image sub : ℕ) → is_sound_view (view.Image c image sub) ≡ true →
    Reads (view_words (view.Image c image sub)) class.Plan (item.View (view.Image c image sub))
unfolding form_of row_of item_of finished
image_view_reads c image sub h =
    let p0 = and_parts (is_narrow image) (is_narrow sub) h in
    record {
      form = form.View;
      found = refl;
      class = refl;
      says = rw (
        class_is c (codes "image" ∷ decimal image ∷ decimal sub ∷ []),
        viewed_image (decimal image ∷ decimal sub ∷ []),
        number image (decimal sub ∷ []) p0.0,
        number sub [] p0.1,
      ) refl;
    }

-- the numbers of queues and timelines
pub queues_reads : (plan : DevicePlan) → (is_narrow plan.queues && is_narrow plan.timelines) ≡ true →
    Reads (queues_words plan) class.Plan (item.Queues plan.queues plan.timelines)
unfolding form_of row_of item_of finished
queues_reads plan h =
    let p0 = and_parts (is_narrow plan.queues) (is_narrow plan.timelines) h in
    record {
      form = form.Queues;
      found = refl;
      class = refl;
      says = rw (
        number plan.queues (codes "timelines" ∷ decimal plan.timelines ∷ []) p0.0,
        literal_is (codes "timelines") (decimal plan.timelines ∷ []),
        number plan.timelines [] p0.1,
      ) refl;
    }

-- a pass
pub pass_reads : (q n : ℕ) → is_sound_step (step.Pass q n) ≡ true →
    Reads (step_words (step.Pass q n)) class.Step (item.Step (step.Pass q n))
unfolding form_of row_of item_of finished
pass_reads q n h =
    let p0 = and_parts (is_narrow q) (is_wide n) h in
    record {
      form = form.Pass;
      found = refl;
      class = refl;
      says = rw (
        number q (decimal n ∷ []) p0.0,
        wide n [] p0.1,
      ) refl;
    }

-- an end
pub bump_reads : (q n : ℕ) → is_sound_step (step.Bump q n) ≡ true →
    Reads (step_words (step.Bump q n)) class.Step (item.Step (step.Bump q n))
unfolding form_of row_of item_of finished
bump_reads q n h =
    let p0 = and_parts (is_narrow q) (is_wide n) h in
    record {
      form = form.Bump;
      found = refl;
      class = refl;
      says = rw (
        number q (decimal n ∷ []) p0.0,
        wide n [] p0.1,
      ) refl;
    }

-- an update
pub update_reads : (heap slot : ℕ) → is_sound_step (step.Update heap slot) ≡ true →
    Reads (step_words (step.Update heap slot)) class.Step (item.Step (step.Update heap slot))
unfolding form_of row_of item_of finished
update_reads heap slot h =
    let p0 = and_parts (is_narrow heap) (is_narrow slot) h in
    record {
      form = form.Update;
      found = refl;
      class = refl;
      says = rw (
        number heap (decimal slot ∷ []) p0.0,
        number slot [] p0.1,
      ) refl;
    }

-- a command that is done
pub command_reads : (q n k : ℕ) (loaded : List ℕ) → is_sound_step (step.Command q n k loaded) ≡ true →
    Reads (step_words (step.Command q n k loaded)) class.Step (item.Step (step.Command q n k loaded))
unfolding form_of row_of item_of finished
command_reads q n k loaded h =
    let p0 = and_parts (is_narrow q) (is_wide n && (is_narrow k && list_all is_narrow loaded)) h in
    let p1 = and_parts (is_wide n) (is_narrow k && list_all is_narrow loaded) p0.1 in
    let p2 = and_parts (is_narrow k) (list_all is_narrow loaded) p1.1 in
    record {
      form = form.Command;
      found = refl;
      class = refl;
      says = rw (
        number q (decimal n ∷ decimal k ∷ map decimal loaded) p0.0,
        wide n (decimal k ∷ map decimal loaded) p1.0,
        number k (map decimal loaded) p2.0,
        each_back narrow_of decimal is_narrow (λ m is. narrow_back m (narrow_is m is)) loaded p2.1,
      ) refl;
    }

-- a write of the host
pub host_write_reads : (buffer first : ℕ) (words : List ℕ) → is_sound_step (step.HostWrite buffer first words) ≡ true →
    Reads (step_words (step.HostWrite buffer first words)) class.Step (item.Step (step.HostWrite buffer first words))
unfolding form_of row_of item_of finished
host_write_reads buffer first words h =
    let p0 = and_parts (is_narrow buffer) (is_narrow first && list_all is_narrow words) h in
    let p1 = and_parts (is_narrow first) (list_all is_narrow words) p0.1 in
    record {
      form = form.HostWrite;
      found = refl;
      class = refl;
      says = rw (
        number buffer (decimal first ∷ map hex_word words) p0.0,
        number first (map hex_word words) p1.0,
        each_back word_of hex_word is_narrow (λ m is. word_back m (narrow_is m is)) words p1.1,
      ) refl;
    }

-- a read of the host
pub host_read_reads : (buffer first : ℕ) (words : List ℕ) → is_sound_step (step.HostRead buffer first words) ≡ true →
    Reads (step_words (step.HostRead buffer first words)) class.Step (item.Step (step.HostRead buffer first words))
unfolding form_of row_of item_of finished
host_read_reads buffer first words h =
    let p0 = and_parts (is_narrow buffer) (is_narrow first && list_all is_narrow words) h in
    let p1 = and_parts (is_narrow first) (list_all is_narrow words) p0.1 in
    record {
      form = form.HostRead;
      found = refl;
      class = refl;
      says = rw (
        number buffer (decimal first ∷ map hex_word words) p0.0,
        number first (map hex_word words) p1.0,
        each_back word_of hex_word is_narrow (λ m is. word_back m (narrow_is m is)) words p1.1,
      ) refl;
    }

-- a pair is not the word before the values that are set
no_colon : (t v : ℕ) → is_sound_pair (t, v) ≡ true → bytes_eq (pair_word (t, v)) (codes "sets") ≡ false
unfolding cut_at
no_colon t v h = by_test (bytes_eq (pair_word (t, v)) (codes "sets")) refl
  where
    by_test : (b : Bool) → bytes_eq (pair_word (t, v)) (codes "sets") ≡ b → b ≡ false
    by_test false e = refl
    by_test true e =
        let same : pair_word (t, v) ≡ codes "sets" = (bytes_eq-Decides (pair_word (t, v)) (codes "sets")).0 e in
        let narrow = narrow_is t (and_parts (is_narrow t) (is_wide v) h).0 in
        let cut : cut_at 58 (codes "sets") ≡ Some (decimal t, decimal v) =
        subst (λ w. cut_at 58 w ≡ Some (decimal t, decimal v)) same (cut_number t (decimal v) (omega (arith, narrow))) in
        cc

place_is : (pairs : List (ℕ × ℕ)) (more : List (List ℕ)) → list_all is_sound_pair pairs ≡ true →
    place_of_word (codes "sets") (map pair_word pairs ++ codes "sets" ∷ more) ≡ length pairs
unfolding place_of_word
place_is [] more h = refl
place_is (p ∷ pairs) more h =
    let both = and_parts (is_sound_pair p) (list_all is_sound_pair pairs) h in
    rw (no_colon p.0 p.1 both.0, place_is pairs more both.1) (omega arith)

pairs_is : (pairs : List (ℕ × ℕ)) (more : List (List ℕ)) → list_all is_sound_pair pairs ≡ true →
    pairs_before (codes "sets") (left (map pair_word pairs ++ codes "sets" ∷ more)) ≡ (pairs, left (codes "sets" ∷ more))
unfolding pairs_before
pairs_is pairs more h =
    let long : length pairs ≡ length (map pair_word pairs) = sym (length-map pairs pair_word) in
    let front : take (length (map pair_word pairs)) (map pair_word pairs ++ codes "sets" ∷ more) ≡ map pair_word pairs =
    take-append_seam (map pair_word pairs) (codes "sets" ∷ more) in
    let behind : drop (length (map pair_word pairs)) (map pair_word pairs ++ codes "sets" ∷ more) ≡ codes "sets" ∷ more =
    drop-append_seam (map pair_word pairs) (codes "sets" ∷ more) in
    rw (place_is pairs more h, long, front, behind, each_back pair_of pair_word is_sound_pair pair_is pairs h) refl
  where
    pair_is : (p : ℕ × ℕ) → is_sound_pair p ≡ true → pair_of (pair_word p) ≡ Ok p
    pair_is p is = let both = and_parts (is_narrow p.0) (is_wide p.1) is in pair_back p.0 p.1 (narrow_is p.0 both.0) (wide_is p.1 both.1)

-- a batch without its commands
abbrev pub without_commands : Batch → Batch
without_commands b = record b { commands = [] }

-- a submission
pub submit_reads : (b : Batch) → is_sound_batch b ≡ true → Reads (batch_words b) class.Step (item.Submit (without_commands b) (length b.commands))
unfolding form_of row_of item_of finished
submit_reads b h =
    let p0 = and_parts (is_narrow b.queue) (is_wide b.number && (is_narrow (length b.commands) && (list_all is_sound_pair b.waits && (list_all is_sound_pair b.sets && list_all is_sound_command b.commands)))) h in
    let p1 = and_parts (is_wide b.number) (is_narrow (length b.commands) && (list_all is_sound_pair b.waits && (list_all is_sound_pair b.sets && list_all is_sound_command b.commands))) p0.1 in
    let p2 = and_parts (is_narrow (length b.commands)) (list_all is_sound_pair b.waits && (list_all is_sound_pair b.sets && list_all is_sound_command b.commands)) p1.1 in
    let p3 = and_parts (list_all is_sound_pair b.waits) (list_all is_sound_pair b.sets && list_all is_sound_command b.commands) p2.1 in
    let p4 = and_parts (list_all is_sound_pair b.sets) (list_all is_sound_command b.commands) p3.1 in
    record {
      form = form.Submit;
      found = refl;
      class = refl;
      says = rw (
        number b.queue (decimal b.number ∷ decimal (length b.commands) ∷ codes "waits" ∷ (map pair_word b.waits ++ codes "sets" ∷ map pair_word b.sets)) p0.0,
        wide b.number (decimal (length b.commands) ∷ codes "waits" ∷ (map pair_word b.waits ++ codes "sets" ∷ map pair_word b.sets)) p1.0,
        number (length b.commands) (codes "waits" ∷ (map pair_word b.waits ++ codes "sets" ∷ map pair_word b.sets)) p2.0,
        literal_is (codes "waits") (map pair_word b.waits ++ codes "sets" ∷ map pair_word b.sets),
        pairs_is b.waits (map pair_word b.sets) p3.0,
        literal_is (codes "sets") (map pair_word b.sets),
        each_back pair_of pair_word is_sound_pair pair_is b.sets p4.0,
      ) refl;
    }
  where
    pair_is : (p : ℕ × ℕ) → is_sound_pair p ≡ true → pair_of (pair_word p) ≡ Ok p
    pair_is p is = let both = and_parts (is_narrow p.0) (is_wide p.1) is in pair_back p.0 p.1 (narrow_is p.0 both.0) (wide_is p.1 both.1)

-- the first line and the last
pub header_reads : Reads (codes "vkjournal" ∷ codes "1" ∷ []) class.Header item.Header
unfolding form_of row_of item_of finished
header_reads = record { form = form.Header; found = refl; class = refl; says = rw (literal_is (codes "1") []) refl }

pub end_reads : Reads (codes "end" ∷ []) class.Step item.End
unfolding form_of row_of item_of finished
end_reads = record { form = form.End; found = refl; class = refl; says = refl }
