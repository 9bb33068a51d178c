-- The text of a journal is read as that journal.
use Rattle.std.proofs.Common.{ℕ, suc, ◌≡◌, ◌≤◌, ◌+◌, ◌-◌, ◌==◌, ◌&&◌, ◌∙◌, not, nat_le, Bool, true, false, List, [], ◌∷◌, ◌++◌, length, map, flat_map, drop, Some, None, Result, Ok, Err, codes, eqb, arith, refl, sym, ap, subst, append-nil, append_assoc, length-append, if◌then◌else◌}
use Rattle.std.specs.List.{All, AllByRecursion, list_all, slice_split}
use Rattle.std.proofs.lemmas.Bool.{and_from, and_parts, le-leb, le-ltb}
use Rattle.std.proofs.lemmas.Bool.Decides.{nat_tests}
use Rattle.std.proofs.lemmas.Grind.{flat_map-append}
use Rattle.std.proofs.lemmas.List.Elements.{All-head, All-tail}
use Rattle.std.proofs.lemmas.List.Splits.{slice_split_at}
use Rattle.line_forms.specs.declared.cause.Cause.{Cause}
use Rattle.line_forms.specs.declared.cause.Cause.TheVariants as cause
use Rattle.line_forms.specs.Lines.{line_text}
use Rattle.line_forms.proofs.PlainWords.{ArePlain, apart_from, are_words, line_is, line_of, plain_line, plain_word, words_again}
use Rattle.trace_words.specs.Lines.{is_plain_byte, pieces_of, words_of}
use Rattle.vk_types.specs.declared.batches.Batch.{Batch}
use Rattle.vk_types.specs.declared.commands.VkCommand.{VkCommand}
use Rattle.vk_types.specs.declared.commands.VkCommand.TheVariants as command
use Rattle.vk_types.specs.declared.plan.DevicePlan.{DevicePlan}
use Rattle.vk_types.specs.declared.plan.PlanBuffer.{PlanBuffer}
use Rattle.vk_types.specs.declared.plan.PlanImage.{PlanImage}
use Rattle.vk_types.specs.declared.plan.PlanView.{PlanView}
use Rattle.vk_types.specs.declared.plan.PlanView.TheVariants as view
use Rattle.vk_types.specs.declared.steps.VkStep.{VkStep}
use Rattle.vk_types.specs.declared.steps.VkStep.TheVariants as step
use Rattle.journal_words.specs.declared.form.LineClass.{LineClass}
use Rattle.journal_words.specs.declared.form.LineClass.TheVariants as class
use Rattle.journal_text.specs.declared.item.Item.{Item}
use Rattle.journal_text.specs.declared.item.Item.TheVariants as item
use Rattle.journal_text.specs.declared.reading.Reading.{Reading}
use Rattle.journal_words.specs.Forms.{same_class}
use Rattle.journal_text.specs.Laws.{IsSound, PrintsBack}
use Rattle.journal_text.specs.Names.{is_large, is_large_image, is_large_view, is_named, is_named_command, is_named_step, is_named_view}
use Rattle.journal_text.specs.Printing.{batch_words, buffer_text, buffer_words, command_text, command_words, commands_of, heap_text, heap_words, image_text, image_words, journal_text, plan_text, queues_words, step_text, step_words, view_text, view_words}
use Rattle.journal_text.specs.Reading.{and_then, no_plan, opening, submitted, taken_of, with_command, with_form, with_item, with_words}
use Rattle.journal_words.specs.SoundWords.{is_narrow, is_sound_pair, is_wide}
use Rattle.journal_text.specs.Sound.{is_sound_batch, is_sound_buffer, is_sound_command, is_sound_image, is_sound_step, is_sound_view, names_all}
use Rattle.journal_text.specs.Texts.{is_plain, journal_of, most_bytes, most_in_line, pieces_from, reading_of, sized, with_last, with_line}
use Rattle.journal_text.proofs.LinesBack.{Reads, barrier_reads, buffer_reads, buffer_view_reads, bump_reads, change_reads, clear_reads, command_reads, copy_image_reads, copy_in_reads, copy_out_reads, copy_reads, dispatch_reads, end_reads, header_reads, heap_reads, host_read_reads, host_write_reads, image_reads, image_view_reads, pass_reads, queues_reads, submit_reads, update_reads, without_commands}
use Rattle.journal_text.proofs.PlainLines.{AllPlain, batch_plain, buffer_plain, command_plain, heap_plain, image_plain, queues_plain, step_plain, view_plain}
use Rattle.journal_text.proofs.TextSteps.{HasFirst, stepped}

-- a class is itself
same_self : (c : LineClass) → same_class c c ≡ true
same_self class.Header = refl
same_self class.Plan = refl
same_self class.Step = refl
same_self class.Command = refl

-- a line that says something where it is due
record Stands (r : Reading) (c : LineClass) (i : Item) : Type 0 where
  due : r.due ≡ c
  small : is_large i ≡ false
  named : is_named r.plan i ≡ true

taken : (r : Reading) (ws : List (List ℕ)) (c : LineClass) (i : Item) → Reads ws c i → Stands r c i → with_words r ws ≡ Ok (with_item r i)
unfolding with_words with_form taken_of
taken r ws c i reads stands = rw (reads.found, reads.class, stands.due, same_self c, reads.says, stands.small, stands.named) refl

-- plain words
are_plain : (ws : List (List ℕ)) → AllPlain ws → ArePlain ws
are_plain [] all = tt
are_plain (w ∷ ws) all = (plain_word w all.0, are_plain ws all.1)

-- a line of such words
line_by : (t e : Bool) (x : Result Reading Cause) → t ≡ true → e ≡ false → (if t then (if e then Err cause.After else x) else Err cause.Line) ≡ x
line_by true false x plain going = refl
line_by true true x plain going = cc
line_by false e x plain going = cc

line_read : (r : Reading) (w : List ℕ) (ws : List (List ℕ)) (c : LineClass) (i : Item) → Reads (w ∷ ws) c i → AllPlain (w ∷ ws) →
    length (line_of (w ∷ ws)) ≤ most_in_line → r.ended ≡ false → Stands r c i → with_line r (line_of (w ∷ ws)) ≡ Ok (with_item r i)
unfolding with_line is_plain
line_read r w ws c i reads plain short going stands =
    let words = are_plain (w ∷ ws) plain in
    let bytes = plain_line w ws words.0 words.1 in
    let fits : is_plain (line_of (w ∷ ws)) ≡ true =
    and_from (nat_le (length (line_of (w ∷ ws))) most_in_line) (list_all is_plain_byte (line_of (w ∷ ws))) (le-leb (length (line_of (w ∷ ws))) most_in_line short) bytes in
    let again : words_of (line_of (w ∷ ws)) ≡ w ∷ ws = words_again w ws words.0.one (are_words ws words.1) in
    line_by (is_plain (line_of (w ∷ ws))) r.ended (with_words r (words_of (line_of (w ∷ ws)))) fits going
    ∙ (ap (with_words r) again ∙ taken r (w ∷ ws) c i reads stands)

-- lines, one after the other
unfoldable with_lines : Reading → List (List ℕ) → Result Reading Cause
with_lines r [] = Ok r
with_lines r (line ∷ lines) = and_then (with_line r line) (λ s. with_lines s lines)

abbrev AreShort : List (List ℕ) → Type 0
AreShort lines = AllByRecursion (λ line. length line ≤ most_in_line) lines

lines_more : (r s : Reading) (lines more : List (List ℕ)) → with_lines r lines ≡ Ok s → with_lines r (lines ++ more) ≡ with_lines s more
unfolding with_lines
lines_more r s [] more e = let same : r ≡ s = cc in ap (λ u. with_lines u more) same
lines_more r s (line ∷ lines) more e = by_line (with_line r line) refl (λ u f. lines_more u s lines more f) e
  where
    by_line : (found : Result Reading Cause) → with_line r line ≡ found → ((u : Reading) → with_lines u lines ≡ Ok s → with_lines u (lines ++ more) ≡ with_lines s more) →
        and_then found (λ u. with_lines u lines) ≡ Ok s → and_then found (λ u. with_lines u (lines ++ more)) ≡ with_lines s more
    by_line (Err c) is go e = cc
    by_line (Ok u) is go e = go u e

one_line : (r s : Reading) (line : List ℕ) (lines : List (List ℕ)) → with_line r line ≡ Ok s → with_lines r (line ∷ lines) ≡ with_lines s lines
unfolding with_lines
one_line r s line lines e = rw e refl

-- what is read while objects come, and while steps come
abbrev at_plan : DevicePlan → Reading
at_plan p = record { due = class.Plan; ended = false; plan = p; steps = []; batch = None }

abbrev at_steps : DevicePlan → List VkStep → Reading
at_steps p ss = record { due = class.Step; ended = false; plan = p; steps = ss; batch = None }

abbrev at_batch : DevicePlan → List VkStep → Batch → ℕ → Reading
at_batch p ss b left = record { due = class.Command; ended = false; plan = p; steps = ss; batch = Some (record { batch = b; left = left }) }

not_not : (t : Bool) → not t ≡ true → t ≡ false
not_not true e = cc
not_not false e = refl

-- buffers
buffers_read : (bs : List PlanBuffer) (p : DevicePlan) → list_all is_sound_buffer bs ≡ true → AreShort (map (λ b. line_of (buffer_words b)) bs) →
    with_lines (at_plan p) (map (λ b. line_of (buffer_words b)) bs) ≡ Ok (at_plan (record p { buffers = p.buffers ++ bs }))
unfolding with_lines
buffers_read [] p h short = rw (append-nil p.buffers) refl
buffers_read (b ∷ bs) p h short =
    let both = and_parts (is_sound_buffer b) (list_all is_sound_buffer bs) h in
    let line = line_read (at_plan p) (codes "buffer") _ class.Plan (item.Buffer b) (buffer_reads b both.0) (buffer_plain b both.0) short.0 refl
    (record { due = refl; small = refl; named = refl }) in
    rw line (buffers_read bs (record p { buffers = p.buffers ++ b ∷ [] }) both.1 short.1 ∙ ap (λ xs. Ok (at_plan (record p { buffers = xs }))) (append_assoc p.buffers (b ∷ []) bs))

-- images
images_read : (is : List PlanImage) (p : DevicePlan) → list_all is_sound_image is ≡ true → AreShort (map (λ i. line_of (image_words i)) is) →
    with_lines (at_plan p) (map (λ i. line_of (image_words i)) is) ≡ Ok (at_plan (record p { images = p.images ++ is }))
unfolding with_lines
images_read [] p h short = rw (append-nil p.images) refl
images_read (i ∷ is) p h short =
    let both = and_parts (is_sound_image i) (list_all is_sound_image is) h in
    let line = line_read (at_plan p) (codes "image") _ class.Plan (item.Image i) (image_reads i both.0) (image_plain i both.0) short.0 refl
    (record { due = refl; small = small i both.0; named = refl }) in
    rw line (images_read is (record p { images = p.images ++ i ∷ [] }) both.1 short.1 ∙ ap (λ xs. Ok (at_plan (record p { images = xs }))) (append_assoc p.images (i ∷ []) is))
  where
    small : (i : PlanImage) → is_sound_image i ≡ true → is_large_image i ≡ false
    small i h =
        let p0 = and_parts (is_narrow i.width) (is_narrow i.height && (is_narrow i.mips && (is_narrow i.layers && not (is_large_image i)))) h in
        let p1 = and_parts (is_narrow i.height) (is_narrow i.mips && (is_narrow i.layers && not (is_large_image i))) p0.1 in
        let p2 = and_parts (is_narrow i.mips) (is_narrow i.layers && not (is_large_image i)) p1.1 in
        let p3 = and_parts (is_narrow i.layers) (not (is_large_image i)) p2.1 in
        not_not (is_large_image i) p3.1

-- heaps
heaps_read : (hs : List ℕ) (p : DevicePlan) → list_all is_narrow hs ≡ true → AreShort (map (λ s. line_of (heap_words s)) hs) →
    with_lines (at_plan p) (map (λ s. line_of (heap_words s)) hs) ≡ Ok (at_plan (record p { heaps = p.heaps ++ hs }))
unfolding with_lines
heaps_read [] p h short = rw (append-nil p.heaps) refl
heaps_read (s ∷ hs) p h short =
    let both = and_parts (is_narrow s) (list_all is_narrow hs) h in
    let line = line_read (at_plan p) (codes "heap") _ class.Plan (item.Heap s) (heap_reads s both.0) (heap_plain s both.0) short.0 refl
    (record { due = refl; small = refl; named = refl }) in
    rw line (heaps_read hs (record p { heaps = p.heaps ++ s ∷ [] }) both.1 short.1 ∙ ap (λ xs. Ok (at_plan (record p { heaps = xs }))) (append_assoc p.heaps (s ∷ []) hs))

-- one view
view_line : (v : PlanView) (p : DevicePlan) → is_sound_view v ≡ true → is_named_view p v ≡ true → length (line_of (view_words v)) ≤ most_in_line →
    with_line (at_plan p) (line_of (view_words v)) ≡ Ok (at_plan (record p { views = p.views ++ v ∷ [] }))
view_line (view.Buffer c buffer first words) p h named short =
    line_read (at_plan p) (codes "view") _ class.Plan (item.View (view.Buffer c buffer first words)) (buffer_view_reads c buffer first words h)
    (view_plain (view.Buffer c buffer first words) h) short refl (record { due = refl; small = small; named = named })
  where
    small : is_large_view (view.Buffer c buffer first words) ≡ false
    small =
        let p0 = and_parts (is_narrow buffer) (is_narrow first && (is_narrow words && not (is_large_view (view.Buffer c buffer first words)))) h in
        let p1 = and_parts (is_narrow first) (is_narrow words && not (is_large_view (view.Buffer c buffer first words))) p0.1 in
        let p2 = and_parts (is_narrow words) (not (is_large_view (view.Buffer c buffer first words))) p1.1 in
        not_not (is_large_view (view.Buffer c buffer first words)) p2.1
view_line (view.Image c image sub) p h named short =
    line_read (at_plan p) (codes "view") _ class.Plan (item.View (view.Image c image sub)) (image_view_reads c image sub h)
    (view_plain (view.Image c image sub) h) short refl (record { due = refl; small = refl; named = named })

-- a view names what it named, whatever views there are
still_named : (v : PlanView) (p : DevicePlan) (vs : List PlanView) → is_named_view p v ≡ true → is_named_view (record p { views = vs }) v ≡ true
still_named (view.Buffer c buffer first words) p vs h = h
still_named (view.Image c image sub) p vs h = h

all_named : (us : List PlanView) (p : DevicePlan) (vs : List PlanView) → list_all (is_named_view p) us ≡ true → list_all (is_named_view (record p { views = vs })) us ≡ true
all_named [] p vs h = refl
all_named (u ∷ us) p vs h =
    let both = and_parts (is_named_view p u) (list_all (is_named_view p) us) h in
    and_from (is_named_view (record p { views = vs }) u) (list_all (is_named_view (record p { views = vs })) us) (still_named u p vs both.0) (all_named us p vs both.1)

views_read : (vs : List PlanView) (p : DevicePlan) → list_all is_sound_view vs ≡ true → list_all (is_named_view p) vs ≡ true →
    AreShort (map (λ v. line_of (view_words v)) vs) →
    with_lines (at_plan p) (map (λ v. line_of (view_words v)) vs) ≡ Ok (at_plan (record p { views = p.views ++ vs }))
unfolding with_lines
views_read [] p h named short = rw (append-nil p.views) refl
views_read (v ∷ vs) p h named short =
    let both = and_parts (is_sound_view v) (list_all is_sound_view vs) h in
    let names = and_parts (is_named_view p v) (list_all (is_named_view p) vs) named in
    let line = view_line v p both.0 names.0 short.0 in
    rw line (views_read vs (record p { views = p.views ++ v ∷ [] }) both.1 (all_named vs p (p.views ++ v ∷ []) names.1) short.1
    ∙ ap (λ xs. Ok (at_plan (record p { views = xs }))) (append_assoc p.views (v ∷ []) vs))

-- a command is read
reads_command : (c : VkCommand) → is_sound_command c ≡ true → Reads (command_words c) class.Command (item.Command c)
reads_command (command.Barrier from made to seen None) h = barrier_reads from made to seen h
reads_command (command.Barrier from made to seen (Some c)) h = change_reads from made to seen c h
reads_command (command.Copy to to_first from from_first words) h = copy_reads to to_first from from_first words h
reads_command (command.CopyImage to to_sub to_layout from from_sub from_layout) h = copy_image_reads to to_sub to_layout from from_sub from_layout h
reads_command (command.CopyIn image sub layout buffer first pitch) h = copy_in_reads image sub layout buffer first pitch h
reads_command (command.CopyOut buffer first pitch image sub layout) h = copy_out_reads buffer first pitch image sub layout h
reads_command (command.Clear target word) h = clear_reads target word h
reads_command (command.Dispatch routine count t0 t1 u0 b0) h = dispatch_reads routine count t0 t1 u0 b0 h

-- words of a line that has a first one
record IsLine (ws : List (List ℕ)) : Type 0 where
  first : List ℕ
  more : List (List ℕ)
  is : ws ≡ first ∷ more

command_line : (c : VkCommand) → IsLine (command_words c)
command_line (command.Barrier from made to seen change) = record { first = codes "barrier"; more = _; is = refl }
command_line (command.Copy to to_first from from_first words) = record { first = codes "copy"; more = _; is = refl }
command_line (command.CopyImage to to_sub to_layout from from_sub from_layout) = record { first = codes "copyimage"; more = _; is = refl }
command_line (command.CopyIn image sub layout buffer first pitch) = record { first = codes "copyin"; more = _; is = refl }
command_line (command.CopyOut buffer first pitch image sub layout) = record { first = codes "copyout"; more = _; is = refl }
command_line (command.Clear target word) = record { first = codes "clear"; more = _; is = refl }
command_line (command.Dispatch routine count t0 t1 u0 b0) = record { first = codes "dispatch"; more = _; is = refl }

-- a line of such words
words_read : (r : Reading) (ws : List (List ℕ)) (c : LineClass) (i : Item) → IsLine ws → Reads ws c i → AllPlain ws →
    length (line_of ws) ≤ most_in_line → r.ended ≡ false → Stands r c i → with_line r (line_of ws) ≡ Ok (with_item r i)
words_read r [] c i l reads plain short going stands = let is = l.is in cc
words_read r (w ∷ ws) c i l reads plain short going stands = line_read r w ws c i reads plain short going stands

-- a batch with a command to come
some_come : (r : Reading) (b : Batch) (n : ℕ) → submitted r b (suc n) ≡ record r { due = class.Command; batch = Some (record { batch = b; left = suc n }) }
some_come r b n = let other : (suc n == 0) ≡ false = grind (arith, nat_tests) in rw other refl

one_more_comes : (r : Reading) (b : Batch) (n : ℕ) → submitted r b (suc (suc n) - 1) ≡ record r { due = class.Command; batch = Some (record { batch = b; left = suc n }) }
one_more_comes r b n = let less : suc (suc n) - 1 ≡ suc n = omega arith in ap (submitted r b) less ∙ some_come r b n

-- the commands of a batch, of which there is one at least
commands_read : (c : VkCommand) (cs : List VkCommand) (p : DevicePlan) (ss : List VkStep) (b : Batch) → list_all is_sound_command (c ∷ cs) ≡ true →
    list_all (is_named_command p) (c ∷ cs) ≡ true → AreShort (map (λ d. line_of (command_words d)) (c ∷ cs)) →
    with_lines (at_batch p ss b (length (c ∷ cs))) (map (λ d. line_of (command_words d)) (c ∷ cs))
    ≡ Ok (at_steps p (ss ++ step.Submit (record b { commands = b.commands ++ c ∷ cs }) ∷ []))
unfolding with_lines
commands_read c [] p ss b h named short =
    let both = and_parts (is_sound_command c) true h in
    let names = and_parts (is_named_command p c) true named in
    let line = words_read (at_batch p ss b 1) (command_words c) class.Command (item.Command c) (command_line c) (reads_command c both.0) (command_plain c both.0) short.0 refl
    (record { due = refl; small = refl; named = names.0 }) in
    rw line refl
commands_read c (d ∷ cs) p ss b h named short =
    let both = and_parts (is_sound_command c) (list_all is_sound_command (d ∷ cs)) h in
    let names = and_parts (is_named_command p c) (list_all (is_named_command p) (d ∷ cs)) named in
    let line = words_read (at_batch p ss b (length (c ∷ d ∷ cs))) (command_words c) class.Command (item.Command c) (command_line c) (reads_command c both.0) (command_plain c both.0) short.0 refl
    (record { due = refl; small = refl; named = names.0 }) in
    one_line (at_batch p ss b (length (c ∷ d ∷ cs))) (at_batch p ss (with_command c b) (length (d ∷ cs))) (line_of (command_words c)) (map (λ x. line_of (command_words x)) (d ∷ cs))
    (line ∙ ap Ok (one_more_comes (at_batch p ss b (length (c ∷ d ∷ cs))) (with_command c b) (length cs)))
    ∙ (commands_read d cs p ss (with_command c b) both.1 names.1 short.1
    ∙ ap (λ xs. Ok (at_steps p (ss ++ step.Submit (record b { commands = xs }) ∷ []))) (append_assoc b.commands (c ∷ []) (d ∷ cs)))

-- the lines of a step
abbrev step_lines : VkStep → List (List ℕ)
step_lines s = line_of (step_words s) ∷ map (λ c. line_of (command_words c)) (commands_of s)

-- the commands of a sound batch
batch_commands : (b : Batch) → is_sound_batch b ≡ true → list_all is_sound_command b.commands ≡ true
batch_commands b h =
    let p0 = and_parts (is_narrow b.queue) (is_wide b.number && (is_narrow (length b.commands) && (list_all is_sound_pair b.waits && (list_all is_sound_pair b.sets && list_all is_sound_command b.commands)))) h in
    let p1 = and_parts (is_wide b.number) (is_narrow (length b.commands) && (list_all is_sound_pair b.waits && (list_all is_sound_pair b.sets && list_all is_sound_command b.commands))) p0.1 in
    let p2 = and_parts (is_narrow (length b.commands)) (list_all is_sound_pair b.waits && (list_all is_sound_pair b.sets && list_all is_sound_command b.commands)) p1.1 in
    let p3 = and_parts (list_all is_sound_pair b.waits) (list_all is_sound_pair b.sets && list_all is_sound_command b.commands) p2.1 in
    (and_parts (list_all is_sound_pair b.sets) (list_all is_sound_command b.commands) p3.1).1

-- the first line of a submission
submit_line : (b : Batch) (p : DevicePlan) (ss : List VkStep) → is_sound_batch b ≡ true → is_named_step p (step.Submit b) ≡ true →
    length (line_of (batch_words b)) ≤ most_in_line → with_line (at_steps p ss) (line_of (batch_words b)) ≡ Ok (submitted (at_steps p ss) (without_commands b) (length b.commands))
submit_line b p ss h named short =
    line_read (at_steps p ss) (codes "submit") (drop 1 (batch_words b)) class.Step (item.Submit (without_commands b) (length b.commands)) (submit_reads b h) (batch_plain b h) short refl
    (record { due = refl; small = refl; named = named })

-- a submission
abbrev of_parts : ℕ → ℕ → List (ℕ × ℕ) → List VkCommand → List (ℕ × ℕ) → Batch
of_parts q n waits cs sets = record { queue = q; number = n; waits = waits; commands = cs; sets = sets }

submit_parts : (q n : ℕ) (waits : List (ℕ × ℕ)) (cs : List VkCommand) (sets : List (ℕ × ℕ)) (p : DevicePlan) (ss : List VkStep) →
    is_sound_batch (of_parts q n waits cs sets) ≡ true → names_all p (step.Submit (of_parts q n waits cs sets)) ≡ true →
    AreShort (step_lines (step.Submit (of_parts q n waits cs sets))) →
    with_lines (at_steps p ss) (step_lines (step.Submit (of_parts q n waits cs sets))) ≡ Ok (at_steps p (ss ++ step.Submit (of_parts q n waits cs sets) ∷ []))
unfolding with_lines
submit_parts q n waits [] sets p ss h named short =
    let names = and_parts (is_named_step p (step.Submit (of_parts q n waits [] sets))) true named in
    rw (submit_line (of_parts q n waits [] sets) p ss h names.0 short.0) refl
submit_parts q n waits (c ∷ cs) sets p ss h named short =
    let b = of_parts q n waits (c ∷ cs) sets in
    let names = and_parts (is_named_step p (step.Submit (of_parts q n waits (c ∷ cs) sets))) (list_all (is_named_command p) (c ∷ cs)) named in
    let line = submit_line (of_parts q n waits (c ∷ cs) sets) p ss h names.0 short.0 in
    one_line (at_steps p ss) (at_batch p ss (of_parts q n waits [] sets) (length (c ∷ cs))) (line_of (batch_words (of_parts q n waits (c ∷ cs) sets))) (map (λ x. line_of (command_words x)) (c ∷ cs))
    (line ∙ ap Ok (some_come (at_steps p ss) (of_parts q n waits [] sets) (length cs)))
    ∙ commands_read c cs p ss (of_parts q n waits [] sets) (batch_commands (of_parts q n waits (c ∷ cs) sets) h) names.1 short.1

submit_read : (b : Batch) (p : DevicePlan) (ss : List VkStep) → is_sound_step (step.Submit b) ≡ true → names_all p (step.Submit b) ≡ true →
    AreShort (step_lines (step.Submit b)) → with_lines (at_steps p ss) (step_lines (step.Submit b)) ≡ Ok (at_steps p (ss ++ step.Submit b ∷ []))
submit_read b p ss h named short = submit_parts b.queue b.number b.waits b.commands b.sets p ss h named short

-- a step that has one line
one_step : (s : VkStep) (p : DevicePlan) (ss : List VkStep) → Reads (step_words s) class.Step (item.Step s) → IsLine (step_words s) → is_sound_step s ≡ true →
    is_named_step p s ≡ true → length (line_of (step_words s)) ≤ most_in_line → with_lines (at_steps p ss) (line_of (step_words s) ∷ []) ≡ Ok (at_steps p (ss ++ s ∷ []))
unfolding with_lines
one_step s p ss reads l h named short =
    let line = words_read (at_steps p ss) (step_words s) class.Step (item.Step s) l reads (step_plain s h) short refl (record { due = refl; small = refl; named = named }) in
    rw line refl

names_step : (p : DevicePlan) (s : VkStep) → names_all p s ≡ true → is_named_step p s ≡ true
names_step p s named = (and_parts (is_named_step p s) (list_all (is_named_command p) (commands_of s)) named).0

step_read : (s : VkStep) (p : DevicePlan) (ss : List VkStep) → is_sound_step s ≡ true → names_all p s ≡ true → AreShort (step_lines s) →
    with_lines (at_steps p ss) (step_lines s) ≡ Ok (at_steps p (ss ++ s ∷ []))
step_read (step.Submit b) p ss h named short = submit_read b p ss h named short
step_read (step.Pass q n) p ss h named short =
    one_step (step.Pass q n) p ss (pass_reads q n h) (record { first = codes "pass"; more = _; is = refl }) h (names_step p (step.Pass q n) named) short.0
step_read (step.Command q n k loaded) p ss h named short =
    one_step (step.Command q n k loaded) p ss (command_reads q n k loaded h) (record { first = codes "command"; more = _; is = refl }) h (names_step p (step.Command q n k loaded) named) short.0
step_read (step.Bump q n) p ss h named short =
    one_step (step.Bump q n) p ss (bump_reads q n h) (record { first = codes "bump"; more = _; is = refl }) h (names_step p (step.Bump q n) named) short.0
step_read (step.HostWrite buffer first words) p ss h named short =
    one_step (step.HostWrite buffer first words) p ss (host_write_reads buffer first words h) (record { first = codes "hostwrite"; more = _; is = refl }) h (names_step p (step.HostWrite buffer first words) named) short.0
step_read (step.HostRead buffer first words) p ss h named short =
    one_step (step.HostRead buffer first words) p ss (host_read_reads buffer first words h) (record { first = codes "hostread"; more = _; is = refl }) h (names_step p (step.HostRead buffer first words) named) short.0
step_read (step.Update heap slot) p ss h named short =
    one_step (step.Update heap slot) p ss (update_reads heap slot h) (record { first = codes "update"; more = _; is = refl }) h (names_step p (step.Update heap slot) named) short.0

-- lists of lines that are short are so each
short_first : (xs ys : List (List ℕ)) → AreShort (xs ++ ys) → AreShort xs
short_first [] ys all = tt
short_first (x ∷ xs) ys all = (all.0, short_first xs ys all.1)

short_second : (xs ys : List (List ℕ)) → AreShort (xs ++ ys) → AreShort ys
short_second [] ys all = all
short_second (x ∷ xs) ys all = short_second xs ys all.1

steps_read : (us : List VkStep) (p : DevicePlan) (ss : List VkStep) → list_all is_sound_step us ≡ true → list_all (names_all p) us ≡ true →
    AreShort (flat_map step_lines us) → with_lines (at_steps p ss) (flat_map step_lines us) ≡ Ok (at_steps p (ss ++ us))
unfolding with_lines
steps_read [] p ss h named short = ap (λ xs. Ok (at_steps p xs)) (sym (append-nil ss))
steps_read (u ∷ us) p ss h named short =
    let both = and_parts (is_sound_step u) (list_all is_sound_step us) h in
    let names = and_parts (names_all p u) (list_all (names_all p) us) named in
    let one = step_read u p ss both.0 names.0 (short_first (step_lines u) (flat_map step_lines us) short) in
    lines_more (at_steps p ss) (at_steps p (ss ++ u ∷ [])) (step_lines u) (flat_map step_lines us) one
    ∙ (steps_read us p (ss ++ u ∷ []) both.1 names.1 (short_second (step_lines u) (flat_map step_lines us) short)
    ∙ ap (λ xs. Ok (at_steps p xs)) (append_assoc ss (u ∷ []) us))

-- the text of lines: each is ended by a line feed
abbrev text_of_lines : List (List ℕ) → List ℕ
text_of_lines lines = flat_map (λ line. line ++ 10 ∷ []) lines

both_texts : (xs ys : List (List ℕ)) → text_of_lines (xs ++ ys) ≡ text_of_lines xs ++ text_of_lines ys
both_texts xs ys = flat_map-append (λ line. line ++ 10 ∷ []) xs ys

each_text : {A : Type 0} (words : A → List (List ℕ)) (text : A → List ℕ) → ((x : A) → text x ≡ line_of (words x) ++ 10 ∷ []) → (xs : List A) →
    flat_map text xs ≡ text_of_lines (map (λ x. line_of (words x)) xs)
each_text words text is [] = refl
each_text words text is (x ∷ xs) = rw (is x, each_text words text is xs) refl

-- the texts of lines
buffer_line : (b : PlanBuffer) → buffer_text b ≡ line_of (buffer_words b) ++ 10 ∷ []
unfolding buffer_text
buffer_line b = line_is (codes "buffer") _

image_line : (i : PlanImage) → image_text i ≡ line_of (image_words i) ++ 10 ∷ []
unfolding image_text
image_line i = line_is (codes "image") _

heap_line : (s : ℕ) → heap_text s ≡ line_of (heap_words s) ++ 10 ∷ []
unfolding heap_text
heap_line s = line_is (codes "heap") _

view_text_is : (v : PlanView) → view_text v ≡ line_of (view_words v) ++ 10 ∷ []
unfolding view_text
view_text_is (view.Buffer c buffer first words) = line_is (codes "view") _
view_text_is (view.Image c image sub) = line_is (codes "view") _

words_text : (ws : List (List ℕ)) → IsLine ws → line_text ws ≡ line_of ws ++ 10 ∷ []
words_text [] l = let is = l.is in cc
words_text (w ∷ ws) l = line_is w ws

command_text_is : (c : VkCommand) → command_text c ≡ line_of (command_words c) ++ 10 ∷ []
unfolding command_text
command_text_is c = words_text (command_words c) (command_line c)

step_line : (s : VkStep) → IsLine (step_words s)
step_line (step.Submit b) = record { first = codes "submit"; more = _; is = refl }
step_line (step.Pass q n) = record { first = codes "pass"; more = _; is = refl }
step_line (step.Command q n k loaded) = record { first = codes "command"; more = _; is = refl }
step_line (step.Bump q n) = record { first = codes "bump"; more = _; is = refl }
step_line (step.HostWrite buffer first words) = record { first = codes "hostwrite"; more = _; is = refl }
step_line (step.HostRead buffer first words) = record { first = codes "hostread"; more = _; is = refl }
step_line (step.Update heap slot) = record { first = codes "update"; more = _; is = refl }

step_text_is : (s : VkStep) → step_text s ≡ text_of_lines (step_lines s)
unfolding step_text
step_text_is s = rw (words_text (step_words s) (step_line s), each_text command_words command_text command_text_is (commands_of s)) refl

steps_text : (ss : List VkStep) → flat_map step_text ss ≡ text_of_lines (flat_map step_lines ss)
steps_text [] = refl
steps_text (s ∷ ss) =
    rw (step_text_is s, steps_text ss) (sym (both_texts (step_lines s) (flat_map step_lines ss)))

-- the lines of a journal
abbrev header : List (List ℕ)
header = codes "vkjournal" ∷ codes "1" ∷ []

abbrev last_words : List (List ℕ)
last_words = codes "end" ∷ []

abbrev step_part : List VkStep → List (List ℕ)
step_part steps = flat_map step_lines steps ++ line_of last_words ∷ []

abbrev counts_part : DevicePlan → List VkStep → List (List ℕ)
counts_part plan steps = line_of (queues_words plan) ∷ step_part steps

abbrev views_part : DevicePlan → List VkStep → List (List ℕ)
views_part plan steps = map (λ v. line_of (view_words v)) plan.views ++ counts_part plan steps

abbrev heaps_part : DevicePlan → List VkStep → List (List ℕ)
heaps_part plan steps = map (λ s. line_of (heap_words s)) plan.heaps ++ views_part plan steps

abbrev images_part : DevicePlan → List VkStep → List (List ℕ)
images_part plan steps = map (λ i. line_of (image_words i)) plan.images ++ heaps_part plan steps

abbrev buffers_part : DevicePlan → List VkStep → List (List ℕ)
buffers_part plan steps = map (λ b. line_of (buffer_words b)) plan.buffers ++ images_part plan steps

abbrev all_lines : DevicePlan → List VkStep → List (List ℕ)
all_lines plan steps = line_of header ∷ buffers_part plan steps

-- the text of a journal is that of its lines
steps_end : (steps : List VkStep) → flat_map step_text steps ++ line_text last_words ≡ text_of_lines (step_part steps)
steps_end steps = rw (steps_text steps, line_is (codes "end") []) (sym (both_texts (flat_map step_lines steps) (line_of last_words ∷ [])))

text_is : (plan : DevicePlan) (steps : List VkStep) → journal_text plan steps ≡ text_of_lines (all_lines plan steps)
unfolding journal_text plan_text
text_is plan steps =
    let a = flat_map buffer_text plan.buffers in
    let b = flat_map image_text plan.images in
    let c = flat_map heap_text plan.heaps in
    let d = flat_map view_text plan.views in
    let e = line_text (queues_words plan) in
    let f = flat_map step_text steps ++ line_text last_words in
    let right : (a ++ (b ++ (c ++ (d ++ e)))) ++ f ≡ a ++ (b ++ (c ++ (d ++ (e ++ f)))) =
    append_assoc a (b ++ (c ++ (d ++ e))) f
    ∙ ap (λ x. a ++ x) (append_assoc b (c ++ (d ++ e)) f ∙ ap (λ x. b ++ x) (append_assoc c (d ++ e) f ∙ ap (λ x. c ++ x) (append_assoc d e f))) in
    let counts : e ++ f ≡ text_of_lines (counts_part plan steps) = rw (line_is (codes "queues") (drop 1 (queues_words plan)), steps_end steps) refl in
    let views : d ++ (e ++ f) ≡ text_of_lines (views_part plan steps) =
    rw (each_text view_words view_text view_text_is plan.views, counts) (sym (both_texts (map (λ v. line_of (view_words v)) plan.views) (counts_part plan steps))) in
    let heaps : c ++ (d ++ (e ++ f)) ≡ text_of_lines (heaps_part plan steps) =
    rw (each_text heap_words heap_text heap_line plan.heaps, views) (sym (both_texts (map (λ s. line_of (heap_words s)) plan.heaps) (views_part plan steps))) in
    let images : b ++ (c ++ (d ++ (e ++ f))) ≡ text_of_lines (images_part plan steps) =
    rw (each_text image_words image_text image_line plan.images, heaps) (sym (both_texts (map (λ i. line_of (image_words i)) plan.images) (heaps_part plan steps))) in
    let buffers : a ++ (b ++ (c ++ (d ++ (e ++ f)))) ≡ text_of_lines (buffers_part plan steps) =
    rw (each_text buffer_words buffer_text buffer_line plan.buffers, images) (sym (both_texts (map (λ b. line_of (buffer_words b)) plan.buffers) (images_part plan steps))) in
    ap (λ x. line_text header ++ x) (right ∙ buffers) ∙ ap (λ x. x ++ text_of_lines (buffers_part plan steps)) (line_is (codes "vkjournal") (codes "1" ∷ []))

-- lines of plain bytes
abbrev AreBytes : List (List ℕ) → Type 0
AreBytes lines = AllByRecursion (λ line. list_all is_plain_byte line ≡ true) lines

bytes_both : (xs ys : List (List ℕ)) → AreBytes xs → AreBytes ys → AreBytes (xs ++ ys)
bytes_both [] ys one other = other
bytes_both (x ∷ xs) ys one other = (one.0, bytes_both xs ys one.1 other)

line_bytes : (ws : List (List ℕ)) → AllPlain ws → list_all is_plain_byte (line_of ws) ≡ true
line_bytes [] plain = refl
line_bytes (w ∷ ws) plain = let words = are_plain (w ∷ ws) plain in plain_line w ws words.0 words.1

each_bytes : {A : Type 0} (words : A → List (List ℕ)) (sound : A → Bool) → ((x : A) → sound x ≡ true → AllPlain (words x)) → (xs : List A) →
    list_all sound xs ≡ true → AreBytes (map (λ x. line_of (words x)) xs)
each_bytes words sound plain [] h = tt
each_bytes words sound plain (x ∷ xs) h =
    let both = and_parts (sound x) (list_all sound xs) h in (line_bytes (words x) (plain x both.0), each_bytes words sound plain xs both.1)

step_commands : (s : VkStep) → is_sound_step s ≡ true → list_all is_sound_command (commands_of s) ≡ true
step_commands (step.Submit b) h = batch_commands b h
step_commands (step.Pass q n) h = refl
step_commands (step.Command q n k loaded) h = refl
step_commands (step.Bump q n) h = refl
step_commands (step.HostWrite buffer first words) h = refl
step_commands (step.HostRead buffer first words) h = refl
step_commands (step.Update heap slot) h = refl

steps_bytes : (ss : List VkStep) → list_all is_sound_step ss ≡ true → AreBytes (flat_map step_lines ss)
steps_bytes [] h = tt
steps_bytes (s ∷ ss) h =
    let both = and_parts (is_sound_step s) (list_all is_sound_step ss) h in
    bytes_both (step_lines s) (flat_map step_lines ss)
    (line_bytes (step_words s) (step_plain s both.0), each_bytes command_words is_sound_command command_plain (commands_of s) (step_commands s both.0))
    (steps_bytes ss both.1)

all_bytes : (plan : DevicePlan) (steps : List VkStep) → IsSound plan steps → AreBytes (all_lines plan steps)
all_bytes plan steps s = (
  refl,
  bytes_both (map (λ b. line_of (buffer_words b)) plan.buffers) (images_part plan steps) (each_bytes buffer_words is_sound_buffer buffer_plain plan.buffers s.buffers)
      (bytes_both (map (λ i. line_of (image_words i)) plan.images) (heaps_part plan steps) (each_bytes image_words is_sound_image image_plain plan.images s.images)
      (bytes_both (map (λ n. line_of (heap_words n)) plan.heaps) (views_part plan steps) (each_bytes heap_words is_narrow heap_plain plan.heaps s.heaps)
      (bytes_both (map (λ v. line_of (view_words v)) plan.views) (counts_part plan steps) (each_bytes view_words is_sound_view view_plain plan.views s.views)
      (line_bytes (queues_words plan) (queues_plain plan s.counts), bytes_both (flat_map step_lines steps) (line_of last_words ∷ []) (steps_bytes steps s.steps) (refl, tt))))),
)

-- a plain byte is no line feed
plain_feeds : (b : ℕ) → is_plain_byte b ≡ true → eqb b 10 ≡ false
plain_feeds b h = grind (arith, nat_tests)

-- the pieces of the text of such lines
pieces_back : (lines : List (List ℕ)) → AreBytes lines → pieces_of (text_of_lines lines) ≡ lines ++ [] ∷ []
pieces_back [] all = refl
pieces_back (line ∷ lines) all =
    ap (slice_split (λ b. eqb b 10)) (append_assoc line (10 ∷ []) (text_of_lines lines))
    ∙ (slice_split_at (λ b. eqb b 10) line 10 (text_of_lines lines) (apart_from 10 is_plain_byte line plain_feeds all.0) refl
    ∙ ap (λ more. line ∷ more) (pieces_back lines all.1))

-- lines that are short
all_short : (lines : List (List ℕ)) → All (λ line. length line ≤ most_in_line) (lines ++ [] ∷ []) → AreShort lines
all_short [] all = tt
all_short (line ∷ lines) all =
    (All-head (λ line. length line ≤ most_in_line) line (lines ++ [] ∷ []) all, all_short lines (All-tail (λ line. length line ≤ most_in_line) line (lines ++ [] ∷ []) all))

-- the lines of a journal are read as it
abbrev ended : DevicePlan → List VkStep → Reading
ended plan steps = record { due = class.Step; ended = true; plan = plan; steps = steps; batch = None }

steps_last : (plan : DevicePlan) (steps : List VkStep) → IsSound plan steps → AreShort (step_part steps) → with_lines (at_steps plan []) (step_part steps) ≡ Ok (ended plan steps)
unfolding with_lines
steps_last plan steps s short =
    let all = steps_read steps plan [] s.steps s.named_steps (short_first (flat_map step_lines steps) (line_of last_words ∷ []) short) in
    let end : with_line (at_steps plan steps) (line_of last_words) ≡ Ok (ended plan steps) =
    line_read (at_steps plan steps) (codes "end") [] class.Step item.End end_reads (refl, tt) (lit_short) refl (record { due = refl; small = refl; named = refl }) in
    lines_more (at_steps plan []) (at_steps plan steps) (flat_map step_lines steps) (line_of last_words ∷ []) all ∙ (rw end refl)
  where
    lit_short : length (line_of last_words) ≤ most_in_line
    lit_short = omega arith

counts_read : (plan : DevicePlan) (steps : List VkStep) → IsSound plan steps → AreShort (counts_part plan steps) →
    with_lines (at_plan (record plan { queues = 0; timelines = 0 })) (counts_part plan steps) ≡ Ok (ended plan steps)
counts_read plan steps s short =
    let line = line_read (at_plan (record plan { queues = 0; timelines = 0 })) (codes "queues") (drop 1 (queues_words plan)) class.Plan (item.Queues plan.queues plan.timelines)
    (queues_reads plan s.counts) (queues_plain plan s.counts) short.0 refl (record { due = refl; small = refl; named = refl }) in
    one_line (at_plan (record plan { queues = 0; timelines = 0 })) (at_steps plan []) (line_of (queues_words plan)) (step_part steps) line ∙ steps_last plan steps s short.1

lines_read : (plan : DevicePlan) (steps : List VkStep) → IsSound plan steps → AreShort (all_lines plan steps) → with_lines opening (all_lines plan steps) ≡ Ok (ended plan steps)
lines_read plan steps s short =
    let p0 : DevicePlan = no_plan in
    let p1 : DevicePlan = record no_plan { buffers = plan.buffers } in
    let p2 : DevicePlan = record no_plan { buffers = plan.buffers; images = plan.images } in
    let p3 : DevicePlan = record no_plan { buffers = plan.buffers; images = plan.images; heaps = plan.heaps } in
    let p4 : DevicePlan = record plan { queues = 0; timelines = 0 } in
    let l0 = map (λ b. line_of (buffer_words b)) plan.buffers in
    let l1 = map (λ i. line_of (image_words i)) plan.images in
    let l2 = map (λ n. line_of (heap_words n)) plan.heaps in
    let l3 = map (λ v. line_of (view_words v)) plan.views in
    let s0 = short.1 in
    let s1 = short_second l0 (images_part plan steps) s0 in
    let s2 = short_second l1 (heaps_part plan steps) s1 in
    let s3 = short_second l2 (views_part plan steps) s2 in
    let s4 = short_second l3 (counts_part plan steps) s3 in
    let first = line_read opening (codes "vkjournal") (codes "1" ∷ []) class.Header item.Header header_reads (refl, (refl, tt)) short.0 refl (record { due = refl; small = refl; named = refl }) in
    let buffers = buffers_read plan.buffers p0 s.buffers (short_first l0 (images_part plan steps) s0) in
    let images = images_read plan.images p1 s.images (short_first l1 (heaps_part plan steps) s1) in
    let heaps = heaps_read plan.heaps p2 s.heaps (short_first l2 (views_part plan steps) s2) in
    let views = views_read plan.views p3 s.views (named plan.views s.named_views) (short_first l3 (counts_part plan steps) s3) in
    one_line opening (at_plan p0) (line_of header) (buffers_part plan steps) first
    ∙ (lines_more (at_plan p0) (at_plan p1) l0 (images_part plan steps) buffers
    ∙ (lines_more (at_plan p1) (at_plan p2) l1 (heaps_part plan steps) images
    ∙ (lines_more (at_plan p2) (at_plan p3) l2 (views_part plan steps) heaps
    ∙ (lines_more (at_plan p3) (at_plan p4) l3 (counts_part plan steps) views ∙ counts_read plan steps s s4))))
  where
    one : (v : PlanView) → is_named_view plan v ≡ true → is_named_view (record no_plan { buffers = plan.buffers; images = plan.images; heaps = plan.heaps }) v ≡ true
    one (view.Buffer c buffer first words) h = h
    one (view.Image c image sub) h = h

    named : (vs : List PlanView) → list_all (is_named_view plan) vs ≡ true →
        list_all (is_named_view (record no_plan { buffers = plan.buffers; images = plan.images; heaps = plan.heaps })) vs ≡ true
    named [] h = refl
    named (v ∷ vs) h =
        let both = and_parts (is_named_view plan v) (list_all (is_named_view plan) vs) h in
        and_from (is_named_view (record no_plan { buffers = plan.buffers; images = plan.images; heaps = plan.heaps }) v)
        (list_all (is_named_view (record no_plan { buffers = plan.buffers; images = plan.images; heaps = plan.heaps })) vs) (one v both.0) (named vs both.1)

-- behind lines nothing more stands
some_first : (lines : List (List ℕ)) → HasFirst (lines ++ [] ∷ [])
some_first [] = record { first = []; others = []; is = refl }
some_first (line ∷ lines) = record { first = line; others = lines ++ [] ∷ []; is = refl }

-- what fits is found
sized_is : (end : ℕ) (found : Result Reading Cause) → end ≤ most_bytes → sized end found ≡ found
unfolding sized
sized_is end found small = rw (le-ltb most_bytes end small) refl

-- what ended stays as it is
ends_with : (r : Reading) → r.ended ≡ true → with_last r [] ≡ Ok r
unfolding with_last
ends_with r is = rw is refl

-- a line and its line feed
length_line : (line : List ℕ) (lines : List (List ℕ)) → length (text_of_lines (line ∷ lines)) ≡ length line + 1 + length (text_of_lines lines)
length_line line lines = omega (arith, length-append (line ++ 10 ∷ []) (text_of_lines lines), length-append line (10 ∷ []))

-- lines that can be read are read as pieces
lines_from : (lines : List (List ℕ)) (n at : ℕ) (r s : Reading) → with_lines r lines ≡ Ok s → s.ended ≡ true →
    at + length (text_of_lines lines) ≤ most_bytes → pieces_from n at r (lines ++ [] ∷ []) ≡ Ok s
unfolding with_lines pieces_from
lines_from [] n at r s e ended small =
    let same : r ≡ s = cc in
    rw (sized_is (at + 0) (with_last r []) (omega (arith, small)), ends_with r (subst (λ u. u.ended ≡ true) (sym same) ended)) (ap Ok same)
lines_from (line ∷ lines) n at r s e ended small =
    by_line (with_line r line) refl
    (λ u more. lines_from lines (n + 1) (at + length line + 1) u s more ended (omega (arith, length_line line lines, small))) e
  where
    by_line : (found : Result Reading Cause) → with_line r line ≡ found →
        ((u : Reading) → with_lines u lines ≡ Ok s → pieces_from (n + 1) (at + length line + 1) u (lines ++ [] ∷ []) ≡ Ok s) →
        and_then found (λ u. with_lines u lines) ≡ Ok s → pieces_from n at r ((line ∷ lines) ++ [] ∷ []) ≡ Ok s
    by_line (Err c) is more e = cc
    by_line (Ok u) is more e =
        let fits : at + length line + 1 ≤ most_bytes = omega (arith, length_line line lines, small) in
        stepped n at r line (lines ++ [] ∷ []) (some_first lines)
        ∙ (rw (sized_is (at + length line + 1) (with_line r line) fits, is) (more u e))

pub prints_back : PrintsBack
unfolding journal_of reading_of
prints_back plan steps s short =
    let text = text_is plan steps in
    let bytes = all_bytes plan steps s in
    let pieces : pieces_of (journal_text plan steps) ≡ all_lines plan steps ++ [] ∷ [] = ap pieces_of text ∙ pieces_back (all_lines plan steps) bytes in
    let lines = all_short (all_lines plan steps) (subst (λ ps. All (λ line. length line ≤ most_in_line) ps) pieces short.lines) in
    let whole : 0 + length (text_of_lines (all_lines plan steps)) ≤ most_bytes = omega (arith, short.whole, ap length text) in
    let read = lines_from (all_lines plan steps) 1 0 opening (ended plan steps) (lines_read plan steps s lines) refl whole in
    rw (pieces, read) refl
