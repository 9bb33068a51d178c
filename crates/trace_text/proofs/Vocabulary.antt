-- The words of the lemmas, from the definitions and from the standard library.
pub use Rattle.line_forms.proofs.Vocabulary.{All, All-append, All-cons, All-from_recursion, All-head, All-nil, All-tail, All-take, AllByRecursion, AllGood, AllOr, AllOrNumber, AreNamed as AreCalled, Bool, Choice, CutsOff, DataWord, Err, FlagWord, IsEquivalence, IsGoodLine, Known, List, Name, Naming, NewName, None, Number, Ok, Option, Place, Result, Row, Set, Some, Word, [], add-one, add-zero, all_tests, and_from, and_parts, ap, append-nil, append_assoc, arith, bytes_eq, comparing, cond, cond_both, drop, drop-cons, drop_all, eqb, eqb-false, eqb-true, false, filter, flat_map, flat_map-append, get_or, if◌then◌else◌, inl, inr, is_letter, is_name_byte, is_named_line, is_plain_byte, is_some, is_sound_line, join_with_byte, join_with_byte-slice_split, le-leb, le-ltb, leb-false, leb-true, leb_tells, length, length-append, length-drop, length-map, length-take-le, list_all, list_all-append, list_all-map, list_any, lit≤, lookup, lt-leb, lt-ltb, ltb-false, ltb-true, map, map-id, map_push, nat_le, nat_lt, nat_tests, nil_from_length, not, onto_first, or_form, or_from, or_parts, pieces_of, props, range_with_len, refl, shaped_from, shaped_line, slice_get, slice_get-get_or, slice_get_within, slice_set, slice_split, slice_split-cons_no, slice_split-cons_yes, slice_split_at, slice_split_none, subst, suc, sum_by, sum_by-append, sum_by-cons, sum_by_push, sym, take, take-append-le, take_all, true, words_of, wrapped, zero, ℕ, ∥∥₁_elim, ◌&&◌, ◌++◌, ◌+◌, ◌-◌, ◌/◌, ◌<◌, ◌==◌, ◌^◌, ◌||◌, ◌∙◌, ◌∷◌, ◌≡◌, ◌≤◌, ◌⊎◌}
unfoldable pub use Rattle.line_forms.proofs.Vocabulary.{two_of, word_of, each_of, read_parts, read_rest, data_word_of, form_for, is_name, is_plain, joined, line_text, line_words, part_texts, read_row, rest_of_line, rest_texts, spaced, text_of}
pub use Rattle.d3d_machine.specs.Counts.{calls_in_all, lists_in_all, lists_of_call}
pub use Rattle.d3d_machine.specs.World.{IsWorld, are_named, is_named, is_small_resource}
pub use Rattle.d3d_machine.specs.declared.calls.Call.{Call}
pub use Rattle.d3d_machine.specs.declared.events.Event.{Event}
pub use Rattle.d3d_machine.specs.declared.world.World.{World}
pub use Rattle.indexmap.specs.IndexMap.{insert_entry}
pub use Rattle.line_forms.proofs.Good.{is_kept, line_kept, prints_back, reads_again}
pub use Rattle.line_forms.proofs.PlainWords.{ArePlain, IsPlainWord, apart_from, are_words, line_again, line_is, line_of, plain_line, words_again}
pub use Rattle.line_forms.proofs.ShortLines.{AreShortNames, bounded_short, is_bounded, is_plain_part, line_plain, line_short}
pub use Rattle.line_forms.proofs.Tests.{line_from, named_read, new_read, new_tests, pass, pass_one, sound_read}
pub use Rattle.trace_lines.specs.Formed.{Formed, call_formed, formed, item_formed, item_words, list_named, made}
unfoldable pub use Rattle.trace_lines.specs.Formed.{item_text}
pub use Rattle.trace_lines.specs.Forms.{class_of, form_row, forms}
pub use Rattle.trace_text.specs.Grammar.{IsTextOf, text_of_lines}
pub use Rattle.trace_text.specs.Items.{items_of}
unfoldable pub use Rattle.trace_text.specs.Items.{object_items, thread_items, trace_text}
pub use Rattle.trace_lines.specs.Kinds.{count_of, is_refused_size, kind_of, most_of, next_thing, words_of_all, words_of_object}
unfoldable pub use Rattle.trace_lines.specs.Kinds.{is_one_too_many}
pub use Rattle.trace_lines.specs.Known.{KnownNames, known_names, known_of}
unfoldable pub use Rattle.trace_lines.specs.Known.{names_of_kind}
unfoldable pub use Rattle.trace_lines.specs.Later.{is_later}
pub use Rattle.trace_lines.specs.Names.{name_at}
pub use Rattle.trace_text.specs.Reading.{and_then, by_form, has_queue, has_thread, is_formless, is_header, is_misplaced, is_second, naming_of, object_named, opening}
unfoldable pub use Rattle.trace_text.specs.Reading.{fault_of_place, is_over, meant_of, placed_of, read_item, taken_of, with_item, with_words}
unfoldable pub use Rattle.trace_text.specs.Scripts.{is_call_too_many, with_call}
pub use Rattle.trace_text.specs.Seen.{seen}
pub use Rattle.trace_text.specs.Sound.{IsSound, is_fit_name, is_sound_call, is_sound_object}
pub use Rattle.trace_text.specs.Texts.{at_line, is_skipped}
unfoldable pub use Rattle.trace_text.specs.Texts.{pieces_from, reading_of, sized, with_last, with_line}
pub use Rattle.trace_lines.specs.Things.{Names, kind_code, numbered, same_kind}
unfoldable pub use Rattle.trace_lines.specs.Things.{new_name, number_named, thing_of}
pub use Rattle.trace_text.specs.Values.{AreLinesOf, IsWritten, Value, value_in, valued}
unfoldable pub use Rattle.trace_text.specs.Values.{value_of, with_lines}
pub use Rattle.trace_text.specs.WorldOf.{allocator_in, fence_in, list_in, no_objects, objects_of, queue_in, resource_in, with_object, world_of_value}
unfoldable pub use Rattle.trace_text.specs.WorldOf.{objects_from}
pub use Rattle.trace_lines.specs.declared.form.Class.{Class}
pub use Rattle.trace_lines.specs.declared.form.Form.{Form}
pub use Rattle.trace_lines.specs.declared.item.Item.{Item}
pub use Rattle.trace_lines.specs.declared.item.Item.TheVariants.{Calls, Declares, Ends, Header, Starts}
pub use Rattle.trace_lines.specs.declared.object.Declared.{Declared}
pub use Rattle.trace_lines.specs.declared.object.Declared.TheVariants.{Allocator, Buffer, Fence, List as list, Queue}
pub use Rattle.trace_text.specs.declared.reading.Reading.{Reading}
pub use Rattle.trace_lines.specs.declared.things.Thing.{Thing}
pub use Rattle.trace_text.specs.declared.trace.Trace.{Trace}
pub use Rattle.line_forms.specs.declared.cause.Cause.{Cause}
pub use Rattle.line_forms.specs.declared.form.Line.{Line}
pub use Rattle.line_forms.specs.declared.kind.Kind.{Kind}
