-- The words of the lemmas, from the definitions and from the standard library.
pub use Rattle.line_forms.specs.Causes.{rank_of, wrapped}
unfoldable pub use Rattle.line_forms.specs.Causes.{earlier_of, two_of}
pub use Rattle.line_forms.specs.Choices.{as_choice, choice_text, choices_of, class_in, home_in, layout_in, routine_in, shared_in, type_in, version_in, visible_in}
unfoldable pub use Rattle.line_forms.specs.Choices.{chosen}
unfoldable pub use Rattle.line_forms.specs.Finding.{form_for}
pub use Rattle.line_forms.specs.Laws.{AllGood, AllParts, AreNamed, IsGood, IsGoodLine, IsGrammar, PrintsBack, ReadsAgain, are_apart, differ, is_other, shaped, shaped_from, shaped_line, shaped_rest}
unfoldable pub use Rattle.line_forms.specs.Laws.{all_apart, apart}
unfoldable pub use Rattle.line_forms.specs.Lines.{flag_word, hex_from, hex_word, line_text, rest_of_line, without_zeros}
pub use Rattle.line_forms.specs.Parts.{AllOr, AllOrNumber, Choice, DataWord, FlagWord, Name, NewName, Number, Place, Row, Set, Word, place_of}
pub use Rattle.line_forms.specs.Printing.{Known, part_text}
unfoldable pub use Rattle.line_forms.specs.Printing.{joined, line_words, part_texts, rest_texts, spaced, text_of}
pub use Rattle.line_forms.specs.Reading.{Naming, all_text, or_form, read_at, read_part}
unfoldable pub use Rattle.line_forms.specs.Reading.{all_or_of, each_of, number_of, read_parts, read_rest, read_row, stands_for, word_of}
pub use Rattle.line_forms.specs.Says.{AreNamesOf, IsAllOr, IsAmong, IsChoice, IsDecimal, IsEachWrong, IsFirstCause, IsHexadecimal, IsLineWrong, IsNoDecimal, IsNoHexadecimal, IsRestWrong, IsSetOf, IsSomeWrong, IsWrong, SayAll, SayEach, SayRest, Says, SaysLine, bits_of}
pub use Rattle.line_forms.specs.Sets.{rows_of, with_bit}
unfoldable pub use Rattle.line_forms.specs.Sets.{set_from, set_in, set_text}
pub use Rattle.line_forms.specs.Sound.{all_tests, is_named_line, is_sound_line}
pub use Rattle.line_forms.specs.Values.{all_or_in, all_or_number_in, choice_in, id_in, name_in, number_in, value_at, word_in}
pub use Rattle.line_forms.specs.declared.cause.Cause.{Cause}
pub use Rattle.line_forms.specs.declared.choice.Choice.{Choice as Chosen}
pub use Rattle.line_forms.specs.declared.choice.Choices.{Choices}
pub use Rattle.line_forms.specs.declared.form.Line.{Line}
pub use Rattle.line_forms.specs.declared.kind.Kind.{Kind}
pub use Rattle.line_forms.specs.declared.part.PartValue.{PartValue}
pub use Rattle.line_forms.specs.declared.part.Rest.{Rest}
pub use Rattle.line_forms.specs.declared.part.Rest.TheVariants.{Names, Nothing, Words}
pub use Rattle.line_forms.specs.declared.sets.SetOf.{SetOf}
pub use Rattle.std.proofs.Common.{Bool, Bor, Err, List, None, Ok, Option, Result, Some, [], add-one, add-zero, ap, append-nil, append_assoc, arith, bit_and, bit_or, cond, decimal, drop, drop-cons, eqb, false, flat_map, get_or, if◌then◌else◌, inl, inr, is_some, length, length-append, length-take-le, lit≤, map, min, nat_le, nat_lt, not, refl, rules, slice_get, slice_set, subst, suc, sum_by, sym, take, true, zero, ℕ, ◌%◌, ◌&&◌, ◌*◌, ◌++◌, ◌+◌, ◌-◌, ◌/◌, ◌<◌, ◌==◌, ◌^◌, ◌||◌, ◌∙◌, ◌∷◌, ◌≡◌, ◌≢◌, ◌≤◌, ◌⊎◌}
pub use Rattle.std.proofs.Math.Logic.{∥∥₁_elim}
pub use Rattle.std.proofs.Props.{props}
pub use Rattle.std.proofs.lemmas.Bool.{and_from, and_parts, cond_both, eqb-false, eqb-true, false_from_ne_true, le-leb, le-ltb, leb-false, leb-true, lt-leb, lt-ltb, ltb-false, ltb-true, or_cases, or_from, or_parts}
pub use Rattle.std.proofs.lemmas.Bool.Decides.{leb_tells, nat_tests, not_from_Decides}
pub use Rattle.std.proofs.lemmas.Fmt.{decimal-digits_value, decimal_digit, decimal_is_IsNumeral, first_decimal, length-decimal-le}
pub use Rattle.std.proofs.lemmas.Grind.{flat_map-append}
pub use Rattle.std.proofs.lemmas.List.{drop_all, length-drop, length-map, map-id, map_push, nil_from_length, take-append-le, take_all}
pub use Rattle.std.proofs.lemmas.List.Elements.{All-append, All-cons, All-from_recursion, All-head, All-nil, All-tail, All-take}
pub use Rattle.std.proofs.lemmas.List.Folds.{list_all-append, list_all-map}
pub use Rattle.std.proofs.lemmas.List.Splits.{join_with_byte-slice_split, length-slice_split, slice_split-cons_no, slice_split-cons_yes, slice_split_at, slice_split_none}
pub use Rattle.std.proofs.lemmas.List.Sums.{sum_by-append, sum_by-cons, sum_by_push}
pub use Rattle.std.proofs.lemmas.Nat.{and_or_apart, and_or_self, le_or_r, or_lt}
pub use Rattle.std.proofs.lemmas.Option.{slice_get-get_or, slice_get_within}
pub use Rattle.std.proofs.lemmas.Slice.Eq.{bytes_eq-Decides}
pub use Rattle.std.specs.Char.{digit_char, digit_value, is_ascii_digit}
pub use Rattle.std.specs.Cmp.{IsEquivalence}
pub use Rattle.std.specs.Cmp.Rules.{comparing}
pub use Rattle.std.specs.List.{All, AllByRecursion, filter, join_with_byte, list_all, list_any, onto_first, range_with_len, slice_split}
pub use Rattle.std.specs.Map.{lookup}
pub use Rattle.std.specs.Str.{bytes_eq}
pub use Rattle.std.specs.Str.Parse.{AllDigits, digits_value}
pub use Rattle.trace_words.proofs.Digits.{hex_fits, number_digits, passes_at}
pub use Rattle.trace_words.specs.Cut.{CutsOff, pieces_at}
pub use Rattle.trace_words.specs.Lines.{is_plain_byte, pieces_of, words_of}
unfoldable pub use Rattle.trace_words.specs.Lines.{is_plain}
unfoldable pub use Rattle.trace_words.specs.Rows.{row_of}
pub use Rattle.trace_words.specs.Words.{is_hex_digit, is_letter, is_name_byte}
unfoldable pub use Rattle.trace_words.specs.Words.{data_word_of, is_data_word, is_name, is_number}
