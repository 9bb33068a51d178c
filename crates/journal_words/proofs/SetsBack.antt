-- A printed set is read as what it was printed from: each of the sets is tried.
use Rattle.std.proofs.Common.{ℕ, ◌≡◌, ◌==◌, Bool, true, false, List, Result, Ok, Err, refl, arith}
use Rattle.std.specs.List.{list_all}
use Rattle.std.proofs.lemmas.Bool.Decides.{nat_tests}
use Rattle.line_forms.specs.declared.cause.Cause.{Cause}
use Rattle.line_forms.specs.Sets.{set_from, set_in, set_text}
use Rattle.line_forms.proofs.SetsBack.{below, each_below}
use Rattle.trace_words.specs.Rows.{row_of}
use Rattle.journal_words.specs.SoundWords.{is_access_set, is_stage_set}
use Rattle.journal_words.specs.Tables.{access_rows, stage_rows}
use Rattle.journal_words.specs.Words.{set_of, set_word}

unfoldable reads_as : Result ℕ Cause → ℕ → Bool
reads_as (Ok n) s = n == s
reads_as (Err e) s = false

reads_so : (r : Result ℕ Cause) (s : ℕ) → reads_as r s ≡ true → r ≡ Ok s
unfolding reads_as
reads_so (Ok n) s e = let same : n ≡ s = grind (arith, nat_tests) in rw same refl
reads_so (Err c) s e = cc

unfoldable is_back : List (List ℕ × ℕ) → ℕ → Bool
is_back rows s = reads_as (set_of rows (set_word rows s)) s

all_stages_back : list_all (is_back stage_rows) (below 16) ≡ true
unfolding below is_back reads_as set_of set_word set_from set_in set_text row_of
all_stages_back = refl

all_accesses_back : list_all (is_back access_rows) (below 512) ≡ true
unfolding below is_back reads_as set_of set_word set_from set_in set_text row_of
all_accesses_back = refl

pub stages_back : (s : ℕ) → is_stage_set s ≡ true → set_of stage_rows (set_word stage_rows s) ≡ Ok s
unfolding is_back
stages_back s h =
    reads_so (set_of stage_rows (set_word stage_rows s)) s (each_below (is_back stage_rows) 16 s all_stages_back (grind (arith, nat_tests)))

pub accesses_back : (s : ℕ) → is_access_set s ≡ true → set_of access_rows (set_word access_rows s) ≡ Ok s
unfolding is_back
accesses_back s h =
    reads_so (set_of access_rows (set_word access_rows s)) s (each_below (is_back access_rows) 512 s all_accesses_back (grind (arith, nat_tests)))
