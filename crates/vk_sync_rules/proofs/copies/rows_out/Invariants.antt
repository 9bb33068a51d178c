-- The rows so far.
use Rattle.std.proofs.Common.{◌≡◌, Some, None, map}
use Rattle.vk_sync_rules.specs.Copies.{row_of_buffer, row_of_image}
use Rattle.vk_sync_rules.specs.Numbers.{up_to}
use Rattle.vk_sync_rules.specs.Sizes.{row_words_of}
use Rattle.vk_sync_rules.proofs.copies.rows_out.Given as goal

abbrev pub invariant-loop-row : goal.invariant-loop-row
invariant-loop-row l =
    l.rows ≡ map (λ row. record {
      from = row_of_image l.image l.sub (row_words_of l.plan l.image l.sub) row;
      from_layout = Some l.layout;
      to = row_of_buffer l.buffer l.first l.pitch (row_words_of l.plan l.image l.sub) row;
      to_layout = None;
    }) (up_to 0 l.row)
