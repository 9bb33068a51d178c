-- The rows that copies copy.
use Rattle.std.specs.Prelude.{ℕ, ◌+◌, ◌*◌, List, [], ◌∷◌, map, Some, None}
use Rattle.vk_types.specs.declared.commands.VkCommand.{VkCommand}
use Rattle.vk_types.specs.declared.commands.VkCommand.TheVariants.{Barrier, Copy, CopyImage, CopyIn, CopyOut, Clear, Dispatch}
use Rattle.vk_sync_rules.specs.declared.ranges.VkResource.TheVariants.{Buffer, Image}
use Rattle.vk_sync_rules.specs.declared.ranges.WordRange.{WordRange}
pub use Rattle.vk_sync_rules.specs.declared.copies.CopiedRow.{CopiedRow}
use Rattle.vk_sync_rules.specs.AccessSets.{no_accesses, copy_reads, copy_writes}
use Rattle.vk_sync_rules.specs.Numbers.{up_to}
use Rattle.vk_sync_rules.specs.Pieces.{Piece}
use Rattle.vk_sync_rules.specs.Sizes.{row_count_of, row_words_of, words_in}
use Rattle.vk_types.specs.declared.plan.DevicePlan.{DevicePlan}

-- one row between a buffer and an image, whose rows in the buffer begin at a word and lie a pitch apart
abbrev pub row_of_buffer : ℕ → ℕ → ℕ → ℕ → ℕ → WordRange
row_of_buffer buffer first pitch width row = record { resource = Buffer buffer; first = first + row * pitch; count = width }

abbrev pub row_of_image : ℕ → ℕ → ℕ → ℕ → WordRange
row_of_image image sub width row = record { resource = Image image sub; first = row * width; count = width }

-- the rows that a command copies; between images they are one, as long as the first subresource
abbrev pub copied_rows : DevicePlan → VkCommand → List CopiedRow
copied_rows plan (Barrier from made to seen change) = []
copied_rows plan (Copy to to_first from from_first words) =
    record {
      from = record { resource = Buffer from; first = from_first; count = words };
      from_layout = None;
      to = record { resource = Buffer to; first = to_first; count = words };
      to_layout = None;
    } ∷ []
copied_rows plan (CopyImage to to_sub to_layout from from_sub from_layout) =
    record {
      from = record { resource = Image from from_sub; first = 0; count = words_in plan (Image from from_sub) };
      from_layout = Some from_layout;
      to = record { resource = Image to to_sub; first = 0; count = words_in plan (Image from from_sub) };
      to_layout = Some to_layout;
    } ∷ []
copied_rows plan (CopyIn image sub layout buffer first pitch) =
    map (λ row. record {
      from = row_of_buffer buffer first pitch (row_words_of plan image sub) row;
      from_layout = None;
      to = row_of_image image sub (row_words_of plan image sub) row;
      to_layout = Some layout;
    }) (up_to 0 (row_count_of plan image sub))
copied_rows plan (CopyOut buffer first pitch image sub layout) =
    map (λ row. record {
      from = row_of_image image sub (row_words_of plan image sub) row;
      from_layout = Some layout;
      to = row_of_buffer buffer first pitch (row_words_of plan image sub) row;
      to_layout = None;
    }) (up_to 0 (row_count_of plan image sub))
copied_rows plan (Clear target word) = []
copied_rows plan (Dispatch routine count t0 t1 u0 b0) = []

-- the two sides of a row
abbrev pub sides_of : CopiedRow → List Piece
sides_of row =
    record { range = row.from; reads = copy_reads; writes = no_accesses; named = row.from_layout }
    ∷ record { range = row.to; reads = no_accesses; writes = copy_writes; named = row.to_layout } ∷ []
