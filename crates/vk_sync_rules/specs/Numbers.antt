-- The numbers in the words of buffers and images; none where any number may stand.
use Rattle.std.specs.Prelude.{ℕ, zero, suc, ◌+◌, List, [], ◌∷◌, ◌++◌, length, take, drop, replicate, slice_index_or, Option, None}
use Rattle.dx_base.specs.Lists.{changed_at}
use Rattle.vk_sync_rules.specs.declared.ranges.VkResource.{VkResource}
use Rattle.vk_sync_rules.specs.declared.ranges.VkResource.TheVariants.{Buffer, Image}
use Rattle.vk_sync_rules.specs.declared.ranges.WordRange.{WordRange}

-- the words of each buffer, and of each subresource of each image
pub record Numbers : Type 0 where
  pub buffers : List (List (Option ℕ))
  pub images : List (List (List (Option ℕ)))

-- the numbers of a buffer or a subresource; none where it is not there
abbrev pub numbers_in : Numbers → VkResource → List (Option ℕ)
numbers_in m (Buffer b) = slice_index_or m.buffers b []
numbers_in m (Image i s) = slice_index_or (slice_index_or m.images i []) s []

-- a buffer or a subresource changed by a function
abbrev pub changed_in : VkResource → (List (Option ℕ) → List (Option ℕ)) → Numbers → Numbers
changed_in (Buffer b) f m = record m { buffers = changed_at f b m.buffers }
changed_in (Image i s) f m = record m { images = changed_at (changed_at f s) i m.images }

-- words with others written into them from one place on; those that would lie past the end are left out
abbrev pub put_numbers : ℕ → List (Option ℕ) → List (Option ℕ) → List (Option ℕ)
put_numbers first new words = take (length words) (take first words ++ (new ++ drop (first + length new) words))

-- numbers written over a range
abbrev pub stored : WordRange → List (Option ℕ) → Numbers → Numbers
stored range new m = changed_in range.resource (put_numbers range.first new) m

-- any number may stand in the words of a range, as far as they are there, and of ranges
abbrev pub opened : WordRange → Numbers → Numbers
opened range m = stored range (replicate range.count None) m

abbrev pub opened_all : List WordRange → Numbers → Numbers
opened_all [] m = m
opened_all (range ∷ ranges) m = opened_all ranges (opened range m)

-- some numbers in order
abbrev pub up_to : ℕ → ℕ → List ℕ
up_to first zero = []
up_to first (suc n) = first ∷ up_to (first + 1) n
