-- Words of buffers and of subresources of images.
use Rattle.std.specs.Prelude.{ℕ, ◌+◌, Bool, false, ◌==◌, ◌&&◌, nat_lt, nat_le, max, min}
use Rattle.vk_sync_rules.specs.declared.ranges.VkResource.{VkResource}
use Rattle.vk_sync_rules.specs.declared.ranges.VkResource.TheVariants.{Buffer, Image}
use Rattle.vk_sync_rules.specs.declared.ranges.WordRange.{WordRange}

-- two are the same
abbrev pub same_resource : VkResource → VkResource → Bool
same_resource (Buffer a) (Buffer b) = a == b
same_resource (Buffer a) (Image i s) = false
same_resource (Image i s) (Buffer b) = false
same_resource (Image i s) (Image k u) = (i == k) && (s == u)

-- two ranges share a word; one of no words shares none
abbrev pub overlap : WordRange → WordRange → Bool
overlap a b = same_resource a.resource b.resource && nat_lt (max a.first b.first) (min (a.first + a.count) (b.first + b.count))

-- a range has a word
abbrev pub has_word : VkResource → ℕ → WordRange → Bool
has_word resource word range = same_resource resource range.resource && (nat_le range.first word && nat_lt word (range.first + range.count))
