-- The words of buffers, and of the subresources of images (Vulkan 1.3, 12.3).
use Rattle.std.specs.Prelude.{ℕ, ◌*◌, ◌/◌, ◌%◌, ◌^◌, max, nat_lt, Bool, List, length, map, replicate, slice_get, Option, Some, None, if◌then◌else◌}
use Rattle.vk_types.specs.declared.plan.PlanBuffer.{PlanBuffer}
use Rattle.vk_types.specs.declared.plan.PlanImage.{PlanImage}
use Rattle.vk_sync_rules.specs.declared.ranges.VkResource.{VkResource}
use Rattle.vk_sync_rules.specs.declared.ranges.VkResource.TheVariants.{Buffer, Image}
use Rattle.vk_types.specs.declared.plan.DevicePlan.{DevicePlan}
use Rattle.vk_sync_rules.specs.Numbers.{up_to}

-- an extent of a mip: the image's, halved once for each mip before it, and at least 1
abbrev pub extent_of : ℕ → ℕ → ℕ
extent_of extent mip = max 1 (extent / 2 ^ mip)

-- the words in a row of a subresource, and its rows
abbrev pub row_words : PlanImage → ℕ → ℕ
row_words image sub = extent_of image.width (sub % image.mips)

abbrev pub row_count : PlanImage → ℕ → ℕ
row_count image sub = extent_of image.height (sub % image.mips)

-- how many subresources there are
abbrev pub sub_count : PlanImage → ℕ
sub_count image = image.mips * image.layers

-- the same by the image's place in the plan; nothing of one that is not there
abbrev pub row_words_of : DevicePlan → ℕ → ℕ → ℕ
row_words_of plan i s = elim (slice_get plan.images i) [ None ↦ 0 | Some image ↦ row_words image s ]

abbrev pub row_count_of : DevicePlan → ℕ → ℕ → ℕ
row_count_of plan i s = elim (slice_get plan.images i) [ None ↦ 0 | Some image ↦ row_count image s ]

-- a value for each word of each subresource
abbrev pub each_word : {A : Type 0} → A → PlanImage → List (List A)
each_word x image = map (λ s. replicate (row_words image s * row_count image s) x) (up_to 0 (sub_count image))

-- how many words a buffer or a subresource has; none where it is not there
abbrev pub words_of_image : Option PlanImage → ℕ → ℕ
words_of_image None sub = 0
words_of_image (Some image) sub = if nat_lt sub (sub_count image) then row_words image sub * row_count image sub else 0

abbrev pub words_of_buffer : Option PlanBuffer → ℕ
words_of_buffer None = 0
words_of_buffer (Some buffer) = buffer.words

abbrev pub words_in : DevicePlan → VkResource → ℕ
words_in plan (Buffer b) = words_of_buffer (slice_get plan.buffers b)
words_in plan (Image i s) = words_of_image (slice_get plan.images i) s

-- it is there
abbrev pub subs_in : DevicePlan → ℕ → ℕ
subs_in plan i = elim (slice_get plan.images i) [ None ↦ 0 | Some image ↦ sub_count image ]

abbrev pub is_there : DevicePlan → VkResource → Bool
is_there plan (Buffer b) = nat_lt b (length plan.buffers)
is_there plan (Image i s) = nat_lt s (subs_in plan i)
