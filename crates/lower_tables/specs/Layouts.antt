-- The layouts of images for those of textures.
use Rattle.dx_flags.specs.declared.layouts.Layout.{Layout}
use Rattle.dx_flags.specs.declared.layouts.Layout.TheVariants.{Undefined, Common, GenericRead, UnorderedAccess, ShaderResource, CopySource, CopyDest}
use Rattle.vk_types.specs.declared.layouts.VkLayout.{VkLayout}
use Rattle.vk_types.specs.declared.layouts.VkLayout.TheVariants as vk

-- the layout of an image for each layout of a texture (Vulkan 1.3, 12.4)
abbrev pub layout_of : Layout → VkLayout
layout_of Undefined = vk.Undefined
layout_of Common = vk.General
layout_of GenericRead = vk.General
layout_of UnorderedAccess = vk.General
layout_of ShaderResource = vk.ShaderReadOnlyOptimal
layout_of CopySource = vk.TransferSrcOptimal
layout_of CopyDest = vk.TransferDstOptimal
