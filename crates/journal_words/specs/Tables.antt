-- The tables of a journal's words.
use Rattle.std.specs.Prelude.{ℕ, List, [], ◌∷◌, codes, Bool, true, false}
use Rattle.dx_base.specs.declared.kinds.Class.{Class}
use Rattle.dx_base.specs.declared.kinds.Class.TheVariants as class
use Rattle.dx_base.specs.declared.kinds.Home.{Home}
use Rattle.dx_base.specs.declared.kinds.Home.TheVariants as home
use Rattle.dx_base.specs.declared.kinds.Routine.{Routine}
use Rattle.dx_base.specs.declared.kinds.Routine.TheVariants as routine
use Rattle.vk_types.specs.declared.layouts.VkLayout.{VkLayout}
use Rattle.vk_types.specs.declared.layouts.VkLayout.TheVariants as layout

-- the word of each layout (VkImageLayout)
abbrev pub layout_word : VkLayout → List ℕ
layout_word layout.Undefined = codes "UNDEFINED"
layout_word layout.General = codes "GENERAL"
layout_word layout.ShaderReadOnlyOptimal = codes "SHADER_READ_ONLY_OPTIMAL"
layout_word layout.TransferSrcOptimal = codes "TRANSFER_SRC_OPTIMAL"
layout_word layout.TransferDstOptimal = codes "TRANSFER_DST_OPTIMAL"

abbrev pub layouts : List (List ℕ × VkLayout)
layouts =
    (codes "UNDEFINED", layout.Undefined)
    ∷ (codes "GENERAL", layout.General)
    ∷ (codes "SHADER_READ_ONLY_OPTIMAL", layout.ShaderReadOnlyOptimal)
    ∷ (codes "TRANSFER_SRC_OPTIMAL", layout.TransferSrcOptimal)
    ∷ (codes "TRANSFER_DST_OPTIMAL", layout.TransferDstOptimal)
    ∷ []

-- the word of where a buffer lies
abbrev pub home_word : Home → List ℕ
home_word home.Upload = codes "upload"
home_word home.Readback = codes "readback"
home_word home.Legacy = codes "legacy"
home_word home.Enhanced = codes "enhanced"

abbrev pub homes : List (List ℕ × Home)
homes =
    (codes "upload", home.Upload)
    ∷ (codes "readback", home.Readback)
    ∷ (codes "legacy", home.Legacy)
    ∷ (codes "enhanced", home.Enhanced)
    ∷ []

-- the word of the class of a view
abbrev pub class_word : Class → List ℕ
class_word class.Cbv = codes "cbv"
class_word class.Srv = codes "srv"
class_word class.Uav = codes "uav"

abbrev pub classes : List (List ℕ × Class)
classes = (codes "cbv", class.Cbv) ∷ (codes "srv", class.Srv) ∷ (codes "uav", class.Uav) ∷ []

-- whether a view is one of an image
abbrev pub viewed : List (List ℕ × Bool)
viewed = (codes "buffer", false) ∷ (codes "image", true) ∷ []

-- the word of each routine
abbrev pub routine_word : Routine → List ℕ
routine_word routine.Fill = codes "fill"
routine_word routine.Move = codes "move"
routine_word routine.Add = codes "add"
routine_word routine.Mul = codes "mul"
routine_word routine.Gather = codes "gather"
routine_word routine.Scatter = codes "scatter"
routine_word routine.Sums = codes "sums"
routine_word routine.Histogram = codes "histogram"

abbrev pub routine_rows : List (List ℕ × Routine)
routine_rows =
    (codes "fill", routine.Fill)
    ∷ (codes "move", routine.Move)
    ∷ (codes "add", routine.Add)
    ∷ (codes "mul", routine.Mul)
    ∷ (codes "gather", routine.Gather)
    ∷ (codes "scatter", routine.Scatter)
    ∷ (codes "sums", routine.Sums)
    ∷ (codes "histogram", routine.Histogram)
    ∷ []

-- the names of stages and accesses with their bits, in the order in which they are printed (VkPipelineStageFlagBits2,
-- VkAccessFlagBits2)
abbrev pub stage_rows : List (List ℕ × ℕ)
stage_rows = (codes "ALL_COMMANDS", 1) ∷ (codes "COMPUTE_SHADER", 2) ∷ (codes "COPY", 4) ∷ (codes "HOST", 8) ∷ []

abbrev pub access_rows : List (List ℕ × ℕ)
access_rows =
    (codes "MEMORY_READ", 1)
    ∷ (codes "MEMORY_WRITE", 2)
    ∷ (codes "SHADER_STORAGE_READ", 4)
    ∷ (codes "SHADER_STORAGE_WRITE", 8)
    ∷ (codes "SHADER_READ", 16)
    ∷ (codes "UNIFORM_READ", 32)
    ∷ (codes "TRANSFER_READ", 64)
    ∷ (codes "TRANSFER_WRITE", 128)
    ∷ (codes "HOST_READ", 256)
    ∷ []
