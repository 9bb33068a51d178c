-- Choices: the parts of lines that are one of some fixed words.
use Rattle.std.specs.Prelude.{ℕ, List, [], ◌∷◌, codes, Bool, true, false, Option, Some, None, if◌then◌else◌}
use Rattle.std.specs.Str.{bytes_eq}
use Rattle.dx_base.specs.declared.kinds.Class.{Class}
use Rattle.dx_base.specs.declared.kinds.Class.TheVariants as class
use Rattle.dx_base.specs.declared.kinds.Home.{Home}
use Rattle.dx_base.specs.declared.kinds.Home.TheVariants as home
use Rattle.dx_base.specs.declared.kinds.ListType.{ListType}
use Rattle.dx_base.specs.declared.kinds.ListType.TheVariants as listtype
use Rattle.dx_base.specs.declared.kinds.Routine.{Routine}
use Rattle.dx_base.specs.declared.kinds.Routine.TheVariants as routine
use Rattle.dx_flags.specs.declared.layouts.Layout.{Layout}
use Rattle.dx_flags.specs.declared.layouts.Layout.TheVariants as layout
use Rattle.line_forms.specs.declared.choice.Choice.{Choice}
use Rattle.line_forms.specs.declared.choice.Choice.TheVariants as choice
use Rattle.line_forms.specs.declared.choice.Choices.{Choices}
use Rattle.line_forms.specs.declared.choice.Choices.TheVariants as choices
use Rattle.line_forms.specs.declared.choice.Version.{Version}
use Rattle.line_forms.specs.declared.choice.Version.TheVariants as version

-- the word of what is chosen
abbrev pub choice_text : Choice → List ℕ
choice_text (choice.Type listtype.Direct) = codes "direct"
choice_text (choice.Type listtype.Compute) = codes "compute"
choice_text (choice.Type listtype.Copy) = codes "copy"
choice_text (choice.Home home.Upload) = codes "upload"
choice_text (choice.Home home.Readback) = codes "readback"
choice_text (choice.Home home.Legacy) = codes "legacy"
choice_text (choice.Home home.Enhanced) = codes "enhanced"
choice_text (choice.Layout layout.Undefined) = codes "UNDEFINED"
choice_text (choice.Layout layout.Common) = codes "COMMON"
choice_text (choice.Layout layout.GenericRead) = codes "GENERIC_READ"
choice_text (choice.Layout layout.UnorderedAccess) = codes "UNORDERED_ACCESS"
choice_text (choice.Layout layout.ShaderResource) = codes "SHADER_RESOURCE"
choice_text (choice.Layout layout.CopySource) = codes "COPY_SOURCE"
choice_text (choice.Layout layout.CopyDest) = codes "COPY_DEST"
choice_text (choice.Class class.Cbv) = codes "cbv"
choice_text (choice.Class class.Srv) = codes "srv"
choice_text (choice.Class class.Uav) = codes "uav"
choice_text (choice.Shared false) = codes "plain"
choice_text (choice.Shared true) = codes "shared"
choice_text (choice.Visible true) = codes "visible"
choice_text (choice.Visible false) = codes "plain"
choice_text (choice.Version version.One) = codes "1.0"
choice_text (choice.Version version.OneOne) = codes "1.1"
choice_text (choice.Routine routine.Fill) = codes "fill"
choice_text (choice.Routine routine.Move) = codes "move"
choice_text (choice.Routine routine.Add) = codes "add"
choice_text (choice.Routine routine.Mul) = codes "mul"
choice_text (choice.Routine routine.Gather) = codes "gather"
choice_text (choice.Routine routine.Scatter) = codes "scatter"
choice_text (choice.Routine routine.Sums) = codes "sums"
choice_text (choice.Routine routine.Histogram) = codes "histogram"

-- what may be chosen
abbrev pub choices_of : Choices → List Choice
choices_of choices.Type =
    choice.Type listtype.Direct ∷ choice.Type listtype.Compute ∷ choice.Type listtype.Copy ∷ []
choices_of choices.Home =
    choice.Home home.Upload ∷ choice.Home home.Readback ∷ choice.Home home.Legacy ∷ choice.Home home.Enhanced ∷ []
choices_of choices.Layout =
    choice.Layout layout.Undefined ∷ choice.Layout layout.Common ∷ choice.Layout layout.GenericRead ∷ choice.Layout layout.UnorderedAccess ∷ choice.Layout layout.ShaderResource ∷ choice.Layout layout.CopySource ∷ choice.Layout layout.CopyDest ∷ []
choices_of choices.Class =
    choice.Class class.Cbv ∷ choice.Class class.Srv ∷ choice.Class class.Uav ∷ []
choices_of choices.Shared =
    choice.Shared false ∷ choice.Shared true ∷ []
choices_of choices.Visible =
    choice.Visible true ∷ choice.Visible false ∷ []
choices_of choices.Version =
    choice.Version version.One ∷ choice.Version version.OneOne ∷ []
choices_of choices.Routine =
    choice.Routine routine.Fill ∷ choice.Routine routine.Move ∷ choice.Routine routine.Add ∷ choice.Routine routine.Mul ∷ choice.Routine routine.Gather ∷ choice.Routine routine.Scatter ∷ choice.Routine routine.Sums ∷ choice.Routine routine.Histogram ∷ []

-- the first choice with that word
unfoldable pub chosen : List Choice → List ℕ → Option Choice
chosen [] w = None
chosen (c ∷ cs) w = if bytes_eq w (choice_text c) then Some c else chosen cs w

-- the type of a queue, an allocator or a list, or a default
abbrev pub type_in : Choice → ListType
type_in (choice.Type x) = x
type_in (choice.Home x) = listtype.Direct
type_in (choice.Layout x) = listtype.Direct
type_in (choice.Class x) = listtype.Direct
type_in (choice.Shared x) = listtype.Direct
type_in (choice.Visible x) = listtype.Direct
type_in (choice.Version x) = listtype.Direct
type_in (choice.Routine x) = listtype.Direct

-- where a buffer lies, or a default
abbrev pub home_in : Choice → Home
home_in (choice.Type x) = home.Upload
home_in (choice.Home x) = x
home_in (choice.Layout x) = home.Upload
home_in (choice.Class x) = home.Upload
home_in (choice.Shared x) = home.Upload
home_in (choice.Visible x) = home.Upload
home_in (choice.Version x) = home.Upload
home_in (choice.Routine x) = home.Upload

-- a layout of a texture, or a default
abbrev pub layout_in : Choice → Layout
layout_in (choice.Type x) = layout.Undefined
layout_in (choice.Home x) = layout.Undefined
layout_in (choice.Layout x) = x
layout_in (choice.Class x) = layout.Undefined
layout_in (choice.Shared x) = layout.Undefined
layout_in (choice.Visible x) = layout.Undefined
layout_in (choice.Version x) = layout.Undefined
layout_in (choice.Routine x) = layout.Undefined

-- the class of a view, or a default
abbrev pub class_in : Choice → Class
class_in (choice.Type x) = class.Cbv
class_in (choice.Home x) = class.Cbv
class_in (choice.Layout x) = class.Cbv
class_in (choice.Class x) = x
class_in (choice.Shared x) = class.Cbv
class_in (choice.Visible x) = class.Cbv
class_in (choice.Version x) = class.Cbv
class_in (choice.Routine x) = class.Cbv

-- whether a texture is one of simultaneous access: `shared`, or else `plain`, or a default
abbrev pub shared_in : Choice → Bool
shared_in (choice.Type x) = false
shared_in (choice.Home x) = false
shared_in (choice.Layout x) = false
shared_in (choice.Class x) = false
shared_in (choice.Shared x) = x
shared_in (choice.Visible x) = false
shared_in (choice.Version x) = false
shared_in (choice.Routine x) = false

-- whether a heap is visible to shaders: `visible`, or else `plain`, or a default
abbrev pub visible_in : Choice → Bool
visible_in (choice.Type x) = false
visible_in (choice.Home x) = false
visible_in (choice.Layout x) = false
visible_in (choice.Class x) = false
visible_in (choice.Shared x) = false
visible_in (choice.Visible x) = x
visible_in (choice.Version x) = false
visible_in (choice.Routine x) = false

-- the version of a root signature, or a default
abbrev pub version_in : Choice → Version
version_in (choice.Type x) = version.One
version_in (choice.Home x) = version.One
version_in (choice.Layout x) = version.One
version_in (choice.Class x) = version.One
version_in (choice.Shared x) = version.One
version_in (choice.Visible x) = version.One
version_in (choice.Version x) = x
version_in (choice.Routine x) = version.One

-- a routine, or a default
abbrev pub routine_in : Choice → Routine
routine_in (choice.Type x) = routine.Fill
routine_in (choice.Home x) = routine.Fill
routine_in (choice.Layout x) = routine.Fill
routine_in (choice.Class x) = routine.Fill
routine_in (choice.Shared x) = routine.Fill
routine_in (choice.Visible x) = routine.Fill
routine_in (choice.Version x) = routine.Fill
routine_in (choice.Routine x) = x

-- a choice of that kind, made of any
abbrev pub as_choice : Choices → Choice → Choice
as_choice choices.Type x = choice.Type (type_in x)
as_choice choices.Home x = choice.Home (home_in x)
as_choice choices.Layout x = choice.Layout (layout_in x)
as_choice choices.Class x = choice.Class (class_in x)
as_choice choices.Shared x = choice.Shared (shared_in x)
as_choice choices.Visible x = choice.Visible (visible_in x)
as_choice choices.Version x = choice.Version (version_in x)
as_choice choices.Routine x = choice.Routine (routine_in x)
