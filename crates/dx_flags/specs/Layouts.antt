-- Which accesses the layouts of textures allow.
use Rattle.std.specs.Prelude.{Bool, true, false, not, List, [], ◌∷◌, ◌||◌}
use Rattle.std.specs.List.{list_all}
use Rattle.dx_flags.specs.declared.atoms.Kind.{Kind}
use Rattle.dx_flags.specs.declared.atoms.Kind.TheVariants.{UnorderedAccess as unordered_access, ShaderResource as shader_resource, CopySource as copy_source, CopyDest as copy_dest}
use Rattle.dx_flags.specs.declared.layouts.Layout.{Layout}
use Rattle.dx_flags.specs.declared.layouts.Layout.TheVariants.{Undefined, Common, GenericRead, UnorderedAccess, ShaderResource, CopySource, CopyDest}
use Rattle.dx_flags.specs.declared.accesses.Access.{Access}
use Rattle.dx_flags.specs.Kinds.{is_kind_of, has_kind, all_kinds}

-- the kinds of access that layout COMMON allows beside the others for a shared texture
abbrev pub kinds_if_shared : Bool → List Kind
kinds_if_shared true = unordered_access ∷ []
kinds_if_shared false = []

-- the kinds of access that each layout allows, for a shared texture or a plain one
abbrev pub kinds_in : Layout → Bool → List Kind
kinds_in Undefined shared = []
kinds_in Common shared = shader_resource ∷ copy_source ∷ copy_dest ∷ kinds_if_shared shared
kinds_in GenericRead shared = shader_resource ∷ copy_source ∷ []
kinds_in UnorderedAccess shared = unordered_access ∷ []
kinds_in ShaderResource shared = shader_resource ∷ []
kinds_in CopySource shared = copy_source ∷ []
kinds_in CopyDest shared = copy_dest ∷ []

-- a layout allows a kind of access
abbrev pub layout_allows : Layout → Kind → Bool → Bool
layout_allows layout kind shared = is_kind_of (kinds_in layout shared) kind

-- a layout allows each kind of a set of accesses
unfoldable pub allows : Layout → Access → Bool → Bool
allows layout access shared = list_all (λ kind. layout_allows layout kind shared || not (has_kind kind access)) all_kinds
