-- The kinds of access that accesses stand for.
use Rattle.std.specs.Prelude.{ℕ, Bool, List, Option, [], ◌∷◌, ◌==◌, ◌&&◌, ◌+◌}
use Rattle.std.specs.List.{list_any, find}
use Rattle.dx_flags.specs.declared.atoms.Kind.{Kind}
use Rattle.dx_flags.specs.declared.atoms.Kind.TheVariants.{UnorderedAccess, ShaderResource, ConstantBuffer, CopySource, CopyDest}
use Rattle.dx_flags.specs.declared.accesses.Access.{Access}
use Rattle.dx_flags.specs.AccessNames.{AccessName, access_bit, access_names, UNORDERED_ACCESS, SHADER_RESOURCE, CONSTANT_BUFFER, COPY_SOURCE, COPY_DEST, COMMON, NO_ACCESS}
use Rattle.dx_flags.specs.Accesses.{access_has}
use Rattle.dx_flags.specs.Bits.{bit_where}

-- the access that stands for a kind
abbrev pub name_of_kind : Kind → AccessName
name_of_kind UnorderedAccess = UNORDERED_ACCESS
name_of_kind ShaderResource = SHADER_RESOURCE
name_of_kind ConstantBuffer = CONSTANT_BUFFER
name_of_kind CopySource = COPY_SOURCE
name_of_kind CopyDest = COPY_DEST

-- the bit of a kind
abbrev pub kind_bit : Kind → ℕ
kind_bit kind = access_bit (name_of_kind kind)

-- all kinds
abbrev pub all_kinds : List Kind
all_kinds = UnorderedAccess ∷ ShaderResource ∷ ConstantBuffer ∷ CopySource ∷ CopyDest ∷ []

-- a kind is one of these
abbrev pub is_kind_of : List Kind → Kind → Bool
is_kind_of ones kind = list_any (λ one. kind_bit one == kind_bit kind) ones

-- the kinds of each access
abbrev pub kinds_of_name : AccessName → List Kind
kinds_of_name UNORDERED_ACCESS = UnorderedAccess ∷ []
kinds_of_name SHADER_RESOURCE = ShaderResource ∷ []
kinds_of_name CONSTANT_BUFFER = ConstantBuffer ∷ []
kinds_of_name COPY_SOURCE = CopySource ∷ []
kinds_of_name COPY_DEST = CopyDest ∷ []
kinds_of_name COMMON = all_kinds
kinds_of_name NO_ACCESS = []

-- the kind that an access stands for, if it is one
unfoldable pub kind_of : Access → Option Kind
kind_of access = find (λ kind. access.0 == kind_bit kind) all_kinds

-- some access of a set has a kind
unfoldable pub has_kind : Kind → Access → Bool
has_kind kind access = list_any (λ name. is_kind_of (kinds_of_name name) kind && access_has access name) access_names

-- the kinds of a set, each by the access that stands for it
unfoldable pub kinds_of : Access → Access
kinds_of access = record {
  0 = bit_where (has_kind UnorderedAccess access) (kind_bit UnorderedAccess)
      + (bit_where (has_kind ShaderResource access) (kind_bit ShaderResource)
      + (bit_where (has_kind ConstantBuffer access) (kind_bit ConstantBuffer)
      + (bit_where (has_kind CopySource access) (kind_bit CopySource)
      + bit_where (has_kind CopyDest access) (kind_bit CopyDest))));
}
