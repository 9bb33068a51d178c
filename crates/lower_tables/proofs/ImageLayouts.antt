-- What the layouts of images allow.
use Rattle.std.proofs.Common.{◌≡◌, Bool, true, false, refl}
use Rattle.std.specs.List.{list_all}
use Rattle.dx_flags.proofs.Named.{each_kind}
use Rattle.dx_flags.specs.declared.atoms.Kind.{Kind}
use Rattle.dx_flags.specs.declared.layouts.Layout.{Layout}
use Rattle.dx_flags.specs.declared.layouts.Layout.TheVariants as layout
use Rattle.dx_flags.specs.Kinds.{all_kinds}
use Rattle.dx_flags.specs.Layouts.{layout_allows}
use Rattle.vk_types.proofs.Supported.{among_all}
use Rattle.vk_types.specs.declared.accesses.Access.{Access}
use Rattle.vk_types.specs.Support.{all_accesses}
use Rattle.vk_types.specs.Whole.{image_allows}
use Rattle.lower_tables.proofs.Marks.{implies, where_first}
use Rattle.lower_tables.specs.Layouts.{layout_of}
use Rattle.lower_tables.specs.Made.{is_made_by}

-- where a layout allows a kind, the image's allows what the kind makes
abbrev takes : Layout → Bool → Kind → Access → Bool
takes layout shared kind x = implies (layout_allows layout kind shared) (implies (is_made_by kind x) (image_allows (layout_of layout) x))

abbrev takes_all : Layout → Bool → Bool
takes_all layout shared = list_all (λ kind. list_all (takes layout shared kind) all_accesses) all_kinds

each_takes : (l : Layout) (shared : Bool) → takes_all l shared ≡ true
each_takes layout.Undefined shared = refl
each_takes layout.Common true = refl
each_takes layout.Common false = refl
each_takes layout.GenericRead shared = refl
each_takes layout.UnorderedAccess shared = refl
each_takes layout.ShaderResource shared = refl
each_takes layout.CopySource shared = refl
each_takes layout.CopyDest shared = refl

pub allows_made : (l : Layout) (kind : Kind) (shared : Bool) (x : Access) → layout_allows l kind shared ≡ true → is_made_by kind x ≡ true → image_allows (layout_of l) x ≡ true
allows_made l kind shared x h made =
    let taken : takes l shared kind x ≡ true = among_all (takes l shared kind) x (each_kind (λ k. list_all (takes l shared k) all_accesses) (each_takes l shared) kind) in
    where_first (is_made_by kind x) (image_allows (layout_of l) x) (where_first (layout_allows l kind shared) (implies (is_made_by kind x) (image_allows (layout_of l) x)) taken h) made
