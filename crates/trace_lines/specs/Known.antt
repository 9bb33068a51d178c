-- The names of objects by kind.
use Rattle.std.specs.Prelude.{ℕ, List, [], ◌∷◌, ◌++◌, map, slice_get, Some, None, if◌then◌else◌}
use Rattle.trace_lines.specs.declared.object.Declared.{Declared}
use Rattle.line_forms.specs.declared.kind.Kind.{Kind}
use Rattle.trace_lines.specs.Kinds.{kind_of}
use Rattle.trace_lines.specs.Names.{name_at}
use Rattle.trace_lines.specs.Things.{kind_code, kinds, same_kind}

-- the names of the objects of each kind, in order: a list for each kind, by its place
abbrev pub KnownNames : Type 0
KnownNames = List (List (List ℕ))

-- the names of the objects of a kind
abbrev pub names_for : KnownNames → Kind → List (List ℕ)
names_for known k = elim (slice_get known (kind_code k)) [ None ↦ [] | Some names ↦ names ]

-- the name of an object, by its kind and number
abbrev pub known_of : KnownNames → Kind → ℕ → List ℕ
known_of known k i = name_at (names_for known k) i

-- the names of the objects of a kind
unfoldable pub names_of_kind : Kind → List (List ℕ) → List Declared → List (List ℕ)
names_of_kind k [] ds = []
names_of_kind k (n ∷ ns) [] = []
names_of_kind k (n ∷ ns) (d ∷ ds) = (if same_kind k (kind_of d) then n ∷ [] else []) ++ names_of_kind k ns ds

-- the names of all objects, by kind
abbrev pub known_names : List (List ℕ) → List Declared → KnownNames
known_names names ds = map (λ k. names_of_kind k names ds) kinds
