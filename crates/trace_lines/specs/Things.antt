-- What names name.
use Rattle.std.specs.Prelude.{ℕ, ◌==◌, nat_le, Bool, List, [], ◌∷◌, length, Option, Some, None, is_some, Result, Ok, Err, if◌then◌else◌}
use Rattle.std.specs.Str.{bytes_eq}
use Rattle.std.specs.Map.{lookup}
use Rattle.trace_words.specs.Words.{is_name}
use Rattle.line_forms.specs.declared.kind.Kind.{Kind}
use Rattle.line_forms.specs.declared.kind.Kind.TheVariants as kind
use Rattle.trace_lines.specs.declared.things.Thing.{Thing}
use Rattle.line_forms.specs.declared.cause.Cause.{Cause}
use Rattle.line_forms.specs.declared.cause.Cause.TheVariants as cause

-- the names that are declared, each with what it names, in order
abbrev pub Names : Type 0
Names = List (List ℕ × Thing)

-- the place of each kind among all kinds
abbrev pub kind_code : Kind → ℕ
kind_code kind.Queue = 0
kind_code kind.Fence = 1
kind_code kind.Resource = 2
kind_code kind.Allocator = 3
kind_code kind.List = 4
kind_code kind.Thread = 5

-- all kinds, by their places
abbrev pub kinds : List Kind
kinds = kind.Queue ∷ kind.Fence ∷ kind.Resource ∷ kind.Allocator ∷ kind.List ∷ kind.Thread ∷ []

abbrev pub same_kind : Kind → Kind → Bool
same_kind a b = kind_code a == kind_code b

-- the number of a thing, where there is one and it is of that kind
abbrev pub numbered : Kind → Option Thing → Result ℕ Cause
numbered k None = Err cause.Name
numbered k (Some t) = if same_kind k t.kind then Ok t.number else Err cause.Name

-- what a word names; no name has more than 32 bytes
unfoldable pub thing_of : Names → List ℕ → Option Thing
thing_of names w = if nat_le (length w) 32 then lookup (bytes_eq w) names else None

-- the number of the thing of that kind that a word names
unfoldable pub number_named : Kind → Names → List ℕ → Result ℕ Cause
number_named k names w = if is_name w then numbered k (thing_of names w) else Err cause.Form

-- the word, where it is a name that is not declared yet
unfoldable pub new_name : Names → List ℕ → Result (List ℕ) Cause
new_name names w =
    if is_name w
    then (if nat_le (length w) 32 then (if is_some (lookup (bytes_eq w) names) then Err cause.Again else Ok w) else Err cause.Limit)
    else Err cause.Form
