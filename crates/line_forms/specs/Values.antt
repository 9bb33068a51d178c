-- What the parts of a line mean, taken by their places.
use Rattle.std.specs.Prelude.{ℕ, List, codes, slice_get, Option, Some, None}
use Rattle.dx_base.specs.declared.kinds.ListType.TheVariants as listtype
use Rattle.line_forms.specs.declared.choice.Choice.{Choice}
use Rattle.line_forms.specs.declared.choice.Choice.TheVariants as choice
use Rattle.line_forms.specs.declared.part.PartValue.{PartValue}
use Rattle.line_forms.specs.declared.part.PartValue.TheVariants.{AsItStands, Id, NewName, Number, Word, Set, Chosen, AllOr, AllOrNumber}

-- the value at a place
abbrev pub or_nothing : Option PartValue → PartValue
or_nothing None = AsItStands
or_nothing (Some v) = v

abbrev pub value_at : List PartValue → ℕ → PartValue
value_at vs i = or_nothing (slice_get vs i)

-- the number of the thing that is named, or a default
abbrev pub id_in : PartValue → ℕ
id_in AsItStands = 0
id_in (Id x) = x
id_in (NewName x) = 0
id_in (Number x) = 0
id_in (Word x) = 0
id_in (Set x) = 0
id_in (Chosen x) = 0
id_in (AllOr x) = 0
id_in (AllOrNumber x) = 0

-- a copy of the name that is declared, or a default
abbrev pub name_in : PartValue → List ℕ
name_in AsItStands = codes "a"
name_in (Id x) = codes "a"
name_in (NewName x) = x
name_in (Number x) = codes "a"
name_in (Word x) = codes "a"
name_in (Set x) = codes "a"
name_in (Chosen x) = codes "a"
name_in (AllOr x) = codes "a"
name_in (AllOrNumber x) = codes "a"

-- the number, or a default
abbrev pub number_in : PartValue → ℕ
number_in AsItStands = 0
number_in (Id x) = 0
number_in (NewName x) = 0
number_in (Number x) = x
number_in (Word x) = 0
number_in (Set x) = 0
number_in (Chosen x) = 0
number_in (AllOr x) = 0
number_in (AllOrNumber x) = 0

-- the number that a data word or a flag word writes, or a default
abbrev pub word_in : PartValue → ℕ
word_in AsItStands = 0
word_in (Id x) = 0
word_in (NewName x) = 0
word_in (Number x) = 0
word_in (Word x) = x
word_in (Set x) = 0
word_in (Chosen x) = 0
word_in (AllOr x) = 0
word_in (AllOrNumber x) = 0

-- the set, by its bits, or a default
abbrev pub set_in : PartValue → ℕ
set_in AsItStands = 0
set_in (Id x) = 0
set_in (NewName x) = 0
set_in (Number x) = 0
set_in (Word x) = 0
set_in (Set x) = x
set_in (Chosen x) = 0
set_in (AllOr x) = 0
set_in (AllOrNumber x) = 0

-- what is chosen, or a default
abbrev pub choice_in : PartValue → Choice
choice_in AsItStands = choice.Type listtype.Direct
choice_in (Id x) = choice.Type listtype.Direct
choice_in (NewName x) = choice.Type listtype.Direct
choice_in (Number x) = choice.Type listtype.Direct
choice_in (Word x) = choice.Type listtype.Direct
choice_in (Set x) = choice.Type listtype.Direct
choice_in (Chosen x) = x
choice_in (AllOr x) = choice.Type listtype.Direct
choice_in (AllOrNumber x) = choice.Type listtype.Direct

-- the number of the thing that is named, where not all are meant, or a default
abbrev pub all_or_in : PartValue → Option ℕ
all_or_in AsItStands = None
all_or_in (Id x) = None
all_or_in (NewName x) = None
all_or_in (Number x) = None
all_or_in (Word x) = None
all_or_in (Set x) = None
all_or_in (Chosen x) = None
all_or_in (AllOr x) = x
all_or_in (AllOrNumber x) = None

-- the number, where not all are meant, or a default
abbrev pub all_or_number_in : PartValue → Option ℕ
all_or_number_in AsItStands = None
all_or_number_in (Id x) = None
all_or_number_in (NewName x) = None
all_or_number_in (Number x) = None
all_or_number_in (Word x) = None
all_or_number_in (Set x) = None
all_or_number_in (Chosen x) = None
all_or_number_in (AllOr x) = None
all_or_number_in (AllOrNumber x) = x

-- the value at a place, as what it is
abbrev pub id_at : List PartValue → ℕ → ℕ
id_at vs i = id_in (value_at vs i)

abbrev pub name_at : List PartValue → ℕ → List ℕ
name_at vs i = name_in (value_at vs i)

abbrev pub number_at : List PartValue → ℕ → ℕ
number_at vs i = number_in (value_at vs i)

abbrev pub word_at : List PartValue → ℕ → ℕ
word_at vs i = word_in (value_at vs i)

abbrev pub set_at : List PartValue → ℕ → ℕ
set_at vs i = set_in (value_at vs i)

abbrev pub choice_at : List PartValue → ℕ → Choice
choice_at vs i = choice_in (value_at vs i)

abbrev pub all_or_at : List PartValue → ℕ → Option ℕ
all_or_at vs i = all_or_in (value_at vs i)

abbrev pub all_or_number_at : List PartValue → ℕ → Option ℕ
all_or_number_at vs i = all_or_number_in (value_at vs i)
