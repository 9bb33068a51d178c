-- The form of a line: the first whose words that stand as they are, and whose number of words, are the line's.
use Rattle.std.specs.Prelude.{ℕ, ◌==◌, ◌&&◌, List, [], ◌∷◌, length, Bool, true, false, Option, Some, None, if◌then◌else◌}
use Rattle.std.specs.List.{filter}
use Rattle.std.specs.Str.{bytes_eq}
use Rattle.line_forms.specs.declared.part.Rest.{Rest}
use Rattle.line_forms.specs.declared.part.Rest.TheVariants.{Nothing, Names, Words}
use Rattle.line_forms.specs.Parts.{Place, Word, Name, NewName, Number, DataWord, FlagWord, Set, Choice, AllOr, AllOrNumber, Row}

-- a word may stand at a part: it is the part's word, where that stands as it is
abbrev pub may_stand : Place → List ℕ → Bool
may_stand (Word t) w = bytes_eq w t
may_stand (Name k) w = true
may_stand NewName w = true
may_stand Number w = true
may_stand DataWord w = true
may_stand FlagWord w = true
may_stand (Set s) w = true
may_stand (Choice c) w = true
may_stand (AllOr k) w = true
may_stand AllOrNumber w = true

-- there may be so many words behind the parts
abbrev pub may_end : Rest → List (List ℕ) → Bool
may_end Nothing ws = length ws == 0
may_end (Names k) ws = true
may_end Words ws = true

-- words have the fixed words and the number of words of parts
unfoldable pub fits : List Place → Rest → List (List ℕ) → Bool
fits [] r ws = may_end r ws
fits (p ∷ ps) r [] = false
fits (p ∷ ps) r (w ∷ ws) = may_stand p w && fits ps r ws

-- the first of some forms that words fit
unfoldable pub form_for : {F : Type 0} → (F → Row) → List F → List (List ℕ) → Option F
form_for row [] ws = None
form_for row (f ∷ fs) ws = if fits (row f).parts (row f).rest ws then Some f else form_for row fs ws

-- a line of parts may begin with that byte, unless their first word is one that stands as it is and begins with another
abbrev pub may_begin : ℕ → List Place → Bool
may_begin b [] = true
may_begin b (Word [] ∷ ps) = true
may_begin b (Word (c ∷ cs) ∷ ps) = b == c
may_begin b (Name k ∷ ps) = true
may_begin b (NewName ∷ ps) = true
may_begin b (Number ∷ ps) = true
may_begin b (DataWord ∷ ps) = true
may_begin b (FlagWord ∷ ps) = true
may_begin b (Set s ∷ ps) = true
may_begin b (Choice c ∷ ps) = true
may_begin b (AllOr k ∷ ps) = true
may_begin b (AllOrNumber ∷ ps) = true

-- the first byte of a line's words, or 0
abbrev pub first_byte_of : List (List ℕ) → ℕ
first_byte_of [] = 0
first_byte_of ([] ∷ ws) = 0
first_byte_of ((b ∷ bs) ∷ ws) = b

-- the forms of which a line may begin with that byte, in order
abbrev pub beginning_with : {F : Type 0} → (F → Row) → List F → ℕ → List F
beginning_with row fs b = filter (λ f. may_begin b (row f).parts) fs
