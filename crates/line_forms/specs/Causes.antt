-- The order of causes, and what several parts mean together.
use Rattle.std.specs.Prelude.{ℕ, nat_le, List, codes, Result, Ok, Err, if◌then◌else◌}
use Rattle.line_forms.specs.declared.cause.Cause.{Cause}
use Rattle.line_forms.specs.declared.cause.Cause.TheVariants as cause

-- the name of a cause, in lower case
abbrev pub cause_word : Cause → List ℕ
cause_word cause.Size = codes "size"
cause_word cause.Line = codes "line"
cause_word cause.Cut = codes "cut"
cause_word cause.After = codes "after"
cause_word cause.Later = codes "later"
cause_word cause.Order = codes "order"
cause_word cause.Form = codes "form"
cause_word cause.Number = codes "number"
cause_word cause.Again = codes "again"
cause_word cause.Name = codes "name"
cause_word cause.Limit = codes "limit"

-- the place of a cause in the order in which causes are told
abbrev pub rank_of : Cause → ℕ
rank_of cause.Size = 0
rank_of cause.Line = 1
rank_of cause.Cut = 2
rank_of cause.After = 3
rank_of cause.Later = 4
rank_of cause.Order = 5
rank_of cause.Form = 6
rank_of cause.Number = 7
rank_of cause.Again = 8
rank_of cause.Name = 9
rank_of cause.Limit = 10

-- the earlier of two causes in that order
unfoldable pub earlier_of : Cause → Cause → Cause
earlier_of a b = if nat_le (rank_of a) (rank_of b) then a else b

-- the value, changed by a function; a cause stays
abbrev pub wrapped : {A B : Type 0} → (A → B) → Result A Cause → Result B Cause
wrapped f (Ok x) = Ok (f x)
wrapped f (Err e) = Err e

-- the values of two parts, or the earlier cause
unfoldable pub two_of : {A B : Type 0} → Result A Cause → Result B Cause → Result (A × B) Cause
two_of (Ok a) (Ok b) = Ok (a, b)
two_of (Ok a) (Err e) = Err e
two_of (Err d) (Ok b) = Err d
two_of (Err d) (Err e) = Err (earlier_of d e)
