-- The scripts of threads, and one more call.
use Rattle.std.specs.Prelude.{◌+◌, ◌||◌, nat_lt, nat_le, List, [], ◌∷◌, ◌++◌, Bool}
use Rattle.d3d_machine.specs.declared.calls.Call.{Call}
use Rattle.d3d_machine.specs.Counts.{lists_of_call, calls_in_all, lists_in_all}

-- one more call would be too many, or name too many lists with the others
unfoldable pub is_call_too_many : List (List Call) → Call → Bool
is_call_too_many ss c = nat_le 65536 (calls_in_all ss) || nat_lt 4096 (lists_in_all ss + lists_of_call c)

-- the scripts with one more call of the last thread
unfoldable pub with_call : List (List Call) → Call → List (List Call)
with_call [] c = []
with_call (s ∷ []) c = (s ++ c ∷ []) ∷ []
with_call (s ∷ t ∷ ss) c = s ∷ with_call (t ∷ ss) c
