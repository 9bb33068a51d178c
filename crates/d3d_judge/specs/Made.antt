-- What the events of a history touch, whether they break a rule or not.
use Rattle.std.specs.Prelude.{ℕ, suc, List, [], ◌∷◌, ◌++◌, map, Option, Some, None}
use Rattle.clocks.specs.Clocks.{Act, OfQueue, OfThread, number}
use Rattle.d3d_judge.specs.Carried.{Clocks, Pending, head_of, next_number, carried}
use Rattle.d3d_judge.specs.Commands.{Range, Command, Accesses, Bars}
use Rattle.d3d_judge.specs.Happenings.{Happening, Calls, Wakes, Completes, Deed, Gives, SetsFence, WaitsFor, Asks, Stores, Loads, Nothing, Work, Executes, Signals, Waits}
use Rattle.d3d_judge.specs.Scopes.{named}
use Rattle.d3d_judge.specs.Setting.{Setting}
use Rattle.d3d_judge.specs.Touches.{Doing, Reads, Writes, Touch, touch_of, touch_of_barrier}

-- what commands touch, in order
abbrev pub touches_by : Setting → Act → Command → List Touch
touches_by base act (Accesses part xs) = map (touch_of act) xs
touches_by base act (Bars b) = map (touch_of_barrier act b) (named base b.scope)

abbrev pub touches_of : Setting → Act → List Command → List Touch
touches_of base act [] = []
touches_of base act (c ∷ cs) = touches_by base act c ++ touches_of base act cs

-- a host access by a thread's next call
abbrev pub host_touch : Clocks → ℕ → Range → Doing → Touch
host_touch s t r doing = record { act = OfThread t (suc (number s.ends.threads t)); range = r; doing = doing }

abbrev pub made_in_work : Setting → Clocks → ℕ → Work → List Touch
made_in_work base s q (Executes cs) = touches_of base (OfQueue q (next_number s q)) cs
made_in_work base s q (Signals f v) = []
made_in_work base s q (Waits f v) = []

abbrev pub made_in_head : Setting → Clocks → ℕ → Option Pending → List Touch
made_in_head base s q None = []
made_in_head base s q (Some p) = made_in_work base s q p.what

abbrev pub made_in_call : Clocks → ℕ → Deed → List Touch
made_in_call s t (Gives q o) = []
made_in_call s t (SetsFence f v) = []
made_in_call s t (WaitsFor f v) = []
made_in_call s t (Asks f) = []
made_in_call s t (Stores r) = host_touch s t r Writes ∷ []
made_in_call s t (Loads r) = host_touch s t r Reads ∷ []
made_in_call s t Nothing = []

-- what an event touches
abbrev pub made_by : Setting → Clocks → Happening → List Touch
made_by base s (Calls t what) = made_in_call s t what
made_by base s (Wakes t) = []
made_by base s (Completes q) = made_in_head base s q (head_of s q)

-- what events touch, in order
abbrev pub made_from : Setting → Clocks → List Happening → List Touch
made_from base s [] = []
made_from base s (e ∷ es) = made_by base s e ++ made_from base (carried s e) es
