-- How much of each register a routine uses: the table of what the routines read and write.
use Rattle.std.specs.Prelude.{ℕ, ◌+◌, ◌/◌, ◌==◌, min, true, false, if◌then◌else◌}
use Rattle.dx_base.specs.declared.kinds.Routine.{Routine}
use Rattle.dx_base.specs.declared.kinds.Routine.TheVariants.{Fill, Move, Add, Mul, Gather, Scatter, Sums, Histogram}
use Rattle.routines.specs.declared.uses.Extent.{Extent}
use Rattle.routines.specs.declared.uses.Extent.TheVariants.{Nothing, First, Invocations, Groups, Whole}
use Rattle.routines.specs.declared.uses.Uses.{Uses}

-- what a routine reads of t0, t1 and b0, what it writes of u0, and whether it reads that, too
abbrev pub uses_of : Routine → Uses
uses_of Fill = record { t0 = Nothing; t1 = Nothing; b0 = First; u0 = Invocations; updates = false }
uses_of Move = record { t0 = Invocations; t1 = Nothing; b0 = Nothing; u0 = Invocations; updates = false }
uses_of Add = record { t0 = Invocations; t1 = Invocations; b0 = Nothing; u0 = Invocations; updates = false }
uses_of Mul = record { t0 = Invocations; t1 = Nothing; b0 = First; u0 = Invocations; updates = false }
uses_of Gather = record { t0 = Whole; t1 = Invocations; b0 = Nothing; u0 = Invocations; updates = false }
uses_of Scatter = record { t0 = Invocations; t1 = Invocations; b0 = Nothing; u0 = Whole; updates = true }
uses_of Sums = record { t0 = Invocations; t1 = Nothing; b0 = Nothing; u0 = Groups; updates = false }
uses_of Histogram = record { t0 = Invocations; t1 = Nothing; b0 = Nothing; u0 = Whole; updates = true }

-- how many words of a register that has so many are used by so many invocations: none by none
abbrev pub words_used : Extent → ℕ → ℕ → ℕ
words_used Nothing n has = 0
words_used First n has = if n == 0 then 0 else min 1 has
words_used Invocations n has = min n has
words_used Groups n has = min ((n + 63) / 64) has
words_used Whole n has = if n == 0 then 0 else has

-- what a routine reads of u0
abbrev pub read_of_u0 : Routine → Extent
read_of_u0 routine = if (uses_of routine).updates then (uses_of routine).u0 else Nothing
