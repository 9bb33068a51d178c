-- What a routine puts into the words of its destination, by the numbers that it reads: the table of what the routines do. All
-- reads are of the numbers before the command, but for the growing of a histogram, which builds on its own.
use Rattle.std.specs.Prelude.{ℕ, zero, suc, ◌+◌, ◌*◌, ◌/◌, ◌%◌, ◌^◌, ◌==◌, ◌<◌, nat_lt, sum, List, [], ◌∷◌, ◌++◌, slice_index_or, if◌then◌else◌}
use Rattle.dx_base.specs.Each.{Each}
use Rattle.dx_base.specs.Lists.{range_of}
use Rattle.dx_base.specs.declared.kinds.Routine.{Routine}
use Rattle.dx_base.specs.declared.kinds.Routine.TheVariants.{Fill, Move, Add, Mul, Gather, Scatter, Sums, Histogram}
use Rattle.routines.specs.declared.numbers.Numbers.{Numbers}
use Rattle.routines.specs.declared.puts.Put.{Put}

-- a number of a list, and 0 past its end
abbrev pub number_at : List ℕ → ℕ → ℕ
number_at numbers k = slice_index_or numbers k 0

-- the word of a destination of m words that an invocation of a histogram counts in
abbrev pub bin_of : ℕ → Numbers → ℕ → ℕ
bin_of m x i = number_at x.t0 i % m

-- how many of the first invocations count in a word
abbrev pub hits : ℕ → Numbers → ℕ → ℕ → ℕ
hits m x word zero = 0
hits m x word (suc i) = hits m x word i + (if bin_of m x i == word then 1 else 0)

-- the word, of a destination of m words, that an invocation writes; of sums, a group of 64 invocations
abbrev pub word_at : Routine → ℕ → Numbers → ℕ → ℕ
word_at Fill m x i = i
word_at Move m x i = i
word_at Add m x i = i
word_at Mul m x i = i
word_at Gather m x i = i
word_at Scatter m x i = number_at x.t1 i
word_at Sums m x i = i
word_at Histogram m x i = bin_of m x i

-- the number that it writes there
abbrev pub value_at : Routine → ℕ → Numbers → ℕ → ℕ
value_at Fill m x i = x.c
value_at Move m x i = number_at x.t0 i
value_at Add m x i = (number_at x.t0 i + number_at x.t1 i) % 2 ^ 32
value_at Mul m x i = (number_at x.t0 i * x.c) % 2 ^ 32
value_at Gather m x i = number_at x.t0 (number_at x.t1 i)
value_at Scatter m x i = number_at x.t0 i
value_at Sums m x i = sum (range_of (64 * i) 64 x.t0) % 2 ^ 32
value_at Histogram m x i = (number_at x.u0 (bin_of m x i) + hits m x (bin_of m x i) (suc i)) % 2 ^ 32

abbrev pub put_at : Routine → ℕ → Numbers → ℕ → Put
put_at routine m x i = record { word = word_at routine m x i; value = value_at routine m x i }

-- what falls into a destination of m words; what is out of range is dropped
abbrev pub kept : ℕ → Put → List Put
kept m p = if nat_lt p.word m then p ∷ [] else []

-- what the first invocations put, in order
abbrev pub puts_before : Routine → ℕ → Numbers → ℕ → List Put
puts_before routine m x zero = []
puts_before routine m x (suc i) = puts_before routine m x i ++ kept m (put_at routine m x i)

-- how many write: each invocation, or of sums one of each 64
abbrev pub writers : Routine → ℕ → ℕ
writers Fill n = n
writers Move n = n
writers Add n = n
writers Mul n = n
writers Gather n = n
writers Scatter n = n
writers Sums n = (n + 63) / 64
writers Histogram n = n

-- what a routine with n invocations puts into a destination of m words
abbrev pub puts_of : Routine → ℕ → ℕ → Numbers → List Put
puts_of routine n m x = puts_before routine m x (writers routine n)

-- what is put lies inside a destination of m words
abbrev pub PutsLieIn : ℕ → List Put → Type 0
PutsLieIn m puts = Each (λ (p : Put). p.word < m) puts
