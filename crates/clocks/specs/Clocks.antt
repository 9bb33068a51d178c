-- Clocks: which operations of queues and which calls of threads are known.
use Rattle.std.specs.Prelude.{ℕ, zero, suc, ◌≤◌, nat_le, max, replicate, List, [], ◌∷◌, Bool}
use Rattle.clocks.specs.declared.clock.Clock.{Clock}

-- an operation of a queue or a call of a thread, by its number, counted from 1
pub data Act : Type 0 where
  OfQueue : (queue number : ℕ) → Act
  OfThread : (thread number : ℕ) → Act

-- the number at a place; 0 where there is none
abbrev pub number : List ℕ → ℕ → ℕ
number [] p = 0
number (x ∷ xs) zero = x
number (x ∷ xs) (suc p) = number xs p

-- the numbers with one of them set; the places before it that there were not have 0
abbrev pub numbered : ℕ → ℕ → List ℕ → List ℕ
numbered zero n [] = n ∷ []
numbered zero n (x ∷ xs) = n ∷ xs
numbered (suc p) n [] = 0 ∷ numbered p n []
numbered (suc p) n (x ∷ xs) = x ∷ numbered p n xs

-- the greater number at each place
abbrev pub greater : List ℕ → List ℕ → List ℕ
greater [] ys = ys
greater (x ∷ xs) [] = x ∷ xs
greater (x ∷ xs) (y ∷ ys) = max x y ∷ greater xs ys

-- the clock over that many queues and threads that knows nothing
abbrev pub zero_clock : ℕ → ℕ → Clock
zero_clock queues threads = record { queues = replicate queues 0; threads = replicate threads 0 }

-- the clock over no queues and no threads
abbrev pub empty_clock : Clock
empty_clock = record { queues = []; threads = [] }

-- what two clocks know together
abbrev pub joined : Clock → Clock → Clock
joined a b = record { queues = greater a.queues b.queues; threads = greater a.threads b.threads }

-- the clock with the number of a queue, and of a thread
abbrev pub with_op : Clock → ℕ → ℕ → Clock
with_op a q n = record a { queues = numbered q n a.queues }

abbrev pub with_call : Clock → ℕ → ℕ → Clock
with_call a t n = record a { threads = numbered t n a.threads }

-- a clock knows an operation, or a call
abbrev pub knows : Clock → Act → Bool
knows a (OfQueue q n) = nat_le n (number a.queues q)
knows a (OfThread t n) = nat_le n (number a.threads t)

-- a clock knows no more than another
pub record Within (a b : Clock) : Type 0 where
  pub queues : (q : ℕ) → number a.queues q ≤ number b.queues q
  pub threads : (t : ℕ) → number a.threads t ≤ number b.threads t
