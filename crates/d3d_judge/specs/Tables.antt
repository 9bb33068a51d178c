-- Tables of numbers by word, in place of the list of all that was touched: of each queue and thread, what conflicts with a
-- later touch, for each word by the greatest number of an operation or call.
use Rattle.std.specs.Prelude.{ℕ, zero, suc, ◌+◌, ◌≡◌, ◌≤◌, ◌<◌, ◌==◌, nat_le, nat_lt, max, min, List, [], ◌∷◌, replicate, Bool, true, false, not, cond, ◌&&◌, ◌||◌}
use Rattle.std.specs.List.{list_any}
use Rattle.dx_base.specs.Each.{Each}
use Rattle.clocks.specs.declared.clock.Clock.{Clock}
use Rattle.clocks.specs.Clocks.{Act, OfQueue, OfThread, number}
use Rattle.word_trees.specs.Numbers.{most, raised}
use Rattle.d3d_judge.specs.Commands.{Range}
use Rattle.d3d_judge.specs.Touches.{Doing, Touch, conflict, breaks_one, breaks_ten}

abbrev pub number_of : Act → ℕ
number_of (OfQueue q n) = n
number_of (OfThread t n) = n

abbrev pub is_of_queue : ℕ → Act → Bool
is_of_queue q (OfQueue p n) = p == q
is_of_queue q (OfThread t n) = false

abbrev pub is_of_thread : ℕ → Act → Bool
is_of_thread t (OfQueue q n) = false
is_of_thread t (OfThread u n) = u == t

-- a touch of that subresource, by an act that passes a test, conflicts with what is done later
abbrev pub conflicts_in : (Act → Bool) → Doing → ℕ → ℕ → Touch → Bool
conflicts_in by later r s m = by m.act && (conflict m.doing later && ((m.range.resource == r) && (m.range.sub == s)))

-- the table of the touches that a test picks, from what stood there: one `raise` for each
abbrev pub table : (Touch → Bool) → List Touch → List ℕ → List ℕ
table pick [] zs = zs
table pick (m ∷ ms) zs = table pick ms (cond (pick m) (raised 0 m.range.first (m.range.first + m.range.words) (number_of m.act) zs) zs)

-- two ranges of one subresource share a word
abbrev pub shares : Range → Range → Bool
shares a b = nat_lt (max a.first b.first) (min (a.first + a.words) (b.first + b.words))

-- a picked touch shares a word with a range, and its number is above what is known
abbrev pub unknown_in : (Touch → Bool) → ℕ → Range → List Touch → Bool
unknown_in pick known r made = list_any (λ m. pick m && (shares m.range r && not (nat_le (number_of m.act) known))) made

-- the same by a table: one `greatest`
abbrev pub table_unknown : ℕ → Range → List ℕ → Bool
table_unknown known r zs = nat_lt known (most 0 r.first (r.first + r.words) zs)

-- the picked touches lie in that many words
abbrev pub AllInside : (Touch → Bool) → ℕ → List Touch → Type 0
AllInside pick words made = Each (λ m. pick m ≡ true → m.range.first + m.range.words ≤ words) made

-- some number below n passes a test
abbrev pub any_below : ℕ → (ℕ → Bool) → Bool
any_below zero f = false
any_below (suc n) f = f n || any_below n f

-- the operations of a list are of the first n queues, the calls of the first n threads
abbrev pub OfQueues : ℕ → List Touch → Type 0
OfQueues n made = Each (λ m. (q k : ℕ) → m.act ≡ OfQueue q k → q < n) made

abbrev pub OfThreads : ℕ → List Touch → Type 0
OfThreads n made = Each (λ m. (t k : ℕ) → m.act ≡ OfThread t k → t < n) made

-- the table of a queue, and of a thread, for a touch
abbrev pub queue_unknown : ℕ → Clock → List Touch → Touch → ℕ → Bool
queue_unknown words clock made t q =
    table_unknown (number clock.queues q) t.range (table (conflicts_in (is_of_queue q) t.doing t.range.resource t.range.sub) made (replicate words 0))

abbrev pub thread_unknown : ℕ → Clock → List Touch → Touch → ℕ → Bool
thread_unknown words clock made t u =
    table_unknown (number clock.threads u) t.range (table (conflicts_in (is_of_thread u) t.doing t.range.resource t.range.sub) made (replicate words 0))

-- a table tells of any list of touches whether a picked one is not known
abbrev pub TablesTell : Type 0
TablesTell = (pick : Touch → Bool) (known : ℕ) (r : Range) (made : List Touch) (words : ℕ) → AllInside pick words made →
    unknown_in pick known r made ≡ table_unknown known r (table pick made (replicate words 0))

-- B1 by the tables of all queues, and B10 by those of all threads
abbrev pub QueueTablesTell : Type 0
QueueTablesTell = (n words : ℕ) (clock : Clock) (made : List Touch) (t : Touch) → OfQueues n made →
    ((q : ℕ) → AllInside (conflicts_in (is_of_queue q) t.doing t.range.resource t.range.sub) words made) →
    breaks_one clock made t ≡ any_below n (queue_unknown words clock made t)

abbrev pub ThreadTablesTell : Type 0
ThreadTablesTell = (n words : ℕ) (clock : Clock) (made : List Touch) (t : Touch) → OfThreads n made →
    ((u : ℕ) → AllInside (conflicts_in (is_of_thread u) t.doing t.range.resource t.range.sub) words made) →
    breaks_ten clock made t ≡ any_below n (thread_unknown words clock made t)
