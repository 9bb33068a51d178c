-- How clocks are carried along a history: a fold over what happens at its events, which reads no memory, no verdict and no words.
use Rattle.std.specs.Prelude.{cond, ◌≡◌, ℕ, zero, suc, ◌-◌, nat_le, List, [], ◌∷◌, ◌++◌, length, drop, map, false, Option, Some, None}
use Rattle.dx_base.specs.Each.{Each}
use Rattle.dx_base.specs.Lists.{changed_at}
use Rattle.clocks.specs.declared.clock.Clock.{Clock}
use Rattle.clocks.specs.Clocks.{OfThread, joined, knows, Within, number, with_call, with_op, empty_clock, zero_clock}
use Rattle.d3d_machine.specs.declared.events.Event.{Event}
use Rattle.d3d_machine.specs.declared.world.World.{World}
use Rattle.d3d_judge.specs.Happenings.{Happening, Calls, Wakes, Completes, Deed, Gives, SetsFence, WaitsFor, Asks, Stores, Loads, Nothing, Work, Executes, Signals, Waits, happenings}

-- the item at a place, or else another
abbrev pub item_or : {A : Type 0} → A → List A → ℕ → A
item_or d [] k = d
item_or d (x ∷ xs) zero = x
item_or d (x ∷ xs) (suc k) = item_or d xs k

-- an update of a fence: its value, and what it knows
pub record Update : Type 0 where
  pub value : ℕ
  pub clock : Clock

-- a called operation that has not completed: what its call knew, and of a wait the place of the update that was current
pub record Pending : Type 0 where
  pub what : Work
  pub clock : Clock
  pub since : ℕ

-- a wait of a thread
pub record Armed : Type 0 where
  pub fence : ℕ
  pub value : ℕ
  pub since : ℕ

-- what each thread and queue, each pending operation and each update knows; `ends` counts each queue's completions and each
-- thread's calls
pub record Clocks : Type 0 where
  pub ends : Clock
  pub threads : List Clock
  pub queues : List Clock
  pub pending : List (List Pending)
  pub updates : List (List Update)
  pub waits : List Armed

abbrev pub no_wait : Armed
no_wait = record { fence = 0; value = 0; since = 0 }

-- the clock of the first update that is at least a value; an empty clock where there is none
abbrev pub sufficient : ℕ → List Update → Clock
sufficient v [] = empty_clock
sufficient v (u ∷ us) = cond (nat_le v u.value) u.clock (sufficient v us)

-- the clock of the update that marks a wait
abbrev pub marking : List (List Update) → ℕ → ℕ → ℕ → Clock
marking updates f since v = sufficient v (drop since (item_or [] updates f))

-- the clock of the last update
abbrev pub latest : List Update → Clock
latest [] = empty_clock
latest (u ∷ []) = u.clock
latest (u ∷ v ∷ us) = latest (v ∷ us)

-- the place of the current update
abbrev pub current : List (List Update) → ℕ → ℕ
current updates f = length (item_or [] updates f) - 1

abbrev pub thread_clock : Clocks → ℕ → Clock
thread_clock s t = item_or empty_clock s.threads t

abbrev pub queue_clock : Clocks → ℕ → Clock
queue_clock s q = item_or empty_clock s.queues q

-- the counts after one call more of a thread, and after one completion more of a queue
abbrev pub one_call_more : Clock → ℕ → Clock
one_call_more ends t = with_call ends t (suc (number ends.threads t))

abbrev pub one_completion_more : Clock → ℕ → Clock
one_completion_more ends q = with_op ends q (suc (number ends.queues q))

-- the clock of a thread's next call: its own number is the call's
abbrev pub call_clock : Clocks → ℕ → Clock
call_clock s t = with_call (thread_clock s t) t (suc (number s.ends.threads t))

-- the state in which the thread has made its call
abbrev pub called_by : Clocks → ℕ → Clocks
called_by s t = record s {
  ends = one_call_more s.ends t;
  threads = changed_at (λ _. call_clock s t) t s.threads;
}

abbrev pub since_of : List (List Update) → Work → ℕ
since_of updates (Executes cs) = 0
since_of updates (Signals f v) = 0
since_of updates (Waits f v) = current updates f

-- what the call does beside
abbrev pub effect : Clocks → ℕ → Clock → Deed → Clocks
effect s t c (Gives q o) = record s { pending = changed_at (λ os. os ++ record { what = o; clock = c; since = since_of s.updates o } ∷ []) q s.pending }
effect s t c (SetsFence f v) = record s { updates = changed_at (λ us. us ++ record { value = v; clock = c } ∷ []) f s.updates }
effect s t c (WaitsFor f v) = record s { waits = changed_at (λ _. record { fence = f; value = v; since = current s.updates f }) t s.waits }
effect s t c (Asks f) = record s { threads = changed_at (λ d. joined d (latest (item_or [] s.updates f))) t s.threads }
effect s t c (Stores r) = s
effect s t c (Loads r) = s
effect s t c Nothing = s

abbrev pub armed_clock : Clocks → Armed → Clock
armed_clock s a = marking s.updates a.fence a.since a.value

-- what the oldest operation of a queue knows when it completes, beside its own number
abbrev pub marked : Clocks → Pending → Work → Clock
marked s p (Executes cs) = empty_clock
marked s p (Signals f v) = empty_clock
marked s p (Waits f v) = marking s.updates f p.since v

abbrev pub head : {A : Type 0} → List A → Option A
head [] = None
head (x ∷ xs) = Some x

abbrev pub head_of : Clocks → ℕ → Option Pending
head_of s q = head (item_or [] s.pending q)

abbrev pub next_number : Clocks → ℕ → ℕ
next_number s q = suc (number s.ends.queues q)

abbrev pub queue_joined : Clocks → ℕ → Pending → Clock
queue_joined s q p = joined (joined p.clock (queue_clock s q)) (marked s p p.what)

-- the clock of the operation itself
abbrev pub completing : Clocks → ℕ → Pending → Clock
completing s q p = with_op (queue_joined s q p) q (next_number s q)

abbrev pub updated : Clock → Work → List (List Update) → List (List Update)
updated c (Executes cs) us = us
updated c (Signals f v) us = changed_at (λ xs. xs ++ record { value = v; clock = c } ∷ []) f us
updated c (Waits f v) us = us

abbrev pub completed : Clocks → ℕ → Option Pending → Clocks
completed s q None = s
completed s q (Some p) = record s {
  ends = one_completion_more s.ends q;
  queues = changed_at (λ _. completing s q p) q s.queues;
  pending = changed_at (drop 1) q s.pending;
  updates = updated (completing s q p) p.what s.updates;
}

-- the clocks after an event
abbrev pub carried : Clocks → Happening → Clocks
carried s (Calls t what) = effect (called_by s t) t (call_clock s t) what
carried s (Wakes t) = record s { threads = changed_at (λ c. joined c (armed_clock s (item_or no_wait s.waits t))) t s.threads }
carried s (Completes q) = completed s q (head_of s q)

-- the clocks after events
abbrev pub carried_all : Clocks → List Happening → Clocks
carried_all s [] = s
carried_all s (e ∷ es) = carried_all (carried s e) es

-- the clock that knows nothing, over the queues and threads of a world
abbrev pub no_clock : World → Clock
no_clock w = zero_clock (length w.queues) (length w.scripts)

abbrev pub first_update : World → ℕ → Update
first_update w v = record { value = v; clock = no_clock w }

-- the clocks before any event: nothing is known, and each fence has its starting value
abbrev pub first_clocks : World → Clocks
first_clocks w = record {
  ends = no_clock w;
  threads = map (λ _. no_clock w) w.scripts;
  queues = map (λ _. no_clock w) w.queues;
  pending = map (λ _. []) w.queues;
  updates = map (λ v. first_update w v ∷ []) w.fences;
  waits = map (λ _. no_wait) w.scripts;
}

-- the clocks after a history
abbrev pub clocks_after : World → List Event → Clocks
clocks_after w h = carried_all (first_clocks w) (happenings w h)

-- every clock knows only calls that were made and operations that are complete
pub record Sound (s : Clocks) : Type 0 where
  pub threads : Each (λ c. Within c s.ends) s.threads
  pub queues : Each (λ c. Within c s.ends) s.queues
  pub pending : Each (λ ps. Each (λ p. Within p.clock s.ends) ps) s.pending
  pub updates : Each (λ us. Each (λ u. Within u.clock s.ends) us) s.updates

-- the last call of a thread is known to no clock but the thread's
pub record Fresh (s : Clocks) (t : ℕ) : Type 0 where
  pub threads : (u : ℕ) → (u ≡ t → ⊥) → knows (thread_clock s u) (OfThread t (number s.ends.threads t)) ≡ false
  pub queues : Each (λ c. knows c (OfThread t (number s.ends.threads t)) ≡ false) s.queues
  pub pending : Each (λ ps. Each (λ p. knows p.clock (OfThread t (number s.ends.threads t)) ≡ false) ps) s.pending
  pub updates : Each (λ us. Each (λ u. knows u.clock (OfThread t (number s.ends.threads t)) ≡ false) us) s.updates
