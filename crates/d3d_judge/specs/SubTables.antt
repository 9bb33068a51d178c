-- Who touched the words of one subresource, by the tables of queues and of threads.
use Rattle.std.specs.Prelude.{ℕ, ◌≡◌, ◌≤◌, List, length, replicate, Bool, cond, Option, Some, None}
use Rattle.dx_base.specs.Each.{Each}
use Rattle.dx_base.specs.Lists.{changed_at}
use Rattle.d3d_judge.specs.Carried.{item_or}
use Rattle.d3d_judge.specs.Tables.{conflicts_in, is_of_queue, is_of_thread}
use Rattle.d3d_judge.specs.Touches.{Doing, Reads, Writes, Touch}
use Rattle.d3d_judge.specs.ActorTables.{AreTied, raised_table}
use Rattle.d3d_judge.specs.declared.sub_tables.SubTables.{SubTables}

abbrev pub doing_if : Bool → Doing
doing_if writes = cond writes Writes Reads

-- the tables of the operations with which a later read, or write, conflicts
abbrev pub scopes_against : Bool → SubTables → List (Option (List ℕ))
scopes_against writes x = cond writes x.queue_touches x.queue_writes

-- the tables of the calls with which a later read, or write, conflicts
abbrev pub calls_against : Bool → SubTables → List (Option (List ℕ))
calls_against writes x = cond writes x.thread_touches x.thread_writes

-- the tables have what a list of touches does to the subresource
pub record IsTied (r s : ℕ) (made : List Touch) (x : SubTables) : Type 0 where
  pub queue_writes : AreTied (λ q. conflicts_in (is_of_queue q) Reads r s) made x.queue_writes
  pub queue_touches : AreTied (λ q. conflicts_in (is_of_queue q) Writes r s) made x.queue_touches
  pub thread_writes : AreTied (λ t. conflicts_in (is_of_thread t) Reads r s) made x.thread_writes
  pub thread_touches : AreTied (λ t. conflicts_in (is_of_thread t) Writes r s) made x.thread_touches

abbrev pub no_touches : ℕ → ℕ → SubTables
no_touches queues threads = record {
  queue_writes = replicate queues None;
  queue_touches = replicate queues None;
  thread_writes = replicate threads None;
  thread_touches = replicate threads None;
}

-- an actor's table has that many words
abbrev pub IsWide : ℕ → Option (List ℕ) → Type 0
IsWide words None = ⊥
IsWide words (Some zs) = words ≤ length zs

abbrev pub raised_if : Bool → ℕ → ℕ → ℕ → ℕ → List (Option (List ℕ)) → List (Option (List ℕ))
raised_if b first end n a tables = cond b (changed_at (raised_table first end n) a tables) tables

-- after an operation of a queue touched words
abbrev pub after_scope : ℕ → Bool → ℕ → ℕ → ℕ → SubTables → SubTables
after_scope q writes first end n x = record x {
  queue_writes = raised_if writes first end n q x.queue_writes;
  queue_touches = changed_at (raised_table first end n) q x.queue_touches;
}

-- after a call of a thread touched words
abbrev pub after_call : ℕ → Bool → ℕ → ℕ → ℕ → SubTables → SubTables
after_call t writes first end n x = record x {
  thread_writes = raised_if writes first end n t x.thread_writes;
  thread_touches = changed_at (raised_table first end n) t x.thread_touches;
}

-- whatever was touched, tables that have it have it still
abbrev pub KeepTies : SubTables → SubTables → Type 0
KeepTies x y = (r s : ℕ) (made : List Touch) → IsTied r s made x → IsTied r s made y

-- there are tables for what an operation of a queue touches before a place
pub record HasScopeTables (q end : ℕ) (x : SubTables) : Type 0 where
  pub writes : IsWide end (item_or None x.queue_writes q)
  pub touches : IsWide end (item_or None x.queue_touches q)

-- there are tables for what a call of a thread touches before a place
pub record HasCallTables (t end : ℕ) (x : SubTables) : Type 0 where
  pub writes : IsWide end (item_or None x.thread_writes t)
  pub touches : IsWide end (item_or None x.thread_touches t)

-- tables that are there stay, and are as wide
pub record KeepSubTables (x y : SubTables) : Type 0 where
  pub scopes : (q end : ℕ) → HasScopeTables q end x → HasScopeTables q end y
  pub calls : (t end : ℕ) → HasCallTables t end x → HasCallTables t end y

-- as many tables of queues, and of threads
pub record HasActors (queues threads : ℕ) (x : SubTables) : Type 0 where
  pub queue_writes : length x.queue_writes ≡ queues
  pub queue_touches : length x.queue_touches ≡ queues
  pub thread_writes : length x.thread_writes ≡ threads
  pub thread_touches : length x.thread_touches ≡ threads

-- a table that is there has that many words
abbrev pub IsWideIfThere : ℕ → Option (List ℕ) → Type 0
IsWideIfThere words None = Unit {0}
IsWideIfThere words (Some zs) = words ≤ length zs

pub record IsWideSub (words : ℕ) (x : SubTables) : Type 0 where
  pub queue_writes : Each (IsWideIfThere words) x.queue_writes
  pub queue_touches : Each (IsWideIfThere words) x.queue_touches
  pub thread_writes : Each (IsWideIfThere words) x.thread_writes
  pub thread_touches : Each (IsWideIfThere words) x.thread_touches

-- the tables of a subresource of that many words
pub record IsShaped (queues threads words : ℕ) (x : SubTables) : Type 0 where
  pub actors : HasActors queues threads x
  pub queue_writes : Each (IsWideIfThere words) x.queue_writes
  pub queue_touches : Each (IsWideIfThere words) x.queue_touches
  pub thread_writes : Each (IsWideIfThere words) x.thread_writes
  pub thread_touches : Each (IsWideIfThere words) x.thread_touches

abbrev pub KeepShape : ℕ → SubTables → SubTables → Type 0
KeepShape words x y = (queues threads : ℕ) → IsShaped queues threads words x → IsShaped queues threads words y
