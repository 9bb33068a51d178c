-- Who touched the words of all resources, by tables.
use Rattle.std.specs.Prelude.{ℕ, ◌+◌, ◌≡◌, ◌<◌, ◌++◌, List, [], ◌∷◌, length, map, slice_get, Some, Bool}
use Rattle.dx_base.specs.Each.{Each}
use Rattle.dx_base.specs.Lists.{changed_at}
use Rattle.clocks.specs.declared.clock.Clock.{Clock}
use Rattle.clocks.specs.Clocks.{Act}
use Rattle.d3d_judge.specs.Carried.{item_or}
use Rattle.d3d_judge.specs.Setting.{Traits, no_traits}
use Rattle.d3d_judge.specs.Tables.{OfQueues, OfThreads}
use Rattle.d3d_judge.specs.Touches.{Touch, breaks_one, breaks_ten, breaks_ten_host}
use Rattle.d3d_judge.specs.ActorTables.{AreMade}
use Rattle.d3d_judge.specs.SubTables.{doing_if, no_touches, after_scope, after_call, IsTied, HasActors, HasScopeTables, HasCallTables, KeepTies, KeepShape, KeepSubTables, IsShaped, IsWideSub}
use Rattle.d3d_judge.specs.declared.sub_tables.SubTables.{SubTables}
use Rattle.d3d_judge.specs.declared.word_touches.WordAccess.{WordAccess}

-- what an access of words touches
abbrev pub touch_by : Act → WordAccess → Touch
touch_by act a = record { act = act; range = record { resource = a.resource; sub = a.sub; first = a.first; words = a.words }; doing = doing_if a.writes }

-- the tables of each subresource have what a list of touches does to it
abbrev pub AreAllTied : List Touch → List (List SubTables) → Type 0
AreAllTied made all = (r s : ℕ) (xs : List SubTables) (x : SubTables) → slice_get all r ≡ Some xs → slice_get xs s ≡ Some x → IsTied r s made x

-- there is that subresource
pub record HasSub (all : List (List SubTables)) (r s : ℕ) : Type 0 where
  pub resource : r < length all
  pub sub : s < length (item_or [] all r)

-- there are tables of that many queues and threads
abbrev pub HaveActors : ℕ → ℕ → List (List SubTables) → Type 0
HaveActors queues threads all = Each (λ xs. Each (HasActors queues threads) xs) all

-- there are tables of a queue, and of a thread
pub record HasQueue (q : ℕ) (x : SubTables) : Type 0 where
  pub writes : q < length x.queue_writes
  pub touches : q < length x.queue_touches

pub record HasThread (t : ℕ) (x : SubTables) : Type 0 where
  pub writes : t < length x.thread_writes
  pub touches : t < length x.thread_touches

abbrev pub HaveQueue : ℕ → List (List SubTables) → Type 0
HaveQueue q all = Each (λ xs. Each (HasQueue q) xs) all

abbrev pub HaveThread : ℕ → List (List SubTables) → Type 0
HaveThread t all = Each (λ xs. Each (HasThread t) xs) all

-- a test is that of B1, of whatever was touched
abbrev pub TellsOne : List (List SubTables) → Clock → WordAccess → Bool → Type 0
TellsOne all clock a b =
    (act : Act) (made : List Touch) → AreAllTied made all → OfQueues (length clock.queues) made → b ≡ breaks_one clock made (touch_by act a)

-- a test is that of B10, of whatever was touched
abbrev pub TellsTen : List (List SubTables) → Clock → WordAccess → Bool → Type 0
TellsTen all clock a b =
    (act : Act) (made : List Touch) → AreAllTied made all → OfThreads (length clock.threads) made → b ≡ breaks_ten clock made (touch_by act a)

-- tables have one touch more, whatever was touched before
abbrev pub HaveOneMore : List (List SubTables) → Act → WordAccess → List (List SubTables) → Type 0
HaveOneMore old act a new = (made : List Touch) → AreAllTied made old → AreAllTied (made ++ touch_by act a ∷ []) new

-- tables have what they had, whatever was touched
abbrev pub KeepAllTies : List (List SubTables) → List (List SubTables) → Type 0
KeepAllTies old new = (made : List Touch) → AreAllTied made old → AreAllTied made new

-- there are tables for what an operation of a queue, or a call of a thread, accesses
abbrev pub HasTablesOfQueue : List (List SubTables) → ℕ → WordAccess → Type 0
HasTablesOfQueue all q a = (xs : List SubTables) (x : SubTables) → slice_get all a.resource ≡ Some xs → slice_get xs a.sub ≡ Some x → HasScopeTables q (a.first + a.words) x

abbrev pub HasTablesOfThread : List (List SubTables) → ℕ → WordAccess → Type 0
HasTablesOfThread all t a = (xs : List SubTables) (x : SubTables) → slice_get all a.resource ≡ Some xs → slice_get xs a.sub ≡ Some x → HasCallTables t (a.first + a.words) x

-- tables that are there stay, and are as wide
pub record KeepTables (old new : List (List SubTables)) : Type 0 where
  pub queues : (q : ℕ) (a : WordAccess) → HasTablesOfQueue old q a → HasTablesOfQueue new q a
  pub threads : (t : ℕ) (a : WordAccess) → HasTablesOfThread old t a → HasTablesOfThread new t a

-- a test is that of B10 for the host, of whatever was touched
abbrev pub TellsHost : List (List SubTables) → Clock → WordAccess → Bool → Type 0
TellsHost all clock a b =
    (act : Act) (made : List Touch) → AreAllTied made all → OfQueues (length clock.queues) made → OfThreads (length clock.threads) made →
    b ≡ breaks_ten_host clock made (touch_by act a)

-- tables of resources whose words nobody touched
abbrev pub untouched : ℕ → ℕ → List Traits → List (List SubTables)
untouched queues threads rs = map (λ r. map (λ _. no_touches queues threads) r.subs) rs

-- the tables after an operation of a queue, or a call of a thread, accessed words
abbrev pub after_scope_at : ℕ → ℕ → WordAccess → List (List SubTables) → List (List SubTables)
after_scope_at q n a all = changed_at (changed_at (after_scope q a.writes a.first (a.first + a.words) n) a.sub) a.resource all

abbrev pub after_call_at : ℕ → ℕ → WordAccess → List (List SubTables) → List (List SubTables)
after_call_at t n a all = changed_at (changed_at (after_call t a.writes a.first (a.first + a.words) n) a.sub) a.resource all

-- one subresource of a list was made tables of: what was touched, and the shapes, are kept
pub record SubKept (words s : ℕ) (old new : List SubTables) : Type 0 where
  pub before : SubTables
  pub after : SubTables
  pub found : slice_get old s ≡ Some before
  pub set : new ≡ changed_at (λ _. after) s old
  pub ties : KeepTies before after
  pub shape : KeepShape words before after
  pub tables : KeepSubTables before after

-- the tables of the subresources of a resource, by the words of each
abbrev pub SubsShaped : ℕ → ℕ → List ℕ → List SubTables → Type 0
SubsShaped queues threads [] [] = Unit {0}
SubsShaped queues threads [] (x ∷ xs) = ⊥
SubsShaped queues threads (n ∷ ns) [] = ⊥
SubsShaped queues threads (n ∷ ns) (x ∷ xs) = IsShaped queues threads n x × SubsShaped queues threads ns xs

-- the tables of all resources
abbrev pub AreShaped : ℕ → ℕ → List Traits → List (List SubTables) → Type 0
AreShaped queues threads [] [] = Unit {0}
AreShaped queues threads [] (x ∷ xs) = ⊥
AreShaped queues threads (r ∷ rs) [] = ⊥
AreShaped queues threads (r ∷ rs) (x ∷ xs) = SubsShaped queues threads r.subs x × AreShaped queues threads rs xs

-- the words of a subresource
abbrev pub words_at : List Traits → ℕ → ℕ → ℕ
words_at rs r s = item_or 0 (item_or no_traits rs r).subs s

-- the tables keep their shapes, where the named subresource has that many words
abbrev pub KeepShapes : ℕ → ℕ → ℕ → List (List SubTables) → List (List SubTables) → Type 0
KeepShapes r s words old new = (queues threads : ℕ) (rs : List Traits) → words_at rs r s ≡ words → AreShaped queues threads rs old → AreShaped queues threads rs new

-- tables that are there at a subresource have that many words
abbrev pub IsWideAt : List (List SubTables) → WordAccess → ℕ → Type 0
IsWideAt all a words = (xs : List SubTables) (x : SubTables) → slice_get all a.resource ≡ Some xs → slice_get xs a.sub ≡ Some x → IsWideSub words x

-- the tables of a queue, and of a thread, were made where there were none
pub record AreQueuesMade (words q s : ℕ) (old new : List SubTables) : Type 0 where
  pub writes : (x y : SubTables) → slice_get old s ≡ Some x → slice_get new s ≡ Some y → AreMade words x.queue_writes q y.queue_writes
  pub touches : (x y : SubTables) → slice_get old s ≡ Some x → slice_get new s ≡ Some y → AreMade words x.queue_touches q y.queue_touches

pub record AreThreadsMade (words t s : ℕ) (old new : List SubTables) : Type 0 where
  pub writes : (x y : SubTables) → slice_get old s ≡ Some x → slice_get new s ≡ Some y → AreMade words x.thread_writes t y.thread_writes
  pub touches : (x y : SubTables) → slice_get old s ≡ Some x → slice_get new s ≡ Some y → AreMade words x.thread_touches t y.thread_touches

-- the tables of a world at first: nothing was touched; and what their shapes tell, and keep
pub record ShapesStay : Type 0 where
  pub nothing : (queues threads : ℕ) (rs : List Traits) → AreAllTied [] (untouched queues threads rs)
  pub first : (queues threads : ℕ) (rs : List Traits) → AreShaped queues threads rs (untouched queues threads rs)
  pub after_scopes : (queues threads q n : ℕ) (a : WordAccess) (rs : List Traits) (all : List (List SubTables)) → AreShaped queues threads rs all → AreShaped queues threads rs (after_scope_at q n a all)
  pub after_calls : (queues threads t n : ℕ) (a : WordAccess) (rs : List Traits) (all : List (List SubTables)) → AreShaped queues threads rs all → AreShaped queues threads rs (after_call_at t n a all)
  pub subs : (queues threads : ℕ) (rs : List Traits) (all : List (List SubTables)) (r s : ℕ) → AreShaped queues threads rs all → s < length (item_or no_traits rs r).subs → HasSub all r s
  pub actors : (queues threads : ℕ) (rs : List Traits) (all : List (List SubTables)) → AreShaped queues threads rs all → HaveActors queues threads all
  pub of_queues : (queues threads : ℕ) (rs : List Traits) (all : List (List SubTables)) (q : ℕ) → q < queues → AreShaped queues threads rs all → HaveQueue q all
  pub of_threads : (queues threads : ℕ) (rs : List Traits) (all : List (List SubTables)) (t : ℕ) → t < threads → AreShaped queues threads rs all → HaveThread t all
  pub wide : (queues threads : ℕ) (rs : List Traits) (all : List (List SubTables)) (a : WordAccess) → AreShaped queues threads rs all → IsWideAt all a (words_at rs a.resource a.sub)
