-- Worlds of rounds: in each round four words are written, copied and read, and the host waits for the copy before it reads.
use Rattle.std.specs.Prelude.{ℕ, ◌≡◌, ◌<◌, ◌^◌, List, [], ◌∷◌, length, flat_map, codes, Some}
use Rattle.std.specs.List.{All}
use Rattle.dx_base.specs.declared.kinds.Home.TheVariants as home
use Rattle.dx_base.specs.declared.kinds.ListType.TheVariants.{Direct}
use Rattle.d3d_machine.specs.declared.calls.Call.{Call}
use Rattle.d3d_machine.specs.declared.calls.Call.TheVariants as call
use Rattle.d3d_machine.specs.declared.calls.Record.TheVariants.{Copy}
use Rattle.d3d_machine.specs.declared.world.Resource.TheVariants.{Buffer}
use Rattle.d3d_machine.specs.declared.world.World.{World}
use Rattle.trace_lines.specs.declared.object.Declared.{Declared}
use Rattle.trace_lines.specs.declared.object.Declared.TheVariants as declared
use Rattle.trace_text.specs.Values.{Value}

-- a round: the words that it writes, and the value that it signals
pub record Round : Type 0 where
  pub words : List ℕ
  pub value : ℕ

-- the calls of a round, in order
unfoldable pub calls_of : Round → List Call
calls_of r =
    call.Write (record { 0 = 0 }) 0 r.words
    ∷ call.Reset (record { 0 = 0 }) (record { 0 = 0 })
    ∷ call.Recording (record { 0 = 0 }) (Copy (record { 0 = 1 }) 0 (record { 0 = 0 }) 0 16)
    ∷ call.Close (record { 0 = 0 })
    ∷ call.Execute (record { 0 = 0 }) ((record { 0 = 0 }) ∷ [])
    ∷ call.Signal (record { 0 = 0 }) (record { 0 = 0 }) r.value
    ∷ call.HostWait (record { 0 = 0 }) r.value
    ∷ call.Read (record { 0 = 1 }) 0 16
    ∷ []

-- one queue, one fence at 0, a buffer to write and one to read, of four words each, one allocator, two lists, and one
-- thread with those calls
abbrev pub world_with : List Call → World
world_with calls = record {
  queues = Direct ∷ [];
  fences = 0 ∷ [];
  resources = Some (Buffer home.Upload 4) ∷ Some (Buffer home.Readback 4) ∷ [];
  allocators = Direct ∷ [];
  lists = Direct ∷ Direct ∷ [];
  scripts = calls ∷ [];
}

-- the world whose thread makes the calls of rounds
abbrev pub world_of_rounds : List Round → World
world_of_rounds rounds = world_with (flat_map calls_of rounds)

-- the objects of these worlds as a trace declares them, and the names that it gives them and its thread
abbrev pub objects_of_rounds : List Declared
objects_of_rounds =
    declared.Queue Direct
    ∷ declared.Fence 0
    ∷ declared.Buffer home.Upload 16
    ∷ declared.Buffer home.Readback 16
    ∷ declared.Allocator Direct
    ∷ declared.List Direct
    ∷ declared.List Direct
    ∷ []

abbrev pub names_of_rounds : List (List ℕ)
names_of_rounds = codes "q" ∷ codes "f" ∷ codes "u" ∷ codes "b" ∷ codes "a" ∷ codes "l" ∷ codes "m" ∷ codes "t" ∷ []

-- what a trace of rounds says
abbrev pub value_of_rounds : List Round → Value
value_of_rounds rounds = record { names = names_of_rounds; declared = objects_of_rounds; scripts = flat_map calls_of rounds ∷ [] }

-- the round of the first example: it writes the words 1 to 4, and signals 1
abbrev pub first_round : Round
first_round = record { words = 1 ∷ 2 ∷ 3 ∷ 4 ∷ []; value = 1 }

-- the lines of a trace with that round alone: the first example, but that its data words have eight digits
abbrev pub first_lines : List (List ℕ)
first_lines =
    codes "d3dtrace 1"
    ∷ codes "queue q direct"
    ∷ codes "fence f 0"
    ∷ codes "buffer u upload 16"
    ∷ codes "buffer b readback 16"
    ∷ codes "allocator a direct"
    ∷ codes "list l direct"
    ∷ codes "list m direct"
    ∷ codes "thread t"
    ∷ codes "write u 0 00000001 00000002 00000003 00000004"
    ∷ codes "reset l a"
    ∷ codes "copy l b 0 u 0 16"
    ∷ codes "close l"
    ∷ codes "execute q l"
    ∷ codes "signal q f 1"
    ∷ codes "hostwait f 1"
    ∷ codes "read b 0 16"
    ∷ codes "end"
    ∷ []

-- a round has a value above that of the round before, and four words
pub record IsRoundAbove (v : ℕ) (r : Round) : Type 0 where
  pub above : v < r.value
  pub four : length r.words ≡ 4

-- each round has four words, and a value above that of the round before; the first round, above that value
abbrev pub AreRising : ℕ → List Round → Type 0
AreRising v [] = Unit {0}
AreRising v (r ∷ rs) = IsRoundAbove v r × AreRising r.value rs

-- a round's words are of 32 bits, and its value is of 64
pub record IsSmall (r : Round) : Type 0 where
  pub words : All (λ n. n < 2 ^ 32) r.words
  pub value : r.value < 2 ^ 64

-- each round is small
abbrev pub AreSmall : List Round → Type 0
AreSmall rounds = All (λ r. IsSmall r) rounds

-- a world is that of rounds, whose values rise from 0
pub record IsOfRounds (w : World) : Type 0 where
  pub rounds : List Round
  pub rising : AreRising 0 rounds
  pub world : world_of_rounds rounds ≡ w
