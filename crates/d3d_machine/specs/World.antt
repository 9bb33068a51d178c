-- A world: its objects, and what a call may name.
use Rattle.std.specs.Prelude.{ℕ, ◌≡◌, ◌≤◌, ◌+◌, ◌*◌, ◌%◌, ◌==◌, ◌&&◌, nat_lt, nat_le, Bool, true, false, List, length, slice_get, Option, Some, None, sum_by}
use Rattle.std.specs.List.{list_all}
use Rattle.dx_base.specs.declared.kinds.Home.{Home}
use Rattle.dx_base.specs.declared.kinds.Home.TheVariants as home
use Rattle.d3d_machine.specs.declared.world.Resource.{Resource}
use Rattle.d3d_machine.specs.declared.world.Resource.TheVariants.{Buffer}
use Rattle.d3d_machine.specs.declared.world.World.{World}
use Rattle.d3d_machine.specs.declared.calls.Call.{Call}
use Rattle.d3d_machine.specs.declared.calls.Call.TheVariants as call
use Rattle.d3d_machine.specs.declared.calls.Record.{Record}
use Rattle.d3d_machine.specs.declared.calls.Record.TheVariants.{Copy}
use Rattle.d3d_machine.specs.Counts.{calls_in_all, lists_in_all}

-- the resource of that id, where it lives
abbrev pub resource_of : World → ℕ → Option Resource
resource_of w r = elim (slice_get w.resources r) [ None ↦ None | Some o ↦ o ]

-- the size of a resource in words
abbrev pub words_of_resource : Resource → ℕ
words_of_resource (Buffer h n) = n

-- the size of the buffer of that id in words; none where it is dead
abbrev pub words_in : World → ℕ → ℕ
words_in w r = elim (resource_of w r) [ None ↦ 0 | Some b ↦ words_of_resource b ]

abbrev pub is_upload_home : Home → Bool
is_upload_home home.Upload = true
is_upload_home home.Readback = false
is_upload_home home.Legacy = false
is_upload_home home.Enhanced = false

abbrev pub is_readback_home : Home → Bool
is_readback_home home.Upload = false
is_readback_home home.Readback = true
is_readback_home home.Legacy = false
is_readback_home home.Enhanced = false

abbrev pub home_test : (Home → Bool) → Option Resource → Bool
home_test test None = false
home_test test (Some (Buffer h n)) = test h

-- the buffer lives, and the host writes it
abbrev pub is_upload : World → ℕ → Bool
is_upload w r = home_test is_upload_home (resource_of w r)

-- the buffer lives, and the host reads it
abbrev pub is_readback : World → ℕ → Bool
is_readback w r = home_test is_readback_home (resource_of w r)

-- a number of bytes is one of whole words
abbrev pub is_whole : ℕ → Bool
is_whole n = n % 4 == 0

-- a range of bytes is one of whole words, and lies inside a buffer of that many words
abbrev pub is_inside : ℕ → ℕ → ℕ → Bool
is_inside words offset bytes = is_whole offset && (is_whole bytes && nat_le (offset + bytes) (4 * words))

-- two ranges of one size share a byte
abbrev pub overlaps : ℕ → ℕ → ℕ → Bool
overlaps a b bytes = nat_lt a (b + bytes) && nat_lt b (a + bytes)

-- what a recording call names are objects of the world
abbrev pub is_named_record : World → Record → Bool
is_named_record w (Copy d doff s soff bytes) = nat_lt d.0 (length w.resources) && nat_lt s.0 (length w.resources)

-- what a call names are objects of the world
abbrev pub is_named : World → Call → Bool
is_named w (call.Recording l what) = nat_lt l.0 (length w.lists) && is_named_record w what
is_named w (call.Close l) = nat_lt l.0 (length w.lists)
is_named w (call.Reset l a) = nat_lt l.0 (length w.lists) && nat_lt a.0 (length w.allocators)
is_named w (call.Execute q ls) = nat_lt q.0 (length w.queues) && list_all (λ l. nat_lt l.0 (length w.lists)) ls
is_named w (call.Signal q f v) = nat_lt q.0 (length w.queues) && nat_lt f.0 (length w.fences)
is_named w (call.HostSignal f v) = nat_lt f.0 (length w.fences)
is_named w (call.HostWait f v) = nat_lt f.0 (length w.fences)
is_named w (call.Value f) = nat_lt f.0 (length w.fences)
is_named w (call.Write b o ws) = nat_lt b.0 (length w.resources)
is_named w (call.Read b o n) = nat_lt b.0 (length w.resources)

-- the calls of all scripts name objects of the world
abbrev pub are_named : World → Bool
are_named w = list_all (λ script. list_all (is_named w) script) w.scripts

abbrev pub is_small_resource : Option Resource → Bool
is_small_resource None = true
is_small_resource (Some (Buffer h n)) = nat_le n 262144

-- the words of a resource; a dead one has none
abbrev pub words_of_option : Option Resource → ℕ
words_of_option None = 0
words_of_option (Some b) = words_of_resource b

-- the words of all resources
abbrev pub words_of_resources : List (Option Resource) → ℕ
words_of_resources rs = sum_by words_of_option rs

-- a valid world: its calls name objects of it, and it keeps the limits of a trace
pub record IsWorld (w : World) : Type 0 where
  pub named : are_named w ≡ true
  pub queues : length w.queues ≤ 16
  pub fences : length w.fences ≤ 256
  pub resources : length w.resources ≤ 4096
  pub allocators : length w.allocators ≤ 1024
  pub lists : length w.lists ≤ 1024
  pub threads : length w.scripts ≤ 16
  pub sizes : list_all is_small_resource w.resources ≡ true
  pub words : words_of_resources w.resources ≤ 1048576
  pub calls : calls_in_all w.scripts ≤ 65536
  pub executed : lists_in_all w.scripts ≤ 4096

-- a world has one queue, or none
pub record HasOneQueueAtMost (w : World) : Type 0 where
  pub few_queues : length w.queues ≤ 1
