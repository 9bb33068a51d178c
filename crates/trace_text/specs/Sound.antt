-- What holds of each value that lines write.
use Rattle.std.specs.Prelude.{ℕ, ◌≡◌, ◌≤◌, ◌+◌, ◌^◌, ◌&&◌, nat_le, nat_lt, Bool, true, false, List, [], length}
use Rattle.std.specs.List.{list_all, IsDistinct}
use Rattle.std.specs.Str.{bytes_eq}
use Rattle.dx_base.specs.declared.kinds.Home.{Home}
use Rattle.dx_base.specs.declared.kinds.Home.TheVariants as home_of
use Rattle.dx_base.specs.declared.kinds.ListType.{ListType}
use Rattle.dx_base.specs.declared.kinds.ListType.TheVariants as type_of
use Rattle.d3d_machine.specs.declared.calls.Call.{Call}
use Rattle.d3d_machine.specs.World.{are_named}
use Rattle.trace_words.specs.Words.{is_name}
use Rattle.trace_lines.specs.declared.object.Declared.{Declared}
use Rattle.trace_lines.specs.declared.object.Declared.TheVariants as declared
use Rattle.line_forms.specs.declared.kind.Kind.{Kind}
use Rattle.line_forms.specs.declared.kind.Kind.TheVariants as kind
use Rattle.line_forms.specs.Sound.{is_sound_line}
use Rattle.trace_lines.specs.Formed.{call_formed, object_formed}
use Rattle.trace_lines.specs.Forms.{form_row}
use Rattle.trace_lines.specs.Kinds.{count_of, most_of, words_of_all}
use Rattle.d3d_machine.specs.Counts.{calls_in_all, lists_in_all}
use Rattle.trace_text.specs.Values.{Value}
use Rattle.trace_text.specs.WorldOf.{world_of_value}

-- a name is spelled well, in at most 32 bytes
abbrev pub is_fit_name : List ℕ → Bool
is_fit_name n = is_name n && nat_le (length n) 32

-- a number of at most 64 bits
abbrev pub is_wide : ℕ → Bool
is_wide n = nat_lt n (2 ^ 64)

-- the type is `direct`; the others come later
abbrev pub is_direct : ListType → Bool
is_direct type_of.Direct = true
is_direct type_of.Compute = false
is_direct type_of.Copy = false

-- the place is `upload` or `readback`; the others come later
abbrev pub is_host_home : Home → Bool
is_host_home home_of.Upload = true
is_host_home home_of.Readback = true
is_host_home home_of.Legacy = false
is_host_home home_of.Enhanced = false

-- an object's type or place is one that is read
abbrev pub is_read_object : Declared → Bool
is_read_object (declared.Queue t) = is_direct t
is_read_object (declared.Buffer h n) = is_host_home h
is_read_object (declared.Allocator t) = is_direct t
is_read_object (declared.List t) = is_direct t
is_read_object _ = true

-- an object's type or place is one that is read, and its values are ones of their parts; of its name nothing is asked here
abbrev pub is_sound_object : Declared → Bool
is_sound_object d = is_read_object d && is_sound_line (form_row (object_formed [] d).form) (object_formed [] d).line

-- a call's values are ones of their parts
abbrev pub is_sound_call : Call → Bool
is_sound_call c = is_sound_line (form_row (call_formed c).form) (call_formed c).line

-- a value has a name for each object and each thread, and its names are spelled well and differ pairwise; its objects
-- and calls are sound; its calls name objects of it; and it keeps all limits, with at most one queue and one thread
pub record IsSound (v : Value) : Type 0 where
  pub named_all : length v.names ≡ length v.declared + length v.scripts
  pub spelled : list_all is_fit_name v.names ≡ true
  pub different : IsDistinct bytes_eq v.names
  pub objects : list_all is_sound_object v.declared ≡ true
  pub few_objects : (k : Kind) → count_of k v.declared ≤ most_of k
  pub few_queues : count_of kind.Queue v.declared ≤ 1
  pub few_words : words_of_all v.declared ≤ 1048576
  pub few_threads : length v.scripts ≤ 1
  pub calls : list_all (λ script. list_all is_sound_call script) v.scripts ≡ true
  pub named : are_named (world_of_value v) ≡ true
  pub few_calls : calls_in_all v.scripts ≤ 65536
  pub few_lists : lists_in_all v.scripts ≤ 4096
