-- What a call stores and reads on the device.
use Rattle.std.specs.Prelude.{ℕ, ◌≡◌, List, [], Option, Some, None}
use Rattle.dx_base.specs.Effects.{At}
use Rattle.d3d_machine.specs.declared.world.World.{World}
use Rattle.d3d_machine.specs.declared.calls.Call.{Call}
use Rattle.d3d_machine.specs.declared.calls.Reply.{Reply}
use Rattle.d3d_machine.specs.declared.calls.Reply.TheVariants as reply
use Rattle.d3d_machine.specs.declared.events.Listed.{Listed}
use Rattle.d3d_machine.specs.Effects.{done}
use Rattle.d3d_machine.specs.Past.{last_of}
use Rattle.d3d_machine.specs.Replies.{refusal_by, reply_or, good_reply}
use Rattle.d3d_machine.specs.State.{State}
use Rattle.std.specs.Prelude.{map}
use Rattle.vk_types.specs.declared.steps.VkStep.TheVariants.{HostWrite, HostRead}
use Rattle.vk_sync_rules.specs.Rules.{after_step}
use Rattle.vk_sync_rules.specs.VkState.{VkState as Machine}
use Rattle.vk_port.specs.Agreement.{Agree, host_numbers}
use Rattle.sys_core.specs.Lowering.{plan_number}

-- an answer to a read has words that agree with the numbers that the host reads in the buffer, at the buffer's number
pub record IsRead (w : World) (m : Machine) (x : At (ℕ × ℕ)) (r : Reply) : Type 0 where
  pub words : List ℕ
  pub reply_is : r ≡ reply.Words words
  pub agree : Agree words (host_numbers m (plan_number w x.place) x.what.0 x.what.1)

-- a reply is the one that is wanted; to a call that reads, it has words that agree with what the host reads
abbrev pub Answers : World → Machine → Option (At (ℕ × ℕ)) → Reply → Reply → Type 0
Answers w m None wanted r = r ≡ wanted
Answers w m (Some x) wanted r = IsRead w m x r

-- the state that the lists and the fences' last updates give, but for memory
abbrev pub state_by : List Listed → List (List ℕ) → State
state_by lists fences = record { desk = record { fences = map last_of fences; called = []; lists = lists; threads = [] }; memory = [] }

-- the reply of a call, by the lists and the fences' last updates, and but for words
abbrev pub reply_by : World → List Listed → List (List ℕ) → Call → Reply
reply_by w lists fences c = reply_or (refusal_by w lists c) (good_reply (state_by lists fences) c)

-- a reply of a call, by the lists, the fences' last updates and the numbers that the host reads
abbrev pub IsReply : World → List Listed → List (List ℕ) → Machine → Call → Reply → Type 0
IsReply w lists fences m c r = Answers w m (done w lists c).reads (reply_by w lists fences c) r

-- the machine when the host has written the words that are stored in a buffer, at the buffer's number
abbrev pub after_store : World → Machine → Option (At (ℕ × List ℕ)) → Machine
after_store w m None = m
after_store w m (Some x) = after_step m (HostWrite (plan_number w x.place) x.what.0 x.what.1)

-- the words of an answer
abbrev pub told_words : Reply → List ℕ
told_words reply.Done = []
told_words (reply.Value v) = []
told_words (reply.Words words) = words
told_words (reply.Error e) = []

-- the machine when the host has read the words of an answer in a buffer, at the buffer's number
abbrev pub after_load : World → Machine → Option (At (ℕ × ℕ)) → Reply → Machine
after_load w m None r = m
after_load w m (Some x) r = after_step m (HostRead (plan_number w x.place) x.what.0 (told_words r))

-- the machine after a call with its reply: one that is not refused stores or reads on the device
abbrev pub after_call : World → List Listed → Machine → Call → Reply → Machine
after_call w lists m c r = after_load w (after_store w m (done w lists c).stores) (done w lists c).reads r
