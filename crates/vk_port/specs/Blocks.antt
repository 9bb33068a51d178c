-- What is left of blocks of a batch's commands, and where a search goes on behind one.
use Rattle.std.specs.Prelude.{ℕ, zero, suc, ◌≡◌, ◌≤◌, ◌+◌, ◌-◌, ◌*◌, ◌==◌, Bool, true, false, ◌&&◌, List, [], ◌∷◌, length, drop, nat_lt, nat_le, slice_get, Option, Some, None, ⊤, bit_and, bit_or}
use Rattle.std.specs.List.{list_all}
use Rattle.vk_types.specs.declared.commands.VkCommand.{VkCommand}
use Rattle.vk_port.specs.declared.ahead.Ahead.{Ahead}
use Rattle.vk_port.specs.declared.lanes.Running.{Running}
use Rattle.vk_port.specs.declared.tracked.Block.{Block}
use Rattle.vk_port.specs.declared.tracked.Behind.{Behind}
use Rattle.vk_port.specs.Ahead.{summary, batch_steps}
use Rattle.vk_port.specs.Enabled.{unmarked}
use Rattle.vk_port.specs.Found.{found}
use Rattle.vk_port.specs.Fronts.{work_bits}

-- those of the first m commands that are not marked as done
abbrev pub unmarked_in : ℕ → List VkCommand → List Bool → List VkCommand
unmarked_in zero cs done = []
unmarked_in (suc m) [] done = []
unmarked_in (suc m) (c ∷ cs) [] = []
unmarked_in (suc m) (c ∷ cs) (true ∷ done) = unmarked_in m cs done
unmarked_in (suc m) (c ∷ cs) (false ∷ done) = c ∷ unmarked_in m cs done

-- those of the block that begins at a place
abbrev pub undone_in : ℕ → Running → List VkCommand
undone_in start running = unmarked_in 32 (drop start running.batch.commands) (drop start running.done)

-- each of some commands works in the stage of these bits
abbrev pub are_alike : ℕ → List VkCommand → Bool
are_alike stage cs = list_all (λ c. work_bits c == stage) cs

-- what is left of a block, by the bits of a stage
abbrev pub block_of : ℕ → List VkCommand → Block
block_of stage cs = record { stage = stage; left = length cs; alike = nat_lt 0 stage && are_alike stage cs }

-- what is left of the blocks of a batch, each by a stage of its own
abbrev pub AreBlocks : Running → List Block → Type 0
AreBlocks running blocks = (i : ℕ) (x : Block) → slice_get blocks i ≡ Some x → x ≡ block_of x.stage (undone_in (i * 32) running)

-- behind a block: whether none of it is left, whether what is left can run, and whether the place is behind it
abbrev pub behind_by : Bool → Bool → Bool → Block → Ahead → ℕ → Option Behind
behind_by true ready past block ahead left = Some (record { ahead = ahead; left = left })
behind_by false false past block ahead left = Some (record { ahead = record ahead { by = bit_or ahead.by block.stage }; left = left })
behind_by false true true block ahead left = Some (record { ahead = record ahead { by = bit_or ahead.by block.stage }; left = left - block.left })
behind_by false true false block ahead left = None

-- where a search goes on behind a block of which only commands of its stage are left
abbrev pub behind_of : Block → Ahead → ℕ → Option Behind
behind_of block ahead left = behind_by (block.left == 0) (bit_and ahead.to block.stage == 0) (nat_le block.left left) block ahead left

-- a search through a batch from a place on goes on behind the block there, as does the sum of what is not done
pub record GoesBehind (running : Running) (at : ℕ) (ahead : Ahead) (left : ℕ) (b : Behind) : Type 0 where
  pub fits : at + 32 ≤ 18446744073709551615
  pub steps : (q n k : ℕ) → found (batch_steps q n k ahead (drop at running.batch.commands) (drop at running.done)) left
      ≡ found (batch_steps q n (k + 32) b.ahead (drop (at + 32) running.batch.commands) (drop (at + 32) running.done)) b.left
  pub sum : summary ahead (unmarked (drop at running.batch.commands) (drop at running.done))
      ≡ summary b.ahead (unmarked (drop (at + 32) running.batch.commands) (drop (at + 32) running.done))

-- where a search goes on, if it does
abbrev pub IsBehind : Running → ℕ → Ahead → ℕ → Option Behind → Type 0
IsBehind running at ahead left None = ⊤
IsBehind running at ahead left (Some b) = GoesBehind running at ahead left b
