-- The last write of a word.
use Rattle.std.specs.Prelude.{ℕ, ◌≡◌, ◌<◌, true, List, slice_get, Some, None}
use Rattle.vk_sync_rules.specs.declared.accesses.DoneAccess.{DoneAccess}
use Rattle.vk_sync_rules.specs.declared.ranges.VkResource.{VkResource}
use Rattle.vk_sync_rules.specs.DoneAccesses.{last_write}
use Rattle.vk_sync_rules.specs.Ranges.{has_word}

-- an access writes a word
pub record Writes (resource : VkResource) (word : ℕ) (r : DoneAccess) : Type 0 where
  pub writes : r.writes ≡ true
  pub there : has_word resource word r.range ≡ true

-- a write of the word is at a place of a list, and none behind it
pub record IsLast (resource : VkResource) (word : ℕ) (rs : List DoneAccess) (w : DoneAccess) : Type 0 where
  pub place : ℕ
  pub at : slice_get rs place ≡ Some w
  pub writes : Writes resource word w
  pub last : (i : ℕ) (r : DoneAccess) → place < i → slice_get rs i ≡ Some r → Writes resource word r → ⊥

-- the last write is the last of the writes, and there is none only where no access writes the word
pub record FindsLast (resource : VkResource) (word : ℕ) (rs : List DoneAccess) : Type 0 where
  pub found : (w : DoneAccess) → last_write resource word rs ≡ Some w → IsLast resource word rs w
  pub none : last_write resource word rs ≡ None → (i : ℕ) (r : DoneAccess) → slice_get rs i ≡ Some r → Writes resource word r → ⊥

abbrev pub LastWritesAreLast : Type 0
LastWritesAreLast = (resource : VkResource) (word : ℕ) (rs : List DoneAccess) → FindsLast resource word rs
