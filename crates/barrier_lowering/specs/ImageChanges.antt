-- The last change that a list makes of each subresource.
use Rattle.std.specs.Prelude.{ℕ, ◌≡◌, ◌==◌, ◌&&◌, Bool, true, Option, Some, None, if◌then◌else◌}
use Rattle.std.specs.Option.{option_or}
use Rattle.std.specs.Ordering.{nat_cmp}
use Rattle.std.specs.BTreeMap.{get}
use Rattle.vk_types.specs.declared.layouts.Change.{Change}
use Rattle.vk_types.specs.declared.layouts.VkLayout.{VkLayout}
use Rattle.barrier_lowering.specs.declared.image_changes.ImageChanges.{ImageChanges}
use Rattle.barrier_lowering.specs.declared.image_changes.SubChanges.{SubChanges}

-- a change names a subresource: all are named where it names none
abbrev pub names_sub : Option ℕ → ℕ → Bool
names_sub None sub = true
names_sub (Some one) sub = one == sub

-- the layout that a change gives a subresource of an image, if it concerns it
abbrev pub given : Change → ℕ → ℕ → Option VkLayout
given change image sub = if (change.image == image) && names_sub change.sub sub then Some change.new else None

-- the same of a change, if there is one
abbrev pub given_by : Option Change → ℕ → ℕ → Option VkLayout
given_by None image sub = None
given_by (Some change) image sub = given change image sub

-- the layout that changes of an image gave a subresource last: the change of one alone where there is one, else that of all
abbrev pub last_in : SubChanges → ℕ → Option VkLayout
last_in changes sub = option_or (get nat_cmp changes.subs sub) changes.all

-- the same where there are some
abbrev pub last_of : Option SubChanges → ℕ → Option VkLayout
last_of None sub = None
last_of (Some changes) sub = last_in changes sub

-- the layout that changes gave a subresource of an image last
abbrev pub last_given : ImageChanges → ℕ → ℕ → Option VkLayout
last_given changes image sub = last_of (get nat_cmp changes.images image) sub

-- changes of an image after one more of a subresource, or of all
abbrev pub IsChanged : Option ℕ → VkLayout → SubChanges → SubChanges → Type 0
IsChanged sub new before after = (one : ℕ) → last_in after one ≡ if names_sub sub one then Some new else last_in before one

-- changes after one more
abbrev pub Adds : Change → ImageChanges → ImageChanges → Type 0
Adds change before after = (image sub : ℕ) → last_given after image sub ≡ option_or (given change image sub) (last_given before image sub)

-- changes after one more, if there is one
abbrev pub AddsSome : Option Change → ImageChanges → ImageChanges → Type 0
AddsSome change before after = (image sub : ℕ) → last_given after image sub ≡ option_or (given_by change image sub) (last_given before image sub)
