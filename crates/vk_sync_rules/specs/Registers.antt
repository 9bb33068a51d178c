-- What the registers of commands stand for.
use Rattle.std.specs.Prelude.{ℕ, zero, suc, ◌-◌, ◌==◌, Bool, true, false, ◌&&◌, nat_lt, List, [], ◌∷◌, slice_get, Option, Some, None, if◌then◌else◌}
use Rattle.std.specs.List.{list_any, flat_map}
use Rattle.dx_base.specs.declared.kinds.Class.{Class}
use Rattle.dx_base.specs.declared.kinds.Class.TheVariants.{Cbv, Srv, Uav}
use Rattle.vk_types.specs.declared.commands.VkCommand.{VkCommand}
use Rattle.vk_types.specs.declared.commands.VkCommand.TheVariants.{Barrier, Copy, CopyImage, CopyIn, CopyOut, Clear, Dispatch}
use Rattle.vk_types.specs.declared.plan.PlanView.{PlanView}
use Rattle.vk_types.specs.declared.plan.PlanView.TheVariants as view
use Rattle.vk_types.specs.declared.registers.Register.{Register}
use Rattle.vk_types.specs.declared.registers.Register.TheVariants.{Unbound, Constant, Root, Fixed, Slot}
use Rattle.vk_sync_rules.specs.declared.ranges.VkResource.TheVariants.{Buffer, Image}
use Rattle.vk_sync_rules.specs.declared.ranges.WordRange.{WordRange}
use Rattle.vk_sync_rules.specs.Sizes.{words_in}
use Rattle.vk_types.specs.declared.plan.DevicePlan.{DevicePlan}

-- the registers of a command, in the order of their loads
abbrev pub registers_of : VkCommand → List Register
registers_of (Barrier from made to seen change) = []
registers_of (Copy to to_first from from_first words) = []
registers_of (CopyImage to to_sub to_layout from from_sub from_layout) = []
registers_of (CopyIn image sub layout buffer first pitch) = []
registers_of (CopyOut buffer first pitch image sub layout) = []
registers_of (Clear target word) = target ∷ []
registers_of (Dispatch routine count t0 t1 u0 b0) = t0 ∷ t1 ∷ u0 ∷ b0 ∷ []

-- the slot of a register, if it is one: a heap and a place in it
abbrev pub slots_in : Register → List (ℕ × ℕ)
slots_in Unbound = []
slots_in (Constant word) = []
slots_in (Root buffer first) = []
slots_in (Fixed place) = []
slots_in (Slot heap slot) = (heap, slot) ∷ []

-- two slots are the same
abbrev pub same_slot : ℕ × ℕ → ℕ × ℕ → Bool
same_slot a b = (a.0 == b.0) && (a.1 == b.1)

-- the slots of a list, each where it stands first; those of a first list left out
abbrev pub first_of_each : List (ℕ × ℕ) → List (ℕ × ℕ) → List (ℕ × ℕ)
first_of_each before [] = []
first_of_each before (s ∷ ss) =
    if list_any (same_slot s) before then first_of_each before ss else s ∷ first_of_each (s ∷ before) ss

-- the slots that a command loads, each once, in the order of the first register that uses it
abbrev pub slots_of : VkCommand → List (ℕ × ℕ)
slots_of c = first_of_each [] (flat_map slots_in (registers_of c))

-- a command names a slot
abbrev pub names_slot : ℕ × ℕ → VkCommand → Bool
names_slot s c = list_any (same_slot s) (flat_map slots_in (registers_of c))

-- what the loads of slots answered for a slot: the view's place in the plan plus one, or 0 where none is set
abbrev pub answer_of : List (ℕ × ℕ) → List ℕ → ℕ × ℕ → ℕ
answer_of [] answers s = 0
answer_of (x ∷ xs) [] s = 0
answer_of (x ∷ xs) (a ∷ answers) s = if same_slot x s then a else answer_of xs answers s

-- two classes are the same
abbrev pub same_class : Class → Class → Bool
same_class Cbv Cbv = true
same_class Cbv Srv = false
same_class Cbv Uav = false
same_class Srv Cbv = false
same_class Srv Srv = true
same_class Srv Uav = false
same_class Uav Cbv = false
same_class Uav Srv = false
same_class Uav Uav = true

-- the words of a view of the plan; none where it has another class
abbrev pub words_of_view : DevicePlan → Class → PlanView → Option WordRange
words_of_view plan class (view.Buffer is buffer first words) =
    if same_class class is then Some (record { resource = Buffer buffer; first = first; count = words }) else None
words_of_view plan class (view.Image is image sub) =
    if same_class class is then Some (record { resource = Image image sub; first = 0; count = words_in plan (Image image sub) }) else None

abbrev pub words_of_place : DevicePlan → Class → ℕ → Option WordRange
words_of_place plan class k = elim (slice_get plan.views k) [ None ↦ None | Some is ↦ words_of_view plan class is ]

-- the view that an answer names
abbrev pub words_of_answer : DevicePlan → Class → ℕ → Option WordRange
words_of_answer plan class zero = None
words_of_answer plan class (suc k) = words_of_place plan class k

-- a buffer from a word on; no words where that lies past its end
abbrev pub words_from : DevicePlan → ℕ → ℕ → WordRange
words_from plan buffer first =
    if nat_lt first (words_in plan (Buffer buffer)) then record { resource = Buffer buffer; first = first; count = words_in plan (Buffer buffer) - first }
    else record { resource = Buffer buffer; first = 0; count = 0 }

-- the words that a register views, as one of a class, where a function gives the answers of slots
abbrev pub words_of_register : DevicePlan → (ℕ × ℕ → ℕ) → Class → Register → Option WordRange
words_of_register plan answers class Unbound = None
words_of_register plan answers class (Constant word) = None
words_of_register plan answers class (Root buffer first) = Some (words_from plan buffer first)
words_of_register plan answers class (Fixed place) = words_of_place plan class place
words_of_register plan answers class (Slot heap slot) = words_of_answer plan class (answers (heap, slot))
