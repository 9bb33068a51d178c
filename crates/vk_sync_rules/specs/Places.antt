-- Places in the order of a queue.
use Rattle.std.specs.Prelude.{Bool, ◌==◌, ◌&&◌, ◌||◌, nat_lt, nat_le}
use Rattle.vk_sync_rules.specs.declared.places.Place.{Place}

-- a place is before another (Vulkan 1.3, 7.2: submission order)
abbrev pub is_before : Place → Place → Bool
is_before a b = nat_lt a.number b.number || ((a.number == b.number) && nat_lt a.index b.index)

-- a place is another, or before it
abbrev pub is_by : Place → Place → Bool
is_by a b = nat_lt a.number b.number || ((a.number == b.number) && nat_le a.index b.index)

-- two places are the same
abbrev pub is_at : Place → Place → Bool
is_at a b = (a.number == b.number) && (a.index == b.index)
