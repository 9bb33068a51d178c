-- The accesses that were made, and what is ordered after them and sees them (Vulkan 1.3, 7.1: memory dependencies).
use Rattle.std.specs.Prelude.{ℕ, Bool, true, false, ◌==◌, ◌&&◌, ◌||◌, nat_le, List, [], ◌∷◌, ◌++◌, Option, Some, None, if◌then◌else◌}
use Rattle.std.specs.List.{list_any}
use Rattle.vk_types.specs.declared.accesses.Accesses.{Accesses}
use Rattle.vk_types.specs.declared.stages.Stages.{Stages}
use Rattle.vk_types.specs.Stages.{meets}
use Rattle.vk_sync_rules.specs.declared.accesses.DoneAccess.{DoneAccess}
use Rattle.vk_sync_rules.specs.declared.accesses.Gain.{Gain}
use Rattle.vk_sync_rules.specs.declared.places.Place.{Place}
use Rattle.vk_sync_rules.specs.declared.ranges.VkResource.{VkResource}
use Rattle.vk_sync_rules.specs.AccessSets.{share, all_stages, all_accesses}
use Rattle.vk_sync_rules.specs.Places.{is_before, is_by}
use Rattle.vk_sync_rules.specs.Ranges.{has_word}

-- a gain orders commands of some of these stages at a place of a queue
abbrev pub gives_order : ℕ → Stages → Place → Gain → Bool
gives_order q stages p g = (g.queue == q) && (meets g.stages stages && is_by g.place p)

-- commands of some of these stages at a place of a queue are ordered after an access
abbrev pub ordered : ℕ → Stages → Place → DoneAccess → Bool
ordered q stages p r = list_any (gives_order q stages p) r.gains

-- they are ordered after a write that was available by then
abbrev pub reaches : ℕ → Stages → Place → DoneAccess → Bool
reaches q stages p r = list_any (λ g. gives_order q stages p g && g.available) r.gains

-- an access of a command of some of these stages at a place of a queue sees a write
abbrev pub sees : ℕ → Stages → Accesses → Place → DoneAccess → Bool
sees q stages accesses p r = list_any (λ g. gives_order q stages p g && (g.available && share g.accesses accesses)) r.gains

-- an access gains a scope: the only writer of `gains`
abbrev pub gain : Gain → DoneAccess → DoneAccess
gain g r = record r { gains = g ∷ r.gains }

-- an access becomes available where a test holds and it is a write (Vulkan 1.3, 7.1: availability operations)
abbrev pub avail : Bool → DoneAccess → DoneAccess
avail t r = record r { available = r.available || (t && r.writes) }

-- made by the host
abbrev pub is_host : DoneAccess → Bool
is_host r = elim r.by [ None ↦ true | Some m ↦ false ]

-- made on a queue before a place, in one of these stages
abbrev pub is_direct : ℕ → Stages → Place → DoneAccess → Bool
is_direct q from p r = elim r.by [ None ↦ false | Some m ↦ (m.queue == q) && (meets m.stage from && is_before m.place p) ]

-- the first scope of a barrier at a place of a queue (Vulkan 1.3, 7.1: synchronization scopes, and their chains)
abbrev pub in_scope : ℕ → Stages → Place → DoneAccess → Bool
in_scope q from p r = is_direct q from p r || ordered q from p r

-- an access of which a test holds gains the scope, and is seen where it is a write and available
abbrev pub gain_where : Bool → ℕ → Place → Stages → Accesses → DoneAccess → DoneAccess
gain_where t q p to seen r = if t then gain (record { queue = q; place = p; stages = to; accesses = seen; available = r.writes && r.available }) r else r

-- a barrier at a place makes what was made before it, in its first scope, available
abbrev pub is_made_available : ℕ → Place → Stages → Accesses → DoneAccess → Bool
is_made_available q p from made r = is_direct q from p r && share made r.access

-- an access after a barrier
abbrev pub across : ℕ → Place → Stages → Accesses → Stages → Accesses → DoneAccess → DoneAccess
across q p from made to seen r = gain_where (in_scope q from p r) q p to seen (avail (is_made_available q p from made r) r)

-- some wait covers a pair of a timeline and a value, and some pair that an access was signalled by
abbrev pub covers : List (ℕ × ℕ) → ℕ × ℕ → Bool
covers waits s = list_any (λ (w : ℕ × ℕ). (s.0 == w.0) && nat_le s.1 w.1) waits

abbrev pub is_covered : List (ℕ × ℕ) → List (ℕ × ℕ) → Bool
is_covered waits signals = list_any (covers waits) signals

-- the start of a batch
abbrev pub start_of : ℕ → Place
start_of n = record { number = n; index = 0 }

-- an access after a pass of batch n of a queue (Vulkan 1.3, 7.4.2: semaphore waiting)
abbrev pub after_pass : ℕ → ℕ → List (ℕ × ℕ) → DoneAccess → DoneAccess
after_pass q n waits r = gain_where (is_covered waits r.signals) q (start_of n) all_stages all_accesses r

-- the end of batch n of a queue covers an access: made on the queue up to there, or reaching it up to there
abbrev pub is_ended : ℕ → ℕ → DoneAccess → Bool
is_ended q n r =
    elim r.by [ None ↦ false | Some m ↦ (m.queue == q) && nat_le m.place.number n ]
    || list_any (λ g. (g.queue == q) && nat_le g.place.number n) r.gains

-- an access after the end of batch n of a queue (Vulkan 1.3, 7.4.1: semaphore signaling)
abbrev pub after_bump : ℕ → ℕ → List (ℕ × ℕ) → DoneAccess → DoneAccess
after_bump q n sets r = if is_ended q n r then record r { signals = sets ++ r.signals; available = r.available || r.writes } else r

-- an access after a submission of batch n of a queue (Vulkan 1.3, 7.9: host write ordering guarantees)
abbrev pub after_submit : ℕ → ℕ → DoneAccess → DoneAccess
after_submit q n r = gain_where (is_host r) q (start_of n) all_stages all_accesses r

-- the last write of a word: the last of the accesses that writes it
abbrev pub last_write : VkResource → ℕ → List DoneAccess → Option DoneAccess
last_write resource word [] = None
last_write resource word (r ∷ rs) = elim (last_write resource word rs) [ Some w ↦ Some w | None ↦ if r.writes && has_word resource word r.range then Some r else None ]
