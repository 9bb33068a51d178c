-- Words that agree with numbers of the Vulkan machine, some of which may be any.
use Rattle.std.specs.Prelude.{ℕ, ◌≡◌, List, [], ◌∷◌, Option, Some, None, ⊤, take, drop, Bool}
use denote.Struct.Props as logic
use Rattle.vk_sync_rules.specs.declared.ranges.VkResource.TheVariants.{Buffer}
use Rattle.vk_sync_rules.specs.DoneAccesses.{last_write}
use Rattle.vk_sync_rules.specs.NextState.{where_seen}
use Rattle.vk_sync_rules.specs.Numbers.{numbers_in}
use Rattle.vk_sync_rules.specs.Rules.{of_each, is_host_seen}
use Rattle.vk_sync_rules.specs.VkState.{VkState as Machine}

-- a word is a number, where that is known
abbrev pub IsNumber : ℕ → Option ℕ → Type 0
IsNumber x None = ⊤
IsNumber x (Some n) = x ≡ n

-- words are numbers, one by one
abbrev pub Agree : List ℕ → List (Option ℕ) → Type 0
Agree [] [] = ⊤
Agree [] (n ∷ ns) = ⊥
Agree (x ∷ xs) [] = ⊥
Agree (x ∷ xs) (n ∷ ns) = IsNumber x n × Agree xs ns

-- the words of each buffer are its numbers
abbrev pub AgreeEach : List (List ℕ) → List (List (Option ℕ)) → Type 0
AgreeEach [] [] = ⊤
AgreeEach [] (n ∷ ns) = ⊥
AgreeEach (x ∷ xs) [] = ⊥
AgreeEach (x ∷ xs) (n ∷ ns) = Agree x n × AgreeEach xs ns

-- there is one proof at most that words are numbers, so it may be a ghost field
pub IsNumber-prop : (x : ℕ) (n : Option ℕ) → IsProp (IsNumber x n)
IsNumber-prop x None = Prim.hlevel logic.props
IsNumber-prop x (Some n) = Prim.hlevel logic.props

pub Agree-prop : (xs : List ℕ) (ns : List (Option ℕ)) → IsProp (Agree xs ns)
Agree-prop [] [] = Prim.hlevel logic.props
Agree-prop [] (n ∷ ns) = Prim.hlevel logic.props
Agree-prop (x ∷ xs) [] = Prim.hlevel logic.props
Agree-prop (x ∷ xs) (n ∷ ns) = Prim.hlevel (IsNumber-prop x n, Agree-prop xs ns, logic.props)

pub AgreeEach-prop : (xs : List (List ℕ)) (ns : List (List (Option ℕ))) → IsProp (AgreeEach xs ns)
AgreeEach-prop [] [] = Prim.hlevel logic.props
AgreeEach-prop [] (n ∷ ns) = Prim.hlevel logic.props
AgreeEach-prop (x ∷ xs) [] = Prim.hlevel logic.props
AgreeEach-prop (x ∷ xs) (n ∷ ns) = Prim.hlevel (Agree-prop x n, AgreeEach-prop xs ns, logic.props)

-- the host sees the last write of a word of a buffer, if there is one
abbrev pub sees_word : Machine → ℕ → ℕ → Bool
sees_word v buffer word = of_each (is_host_seen v) (last_write (Buffer buffer) word v.accesses)

-- the numbers that the host reads in a buffer: those of the last writes that it sees; any may stand elsewhere
abbrev pub host_numbers : Machine → ℕ → ℕ → ℕ → List (Option ℕ)
host_numbers v buffer first count =
    where_seen (sees_word v buffer) first (take count (drop first (numbers_in v.numbers (Buffer buffer))))
