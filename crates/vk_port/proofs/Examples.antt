-- The buffers of the tests.
use Rattle.std.proofs.Common.{◌≡◌, ℕ, ◌<◌, List, [], ◌∷◌, map, length, get_or, ap, arith, Option, false, true≢false, Result, Ok, Err}
use Rattle.std.specs.Result.{OnOk, is_err}
use Rattle.vk_sync_rules.specs.VkState.{VkState as Machine}
use Rattle.vk_sync_rules.specs.Rules.{after_step as after_vk_step}
use Rattle.vk_types.specs.declared.steps.VkStep.TheVariants.{HostWrite}
use Rattle.vk_port.proofs.MachineSizes.{write_sized}
use Rattle.vk_port.specs.Offers.{IsInside}

-- the sizes of a list of numbers of words
sizes_at : (numbers : List (List (Option ℕ))) → map length numbers ≡ 4 ∷ 4 ∷ [] → (1 < length numbers) × (length (get_or numbers 1 []) ≡ 4)
sizes_at [] h = let none : 0 ≡ 2 = ap length h in absurd (omega (arith, none))
sizes_at (a ∷ []) h = let none : 1 ≡ 2 = ap (λ (xs : List ℕ). length xs) h in absurd (omega (arith, none))
sizes_at (a ∷ (b ∷ rest)) h = (omega arith, ap (λ (xs : List ℕ). get_or xs 1 0) h)

-- all words of buffer 1 are inside
pub all_inside : (v : Machine) → map length v.numbers.buffers ≡ 4 ∷ 4 ∷ [] → IsInside v 1 0 4
all_inside v h =
    let both = sizes_at v.numbers.buffers h in
    record { buffer_is = both.0; range_is = omega (arith, both.1) }

-- a host write leaves the sizes
pub sizes_written : (v : Machine) (buffer first : ℕ) (words : List ℕ) → map length (after_vk_step v (HostWrite buffer first words)).numbers.buffers ≡ map length v.numbers.buffers
sizes_written = write_sized

-- an answer that is no error is a value
pub ok_of : {T E P : Type 0} (r : Result T E) → is_err r ≡ false → OnOk r P → P
ok_of (Ok x) h p = p
ok_of (Err e) h p = absurd (true≢false h)

-- the sizes of the buffers
abbrev pub sizes_of : Machine → List ℕ
sizes_of v = map length v.numbers.buffers
