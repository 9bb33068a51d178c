-- How look-ups in a journal go on by one batch or command.
use Rattle.std.proofs.Common.{ℕ, zero, suc, arith, ◌≡◌, ◌<◌, ◌+◌, ◌∙◌, refl, sym, ap, Bool, true, false, ◌==◌, ◌&&◌, List, [], ◌∷◌, length, get_or, drop, slice_get, Some, if◌then◌else◌}
use Rattle.std.specs.List.{list_all}
use Rattle.std.proofs.lemmas.List.Folds.{list_all-append}
use Rattle.vk_types.specs.declared.batches.Batch.{Batch}
use Rattle.vk_types.specs.declared.commands.VkCommand.{VkCommand}
use Rattle.vk_sync_rules.specs.VkState.{Placed, batch_in, placed_from, placed}
use Rattle.vk_sync_rules.proofs.ListSteps.{opened, opened_at}

-- a batch that is the one, and one that is not
pub batch_here : (q n : ℕ) (bs : List Batch) (i : ℕ) (b : Batch) → i < length bs → b ≡ get_or bs i b → ((b.queue == q) && (b.number == n)) ≡ true →
    batch_in q n (drop i bs) ≡ Some b
batch_here q n bs i b inside at is = ap (batch_in q n) (opened_at bs i b inside at) ∙ ap (λ (t : Bool). if t then Some b else batch_in q n (drop (i + 1) bs)) is

pub batch_later : (q n : ℕ) (bs : List Batch) (i : ℕ) (b : Batch) → i < length bs → b ≡ get_or bs i b → ((b.queue == q) && (b.number == n)) ≡ false →
    batch_in q n (drop i bs) ≡ batch_in q n (drop (i + 1) bs)
batch_later q n bs i b inside at is = ap (batch_in q n) (opened_at bs i b inside at) ∙ ap (λ (t : Bool). if t then Some b else batch_in q n (drop (i + 1) bs)) is

-- a command of a batch, and the ones behind it
pub command_first : (p : Placed → Bool) (n : ℕ) (cs : List VkCommand) (i : ℕ) (c : VkCommand) → slice_get cs i ≡ Some c →
    list_all p (placed_from n (i + 1) (drop i cs)) ≡ (p (record { place = record { number = n; index = i + 1 }; command = c }) && list_all p (placed_from n (i + 1 + 1) (drop (i + 1) cs)))
command_first p n cs i c at = ap (λ xs. list_all p (placed_from n (i + 1) xs)) (opened cs i c at)

-- a batch, and the ones behind it
pub batch_first : (p : Placed → Bool) (q : ℕ) (bs : List Batch) (i : ℕ) (b : Batch) → i < length bs → b ≡ get_or bs i b →
    list_all p (placed q (drop i bs)) ≡ (list_all p (if b.queue == q then placed_from b.number 1 b.commands else []) && list_all p (placed q (drop (i + 1) bs)))
batch_first p q bs i b inside at =
    ap (λ xs. list_all p (placed q xs)) (opened_at bs i b inside at) ∙ list_all-append p (if b.queue == q then placed_from b.number 1 b.commands else []) (placed q (drop (i + 1) bs))

-- a test that fails at an item, and one that goes on behind it
pub all_stop : (whole part test rest : Bool) → whole ≡ part → part ≡ (test && rest) → test ≡ false → false ≡ whole
all_stop whole part test rest so_far here fails = sym (so_far ∙ here ∙ ap (λ t. t && rest) fails)

pub all_go : (whole part test rest : Bool) → whole ≡ part → part ≡ (test && rest) → test ≡ true → whole ≡ rest
all_go whole part test rest so_far here holds = so_far ∙ here ∙ ap (λ t. t && rest) holds

-- each place of a list has an item
pub item_at : {X : Type 0} (xs : List X) (i : ℕ) → i < length xs → (x : X) × (slice_get xs i ≡ Some x)
item_at [] i h = absurd (omega (arith, h))
item_at (x ∷ xs) zero h = (x, refl)
item_at (x ∷ xs) (suc i) h = item_at xs i (omega (arith, h))
