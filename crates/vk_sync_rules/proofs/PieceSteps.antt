-- How the pieces of commands are found.
use Rattle.std.proofs.Common.{ℕ, zero, suc, arith, ◌≡◌, ◌+◌, ◌∙◌, refl, sym, ap, Bool, true, false, List, [], ◌∷◌, ◌++◌, map, take, slice_get, Option, Some, None, if◌then◌else◌, add-one}
use Rattle.vk_sync_rules.specs.Machines.{listed, others_written, rows_copied, told, answers_behind, answer_or}
use Rattle.vk_types.specs.declared.commands.VkCommand.{VkCommand}
use Rattle.vk_types.specs.declared.commands.VkCommand.TheVariants.{Barrier, Copy, CopyImage, CopyIn, CopyOut, Clear, Dispatch}
use Rattle.vk_sync_rules.specs.declared.places.Place.{Place}
use Rattle.vk_sync_rules.specs.Commands.{pieces}
use Rattle.vk_sync_rules.specs.NextState.{numbers_written, where_seen}
use Rattle.vk_sync_rules.specs.VkState.{VkState}
use Rattle.vk_sync_rules.specs.Numbers.{up_to}
use Rattle.vk_sync_rules.specs.Registers.{answer_of, same_slot}
use Rattle.vk_sync_rules.proofs.FirstLists.{map_up_to_more}

-- a first slot, and those behind it
pub answer_first : (x : Option (ℕ × ℕ)) (xs : List (ℕ × ℕ)) (answers : List ℕ) (s : ℕ × ℕ) →
    answer_of (listed x ++ xs) answers s ≡ answer_or (told x answers s) (answer_of xs (answers_behind x answers) s)
answer_first None xs answers s = refl
answer_first (Some x) xs [] s = refl
answer_first (Some x) xs (a ∷ answers) s = one_or (same_slot x s) a (answer_of xs answers s) where
  one_or : (t : Bool) (a b : ℕ) → (if t then a else b) ≡ answer_or (if t then Some a else None) b
  one_or true a b = refl
  one_or false a b = refl

-- one number more
pub up_to_next : (n : ℕ) → up_to 0 (n + 1) ≡ up_to 0 n ++ n ∷ []
up_to_next n = sym (map_id (up_to 0 (n + 1))) ∙ map_up_to_more (λ k. k) n ∙ ap (λ ks. ks ++ n ∷ []) (map_id (up_to 0 n)) where
  map_id : (ks : List ℕ) → map (λ k. k) ks ≡ ks
  map_id [] = refl
  map_id (k ∷ ks) = ap (λ xs. k ∷ xs) (map_id ks)

-- one number more that was read
seen_next : (test : ℕ → Bool) (word : ℕ) (ns : List (Option ℕ)) (k : ℕ) (n : Option ℕ) → slice_get ns k ≡ Some n →
    where_seen test word (take (suc k) ns) ≡ where_seen test word (take k ns) ++ (if test (word + k) then n else None) ∷ []
seen_next test word [] k n at = absurd (cc)
seen_next test word (m ∷ ns) zero n at =
    let is_it : m ≡ n = cc in
    let same : word ≡ word + 0 = omega arith in
    ap (λ (o : Option ℕ). (if test word then o else None) ∷ []) is_it ∙ ap (λ w. (if test w then n else None) ∷ []) same
seen_next test word (m ∷ ns) (suc k) n at =
    let same : word + 1 + k ≡ word + suc k = omega arith in
    ap (λ xs. (if test word then m else None) ∷ xs) (seen_next test (word + 1) ns k n at ∙ ap (λ w. where_seen test (word + 1) (take k ns) ++ (if test w then n else None) ∷ []) same)

pub seen_more : (test : ℕ → Bool) (word : ℕ) (ns : List (Option ℕ)) (k : ℕ) (n : Option ℕ) → slice_get ns k ≡ Some n →
    where_seen test word (take (k + 1) ns) ≡ where_seen test word (take k ns) ++ (if test (word + k) then n else None) ∷ []
seen_more test word ns k n at = rw (add-one k) (seen_next test word ns k n at)

-- the numbers that a command writes go by its rows and its pieces
pub numbers_by : (v : VkState) (q : ℕ) (here : Place) (loaded : List ℕ) (c : VkCommand) →
    numbers_written v q here loaded c ≡ others_written v q here loaded (pieces v.plan loaded c) c (rows_copied v q here c v.numbers)
numbers_by v q here loaded (Barrier from made to seen None) = refl
numbers_by v q here loaded (Barrier from made to seen (Some c)) = refl
numbers_by v q here loaded (Copy to to_first from from_first words) = refl
numbers_by v q here loaded (CopyImage to to_sub to_layout from from_sub from_layout) = refl
numbers_by v q here loaded (CopyIn image sub layout buffer first pitch) = refl
numbers_by v q here loaded (CopyOut buffer first pitch image sub layout) = refl
numbers_by v q here loaded (Clear target word) = refl
numbers_by v q here loaded (Dispatch routine count t0 t1 u0 b0) = refl
