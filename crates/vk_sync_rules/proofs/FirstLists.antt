-- The lists that a machine begins with.
use Rattle.std.proofs.Common.{ℕ, zero, suc, ◌≡◌, ◌<◌, ◌+◌, ◌-◌, ◌∙◌, ap, [], ◌∷◌, ◌++◌, map, replicate, add-one, arith}
use Rattle.std.proofs.lemmas.List.{map-append}
use Rattle.vk_sync_rules.specs.Numbers.{up_to}
use Rattle.vk_sync_rules.specs.VkState.{first_queues, first_counts}

pub queues_are : (n : ℕ) → 0 < n → first_queues n ≡ first_counts 0 ∷ replicate (n - 1) (first_counts 1)
queues_are zero some = absurd (omega arith)
queues_are (suc n) some = let less : n ≡ suc n - 1 = omega arith in ap (λ k. first_counts 0 ∷ replicate k (first_counts 1)) less

-- one number more
up_to_more : (first n : ℕ) → up_to first (suc n) ≡ up_to first n ++ (first + n) ∷ []
up_to_more first zero = let same : first ≡ first + 0 = omega arith in ap (λ k. k ∷ []) same
up_to_more first (suc n) = let same : first + 1 + n ≡ first + suc n = omega arith in
    ap (λ ks. first ∷ ks) (up_to_more (first + 1) n ∙ ap (λ k. up_to (first + 1) n ++ k ∷ []) same)

pub map_up_to_more : {A : Type 0} (f : ℕ → A) (n : ℕ) → map f (up_to 0 (n + 1)) ≡ map f (up_to 0 n) ++ f n ∷ []
map_up_to_more f n = let same : 0 + n ≡ n = omega arith in
    rw (add-one n) (ap (map f) (up_to_more 0 n) ∙ map-append f (up_to 0 n) ((0 + n) ∷ []) ∙ ap (λ k. map f (up_to 0 n) ++ f k ∷ []) same)
