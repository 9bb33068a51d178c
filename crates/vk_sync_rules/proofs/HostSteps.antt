-- What the host may do.
use Rattle.std.proofs.Common.{ℕ, suc, ◌≡◌, ◌<◌, ◌+◌, ◌-◌, ◌∙◌, refl, sym, ap, Bool, true, false, not, ◌==◌, ◌||◌, List, [], ◌∷◌, length, arith}
use Rattle.std.specs.List.{list_any}
use Rattle.vk_sync_rules.specs.Numbers.{up_to}

-- there is a pair where a list is not empty
pub some_signal : (pairs : List (ℕ × ℕ)) → elim pairs [ [] ↦ false | s ∷ ss ↦ true ] ≡ not (length pairs == 0)
some_signal [] = refl
some_signal (s ∷ ss) = grind arith

-- a queue, and those behind it
pub queue_first : (p : ℕ → Bool) (count k : ℕ) → k < count → list_any p (up_to k (count - k)) ≡ (p k || list_any p (up_to (k + 1) (count - (k + 1))))
queue_first p count k inside = ap (list_any p) (first_of k (count - k) (count - (k + 1)) (omega arith)) where
  first_of : (k n rest : ℕ) → n ≡ suc rest → up_to k n ≡ k ∷ up_to (k + 1) rest
  first_of k n rest e = ap (up_to k) e

pub any_stop : (whole part test rest : Bool) → whole ≡ part → part ≡ (test || rest) → test ≡ true → true ≡ whole
any_stop whole part test rest so_far here holds = sym (so_far ∙ here ∙ ap (λ t. t || rest) holds)

pub any_go : (whole part test rest : Bool) → whole ≡ part → part ≡ (test || rest) → test ≡ false → whole ≡ rest
any_go whole part test rest so_far here fails = so_far ∙ here ∙ ap (λ t. t || rest) fails
