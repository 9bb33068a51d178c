-- How loops over words go on.
use Rattle.std.proofs.Common.{ℕ, suc, ◌≡◌, ◌<◌, ◌+◌, ◌-◌, ◌∙◌, ap, [], ◌∷◌, Bool, ◌&&◌, arith}
use Rattle.std.specs.List.{list_all}
use Rattle.vk_sync_rules.specs.Numbers.{up_to}

-- a word, and those behind it
up_to_first : (first n rest : ℕ) → n ≡ suc rest → up_to first n ≡ first ∷ up_to (first + 1) rest
up_to_first first n rest e = ap (up_to first) e

pub word_first : (p : ℕ → Bool) (first count k : ℕ) → k < count →
    list_all p (up_to (first + k) (count - k)) ≡ (p (first + k) && list_all p (up_to (first + (k + 1)) (count - (k + 1))))
word_first p first count k inside =
    let next : first + k + 1 ≡ first + (k + 1) = omega arith in
    ap (list_all p) (up_to_first (first + k) (count - k) (count - (k + 1)) (omega arith))
    ∙ ap (λ t. p (first + k) && list_all p (up_to t (count - (k + 1)))) next

-- no word is left
pub no_words : (p : ℕ → Bool) (first count k : ℕ) → count ≡ k → list_all p (up_to first (count - k)) ≡ list_all p []
no_words p first count k e = let none : count - k ≡ 0 = omega arith in ap (λ n. list_all p (up_to first n)) none
