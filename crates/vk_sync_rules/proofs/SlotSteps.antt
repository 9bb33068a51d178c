-- The slots of registers, one by one.
use Rattle.std.proofs.Common.{ℕ, ◌≡◌, ◌∙◌, refl, sym, ap, Bool, true, false, ◌||◌, List, [], ◌∷◌, ◌++◌, Option, Some, None, if◌then◌else◌}
use Rattle.std.specs.List.{list_any}
use Rattle.std.proofs.lemmas.List.Folds.{list_any-append}
use Rattle.vk_sync_rules.specs.Machines.{listed, new_slot}
use Rattle.vk_sync_rules.specs.Registers.{same_slot, first_of_each}

-- a test of three slots
pub any_three : (p : ℕ × ℕ → Bool) (a b c : Option (ℕ × ℕ)) →
    list_any p (listed a ++ (listed b ++ (listed c ++ []))) ≡ (list_any p (listed a) || (list_any p (listed b) || list_any p (listed c)))
any_three p a b c =
    list_any-append p (listed a) (listed b ++ (listed c ++ []))
    ∙ ap (λ t. list_any p (listed a) || t) (list_any-append p (listed b) (listed c ++ []) ∙ ap (λ t. list_any p (listed b) || t) (last c))
  where
    last : (c : Option (ℕ × ℕ)) → list_any p (listed c ++ []) ≡ list_any p (listed c)
    last None = refl
    last (Some s) = refl

-- a register's slot, and those behind it
one_first : (before : List (ℕ × ℕ)) (a : Option (ℕ × ℕ)) (rest : List (ℕ × ℕ)) →
    first_of_each before (listed a ++ rest) ≡ listed (new_slot a before) ++ first_of_each (listed (new_slot a before) ++ before) rest
one_first before None rest = refl
one_first before (Some s) rest = by_test (list_any (same_slot s) before) where
  by_test : (t : Bool) → (if t then first_of_each before rest else s ∷ first_of_each (s ∷ before) rest)
      ≡ listed (if t then None else Some s) ++ first_of_each (listed (if t then None else Some s) ++ before) rest
  by_test true = refl
  by_test false = refl

-- the slots of four registers
pub four_first : (a b c d : Option (ℕ × ℕ)) (first second third fourth : Option (ℕ × ℕ)) →
    first ≡ new_slot a [] → second ≡ new_slot b (listed first ++ []) → third ≡ new_slot c (listed second ++ (listed first ++ [])) →
    fourth ≡ new_slot d (listed third ++ (listed second ++ (listed first ++ []))) →
    listed first ++ (listed second ++ (listed third ++ (listed fourth ++ []))) ≡ first_of_each [] (listed a ++ (listed b ++ (listed c ++ (listed d ++ []))))
four_first a b c d first second third fourth e f g h = sym (
    one_first [] a (listed b ++ (listed c ++ (listed d ++ [])))
    ∙ ap (λ x. listed x ++ first_of_each (listed x ++ []) (listed b ++ (listed c ++ (listed d ++ [])))) (sym e)
    ∙ ap (λ xs. listed first ++ xs) (one_first (listed first ++ []) b (listed c ++ (listed d ++ []))
    ∙ ap (λ x. listed x ++ first_of_each (listed x ++ (listed first ++ [])) (listed c ++ (listed d ++ []))) (sym f)
    ∙ ap (λ xs. listed second ++ xs) (one_first (listed second ++ (listed first ++ [])) c (listed d ++ [])
    ∙ ap (λ x. listed x ++ first_of_each (listed x ++ (listed second ++ (listed first ++ []))) (listed d ++ [])) (sym g)
    ∙ ap (λ xs. listed third ++ xs) (one_first (listed third ++ (listed second ++ (listed first ++ []))) d []
    ∙ ap (λ x. listed x ++ []) (sym h)))))

-- a test of four slots
pub any_four : (p : ℕ × ℕ → Bool) (a b c d : Option (ℕ × ℕ)) →
    list_any p (listed a ++ (listed b ++ (listed c ++ (listed d ++ [])))) ≡ (list_any p (listed a) || (list_any p (listed b) || (list_any p (listed c) || list_any p (listed d))))
any_four p a b c d =
    list_any-append p (listed a) (listed b ++ (listed c ++ (listed d ++ []))) ∙ ap (λ t. list_any p (listed a) || t) (any_three p b c d)
