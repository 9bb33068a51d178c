-- The last write among one access more.
use Rattle.std.proofs.Common.{ℕ, ◌≡◌, ◌∙◌, refl, sym, ap, Bool, true, false, ◌&&◌, List, [], ◌∷◌, ◌++◌, ◌+◌, ◌<◌, length, get_or, take, Some, None, if◌then◌else◌}
use Rattle.std.proofs.lemmas.List.{take_more}
use Rattle.vk_sync_rules.specs.declared.accesses.DoneAccess.{DoneAccess}
use Rattle.vk_sync_rules.specs.declared.ranges.VkResource.{VkResource}
use Rattle.vk_sync_rules.specs.DoneAccesses.{last_write}
use Rattle.vk_sync_rules.specs.Ranges.{has_word}

-- one that writes the word is the last one
pub last_more : (resource : VkResource) (word : ℕ) (rs : List DoneAccess) (r : DoneAccess) →
    last_write resource word (rs ++ r ∷ []) ≡ (if r.writes && has_word resource word r.range then Some r else last_write resource word rs)
last_more resource word [] r = refl
last_more resource word (s ∷ rs) r = rw (last_more resource word rs r) (by_test (r.writes && has_word resource word r.range)) where
  by_test : (b : Bool) → (elim (if b then Some r else last_write resource word rs) [ Some w ↦ Some w | None ↦ if s.writes && has_word resource word s.range then Some s else None ])
      ≡ (if b then Some r else (elim (last_write resource word rs) [ Some w ↦ Some w | None ↦ if s.writes && has_word resource word s.range then Some s else None ]))
  by_test true = refl
  by_test false = refl

-- the accesses up to one, and that one
take_item : {A : Type 0} (xs : List A) (i : ℕ) (x : A) → i < length xs → x ≡ get_or xs i x → take (i + 1) xs ≡ take i xs ++ x ∷ []
take_item xs i x inside at = take_more xs i x inside ∙ ap (λ y. take i xs ++ y ∷ []) (sym at)

pub last_here : (resource : VkResource) (word : ℕ) (rs : List DoneAccess) (i : ℕ) (r : DoneAccess) → i < length rs → r ≡ get_or rs i r →
    (r.writes && has_word resource word r.range) ≡ true → last_write resource word (take (i + 1) rs) ≡ Some r
last_here resource word rs i r inside at writes =
    ap (last_write resource word) (take_item rs i r inside at) ∙ last_more resource word (take i rs) r
    ∙ ap (λ (b : Bool). if b then Some r else last_write resource word (take i rs)) writes

pub last_before : (resource : VkResource) (word : ℕ) (rs : List DoneAccess) (i : ℕ) (r : DoneAccess) → i < length rs → r ≡ get_or rs i r →
    (r.writes && has_word resource word r.range) ≡ false → last_write resource word (take (i + 1) rs) ≡ last_write resource word (take i rs)
last_before resource word rs i r inside at writes =
    ap (last_write resource word) (take_item rs i r inside at) ∙ last_more resource word (take i rs) r
    ∙ ap (λ (b : Bool). if b then Some r else last_write resource word (take i rs)) writes
