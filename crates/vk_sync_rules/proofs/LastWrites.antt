-- The last write of a word is one of its writes.
use Rattle.std.proofs.Common.{◌≡◌, ℕ, zero, suc, ◌+◌, ◌<◌, ◌≤◌, Bool, true, false, ◌&&◌, cond, List, [], ◌∷◌, refl, subst, arith, Option, Some, None, sym, slice_get, ◌∙◌}
use Rattle.std.specs.List.{list_all}
use Rattle.std.proofs.lemmas.Bool.{and_parts, and_from, true≢false}
use Rattle.std.proofs.lemmas.Option.{none-some}
use Rattle.vk_sync_rules.proofs.Soundness.{same_item}
use Rattle.vk_sync_rules.specs.DoneAccesses.{last_write}
use Rattle.vk_sync_rules.specs.Numbers.{up_to}
use Rattle.vk_sync_rules.specs.Ranges.{has_word}
use Rattle.vk_sync_rules.specs.Rules.{each_last, of_each}
use Rattle.vk_sync_rules.specs.declared.accesses.DoneAccess.{DoneAccess}
use Rattle.vk_sync_rules.specs.declared.ranges.VkResource.{VkResource}
use Rattle.vk_sync_rules.specs.declared.ranges.WordRange.{WordRange}
use Rattle.dx_base.specs.Each.{Each}
use Rattle.vk_sync_rules.specs.LastWrites.{FindsLast, IsLast, Writes}

-- a property of each write of a word is one of the last
pub last_has : (P : DoneAccess → Type 0) (key : VkResource) (word : ℕ) (rs : List DoneAccess) → Each (λ (r : DoneAccess). r.writes ≡ true → has_word key word r.range ≡ true → P r) rs → (w : DoneAccess) → last_write key word rs ≡ Some w → P w
last_has P key word [] all w is = absurd (none-some w is)
last_has P key word (r ∷ rs) all w is = by_rest (last_write key word rs) (last_has P key word rs all.1) is where
  here : (t : Bool) → (r.writes && has_word key word r.range) ≡ t → cond t (Some r) None ≡ Some w → P w
  here true e same = let parts = and_parts r.writes (has_word key word r.range) e in subst P (same_item r w same) (all.0 parts.0 parts.1)
  here false e same = absurd (none-some w same)

  by_rest : (o : Option DoneAccess) → ((x : DoneAccess) → o ≡ Some x → P x) → elim o [ Some x ↦ Some x | None ↦ cond (r.writes && has_word key word r.range) (Some r) None ] ≡ Some w → P w
  by_rest None others same = here (r.writes && has_word key word r.range) refl same
  by_rest (Some x) others same = others w same

-- each last write of a range, where each write that shares a word is so
each_of : (test : DoneAccess → Bool) (o : Option DoneAccess) → ((w : DoneAccess) → o ≡ Some w → test w ≡ true) → of_each test o ≡ true
each_of test None h = refl
each_of test (Some w) h = h w refl

words_of : (p : ℕ → Bool) (first count : ℕ) → ((word : ℕ) → first ≤ word → word < first + count → p word ≡ true) → list_all p (up_to first count) ≡ true
words_of p first zero h = refl
words_of p first (suc n) h = and_from (p first) (list_all p (up_to (first + 1) n)) (h first (omega arith) (omega arith)) (words_of p (first + 1) n (λ word a b. h word (omega (arith, a)) (omega (arith, b))))

pub each_last_from : (test : DoneAccess → Bool) (range : WordRange) (made : List DoneAccess) →
    ((word : ℕ) → range.first ≤ word → word < range.first + range.count → Each (λ (r : DoneAccess). r.writes ≡ true → has_word range.resource word r.range ≡ true → test r ≡ true) made) → each_last test range made ≡ true
each_last_from test range made h =
    words_of (λ word. of_each test (last_write range.resource word made)) range.first range.count
    (λ word a b. each_of test (last_write range.resource word made) (λ w is. last_has (λ r. test r ≡ true) range.resource word made (h word a b) w is))

-- an access writes a word, by the test
writes_by : (resource : VkResource) (word : ℕ) (r : DoneAccess) → Writes resource word r → (r.writes && has_word resource word r.range) ≡ true
writes_by resource word r w = and_from r.writes (has_word resource word r.range) w.writes w.there

by_writes : (resource : VkResource) (word : ℕ) (r : DoneAccess) → (r.writes && has_word resource word r.range) ≡ true → Writes resource word r
by_writes resource word r h = let parts = and_parts r.writes (has_word resource word r.range) h in record { writes = parts.0; there = parts.1 }

-- the last write of a list of one more in front
module _ (resource : VkResource) (word : ℕ) (r : DoneAccess) (rs : List DoneAccess) where
  abbrev no_access : Option DoneAccess
  no_access = None

  abbrev here : Bool
  here = r.writes && has_word resource word r.range

  later : (w : DoneAccess) → IsLast resource word rs w → IsLast resource word (r ∷ rs) w
  later w is = record {
    place = suc is.place;
    at = is.at;
    writes = is.writes;
    last = last;
  } where
    last : (i : ℕ) (x : DoneAccess) → suc is.place < i → slice_get (r ∷ rs) i ≡ Some x → Writes resource word x → ⊥
    last zero x less e h = absurd (omega (arith, less))
    last (suc i) x less e h = is.last i x (omega (arith, less)) e h

  found_cases : (t : Bool) (o : Option DoneAccess) → here ≡ t → ((w : DoneAccess) → o ≡ Some w → IsLast resource word rs w) →
      (no_access ≡ o → (i : ℕ) (x : DoneAccess) → slice_get rs i ≡ Some x → Writes resource word x → ⊥) →
      (w : DoneAccess) → elim o [ Some x ↦ Some x | None ↦ cond t (Some r) None ] ≡ Some w → IsLast resource word (r ∷ rs) w
  found_cases t (Some x) e found none w h = later w (found w h)
  found_cases false None e found none w h = absurd (none-some w h)
  found_cases true None e found none w h = subst (λ y. IsLast resource word (r ∷ rs) y) (same_item r w h) (record {
    place = zero;
    at = refl;
    writes = by_writes resource word r e;
    last = last;
  }) where
    last : (i : ℕ) (x : DoneAccess) → zero < i → slice_get (r ∷ rs) i ≡ Some x → Writes resource word x → ⊥
    last zero x less at h = absurd (omega (arith, less))
    last (suc i) x less at h = none refl i x at h

  none_cases : (t : Bool) (o : Option DoneAccess) → here ≡ t → (no_access ≡ o → (i : ℕ) (x : DoneAccess) → slice_get rs i ≡ Some x → Writes resource word x → ⊥) →
      no_access ≡ elim o [ Some x ↦ Some x | None ↦ cond t (Some r) None ] → (i : ℕ) (x : DoneAccess) → slice_get (r ∷ rs) i ≡ Some x → Writes resource word x → ⊥
  none_cases t (Some y) e none h i x at is = absurd (none-some y h)
  none_cases true None e none h i x at is = absurd (none-some r h)
  none_cases false None e none h zero x at is =
      true≢false (sym (writes_by resource word r (subst (λ y. Writes resource word y) (sym (same_item r x at)) is)) ∙ e)
  none_cases false None e none h (suc i) x at is = none refl i x at is

pub finds_last : (resource : VkResource) (word : ℕ) (rs : List DoneAccess) → FindsLast resource word rs
finds_last resource word [] = record { found = λ w h. absurd (none-some w h); none = none } where
  none : last_write resource word [] ≡ None → (i : ℕ) (x : DoneAccess) → slice_get [] i ≡ Some x → Writes resource word x → ⊥
  none h zero x at is = none-some x at
  none h (suc i) x at is = none-some x at
finds_last resource word (r ∷ rs) =
    let rest : FindsLast resource word rs = finds_last resource word rs in record {
      found = λ w h. found_cases resource word r rs (r.writes && has_word resource word r.range) (last_write resource word rs) refl rest.found (λ e. rest.none (sym e)) w h;
      none = λ h. none_cases resource word r rs (r.writes && has_word resource word r.range) (last_write resource word rs) refl (λ e. rest.none (sym e)) (sym h);
    }
