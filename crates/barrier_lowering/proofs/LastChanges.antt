-- The last change of each subresource, after one more.
use Rattle.std.proofs.Common.{ℕ, ◌≡◌, ◌∙◌, refl, sym, ap, Option, Some, None, Bool, true, false, ◌==◌, ◌&&◌, if◌then◌else◌, cond}
use Rattle.std.specs.Option.{option_or}
use Rattle.std.specs.Cmp.{unsigned_ties, unsigned_Decides}
use Rattle.std.specs.Ordering.{nat_cmp}
use Rattle.std.specs.BTreeMap.{is_at}
use Rattle.vk_types.specs.declared.layouts.VkLayout.{VkLayout}
use Rattle.barrier_lowering.specs.declared.image_changes.SubChanges.{SubChanges}
use Rattle.barrier_lowering.specs.ImageChanges.{last_in, last_of, names_sub, IsChanged}

-- the change's layout where it names the subresource, and the one before elsewhere
chosen : (named : Bool) (new : VkLayout) (before : Option VkLayout) → (if named then Some new else before) ≡ option_or (if true && named then Some new else None) before
chosen true new before = refl
chosen false new before = refl

module _ (k : ℕ) (named : Option ℕ) (new : VkLayout) (b a : SubChanges) (before without after : ℕ → Option SubChanges)
    (taken : (q : ℕ) → without q ≡ cond (is_at (nat_cmp k) q) None (before q))
    (set : (q : ℕ) → after q ≡ cond (is_at (nat_cmp k) q) (Some a) (without q))
    (was : (sub : ℕ) → last_in b sub ≡ last_of (before k) sub)
    (changed : IsChanged named new b a)
  where
    by_image : (same : Bool) (image sub : ℕ) → (k == image) ≡ same →
        last_of (after image) sub ≡ option_or (if (k == image) && names_sub named sub then Some new else None) (last_of (before image) sub)
    by_image true image sub h =
        let at : is_at (nat_cmp k) image ≡ true = sym (unsigned_ties k image) ∙ h in
        let one : k ≡ image = (unsigned_Decides k image).0 h in
        ap (λ o. last_of o sub) (set image ∙ ap (λ t. cond t (Some a) (without image)) at)
        ∙ changed sub
        ∙ ap (λ o. if names_sub named sub then Some new else o) (was sub ∙ ap (λ q. last_of (before q) sub) one)
        ∙ chosen (names_sub named sub) new (last_of (before image) sub)
        ∙ ap (λ t. option_or (if t && names_sub named sub then Some new else None) (last_of (before image) sub)) (sym h)
    by_image false image sub h =
        let at : is_at (nat_cmp k) image ≡ false = sym (unsigned_ties k image) ∙ h in
        ap (λ o. last_of o sub) (set image ∙ ap (λ t. cond t (Some a) (without image)) at ∙ taken image ∙ ap (λ t. cond t None (before image)) at)
        ∙ ap (λ t. option_or (if t && names_sub named sub then Some new else None) (last_of (before image) sub)) (sym h)

    pub last_after : (image sub : ℕ) → last_of (after image) sub ≡ option_or (if (k == image) && names_sub named sub then Some new else None) (last_of (before image) sub)
    last_after image sub = by_image (k == image) image sub refl
