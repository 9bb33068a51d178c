-- Which barriers change layouts.
use Rattle.std.proofs.Common.{ℕ, zero, suc, ◌≡◌, ◌≢◌, ◌∙◌, refl, sym, ap, Bool, true, false, not, ◌||◌, Some, None, if◌then◌else◌, eqb-true, inl, inr}
use Rattle.std.specs.Prelude.{◌⊎◌}
use Rattle.dx_flags.specs.declared.layouts.Layout.{Layout}
use Rattle.dx_flags.specs.declared.layouts.Layout.TheVariants as layout
use Rattle.enhanced_barriers.specs.Legal.{is_undefined}
use Rattle.lower_tables.specs.Layouts.{layout_of}
use Rattle.vk_types.specs.declared.layouts.VkLayout.{VkLayout}
use Rattle.vk_types.specs.declared.layouts.VkLayout.TheVariants.{Undefined, General, ShaderReadOnlyOptimal, TransferSrcOptimal, TransferDstOptimal}
use Rattle.barrier_lowering.specs.Barriers.{layout_place, same_layout, is_change}
use Rattle.barrier_lowering.specs.Laws.{ChangesAreExact}

-- the layout at a place
abbrev at_place : ℕ → VkLayout
at_place zero = Undefined
at_place (suc zero) = General
at_place (suc (suc zero)) = ShaderReadOnlyOptimal
at_place (suc (suc (suc zero))) = TransferSrcOptimal
at_place (suc (suc (suc (suc n)))) = TransferDstOptimal

there_again : (a : VkLayout) → at_place (layout_place a) ≡ a
there_again Undefined = refl
there_again General = refl
there_again ShaderReadOnlyOptimal = refl
there_again TransferSrcOptimal = refl
there_again TransferDstOptimal = refl

same_is : (a b : VkLayout) → same_layout a b ≡ true → a ≡ b
same_is a b h = sym (there_again a) ∙ ap at_place (eqb-true (layout_place a) (layout_place b) h) ∙ there_again b

same_itself : (a : VkLayout) → same_layout a a ≡ true
same_itself Undefined = refl
same_itself General = refl
same_itself ShaderReadOnlyOptimal = refl
same_itself TransferSrcOptimal = refl
same_itself TransferDstOptimal = refl

-- a layout is UNDEFINED just where the test says so
undefined_is : (l : Layout) → is_undefined l ≡ true → l ≡ layout.Undefined
undefined_is layout.Undefined h = refl
undefined_is layout.Common h = absurd cc
undefined_is layout.GenericRead h = absurd cc
undefined_is layout.UnorderedAccess h = absurd cc
undefined_is layout.ShaderResource h = absurd cc
undefined_is layout.CopySource h = absurd cc
undefined_is layout.CopyDest h = absurd cc

-- both truths are not one
never : {A : Type 0} → true ≡ false → A
never h = absurd cc

-- a barrier's layouts by both tests
by_tests : (u s : Bool) (before after : Layout) → is_undefined before ≡ u → same_layout (layout_of before) (layout_of after) ≡ s → (u || not s) ≡ true →
    (before ≡ layout.Undefined) ⊎ (layout_of before ≢ layout_of after)
by_tests true s before after hu hs h = inl (undefined_is before hu)
by_tests false true before after hu hs h = never (sym h)
by_tests false false before after hu hs h =
    inr (λ e. never (sym (same_itself (layout_of before)) ∙ ap (λ l. same_layout (layout_of before) l) e ∙ hs))

changed_means : (before after : Layout) → is_change before after ≡ true → (before ≡ layout.Undefined) ⊎ (layout_of before ≢ layout_of after)
changed_means before after h = by_tests (is_undefined before) (same_layout (layout_of before) (layout_of after)) before after refl refl h

differ : (s : Bool) (before after : Layout) → same_layout (layout_of before) (layout_of after) ≡ s → layout_of before ≢ layout_of after → s ≡ false
differ true before after hs ne = absurd (ne (same_is (layout_of before) (layout_of after) hs))
differ false before after hs ne = refl

or_second : (u s : Bool) → s ≡ false → (u || not s) ≡ true
or_second true s h = refl
or_second false s h = ap not h

means_changed : (before after : Layout) → (before ≡ layout.Undefined) ⊎ (layout_of before ≢ layout_of after) → is_change before after ≡ true
means_changed before after h = elim h [
  | inl e ↦ ap (λ l. is_undefined l || not (same_layout (layout_of before) (layout_of after))) e
  | inr ne ↦ or_second (is_undefined before) (same_layout (layout_of before) (layout_of after)) (differ (same_layout (layout_of before) (layout_of after)) before after refl ne)
]

-- a choice that gave something, and one that gave nothing
gave : {A : Type 0} (b : Bool) (x : A) → (if b then Some x else None) ≡ Some x → b ≡ true
gave true x h = refl
gave false x h = absurd cc

gave_none : {A : Type 0} (b : Bool) (x : A) → (if b then Some x else None) ≡ None → b ≡ false
gave_none true x h = absurd cc
gave_none false x h = refl

unchanged_means : (before after : Layout) → is_change before after ≡ false → (before ≢ layout.Undefined) × (layout_of before ≡ layout_of after)
unchanged_means before after h = (
  λ e. never (sym (means_changed before after (inl e)) ∙ h),
  same_is (layout_of before) (layout_of after) (same_of (is_undefined before) (same_layout (layout_of before) (layout_of after)) h),
)
  where
    same_of : (u s : Bool) → (u || not s) ≡ false → s ≡ true
    same_of true true h = refl
    same_of true false h = absurd cc
    same_of false true h = refl
    same_of false false h = absurd cc

unchanged : (c : Bool) (before after : Layout) → is_change before after ≡ c → before ≢ layout.Undefined → layout_of before ≡ layout_of after → c ≡ false
unchanged true before after h ne e = elim (changed_means before after h) [ inl u ↦ absurd (ne u) | inr d ↦ absurd (d e) ]
unchanged false before after h ne e = refl

pub exact : ChangesAreExact
exact = record {
  some = λ image sub before after. (
    λ e. changed_means before after (gave (is_change before after) (record { image = image; sub = sub; old = layout_of before; new = layout_of after }) e),
    λ h. ap (λ b. if b then Some (record { image = image; sub = sub; old = layout_of before; new = layout_of after }) else None) (means_changed before after h),
  );
  none = λ image sub before after. (
    λ e. unchanged_means before after (gave_none (is_change before after) (record { image = image; sub = sub; old = layout_of before; new = layout_of after }) e),
    λ h. ap
        (λ b. if b then Some (record { image = image; sub = sub; old = layout_of before; new = layout_of after }) else None)
        (unchanged (is_change before after) before after refl h.0 h.1),
  );
}
