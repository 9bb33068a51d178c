-- The layout of a subresource, as the tables have it and after changes.
use Rattle.std.proofs.Common.{ℕ, zero, suc, ◌≡◌, ◌≢◌, ◌<◌, ◌∙◌, refl, sym, ap, subst, arith, List, [], ◌∷◌, ◌++◌, length, map, take, drop, slice_get, slice_set, get_or, ◌+◌, add-one, Option, Some, None, Bool, true, false, ◌==◌, ◌&&◌, if◌then◌else◌, eqb-true, eq-eqb}
use Rattle.std.proofs.lemmas.Option.{get_or_from_slice_get, unwrap_or-slice_get}
use Rattle.std.proofs.lemmas.List.{get_or-map, length-map}
use Rattle.std.specs.Option.{unwrap_or}
use Rattle.dx_base.specs.Lists.{changed_at}
use Rattle.dx_base.proofs.Lists.{get_or_changed, get_or_changed_other, length_changed}
use Rattle.vk_types.specs.declared.layouts.VkLayout.{VkLayout}
use Rattle.vk_types.specs.declared.layouts.VkLayout.TheVariants.{Undefined}
use Rattle.vk_types.specs.declared.layouts.Change.{Change}
use Rattle.d3d_resources.specs.declared.resources.Resource.{Resource}
use Rattle.barrier_lowering.specs.ImageChanges.{names_sub, given, given_by}
use Rattle.barrier_lowering.specs.Layouts.{layout_at, subs_after, layouts_after_change, layouts_after_some, texture_subs, AreLayoutsOf}

-- what there is not has the default
get_or_none : {A : Type 0} (xs : List A) (i : ℕ) (d : A) → slice_get xs i ≡ None → get_or xs i d ≡ d
get_or_none xs i d none = sym (unwrap_or-slice_get xs i d) ∙ ap (λ o. unwrap_or o d) none

pub layout_there : (layouts : List (List VkLayout)) (image sub : ℕ) (subs : List VkLayout) (layout : VkLayout) → slice_get layouts image ≡ Some subs → slice_get subs sub ≡ Some layout → layout ≡ layout_at layouts image sub
layout_there layouts image sub subs layout there at =
    sym (get_or_from_slice_get subs sub layout Undefined at) ∙ ap (λ xs. get_or xs sub Undefined) (sym (get_or_from_slice_get layouts image subs [] there))

pub no_sub_there : (layouts : List (List VkLayout)) (image sub : ℕ) (subs : List VkLayout) → slice_get layouts image ≡ Some subs → slice_get subs sub ≡ None → Undefined ≡ layout_at layouts image sub
no_sub_there layouts image sub subs there none =
    sym (get_or_none subs sub Undefined none) ∙ ap (λ xs. get_or xs sub Undefined) (sym (get_or_from_slice_get layouts image subs [] there))

pub no_image_there : (layouts : List (List VkLayout)) (image sub : ℕ) → slice_get layouts image ≡ None → Undefined ≡ layout_at layouts image sub
no_image_there layouts image sub none = ap (λ xs. get_or xs sub Undefined) (sym (get_or_none layouts image [] none))

-- different numbers, by their test
apart : (k q : ℕ) → (k == q) ≡ false → k ≢ q
apart k q h same = let e : true ≡ false = sym (eq-eqb k q same) ∙ h in absurd cc

-- the layout of a subresource after a change of one
one_after : (same : Bool) (one : ℕ) (new : VkLayout) (subs : List VkLayout) (sub : ℕ) → sub < length subs → (one == sub) ≡ same →
    get_or (changed_at (λ (_ : VkLayout). new) one subs) sub Undefined ≡ unwrap_or (if one == sub then Some new else None) (get_or subs sub Undefined)
one_after true one new subs sub within h =
    ap (λ i. get_or (changed_at (λ (_ : VkLayout). new) i subs) sub Undefined) (eqb-true one sub h)
    ∙ get_or_changed (λ (_ : VkLayout). new) subs sub Undefined within
    ∙ ap (λ t. unwrap_or (if t then Some new else None) (get_or subs sub Undefined)) (sym h)
one_after false one new subs sub within h =
    get_or_changed_other (λ (_ : VkLayout). new) subs one sub Undefined (apart one sub h)
    ∙ ap (λ t. unwrap_or (if t then Some new else None) (get_or subs sub Undefined)) (sym h)

-- the layout of a subresource after a change of its image
sub_after : (named : Option ℕ) (new : VkLayout) (subs : List VkLayout) (sub : ℕ) → sub < length subs →
    get_or (subs_after named new subs) sub Undefined ≡ unwrap_or (if names_sub named sub then Some new else None) (get_or subs sub Undefined)
sub_after None new subs sub within = get_or-map (λ (_ : VkLayout). new) subs sub Undefined Undefined within
sub_after (Some one) new subs sub within = one_after (one == sub) one new subs sub within refl

-- an image that has a subresource is there
image_within : (layouts : List (List VkLayout)) (image sub : ℕ) → sub < length (get_or layouts image []) → image < length layouts
image_within [] image sub within = absurd (omega (arith, within))
image_within (x ∷ xs) zero sub within = omega arith
image_within (x ∷ xs) (suc image) sub within = omega (arith, image_within xs image sub within)

-- the layout of a subresource after a change
change_at : (same : Bool) (change : Change) (layouts : List (List VkLayout)) (image sub : ℕ) → sub < length (get_or layouts image []) → (change.image == image) ≡ same →
    layout_at (layouts_after_change change layouts) image sub ≡ unwrap_or (given change image sub) (layout_at layouts image sub)
change_at true change layouts image sub within h =
    let one : change.image ≡ image = eqb-true change.image image h in
    ap (λ i. get_or (get_or (changed_at (subs_after change.sub change.new) i layouts) image []) sub Undefined) one
    ∙ ap (λ xs. get_or xs sub Undefined) (get_or_changed (subs_after change.sub change.new) layouts image [] (image_within layouts image sub within))
    ∙ sub_after change.sub change.new (get_or layouts image []) sub within
    ∙ ap (λ t. unwrap_or (if t && names_sub change.sub sub then Some change.new else None) (layout_at layouts image sub)) (sym h)
change_at false change layouts image sub within h =
    ap (λ xs. get_or xs sub Undefined) (get_or_changed_other (subs_after change.sub change.new) layouts change.image image [] (apart change.image image h))
    ∙ ap (λ t. unwrap_or (if t && names_sub change.sub sub then Some change.new else None) (layout_at layouts image sub)) (sym h)

-- the same of a change, if there is one
pub some_at : (change : Option Change) (layouts : List (List VkLayout)) (image sub : ℕ) → sub < length (get_or layouts image []) →
    layout_at (layouts_after_some change layouts) image sub ≡ unwrap_or (given_by change image sub) (layout_at layouts image sub)
some_at None layouts image sub within = refl
some_at (Some change) layouts image sub within = change_at (change.image == image) change layouts image sub within refl

-- a change leaves how many subresources there are
length_subs : (named : Option ℕ) (new : VkLayout) (subs : List VkLayout) → length (subs_after named new subs) ≡ length subs
length_subs None new subs = length-map subs (λ (_ : VkLayout). new)
length_subs (Some one) new subs = length_changed (λ (_ : VkLayout). new) subs one

lengths_changed : (named : Option ℕ) (new : VkLayout) (image : ℕ) (layouts : List (List VkLayout)) →
    map (λ subs. length subs) (changed_at (subs_after named new) image layouts) ≡ map (λ subs. length subs) layouts
lengths_changed named new image [] = refl
lengths_changed named new zero (subs ∷ more) = ap (λ n. n ∷ map (λ subs. length subs) more) (length_subs named new subs)
lengths_changed named new (suc image) (subs ∷ more) = ap (λ ns. length subs ∷ ns) (lengths_changed named new image more)

-- layouts of the images of some resources stay so
pub stay_layouts : (rs : List (Option Resource)) (change : Option Change) (layouts : List (List VkLayout)) → AreLayoutsOf rs layouts → AreLayoutsOf rs (layouts_after_some change layouts)
stay_layouts rs None layouts are = are
stay_layouts rs (Some change) layouts are = lengths_changed change.sub change.new change.image layouts ∙ are

-- as many subresources as the resources have
length_at : (layouts : List (List VkLayout)) (image : ℕ) → length (get_or layouts image []) ≡ get_or (map (λ subs. length subs) layouts) image 0
length_at [] image = refl
length_at (subs ∷ more) zero = refl
length_at (subs ∷ more) (suc image) = length_at more image

pub is_within : (rs : List (Option Resource)) (layouts : List (List VkLayout)) (image sub : ℕ) → AreLayoutsOf rs layouts → sub < get_or (texture_subs rs) image 0 → sub < length (get_or layouts image [])
is_within rs layouts image sub are within = subst (λ n. sub < n) (sym (length_at layouts image ∙ ap (λ ns. get_or ns image 0) are)) within

-- one layout written over those of the first subresources, and one more
set_next : (y : VkLayout) (xs : List VkLayout) (i : ℕ) → i < length xs → slice_set (map (λ (_ : VkLayout). y) (take i xs) ++ drop i xs) i y ≡ map (λ (_ : VkLayout). y) (take (suc i) xs) ++ drop (suc i) xs
set_next y [] i within = absurd (omega (arith, within))
set_next y (x ∷ xs) zero within = refl
set_next y (x ∷ xs) (suc i) within = ap (λ t. y ∷ t) (set_next y xs i (omega (arith, within)))

pub set_more : (y : VkLayout) (xs ys : List VkLayout) (i : ℕ) → i < length xs → ys ≡ map (λ (_ : VkLayout). y) (take i xs) ++ drop i xs →
    slice_set ys i y ≡ map (λ (_ : VkLayout). y) (take (i + 1) xs) ++ drop (i + 1) xs
set_more y xs ys i within is = ap (λ zs. slice_set zs i y) is ∙ rw (add-one i) (set_next y xs i within)
