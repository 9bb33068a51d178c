-- The laws of the tables.
use Rattle.std.proofs.Common.{ℕ, zero, suc, ◌≡◌, ◌≢◌, ◌<◌, ◌*◌, ◌==◌, ◌∙◌, refl, ap, subst, arith, Bool, true, false, not, List, Option, Some, None, if◌then◌else◌}
use Rattle.std.specs.Int.{bit_at}
use Rattle.std.specs.Int.Bits.{bit_and, and_comm}
use Rattle.std.proofs.lemmas.Nat.Bits.{bit_at_and, and_pow, bit_at-zero}
use Rattle.dx_base.specs.declared.kinds.ListType.{ListType}
use Rattle.d3d_resources.specs.declared.resources.Resource.{Resource}
use Rattle.dx_flags.specs.declared.atoms.Part.{Part}
use Rattle.dx_flags.specs.declared.atoms.Part.TheVariants as part
use Rattle.dx_flags.specs.declared.layouts.Layout.{Layout}
use Rattle.dx_flags.specs.declared.layouts.Layout.TheVariants as layout
use Rattle.enhanced_barriers.proofs.LegalParts.{legal_means, known_after}
use Rattle.enhanced_barriers.specs.declared.barriers.Barrier.{Barrier}
use Rattle.enhanced_barriers.specs.declared.barriers.Scope.{Scope}
use Rattle.enhanced_barriers.specs.declared.barriers.Scope.TheVariants as scope
use Rattle.enhanced_barriers.specs.Laws.{IsLegal}
use Rattle.enhanced_barriers.specs.Legal.{is_legal}
use Rattle.lower_tables.proofs.AccessBits.{takes_in_kind}
use Rattle.lower_tables.proofs.SyncStages.{takes_in_part, has_stages}
use Rattle.lower_tables.specs.Layouts.{layout_of}
use Rattle.lower_tables.specs.Stages.{stage_of}
use Rattle.vk_types.specs.declared.accesses.Access.{Access}
use Rattle.vk_types.specs.declared.accesses.Access.TheVariants.{MemoryRead, MemoryWrite, ShaderStorageRead, ShaderStorageWrite, ShaderRead, UniformRead, TransferRead, TransferWrite, HostRead}
use Rattle.vk_types.specs.declared.layouts.Change.{Change}
use Rattle.vk_types.specs.declared.layouts.VkLayout.{VkLayout}
use Rattle.vk_types.specs.declared.layouts.VkLayout.TheVariants.{Undefined}
use Rattle.vk_types.specs.declared.stages.Stages.{Stages}
use Rattle.vk_types.specs.Stages.{meets, whole}
use Rattle.vk_types.specs.Whole.{stands_for_access}
use Rattle.barrier_lowering.specs.Barriers.{change_of_scope, is_change}
use Rattle.barrier_lowering.specs.TableLaws.{part_stage, device_stages, is_write, every_write, every_access, TablesKeepOrder}

-- sets of stages meet both ways
meets_back : (a b : Stages) → meets a b ≡ true → meets b a ≡ true
meets_back a b h = ap (λ n. not (n == 0)) (and_comm (whole b) (whole a)) ∙ h

-- a number with a bit is not 0
not_zero : (n i : ℕ) → 0 < bit_at n i → not (n == 0) ≡ true
not_zero zero i some = absurd (omega (arith, some, bit_at-zero i))
not_zero (suc n) i some = grind arith

-- numbers that both have a bit have one in common
in_common : (x y i : ℕ) → 0 < bit_at x i → 0 < bit_at y i → not (bit_and x y == 0) ≡ true
in_common x y i a b = not_zero (bit_and x y) i (omega (arith, a, b, bit_at_and x y i))

-- of two sets with the stage of compute shaders, and of two with that of copies
both_compute : (x y : ℕ) → not (bit_and x 2 == 0) ≡ true → not (bit_and 2 y == 0) ≡ true → not (bit_and x y == 0) ≡ true
both_compute x y h k =
    let a : bit_and x 2 ≡ bit_at x 1 * 2 = and_pow x 1 in
    let b : bit_and 2 y ≡ bit_at y 1 * 2 = and_comm 2 y ∙ and_pow y 1 in
    in_common x y 1 (grind (arith, h, a)) (grind (arith, k, b))

both_copy : (x y : ℕ) → not (bit_and x 4 == 0) ≡ true → not (bit_and 4 y == 0) ≡ true → not (bit_and x y == 0) ≡ true
both_copy x y h k =
    let a : bit_and x 4 ≡ bit_at x 2 * 4 = and_pow x 2 in
    let b : bit_and 4 y ≡ bit_at y 2 * 4 = and_comm 4 y ∙ and_pow y 2 in
    in_common x y 2 (grind (arith, h, a)) (grind (arith, k, b))

one_stage : (p : Part) (a b : Stages) → meets a (part_stage p) ≡ true → meets (part_stage p) b ≡ true → meets a b ≡ true
one_stage part.Copy a b h k = both_copy (whole a) (whole b) h k
one_stage part.Compute a b h k = both_compute (whole a) (whole b) h k
one_stage part.Clear a b h k = both_compute (whole a) (whole b) h k

of_the_device : (p : Part) → meets device_stages (part_stage p) ≡ true
of_the_device part.Copy = refl
of_the_device part.Compute = refl
of_the_device part.Clear = refl

-- an access that writes is among every write, and each but that of the host among every access
write_named : (x : Access) → is_write x ≡ true → stands_for_access every_write x ≡ true
write_named MemoryRead h = absurd cc
write_named MemoryWrite h = refl
write_named ShaderStorageRead h = absurd cc
write_named ShaderStorageWrite h = refl
write_named ShaderRead h = absurd cc
write_named UniformRead h = absurd cc
write_named TransferRead h = absurd cc
write_named TransferWrite h = refl
write_named HostRead h = absurd cc

access_named : (x : Access) → stands_for_access every_access x ≡ true
access_named MemoryRead = refl
access_named MemoryWrite = refl
access_named ShaderStorageRead = refl
access_named ShaderStorageWrite = refl
access_named ShaderRead = refl
access_named UniformRead = refl
access_named TransferRead = refl
access_named TransferWrite = refl
access_named HostRead = refl

-- only UNDEFINED becomes UNDEFINED
lowered_known : (l : Layout) → l ≢ layout.Undefined → layout_of l ≢ Undefined
lowered_known layout.Undefined ne e = ne refl
lowered_known layout.Common ne e = absurd cc
lowered_known layout.GenericRead ne e = absurd cc
lowered_known layout.UnorderedAccess ne e = absurd cc
lowered_known layout.ShaderResource ne e = absurd cc
lowered_known layout.CopySource ne e = absurd cc
lowered_known layout.CopyDest ne e = absurd cc

-- a chosen change is the one that was to be chosen
is_chosen : {A : Type 0} (b : Bool) (x y : A) → (if b then Some x else None) ≡ Some y → x ≡ y
is_chosen true x y e = cc
is_chosen false x y e = absurd cc

new_is : (rs : List (Option Resource)) (s : Scope) (barrier : Barrier) (list : ListType) (shared : Bool) (change : Change) → barrier.scope ≡ s →
    is_legal barrier list shared ≡ true → change_of_scope rs s barrier.layout_before barrier.layout_after ≡ Some change → change.new ≢ Undefined
new_is rs scope.Global barrier list shared change at h made = absurd cc
new_is rs (scope.Buffer id) barrier list shared change at h made = absurd cc
new_is rs (scope.Texture id sub) barrier list shared change at h made =
    let is = is_chosen (is_change barrier.layout_before barrier.layout_after) _ change made in
    subst (λ (l : VkLayout). l ≢ Undefined) (ap (λ (c : Change). c.new) is) (lowered_known barrier.layout_after (known_after barrier list shared id sub at h))

pub keep_order : TablesKeepOrder
keep_order = record {
  one = one_stage;
  device = of_the_device;
  of_device = λ p. meets_back device_stages (part_stage p) (of_the_device p);
  before_part = λ rs barrier p h. meets_back (stage_of barrier.sync_before) (part_stage p) (takes_in_part p barrier.sync_before h);
  after_part = λ rs barrier p h. takes_in_part p barrier.sync_after h;
  made_kind = λ rs barrier kind x h made. takes_in_kind kind barrier.access_before x h made;
  seen_kind = λ rs barrier kind x h made. takes_in_kind kind barrier.access_after x h made;
  some_write = λ kind x made writes. write_named x writes;
  some_read = λ kind x made reads. access_named x;
  before_device = λ rs barrier list shared h.
      let legal : IsLegal barrier list shared = (legal_means barrier list shared).0 h in
      meets_back (stage_of barrier.sync_before) device_stages (has_stages barrier.sync_before legal.sync_before);
  after_device = λ rs barrier list shared h.
      let legal : IsLegal barrier list shared = (legal_means barrier list shared).0 h in
      has_stages barrier.sync_after legal.sync_after;
  known = λ rs barrier list shared change h made. new_is rs barrier.scope barrier list shared change refl h made;
}
