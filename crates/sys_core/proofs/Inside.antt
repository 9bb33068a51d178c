-- A host access that is not refused lies inside the device's buffer.
use Rattle.std.proofs.Common.{ℕ, ◌≡◌, ◌<◌, ◌≤◌, ◌+◌, ◌*◌, ◌/◌, ◌%◌, ◌^◌, ap, refl, arith, length, Some, None, Option, Bool, true, false}
use Rattle.std.proofs.lemmas.Bool.{eqb-true, leb-true}
use Rattle.std.specs.Prelude.{◌==◌, ◌&&◌, not, nat_le}
use Rattle.std.proofs.lemmas.Option.{slice_get_within}
use Rattle.dx_base.proofs.Lists.{and_both}
use Rattle.dx_base.specs.declared.hresult.Hresult.TheVariants.{InvalidArg}
use Rattle.dx_base.specs.declared.kinds.Home.{Home}
use Rattle.d3d_machine.specs.declared.world.World.{World}
use Rattle.d3d_machine.specs.declared.world.Resource.{Resource}
use Rattle.d3d_machine.specs.World.{resource_of, words_of_resource, words_in, home_test, is_upload, is_readback, is_upload_home, is_readback_home, is_inside, is_whole}
use Rattle.d3d_machine.specs.Replies.{refuse_if}
use Rattle.d3d_machine.specs.Checks.{write_refusal, read_refusal}
use Rattle.vk_port.specs.Offers.{IsInside}
use Rattle.vk_sync_rules.specs.declared.ranges.VkResource.TheVariants.{Buffer}
use Rattle.vk_sync_rules.specs.Numbers.{numbers_in}
use Rattle.vk_sync_rules.specs.VkState.{VkState as Machine}
use Rattle.sys_core.specs.Lowering.{plan_number}
use Rattle.sys_core.specs.Machine.{HasBuffers}
use Rattle.sys_core.proofs.Spread.{lives_at}

not_refused : (b : Bool) → refuse_if (not b) InvalidArg None ≡ None → b ≡ true
not_refused true h = refl
not_refused false h = absurd (cc)

-- a range of whole words inside a buffer, in words
record IsRange (words offset bytes : ℕ) : Type 0 where
  whole : 4 * (offset / 4) ≡ offset
  count : 4 * (bytes / 4) ≡ bytes
  within : offset / 4 + bytes / 4 ≤ words

range_is : (words offset bytes : ℕ) → is_inside words offset bytes ≡ true → IsRange words offset bytes
range_is words offset bytes h =
    let a : (is_whole offset ≡ true) × ((is_whole bytes && nat_le (offset + bytes) (4 * words)) ≡ true) = and_both (is_whole offset) (is_whole bytes && nat_le (offset + bytes) (4 * words)) h in
    let b : (is_whole bytes ≡ true) × (nat_le (offset + bytes) (4 * words) ≡ true) = and_both (is_whole bytes) (nat_le (offset + bytes) (4 * words)) a.1 in
    let x : offset % 4 ≡ 0 = eqb-true (offset % 4) 0 a.0 in
    let y : bytes % 4 ≡ 0 = eqb-true (bytes % 4) 0 b.0 in
    let z : offset + bytes ≤ 4 * words = leb-true (offset + bytes) (4 * words) b.1 in
    record { whole = omega arith; count = omega arith; within = omega arith }

-- a buffer that passes a test of its home lives
lives : (test : Home → Bool) (w : World) (b : ℕ) → home_test test (resource_of w b) ≡ true → (r : Resource) × (resource_of w b ≡ Some r) × (words_in w b ≡ words_of_resource r)
lives test w b h = by_resource (resource_of w b) refl h
  where
    by_resource : (o : Option Resource) → resource_of w b ≡ o → home_test test o ≡ true → (r : Resource) × (resource_of w b ≡ Some r) × (words_in w b ≡ words_of_resource r)
    by_resource None is h = absurd (cc)
    by_resource (Some r) is h = (r, is, ap (λ (o : Option Resource). elim o [ None ↦ 0 | Some x ↦ words_of_resource x ]) is)

-- a host access that is not refused is of a live resource, and lies inside its buffer
pub record IsAccess (w : World) (m : Machine) (b offset bytes : ℕ) : Type 0 where
  pub live : (r : Resource) × (resource_of w b ≡ Some r)
  pub there : b < length w.resources
  pub inside : IsInside m (plan_number w b) (offset / 4) (bytes / 4)
  pub first : offset / 4 < 2 ^ 32
  pub count : bytes / 4 < 2 ^ 32

access_is : (test : Home → Bool) (w : World) (m : Machine) (b offset bytes : ℕ) → HasBuffers w m → home_test test (resource_of w b) ≡ true →
    is_inside (words_in w b) offset bytes ≡ true → IsAccess w m b offset bytes
access_is test w m b offset bytes has home h =
    let l : (r : Resource) × (resource_of w b ≡ Some r) × (words_in w b ≡ words_of_resource r) = lives test w b home in
    let range : IsRange (words_in w b) offset bytes = range_is (words_in w b) offset bytes h in
    let long : length (numbers_in m.numbers (Buffer (plan_number w b))) ≡ words_of_resource l.0 = has.long b l.0 l.1 in
    let small : words_of_resource l.0 < 2 ^ 32 = has.small b l.0 l.1 in
    let within : offset / 4 + bytes / 4 ≤ words_of_resource l.0 = omega (arith, range.within, l.2) in
    record {
      live = (l.0, l.1);
      there = slice_get_within w.resources b (Some l.0) (lives_at w b l.0 l.1);
      inside = record { buffer_is = has.has b l.0 l.1; range_is = omega (arith, within, long) };
      first = omega (arith, within, small);
      count = omega (arith, within, small);
    }

-- a buffer that is written lives
pub write_lives : (w : World) (b offset n : ℕ) → write_refusal w b offset n ≡ None → (r : Resource) × (resource_of w b ≡ Some r)
write_lives w b offset n good =
    let home : is_upload w b ≡ true = (and_both (is_upload w b) (is_inside (words_in w b) offset (4 * n)) (not_refused (is_upload w b && is_inside (words_in w b) offset (4 * n)) good)).0 in
    let l : (r : Resource) × (resource_of w b ≡ Some r) × (words_in w b ≡ words_of_resource r) = lives is_upload_home w b home in (l.0, l.1)

pub write_is : (w : World) (m : Machine) (b offset n : ℕ) → HasBuffers w m → write_refusal w b offset n ≡ None → IsAccess w m b offset (4 * n)
write_is w m b offset n has good =
    let both : (is_upload w b ≡ true) × (is_inside (words_in w b) offset (4 * n) ≡ true) =
    and_both (is_upload w b) (is_inside (words_in w b) offset (4 * n)) (not_refused (is_upload w b && is_inside (words_in w b) offset (4 * n)) good) in
    access_is is_upload_home w m b offset (4 * n) has both.0 both.1

pub write_inside : (w : World) (m : Machine) (b offset n : ℕ) → HasBuffers w m → write_refusal w b offset n ≡ None → IsInside m (plan_number w b) (offset / 4) n
write_inside w m b offset n has good =
    let count : 4 * n / 4 ≡ n = omega arith in
    let is : IsInside m (plan_number w b) (offset / 4) (4 * n / 4) = (write_is w m b offset n has good).inside in
    record { buffer_is = is.buffer_is; range_is = omega (arith, is.range_is, count) }

pub write_small : (w : World) (m : Machine) (b offset n : ℕ) → HasBuffers w m → write_refusal w b offset n ≡ None → offset / 4 < 2 ^ 32
write_small w m b offset n has good = (write_is w m b offset n has good).first

-- a buffer that is written is one of the world
pub write_there : (w : World) (m : Machine) (b offset n : ℕ) → HasBuffers w m → write_refusal w b offset n ≡ None → b < length w.resources
write_there w m b offset n has good = (write_is w m b offset n has good).there

-- a buffer that is read lives
pub read_lives : (w : World) (b offset bytes : ℕ) → read_refusal w b offset bytes ≡ None → (r : Resource) × (resource_of w b ≡ Some r)
read_lives w b offset bytes good =
    let home : is_readback w b ≡ true = (and_both (is_readback w b) (not (bytes == 0) && is_inside (words_in w b) offset bytes)
    (not_refused (is_readback w b && (not (bytes == 0) && is_inside (words_in w b) offset bytes)) good)).0 in
    let l : (r : Resource) × (resource_of w b ≡ Some r) × (words_in w b ≡ words_of_resource r) = lives is_readback_home w b home in (l.0, l.1)

pub read_is : (w : World) (m : Machine) (b offset bytes : ℕ) → HasBuffers w m → read_refusal w b offset bytes ≡ None → IsAccess w m b offset bytes
read_is w m b offset bytes has good =
    let both : (is_readback w b ≡ true) × ((not (bytes == 0) && is_inside (words_in w b) offset bytes) ≡ true) =
    and_both (is_readback w b) (not (bytes == 0) && is_inside (words_in w b) offset bytes)
    (not_refused (is_readback w b && (not (bytes == 0) && is_inside (words_in w b) offset bytes)) good) in
    access_is is_readback_home w m b offset bytes has both.0 (and_both (not (bytes == 0)) (is_inside (words_in w b) offset bytes) both.1).1

pub read_inside : (w : World) (m : Machine) (b offset bytes : ℕ) → HasBuffers w m → read_refusal w b offset bytes ≡ None → IsInside m (plan_number w b) (offset / 4) (bytes / 4)
read_inside w m b offset bytes has good = (read_is w m b offset bytes has good).inside

pub read_small : (w : World) (m : Machine) (b offset bytes : ℕ) → HasBuffers w m → read_refusal w b offset bytes ≡ None → offset / 4 < 2 ^ 32
read_small w m b offset bytes has good = (read_is w m b offset bytes has good).first

pub read_count_small : (w : World) (m : Machine) (b offset bytes : ℕ) → HasBuffers w m → read_refusal w b offset bytes ≡ None → bytes / 4 < 2 ^ 32
read_count_small w m b offset bytes has good = (read_is w m b offset bytes has good).count

-- a buffer that is read is one of the world
pub read_there : (w : World) (m : Machine) (b offset bytes : ℕ) → HasBuffers w m → read_refusal w b offset bytes ≡ None → b < length w.resources
read_there w m b offset bytes has good = (read_is w m b offset bytes has good).there
