-- Batches of good operations name objects of the device, and their numbers are small.
use Rattle.std.proofs.Common.{ℕ, ◌≡◌, ◌<◌, ◌≤◌, ◌+◌, ◌*◌, ◌/◌, ◌^◌, ap, refl, arith, List, [], ◌∷◌, length, Some, None, Option, Bool, true, false}
use Rattle.std.proofs.lemmas.Bool.{leb-true, lt-ltb}
use Rattle.std.proofs.lemmas.Option.{slice_get_within}
use Rattle.std.specs.List.{list_all}
use Rattle.std.specs.Option.{is_some}
use Rattle.std.specs.Prelude.{◌&&◌, ◌==◌, not, nat_lt, nat_le, if◌then◌else◌}
use Rattle.dx_base.proofs.Lists.{and_both, and_of, all_append}
use Rattle.d3d_machine.specs.declared.world.World.{World}
use Rattle.d3d_machine.specs.declared.world.Resource.{Resource}
use Rattle.d3d_machine.specs.declared.world.Resource.TheVariants.{Buffer}
use Rattle.d3d_machine.specs.declared.calls.Record.{Record}
use Rattle.d3d_machine.specs.declared.calls.Record.TheVariants.{Copy}
use Rattle.d3d_machine.specs.declared.events.Command.{Command}
use Rattle.d3d_machine.specs.declared.events.Operation.{Operation}
use Rattle.d3d_machine.specs.declared.events.Operation.TheVariants.{Execute, Signal}
use Rattle.d3d_machine.specs.World.{IsWorld, resource_of, words_of_resource, words_in, is_small_resource, is_whole, is_inside, overlaps, is_named_record}
use Rattle.d3d_machine.specs.Replies.{is_copy}
use Rattle.d3d_machine.specs.Good.{is_good_record, is_good_command, is_good_operation}
use Rattle.d3d_machine.proofs.Named.{all_at}
use Rattle.vk_port.specs.Journal.{command_fits, pairs_fit, fits_plan}
use Rattle.sys_core.specs.Lowering.{plan_buffers, plan_number, plan_of_world, own_wait, lower_record, lower_commands, lowered_commands, trailing}
use Rattle.sys_core.specs.Batches.{batch_by, waits_by, is_small_record, is_numbered_record, is_numbered_operation}
use Rattle.sys_core.proofs.Spread.{lives_at, number_within}

few_words : (w : World) (b : ℕ) → IsWorld w → words_in w b ≤ 262144
few_words w b world = by_resource (resource_of w b) refl
  where
    size : Option Resource → ℕ
    size o = elim o [ None ↦ 0 | Some r ↦ words_of_resource r ]

    small : (r : Resource) → is_small_resource (Some r) ≡ true → words_of_resource r ≤ 262144
    small (Buffer h n) is = leb-true n 262144 is

    by_resource : (o : Option Resource) → resource_of w b ≡ o → words_in w b ≤ 262144
    by_resource None is = let e : words_in w b ≡ 0 = ap (λ (o : Option Resource). elim o [ None ↦ 0 | Some r ↦ words_of_resource r ]) is in omega (arith, e)
    by_resource (Some r) is =
        let e : words_in w b ≡ words_of_resource r = ap (λ (o : Option Resource). elim o [ None ↦ 0 | Some x ↦ words_of_resource x ]) is in
        omega (arith, e, small r (all_at is_small_resource w.resources b (Some r) world.sizes (lives_at w b r is)))

-- the parts of a good copy
pub record IsGoodCopy (w : World) (d doff s soff bytes : ℕ) : Type 0 where
  pub to_lives : is_some (resource_of w d) ≡ true
  pub from_lives : is_some (resource_of w s) ≡ true
  pub to_end : doff + bytes ≤ 4 * words_in w d
  pub from_end : soff + bytes ≤ 4 * words_in w s

ends_inside : (words offset bytes : ℕ) → is_inside words offset bytes ≡ true → offset + bytes ≤ 4 * words
ends_inside words offset bytes h =
    leb-true (offset + bytes) (4 * words)
    (and_both (is_whole bytes) (nat_le (offset + bytes) (4 * words)) (and_both (is_whole offset) (is_whole bytes && nat_le (offset + bytes) (4 * words)) h).1).1

pub good_copy : (w : World) (d doff s soff bytes : ℕ) → is_copy w d doff s soff bytes ≡ true → IsGoodCopy w d doff s soff bytes
good_copy w d doff s soff bytes good =
    let apart : Bool = not ((d == s) && overlaps doff soff bytes) in
    let from : Bool = is_inside (words_in w s) soff bytes in
    let to : Bool = is_inside (words_in w d) doff bytes in
    let some : Bool = not (bytes == 0) in
    let a : (is_some (resource_of w d) ≡ true) × ((is_some (resource_of w s) && (some && (to && (from && apart)))) ≡ true) =
    and_both (is_some (resource_of w d)) (is_some (resource_of w s) && (some && (to && (from && apart)))) good in
    let b : (is_some (resource_of w s) ≡ true) × ((some && (to && (from && apart))) ≡ true) = and_both (is_some (resource_of w s)) (some && (to && (from && apart))) a.1 in
    let c : (some ≡ true) × ((to && (from && apart)) ≡ true) = and_both some (to && (from && apart)) b.1 in
    let e : (to ≡ true) × ((from && apart) ≡ true) = and_both to (from && apart) c.1 in
    record {
      to_lives = a.0;
      from_lives = b.0;
      to_end = ends_inside (words_in w d) doff bytes e.0;
      from_end = ends_inside (words_in w s) soff bytes (and_both from apart e.1).0;
    }

small_record : (w : World) (r : Record) → IsWorld w → is_good_record w r ≡ true → is_small_record r ≡ true
small_record w (Copy d doff s soff bytes) world good =
    let is : IsGoodCopy w d.0 doff s.0 soff bytes = good_copy w d.0 doff s.0 soff bytes good in
    let to : words_in w d.0 ≤ 262144 = few_words w d.0 world in
    let from : words_in w s.0 ≤ 262144 = few_words w s.0 world in
    and_of (nat_lt (doff / 4) (2 ^ 32)) (nat_lt (soff / 4) (2 ^ 32) && nat_lt (bytes / 4) (2 ^ 32)) (lt-ltb (doff / 4) (2 ^ 32) (omega (arith, is.to_end, to)))
    (and_of (nat_lt (soff / 4) (2 ^ 32)) (nat_lt (bytes / 4) (2 ^ 32)) (lt-ltb (soff / 4) (2 ^ 32) (omega (arith, is.from_end, from)))
    (lt-ltb (bytes / 4) (2 ^ 32) (omega (arith, is.to_end, to))))

-- a live resource is one of the world, and its number is one of the plan
lives_within : (w : World) (b : ℕ) → is_some (resource_of w b) ≡ true →
    (nat_lt b (length w.resources) ≡ true) × (nat_lt (plan_number w b) (length (plan_buffers w.resources)) ≡ true)
lives_within w b lives = by_resource (resource_of w b) refl lives
  where
    by_resource : (o : Option Resource) → resource_of w b ≡ o → is_some o ≡ true →
        (nat_lt b (length w.resources) ≡ true) × (nat_lt (plan_number w b) (length (plan_buffers w.resources)) ≡ true)
    by_resource None is h = absurd (cc)
    by_resource (Some r) is h = (
      lt-ltb b (length w.resources) (slice_get_within w.resources b (Some r) (lives_at w b r is)),
      lt-ltb (plan_number w b) (length (plan_buffers w.resources)) (number_within w.resources b r (lives_at w b r is)),
    )

named_record : (w : World) (r : Record) → is_good_record w r ≡ true → is_named_record w r ≡ true
named_record w (Copy d doff s soff bytes) good =
    let is : IsGoodCopy w d.0 doff s.0 soff bytes = good_copy w d.0 doff s.0 soff bytes good in
    and_of (nat_lt d.0 (length w.resources)) (nat_lt s.0 (length w.resources)) (lives_within w d.0 is.to_lives).0 (lives_within w s.0 is.from_lives).0

numbered_commands : (w : World) (cs : List Command) → IsWorld w → list_all (is_good_command w) cs ≡ true → list_all (λ c. is_numbered_record w c.what) cs ≡ true
numbered_commands w [] world good = refl
numbered_commands w (c ∷ cs) world good =
    let both : (is_good_command w c ≡ true) × (list_all (is_good_command w) cs ≡ true) = and_both (is_good_command w c) (list_all (is_good_command w) cs) good in
    and_of (is_numbered_record w c.what) (list_all (λ x. is_numbered_record w x.what) cs)
    (and_of (is_named_record w c.what) (is_small_record c.what) (named_record w c.what both.0) (small_record w c.what world both.0))
    (numbered_commands w cs world both.1)

-- a good operation has its numbers
pub numbered_operation : (w : World) (o : Operation) → IsWorld w → is_good_operation w o ≡ true → is_numbered_operation w o ≡ true
numbered_operation w (Execute cs) world good = numbered_commands w cs world good
numbered_operation w (Signal f v) world good = refl

record_fits : (w : World) (r : Record) → is_good_record w r ≡ true → command_fits (plan_of_world w) (lower_record w r) ≡ true
record_fits w (Copy d doff s soff bytes) good =
    let is : IsGoodCopy w d.0 doff s.0 soff bytes = good_copy w d.0 doff s.0 soff bytes good in
    and_of (nat_lt (plan_number w d.0) (length (plan_buffers w.resources))) (nat_lt (plan_number w s.0) (length (plan_buffers w.resources)))
    (lives_within w d.0 is.to_lives).1 (lives_within w s.0 is.from_lives).1

commands_fit : (w : World) (cs : List Command) → list_all (is_good_command w) cs ≡ true → list_all (command_fits (plan_of_world w)) (lower_commands w cs) ≡ true
commands_fit w [] good = refl
commands_fit w (c ∷ cs) good =
    let both : (is_good_command w c ≡ true) × (list_all (is_good_command w) cs ≡ true) = and_both (is_good_command w c) (list_all (is_good_command w) cs) good in
    and_of (command_fits (plan_of_world w) (lower_record w c.what)) (list_all (command_fits (plan_of_world w)) (lower_commands w cs)) (record_fits w c.what both.0) (commands_fit w cs both.1)

operation_fits : (w : World) (o : Operation) → is_good_operation w o ≡ true → list_all (command_fits (plan_of_world w)) (lowered_commands w o) ≡ true
operation_fits w (Execute cs) good = all_append (command_fits (plan_of_world w)) (lower_commands w cs) (trailing ∷ []) (commands_fit w cs good) refl
operation_fits w (Signal f v) good = refl

timeline_fits : (w : World) (q : ℕ) → q ≤ length w.queues → nat_lt q (length w.queues + 1) ≡ true
timeline_fits w q within = lt-ltb q (length w.queues + 1) (omega arith)

own_fits : (w : World) (q n : ℕ) → q < length w.queues → pairs_fit (plan_of_world w) (own_wait q n) ≡ true
own_fits w q n within = by_test (n == 0)
  where
    by_test : (b : Bool) → pairs_fit (plan_of_world w) (if b then [] else (q, n) ∷ []) ≡ true
    by_test true = refl
    by_test false = and_of (nat_lt q (length w.queues + 1)) true (timeline_fits w q (omega arith)) refl

waits_fit : (w : World) (q last : ℕ) (o : Operation) → q < length w.queues → pairs_fit (plan_of_world w) (waits_by (length w.queues) q last o) ≡ true
waits_fit w q last (Execute cs) within =
    and_of (nat_lt (length w.queues) (length w.queues + 1)) (pairs_fit (plan_of_world w) (own_wait q last)) (timeline_fits w (length w.queues) (omega arith)) (own_fits w q last within)
waits_fit w q last (Signal f v) within = refl

-- the batch of a good operation names objects of the device
pub batch_fits : (w : World) (q n last : ℕ) (o : Operation) → q < length w.queues → is_good_operation w o ≡ true →
    fits_plan (plan_of_world w) (batch_by w q n last o) ≡ true
batch_fits w q n last o within good =
    let waits : Bool = pairs_fit (plan_of_world w) (waits_by (length w.queues) q last o) in
    let sets : Bool = pairs_fit (plan_of_world w) ((q, n) ∷ []) in
    let commands : Bool = list_all (command_fits (plan_of_world w)) (lowered_commands w o) in
    and_of (nat_lt q (length w.queues)) (waits && (sets && commands)) (lt-ltb q (length w.queues) within)
    (and_of waits (sets && commands) (waits_fit w q last o within)
    (and_of sets commands (and_of (nat_lt q (length w.queues + 1)) true (timeline_fits w q (omega arith)) refl) (operation_fits w o good)))
