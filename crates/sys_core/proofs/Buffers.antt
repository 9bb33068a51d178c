-- The device has each live buffer with its words, and so has memory.
use Rattle.std.proofs.Common.{ℕ, ◌≡◌, ◌<◌, ◌^◌, ◌∙◌, sym, ap, refl, arith, List, [], ◌∷◌, length, map, Some, None, Option, true}
use Rattle.std.proofs.lemmas.Bool.{leb-true}
use Rattle.std.proofs.lemmas.List.{length-map, length-replicate}
use Rattle.std.proofs.lemmas.Option.{slice_get-map, slice_get_within, get_or_from_slice_get}
use Rattle.std.specs.List.{slice_get}
use Rattle.std.specs.Option.{option_map}
use Rattle.d3d_machine.specs.declared.world.World.{World}
use Rattle.d3d_machine.specs.declared.world.Resource.{Resource}
use Rattle.d3d_machine.specs.declared.world.Resource.TheVariants.{Buffer}
use Rattle.d3d_machine.specs.World.{IsWorld, resource_of, words_of_resource, is_small_resource}
use Rattle.d3d_machine.specs.State.{zeros, words_at}
use Rattle.d3d_machine.specs.declared.events.Event.{Event}
use Rattle.d3d_machine.specs.Play.{state_after}
use Rattle.d3d_machine.proofs.Named.{all_at}
use Rattle.d3d_machine.proofs.Sizes.{memory_sizes}
use Rattle.vk_types.specs.declared.plan.PlanBuffer.{PlanBuffer}
use Rattle.vk_sync_rules.specs.Sizes.{words_of_buffer}
use Rattle.vk_sync_rules.specs.VkState.{VkState as Machine}
use Rattle.sys_core.specs.Lowering.{plan_buffers, plan_number}
use Rattle.sys_core.specs.Machine.{words_count, HasBuffers}
use Rattle.sys_core.proofs.Spread.{resource_words, lives_at, number_size}

zeroed : (rs : List (Option Resource)) → map length (map zeros rs) ≡ map resource_words rs
zeroed [] = refl
zeroed (None ∷ rs) = ap (λ ns. 0 ∷ ns) (zeroed rs)
zeroed (Some r ∷ rs) = ap (λ n. n ∷ map length (map zeros rs)) (length-replicate (words_of_resource r) 0) ∙ ap (λ ns. words_of_resource r ∷ ns) (zeroed rs)

-- a list of a known length at a place
long_at : {A : Type 0} (xs : List (List A)) (b n : ℕ) → slice_get (map length xs) b ≡ Some n → (ys : List A) × (slice_get xs b ≡ Some ys) × (length ys ≡ n)
long_at {A} xs b n is = by_place (slice_get xs b) refl
  where
    by_place : (o : Option (List A)) → slice_get xs b ≡ o → (ys : List A) × (slice_get xs b ≡ Some ys) × (length ys ≡ n)
    by_place None at = absurd (let e : None ≡ Some n = sym (ap (option_map length) at) ∙ sym (slice_get-map length xs b) ∙ is in cc)
    by_place (Some ys) at =
        let e : Some (length ys) ≡ Some n = sym (ap (option_map length) at) ∙ sym (slice_get-map length xs b) ∙ is in
        (ys, at, grind arith)

-- the words of a live resource in memory
pub memory_long : (w : World) (h : List Event) (b : ℕ) (r : Resource) → resource_of w b ≡ Some r → length (words_at (state_after w h).memory b) ≡ words_of_resource r
memory_long w h b r is =
    let sizes : map length (state_after w h).memory ≡ map resource_words w.resources = memory_sizes w h ∙ zeroed w.resources in
    let found : (ys : List ℕ) × (slice_get (state_after w h).memory b ≡ Some ys) × (length ys ≡ words_of_resource r) =
    long_at (state_after w h).memory b (words_of_resource r)
    (ap (λ ns. slice_get ns b) sizes ∙ slice_get-map resource_words w.resources b ∙ ap (option_map resource_words) (lives_at w b r is)) in
    ap length (get_or_from_slice_get (state_after w h).memory b found.0 [] found.1) ∙ found.2

buffer_at : (w : World) (m : Machine) (b : ℕ) (r : Resource) → map length m.numbers.buffers ≡ map words_count (plan_buffers w.resources) → resource_of w b ≡ Some r →
    (ys : List (Option ℕ)) × (slice_get m.numbers.buffers (plan_number w b) ≡ Some ys) × (length ys ≡ words_of_resource r)
buffer_at w m b r sizes is =
    long_at m.numbers.buffers (plan_number w b) (words_of_resource r)
    (ap (λ ns. slice_get ns (plan_number w b)) sizes ∙ number_size w.resources b r (lives_at w b r is))

small_resource : (r : Resource) → is_small_resource (Some r) ≡ true → words_of_resource r < 2 ^ 32
small_resource (Buffer h n) is = omega (arith, leb-true n 262144 is)

-- the machine of a world has its buffers
pub has_buffers : (w : World) (m : Machine) → IsWorld w → map length m.numbers.buffers ≡ map words_count (plan_buffers w.resources) → HasBuffers w m
has_buffers w m world sizes = record {
  count = sym (length-map m.numbers.buffers length) ∙ ap length sizes ∙ length-map (plan_buffers w.resources) words_count;
  has = λ b r is. let found : (ys : List (Option ℕ)) × (slice_get m.numbers.buffers (plan_number w b) ≡ Some ys) × (length ys ≡ words_of_resource r) = buffer_at w m b r sizes is in
      slice_get_within m.numbers.buffers (plan_number w b) found.0 found.1;
  long = λ b r is. let found : (ys : List (Option ℕ)) × (slice_get m.numbers.buffers (plan_number w b) ≡ Some ys) × (length ys ≡ words_of_resource r) = buffer_at w m b r sizes is in
      ap length (get_or_from_slice_get m.numbers.buffers (plan_number w b) found.0 [] found.1) ∙ found.2;
  small = λ b r is. small_resource r (all_at is_small_resource w.resources b (Some r) world.sizes (lives_at w b r is));
}

-- the words of a live buffer by the plan
pub plan_long : (w : World) (b : ℕ) (r : Resource) → resource_of w b ≡ Some r → words_of_buffer (slice_get (plan_buffers w.resources) (plan_number w b)) ≡ words_of_resource r
plan_long w b r is = by_place (slice_get (plan_buffers w.resources) (plan_number w b)) (sym (slice_get-map words_count (plan_buffers w.resources) (plan_number w b)) ∙ number_size w.resources b r (lives_at w b r is))
  where
    by_place : (o : Option PlanBuffer) → option_map words_count o ≡ Some (words_of_resource r) → words_of_buffer o ≡ words_of_resource r
    by_place None at = absurd (cc)
    by_place (Some x) at = grind arith
