-- Words of the device's buffers are the memory's, but for the dead resources, which have none.
use Rattle.std.proofs.Common.{ℕ, zero, suc, ◌≡◌, ◌<◌, ◌∙◌, sym, ap, refl, arith, List, [], ◌∷◌, length, map, Some, None, Option}
use Rattle.std.proofs.lemmas.List.{length-map}
use Rattle.std.specs.List.{slice_get, slice_index_or}
use Rattle.dx_base.specs.Lists.{changed_at}
use Rattle.d3d_machine.specs.declared.world.World.{World}
use Rattle.d3d_machine.specs.declared.world.Resource.{Resource}
use Rattle.d3d_machine.specs.declared.world.Resource.TheVariants.{Buffer}
use Rattle.d3d_machine.specs.World.{resource_of, words_of_resource}
use Rattle.d3d_machine.specs.State.{words_at}
use Rattle.sys_core.specs.Lowering.{plan_buffers, number_in, plan_number}
use Rattle.sys_core.specs.Machine.{words_count}
use Rattle.sys_core.specs.Memory.{spread, memory_of}

-- how many words a resource has; none where it is dead
abbrev pub resource_words : Option Resource → ℕ
resource_words None = 0
resource_words (Some r) = words_of_resource r

spread_sizes : (rs : List (Option Resource)) (ws : List (List ℕ)) → map length ws ≡ map words_count (plan_buffers rs) → map length (spread rs ws) ≡ map resource_words rs
spread_sizes [] ws sizes = refl
spread_sizes (None ∷ rs) ws sizes = ap (λ ns. 0 ∷ ns) (spread_sizes rs ws sizes)
spread_sizes (Some (Buffer h n) ∷ rs) [] sizes = absurd (cc)
spread_sizes (Some (Buffer h n) ∷ rs) (x ∷ ws) sizes =
    let first : length x ≡ n = grind arith in
    let rest : map length ws ≡ map words_count (plan_buffers rs) = grind arith in
    ap (λ k. k ∷ map length (spread rs ws)) first ∙ ap (λ ns. n ∷ ns) (spread_sizes rs ws rest)

spread_changed : (f : List ℕ → List ℕ) (rs : List (Option Resource)) (b : ℕ) (r : Resource) (ws : List (List ℕ)) → length ws ≡ length (plan_buffers rs) →
    slice_get rs b ≡ Some (Some r) → spread rs (changed_at f (number_in rs b) ws) ≡ changed_at f b (spread rs ws)
spread_changed f [] b r ws long is = absurd (cc)
spread_changed f (None ∷ rs) zero r ws long is = absurd (cc)
spread_changed f (Some (Buffer h n) ∷ rs) zero r [] long is = absurd (omega (arith, long))
spread_changed f (Some (Buffer h n) ∷ rs) zero r (x ∷ ws) long is = refl
spread_changed f (None ∷ rs) (suc b) r ws long is = ap (λ ys. [] ∷ ys) (spread_changed f rs b r ws long is)
spread_changed f (Some (Buffer h n) ∷ rs) (suc b) r [] long is = absurd (omega (arith, long))
spread_changed f (Some (Buffer h n) ∷ rs) (suc b) r (x ∷ ws) long is = ap (λ ys. x ∷ ys) (spread_changed f rs b r ws (omega (arith, long)) is)

none_there : (k : ℕ) → let none : List (List ℕ) = [] in (slice_index_or none k [] ≡ [])
none_there zero = refl
none_there (suc k) = refl

spread_read : (rs : List (Option Resource)) (b : ℕ) (r : Resource) (ws : List (List ℕ)) → slice_get rs b ≡ Some (Some r) →
    words_at (spread rs ws) b ≡ slice_index_or ws (number_in rs b) []
spread_read [] b r ws is = absurd (cc)
spread_read (None ∷ rs) zero r ws is = absurd (cc)
spread_read (Some (Buffer h n) ∷ rs) zero r [] is = refl
spread_read (Some (Buffer h n) ∷ rs) zero r (x ∷ ws) is = refl
spread_read (None ∷ rs) (suc b) r ws is = spread_read rs b r ws is
spread_read (Some (Buffer h n) ∷ rs) (suc b) r [] is = spread_read rs b r [] is ∙ none_there (number_in rs b) ∙ sym (none_there (suc (number_in rs b)))
spread_read (Some (Buffer h n) ∷ rs) (suc b) r (x ∷ ws) is = spread_read rs b r ws is

-- a live resource has a number below their count
pub number_within : (rs : List (Option Resource)) (b : ℕ) (r : Resource) → slice_get rs b ≡ Some (Some r) → number_in rs b < length (plan_buffers rs)
number_within [] b r is = absurd (cc)
number_within (None ∷ rs) zero r is = absurd (cc)
number_within (Some (Buffer h n) ∷ rs) zero r is = omega arith
number_within (None ∷ rs) (suc b) r is = number_within rs b r is
number_within (Some (Buffer h n) ∷ rs) (suc b) r is = omega (arith, number_within rs b r is)

-- the buffer at its number has its size
pub number_size : (rs : List (Option Resource)) (b : ℕ) (r : Resource) → slice_get rs b ≡ Some (Some r) →
    slice_get (map words_count (plan_buffers rs)) (number_in rs b) ≡ Some (words_of_resource r)
number_size [] b r is = absurd (cc)
number_size (None ∷ rs) zero r is = absurd (cc)
number_size (Some (Buffer h n) ∷ rs) zero r is = let same : Buffer h n ≡ r = grind arith in ap (λ x. Some (words_of_resource x)) same
number_size (None ∷ rs) (suc b) r is = number_size rs b r is
number_size (Some (Buffer h n) ∷ rs) (suc b) r is = number_size rs b r is

pub lives_at : (w : World) (b : ℕ) (r : Resource) → resource_of w b ≡ Some r → slice_get w.resources b ≡ Some (Some r)
lives_at w b r is = by_place (slice_get w.resources b) refl
  where
    by_place : (o : Option (Option Resource)) → slice_get w.resources b ≡ o → slice_get w.resources b ≡ Some (Some r)
    by_place None at = absurd (let e : None ≡ Some r = sym (ap (λ (o : Option (Option Resource)). elim o [ None ↦ None | Some x ↦ x ]) at) ∙ is in cc)
    by_place (Some x) at =
        let e : x ≡ Some r = sym (ap (λ (o : Option (Option Resource)). elim o [ None ↦ None | Some y ↦ y ]) at) ∙ is in
        at ∙ ap (λ y. Some y) e

-- words of the buffers are as many as resources live
pub as_many : (w : World) (words : List (List ℕ)) → map length words ≡ map words_count (plan_buffers w.resources) → length words ≡ length (plan_buffers w.resources)
as_many w words sizes = sym (length-map words length) ∙ ap length sizes ∙ length-map (plan_buffers w.resources) words_count

-- the sizes of the memory
pub memory_sizes_of : (w : World) (words : List (List ℕ)) → map length words ≡ map words_count (plan_buffers w.resources) → map length (memory_of w words) ≡ map resource_words w.resources
memory_sizes_of w words sizes = spread_sizes w.resources words sizes

-- a live buffer changes on the device as in the memory
pub memory_changed : (w : World) (f : List ℕ → List ℕ) (b : ℕ) (r : Resource) (ws : List (List ℕ)) → length ws ≡ length (plan_buffers w.resources) →
    resource_of w b ≡ Some r → memory_of w (changed_at f (plan_number w b) ws) ≡ changed_at f b (memory_of w ws)
memory_changed w f b r ws long is = spread_changed f w.resources b r ws long (lives_at w b r is)

-- a live buffer has on the device the words that it has in the memory
pub memory_read : (w : World) (b : ℕ) (r : Resource) (ws : List (List ℕ)) → resource_of w b ≡ Some r →
    words_at (memory_of w ws) b ≡ slice_index_or ws (plan_number w b) []
memory_read w b r ws is = spread_read w.resources b r ws (lives_at w b r is)
