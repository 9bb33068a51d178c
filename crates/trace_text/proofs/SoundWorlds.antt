-- The world of a sound value.
use Rattle.trace_text.proofs.Vocabulary.{ℕ, ◌≡◌, ◌≤◌, ◌/◌, Bool, true, false, List, [], ◌∷◌, ◌++◌, length, flat_map, Some, None, refl, arith, append_assoc, append-nil, length-append, cond_both, if◌then◌else◌, list_all, and_from, le-leb, nat_tests, sum_by, sum_by-append, sum_by-cons, World, is_small_resource, IsWorld, Declared, Queue, Fence, Buffer, Allocator, list, Kind, kind_of, count_of, is_refused_size, words_of_object, words_of_all, IsSound, same_kind, Value, queue_in, fence_in, resource_in, allocator_in, list_in, with_object, objects_from, no_objects, objects_of, world_of_value}
use Rattle.dx_base.specs.declared.kinds.Home.{Home}
use Rattle.d3d_machine.specs.declared.world.Resource.TheVariants.{Buffer as buffer}
use Rattle.line_forms.specs.declared.kind.Kind.TheVariants as kind
use Rattle.d3d_machine.specs.World.{HasOneQueueAtMost, words_of_option, words_of_resources}

-- a world has as many things of a kind as there are objects of the kind
counted : {A : Type 0} (k : Kind) (f : Declared → List A) → ((d : Declared) → length (f d) ≡ (if same_kind k (kind_of d) then 1 else 0)) →
    (ds : List Declared) → length (flat_map f ds) ≡ count_of k ds
counted k f each [] = refl
counted k f each (d ∷ ds) =
    omega (arith, length-append (f d) (flat_map f ds), sum_by-cons (λ (x : Declared). if same_kind k (kind_of x) then 1 else 0) d ds, each d, counted k f each ds)

-- each object makes a thing of its own kind
each_queue : (d : Declared) → length (queue_in d) ≡ (if same_kind kind.Queue (kind_of d) then 1 else 0)
each_queue (Queue t) = refl
each_queue _ = refl

each_fence : (d : Declared) → length (fence_in d) ≡ (if same_kind kind.Fence (kind_of d) then 1 else 0)
each_fence (Queue t) = refl
each_fence _ = refl

each_resource : (d : Declared) → length (resource_in d) ≡ (if same_kind kind.Resource (kind_of d) then 1 else 0)
each_resource (Queue t) = refl
each_resource _ = refl

each_allocator : (d : Declared) → length (allocator_in d) ≡ (if same_kind kind.Allocator (kind_of d) then 1 else 0)
each_allocator (Queue t) = refl
each_allocator _ = refl

each_list : (d : Declared) → length (list_in d) ≡ (if same_kind kind.List (kind_of d) then 1 else 0)
each_list (Queue t) = refl
each_list _ = refl

-- the objects of a world are those that the declarations make, one behind the other
from_objects : (w : World) (ds : List Declared) → objects_from w ds ≡ record w {
  queues = w.queues ++ flat_map queue_in ds;
  fences = w.fences ++ flat_map fence_in ds;
  resources = w.resources ++ flat_map resource_in ds;
  allocators = w.allocators ++ flat_map allocator_in ds;
  lists = w.lists ++ flat_map list_in ds;
}
unfolding objects_from
from_objects w [] = simp append-nil
from_objects w (d ∷ ds) = rw (from_objects (with_object w d) ds) (simp append_assoc)

-- how many things of each kind a world has
pub queues_are : (ds : List Declared) → length (objects_of ds).queues ≡ count_of kind.Queue ds
queues_are ds = rw (from_objects no_objects ds) (counted kind.Queue queue_in each_queue ds)

pub fences_are : (ds : List Declared) → length (objects_of ds).fences ≡ count_of kind.Fence ds
fences_are ds = rw (from_objects no_objects ds) (counted kind.Fence fence_in each_fence ds)

pub resources_are : (ds : List Declared) → length (objects_of ds).resources ≡ count_of kind.Resource ds
resources_are ds = rw (from_objects no_objects ds) (counted kind.Resource resource_in each_resource ds)

pub allocators_are : (ds : List Declared) → length (objects_of ds).allocators ≡ count_of kind.Allocator ds
allocators_are ds = rw (from_objects no_objects ds) (counted kind.Allocator allocator_in each_allocator ds)

pub lists_are : (ds : List Declared) → length (objects_of ds).lists ≡ count_of kind.List ds
lists_are ds = rw (from_objects no_objects ds) (counted kind.List list_in each_list ds)

-- a buffer that is created is small
small_buffer : (h : Home) (n : ℕ) → is_small_resource (if is_refused_size n then None else Some (buffer h (n / 4))) ≡ true
small_buffer h n =
    cond_both (is_refused_size n) None (Some (buffer h (n / 4))) (λ o. is_small_resource o ≡ true) (λ is. refl)
    (λ is. let few : n ≤ 1048576 = grind (arith, nat_tests) in le-leb (n / 4) 262144 (omega (arith, few)))

-- all buffers are small
small_objects : (ds : List Declared) → list_all is_small_resource (flat_map resource_in ds) ≡ true
small_objects [] = refl
small_objects (Buffer h n ∷ ds) =
    and_from (is_small_resource (if is_refused_size n then None else Some (buffer h (n / 4)))) (list_all is_small_resource (flat_map resource_in ds))
    (small_buffer h n) (small_objects ds)
small_objects (d ∷ ds) = small_objects ds

-- all resources of a world are small
all_small : (ds : List Declared) → list_all is_small_resource (objects_of ds).resources ≡ true
all_small ds = rw (from_objects no_objects ds) (small_objects ds)

-- a resource has the words of its object
words_in_object : (d : Declared) → sum_by words_of_option (resource_in d) ≡ words_of_object d
words_in_object (Buffer h n) = by_test (is_refused_size n)
  where
    by_test : (t : Bool) → sum_by words_of_option ((if t then None else Some (buffer h (n / 4))) ∷ []) ≡ (if t then 0 else n / 4)
    by_test true = omega (arith, sum_by-cons words_of_option None [])
    by_test false = omega (arith, sum_by-cons words_of_option (Some (buffer h (n / 4))) [])
words_in_object _ = refl

words_in_objects : (ds : List Declared) → words_of_resources (flat_map resource_in ds) ≡ words_of_all ds
words_in_objects [] = refl
words_in_objects (d ∷ ds) =
    omega (
      arith,
      sum_by-append words_of_option (resource_in d) (flat_map resource_in ds),
      sum_by-cons words_of_object d ds,
      words_in_object d,
      words_in_objects ds,
    )

-- all resources of a world have as many words as its objects
words_are : (ds : List Declared) → words_of_resources (objects_of ds).resources ≡ words_of_all ds
words_are ds = rw (from_objects no_objects ds) (words_in_objects ds)

-- the world of a sound value is valid
pub sound_world : (v : Value) → IsSound v → IsWorld (world_of_value v)
sound_world v sound = record {
  named = sound.named;
  queues = omega (arith, queues_are v.declared, sound.few_objects kind.Queue);
  fences = omega (arith, fences_are v.declared, sound.few_objects kind.Fence);
  resources = omega (arith, resources_are v.declared, sound.few_objects kind.Resource);
  allocators = omega (arith, allocators_are v.declared, sound.few_objects kind.Allocator);
  lists = omega (arith, lists_are v.declared, sound.few_objects kind.List);
  threads = omega (arith, sound.few_threads);
  sizes = all_small v.declared;
  words = omega (arith, words_are v.declared, sound.few_words);
  calls = sound.few_calls;
  executed = sound.few_lists;
}

-- and has one queue at most
pub few_queues_of : (v : Value) → IsSound v → HasOneQueueAtMost (world_of_value v)
few_queues_of v sound = record { few_queues = omega (arith, queues_are v.declared, sound.few_queues) }
