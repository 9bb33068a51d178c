-- The step of a place among those that can be taken.
use Rattle.std.proofs.Common.{ℕ, zero, suc, ◌≡◌, ◌<◌, ◌≤◌, ◌+◌, ◌-◌, ◌^◌, ◌∙◌, sym, ap, subst, refl, arith, List, [], ◌∷◌, ◌++◌, length, map, Some, None, Option, Bool, true, false, inl, inr, length-drop}
use Rattle.std.proofs.lemmas.Bool.{cases_lt, lt-ltb, le-ltb}
use Rattle.std.proofs.lemmas.Bool.Decides.{eqb_tells}
use Rattle.std.proofs.lemmas.List.{length-map, length-append}
use Rattle.std.proofs.lemmas.Option.{slice_get-map, slice_get_cases}
use Rattle.std.specs.List.{slice_get, AllByRecursion}
use Rattle.std.specs.Option.{option_map}
use Rattle.std.specs.Prelude.{◌==◌, nat_lt, not, if◌then◌else◌}
use Rattle.dx_base.specs.declared.steps.Step.{Step}
use Rattle.dx_base.specs.declared.steps.Step.TheVariants as step
use Rattle.d3d_machine.specs.declared.world.World.{World}
use Rattle.d3d_machine.specs.declared.events.Event.{Event}
use Rattle.d3d_machine.specs.declared.events.Operation.{Operation}
use Rattle.d3d_machine.specs.State.{script_of}
use Rattle.d3d_machine.specs.Operations.{operations}
use Rattle.sys_core.proofs.PastParts.{seats_many}
use Rattle.vk_port.specs.Offers.{steps_offered}
use Rattle.verdicts.specs.declared.rules.Verdict.TheVariants.{Clean}
use Rattle.vk_port.specs.DeviceView.{DeviceView}
use Rattle.vk_port.specs.Machine.{shown}
use Rattle.vk_port.specs.VkState.{VkState}
use Rattle.sys_core.specs.declared.parts.Held.{Held}
use Rattle.sys_core.specs.declared.parts.Parts.{Parts}
use Rattle.sys_core.specs.declared.parts.Seat.{Seat}
use Rattle.sys_core.specs.Parts.{queued, updates_in}
use Rattle.sys_core.specs.Steps.{is_ready_thread, is_ready_worker, submitted_of, steps_where, always, numbered, enabled_of, CanBeTaken}
use Rattle.sys_core.specs.Consistent.{IsHeld}
use Rattle.sys_core.specs.Nth.{ready_at, holds_at}
use Rattle.sys_core.specs.Keeps.{Keeps, ready_by}
use Rattle.vk_port.proofs.Enabled.{each_append, each_at, each_if}
use Rattle.sys_core.proofs.Runnable.{each_map}
use Rattle.sys_core.proofs.Keeping.{ready_is}

-- where a first number passes, its step is the first, else the steps are those of the rest
where_true : (test : ℕ → Bool) (make : ℕ → Step) (n k : ℕ) → test n ≡ true → steps_where test make n (suc k) ≡ make n ∷ steps_where test make (n + 1) k
where_true test make n k passes = ap (λ b. (if b then make n ∷ [] else []) ++ steps_where test make (n + 1) k) passes

where_false : (test : ℕ → Bool) (make : ℕ → Step) (n k : ℕ) → test n ≡ false → steps_where test make n (suc k) ≡ steps_where test make (n + 1) k
where_false test make n k fails = ap (λ b. (if b then make n ∷ [] else []) ++ steps_where test make (n + 1) k) fails

-- the steps from a number on: those of the number, then the rest
pub rest_true : (test : ℕ → Bool) (make : ℕ → Step) (n a : ℕ) → a < n → test a ≡ true →
    steps_where test make a (n - a) ≡ make a ∷ steps_where test make (a + 1) (n - (a + 1))
rest_true test make n a less passes =
    let left : n - a ≡ suc (n - (a + 1)) = omega (arith, less) in
    ap (λ k. steps_where test make a k) left ∙ where_true test make a (n - (a + 1)) passes

pub rest_false : (test : ℕ → Bool) (make : ℕ → Step) (n a : ℕ) → a < n → test a ≡ false →
    steps_where test make a (n - a) ≡ steps_where test make (a + 1) (n - (a + 1))
rest_false test make n a less fails =
    let left : n - a ≡ suc (n - (a + 1)) = omega (arith, less) in
    ap (λ k. steps_where test make a k) left ∙ where_false test make a (n - (a + 1)) fails

-- a search for the step of a place: so many places are left behind the numbers that were looked at
pub record IsSought (test : ℕ → Bool) (make : ℕ → Step) (n k a left : ℕ) : Type 0 where
  pub same : slice_get (steps_where test make 0 n) k ≡ slice_get (steps_where test make a (n - a)) left
  pub count : k + length (steps_where test make a (n - a)) ≡ length (steps_where test make 0 n) + left

pub sought_first : (test : ℕ → Bool) (make : ℕ → Step) (n k : ℕ) → IsSought test make n k 0 k
sought_first test make n k =
    let all : n - 0 ≡ n = omega arith in
    record { same = ap (λ m. slice_get (steps_where test make 0 m) k) (sym all); count = ap (λ m. k + length (steps_where test make 0 m)) all ∙ omega arith }

head_gone : (x : Step) (xs : List Step) (left : ℕ) → 0 < left → slice_get (x ∷ xs) left ≡ slice_get xs (left - 1)
head_gone x xs zero some = absurd (omega (arith, some))
head_gone x xs (suc left) some = ap (slice_get xs) (let e : left ≡ suc left - 1 = omega arith in e)

pub sought_past : (test : ℕ → Bool) (make : ℕ → Step) (n k a left : ℕ) → a < n → test a ≡ true → 0 < left → IsSought test make n k a left →
    IsSought test make n k (a + 1) (left - 1)
sought_past test make n k a left less passes some is =
    let xs : List Step = steps_where test make (a + 1) (n - (a + 1)) in
    let rest : steps_where test make a (n - a) ≡ make a ∷ xs = rest_true test make n a less passes in
    record {
      same = is.same ∙ ap (λ ys. slice_get ys left) rest ∙ head_gone (make a) xs left some;
      count = omega (arith, is.count, ap length rest, some);
    }

pub sought_on : (test : ℕ → Bool) (make : ℕ → Step) (n k a left : ℕ) → a < n → test a ≡ false → IsSought test make n k a left → IsSought test make n k (a + 1) left
sought_on test make n k a left less fails is =
    let rest : steps_where test make a (n - a) ≡ steps_where test make (a + 1) (n - (a + 1)) = rest_false test make n a less fails in
    record { same = is.same ∙ ap (λ ys. slice_get ys left) rest; count = omega (arith, is.count, ap length rest) }

pub sought_found : (test : ℕ → Bool) (make : ℕ → Step) (n k a left : ℕ) → a < n → test a ≡ true → left ≡ 0 → IsSought test make n k a left →
    slice_get (steps_where test make 0 n) k ≡ Some (make a)
sought_found test make n k a left less passes none is =
    is.same ∙ ap (λ ys. slice_get ys left) (rest_true test make n a less passes) ∙ ap (λ j. slice_get (make a ∷ steps_where test make (a + 1) (n - (a + 1))) j) none

pub sought_none : (test : ℕ → Bool) (make : ℕ → Step) (n k a left : ℕ) → n ≤ a → IsSought test make n k a left → k ≡ length (steps_where test make 0 n) + left
sought_none test make n k a left past is =
    let none : n - a ≡ 0 = omega (arith, past) in
    omega (arith, is.count, ap (λ m. length (steps_where test make a m)) none)

-- a count of the steps: those that were counted, and those of the numbers that were not looked at
pub counted_more : (test : ℕ → Bool) (make : ℕ → Step) (n a count all : ℕ) → a < n → test a ≡ true → count + length (steps_where test make a (n - a)) ≡ all →
    count + 1 + length (steps_where test make (a + 1) (n - (a + 1))) ≡ all
counted_more test make n a count all less passes is = omega (arith, is, ap length (rest_true test make n a less passes))

pub counted_on : (test : ℕ → Bool) (make : ℕ → Step) (n a count all : ℕ) → a < n → test a ≡ false → count + length (steps_where test make a (n - a)) ≡ all →
    count + length (steps_where test make (a + 1) (n - (a + 1))) ≡ all
counted_on test make n a count all less fails is = omega (arith, is, ap length (rest_false test make n a less fails))

-- a step of those that pass a test is one of them
pub record IsPassing (test : ℕ → Bool) (make : ℕ → Step) (n k : ℕ) (x : Step) : Type 0 where
  pub at : ℕ
  pub below : at < n + k
  pub passes : test at ≡ true
  pub made : x ≡ make at

each_passing : (test : ℕ → Bool) (make : ℕ → Step) (n k : ℕ) → AllByRecursion (IsPassing test make n k) (steps_where test make n k)
each_passing test make n zero = tt
each_passing test make n (suc k) =
    each_append (IsPassing test make n (suc k)) (if test n then make n ∷ [] else []) (steps_where test make (n + 1) k)
    (each_if (IsPassing test make n (suc k)) (test n) (make n) (λ passes. record { at = n; below = omega arith; passes = passes; made = refl }))
    (each_map (IsPassing test make (n + 1) k) (IsPassing test make n (suc k))
    (λ x is. record { at = is.at; below = omega (arith, is.below); passes = is.passes; made = is.made })
    (steps_where test make (n + 1) k) (each_passing test make (n + 1) k))

is_thread : (w : World) (h : List Event) (v : VkState) (free : ℕ) (x : Step) → IsPassing (is_ready_thread w h) (λ t. step.Thread t) 0 (length w.scripts) x → CanBeTaken w h v free x
is_thread w h v free x is = subst (CanBeTaken w h v free) (sym is.made) (omega (arith, is.below), is.passes)

is_worker : (w : World) (h : List Event) (v : VkState) (free : ℕ) (x : Step) → IsPassing (is_ready_worker w h v) (λ q. step.Worker q) 0 (length w.queues) x → CanBeTaken w h v free x
is_worker w h v free x is = subst (CanBeTaken w h v free) (sym is.made) (omega (arith, is.below), is.passes)

is_device : (w : World) (h : List Event) (v : VkState) (free : ℕ) (x : Step) → IsPassing always (λ k. step.Device k) 0 (numbered (steps_offered v free)) x → CanBeTaken w h v free x
is_device w h v free x is = subst (CanBeTaken w h v free) (sym is.made) (let e : is.at < steps_offered v free = omega (arith, is.below) in e)

-- a step that can be taken is of a thread that can go on, of a queue with an operation that is not submitted, or one that the device offers
pub any_step : (w : World) (h : List Event) (v : VkState) (free k : ℕ) (x : Step) → slice_get (enabled_of w h Clean v free) k ≡ Some x → CanBeTaken w h v free x
any_step w h v free k x is =
    let P : Step → Type 0 = CanBeTaken w h v free in
    let threads : List Step = steps_where (is_ready_thread w h) (λ t. step.Thread t) 0 (length w.scripts) in
    let workers : List Step = steps_where (is_ready_worker w h v) (λ q. step.Worker q) 0 (length w.queues) in
    let devices : List Step = steps_where always (λ k. step.Device k) 0 (numbered (steps_offered v free)) in
    let all : AllByRecursion P (threads ++ (workers ++ devices)) =
    each_append P threads (workers ++ devices)
    (each_map (IsPassing (is_ready_thread w h) (λ t. step.Thread t) 0 (length w.scripts)) P (is_thread w h v free) threads
    (each_passing (is_ready_thread w h) (λ t. step.Thread t) 0 (length w.scripts)))
    (each_append P workers devices
    (each_map (IsPassing (is_ready_worker w h v) (λ q. step.Worker q) 0 (length w.queues)) P (is_worker w h v free) workers
    (each_passing (is_ready_worker w h v) (λ q. step.Worker q) 0 (length w.queues)))
    (each_map (IsPassing always (λ k. step.Device k) 0 (numbered (steps_offered v free))) P (is_device w h v free) devices
    (each_passing always (λ k. step.Device k) 0 (numbered (steps_offered v free))))) in
    each_at P (threads ++ (workers ++ devices)) k x all is

-- the steps that pass one of two tests that agree
where_same : (test other : ℕ → Bool) (make : ℕ → Step) (n k : ℕ) → ((t : ℕ) → t < n + k → test t ≡ other t) → steps_where test make n k ≡ steps_where other make n k
where_same test other make n zero same = refl
where_same test other make n (suc k) same =
    ap (λ b. (if b then make n ∷ [] else []) ++ steps_where test make (n + 1) k) (same n (omega arith))
    ∙ ap (λ xs. (if other n then make n ∷ [] else []) ++ xs) (where_same test other make (n + 1) k (λ t less. same t (omega (arith, less))))

left_some : (a m : ℕ) → nat_lt 0 (a - m) ≡ nat_lt m a
left_some a m = elim (cases_lt m a) [
  | inl less ↦ lt-ltb 0 (a - m) (omega (arith, less)) ∙ sym (lt-ltb m a less)
  | inr past ↦ le-ltb 0 (a - m) (omega (arith, past)) ∙ sym (le-ltb m a past)
]

-- a thread's test is that of its seat
pub seat_tests : (w : World) (fences : List (List ℕ)) (seats : List Seat) (t : ℕ) (r : Bool) → t < length seats →
    ((s : Seat) → slice_get seats t ≡ Some s → r ≡ ready_by (script_of w t) fences s) → ready_at w fences seats t ≡ r
seat_tests w fences seats t r within is = elim (slice_get_cases seats t).1 [
  | inl found ↦ ap (λ (o : Option Seat). elim o [ None ↦ false | Some s ↦ ready_by (script_of w t) fences s ]) found.2 ∙ sym (is found.0 found.2)
  | inr past ↦ absurd (omega (arith, within, past.0))
]

none_left : (n : ℕ) (t : Bool) → (n == 0) ≡ t → nat_lt 0 n ≡ not t
none_left zero t is = ap not is
none_left (suc n) t is = elim (eqb_tells (suc n) 0) [
  | inl same ↦ absurd (omega (arith, same.1))
  | inr other ↦ lt-ltb 0 (suc n) (omega arith) ∙ ap not (sym other.0 ∙ is)
]

-- a queue's test is that of what it holds
pub held_tests : (held : List Held) (q : ℕ) (x : Held) (t : Bool) → slice_get held q ≡ Some x → (length x.operations.items == 0) ≡ t → holds_at held q ≡ not t
held_tests held q x t at none =
    ap (λ (o : Option Held). elim o [ None ↦ false | Some y ↦ nat_lt 0 (length y.operations.items) ]) at ∙ none_left (length x.operations.items) t none

get_front : (xs ys : List Step) (k : ℕ) (x : Step) → slice_get xs k ≡ Some x → slice_get (xs ++ ys) k ≡ Some x
get_front [] ys k x is = absurd (cc)
get_front (y ∷ xs) ys zero x is = is
get_front (y ∷ xs) ys (suc k) x is = get_front xs ys k x is

get_behind : (xs ys : List Step) (left : ℕ) → slice_get (xs ++ ys) (length xs + left) ≡ slice_get ys left
get_behind [] ys left = ap (slice_get ys) (let e : 0 + left ≡ left = omega arith in e)
get_behind (x ∷ xs) ys left = ap (slice_get (x ∷ (xs ++ ys))) (let e : suc (length xs) + left ≡ suc (length xs + left) = omega arith in e) ∙ get_behind xs ys left

device_from : (a n k : ℕ) → k < n → slice_get (steps_where always (λ k. step.Device k) a n) k ≡ Some (step.Device (a + k))
device_from a zero k less = absurd (omega (arith, less))
device_from a (suc n) zero less = ap (λ j. Some (step.Device j)) (let e : a ≡ a + 0 = omega arith in e)
device_from a (suc n) (suc k) less = device_from (a + 1) n k (omega (arith, less)) ∙ ap (λ j. Some (step.Device j)) (let e : a + 1 + k ≡ a + suc k = omega arith in e)

where_length : (make : ℕ → Step) (a n : ℕ) → length (steps_where always make a n) ≡ n
where_length make a zero = refl
where_length make a (suc n) = ap suc (where_length make (a + 1) n)

-- no more steps than numbers
where_few : (test : ℕ → Bool) (make : ℕ → Step) (a n : ℕ) → length (steps_where test make a n) ≤ n
where_few test make a zero = omega arith
where_few test make a (suc n) = by_test (test a) (where_few test make (a + 1) n)
  where
    by_test : (t : Bool) → length (steps_where test make (a + 1) n) ≤ n → length ((if t then make a ∷ [] else []) ++ steps_where test make (a + 1) n) ≤ suc n
    by_test true few = omega (arith, few)
    by_test false few = omega (arith, few)

module _ (w : World) (h : List Event) (p : Parts) (d : DeviceView) (keeps : Keeps w h p d) where
  pub seats_count : length p.seats ≡ length w.scripts
  seats_count = seats_many w h p.lists p.seats (map updates_in p.fences) keeps.consistent.past_is

  pub held_count : length p.held ≡ length w.queues
  held_count = sym (length-map p.held queued) ∙ keeps.consistent.held_are.count

  seat_same : (t : ℕ) → t < length w.scripts → ready_at w (map updates_in p.fences) p.seats t ≡ is_ready_thread w h t
  seat_same t less = elim (slice_get_cases p.seats t).1 [
    | inl found ↦
        ap (λ (o : Option Seat). elim o [ None ↦ false | Some s ↦ ready_by (script_of w t) (map updates_in p.fences) s ]) found.2
        ∙ ready_is w h p d t found.0 keeps found.2
    | inr past ↦ absurd (omega (arith, less, past.0, seats_count))
  ]

  held_same : (q : ℕ) → q < length w.queues → holds_at p.held q ≡ is_ready_worker w h (shown d.state) q
  held_same q less = elim (slice_get_cases p.held q).1 [
    | inl found ↦
        let held : IsHeld w h (shown d.state) q (queued found.0) =
        keeps.consistent.held_are.each q (queued found.0) (slice_get-map queued p.held q ∙ ap (option_map queued) found.2) in
        let os : List Operation = operations w h q in
        let left : length found.0.operations.items ≡ length os - submitted_of (shown d.state) q =
        ap length held.rest ∙ length-drop found.0.submitted os ∙ ap (λ n. length os - n) held.submitted_is in
        ap (λ (o : Option Held). elim o [ None ↦ false | Some y ↦ nat_lt 0 (length y.operations.items) ]) found.2
        ∙ ap (λ n. nat_lt 0 n) left ∙ left_some (length os) (submitted_of (shown d.state) q)
    | inr past ↦ absurd (omega (arith, less, past.0, held_count))
  ]

  -- the steps of threads and of workers, by the parts
  abbrev threads : List Step
  threads = steps_where (ready_at w (map updates_in p.fences) p.seats) (λ t. step.Thread t) 0 (length w.scripts)

  abbrev workers : List Step
  workers = steps_where (holds_at p.held) (λ q. step.Worker q) 0 (length w.queues)

  abbrev devices : ℕ → List Step
  devices free = steps_where always (λ k. step.Device k) 0 (numbered (steps_offered (shown d.state) free))

  enabled_is : (free : ℕ) → threads ++ (workers ++ devices free) ≡ enabled_of w h Clean (shown d.state) free
  enabled_is free =
      ap (λ xs. xs ++ (workers ++ devices free)) (where_same (ready_at w (map updates_in p.fences) p.seats) (is_ready_thread w h) (λ t. step.Thread t) 0 (length w.scripts) (λ t less. seat_same t (omega (arith, less))))
      ∙ ap (λ xs. steps_where (is_ready_thread w h) (λ t. step.Thread t) 0 (length w.scripts) ++ (xs ++ devices free))
      (where_same (holds_at p.held) (is_ready_worker w h (shown d.state)) (λ q. step.Worker q) 0 (length w.queues) (λ q less. held_same q (omega (arith, less))))

  -- the count of the steps that can be taken
  pub count_is : (free a b c : ℕ) → a ≡ length threads → b ≡ length workers → c ≡ numbered (steps_offered (shown d.state) free) → a + (b + c) ≡ length (enabled_of w h Clean (shown d.state) free)
  count_is free a b c one two three =
      omega (
        arith,
        one,
        two,
        three ∙ sym (where_length (λ k. step.Device k) 0 (numbered (steps_offered (shown d.state) free))),
        length-append threads (workers ++ devices free),
        length-append workers (devices free),
        ap length (enabled_is free),
      )

  -- the count fits 64 bits
  pub count_fits : (free a b c : ℕ) → a ≡ length threads → b ≡ length workers → c ≡ numbered (steps_offered (shown d.state) free) → a + (b + c) < 2 ^ 64
  count_fits free a b c one two three =
      omega (
        arith,
        one,
        two,
        three,
        where_few (ready_at w (map updates_in p.fences) p.seats) (λ t. step.Thread t) 0 (length w.scripts),
        where_few (holds_at p.held) (λ q. step.Worker q) 0 (length w.queues),
        keeps.consistent.world.threads,
        keeps.consistent.world.queues,
      )

  -- the step of a place, by what the searches found
  pub nth_is_thread : (free k : ℕ) (x : Step) → slice_get threads k ≡ Some x → slice_get (enabled_of w h Clean (shown d.state) free) k ≡ Some x
  nth_is_thread free k x is = ap (λ xs. slice_get xs k) (sym (enabled_is free)) ∙ get_front threads (workers ++ devices free) k x is

  pub nth_is_worker : (free k left : ℕ) (x : Step) → k ≡ length threads + left → slice_get workers left ≡ Some x → slice_get (enabled_of w h Clean (shown d.state) free) k ≡ Some x
  nth_is_worker free k left x behind is =
      ap (λ xs. slice_get xs k) (sym (enabled_is free)) ∙ ap (slice_get (threads ++ (workers ++ devices free))) behind
      ∙ get_behind threads (workers ++ devices free) left ∙ get_front workers (devices free) left x is

  -- the place among the device's steps
  pub device_within : (free k left more : ℕ) → k ≡ length threads + left → left ≡ length workers + more → k < length (enabled_of w h Clean (shown d.state) free) → more < numbered (steps_offered (shown d.state) free)
  device_within free k left more behind further within =
      omega (
        arith,
        behind,
        further,
        within,
        where_length (λ k. step.Device k) 0 (numbered (steps_offered (shown d.state) free)),
        length-append threads (workers ++ devices free),
        length-append workers (devices free),
        ap length (enabled_is free),
      )

  pub nth_is_device : (free k left more : ℕ) → k ≡ length threads + left → left ≡ length workers + more → k < length (enabled_of w h Clean (shown d.state) free) →
      slice_get (enabled_of w h Clean (shown d.state) free) k ≡ Some (step.Device more)
  nth_is_device free k left more behind further within =
      ap (λ xs. slice_get xs k) (sym (enabled_is free)) ∙ ap (slice_get (threads ++ (workers ++ devices free))) behind
      ∙ get_behind threads (workers ++ devices free) left ∙ ap (slice_get (workers ++ devices free)) further ∙ get_behind workers (devices free) more
      ∙ device_from 0 (numbered (steps_offered (shown d.state) free)) more (device_within free k left more behind further within)
      ∙ ap (λ j. Some (step.Device j)) (let e : 0 + more ≡ more = omega arith in e)
