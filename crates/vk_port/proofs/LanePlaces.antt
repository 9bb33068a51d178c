-- The places of lanes in front of which all commands are done.
use Rattle.std.proofs.Common.{◌≡◌, ℕ, zero, suc, ◌+◌, ◌-◌, ◌<◌, ◌≤◌, ◌∙◌, Bool, true, false, nat_le, List, [], ◌∷◌, ◌++◌, length, take, drop, set, replicate, refl, sym, ap, subst, arith, true≢false, add-one, slice_get, Option, Some, None}
use Rattle.std.specs.List.{list_all}
use Rattle.std.proofs.lemmas.Bool.{and_parts, and_from, eqb-true}
use Rattle.std.proofs.lemmas.List.{length-append}
use Rattle.std.proofs.lemmas.Option.{none-some}
use Rattle.dx_base.specs.Lists.{changed_at}
use Rattle.vk_port.specs.declared.fronts.Front.{Front}
use Rattle.vk_port.specs.declared.lanes.Lane.{Lane}
use Rattle.vk_port.specs.declared.lanes.Running.{Running}
use Rattle.vk_port.specs.Enabled.{unmarked, all_done}
use Rattle.vk_port.specs.Fronts.{is_done_to, is_done_at, is_front, are_fronts}
use Rattle.vk_types.specs.declared.commands.VkCommand.{VkCommand}
use Rattle.vk_port.specs.declared.ahead.Ahead.{Ahead}
use Rattle.vk_port.specs.After.{with_done, place_of, lane_after_run, with_batch}
use Rattle.vk_port.specs.VkState.{no_lane}
use Rattle.vk_port.specs.Ahead.{batch_steps, lane_steps}
use Rattle.vk_port.proofs.Earlier.{same_item}
use Rattle.vk_port.proofs.Lists.{length_changed}
use Rattle.vk_port.proofs.Summing.{steps_unmarked, unmarked_none}

-- an item more of which a test holds
taken_next : {X : Type 0} (p : X → Bool) (xs : List X) (i : ℕ) (x : X) → slice_get xs i ≡ Some x → p x ≡ true → list_all p (take i xs) ≡ true → list_all p (take (suc i) xs) ≡ true
taken_next p [] i x is holds h = absurd (none-some x is)
taken_next p (y ∷ xs) zero x is holds h = and_from (p y) true (ap p (same_item y x is) ∙ holds) refl
taken_next p (y ∷ xs) (suc i) x is holds h =
    let parts = and_parts (p y) (list_all p (take i xs)) h in
    and_from (p y) (list_all p (take (suc i) xs)) parts.0 (taken_next p xs i x is holds parts.1)

pub taken_more : {X : Type 0} (p : X → Bool) (xs : List X) (i : ℕ) (x : X) → slice_get xs i ≡ Some x → p x ≡ true → list_all p (take i xs) ≡ true → list_all p (take (i + 1) xs) ≡ true
taken_more p xs i x is holds h = rw (add-one i) (taken_next p xs i x is holds h)

-- so many items are all
pub taken_all : {X : Type 0} (p : X → Bool) (xs : List X) (i : ℕ) → length xs ≤ i → list_all p (take i xs) ≡ true → list_all p xs ≡ true
taken_all p [] i past h = refl
taken_all p (x ∷ xs) zero past h = absurd (omega (arith, past))
taken_all p (x ∷ xs) (suc i) past h =
    let parts = and_parts (p x) (list_all p (take i xs)) h in
    and_from (p x) (list_all p xs) parts.0 (taken_all p xs i (omega (arith, past)) parts.1)

-- all items are so many
pub all_taken : {X : Type 0} (p : X → Bool) (xs : List X) (i : ℕ) → list_all p xs ≡ true → list_all p (take i xs) ≡ true
all_taken p xs zero h = refl
all_taken p [] (suc i) h = refl
all_taken p (x ∷ xs) (suc i) h =
    let parts = and_parts (p x) (list_all p xs) h in
    and_from (p x) (list_all p (take i xs)) parts.0 (all_taken p xs i parts.1)

-- the marks up to the last one are all, however far they were looked at
pub done_to_end : (running : Running) (i : ℕ) → length running.done ≤ i → is_done_to i running ≡ true → is_done_to (length running.done) running ≡ true
done_to_end running i past h = all_taken (λ mark. mark) running.done (length running.done) (taken_all (λ mark. mark) running.done i past h)

-- a place of a lane, in parts
pub record IsFront (front : Front) (lane : Lane) : Type 0 where
  pub within : front.batch ≤ length lane.batches
  pub before : list_all all_done (take front.batch lane.batches) ≡ true
  pub here : is_done_at front.command (slice_get lane.batches front.batch) ≡ true

pub front_parts : (front : Front) (lane : Lane) → is_front front lane ≡ true → IsFront front lane
front_parts front lane h =
    let first = and_parts (nat_le front.batch (length lane.batches)) _ h in
    let second = and_parts (list_all all_done (take front.batch lane.batches)) _ first.1 in
    record { within = grind (arith, first.0); before = second.0; here = second.1 }

pub front_from : (front : Front) (lane : Lane) → IsFront front lane → is_front front lane ≡ true
front_from front lane f =
    let within : nat_le front.batch (length lane.batches) ≡ true = grind (arith, f.within) in
    and_from (nat_le front.batch (length lane.batches)) _ within (and_from (list_all all_done (take front.batch lane.batches)) _ f.before f.here)

-- in front of the first command all are done
pub done_at_first : (o : Option Running) → is_done_at 0 o ≡ true
done_at_first None = refl
done_at_first (Some x) = refl

-- behind the last item there is none
pub none_past : {X : Type 0} (xs : List X) (i : ℕ) → length xs ≤ i → slice_get xs i ≡ None
none_past [] i past = refl
none_past (x ∷ xs) zero past = absurd (omega (arith, past))
none_past (x ∷ xs) (suc i) past = none_past xs i (omega (arith, past))

module _ (lane : Lane) (batch from : ℕ) (f : is_front (record { batch = batch; command = from }) lane ≡ true) where
  parts : IsFront (record { batch = batch; command = from }) lane
  parts = front_parts (record { batch = batch; command = from }) lane f

  -- the marks that are set in the batch there
  pub marks_here : (r : Running) → slice_get lane.batches batch ≡ Some r → is_done_to from r ≡ true
  marks_here r is = ap (is_done_at from) (sym is) ∙ parts.here

  -- a place further on in the batch
  pub front_here : (r : Running) (command : ℕ) → slice_get lane.batches batch ≡ Some r → is_done_to command r ≡ true → is_front (record { batch = batch; command = command }) lane ≡ true
  front_here r command is done =
      front_from (record { batch = batch; command = command }) lane (record { within = parts.within; before = parts.before; here = ap (is_done_at command) is ∙ done })

  -- the next batch, where all commands of this one are done
  pub front_next : (r : Running) (command : ℕ) → batch < length lane.batches → slice_get lane.batches batch ≡ Some r → is_done_to command r ≡ true → length r.done ≤ command →
      is_front (record { batch = batch + 1; command = 0 }) lane ≡ true
  front_next r command less is done past =
      front_from (record { batch = batch + 1; command = 0 }) lane
      (record { within = omega (arith, less); before = taken_more all_done lane.batches batch r is (taken_all (λ mark. mark) r.done command past done) parts.before; here = done_at_first (slice_get lane.batches (batch + 1)) })

  -- the end of the lane
  pub front_end : length lane.batches ≤ batch → is_front (record { batch = length lane.batches; command = 0 }) lane ≡ true
  front_end past =
      front_from (record { batch = length lane.batches; command = 0 }) lane
      (record { within = omega arith; before = all_taken all_done lane.batches (length lane.batches) (taken_all all_done lane.batches batch past parts.before); here = ap (is_done_at 0) (none_past lane.batches (length lane.batches) (omega arith)) })

-- the place of a lane among all
pub front_at : (fs : List Front) (ls : List Lane) (q : ℕ) (f : Front) (l : Lane) → are_fronts fs ls ≡ true → slice_get fs q ≡ Some f → slice_get ls q ≡ Some l → is_front f l ≡ true
front_at [] ls q f l h is there = absurd (none-some f is)
front_at (x ∷ fs) [] q f l h is there = absurd (none-some l there)
front_at (x ∷ fs) (y ∷ ls) zero f l h is there = ap (λ z. is_front z l) (sym (same_item x f is)) ∙ ap (is_front x) (sym (same_item y l there)) ∙ (and_parts (is_front x y) (are_fronts fs ls) h).0
front_at (x ∷ fs) (y ∷ ls) (suc q) f l h is there = front_at fs ls q f l (and_parts (is_front x y) (are_fronts fs ls) h).1 is there

-- places of lanes where a lane and its place are changed
pub fronts_changed : (g : Lane → Lane) (fs : List Front) (ls : List Lane) (q : ℕ) (f : Front) (l : Lane) → are_fronts fs ls ≡ true → slice_get ls q ≡ Some l → is_front f (g l) ≡ true →
    are_fronts (set fs q f) (changed_at g q ls) ≡ true
fronts_changed g [] ls q f l h there is = refl
fronts_changed g (x ∷ fs) [] q f l h there is = absurd (none-some l there)
fronts_changed g (x ∷ fs) (y ∷ ls) zero f l h there is =
    let parts = and_parts (is_front x y) (are_fronts fs ls) h in
    and_from (is_front f (g y)) (are_fronts fs ls) (ap (λ z. is_front f (g z)) (same_item y l there) ∙ is) parts.1
fronts_changed g (x ∷ fs) (y ∷ ls) (suc q) f l h there is =
    let parts = and_parts (is_front x y) (are_fronts fs ls) h in
    and_from (is_front x y) (are_fronts (set fs q f) (changed_at g q ls)) parts.0 (fronts_changed g fs ls q f l parts.1 there is)

-- where a place is changed alone
pub fronts_moved : (fs : List Front) (ls : List Lane) (q : ℕ) (f : Front) (l : Lane) → are_fronts fs ls ≡ true → slice_get ls q ≡ Some l → is_front f l ≡ true → are_fronts (set fs q f) ls ≡ true
fronts_moved [] ls q f l h there is = refl
fronts_moved (x ∷ fs) [] q f l h there is = absurd (none-some l there)
fronts_moved (x ∷ fs) (y ∷ ls) zero f l h there is =
    let parts = and_parts (is_front x y) (are_fronts fs ls) h in
    and_from (is_front f y) (are_fronts fs ls) (ap (is_front f) (same_item y l there) ∙ is) parts.1
fronts_moved (x ∷ fs) (y ∷ ls) (suc q) f l h there is =
    let parts = and_parts (is_front x y) (are_fronts fs ls) h in
    and_from (is_front x y) (are_fronts (set fs q f) ls) parts.0 (fronts_moved fs ls q f l parts.1 there is)

-- where a lane is changed so that its place stays one
pub fronts_kept : (g : Lane → Lane) → ((f : Front) (l : Lane) → is_front f l ≡ true → is_front f (g l) ≡ true) → (fs : List Front) (ls : List Lane) (q : ℕ) → are_fronts fs ls ≡ true → are_fronts fs (changed_at g q ls) ≡ true
fronts_kept g keeps [] ls q h = refl
fronts_kept g keeps (x ∷ fs) [] q h = refl
fronts_kept g keeps (x ∷ fs) (y ∷ ls) zero h =
    let parts = and_parts (is_front x y) (are_fronts fs ls) h in
    and_from (is_front x (g y)) (are_fronts fs ls) (keeps x y parts.0) parts.1
fronts_kept g keeps (x ∷ fs) (y ∷ ls) (suc q) h =
    let parts = and_parts (is_front x y) (are_fronts fs ls) h in
    and_from (is_front x y) (are_fronts fs (changed_at g q ls)) parts.0 (fronts_kept g keeps fs ls q parts.1)

-- the steps of a batch are those behind its first commands, which are done
pub steps_from : (q n k : ℕ) (a : Ahead) (cs : List VkCommand) (done : List Bool) (from : ℕ) → list_all (λ mark. mark) (take from done) ≡ true →
    batch_steps q n k a cs done ≡ batch_steps q n (k + from) a (drop from cs) (drop from done)
steps_from q n k a cs done zero h = let same : k ≡ k + 0 = omega arith in ap (λ (j : ℕ). batch_steps q n j a cs done) same
steps_from q n k a [] done (suc from) h = refl
steps_from q n k a (c ∷ cs) [] (suc from) h = sym (steps_unmarked q n (k + suc from) a (drop from cs))
steps_from q n k a (c ∷ cs) (false ∷ done) (suc from) h = absurd (true≢false (sym h))
steps_from q n k a (c ∷ cs) (true ∷ done) (suc from) h =
    let same : k + 1 + from ≡ k + suc from = omega arith in
    steps_from q n (k + 1) a cs done from h ∙ ap (λ (j : ℕ). batch_steps q n j a (drop from cs) (drop from done)) same

-- so is what is left of it
pub left_from : (cs : List VkCommand) (done : List Bool) (from : ℕ) → list_all (λ mark. mark) (take from done) ≡ true → unmarked cs done ≡ unmarked (drop from cs) (drop from done)
left_from cs done zero h = refl
left_from [] done (suc from) h = refl
left_from (c ∷ cs) [] (suc from) h = sym (unmarked_none (drop from cs))
left_from (c ∷ cs) (false ∷ done) (suc from) h = absurd (true≢false (sym h))
left_from (c ∷ cs) (true ∷ done) (suc from) h = left_from cs done from h

-- a batch all of whose commands are done has no step, and nothing is left of it
pub none_left : (cs : List VkCommand) (done : List Bool) → list_all (λ mark. mark) done ≡ true → unmarked cs done ≡ []
none_left [] done h = refl
none_left (c ∷ cs) [] h = refl
none_left (c ∷ cs) (true ∷ done) h = none_left cs done h
none_left (c ∷ cs) (false ∷ done) h = absurd (true≢false (sym h))

pub no_steps : (q n k : ℕ) (a : Ahead) (cs : List VkCommand) (done : List Bool) → list_all (λ mark. mark) done ≡ true → batch_steps q n k a cs done ≡ []
no_steps q n k a [] done h = refl
no_steps q n k a (c ∷ cs) [] h = refl
no_steps q n k a (c ∷ cs) (true ∷ done) h = no_steps q n (k + 1) a cs done h
no_steps q n k a (c ∷ cs) (false ∷ done) h = absurd (true≢false (sym h))

-- the steps of batches are those behind the first ones, all of whose commands are done
pub lane_from : (q : ℕ) (a : Ahead) (rs : List Running) (b : ℕ) → list_all all_done (take b rs) ≡ true → lane_steps q a rs ≡ lane_steps q a (drop b rs)
lane_from q a rs zero h = refl
lane_from q a [] (suc b) h = refl
lane_from q a (r ∷ rs) (suc b) h =
    let parts = and_parts (all_done r) (list_all all_done (take b rs)) h in
    rw (no_steps q r.batch.number 1 a r.batch.commands r.done parts.0, none_left r.batch.commands r.done parts.0) (lane_from q a rs b parts.1)

-- the first of the first items
pub taken_first : {X : Type 0} (p : X → Bool) (m b : ℕ) (xs : List X) → list_all p (take b xs) ≡ true → list_all p (take b (take m xs)) ≡ true
taken_first p m zero xs h = refl
taken_first p zero (suc b) xs h = refl
taken_first p (suc m) (suc b) [] h = refl
taken_first p (suc m) (suc b) (x ∷ xs) h =
    let parts = and_parts (p x) (list_all p (take b xs)) h in
    and_from (p x) (list_all p (take b (take m xs))) parts.0 (taken_first p m b xs parts.1)

-- lanes begin with nothing done
pub first_fronts_are : (n : ℕ) → are_fronts (replicate n (record { batch = 0; command = 0 })) (replicate n no_lane) ≡ true
first_fronts_are zero = refl
first_fronts_are (suc n) = first_fronts_are n

-- a command more that is done
pub set_all : (done : List Bool) (i n : ℕ) → list_all (λ mark. mark) (take n done) ≡ true → list_all (λ mark. mark) (take n (set done i true)) ≡ true
set_all done i zero h = refl
set_all [] i (suc n) h = refl
set_all (x ∷ done) zero (suc n) h = (and_parts x (list_all (λ mark. mark) (take n done)) h).1
set_all (x ∷ done) (suc i) (suc n) h =
    let parts = and_parts x (list_all (λ mark. mark) (take n done)) h in
    and_from x (list_all (λ mark. mark) (take n (set done i true))) parts.0 (set_all done i n parts.1)

set_done : (k : ℕ) (r : Running) → all_done r ≡ true → all_done (with_done k r) ≡ true
set_done k r h =
    taken_all (λ mark. mark) (set r.done (k - 1) true) (length (set r.done (k - 1) true)) (omega arith)
    (set_all r.done (k - 1) (length (set r.done (k - 1) true)) (all_taken (λ mark. mark) r.done (length (set r.done (k - 1) true)) h))

-- a change of a batch that keeps what is done of it
module _ (g : Running → Running) (all : (r : Running) → all_done r ≡ true → all_done (g r) ≡ true) (some : (n : ℕ) (r : Running) → is_done_to n r ≡ true → is_done_to n (g r) ≡ true) where
  before_changed : (p b : ℕ) (rs : List Running) → list_all all_done (take b rs) ≡ true → list_all all_done (take b (changed_at g p rs)) ≡ true
  before_changed p zero rs h = refl
  before_changed p (suc b) [] h = refl
  before_changed zero (suc b) (r ∷ rs) h =
      let parts = and_parts (all_done r) (list_all all_done (take b rs)) h in
      and_from (all_done (g r)) (list_all all_done (take b rs)) (all r parts.0) parts.1
  before_changed (suc p) (suc b) (r ∷ rs) h =
      let parts = and_parts (all_done r) (list_all all_done (take b rs)) h in
      and_from (all_done r) (list_all all_done (take b (changed_at g p rs))) parts.0 (before_changed p b rs parts.1)

  here_changed : (p b n : ℕ) (rs : List Running) → is_done_at n (slice_get rs b) ≡ true → is_done_at n (slice_get (changed_at g p rs) b) ≡ true
  here_changed p b n [] h = h
  here_changed zero zero n (r ∷ rs) h = some n r h
  here_changed zero (suc b) n (r ∷ rs) h = h
  here_changed (suc p) zero n (r ∷ rs) h = h
  here_changed (suc p) (suc b) n (r ∷ rs) h = here_changed p b n rs h

-- a done command keeps a lane's place
pub front_after_run : (number k : ℕ) (front : Front) (lane : Lane) → is_front front lane ≡ true → is_front front (lane_after_run number k lane) ≡ true
front_after_run number k front lane h =
    let parts = front_parts front lane h in
    let long : length (changed_at (with_done k) (place_of number lane.batches) lane.batches) ≡ length lane.batches = length_changed (with_done k) (place_of number lane.batches) lane.batches in
    front_from front (lane_after_run number k lane) (record {
      within = omega (arith, parts.within, long);
      before = before_changed (with_done k) (set_done k) (λ n r. set_all r.done (k - 1) n) (place_of number lane.batches) front.batch lane.batches parts.before;
      here = here_changed (with_done k) (set_done k) (λ n r. set_all r.done (k - 1) n) (place_of number lane.batches) front.batch front.command lane.batches parts.here;
    })

-- so does a batch more
before_more : (b : ℕ) (rs : List Running) (r : Running) → b ≤ length rs → take b (rs ++ r ∷ []) ≡ take b rs
before_more zero rs r h = refl
before_more (suc b) [] r h = absurd (omega (arith, h))
before_more (suc b) (x ∷ rs) r h = ap (λ (ys : List Running). x ∷ ys) (before_more b rs r (omega (arith, h)))

here_more : (b n : ℕ) (rs : List Running) (r : Running) → is_done_at n (slice_get rs b) ≡ true → is_done_at n (slice_get (rs ++ r ∷ []) b) ≡ true
here_more zero n [] r h = let none : n ≡ 0 = eqb-true n 0 h in subst (λ (m : ℕ). is_done_to m r ≡ true) (sym none) refl
here_more (suc b) n [] r h = h
here_more zero n (x ∷ rs) r h = h
here_more (suc b) n (x ∷ rs) r h = here_more b n rs r h

pub front_after_submit : (r : Running) (front : Front) (lane : Lane) → is_front front lane ≡ true → is_front front (with_batch r lane) ≡ true
front_after_submit r front lane h =
    let parts = front_parts front lane h in
    let long : length (lane.batches ++ r ∷ []) ≡ length lane.batches + 1 = length-append lane.batches (r ∷ []) in
    front_from front (with_batch r lane) (record {
      within = omega (arith, parts.within, long);
      before = ap (list_all all_done) (before_more front.batch lane.batches r parts.within) ∙ parts.before;
      here = here_more front.batch front.command lane.batches r parts.here;
    })
