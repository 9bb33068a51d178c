-- Behind a barrier that is not done and has every stage of the device behind it there is no step.
use Rattle.std.proofs.Common.{◌≡◌, ℕ, zero, suc, ◌+◌, ◌==◌, Bool, true, false, not, List, [], ◌∷◌, drop, take, bit_and, bit_or, refl, sym, ap, ◌∙◌, true≢false, arith, Some, slice_get, replicate}
use Rattle.std.specs.List.{list_all}
use Rattle.std.proofs.lemmas.Bool.{and_parts, and_from, eqb-true, eq-eqb}
use Rattle.std.proofs.lemmas.List.Folds.{list_all-append}
use Rattle.std.proofs.lemmas.Nat.Bits.{bit_at_and, bit_at_or, same_from_bits}
use Rattle.std.proofs.lemmas.Option.{none-some}
use Rattle.dx_base.specs.Lists.{changed_at}
use Rattle.vk_types.specs.declared.commands.VkCommand.{VkCommand}
use Rattle.vk_types.specs.declared.commands.VkCommand.TheVariants.{Barrier, Copy, CopyImage, CopyIn, CopyOut, Clear, Dispatch}
use Rattle.vk_types.specs.Stages.{whole}
use Rattle.vk_port.specs.declared.ahead.Ahead.{Ahead}
use Rattle.vk_port.specs.declared.lanes.Lane.{Lane}
use Rattle.vk_port.specs.declared.lanes.Running.{Running}
use Rattle.vk_port.specs.After.{with_done, lane_after_run, lane_after_pass, lane_after_bump, with_batch, place_of}
use Rattle.vk_port.specs.Ahead.{with_command, summary, lets, batch_steps, lane_steps}
use Rattle.vk_port.specs.DeviceStages.{is_of_device, batch_of_device, lane_of_device, lanes_of_device, is_closed}
use Rattle.vk_port.specs.Enabled.{undone}
use Rattle.vk_port.specs.VkState.{no_lane}
use Rattle.vk_port.proofs.Bits.{or_apart}
use Rattle.vk_port.proofs.Earlier.{same_item}

-- a union has all stages of the device where one of its parts has
all_more : (a b : ℕ) → (bit_and a 7 == 7) ≡ true → (bit_and (bit_or a b) 7 == 7) ≡ true
all_more a b h =
    let all : bit_and a 7 ≡ 7 = eqb-true (bit_and a 7) 7 h in
    eq-eqb (bit_and (bit_or a b) 7) 7 (same_from_bits (bit_and (bit_or a b) 7) 7 (λ i.
    let bits = bit_at_and a 7 i in
    rw (bit_at_and (bit_or a b) 7 i, bit_at_or a b i) (omega (arith, rw all at bits))))

-- what has all stages of the device has one in common with each set that has one of them
all_meet : (a s : ℕ) → (bit_and a 7 == 7) ≡ true → not (bit_and s 7 == 0) ≡ true → (bit_and a s == 0) ≡ false
all_meet a s h some = meets_or (bit_and a s == 0) refl where
  all : bit_and a 7 ≡ 7
  all = eqb-true (bit_and a 7) 7 h

  none : bit_and a s ≡ 0 → bit_and s 7 ≡ 0
  none apart = same_from_bits (bit_and s 7) 0 (λ i.
      let one = bit_at_and a 7 i in
      let two = bit_at_and a s i in
      rw (bit_at_and s 7 i) (omega (arith, rw all at one, rw apart at two)))

  meets_or : (b : Bool) → (bit_and a s == 0) ≡ b → (bit_and a s == 0) ≡ false
  meets_or true is = absurd (true≢false (sym some ∙ ap not (eq-eqb (bit_and s 7) 0 (none (eqb-true (bit_and a s) 0 is)))))
  meets_or false is = is

-- commands hold back each stage of the device once they do
pub closed_more : (a : Ahead) (c : VkCommand) → is_closed a ≡ true → is_closed (with_command a c) ≡ true
closed_more a (Barrier from made to seen change) h = all_more a.to (whole to) h
closed_more a (Copy to to_first from from_first words) h = h
closed_more a (CopyImage to to_sub to_layout from from_sub from_layout) h = h
closed_more a (CopyIn image sub layout buffer first pitch) h = h
closed_more a (CopyOut buffer first pitch image sub layout) h = h
closed_more a (Clear target word) h = h
closed_more a (Dispatch routine count t0 t1 u0 b0) h = h

closed_all : (a : Ahead) (cs : List VkCommand) → is_closed a ≡ true → is_closed (summary a cs) ≡ true
closed_all a [] h = h
closed_all a (c ∷ cs) h = closed_all (with_command a c) cs (closed_more a c h)

-- then no command that waits for one may be done
held : (a : Ahead) (c : VkCommand) → is_closed a ≡ true → is_of_device c ≡ true → lets a c ≡ false
held a (Barrier from made to seen change) h of_device =
    rw (or_apart a.to a.by (whole from), all_meet a.to (whole from) h of_device) refl
held a (Copy to to_first from from_first words) h of_device = all_meet a.to 4 h refl
held a (CopyImage to to_sub to_layout from from_sub from_layout) h of_device = all_meet a.to 4 h refl
held a (CopyIn image sub layout buffer first pitch) h of_device = all_meet a.to 4 h refl
held a (CopyOut buffer first pitch image sub layout) h of_device = all_meet a.to 4 h refl
held a (Clear target word) h of_device = all_meet a.to 2 h refl
held a (Dispatch routine count t0 t1 u0 b0) h of_device = all_meet a.to 2 h refl

-- no command of a batch
no_batch_steps : (q n k : ℕ) (a : Ahead) (cs : List VkCommand) (done : List Bool) → is_closed a ≡ true → list_all is_of_device cs ≡ true → batch_steps q n k a cs done ≡ []
no_batch_steps q n k a [] done h all = refl
no_batch_steps q n k a (c ∷ cs) [] h all = refl
no_batch_steps q n k a (c ∷ cs) (true ∷ done) h all =
    no_batch_steps q n (k + 1) a cs done h (and_parts (is_of_device c) (list_all is_of_device cs) all).1
no_batch_steps q n k a (c ∷ cs) (false ∷ done) h all =
    let parts = and_parts (is_of_device c) (list_all is_of_device cs) all in
    rw (held a c h parts.0) (no_batch_steps q n (k + 1) (with_command a c) cs done (closed_more a c h) parts.1)

-- a test of each item is one of each behind a place
all_behind : {X : Type 0} (p : X → Bool) (n : ℕ) (xs : List X) → list_all p xs ≡ true → list_all p (drop n xs) ≡ true
all_behind p zero xs h = h
all_behind p (suc n) [] h = h
all_behind p (suc n) (x ∷ xs) h = all_behind p n xs (and_parts (p x) (list_all p xs) h).1

all_before : {X : Type 0} (p : X → Bool) (n : ℕ) (xs : List X) → list_all p xs ≡ true → list_all p (take n xs) ≡ true
all_before p zero xs h = refl
all_before p (suc n) [] h = h
all_before p (suc n) (x ∷ xs) h =
    let parts = and_parts (p x) (list_all p xs) h in
    and_from (p x) (list_all p (take n xs)) parts.0 (all_before p n xs parts.1)

pub all_at : {X : Type 0} (p : X → Bool) (xs : List X) (i : ℕ) (x : X) → list_all p xs ≡ true → slice_get xs i ≡ Some x → p x ≡ true
all_at p [] i x h is = absurd (none-some x is)
all_at p (y ∷ xs) zero x h is = ap p (sym (same_item y x is)) ∙ (and_parts (p y) (list_all p xs) h).0
all_at p (y ∷ xs) (suc i) x h is = all_at p xs i x (and_parts (p y) (list_all p xs) h).1 is

-- no command of a batch from a place on
pub closed_batch : (q n k : ℕ) (a : Ahead) (cs : List VkCommand) (done : List Bool) (i : ℕ) → is_closed a ≡ true → list_all is_of_device cs ≡ true → batch_steps q n k a (drop i cs) (drop i done) ≡ []
closed_batch q n k a cs done i h all = no_batch_steps q n k a (drop i cs) (drop i done) h (all_behind is_of_device i cs all)

no_lane_steps : (q : ℕ) (a : Ahead) (rs : List Running) → is_closed a ≡ true → list_all batch_of_device rs ≡ true → lane_steps q a rs ≡ []
no_lane_steps q a [] h all = refl
no_lane_steps q a (r ∷ rs) h all =
    let parts = and_parts (batch_of_device r) (list_all batch_of_device rs) all in
    rw (no_batch_steps q r.batch.number 1 a r.batch.commands r.done h parts.0) (no_lane_steps q (summary a (undone r)) rs (closed_all a (undone r) h) parts.1)

-- no command of the batches of a lane from a place on
pub closed_lane : (q : ℕ) (a : Ahead) (passed i : ℕ) (rs : List Running) → is_closed a ≡ true → list_all batch_of_device rs ≡ true → lane_steps q a (drop i (take passed rs)) ≡ []
closed_lane q a passed i rs h all =
    no_lane_steps q a (drop i (take passed rs)) h (all_behind batch_of_device i (take passed rs) (all_before batch_of_device passed rs all))

-- a change of an item keeps a test of each
kept_at : {X : Type 0} (p : X → Bool) (f : X → X) → ((x : X) → p x ≡ true → p (f x) ≡ true) → (k : ℕ) (xs : List X) → list_all p xs ≡ true → list_all p (changed_at f k xs) ≡ true
kept_at p f keeps k [] h = h
kept_at p f keeps zero (x ∷ xs) h =
    let parts = and_parts (p x) (list_all p xs) h in
    and_from (p (f x)) (list_all p xs) (keeps x parts.0) parts.1
kept_at p f keeps (suc k) (x ∷ xs) h =
    let parts = and_parts (p x) (list_all p xs) h in
    and_from (p x) (list_all p (changed_at f k xs)) parts.0 (kept_at p f keeps k xs parts.1)

-- passes, commands and ends keep what the commands wait for
pub kept_by_pass : (q : ℕ) (lanes : List Lane) → lanes_of_device lanes ≡ true → lanes_of_device (changed_at lane_after_pass q lanes) ≡ true
kept_by_pass q lanes h = kept_at lane_of_device lane_after_pass (λ lane all. all) q lanes h

pub kept_by_run : (q n k : ℕ) (lanes : List Lane) → lanes_of_device lanes ≡ true → lanes_of_device (changed_at (lane_after_run n k) q lanes) ≡ true
kept_by_run q n k lanes h =
    kept_at lane_of_device (lane_after_run n k) (λ lane all. kept_at batch_of_device (with_done k) (λ r each. each) (place_of n lane.batches) lane.batches all) q lanes h

pub kept_by_bump : (q : ℕ) (lanes : List Lane) → lanes_of_device lanes ≡ true → lanes_of_device (changed_at lane_after_bump q lanes) ≡ true
kept_by_bump q lanes h = kept_at lane_of_device lane_after_bump (λ lane all. all_behind batch_of_device 1 lane.batches all) q lanes h

-- a batch more of such commands does, too
pub kept_by_submit : (q : ℕ) (r : Running) (lanes : List Lane) → batch_of_device r ≡ true → lanes_of_device lanes ≡ true → lanes_of_device (changed_at (with_batch r) q lanes) ≡ true
kept_by_submit q r lanes each h =
    kept_at lane_of_device (with_batch r) (λ lane all. list_all-append batch_of_device lane.batches (r ∷ []) ∙ and_from (lane_of_device lane) (list_all batch_of_device (r ∷ [])) all (and_from (batch_of_device r) true each refl)) q lanes h

-- no lane has a command at first
pub kept_at_first : (n : ℕ) → lanes_of_device (replicate n no_lane) ≡ true
kept_at_first zero = refl
kept_at_first (suc n) = kept_at_first n
