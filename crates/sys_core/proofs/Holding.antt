-- The queues' held operations after each kind of step.
use Rattle.std.proofs.Common.{ℕ, zero, suc, ◌≡◌, ◌<◌, ◌≤◌, ◌+◌, ◌-◌, ◌∙◌, sym, ap, refl, arith, List, [], ◌∷◌, ◌++◌, length, drop, take, Some, length-append, add-one}
use Rattle.std.proofs.lemmas.List.{drop-append-le, append-nil, take-append-le, drop-drop, length-drop, length-take}
use Rattle.std.proofs.lemmas.Option.{slice_get_within}
use Rattle.std.specs.List.{slice_get}
use Rattle.d3d_machine.specs.declared.world.World.{World}
use Rattle.d3d_machine.specs.declared.events.Operation.{Operation}
use Rattle.d3d_machine.specs.declared.events.Operation.TheVariants.{Execute, Signal}
use Rattle.d3d_machine.specs.declared.events.Event.{Event}
use Rattle.d3d_machine.specs.Operations.{operations, counter, completions_by, called_by}
use Rattle.d3d_machine.specs.State.{first_state}
use Rattle.d3d_machine.specs.Play.{state_after}
use Rattle.d3d_machine.proofs.Operations.{operations_append, counter_append}
use Rattle.vk_port.specs.Journal.{next_number}
use Rattle.vk_port.specs.VkState.{VkState}
use Rattle.sys_core.specs.Parts.{Queued, last_with, signal_of, without_first}
use Rattle.sys_core.specs.Lowering.{last_signal}
use Rattle.sys_core.specs.Steps.{submitted_of}
use Rattle.sys_core.specs.Consistent.{IsHeld, signals_of}

get_of_take : {A : Type 0} (n : ℕ) (xs : List A) (i : ℕ) → i < n → slice_get (take n xs) i ≡ slice_get xs i
get_of_take zero xs i lt = absurd (omega arith)
get_of_take (suc n) [] i lt = refl
get_of_take (suc n) (x ∷ xs) zero lt = refl
get_of_take (suc n) (x ∷ xs) (suc i) lt = get_of_take n xs i (omega arith)

pub last_signal_append : (n found : ℕ) (os : List Operation) (o : Operation) → last_signal n found (os ++ o ∷ []) ≡ last_with (n + length os) (last_signal n found os) o
last_signal_append n found [] (Execute cs) = refl
last_signal_append n found [] (Signal f v) = omega arith
last_signal_append n found (Execute cs ∷ os) o =
    last_signal_append (n + 1) found os o ∙ ap (λ k. last_with k (last_signal (n + 1) found os) o) (omega arith)
last_signal_append n found (Signal f v ∷ os) o =
    last_signal_append (n + 1) n os o ∙ ap (λ k. last_with k (last_signal (n + 1) n os) o) (omega arith)

pub signals_of_append : (n : ℕ) (os : List Operation) (o : Operation) → signals_of n (os ++ o ∷ []) ≡ signals_of n os ++ signal_of (n + length os) o
signals_of_append n [] (Execute cs) = refl
signals_of_append n [] (Signal f v) = ap (λ k. (record { number = k; fence = f; value = v }) ∷ []) (omega arith)
signals_of_append n (Execute cs ∷ os) o = signals_of_append (n + 1) os o ∙ ap (λ k. signals_of (n + 1) os ++ signal_of k o) (omega arith)
signals_of_append n (Signal f v ∷ os) o =
    ap (λ xs. (record { number = n; fence = f; value = v }) ∷ xs) (signals_of_append (n + 1) os o ∙ ap (λ k. signals_of (n + 1) os ++ signal_of k o) (omega arith))

take_suc_get : {A : Type 0} (n : ℕ) (xs : List A) (x : A) → slice_get xs n ≡ Some x → take (suc n) xs ≡ take n xs ++ x ∷ []
take_suc_get n [] x is = absurd (cc)
take_suc_get zero (y ∷ ys) x is = ap (λ z. z ∷ []) (grind arith)
take_suc_get (suc n) (y ∷ ys) x is = ap (λ zs. y ∷ zs) (take_suc_get n ys x is)

pub take_more : {A : Type 0} (n : ℕ) (xs : List A) (x : A) → slice_get xs n ≡ Some x → take (n + 1) xs ≡ take n xs ++ x ∷ []
take_more n xs x is = ap (λ k. take k xs) (add-one n) ∙ take_suc_get n xs x is

drop_suc_get : {A : Type 0} (n : ℕ) (xs : List A) (x : A) → slice_get xs n ≡ Some x → drop n xs ≡ x ∷ drop (suc n) xs
drop_suc_get n [] x is = absurd (cc)
drop_suc_get zero (y ∷ ys) x is = ap (λ z. z ∷ ys) (grind arith)
drop_suc_get (suc n) (y ∷ ys) x is = drop_suc_get n ys x is

pub drop_here : {A : Type 0} (n : ℕ) (xs : List A) (x : A) → slice_get xs n ≡ Some x → drop n xs ≡ x ∷ drop (n + 1) xs
drop_here n xs x is = drop_suc_get n xs x is ∙ ap (λ k. x ∷ drop k xs) (sym (add-one n))

pub slice_get_drop : {A : Type 0} (n : ℕ) (xs : List A) → slice_get (drop n xs) 0 ≡ slice_get xs n
slice_get_drop zero [] = refl
slice_get_drop (suc n) [] = refl
slice_get_drop zero (y ∷ ys) = refl
slice_get_drop (suc n) (y ∷ ys) = slice_get_drop n ys

-- after a call, or the waking of a thread
pub held_event : (w : World) (h : List Event) (e : Event) (v u : VkState) (q : ℕ) (x y : Queued) → IsHeld w h v q x → completions_by q e ≡ 0 → u.journal ≡ v.journal →
    y.submitted ≡ x.submitted → y.last_signal ≡ x.last_signal → y.signals ≡ x.signals →
    y.operations ≡ x.operations ++ called_by w (state_after w h).desk q e → IsHeld w (h ++ e ∷ []) u q y
held_event w h e v u q x y held none journal submitted last signals more =
    let os : List Operation = operations w h q in
    let by : List Operation = called_by w (state_after w h).desk q e in
    let all : operations w (h ++ e ∷ []) q ≡ os ++ by = operations_append w (first_state w) q h e in
    let same : counter (h ++ e ∷ []) q ≡ counter h q = counter_append q h e ∙ omega (arith, none) in
    let front : take y.submitted (operations w (h ++ e ∷ []) q) ≡ take x.submitted os =
    ap (λ k. take k (operations w (h ++ e ∷ []) q)) submitted ∙ ap (take x.submitted) all ∙ take-append-le x.submitted os by held.within in
    record {
      submitted_is = submitted ∙ held.submitted_is ∙ ap (λ j. next_number q j - 1) (sym journal);
      within = omega (arith, ap length all, length-append os by, held.within, submitted);
      rest = more ∙ ap (λ xs. xs ++ by) held.rest ∙ sym (drop-append-le x.submitted os by held.within) ∙ ap (drop x.submitted) (sym all)
          ∙ ap (λ k. drop k (operations w (h ++ e ∷ []) q)) (sym submitted);
      last_is = last ∙ held.last_is ∙ ap (last_signal 1 0) (sym front);
      pending = signals ∙ held.pending ∙ ap (λ k. signals_of (k + 1) (drop k (take x.submitted os))) (sym same)
          ∙ ap (λ xs. signals_of (counter (h ++ e ∷ []) q + 1) (drop (counter (h ++ e ∷ []) q) xs)) (sym front);
    }

-- after the submission of a queue's next operation
pub held_submit : (w : World) (h : List Event) (v u : VkState) (q : ℕ) (x y : Queued) (o : Operation) → IsHeld w h v q x → counter h q ≤ x.submitted →
    slice_get x.operations 0 ≡ Some o → submitted_of u q ≡ submitted_of v q + 1 →
    y.submitted ≡ x.submitted + 1 → y.last_signal ≡ last_with (x.submitted + 1) x.last_signal o →
    y.signals ≡ x.signals ++ signal_of (x.submitted + 1) o → y.operations ≡ drop 1 x.operations → IsHeld w h u q y
held_submit w h v u q x y o held done head next submitted last signals less =
    let os : List Operation = operations w h q in
    let n : ℕ = x.submitted in
    let c : ℕ = counter h q in
    let at : slice_get os n ≡ Some o = sym (slice_get_drop n os) ∙ ap (λ xs. slice_get xs 0) (sym held.rest) ∙ head in
    let inside : n < length os = slice_get_within os n o at in
    let long : length (take n os) ≡ n = length-take n os ∙ omega arith in
    let front : take y.submitted os ≡ take n os ++ o ∷ [] = ap (λ k. take k os) submitted ∙ take_more n os o at in
    record {
      submitted_is = submitted ∙ ap (λ k. k + 1) held.submitted_is ∙ sym next;
      within = omega (arith, submitted);
      rest = less ∙ ap (drop 1) held.rest ∙ drop-drop 1 n os ∙ ap (λ k. drop k os) (sym submitted);
      last_is = last ∙ ap (λ k. last_with (n + 1) k o) held.last_is ∙ ap (λ k. last_with k (last_signal 1 0 (take n os)) o) (omega (arith, long))
          ∙ sym (last_signal_append 1 0 (take n os) o) ∙ ap (last_signal 1 0) (sym front);
      pending = signals ∙ ap (λ xs. xs ++ signal_of (n + 1) o) held.pending
          ∙ ap (λ k. signals_of (c + 1) (drop c (take n os)) ++ signal_of k o) (omega (arith, long, length-drop c (take n os)))
          ∙ sym (signals_of_append (c + 1) (drop c (take n os)) o)
          ∙ ap (signals_of (c + 1)) (sym (drop-append-le c (take n os) (o ∷ []) (omega (arith, long))))
          ∙ ap (λ xs. signals_of (c + 1) (drop c xs)) (sym front);
    }

without_first_is : (n : ℕ) (o : Operation) (os : List Operation) → without_first o (signals_of n (o ∷ os)) ≡ signals_of (n + 1) os
without_first_is n (Execute cs) os = refl
without_first_is n (Signal f v) os = refl

-- after the completion of an operation of a queue, of which so many are complete
pub held_complete : (w : World) (h : List Event) (e : Event) (v u : VkState) (q : ℕ) (x y : Queued) (o : Operation) → IsHeld w h v q x → completions_by q e ≡ 1 →
    called_by w (state_after w h).desk q e ≡ [] → counter h q < x.submitted → slice_get (operations w h q) (counter h q) ≡ Some o → u.journal ≡ v.journal →
    y.submitted ≡ x.submitted → y.last_signal ≡ x.last_signal → y.operations ≡ x.operations →
    y.signals ≡ without_first o x.signals → IsHeld w (h ++ e ∷ []) u q y
held_complete w h e v u q x y o held one none less at journal submitted last more signals =
    let os : List Operation = operations w h q in
    let c : ℕ = counter h q in
    let all : operations w (h ++ e ∷ []) q ≡ os = operations_append w (first_state w) q h e ∙ ap (λ xs. os ++ xs) none ∙ append-nil os in
    let same : counter (h ++ e ∷ []) q ≡ c + 1 = counter_append q h e ∙ omega (arith, one) in
    let front : take y.submitted (operations w (h ++ e ∷ []) q) ≡ take x.submitted os =
    ap (λ k. take k (operations w (h ++ e ∷ []) q)) submitted ∙ ap (take x.submitted) all in
    let first : slice_get (take x.submitted os) c ≡ Some o = get_of_take x.submitted os c less ∙ at in
    record {
      submitted_is = submitted ∙ held.submitted_is ∙ ap (λ j. next_number q j - 1) (sym journal);
      within = omega (arith, ap length all, held.within, submitted);
      rest = more ∙ held.rest ∙ ap (drop x.submitted) (sym all) ∙ ap (λ k. drop k (operations w (h ++ e ∷ []) q)) (sym submitted);
      last_is = last ∙ held.last_is ∙ ap (last_signal 1 0) (sym front);
      pending = signals ∙ ap (without_first o) held.pending
          ∙ ap (λ xs. without_first o (signals_of (c + 1) xs)) (drop_here c (take x.submitted os) o first)
          ∙ without_first_is (c + 1) o (drop (c + 1) (take x.submitted os))
          ∙ ap (λ k. signals_of (k + 1) (drop k (take x.submitted os))) (sym same)
          ∙ ap (λ xs. signals_of (counter (h ++ e ∷ []) q + 1) (drop (counter (h ++ e ∷ []) q) xs)) (sym front);
    }
