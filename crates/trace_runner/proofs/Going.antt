-- Choices lead on, one step at a time.
use Rattle.std.proofs.Common.{ℕ, zero, suc, ◌≡◌, ◌+◌, ◌∙◌, sym, ap, subst, refl, arith, List, [], ◌∷◌, ◌++◌, length, take, ◌⊎◌, inl, inr}
use Rattle.std.proofs.lemmas.List.{length-append}
use Rattle.dx_base.specs.declared.steps.Step.{Step}
use Rattle.d3d_machine.specs.declared.world.World.{World}
use Rattle.d3d_machine.specs.declared.events.Event.{Event}
use Rattle.vk_port.specs.DeviceView.{DeviceView}
use Rattle.vk_port.specs.Machine.{shown}
use Rattle.sys_core.specs.Goes.{SysState, state_of, Chooses, Goes}
use Rattle.sys_core.specs.Keeps.{SysView}
use Rattle.sys_core.specs.Opened.{opened}
use Rattle.sys_core.specs.StepCount.{rest_used, AreCounted}
use Rattle.sys_core.proofs.StepCount.{counted_first, counted_more}
use Rattle.trace_runner.specs.declared.log.Log.{Log}
use Rattle.trace_runner.specs.Steps.{TookStep, TookNone, opening, Went}

-- one more choice
goes_more : (w : World) (a : ℕ) (s : SysState) (cs : List ℕ) (ks : List Step) (b : ℕ) (t u : SysState) (c now : ℕ) → Goes w a s cs ks b t → (m : Chooses w b c t u) →
    b ≡ now + rest_used (shown t.machine) m.step → Goes w a s (cs ++ c ∷ []) (ks ++ m.step ∷ []) now u
goes_more w a s [] [] b t u c now goes m used =
    subst (λ n. Goes w n s (c ∷ []) (m.step ∷ []) now u) (sym goes.1)
    (subst (λ x. Goes w b x (c ∷ []) (m.step ∷ []) now u) (sym goes.0) (u, now, m, refl, used, (refl, refl)))
goes_more w a s [] (j ∷ ks) b t u c now goes m used = absurd goes
goes_more w a s (d ∷ cs) [] b t u c now goes m used = absurd goes
goes_more w a s (d ∷ cs) (j ∷ ks) b t u c now goes m used = (goes.0, goes.1, goes.2, goes.3, goes.4, goes_more w goes.1 goes.0 cs ks b t u c now goes.5 m used)

-- the first items of a list: all of them, and those before one more
take_all : {A : Type 0} (n : ℕ) (xs : List A) → length xs ≡ n → take n xs ≡ xs
take_all zero [] is = refl
take_all zero (x ∷ xs) is = absurd (omega (arith, is))
take_all (suc n) [] is = absurd (omega (arith, is))
take_all (suc n) (x ∷ xs) is = ap (λ ys. x ∷ ys) (take_all n xs (omega (arith, is)))

take_front : {A : Type 0} (n : ℕ) (xs ys : List A) → length xs ≡ n → take n (xs ++ ys) ≡ xs
take_front zero [] ys is = refl
take_front zero (x ∷ xs) ys is = absurd (omega (arith, is))
take_front (suc n) [] ys is = absurd (omega (arith, is))
take_front (suc n) (x ∷ xs) ys is = ap (λ zs. x ∷ zs) (take_front n xs ys (omega (arith, is)))

-- before any step
pub went_first : (w : World) (rest : ℕ) (choices : List ℕ) (taken : List Step) (h : List Event) (d : DeviceView) → d.rest ≡ rest → choices ≡ [] → taken ≡ [] → h ≡ [] → d.state ≡ opened w →
    Went w rest choices taken h d
went_first w rest choices taken h d same none_drawn none_taken no_events is =
    subst (λ cs. Went w rest cs taken h d) (sym none_drawn)
    (subst (λ ks. Went w rest [] ks h d) (sym none_taken)
    (subst (λ es. Went w rest [] [] es d) (sym no_events)
    (record {
      goes = (ap (λ m. let s : SysState = record { history = []; machine = m } in s) (sym is), sym same);
      drawn = inl refl;
      counted = subst (λ n. AreCounted w rest n 0 [] (shown d.state)) (sym same) (subst (λ m. AreCounted w rest rest 0 [] (shown m)) (sym is) (counted_first w rest));
    })))

-- there are as many choices as steps behind one more of each
pub still_equal : {D : Type 0} (s u : SysView D) (before after : Log) → length before.choices.items ≡ length before.taken.items →
    (took : TookStep s u before after) → length after.choices.items ≡ length after.taken.items
still_equal s u before after equal took =
    ap length took.choices
    ∙ (let e : length (before.choices.items ++ took.choice ∷ []) ≡ length (before.taken.items ++ took.chooses.step ∷ []) =
    omega (arith, equal, length-append before.choices.items (took.choice ∷ []), length-append before.taken.items (took.chooses.step ∷ [])) in e)
    ∙ sym (ap length took.steps)

module _ {D : Type 0} (s u : SysView D) (before after : Log) (rest : ℕ)
    (went : Went s.world rest before.choices.items before.taken.items s.history s.device) (equal : length before.choices.items ≡ length before.taken.items) where
  -- a step was taken
  pub went_on : (took : TookStep s u before after) → Went u.world rest after.choices.items after.taken.items u.history u.device
  went_on took =
      let cs : List ℕ = before.choices.items in
      let ks : List Step = before.taken.items in
      let k : Step = took.chooses.step in
      let goes : Goes s.world rest (opening s.world) cs ks s.device.rest (state_of s) =
      subst (λ xs. Goes s.world rest (opening s.world) xs ks s.device.rest (state_of s)) (take_all (length ks) cs equal) went.goes in
      let more : Goes s.world rest (opening s.world) (cs ++ took.choice ∷ []) (ks ++ k ∷ []) u.device.rest (state_of u) =
      goes_more s.world rest (opening s.world) cs ks s.device.rest (state_of s) (state_of u) took.choice u.device.rest goes took.chooses took.taken.rest in
      let long : length (cs ++ took.choice ∷ []) ≡ length (ks ++ k ∷ []) = omega (arith, equal, length-append cs (took.choice ∷ []), length-append ks (k ∷ [])) in
      let all : take (length (ks ++ k ∷ [])) (cs ++ took.choice ∷ []) ≡ cs ++ took.choice ∷ [] = take_all (length (ks ++ k ∷ [])) (cs ++ took.choice ∷ []) long in
      let steps : length (ks ++ k ∷ []) ≡ length ks + 1 = length-append ks (k ∷ []) in
      subst (λ w. Went w rest after.choices.items after.taken.items u.history u.device) (sym took.taken.world)
      (subst (λ xs. Went s.world rest xs after.taken.items u.history u.device) (sym took.choices)
      (subst (λ ys. Went s.world rest (cs ++ took.choice ∷ []) ys u.history u.device) (sym took.steps)
      (record {
        goes = subst (λ xs. Goes s.world rest (opening s.world) xs (ks ++ k ∷ []) u.device.rest (state_of u)) (sym all) more;
        drawn = inl long;
        counted = counted_more s.world rest s.device.rest u.device.rest (length ks) (length (ks ++ k ∷ [])) (state_of s) (state_of u) steps went.counted took.taken.counts;
      })))

  -- no step was taken
  pub went_still : (none : TookNone s u before after) → Went u.world rest after.choices.items after.taken.items u.history u.device
  went_still none =
      let cs : List ℕ = before.choices.items in
      let ks : List Step = before.taken.items in
      let here : (xs : List ℕ) → take (length ks) xs ≡ cs → (length xs ≡ length ks) ⊎ (length xs ≡ length ks + 1) → Went s.world rest xs ks s.history (record s.device { faults = u.device.faults }) =
      λ xs first drawn. record {
        goes = subst (λ ys. Goes s.world rest (opening s.world) ys ks s.device.rest (state_of s)) (take_all (length ks) cs equal ∙ sym first) went.goes;
        drawn = drawn;
        counted = went.counted;
      } in
      subst (λ w. Went w rest after.choices.items after.taken.items u.history u.device) (sym none.stays.world)
      (subst (λ h. Went s.world rest after.choices.items after.taken.items h u.device) (sym none.stays.history)
      (subst (λ d. Went s.world rest after.choices.items after.taken.items s.history d) (sym none.stays.device)
      (subst (λ ys. Went s.world rest after.choices.items ys s.history (record s.device { faults = u.device.faults })) (sym none.taken)
      (elim none.drawn [
        | inl same ↦ subst (λ xs. Went s.world rest xs ks s.history (record s.device { faults = u.device.faults })) (sym same) (here cs (take_all (length ks) cs equal) (inl equal))
        | inr more ↦
            subst (λ xs. Went s.world rest xs ks s.history (record s.device { faults = u.device.faults })) (sym more.1)
            (here (cs ++ more.0 ∷ []) (take_front (length ks) cs (more.0 ∷ []) equal) (inr (omega (arith, equal, length-append cs (more.0 ∷ [])))))
      ]))))
