-- What a clean verdict tells of the last event.
use Rattle.std.proofs.Common.{ℕ, suc, ◌≡◌, ◌∙◌, List, [], ◌∷◌, ◌++◌, subst, ap, refl, arith, Option, Some, None, append_assoc, append-nil, sym}
use Rattle.dx_base.specs.Each.{Each}
use Rattle.clocks.specs.Clocks.{OfQueue}
use Rattle.d3d_machine.specs.declared.events.Event.{Event}
use Rattle.d3d_machine.specs.declared.events.Event.TheVariants as event
use Rattle.d3d_machine.specs.declared.world.World.{World}
use Rattle.d3d_machine.specs.State.{State, first_state}
use Rattle.d3d_machine.specs.Effects.{after, after_all}
use Rattle.d3d_machine.specs.Play.{state_after}
use Rattle.d3d_judge.specs.Made.{made_in_work, made_in_head, made_in_call, made_by, made_from}
use Rattle.verdicts.specs.declared.rules.Rule.{Rule}
use Rattle.verdicts.specs.declared.rules.Verdict.{Verdict}
use Rattle.verdicts.specs.declared.rules.Verdict.TheVariants.{Clean, Broken}
use Rattle.d3d_judge.specs.Carried.{Clocks, Pending, head_of, next_number, queue_joined, carried, carried_all, clocks_after, first_clocks}
use Rattle.d3d_judge.specs.Commands.{Command}
use Rattle.d3d_judge.specs.Covering.{Known}
use Rattle.d3d_judge.specs.Judged.{Judged, Found, scope_of, found_in, found_in_head, found_in_work, judged_next, unless_broken, judge_step, judge_all, first_judged, judge, judge_after, found_in_call}
use Rattle.d3d_judge.specs.Happenings.{Happening, Completes, Executes, happening_of, happenings_from, happenings, Calls, Wakes, Deed, Gives, SetsFence, WaitsFor, Asks, Stores, Loads, Nothing, Work, Signals, Waits}
use Rattle.d3d_judge.specs.Scopes.{first_scope}
use Rattle.d3d_judge.specs.Setting.{Setting, setting_of}
use Rattle.d3d_judge.proofs.Knowing.{scope_knows}
use Rattle.d3d_judge.proofs.Opening.{touches_all}

verdict_cases : {P : Type 0} (v : Verdict) → (v ≡ Clean → P) → ((r : Rule) (n : ℕ) → v ≡ Broken r n → P) → P
verdict_cases {P} Clean f g = f refl
verdict_cases {P} (Broken r n) f g = g r n refl

not_both : {P : Type 0} (v : Verdict) (r : Rule) (n : ℕ) → v ≡ Broken r n → v ≡ Clean → P
not_both v r n b c = absurd (grind (arith, b, c))

module _ (base : Setting) where
  judge_append : (j : Judged) (es more : List Happening) → judge_all base j (es ++ more) ≡ judge_all base (judge_all base j es) more
  judge_append j [] more = refl
  judge_append j (d ∷ es) more = judge_append (judge_step base j d) es more

  -- a clean verdict after an event: it was clean before
  pub step_was_clean : (j : Judged) (e : Happening) → (judge_step base j e).verdict ≡ Clean → j.verdict ≡ Clean
  step_was_clean j e h =
      verdict_cases j.verdict (λ c. c)
      (λ r n b. not_both j.verdict r n b (subst (λ v. (unless_broken v (judged_next (found_in base j e).broken (found_in base j e) (carried j.clocks e) j) j).verdict ≡ Clean) b h))

  pub step_is : (j : Judged) (e : Happening) → j.verdict ≡ Clean → judge_step base j e ≡ judged_next (found_in base j e).broken (found_in base j e) (carried j.clocks e) j
  step_is j e c = ap (λ v. unless_broken v (judged_next (found_in base j e).broken (found_in base j e) (carried j.clocks e) j) j) c

  nothing_found : (o : Option Rule) (f : Found) (s : Clocks) (j : Judged) → (judged_next o f s j).verdict ≡ Clean → o ≡ None
  nothing_found None f s j h = refl
  nothing_found (Some r) f s j h = not_both (Broken r (suc j.events)) r (suc j.events) refl h

  -- and the event broke nothing
  pub step_finds_nothing : (j : Judged) (e : Happening) → (judge_step base j e).verdict ≡ Clean → (found_in base j e).broken ≡ None
  step_finds_nothing j e h =
      nothing_found (found_in base j e).broken (found_in base j e) (carried j.clocks e) j
      (subst (λ (u : Judged). u.verdict ≡ Clean) (step_is j e (step_was_clean j e h)) h)

  step_clocks : (j : Judged) (e : Happening) → (judge_step base j e).verdict ≡ Clean → (judge_step base j e).clocks ≡ carried j.clocks e
  step_clocks j e h =
      ap (λ (u : Judged). u.clocks) (step_is j e (step_was_clean j e h))
      ∙ ap (λ o. (judged_next o (found_in base j e) (carried j.clocks e) j).clocks) (step_finds_nothing j e h)

  -- a broken verdict stays
  broken_step : (j : Judged) (e : Happening) (r : Rule) (n : ℕ) → j.verdict ≡ Broken r n → (judge_step base j e).verdict ≡ Broken r n
  broken_step j e r n b =
      ap (λ v. (unless_broken v (judged_next (found_in base j e).broken (found_in base j e) (carried j.clocks e) j) j).verdict) b ∙ b

  broken_all : (j : Judged) (es : List Happening) (r : Rule) (n : ℕ) → j.verdict ≡ Broken r n → (judge_all base j es).verdict ≡ Broken r n
  broken_all j [] r n b = b
  broken_all j (e ∷ es) r n b = broken_all (judge_step base j e) es r n (broken_step j e r n b)

  pub was_clean_all : (j : Judged) (es : List Happening) → (judge_all base j es).verdict ≡ Clean → j.verdict ≡ Clean
  was_clean_all j es h = verdict_cases j.verdict (λ c. c) (λ r n b. not_both (judge_all base j es).verdict r n (broken_all j es r n b) h)

  clocks_all : (j : Judged) (es : List Happening) → (judge_all base j es).verdict ≡ Clean → (judge_all base j es).clocks ≡ carried_all j.clocks es
  clocks_all j [] h = refl
  clocks_all j (e ∷ es) h =
      clocks_all (judge_step base j e) es h ∙ ap (λ s. carried_all s es) (step_clocks j e (was_clean_all (judge_step base j e) es h))

  work_touched : (j : Judged) (q : ℕ) (p : Pending) (o : Work) → (found_in_work base j q p o).broken ≡ None → (found_in_work base j q p o).touched ≡ made_in_work base j.clocks q o
  work_touched j q p (Executes cs) e =
      touches_all base j.made (queue_joined j.clocks q p) (OfQueue q (next_number j.clocks q)) (first_scope j.layouts j.lost) cs e
  work_touched j q p (Signals f v) e = refl
  work_touched j q p (Waits f v) e = refl

  head_touched : (j : Judged) (q : ℕ) (o : Option Pending) → (found_in_head base j q o).broken ≡ None → (found_in_head base j q o).touched ≡ made_in_head base j.clocks q o
  head_touched j q None e = refl
  head_touched j q (Some p) e = work_touched j q p p.what e

  call_touched : (j : Judged) (t : ℕ) (what : Deed) → (found_in_call j t what).touched ≡ made_in_call j.clocks t what
  call_touched j t (Gives q o) = refl
  call_touched j t (SetsFence f v) = refl
  call_touched j t (WaitsFor f v) = refl
  call_touched j t (Asks f) = refl
  call_touched j t (Stores r) = refl
  call_touched j t (Loads r) = refl
  call_touched j t Nothing = refl

  -- what is found of an event that breaks nothing is what it touches
  found_touched : (j : Judged) (e : Happening) → (found_in base j e).broken ≡ None → (found_in base j e).touched ≡ made_by base j.clocks e
  found_touched j (Calls t what) h = call_touched j t what
  found_touched j (Wakes t) h = refl
  found_touched j (Completes q) h = head_touched j q (head_of j.clocks q) h

  step_made : (j : Judged) (e : Happening) → (judge_step base j e).verdict ≡ Clean → (judge_step base j e).made ≡ j.made ++ made_by base j.clocks e
  step_made j e h =
      ap (λ (u : Judged). u.made) (step_is j e (step_was_clean j e h))
      ∙ (ap (λ o. (judged_next o (found_in base j e) (carried j.clocks e) j).made) (step_finds_nothing j e h)
      ∙ ap (λ ts. j.made ++ ts) (found_touched j e (step_finds_nothing j e h)))

  made_all : (j : Judged) (es : List Happening) → (judge_all base j es).verdict ≡ Clean → (judge_all base j es).made ≡ j.made ++ made_from base j.clocks es
  made_all j [] h = sym (append-nil j.made)
  made_all j (e ∷ es) h =
      let c : (judge_step base j e).verdict ≡ Clean = was_clean_all (judge_step base j e) es h in
      made_all (judge_step base j e) es h
      ∙ (ap (λ ts. ts ++ made_from base (judge_step base j e).clocks es) (step_made j e c)
      ∙ (ap (λ s. (j.made ++ made_by base j.clocks e) ++ made_from base s es) (step_clocks j e c)
      ∙ append_assoc j.made (made_by base j.clocks e) (made_from base (carried j.clocks e) es)))

  execute_knows : (j : Judged) (q : ℕ) (p : Pending) (cs : List Command) → (judge_step base j (Completes q)).verdict ≡ Clean →
      head_of j.clocks q ≡ Some p → p.what ≡ Executes cs → Each (Known (queue_joined j.clocks q p) j.made) (scope_of base j q p cs).touched
  execute_knows j q p cs v h o =
      let a : (found_in_head base j q (head_of j.clocks q)).broken ≡ None = step_finds_nothing j (Completes q) v in
      let b : (found_in_work base j q p p.what).broken ≡ None = subst (λ x. (found_in_head base j q x).broken ≡ None) h a in
      let d : (found_in_work base j q p (Executes cs)).broken ≡ None = subst (λ x. (found_in_work base j q p x).broken ≡ None) o b in
      scope_knows base j.made (queue_joined j.clocks q p) (OfQueue q (next_number j.clocks q)) (first_scope j.layouts j.lost) cs refl refl d

-- what more events are
happenings_append : (w : World) (s : State) (h more : List Event) → happenings_from w s (h ++ more) ≡ happenings_from w s h ++ happenings_from w (after_all w s h) more
happenings_append w s [] more = refl
happenings_append w s (e ∷ h) more = ap (λ t. happening_of w s.desk e ∷ t) (happenings_append w (after w s e) h more)

pub after_more : (w : World) (h more : List Event) → judge_after w (h ++ more) ≡ judge_all (setting_of w) (judge_after w h) (happenings_from w (state_after w h) more)
after_more w h more =
    ap (judge_all (setting_of w) (first_judged (setting_of w))) (happenings_append w (first_state w) h more)
    ∙ judge_append (setting_of w) (first_judged (setting_of w)) (happenings w h) (happenings_from w (state_after w h) more)

pub clean_executes_know : (w : World) (h : List Event) (q : ℕ) (p : Pending) (cs : List Command) →
    judge w (h ++ event.Queue (record { 0 = q }) ∷ []) ≡ Clean →
    head_of (judge_after w h).clocks q ≡ Some p → p.what ≡ Executes cs →
    Each (Known (queue_joined (judge_after w h).clocks q p) (judge_after w h).made) (scope_of (setting_of w) (judge_after w h) q p cs).touched
clean_executes_know w h q p cs v =
    execute_knows (setting_of w) (judge_after w h) q p cs (subst (λ (u : Judged). u.verdict ≡ Clean) (after_more w h (event.Queue (record { 0 = q }) ∷ [])) v)

pub clean_clocks_are : (w : World) (h : List Event) → judge w h ≡ Clean → (judge_after w h).clocks ≡ clocks_after w h
clean_clocks_are w h v = clocks_all (setting_of w) (first_judged (setting_of w)) (happenings w h) v

pub broken_stays : (w : World) (h more : List Event) (r : Rule) (n : ℕ) → judge w h ≡ Broken r n → judge w (h ++ more) ≡ Broken r n
broken_stays w h more r n b =
    ap (λ (u : Judged). u.verdict) (after_more w h more) ∙ broken_all (setting_of w) (judge_after w h) (happenings_from w (state_after w h) more) r n b

pub made_is_all : (w : World) (h : List Event) → judge w h ≡ Clean → (judge_after w h).made ≡ made_from (setting_of w) (first_clocks w) (happenings w h)
made_is_all w h v = made_all (setting_of w) (first_judged (setting_of w)) (happenings w h) v
