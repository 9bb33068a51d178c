-- The parts of a judge behind one event more.
use Rattle.std.proofs.Common.{ℕ, suc, ◌≡◌, ◌+◌, ◌∙◌, refl, ap, sym, subst, List, [], ◌∷◌, ◌++◌, map, length, Bool, true, false, Option, Some, None, add-one}
use Rattle.std.proofs.lemmas.List.{length-append}
use Rattle.dx_base.specs.Each.{Each}
use Rattle.d3d_machine.specs.declared.calls.Call.{Call}
use Rattle.d3d_machine.specs.declared.events.Event.{Event}
use Rattle.d3d_machine.specs.declared.world.World.{World}
use Rattle.d3d_machine.specs.Effects.{desk_after}
use Rattle.d3d_machine.specs.Play.{state_after}
use Rattle.d3d_machine.specs.Replies.{refusal}
use Rattle.d3d_machine.specs.State.{State, declared_list}
use Rattle.d3d_machine.specs.Steps.{served}
use Rattle.d3d_machine.proofs.Runs.{state_after_append}
use Rattle.d3d_judge.specs.declared.judge_parts.JudgeParts.{JudgeParts}
use Rattle.verdicts.specs.declared.rules.Rule.{Rule}
use Rattle.verdicts.specs.declared.rules.Verdict.TheVariants.{Clean}
use Rattle.d3d_judge.specs.Carried.{Clocks, carried, first_clocks}
use Rattle.d3d_judge.specs.CarriedClocks.{clocks_of, AreSized, IsOfSize}
use Rattle.d3d_judge.specs.CopyScopes.{IsDone, IsShapedFor}
use Rattle.d3d_judge.specs.Happenings.{Happening, Calls, Deed, Gives, SetsFence, WaitsFor, Asks, Stores, Loads, Nothing, unless_refused, deed_of, happening_of}
use Rattle.d3d_judge.specs.Judged.{Judged, Found, found_nothing, found_in, found_in_call, judged_next, judge, judge_after}
use Rattle.d3d_judge.specs.JudgeParts.{IsSteady, Stands, found_after, IsFound, verdict_of, call_of_thread, TakesCall, CallFound}
use Rattle.d3d_judge.specs.Setting.{traits_of, setting_of}
use Rattle.d3d_judge.specs.WordTouches.{AreAllTied, AreShaped, untouched}
use Rattle.d3d_judge.proofs.Judging.{step_is, after_more}
use Rattle.d3d_judge.proofs.Steady.{steady_next, steady_first}
use Rattle.d3d_judge.proofs.TableShapes.{shaped_first}
use Rattle.d3d_judge.proofs.WordTouches.{all_tied_first}

-- the judge after one event more
pub judged_more : (w : World) (h : List Event) (e : Event) → judge w h ≡ Clean →
    judge_after w (h ++ e ∷ []) ≡ judged_next (found_after w h e).broken (found_after w h e) (carried (judge_after w h).clocks (happening_of w (state_after w h).desk e)) (judge_after w h)
judged_more w h e clean = after_more w h (e ∷ []) ∙ step_is (setting_of w) (judge_after w h) (happening_of w (state_after w h).desk e) clean

next_verdict : (o : Option Rule) (f : Found) (s : Clocks) (j : Judged) → j.verdict ≡ Clean → (judged_next o f s j).verdict ≡ verdict_of (suc j.events) o
next_verdict None f s j clean = clean
next_verdict (Some r) f s j clean = refl

-- and what is said of it
pub verdict_is : (w : World) (h : List Event) (e : Event) (r : Option Rule) (n : ℕ) → judge w h ≡ Clean → (judge_after w h).events ≡ length h → r ≡ (found_after w h e).broken → n ≡ length h + 1 →
    verdict_of n r ≡ judge w (h ++ e ∷ [])
verdict_is w h e r n clean counted is hn =
    sym (ap (λ (u : Judged). u.verdict) (judged_more w h e clean)
    ∙ (next_verdict (found_after w h e).broken (found_after w h e) (carried (judge_after w h).clocks (happening_of w (state_after w h).desk e)) (judge_after w h) clean
    ∙ (ap (λ k. verdict_of (suc k) (found_after w h e).broken) counted
    ∙ (ap (λ k. verdict_of k (found_after w h e).broken) (sym (hn ∙ add-one (length h))) ∙ ap (verdict_of n) (sym is)))))

-- the parts stand behind an event that breaks nothing
pub stands_next : (w : World) (h : List Event) (e : Event) (x new : JudgeParts) (s : Happening) (f : Found) → judge w h ≡ Clean → Stands w h x → happening_of w (state_after w h).desk e ≡ s → found_in (setting_of w) (judge_after w h) s ≡ f →
    f.broken ≡ None → IsOfSize (length w.queues) (length w.scripts) s → new.lists ≡ (desk_after w (state_after w h).desk e).lists → clocks_of new.clocks ≡ carried (clocks_of x.clocks) s →
    AreAllTied ((judge_after w h).made ++ f.touched) new.touches.resources → IsShapedFor w new.touches.resources → Each (IsDone w (carried (judge_after w h).clocks s).ends) f.touched → f.lost ≡ [] →
    Stands w (h ++ e ∷ []) new
stands_next w h e x new s f clean st hs hf none size lists clocks ties shaped done lost =
    let is : judge_after w (h ++ e ∷ []) ≡ judged_next None f (carried (judge_after w h).clocks s) (judge_after w h) =
    judged_more w h e clean
    ∙ (ap (λ y. judged_next (found_in (setting_of w) (judge_after w h) y).broken (found_in (setting_of w) (judge_after w h) y) (carried (judge_after w h).clocks y) (judge_after w h)) hs
    ∙ (ap (λ (y : Found). judged_next y.broken y (carried (judge_after w h).clocks s) (judge_after w h)) hf
    ∙ ap (λ o. judged_next o f (carried (judge_after w h).clocks s) (judge_after w h)) none)) in
    record {
      lists = lists ∙ sym (ap (λ (y : State). y.desk.lists) (state_after_append w h e));
      clocks = clocks ∙ (ap (λ y. carried y s) st.clocks ∙ sym (ap (λ (y : Judged). y.clocks) is));
      ties = subst (λ (y : Judged). AreAllTied y.made new.touches.resources) (sym is) ties;
      shaped = shaped;
      events = ap (λ (y : Judged). y.events) is ∙ (ap suc st.events ∙ sym (length-append h (e ∷ []) ∙ add-one (length h)));
      steady = subst (IsSteady w) (sym is) (steady_next w (judge_after w h) s f st.steady size done lost);
    }

pub append_none : {A : Type 0} (xs : List A) → xs ++ [] ≡ xs
append_none [] = refl
append_none (x ∷ xs) = ap (λ t. x ∷ t) (append_none xs)

-- an event that touches nothing
pub quiet_found : (w : World) (h : List Event) (e : Event) (x new : JudgeParts) (s : Happening) → judge w h ≡ Clean → Stands w h x → happening_of w (state_after w h).desk e ≡ s →
    found_in (setting_of w) (judge_after w h) s ≡ found_nothing (judge_after w h) → IsOfSize (length w.queues) (length w.scripts) s →
    new.lists ≡ (desk_after w (state_after w h).desk e).lists → clocks_of new.clocks ≡ carried (clocks_of x.clocks) s → new.touches ≡ x.touches → IsFound w h e new None
quiet_found w h e x new s clean st hs hf size lists clocks touches = record {
  rule = sym (ap (λ y. (found_in (setting_of w) (judge_after w h) y).broken) hs ∙ ap (λ (y : Found). y.broken) hf);
  goes_on = λ none. stands_next w h e x new s (found_nothing (judge_after w h)) clean st hs hf refl size lists clocks
      (subst (λ y. AreAllTied ((judge_after w h).made ++ []) y.resources) (sym touches) (subst (λ ts. AreAllTied ts x.touches.resources) (sym (append_none (judge_after w h).made)) st.ties))
      (subst (λ y. IsShapedFor w y.resources) (sym touches) st.shaped) tt st.steady.lost;
}

-- the deeds that touch nothing
abbrev pub is_quiet : Deed → Bool
is_quiet (Gives q o) = true
is_quiet (SetsFence f v) = true
is_quiet (WaitsFor f v) = true
is_quiet (Asks f) = true
is_quiet (Stores r) = false
is_quiet (Loads r) = false
is_quiet Nothing = true

pub quiet_nothing : (j : Judged) (t : ℕ) (d : Deed) → is_quiet d ≡ true → found_in_call j t d ≡ found_nothing j
quiet_nothing j t (Gives q o) e = refl
quiet_nothing j t (SetsFence f v) e = refl
quiet_nothing j t (WaitsFor f v) e = refl
quiet_nothing j t (Asks f) e = refl
quiet_nothing j t (Stores r) e = cc
quiet_nothing j t (Loads r) e = cc
quiet_nothing j t Nothing e = refl

-- a call that touches nothing
pub quiet_call : (w : World) (h : List Event) (x new : JudgeParts) (t : ℕ) (c : Call) (d : Deed) → TakesCall w h x t c → is_quiet d ≡ true →
    unless_refused (refusal w (state_after w h).desk c) (deed_of (state_after w h).desk c) ≡ d →
    new.lists ≡ (served w (state_after w h) t c).desk.lists → clocks_of new.clocks ≡ carried (clocks_of x.clocks) (Calls t d) → new.touches ≡ x.touches → CallFound w h t c new None
quiet_call w h x new t c d k quiet deed lists clocks touches reply =
    quiet_found w h (call_of_thread t c reply) x new (Calls t d) k.opened.clean k.opened.stands (ap (Calls t) deed) (quiet_nothing (judge_after w h) t d quiet) k.thread lists clocks touches

-- what the clocks of the parts need
pub clocks_sized : (w : World) (h : List Event) (x : JudgeParts) → Stands w h x → AreSized (length w.queues) (length w.scripts) (length w.fences) (clocks_of x.clocks)
clocks_sized w h x s = subst (AreSized (length w.queues) (length w.scripts) (length w.fences)) (sym s.clocks) s.steady.sized

-- before any event
pub stands_first : (w : World) (x : JudgeParts) (queues threads : ℕ) → queues ≡ length w.queues → threads ≡ length w.scripts → x.lists ≡ map (λ _. declared_list) w.lists → clocks_of x.clocks ≡ first_clocks w →
    x.touches.resources ≡ untouched queues threads (map traits_of w.resources) → Stands w [] x
stands_first w x queues threads hq ht lists clocks touches = record {
  lists = lists;
  clocks = clocks;
  ties = subst (AreAllTied []) (sym touches) (all_tied_first queues threads (map traits_of w.resources));
  shaped = subst (λ k. AreShaped k (length w.scripts) (map traits_of w.resources) x.touches.resources) hq
      (subst (λ k. AreShaped queues k (map traits_of w.resources) x.touches.resources) ht
      (subst (AreShaped queues threads (map traits_of w.resources)) (sym touches) (shaped_first queues threads (map traits_of w.resources))));
  events = refl;
  steady = steady_first w;
}

pub only_clean : (n : ℕ) (r : Option Rule) → verdict_of n r ≡ Clean → r ≡ None
only_clean n None e = refl
only_clean n (Some r) e = cc
