-- No reply plays a part.
use Rattle.std.proofs.Common.{◌≡◌, ◌∙◌, List, [], ◌∷◌, map, refl, ap}
use Rattle.d3d_machine.specs.declared.calls.Reply.{Reply}
use Rattle.d3d_machine.specs.declared.events.Event.{Event}
use Rattle.d3d_machine.specs.declared.events.Event.TheVariants as event
use Rattle.d3d_machine.specs.declared.world.World.{World}
use Rattle.d3d_machine.specs.State.{State, first_state}
use Rattle.d3d_machine.specs.Effects.{after}
use Rattle.d3d_machine.specs.RightWords.{righted, righted_from}
use Rattle.d3d_judge.specs.Judged.{judge, judge_happenings}
use Rattle.d3d_judge.specs.Carried.{carried_all, first_clocks}
use Rattle.d3d_judge.specs.Happenings.{happening_of, happenings_from, with_reply}
use Rattle.d3d_judge.specs.Laws.{RightWordsPlayNoPart}
use Rattle.d3d_judge.specs.Setting.{setting_of}

same_happening : (w : World) (s : State) (r : Reply) (e : Event) → happening_of w s.desk (with_reply r e) ≡ happening_of w s.desk e
same_happening w s r (event.Call t c old) = refl
same_happening w s r (event.Awake t) = refl
same_happening w s r (event.Queue q) = refl

same_after : (w : World) (s : State) (r : Reply) (e : Event) → after w s (with_reply r e) ≡ after w s e
same_after w s r (event.Call t c old) = refl
same_after w s r (event.Awake t) = refl
same_after w s r (event.Queue q) = refl

same_happenings : (w : World) (s : State) (r : Reply) (h : List Event) → happenings_from w s (map (with_reply r) h) ≡ happenings_from w s h
same_happenings w s r [] = refl
same_happenings w s r (e ∷ h) =
    ap (λ m. m ∷ happenings_from w (after w s (with_reply r e)) (map (with_reply r) h)) (same_happening w s r e)
    ∙ ap (λ u. happening_of w s.desk e ∷ happenings_from w u (map (with_reply r) h)) (same_after w s r e)
    ∙ ap (λ ms. happening_of w s.desk e ∷ ms) (same_happenings w (after w s e) r h)

pub replies_play_no_part : (w : World) (h : List Event) (r : Reply) → judge w (map (with_reply r) h) ≡ judge w h
replies_play_no_part w h r = ap (judge_happenings (setting_of w)) (same_happenings w (first_state w) r h)

right_happening : (w : World) (s : State) (e : Event) → happening_of w s.desk (righted w s e) ≡ happening_of w s.desk e
right_happening w s (event.Call t c r) = refl
right_happening w s (event.Awake t) = refl
right_happening w s (event.Queue q) = refl

right_after : (w : World) (s : State) (e : Event) → after w s (righted w s e) ≡ after w s e
right_after w s (event.Call t c r) = refl
right_after w s (event.Awake t) = refl
right_after w s (event.Queue q) = refl

right_happenings : (w : World) (s : State) (h : List Event) → happenings_from w s (righted_from w s h) ≡ happenings_from w s h
right_happenings w s [] = refl
right_happenings w s (e ∷ h) =
    ap (λ m. m ∷ happenings_from w (after w s (righted w s e)) (righted_from w (after w s e) h)) (right_happening w s e)
    ∙ ap (λ u. happening_of w s.desk e ∷ happenings_from w u (righted_from w (after w s e) h)) (right_after w s e)
    ∙ ap (λ ms. happening_of w s.desk e ∷ ms) (right_happenings w (after w s e) h)

pub right_words_play_no_part : RightWordsPlayNoPart
right_words_play_no_part = record {
  clocks = λ w h. ap (carried_all (first_clocks w)) (right_happenings w (first_state w) h);
  verdict = λ w h. ap (judge_happenings (setting_of w)) (right_happenings w (first_state w) h);
}
