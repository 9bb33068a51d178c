-- A run goes on by an event, and what a run keeps.
use Rattle.std.proofs.Common.{ℕ, ◌≡◌, refl, sym, ap, ◌∙◌, subst, List, [], ◌∷◌, ◌++◌, append_assoc, append-nil}
use Rattle.d3d_machine.specs.declared.world.World.{World}
use Rattle.d3d_machine.specs.declared.calls.Reply.{Reply}
use Rattle.d3d_machine.specs.declared.calls.Reply.TheVariants as reply
use Rattle.d3d_machine.specs.declared.events.Event.{Event}
use Rattle.d3d_machine.specs.declared.events.Event.TheVariants as event
use Rattle.d3d_machine.specs.State.{State, first_state}
use Rattle.d3d_machine.specs.Replies.{reply_of}
use Rattle.d3d_machine.specs.Effects.{after, after_all}
use Rattle.d3d_machine.specs.Play.{May, Plays, SameReply, SameButWords, IsRunButWords, state_after, calls_by, calls_in}
use Rattle.d3d_machine.specs.Fences.{update_of, updates_from}

-- one event more
pub after_all_append : (w : World) (s : State) (es : List Event) (e : Event) → after_all w s (es ++ e ∷ []) ≡ after w (after_all w s es) e
after_all_append w s [] e = refl
after_all_append w s (d ∷ es) e = after_all_append w (after w s d) es e

-- a play goes on by an event that may come
pub plays_append : (Same : Reply → Reply → Type 0) (w : World) (s : State) (es : List Event) (e : Event) →
    Plays Same w s es → May Same w (after_all w s es) e → Plays Same w s (es ++ e ∷ [])
plays_append Same w s [] e p may = (may, tt)
plays_append Same w s (d ∷ es) e p may = (p.0, plays_append Same w (after w s d) es e p.1 may)

pub calls_in_append : (t : ℕ) (es : List Event) (e : Event) → calls_in t (es ++ e ∷ []) ≡ calls_in t es ++ calls_by t e
calls_in_append t [] e = append-nil (calls_by t e)
calls_in_append t (d ∷ es) e = ap (λ cs. calls_by t d ++ cs) (calls_in_append t es e) ∙ sym (append_assoc (calls_by t d) (calls_in t es) (calls_by t e))

pub updates_from_append : (w : World) (s : State) (f : ℕ) (es : List Event) (e : Event) →
    updates_from w s f (es ++ e ∷ []) ≡ updates_from w s f es ++ update_of w (after_all w s es).desk f e
updates_from_append w s f [] e = append-nil (update_of w s.desk f e)
updates_from_append w s f (d ∷ es) e =
    ap (λ us. update_of w s.desk f d ++ us) (updates_from_append w (after w s d) f es e)
    ∙ sym (append_assoc (update_of w s.desk f d) (updates_from w (after w s d) f es) (update_of w (after_all w (after w s d) es).desk f e))

-- the state after a history and one event more
pub state_after_append : (w : World) (h : List Event) (e : Event) → state_after w (h ++ e ∷ []) ≡ after w (state_after w h) e
state_after_append w h e = after_all_append w (first_state w) h e

-- a run but for words goes on by an event that may come
pub run_append : (w : World) (h : List Event) (e : Event) → IsRunButWords w h → May SameButWords w (state_after w h) e → IsRunButWords w (h ++ e ∷ [])
run_append w h e p may = plays_append SameButWords w (first_state w) h e p may

from_done : (P : List Event → Type 0) (w : World) →
    ((h : List Event) (e : Event) → IsRunButWords w h → P h → May SameButWords w (state_after w h) e → P (h ++ e ∷ [])) →
    (done rest : List Event) → IsRunButWords w done → P done → Plays SameButWords w (state_after w done) rest → P (done ++ rest)
from_done P w step done [] run holds p = subst P (sym (append-nil done)) holds
from_done P w step done (e ∷ rest) run holds p =
    subst P (append_assoc done (e ∷ []) rest)
    (from_done P w step (done ++ e ∷ []) rest (run_append w done e run p.0) (step done e run holds p.0)
    (subst (λ s. Plays SameButWords w s rest) (sym (state_after_append w done e)) p.1))

-- what holds of no event, and goes on by each event that may come, holds of every run but for words
pub run_induction : (P : List Event → Type 0) (w : World) → P [] →
    ((h : List Event) (e : Event) → IsRunButWords w h → P h → May SameButWords w (state_after w h) e → P (h ++ e ∷ [])) →
    (h : List Event) → IsRunButWords w h → P h
run_induction P w base step h run = from_done P w step [] h tt base run

reply_is_same : (r : Reply) → SameButWords r r
reply_is_same reply.Done = refl
reply_is_same (reply.Value v) = refl
reply_is_same (reply.Words ws) = refl
reply_is_same (reply.Error e) = refl

same_but_words : (r q : Reply) → r ≡ q → SameButWords r q
same_but_words r q e = subst (λ x. SameButWords r x) e (reply_is_same r)

may_but_words : (w : World) (s : State) (e : Event) → May SameReply w s e → May SameButWords w s e
may_but_words w s (event.Call t c r) m = (m.0, m.1, same_but_words r (reply_of w s c) m.2)
may_but_words w s (event.Awake t) m = m
may_but_words w s (event.Queue q) m = m

-- a run is a run but for words
pub run_but_words : (w : World) (s : State) (es : List Event) → Plays SameReply w s es → Plays SameButWords w s es
run_but_words w s [] p = tt
run_but_words w s (e ∷ es) p = (may_but_words w s e p.0, run_but_words w (after w s e) es p.1)
