-- The words of replies change nothing but the replies.
use Rattle.std.proofs.Common.{ℕ, ◌≡◌, ◌==◌, ◌∙◌, refl, sym, ap, subst, cond, Bool, true, false, List, [], ◌∷◌, ◌++◌, length, arith}
use Rattle.std.specs.Prelude.{if◌then◌else◌}
use Rattle.d3d_machine.specs.declared.world.World.{World}
use Rattle.d3d_machine.specs.declared.calls.Reply.{Reply}
use Rattle.d3d_machine.specs.declared.calls.Reply.TheVariants as reply
use Rattle.d3d_machine.specs.declared.events.Event.{Event}
use Rattle.d3d_machine.specs.declared.events.Event.TheVariants as event
use Rattle.d3d_machine.specs.State.{State, first_state}
use Rattle.d3d_machine.specs.Replies.{reply_of}
use Rattle.d3d_machine.specs.Effects.{after, after_all}
use Rattle.d3d_machine.specs.Play.{May, Plays, SameReply, SameButWords, calls_by, calls_in}
use Rattle.d3d_machine.specs.Past.{Past, after_past, past_from, first_past}
use Rattle.d3d_machine.specs.RightWords.{replaced, reply_by, righted, righted_from, WordsAreApart}

replaced_is : (xs ys : List ℕ) → length xs ≡ length ys → replaced xs ys ≡ ys
replaced_is xs ys same = grind (arith, same)

replaced_back : (xs ys : List ℕ) → replaced xs ys ≡ ys → length xs ≡ length ys
replaced_back xs ys is = grind (arith, is)

-- a reply that is the machine's but for words is that with its words
reply_is : (r q : Reply) → SameButWords r q → reply_by r q ≡ q
reply_is reply.Done q same = same
reply_is (reply.Value v) q same = same
reply_is (reply.Error e) q same = same
reply_is (reply.Words xs) reply.Done same = absurd same
reply_is (reply.Words xs) (reply.Value v) same = absurd same
reply_is (reply.Words xs) (reply.Words ys) same = ap (λ zs. reply.Words zs) (replaced_is xs ys same)
reply_is (reply.Words xs) (reply.Error e) same = absurd same

reply_back : (r q : Reply) → reply_by r q ≡ q → SameButWords r q
reply_back reply.Done q is = is
reply_back (reply.Value v) q is = is
reply_back (reply.Error e) q is = is
reply_back (reply.Words xs) reply.Done is = absurd (cc)
reply_back (reply.Words xs) (reply.Value v) is = absurd (cc)
reply_back (reply.Words xs) (reply.Words ys) is = let same : replaced xs ys ≡ ys = cc in replaced_back xs ys same
reply_back (reply.Words xs) (reply.Error e) is = absurd (cc)

may_be : (w : World) (s : State) (e : Event) → May SameButWords w s e → May SameReply w s (righted w s e)
may_be w s (event.Call t c r) m = (m.0, m.1, reply_is r (reply_of w s c) m.2)
may_be w s (event.Awake t) m = m
may_be w s (event.Queue q) m = m

may_back : (w : World) (s : State) (e : Event) → May SameReply w s (righted w s e) → May SameButWords w s e
may_back w s (event.Call t c r) m = (m.0, m.1, reply_back r (reply_of w s c) m.2)
may_back w s (event.Awake t) m = m
may_back w s (event.Queue q) m = m

after_is : (w : World) (s : State) (e : Event) → after w s (righted w s e) ≡ after w s e
after_is w s (event.Call t c r) = refl
after_is w s (event.Awake t) = refl
after_is w s (event.Queue q) = refl

-- a play but for words is one with the machine's words
plays_be : (w : World) (s : State) (h : List Event) → Plays SameButWords w s h → Plays SameReply w s (righted_from w s h)
plays_be w s [] p = tt
plays_be w s (e ∷ h) p =
    (may_be w s e p.0, subst (λ u. Plays SameReply w u (righted_from w (after w s e) h)) (sym (after_is w s e)) (plays_be w (after w s e) h p.1))

plays_back : (w : World) (s : State) (h : List Event) → Plays SameReply w s (righted_from w s h) → Plays SameButWords w s h
plays_back w s [] p = tt
plays_back w s (e ∷ h) p =
    (may_back w s e p.0, plays_back w (after w s e) h (subst (λ u. Plays SameReply w u (righted_from w (after w s e) h)) (after_is w s e) p.1))

calls_by_be : (w : World) (s : State) (t : ℕ) (e : Event) → calls_by t (righted w s e) ≡ calls_by t e
calls_by_be w s t (event.Call u c r) = refl
calls_by_be w s t (event.Awake u) = refl
calls_by_be w s t (event.Queue q) = refl

calls_be : (w : World) (s : State) (t : ℕ) (h : List Event) → calls_in t (righted_from w s h) ≡ calls_in t h
calls_be w s t [] = refl
calls_be w s t (e ∷ h) = rw (calls_by_be w s t e, calls_be w (after w s e) t h) refl

state_be : (w : World) (s : State) (h : List Event) → after_all w s (righted_from w s h) ≡ after_all w s h
state_be w s [] = refl
state_be w s (e ∷ h) = ap (λ u. after_all w u (righted_from w (after w s e) h)) (after_is w s e) ∙ state_be w (after w s e) h

after_past_be : (w : World) (p : Past) (e : Event) → after_past w p (righted w p.state e) ≡ after_past w p e
after_past_be w p (event.Call t c r) = refl
after_past_be w p (event.Awake t) = refl
after_past_be w p (event.Queue q) = refl

past_be : (w : World) (p : Past) (h : List Event) → past_from w p (righted_from w p.state h) ≡ past_from w p h
past_be w p [] = refl
past_be w p (e ∷ h) = ap (λ x. past_from w x (righted_from w (after w p.state e) h)) (after_past_be w p e) ∙ past_be w (after_past w p e) h

pub words_are_apart : WordsAreApart
words_are_apart = record {
  run = λ w h p. plays_be w (first_state w) h p;
  back = λ w h p. plays_back w (first_state w) h p;
  calls = λ w h t. calls_be w (first_state w) t h;
  state_is = λ w h. state_be w (first_state w) h;
  past_is = λ w h. past_be w (first_past w) h;
}
