-- Histories with the words of the replies that the machine gives.
use Rattle.std.specs.Prelude.{ℕ, ◌≡◌, ◌==◌, List, [], ◌∷◌, length, if◌then◌else◌}
use Rattle.d3d_machine.specs.declared.world.World.{World}
use Rattle.d3d_machine.specs.declared.calls.Reply.{Reply}
use Rattle.d3d_machine.specs.declared.calls.Reply.TheVariants as reply
use Rattle.d3d_machine.specs.declared.events.Event.{Event}
use Rattle.d3d_machine.specs.declared.events.Event.TheVariants as event
use Rattle.d3d_machine.specs.State.{State, first_state}
use Rattle.d3d_machine.specs.Replies.{reply_of}
use Rattle.d3d_machine.specs.Effects.{after}
use Rattle.d3d_machine.specs.Play.{IsRun, IsRunButWords, state_after, calls_in}
use Rattle.d3d_machine.specs.Past.{past}

-- the numbers of words, replaced by as many others
abbrev pub replaced : List ℕ → List ℕ → List ℕ
replaced xs ys = if (length xs == length ys) then ys else xs

-- words that were read, with the numbers of another reply
abbrev pub words_by : List ℕ → Reply → Reply
words_by xs reply.Done = reply.Words xs
words_by xs (reply.Value v) = reply.Words xs
words_by xs (reply.Words ys) = reply.Words (replaced xs ys)
words_by xs (reply.Error e) = reply.Words xs

-- a reply whose words, where it has any, have the numbers of another; any other reply stays
abbrev pub reply_by : Reply → Reply → Reply
reply_by reply.Done r = reply.Done
reply_by (reply.Value v) r = reply.Value v
reply_by (reply.Words xs) r = words_by xs r
reply_by (reply.Error e) r = reply.Error e

-- an event whose words are those that the machine answers in a state
abbrev pub righted : World → State → Event → Event
righted w s (event.Call t c r) = event.Call t c (reply_by r (reply_of w s c))
righted w s (event.Awake t) = event.Awake t
righted w s (event.Queue q) = event.Queue q

abbrev pub righted_from : World → State → List Event → List Event
righted_from w s [] = []
righted_from w s (e ∷ h) = righted w s e ∷ righted_from w (after w s e) h

-- the history whose replies have the words that the machine gives, and are the same in all else
abbrev pub with_right_words : World → List Event → List Event
with_right_words w h = righted_from w (first_state w) h

-- a history is a run but for words exactly where it is a run with the machine's words; and these change neither the calls
-- of a thread, nor the state with its marks, nor the past
pub record WordsAreApart : Type 0 where
  pub run : (w : World) (h : List Event) → IsRunButWords w h → IsRun w (with_right_words w h)
  pub back : (w : World) (h : List Event) → IsRun w (with_right_words w h) → IsRunButWords w h
  pub calls : (w : World) (h : List Event) (t : ℕ) → calls_in t (with_right_words w h) ≡ calls_in t h
  pub state_is : (w : World) (h : List Event) → state_after w (with_right_words w h) ≡ state_after w h
  pub past_is : (w : World) (h : List Event) → past w (with_right_words w h) ≡ past w h
