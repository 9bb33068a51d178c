-- A reply with words that agree with the numbers that the host reads is the machine's but for words, and with them where the
-- numbers are the memory's words.
use Rattle.std.proofs.Common.{ℕ, suc, ◌≡◌, ◌+◌, ◌∙◌, ◌/◌, sym, ap, subst, refl, arith, List, [], ◌∷◌, length, map, take, drop, Some, None, Option, Bool, length-take, length-drop}
use Rattle.std.specs.List.{slice_get}
use Rattle.dx_base.specs.Effects.{At, unless}
use Rattle.dx_base.specs.Lists.{range_of}
use Rattle.dx_base.specs.declared.hresult.Hresult.{Hresult}
use Rattle.dx_base.proofs.Effects.{unless_refused}
use Rattle.d3d_machine.specs.declared.world.World.{World}
use Rattle.d3d_machine.specs.declared.world.Resource.{Resource}
use Rattle.d3d_machine.specs.declared.calls.Call.{Call}
use Rattle.d3d_machine.specs.declared.calls.Call.TheVariants as call
use Rattle.d3d_machine.specs.declared.calls.Reply.{Reply}
use Rattle.d3d_machine.specs.declared.calls.Reply.TheVariants as reply
use Rattle.d3d_machine.specs.declared.events.Listed.{Listed}
use Rattle.d3d_machine.specs.CallEffects.{does}
use Rattle.d3d_machine.specs.Effects.{done}
use Rattle.d3d_machine.specs.Play.{SameButWords}
use Rattle.d3d_machine.specs.Replies.{refusal_by, reply_or, good_reply, reply_of}
use Rattle.d3d_machine.specs.State.{Desk, State, value_of, words_at}
use Rattle.d3d_machine.specs.World.{resource_of, words_of_resource}
use Rattle.d3d_machine.specs.Past.{last_of}
use Rattle.vk_sync_rules.specs.declared.ranges.VkResource.TheVariants.{Buffer}
use Rattle.vk_sync_rules.specs.NextState.{where_seen}
use Rattle.vk_sync_rules.specs.Numbers.{numbers_in}
use Rattle.vk_sync_rules.specs.VkState.{VkState as Machine}
use Rattle.vk_port.specs.Agreement.{Agree, host_numbers, sees_word}
use Rattle.sys_core.specs.Host.{Answers, IsReply, state_by}
use Rattle.sys_core.specs.Lowering.{plan_number}
use Rattle.sys_core.specs.Machine.{HasBuffers}
use Rattle.sys_core.specs.ThreadSteps.{HasWords}
use Rattle.sys_core.proofs.Inside.{read_lives}

agree_long : (xs : List ℕ) (ns : List (Option ℕ)) → Agree xs ns → length xs ≡ length ns
agree_long [] [] are = refl
agree_long [] (n ∷ ns) are = absurd are
agree_long (x ∷ xs) [] are = absurd are
agree_long (x ∷ xs) (n ∷ ns) are = ap suc (agree_long xs ns are.1)

seen_long : (test : ℕ → Bool) (k : ℕ) (ns : List (Option ℕ)) → length (where_seen test k ns) ≡ length ns
seen_long test k [] = refl
seen_long test k (n ∷ ns) = ap suc (seen_long test (k + 1) ns)

-- the memory's words of each live resource are as many as it has
abbrev pub IsLong : World → List (List ℕ) → Type 0
IsLong w memory = (b : ℕ) (x : Resource) → resource_of w b ≡ Some x → length (words_at memory b) ≡ words_of_resource x

-- words that agree with what the host reads of a live resource are as many as the memory's
read_long : (w : World) (m : Machine) (memory : List (List ℕ)) (b first count : ℕ) (x : Resource) (ws : List ℕ) → HasBuffers w m → IsLong w memory → resource_of w b ≡ Some x →
    Agree ws (host_numbers m (plan_number w b) first count) → length ws ≡ length (range_of first count (words_at memory b))
read_long w m memory b first count x ws has long lives agree =
    let ns : List (Option ℕ) = numbers_in m.numbers (Buffer (plan_number w b)) in
    let mine : length ws ≡ length (take count (drop first ns)) =
    agree_long ws (host_numbers m (plan_number w b) first count) agree ∙ seen_long (sees_word m (plan_number w b)) first (take count (drop first ns)) in
    omega (
      arith,
      mine,
      length-take count (drop first ns),
      length-drop first ns,
      length-take count (drop first (words_at memory b)),
      length-drop first (words_at memory b),
      has.long b x lives,
      long b x lives,
    )

is_same : (r b : Reply) → SameButWords b b → r ≡ b → SameButWords r b
is_same r b self is = subst (λ x. SameButWords x b) (sym is) self

-- the value of a fence, in two desks whose fences have one value
value_replied : (f : ℕ) (d k : Desk) → d.fences ≡ k.fences → reply.Value (value_of d f) ≡ reply.Value (value_of k f)
value_replied f d k values = ap (λ vs. reply.Value (elim (slice_get vs f) [ None ↦ 0 | Some v ↦ v ])) values

module _ (w : World) (m : Machine) (s : State) (fences : List (List ℕ)) where
  by_refusal : (c : Call) (o : Option Hresult) (r : Reply) → refusal_by w s.desk.lists c ≡ o → map last_of fences ≡ s.desk.fences → HasBuffers w m → IsLong w s.memory →
      Answers w m (unless (does c).reads o) (reply_or o (good_reply (state_by s.desk.lists fences) c)) r → SameButWords r (reply_or o (good_reply s c))
  by_refusal c (Some e) r is values has long answers =
      is_same r (reply.Error e) refl (subst (λ x. Answers w m x (reply.Error e) r) (unless_refused (does c).reads e) answers)
  by_refusal (call.Recording l what) None r is values has long answers = is_same r reply.Done refl answers
  by_refusal (call.Close l) None r is values has long answers = is_same r reply.Done refl answers
  by_refusal (call.Reset l a) None r is values has long answers = is_same r reply.Done refl answers
  by_refusal (call.Execute q ls) None r is values has long answers = is_same r reply.Done refl answers
  by_refusal (call.Signal q f n) None r is values has long answers = is_same r reply.Done refl answers
  by_refusal (call.HostSignal f n) None r is values has long answers = is_same r reply.Done refl answers
  by_refusal (call.HostWait f n) None r is values has long answers = is_same r reply.Done refl answers
  by_refusal (call.Write b offset ws) None r is values has long answers = is_same r reply.Done refl answers
  by_refusal (call.Value f) None r is values has long answers =
      is_same r (reply.Value (value_of s.desk f.0)) refl (answers ∙ value_replied f.0 (state_by s.desk.lists fences).desk s.desk values)
  by_refusal (call.Read b offset bytes) None r is values has long answers =
      let lives : (x : Resource) × (resource_of w b.0 ≡ Some x) = read_lives w b.0 offset bytes is in
      let ys : List ℕ = range_of (offset / 4) (bytes / 4) (words_at s.memory b.0) in
      subst (λ x. SameButWords x (reply.Words ys)) (sym answers.reply_is)
      (read_long w m s.memory b.0 (offset / 4) (bytes / 4) lives.0 answers.words has long lives.1 answers.agree)

  -- a reply by the fences' updates and what the host reads is the machine's but for the words
  pub replies_alike : (lists : List Listed) (c : Call) (r : Reply) → lists ≡ s.desk.lists → map last_of fences ≡ s.desk.fences → HasBuffers w m → IsLong w s.memory →
      IsReply w lists fences m c r → SameButWords r (reply_of w s c)
  replies_alike lists c r are values has long is =
      by_refusal c (refusal_by w s.desk.lists c) r refl values has long (subst (λ ls. IsReply w ls fences m c r) are is)

-- and it tells the words that the host reads
pub tells_words : (w : World) (m : Machine) (o : Option (At (ℕ × ℕ))) (wanted r : Reply) → Answers w m o wanted r → HasWords w m o r
tells_words w m None wanted r is = tt
tells_words w m (Some x) wanted r is = is

same_done : (r : Reply) → SameButWords r reply.Done → r ≡ reply.Done
same_done reply.Done is = is
same_done (reply.Value v) is = is
same_done (reply.Words ws) is = absurd is
same_done (reply.Error e) is = is

same_value : (r : Reply) (n : ℕ) → SameButWords r (reply.Value n) → r ≡ reply.Value n
same_value reply.Done n is = is
same_value (reply.Value v) n is = is
same_value (reply.Words ws) n is = absurd is
same_value (reply.Error e) n is = is

same_error : (r : Reply) (e : Hresult) → SameButWords r (reply.Error e) → r ≡ reply.Error e
same_error reply.Done e is = is
same_error (reply.Value v) e is = is
same_error (reply.Words ws) e is = absurd is
same_error (reply.Error d) e is = is

-- where what the host reads is the memory's words, the reply is the machine's
pub reply_exact : (w : World) (m : Machine) (s : State) (c : Call) (r : Reply) → SameButWords r (reply_of w s c) → HasWords w m (done w s.desk.lists c).reads r →
    ((x : At (ℕ × ℕ)) → (done w s.desk.lists c).reads ≡ Some x → (ws : List ℕ) → Agree ws (host_numbers m (plan_number w x.place) x.what.0 x.what.1) →
    ws ≡ range_of x.what.0 x.what.1 (words_at s.memory x.place)) → r ≡ reply_of w s c
reply_exact w m s c r same has fixed = by_refusal c (refusal_by w s.desk.lists c) same has fixed
  where
    by_refusal : (c : Call) (o : Option Hresult) → SameButWords r (reply_or o (good_reply s c)) → HasWords w m (unless (does c).reads o) r →
        ((x : At (ℕ × ℕ)) → unless (does c).reads o ≡ Some x → (ws : List ℕ) → Agree ws (host_numbers m (plan_number w x.place) x.what.0 x.what.1) →
        ws ≡ range_of x.what.0 x.what.1 (words_at s.memory x.place)) → r ≡ reply_or o (good_reply s c)
    by_refusal c (Some e) same has fixed = same_error r e same
    by_refusal (call.Recording l what) None same has fixed = same_done r same
    by_refusal (call.Close l) None same has fixed = same_done r same
    by_refusal (call.Reset l a) None same has fixed = same_done r same
    by_refusal (call.Execute q ls) None same has fixed = same_done r same
    by_refusal (call.Signal q f n) None same has fixed = same_done r same
    by_refusal (call.HostSignal f n) None same has fixed = same_done r same
    by_refusal (call.HostWait f n) None same has fixed = same_done r same
    by_refusal (call.Write b offset ws) None same has fixed = same_done r same
    by_refusal (call.Value f) None same has fixed = same_value r (value_of s.desk f.0) same
    by_refusal (call.Read b offset bytes) None same has fixed =
        has.reply_is ∙ ap (λ ws. reply.Words ws) (fixed (record { place = b.0; what = (offset / 4, bytes / 4) }) refl has.words has.agree)
