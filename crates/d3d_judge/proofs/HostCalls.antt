-- What calls that access words, and calls that access none, do.
use Rattle.std.proofs.Common.{ℕ, ◌≡◌, ap, sym, subst, refl, List, length, true, Option, Some, None, is_some, map}
use Rattle.dx_base.specs.declared.hresult.Hresult.{Hresult}
use Rattle.d3d_machine.specs.declared.calls.Call.{Call}
use Rattle.d3d_machine.specs.declared.calls.Call.TheVariants as call
use Rattle.d3d_machine.specs.declared.calls.Reply.{Reply}
use Rattle.d3d_machine.specs.declared.events.Event.{Event}
use Rattle.d3d_machine.specs.declared.world.World.{World}
use Rattle.d3d_machine.specs.Checks.{write_refusal, read_refusal}
use Rattle.d3d_machine.specs.Play.{state_after}
use Rattle.d3d_machine.specs.Replies.{refusal}
use Rattle.d3d_machine.specs.State.{Desk}
use Rattle.verdicts.specs.declared.rules.Rule.{Rule}
use Rattle.d3d_judge.specs.declared.judge_parts.JudgeParts.{JudgeParts}
use Rattle.d3d_judge.specs.declared.word_touches.WordAccess.{WordAccess}
use Rattle.d3d_judge.specs.CopyScopes.{range_by, IsIn}
use Rattle.d3d_judge.specs.Happenings.{Deed, unless_refused, deed_of}
use Rattle.d3d_judge.specs.HostCalls.{access_unless, access_in}
use Rattle.d3d_judge.specs.Judged.{Found, judge_after}
use Rattle.d3d_judge.specs.JudgeParts.{CallFound, DeedFound, deed_by, call_of_thread, found_after}
use Rattle.d3d_judge.specs.Setting.{traits_of}
use Rattle.d3d_judge.proofs.HostAccesses.{found_write, found_read}
use Rattle.d3d_judge.proofs.InsideWords.{write_in, read_in}
use Rattle.d3d_judge.proofs.Standing.{is_quiet, quiet_nothing}

pub refused_of : (o : Option Hresult) (a : WordAccess) → access_unless o a ≡ None → is_some o ≡ true
refused_of None a e = cc
refused_of (Some r) a e = refl

not_refused : (o : Option Hresult) (a b : WordAccess) → access_unless o a ≡ Some b → (o ≡ None) × (b ≡ a)
not_refused None a b e = (refl, cc)
not_refused (Some r) a b e = absurd (cc)

no_access : {P : Type 0} (a : WordAccess) → None ≡ Some a → P
no_access a e = absurd (cc)

-- what is accessed is of a first subresource, and inside it
pub access_sub : (w : World) (c : Call) (a : WordAccess) → access_in w c ≡ Some a → a.sub ≡ 0
access_sub w (call.Recording l what) a e = no_access a e
access_sub w (call.Close l) a e = no_access a e
access_sub w (call.Reset l al) a e = no_access a e
access_sub w (call.Execute q ls) a e = no_access a e
access_sub w (call.Signal q f v) a e = no_access a e
access_sub w (call.HostSignal f v) a e = no_access a e
access_sub w (call.HostWait f v) a e = no_access a e
access_sub w (call.Value f) a e = no_access a e
access_sub w (call.Write b offset ws) a e = ap (λ (y : WordAccess). y.sub) (not_refused (write_refusal w b.0 offset (length ws)) _ a e).1
access_sub w (call.Read b offset bytes) a e = ap (λ (y : WordAccess). y.sub) (not_refused (read_refusal w b.0 offset bytes) _ a e).1

pub access_inside : (w : World) (c : Call) (a : WordAccess) → access_in w c ≡ Some a → IsIn (map traits_of w.resources) (range_by a)
access_inside w (call.Recording l what) a e = no_access a e
access_inside w (call.Close l) a e = no_access a e
access_inside w (call.Reset l al) a e = no_access a e
access_inside w (call.Execute q ls) a e = no_access a e
access_inside w (call.Signal q f v) a e = no_access a e
access_inside w (call.HostSignal f v) a e = no_access a e
access_inside w (call.HostWait f v) a e = no_access a e
access_inside w (call.Value f) a e = no_access a e
access_inside w (call.Write b offset ws) a e =
    let n = not_refused (write_refusal w b.0 offset (length ws)) _ a e in
    subst (λ y. IsIn (map traits_of w.resources) (range_by y)) (sym n.1) (write_in w b.0 offset (length ws) n.0)
access_inside w (call.Read b offset bytes) a e =
    let n = not_refused (read_refusal w b.0 offset bytes) _ a e in
    subst (λ y. IsIn (map traits_of w.resources) (range_by y)) (sym n.1) (read_in w b.0 offset bytes n.0)

-- what is found of an access is found of its call
pub access_found : (w : World) (h : List Event) (x new : JudgeParts) (t : ℕ) (c : Call) (a : WordAccess) (r : Option Rule) → access_in w c ≡ Some a → DeedFound w h t (deed_by a) new r → CallFound w h t c new r
access_found w h x new t (call.Recording l what) a r e f = no_access a e
access_found w h x new t (call.Close l) a r e f = no_access a e
access_found w h x new t (call.Reset l al) a r e f = no_access a e
access_found w h x new t (call.Execute q ls) a r e f = no_access a e
access_found w h x new t (call.Signal q g v) a r e f = no_access a e
access_found w h x new t (call.HostSignal g v) a r e f = no_access a e
access_found w h x new t (call.HostWait g v) a r e f = no_access a e
access_found w h x new t (call.Value g) a r e f = no_access a e
access_found w h x new t (call.Write b offset ws) a r e f =
    let n = not_refused (write_refusal w b.0 offset (length ws)) _ a e in found_write w h x new t b offset ws a r n.0 n.1 f
access_found w h x new t (call.Read b offset bytes) a r e f =
    let n = not_refused (read_refusal w b.0 offset bytes) _ a e in found_read w h x new t b offset bytes a r n.0 n.1 f

unless_quiet : (o : Option Hresult) (what : Deed) → is_quiet what ≡ true → is_quiet (unless_refused o what) ≡ true
unless_quiet None what e = e
unless_quiet (Some r) what e = refl

refused_quiet : (o : Option Hresult) (a : WordAccess) (what : Deed) → access_unless o a ≡ None → is_quiet (unless_refused o what) ≡ true
refused_quiet None a what e = cc
refused_quiet (Some r) a what e = refl

-- a call that accesses no words touches nothing
deed_quiet : (w : World) (d : Desk) (c : Call) → access_in w c ≡ None → is_quiet (unless_refused (refusal w d c) (deed_of d c)) ≡ true
deed_quiet w d (call.Recording l what) e = unless_quiet (refusal w d (call.Recording l what)) (deed_of d (call.Recording l what)) refl
deed_quiet w d (call.Close l) e = unless_quiet (refusal w d (call.Close l)) (deed_of d (call.Close l)) refl
deed_quiet w d (call.Reset l a) e = unless_quiet (refusal w d (call.Reset l a)) (deed_of d (call.Reset l a)) refl
deed_quiet w d (call.Execute q ls) e = unless_quiet (refusal w d (call.Execute q ls)) (deed_of d (call.Execute q ls)) refl
deed_quiet w d (call.Signal q f v) e = unless_quiet (refusal w d (call.Signal q f v)) (deed_of d (call.Signal q f v)) refl
deed_quiet w d (call.HostSignal f v) e = unless_quiet (refusal w d (call.HostSignal f v)) (deed_of d (call.HostSignal f v)) refl
deed_quiet w d (call.HostWait f v) e = unless_quiet (refusal w d (call.HostWait f v)) (deed_of d (call.HostWait f v)) refl
deed_quiet w d (call.Value f) e = unless_quiet (refusal w d (call.Value f)) (deed_of d (call.Value f)) refl
deed_quiet w d (call.Write b offset ws) e = refused_quiet (write_refusal w b.0 offset (length ws)) _ (deed_of d (call.Write b offset ws)) e
deed_quiet w d (call.Read b offset bytes) e = refused_quiet (read_refusal w b.0 offset bytes) _ (deed_of d (call.Read b offset bytes)) e

-- and breaks nothing
pub call_quiet : (w : World) (h : List Event) (t : ℕ) (c : Call) (r : Reply) → access_in w c ≡ None → (found_after w h (call_of_thread t c r)).broken ≡ None
call_quiet w h t c r e =
    ap (λ (f : Found). f.broken)
    (quiet_nothing (judge_after w h) t (unless_refused (refusal w (state_after w h).desk c) (deed_of (state_after w h).desk c)) (deed_quiet w (state_after w h).desk c e))
