-- What a call does, part by part.
use Rattle.std.proofs.Common.{ℕ, ◌≡◌, refl, sym, ap, subst, ◌∙◌, List, [], ◌∷◌, ◌++◌, map, length, slice_get, Option, Some, None, if◌then◌else◌, ◌==◌, inl, inr}
use Rattle.std.proofs.Math.ListN.{length-map}
use Rattle.std.proofs.lemmas.List.{append-nil}
use Rattle.std.proofs.lemmas.Bool.Decides.{eqb_tells}
use Rattle.std.specs.Option.{option_map}
use Rattle.dx_base.specs.Lists.{changed_at}
use Rattle.dx_base.specs.Effects.{At, changed_by, unless}
use Rattle.dx_base.proofs.Lists.{length_changed, get_changed, get_changed_other}
use Rattle.d3d_machine.specs.declared.calls.Call.{Call}
use Rattle.d3d_machine.specs.declared.calls.Call.TheVariants as call
use Rattle.d3d_machine.specs.declared.events.Listed.{Listed}
use Rattle.d3d_machine.specs.declared.world.World.{World}
use Rattle.d3d_machine.specs.CallEffects.{here_of, Does, does}
use Rattle.d3d_machine.specs.Replies.{refusal_by}
use Rattle.d3d_machine.specs.State.{Desk, Place, value_of}
use Rattle.d3d_machine.specs.Effects.{done, with_one, marked_place, begins_wait, marked_places, waiting_places}

-- the only call that begins a wait
pub is_wait : (c : Call) (x : At ℕ) → (does c).waits ≡ Some x → c ≡ call.HostWait (record { 0 = x.place }) x.what
is_wait (call.Recording l what) x is = absurd (cc)
is_wait (call.Close l) x is = absurd (cc)
is_wait (call.Reset l a) x is = absurd (cc)
is_wait (call.Execute q ls) x is = absurd (cc)
is_wait (call.Signal q f v) x is = absurd (cc)
is_wait (call.HostSignal f v) x is = absurd (cc)
is_wait (call.HostWait f v) x is =
    let y : At ℕ = record { place = f.0; what = v } in
    let same : y ≡ x = cc in
    ap (λ z. call.HostWait (record { 0 = z.place }) z.what) same
is_wait (call.Value f) x is = absurd (cc)
is_wait (call.Write b offset ws) x is = absurd (cc)
is_wait (call.Read b offset bytes) x is = absurd (cc)

-- a wait is never refused
pub waits_done : (w : World) (lists : List Listed) (c : Call) → (done w lists c).waits ≡ (does c).waits
waits_done w lists c = by_wait (does c).waits refl
  where
    by_wait : (o : Option (At ℕ)) → (does c).waits ≡ o → (done w lists c).waits ≡ o
    by_wait None is = ap (λ x. unless x (refusal_by w lists c)) is
    by_wait (Some x) is = ap (λ k. (done w lists k).waits) (is_wait c x is)

-- a call that begins a wait gives no fence a value
pub wait_sets_none : (w : World) (lists : List Listed) (c : Call) (x : At ℕ) → (does c).waits ≡ Some x → (done w lists c).sets ≡ None
wait_sets_none w lists c x is = ap (λ k. (done w lists k).sets) (is_wait c x is)

-- a list that takes one more takes what is there for its place
pub one_more_here : {A : Type 0} (o : Option (At A)) (xss : List (List A)) (k : ℕ) (xs : List A) → slice_get xss k ≡ Some xs →
    slice_get (changed_by with_one o xss) k ≡ Some (xs ++ here_of k o)
one_more_here None xss k xs is = is ∙ ap (λ ys. Some ys) (sym (append-nil xs))
one_more_here (Some x) xss k xs is =
    elim (eqb_tells x.place k) [
      | inl same ↦ rw same.0 (subst (λ j. slice_get (changed_at (with_one x.what) j xss) k ≡ Some (xs ++ x.what ∷ [])) (sym same.1)
          (get_changed (with_one x.what) xss k ∙ ap (option_map (with_one x.what)) is))
      | inr other ↦ rw other.0 (get_changed_other (with_one x.what) xss x.place k other.1 ∙ is ∙ ap (λ ys. Some ys) (sym (append-nil xs)))
    ]

pub length_marked : (o : Option (At ℕ)) (ps : List Place) → length (marked_places o ps) ≡ length ps
length_marked None ps = refl
length_marked (Some x) ps = length-map ps (marked_place x.place x.what)

length_waiting : (d : Desk) (t : ℕ) (o : Option (At ℕ)) (ps : List Place) → length (waiting_places d t o ps) ≡ length ps
length_waiting d t None ps = refl
length_waiting d t (Some x) ps = length_changed (begins_wait (value_of d x.place) x.place x.what) ps t

-- how many threads there are
pub length_threads : (d : Desk) (t : ℕ) (x : Does) → length (waiting_places d t x.waits (marked_places x.sets d.threads)) ≡ length d.threads
length_threads d t x = length_waiting d t x.waits (marked_places x.sets d.threads) ∙ length_marked x.sets d.threads
