-- What is made for events, and what becomes of them.
use Rattle.std.proofs.Common.{ℕ, zero, suc, ◌≡◌, ◌<◌, ◌≤◌, ◌∙◌, ◌==◌, ap, sym, subst, refl, arith, List, [], ◌∷◌, length, slice_get, drop, get_or, true, false, ◌||◌, Option, Some, None, option_map}
use Rattle.std.specs.List.{list_any}
use Rattle.dx_base.specs.Each.{Each}
use Rattle.d3d_machine.specs.declared.calls.Call.{Call}
use Rattle.d3d_machine.specs.declared.calls.Reply.{Reply}
use Rattle.d3d_machine.specs.declared.events.Command.{Command}
use Rattle.d3d_machine.specs.declared.events.Event.{Event}
use Rattle.d3d_machine.specs.declared.events.Event.TheVariants as event
use Rattle.d3d_machine.specs.declared.events.Operation.{Operation}
use Rattle.d3d_machine.specs.declared.events.Operation.TheVariants as operation
use Rattle.d3d_machine.specs.declared.world.World.{World}
use Rattle.d3d_machine.specs.Play.{is_marked, state_after}
use Rattle.d3d_machine.specs.State.{Waiting, place_of, next_call}
use Rattle.clocks.specs.declared.clock.Clock.{Clock}
use Rattle.d3d_judge.specs.declared.actors.Actor.{Actor}
use Rattle.d3d_judge.specs.declared.actors.Actor.TheVariants as actor
use Rattle.d3d_judge.specs.declared.carried_clocks.GivenWork.{GivenWork}
use Rattle.d3d_judge.specs.declared.judge_parts.JudgeParts.{JudgeParts}
use Rattle.d3d_judge.specs.declared.late.LateEvent.TheVariants as late
use Rattle.d3d_judge.specs.declared.made.Made.{Made}
use Rattle.d3d_judge.specs.declared.made.Made.TheVariants as made
use Rattle.d3d_judge.specs.declared.made.Prepared.{Prepared}
use Rattle.d3d_judge.specs.declared.word_touches.WordAccess.{WordAccess}
use Rattle.d3d_judge.specs.Actors.{actor_of, same_actor}
use Rattle.d3d_judge.specs.CarriedClocks.{oldest_work, is_execute}
use Rattle.d3d_judge.specs.CopyScopes.{IsCopyReady}
use Rattle.d3d_judge.specs.Fed.{IsNext}
use Rattle.d3d_judge.specs.HostCalls.{access_in}
use Rattle.d3d_judge.specs.JudgeParts.{TakesCall, TakesQueue, IsReadyFor, OldestIsReady, call_of_thread, completion_of}
use Rattle.d3d_judge.specs.Prepared.{IsCopy, IsCounts, is_for, IsPlaceOf, HasMade, IsMadeForCall, IsMadeForWork, IsMadeForOldest, IsMadeFor, IsReady, Furnishes, IsLater}
use Rattle.d3d_judge.proofs.CarriedClocks.{some_is}
use Rattle.d3d_judge.proofs.Completions.{quiet_completes}
use Rattle.d3d_judge.proofs.CopyReady.{ready_stays}
use Rattle.d3d_judge.proofs.HostCalls.{call_quiet}
use Rattle.d3d_judge.proofs.WordTouches.{tables_same}

-- looking for what was made for an actor
pub any_later : (a : Actor) (ps : List Prepared) (k : ℕ) (d : Prepared) → k < length ps → same_actor (get_or ps k d).actor a ≡ false → list_any (is_for a) (drop k ps) ≡ list_any (is_for a) (drop (suc k) ps)
any_later a [] k d l e = absurd (omega (arith, l))
any_later a (p ∷ ps) zero d l e = ap (λ b. b || list_any (is_for a) ps) e
any_later a (p ∷ ps) (suc k) d l e = any_later a ps k d (omega (arith, l)) e

pub none_left : (a : Actor) (ps : List Prepared) (k : ℕ) → length ps ≤ k → list_any (is_for a) (drop k ps) ≡ false
none_left a [] zero l = refl
none_left a [] (suc k) l = refl
none_left a (p ∷ ps) zero l = absurd (omega (arith, l))
none_left a (p ∷ ps) (suc k) l = none_left a ps k (omega (arith, l))

equal : (a b : ℕ) → (a == b) ≡ true → a ≡ b
equal a b e = grind (arith, e)

pub same_is : (a b : Actor) → same_actor a b ≡ true → a ≡ b
same_is (actor.Thread t) (actor.Thread u) e = ap actor.Thread (equal t u e)
same_is (actor.Thread t) (actor.Queue q) e = cc
same_is (actor.Queue q) (actor.Thread t) e = cc
same_is (actor.Queue p) (actor.Queue q) e = ap actor.Queue (equal p q e)

pub any_here : (a : Actor) (ps : List Prepared) (k : ℕ) (d : Prepared) → k < length ps → same_actor (get_or ps k d).actor a ≡ true → IsPlaceOf ps a k
any_here a ps k d l e = record { prepared = get_or ps k d; found = here ps k l; actor = same_is (get_or ps k d).actor a e }
  where
    here : (ps : List Prepared) (k : ℕ) → k < length ps → slice_get ps k ≡ Some (get_or ps k d)
    here [] k l = absurd (omega (arith, l))
    here (p ∷ ps) zero l = refl
    here (p ∷ ps) (suc k) l = here ps k (omega (arith, l))

pub place_below : (ps : List Prepared) (a : Actor) (k : ℕ) → IsPlaceOf ps a k → k < length ps
place_below ps a k h = below ps k h.prepared h.found
  where
    below : (ps : List Prepared) (k : ℕ) (p : Prepared) → slice_get ps k ≡ Some p → k < length ps
    below [] k p e = cc
    below (x ∷ ps) zero p e = omega arith
    below (x ∷ ps) (suc k) p e = let l = below ps k p e in omega (arith, l)

-- what is taken out of the place
pub made_there : (ps : List Prepared) (a : Actor) (k : ℕ) (p : Prepared) → IsPlaceOf ps a k → p ≡ get_or ps k p → HasMade ps a p.made
made_there ps a k p h e =
    let is : p ≡ h.prepared = e ∙ got ps k h.prepared h.found in
    record { at = k; found = h.found ∙ ap Some (ap (λ b. record { actor = b; made = h.prepared.made }) h.actor ∙ ap (λ (y : Prepared). record { actor = a; made = y.made }) (sym is)) }
  where
    got : (ps : List Prepared) (k : ℕ) (q : Prepared) → slice_get ps k ≡ Some q → get_or ps k p ≡ q
    got [] k q e = cc
    got (x ∷ ps) zero q e = some_is x q e
    got (x ∷ ps) (suc k) q e = got ps k q e

pub is_copy : (m : Made) (c : Call) → m ≡ made.Copy c → IsCopy m
is_copy m c e = subst IsCopy (sym e) tt

pub is_counts : (m : Made) (k : Clock) → m ≡ made.Counts k → IsCounts m
is_counts m k e = subst IsCounts (sym e) tt

-- what an event needs it has of parts that have more
pub made_stays : (w : World) (x y : JudgeParts) (e : Event) (m : Made) → Furnishes x y → IsMadeFor w x e m → IsMadeFor w y e m
made_stays w x y (event.Call t c r) m f h = for_call (access_in w c) h
  where
    for_call : (o : Option WordAccess) → IsMadeForCall x t.0 c m o → IsMadeForCall y t.0 c m o
    for_call None h = h
    for_call (Some a) h = f.tables.threads t.0 a h
made_stays w x y (event.Awake t) m f h = tt
made_stays w x y (event.Queue q) m f h = λ p is. for_work p.operation (h p (sym (ap (λ ps. oldest_work ps q.0) f.pending) ∙ is))
  where
    each_stays : (cs : List Command) → Each (λ c. IsCopyReady w x.touches.resources q.0 c.what) cs → Each (λ c. IsCopyReady w y.touches.resources q.0 c.what) cs
    each_stays [] h = tt
    each_stays (c ∷ cs) h = (ready_stays w x.touches.resources y.touches.resources q.0 c.what f.tables h.0, each_stays cs h.1)

    for_work : (o : Operation) → IsMadeForWork w x q.0 m o → IsMadeForWork w y q.0 m o
    for_work (operation.Execute cs) h = (h.0 ∙ ap made.Counts (sym f.ends), each_stays cs h.1)
    for_work (operation.Signal g v) h = tt

pub ready_with_more : (w : World) (h : List Event) (x y : JudgeParts) (ps : List Prepared) → Furnishes x y → Each (IsReady w h x) ps → Each (IsReady w h y) ps
ready_with_more w h x y [] f r = tt
ready_with_more w h x y (p ∷ ps) f r = ((λ e n a. made_stays w x y e p.made f (r.0 e n a)), ready_with_more w h x y ps f r.1)

pub furnishes_same : (x : JudgeParts) → Furnishes x x
furnishes_same x = record { pending = refl; ends = refl; tables = tables_same x.touches.resources }

-- an actor has one next event, but for the reply
pub one_next : (w : World) (h : List Event) (x : JudgeParts) (e d : Event) (m : Made) → IsNext w h e → IsNext w h d → actor_of d ≡ actor_of e → IsMadeFor w x e m → IsMadeFor w x d m
one_next w h x (event.Call t c r) (event.Call u k s) m n o a i =
    let is : u.0 ≡ t.0 = thread_is u.0 t.0 a in
    let same : k ≡ c = some_is k c (sym o.1 ∙ (ap (λ v. next_call w (state_after w h).desk v) is ∙ n.1)) in
    subst (λ v. IsMadeForCall x v k m (access_in w k)) (sym is) (subst (λ v. IsMadeForCall x t.0 v m (access_in w v)) (sym same) i)
  where
    thread_is : (a b : ℕ) → actor.Thread a ≡ actor.Thread b → a ≡ b
    thread_is a b e = cc
one_next w h x (event.Call t c r) (event.Awake u) m n o a i = tt
one_next w h x (event.Call t c r) (event.Queue q) m n o a i = absurd (apart q.0 t.0 a)
  where
    apart : (q t : ℕ) → actor.Queue q ≡ actor.Thread t → ⊥
    apart q t e = cc
one_next w h x (event.Awake t) (event.Call u k s) m n o a i =
    absurd (not_both (place_of (state_after w h).desk t.0).waits (subst (λ v. (place_of (state_after w h).desk v).waits ≡ None) (thread_is u.0 t.0 a) o.0) n)
  where
    thread_is : (a b : ℕ) → actor.Thread a ≡ actor.Thread b → a ≡ b
    thread_is a b e = cc

    not_both : (y : Option Waiting) → y ≡ None → is_marked y ≡ true → ⊥
    not_both None e g = cc
    not_both (Some z) e g = cc
one_next w h x (event.Awake t) (event.Awake u) m n o a i = tt
one_next w h x (event.Awake t) (event.Queue q) m n o a i = absurd (apart q.0 t.0 a)
  where
    apart : (q t : ℕ) → actor.Queue q ≡ actor.Thread t → ⊥
    apart q t e = cc
one_next w h x (event.Queue q) (event.Call u k s) m n o a i = absurd (apart u.0 q.0 a)
  where
    apart : (t q : ℕ) → actor.Thread t ≡ actor.Queue q → ⊥
    apart t q e = cc
one_next w h x (event.Queue q) (event.Awake u) m n o a i = tt
one_next w h x (event.Queue q) (event.Queue p) m n o a i = subst (λ v. IsMadeForOldest w x v m) (sym (queue_is p.0 q.0 a)) i
  where
    queue_is : (a b : ℕ) → actor.Queue a ≡ actor.Queue b → a ≡ b
    queue_is a b e = cc

pub made_is_ready : (w : World) (h : List Event) (x : JudgeParts) (e : Event) (m : Made) → IsNext w h e → IsMadeFor w x e m → IsReady w h x (record { actor = actor_of e; made = m })
made_is_ready w h x e m n i d o a = one_next w h x e d m n o a i

pub has_made : (w : World) (h : List Event) (x : JudgeParts) (ps : List Prepared) (e : Event) (m : Made) → Each (IsReady w h x) ps → HasMade ps (actor_of e) m → IsNext w h e → IsMadeFor w x e m
has_made w h x ps e m r k n = in_list ps k.at r k.found
  where
    in_list : (ps : List Prepared) (i : ℕ) → Each (IsReady w h x) ps → slice_get ps i ≡ Some (record { actor = actor_of e; made = m }) → IsMadeFor w x e m
    in_list [] i r f = cc
    in_list (p ∷ ps) zero r f = subst (IsReady w h x) (some_is p (record { actor = actor_of e; made = m }) f) r.0 e n refl
    in_list (p ∷ ps) (suc i) r f = in_list ps i r.1 f

-- what was made for a queue's oldest, where it is an execute
pub counts_made : (w : World) (x : JudgeParts) (q : ℕ) (k : Clock) → OldestIsReady w x q → k ≡ x.clocks.ends → IsMadeForOldest w x q (made.Counts k)
counts_made w x q k r e p is = by_operation p.operation (r p is)
  where
    by_operation : (o : Operation) → IsReadyFor w x q o → IsMadeForWork w x q (made.Counts k) o
    by_operation (operation.Execute cs) h = (ap made.Counts e, h)
    by_operation (operation.Signal f v) h = tt

pub made_counts : (w : World) (x : JudgeParts) (q : ℕ) (m : Made) → is_execute (option_map (λ (p : GivenWork). p.operation) (oldest_work x.clocks.pending q)) ≡ true → IsMadeForOldest w x q m → m ≡ made.Counts x.clocks.ends
made_counts w x q m b i = by_work (oldest_work x.clocks.pending q) refl b
  where
    by_operation : (o : Operation) → is_execute (Some o) ≡ true → IsMadeForWork w x q m o → m ≡ made.Counts x.clocks.ends
    by_operation (operation.Execute cs) b h = h.0
    by_operation (operation.Signal f v) b h = cc

    by_work : (y : Option GivenWork) → oldest_work x.clocks.pending q ≡ y → is_execute (option_map (λ (p : GivenWork). p.operation) y) ≡ true → m ≡ made.Counts x.clocks.ends
    by_work None e b = cc
    by_work (Some p) e b = by_operation p.operation b (i p e)

pub execute_is_ready : (w : World) (x : JudgeParts) (q : ℕ) (m : Made) → is_execute (option_map (λ (p : GivenWork). p.operation) (oldest_work x.clocks.pending q)) ≡ true → IsMadeForOldest w x q m → OldestIsReady w x q
execute_is_ready w x q m b i p is = by_operation p.operation (subst (λ y. is_execute (option_map (λ (z : GivenWork). z.operation) y) ≡ true) is b) (i p is)
  where
    by_operation : (o : Operation) → is_execute (Some o) ≡ true → IsMadeForWork w x q m o → IsReadyFor w x q o
    by_operation (operation.Execute cs) b h = h.1
    by_operation (operation.Signal f v) b h = absurd (not_true b)
      where
        not_true : false ≡ true → ⊥
        not_true e = cc

pub counts_is : (m : Made) (k n : Clock) → m ≡ made.Counts k → m ≡ made.Counts n → n ≡ k
counts_is m k n e f = inside k n (sym e ∙ f)
  where
    inside : (k n : Clock) → made.Counts k ≡ made.Counts n → n ≡ k
    inside k n e = cc

-- events that are taken later
pub later_call : (w : World) (h : List Event) (x : JudgeParts) (t : ℕ) (c d : Call) (m : Made) (r : Reply) → TakesCall w h x t c → access_in w c ≡ None → m ≡ made.Copy c → m ≡ made.Copy d →
    IsLater w h (call_of_thread t c r) x (late.Call t d)
later_call w h x t c d m r k e i j =
    subst (λ y. IsLater w h (call_of_thread t c r) x (late.Call t y)) (inside c d (sym i ∙ j)) (record {
      is = (r, refl);
      takes = (k, e);
      quiet = call_quiet w h t c r e;
    })
  where
    inside : (c d : Call) → made.Copy c ≡ made.Copy d → c ≡ d
    inside c d e = cc

pub later_completion : (w : World) (h : List Event) (x : JudgeParts) (q : ℕ) → TakesQueue w h x q → is_execute (option_map (λ (p : GivenWork). p.operation) (oldest_work x.clocks.pending q)) ≡ false → IsLater w h (completion_of q) x (late.Completion q)
later_completion w h x q k e = record { is = refl; takes = k; quiet = quiet_completes w h x q k e }
