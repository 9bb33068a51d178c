-- The state of a judge when events are fed and prepared for.
use Rattle.std.proofs.Common.{◌≡◌, ◌<◌, ◌+◌, ◌^◌, ◌∙◌, cond, ap, sym, subst, refl, List, [], ◌∷◌, ◌++◌, length, Bool, true, false, ◌||◌, Option, Some, None}
use Rattle.std.proofs.lemmas.List.{length-append}
use Rattle.std.specs.List.{list_all, list_any}
use Rattle.dx_base.specs.Each.{Each}
use Rattle.dx_base.proofs.Each.{each_append}
use Rattle.d3d_machine.specs.declared.events.Event.{Event}
use Rattle.d3d_machine.specs.declared.world.World.{World}
use Rattle.d3d_machine.specs.World.{are_named, is_small_resource}
use Rattle.verdicts.specs.declared.rules.Rule.{Rule}
use Rattle.verdicts.specs.declared.rules.Verdict.TheVariants.{Clean}
use Rattle.d3d_judge.specs.declared.actors.Actor.{Actor}
use Rattle.d3d_judge.specs.declared.judge_parts.JudgeParts.{JudgeParts}
use Rattle.d3d_judge.specs.declared.judge_state.JudgeState.{JudgeState}
use Rattle.d3d_judge.specs.declared.late.Late.{Late}
use Rattle.d3d_judge.specs.declared.late.LateEvent.{LateEvent}
use Rattle.d3d_judge.specs.declared.late.Taken.{Taken}
use Rattle.d3d_judge.specs.declared.late.LateEvent.TheVariants as late
use Rattle.d3d_judge.specs.declared.made.Made.{Made}
use Rattle.d3d_judge.specs.declared.made.Prepared.{Prepared}
use Rattle.d3d_judge.specs.Actors.{actor_of, same_actor}
use Rattle.d3d_judge.specs.Fed.{Fed, IsNext, fed_more, fed_view, prepared_view, is_among, is_prepared}
use Rattle.d3d_judge.specs.JudgeParts.{Stands, IsFound, AreOpen, found_after, verdict_of}
use Rattle.d3d_judge.specs.Judged.{judge, judge_after}
use Rattle.d3d_judge.specs.JudgeStates.{actors_of, view_of, IsLate, IsBehind, IsAlone, IsFed, IsJudging, AwaitsMore}
use Rattle.d3d_judge.specs.Prepared.{is_for, HasMade, IsMadeFor, IsReady, Furnishes, IsOf, TakesLate, LateFound, IsLater, IsTaken}
use Rattle.d3d_judge.proofs.Prepared.{ready_with_more, has_made, made_is_ready}
use Rattle.d3d_judge.proofs.Standing.{verdict_is, only_clean}

-- a late event as one that was found
late_found : (w : World) (h : List Event) (what : LateEvent) (e : Event) (x : JudgeParts) (r : Option Rule) → IsOf what e → LateFound w h what x r → IsFound w h e x r
late_found w h (late.Call t c) e x r is f = subst (λ d. IsFound w h d x r) (sym is.1) (f is.0)
late_found w h (late.Completion q) e x r is f = subst (λ d. IsFound w h d x r) (sym is) f

-- it may be taken by all parts that stand
opened_in : (w : World) (h : List Event) (what : LateEvent) (x : JudgeParts) → TakesLate w h x what → AreOpen w h x
opened_in w h (late.Call t c) x k = k.0.opened
opened_in w h (late.Completion q) x k = k.opened

open_with : (w : World) (h : List Event) (x y : JudgeParts) → AreOpen w h x → Stands w h y → AreOpen w h y
open_with w h x y k s = record { named = k.named; sizes = k.sizes; clean = k.clean; stands = s; few = k.few }

takes_with : (w : World) (h : List Event) (what : LateEvent) (x y : JudgeParts) → TakesLate w h x what → Stands w h y → TakesLate w h y what
takes_with w h (late.Call t c) x y k s = (record { opened = open_with w h x y k.0.opened s; thread = k.0.thread; named = k.0.named }, k.1)
takes_with w h (late.Completion q) x y k s = record { opened = open_with w h x y k.opened s; queue = k.queue }

module _ (w : World) (s : JudgeState) (k : IsJudging w s) where
  -- where nothing is late, the parts stand
  pub stands_now : s.late ≡ None → Stands w s.kept.fed.history s.parts
  stands_now none =
      subst (λ v. Stands v s.kept.fed.history s.parts) k.world
      (subst (IsBehind s.kept.fed s.parts) none k.fed.behind (subst (λ v. judge v s.kept.fed.history ≡ Clean) (sym k.world) k.clean))

  pub open_now : s.late ≡ None → AreOpen w s.kept.fed.history s.parts
  open_now none = record {
    named = subst (λ v. are_named v ≡ true) k.world k.fed.named;
    sizes = subst (λ v. list_all is_small_resource v.resources ≡ true) k.world k.fed.sizes;
    clean = k.clean;
    stands = stands_now none;
    few = k.few;
  }

  -- where an event is late
  module _ (l : Late) (is : s.late ≡ Some l) where
    lies : IsLate s.kept.fed s.parts l
    lies = subst (IsBehind s.kept.fed s.parts) is k.fed.behind

    pub alone_now : s.prepared.items ≡ []
    alone_now = subst (λ o. IsAlone o s.prepared.items) is k.fed.alone

    pub takes_late : TakesLate w l.before.fed.history s.parts l.what
    takes_late = subst (λ v. TakesLate v l.before.fed.history s.parts l.what) k.world lies.takes

    ready_none : (x : JudgeParts) → Each (IsReady s.kept.fed.world s.kept.fed.history x) s.prepared.items
    ready_none x = subst (Each (IsReady s.kept.fed.world s.kept.fed.history x)) (sym alone_now) tt

    history_is : s.kept.fed.history ≡ l.before.fed.history ++ lies.event ∷ []
    history_is = ap (λ (f : Fed). f.history) lies.fed

    -- it was taken
    pub settled : (x : JudgeParts) (r : Option Rule) → LateFound w l.before.fed.history l.what x r → IsJudging w (record s { parts = x; late = None })
    settled x r f =
        let found : IsFound w l.before.fed.history lies.event x r = late_found w l.before.fed.history l.what lies.event x r lies.is f in
        let o = opened_in w l.before.fed.history l.what s.parts takes_late in
        let none : r ≡ None =
        only_clean (length l.before.fed.history + 1) r
        (verdict_is w l.before.fed.history lies.event r (length l.before.fed.history + 1) o.clean o.stands.events found.rule refl ∙ subst (λ h. judge w h ≡ Clean) history_is k.clean) in
        let stands : Stands w s.kept.fed.history x = subst (λ h. Stands w h x) (sym history_is) (found.goes_on none) in
        record {
          fed = record {
            named = k.fed.named;
            sizes = k.fed.sizes;
            counted = k.fed.counted;
            behind = λ _. subst (λ v. Stands v s.kept.fed.history x) (sym k.world) stands;
            ready = λ _. ready_none x;
            alone = tt;
          };
          world = k.world;
          clean = k.clean;
          few = k.few;
        }

    -- or it is still late
    pub not_settled : (x : JudgeParts) → Stands w l.before.fed.history x → IsJudging w (record s { parts = x })
    not_settled x stands = record {
      fed = record {
        named = k.fed.named;
        sizes = k.fed.sizes;
        counted = k.fed.counted;
        behind = subst (IsBehind s.kept.fed x) (sym is) (record {
          event = lies.event;
          is = lies.is;
          fed = lies.fed;
          takes = subst (λ v. TakesLate v l.before.fed.history x l.what) (sym k.world) (takes_with w l.before.fed.history l.what s.parts x takes_late stands);
        });
        ready = λ _. ready_none x;
        alone = k.fed.alone;
      };
      world = k.world;
      clean = k.clean;
      few = k.few;
    }

  -- parts that have more
  module _ (u : JudgeState) (none : s.late ≡ None) (late_is : u.late ≡ None) (kept : u.kept ≡ s.kept) (events : u.events ≡ s.events) (stands : Stands w s.kept.fed.history u.parts) where
    world_is : u.kept.fed.world ≡ w
    world_is = ap (λ y. y.fed.world) kept ∙ k.world

    history_same : u.kept.fed.history ≡ s.kept.fed.history
    history_same = ap (λ y. y.fed.history) kept

    with_ready : Each (IsReady w s.kept.fed.history u.parts) u.prepared.items → IsJudging w u
    with_ready ready = record {
      fed = record {
        named = subst (λ v. are_named v ≡ true) (sym (ap (λ y. y.fed.world) kept)) k.fed.named;
        sizes = subst (λ v. list_all is_small_resource v.resources ≡ true) (sym (ap (λ y. y.fed.world) kept)) k.fed.sizes;
        counted = events ∙ (k.fed.counted ∙ ap (λ (h : List Event). length h) (sym history_same));
        behind = subst (IsBehind u.kept.fed u.parts) (sym late_is) (λ _. subst (λ v. Stands v u.kept.fed.history u.parts) (sym world_is) (subst (λ h. Stands w h u.parts) (sym history_same) stands));
        ready = λ _. subst (λ v. Each (IsReady v u.kept.fed.history u.parts) u.prepared.items) (sym world_is) (subst (λ h. Each (IsReady w h u.parts) u.prepared.items) (sym history_same) ready);
        alone = subst (λ o. IsAlone o u.prepared.items) (sym late_is) tt;
      };
      world = world_is;
      clean = subst (λ h. judge w h ≡ Clean) (sym history_same) k.clean;
      few = subst (λ (h : List Event). length h + 1 < 2 ^ 64) (sym history_same) k.few;
    }

    ready_was : Each (IsReady w s.kept.fed.history s.parts) s.prepared.items
    ready_was = subst (λ v. Each (IsReady v s.kept.fed.history s.parts) s.prepared.items) k.world (k.fed.ready (subst (λ v. judge v s.kept.fed.history ≡ Clean) (sym k.world) k.clean))

    pub furnished : Furnishes s.parts u.parts → u.prepared.items ≡ s.prepared.items → IsJudging w u
    furnished f same = with_ready (subst (Each (IsReady w s.kept.fed.history u.parts)) (sym same) (ready_with_more w s.kept.fed.history s.parts u.parts s.prepared.items f ready_was))

    pub prepared_more : (e : Event) (p : Prepared) → Furnishes s.parts u.parts → IsNext w s.kept.fed.history e → p.actor ≡ actor_of e → IsMadeFor w u.parts e p.made → u.prepared.items ≡ s.prepared.items ++ p ∷ [] → IsJudging w u
    prepared_more e p f next of is more =
        with_ready (subst (Each (IsReady w s.kept.fed.history u.parts)) (sym more)
        (each_append (IsReady w s.kept.fed.history u.parts) s.prepared.items (p ∷ []) (ready_with_more w s.kept.fed.history s.parts u.parts s.prepared.items f ready_was)
        (subst (λ a. IsReady w s.kept.fed.history u.parts (record { actor = a; made = p.made })) (sym of) (made_is_ready w s.kept.fed.history u.parts e p.made next is), tt)))

  -- what was made before
  pub made_before : (e : Event) (m : Made) → HasMade s.prepared.items (actor_of e) m → IsNext w s.kept.fed.history e → IsMadeFor w s.parts e m
  made_before e m has next =
      has_made w s.kept.fed.history s.parts s.prepared.items e m
      (subst (λ v. Each (IsReady v s.kept.fed.history s.parts) s.prepared.items) k.world (k.fed.ready (subst (λ v. judge v s.kept.fed.history ≡ Clean) (sym k.world) k.clean))) has next

-- the actors of what was made
pub among_is : (a : Actor) (ps : List Prepared) → is_among a (actors_of ps) ≡ list_any (is_for a) ps
among_is a [] = refl
among_is a (p ∷ ps) = ap (λ b. same_actor p.actor a || b) (among_is a ps)

pub actors_more : (ps : List Prepared) (p : Prepared) → actors_of (ps ++ p ∷ []) ≡ actors_of ps ++ p.actor ∷ []
actors_more [] p = refl
actors_more (x ∷ ps) p = ap (λ t. x.actor ∷ t) (actors_more ps p)

-- what is said of an event
pub verdict_told : (s : JudgeState) (e : Event) → AwaitsMore s → (r : Option Rule) → r ≡ (found_after s.kept.fed.world s.kept.fed.history e).broken →
    verdict_of (length s.kept.fed.history + 1) r ≡ judge s.kept.fed.world (s.kept.fed.history ++ e ∷ [])
verdict_told s e k r is = verdict_is s.kept.fed.world s.kept.fed.history e r (length s.kept.fed.history + 1) k.clean k.events is refl

pub not_for_none : (a : Actor) (ps : List Prepared) → ps ≡ [] → list_any (is_for a) ps ≡ false
not_for_none a [] e = refl
not_for_none a (p ∷ ps) e = cc

-- it was not prepared for an event
pub not_prepared : (s t : JudgeState) (e : Event) → t.prepared ≡ s.prepared → list_any (is_for (actor_of e)) t.prepared.items ≡ false → is_prepared (view_of s) e ≡ false
not_prepared s t e same none = among_is (actor_of e) s.prepared.items ∙ (ap (λ v. list_any (is_for (actor_of e)) v.items) (sym same) ∙ none)

pub not_prepared_alone : (s : JudgeState) (e : Event) → s.prepared.items ≡ [] → is_prepared (view_of s) e ≡ false
not_prepared_alone s e none = not_prepared s s e refl (not_for_none (actor_of e) s.prepared.items none)

-- while an event is taken
pub open_still : (w : World) (s u : JudgeState) → IsJudging w s → u.kept ≡ s.kept → Stands w s.kept.fed.history u.parts → AreOpen w u.kept.fed.history u.parts
open_still w s u k kept stands = subst (λ y. AreOpen w y.fed.history u.parts) (sym kept) (record {
  named = subst (λ v. are_named v ≡ true) k.world k.fed.named;
  sizes = subst (λ v. list_all is_small_resource v.resources ≡ true) k.world k.fed.sizes;
  clean = k.clean;
  stands = stands;
  few = k.few;
})

pub awaits_more : (w : World) (s u : JudgeState) (x : JudgeParts) → IsJudging w s → u.kept ≡ s.kept → u.events ≡ s.events → Stands w s.kept.fed.history x → AwaitsMore u
awaits_more w s u x k kept events stands = record {
  named = subst (λ y. are_named y.fed.world ≡ true) (sym kept) k.fed.named;
  sizes = subst (λ y. list_all is_small_resource y.fed.world.resources ≡ true) (sym kept) k.fed.sizes;
  counted = events ∙ (k.fed.counted ∙ ap (λ y. length y.fed.history) (sym kept));
  clean = subst (λ y. judge y.fed.world y.fed.history ≡ Clean) (sym kept) (subst (λ v. judge v s.kept.fed.history ≡ Clean) (sym k.world) k.clean);
  events = subst (λ y. (judge_after y.fed.world y.fed.history).events ≡ length y.fed.history) (sym kept) (subst (λ v. (judge_after v s.kept.fed.history).events ≡ length s.kept.fed.history) (sym k.world) stands.events);
  few = subst (λ y. length y.fed.history + 1 < 2 ^ 64) (sym kept) k.few;
}

pub taken_in : (w : World) (s u : JudgeState) (e : Event) (x : JudgeParts) (t : Taken) → IsJudging w s → u.kept ≡ s.kept → IsTaken w u.kept.fed.history e x t → IsTaken u.kept.fed.world u.kept.fed.history e x t
taken_in w s u e x t k kept is = subst (λ v. IsTaken v u.kept.fed.history e x t) (sym (ap (λ y. y.fed.world) kept ∙ k.world)) is

pub verdict_in : (w : World) (s u : JudgeState) (e : Event) (r : Option Rule) → u.kept ≡ s.kept → s.kept.fed.world ≡ w → verdict_of (length u.kept.fed.history + 1) r ≡ judge u.kept.fed.world (u.kept.fed.history ++ e ∷ []) →
    verdict_of (length s.kept.fed.history + 1) r ≡ judge w (s.kept.fed.history ++ e ∷ [])
verdict_in w s u e r kept is said =
    subst (λ v. verdict_of (length s.kept.fed.history + 1) r ≡ judge v (s.kept.fed.history ++ e ∷ [])) is
    (subst (λ y. verdict_of (length y.fed.history + 1) r ≡ judge y.fed.world (y.fed.history ++ e ∷ [])) kept said)

pub fed_views : (s u : JudgeState) (e : Event) → u.kept ≡ s.kept → fed_view (view_of u) e ≡ fed_view (view_of s) e
fed_views s u e kept = ap (λ y. record { world = y.fed.world; history = y.fed.history ++ e ∷ []; prepared = [] }) kept

view_with : (s u : JudgeState) → u.kept ≡ s.kept → (actors : List Actor) → actors_of u.prepared.items ≡ actors →
    view_of u ≡ record { world = s.kept.fed.world; history = s.kept.fed.history; prepared = actors }
view_with s u kept actors are =
    ap (λ y. record { world = y.fed.world; history = y.fed.history; prepared = actors_of u.prepared.items }) kept
    ∙ ap (λ ps. record { world = s.kept.fed.world; history = s.kept.fed.history; prepared = ps }) are

-- what is seen of a judge that was prepared before, and of one that is prepared now
pub view_kept : (s u : JudgeState) (e : Event) (a : Actor) (b : Bool) → u.kept ≡ s.kept → u.prepared ≡ s.prepared → a ≡ actor_of e → b ≡ list_any (is_for a) u.prepared.items → b ≡ true → view_of u ≡ prepared_view (view_of s) e
view_kept s u e a b kept prepared of is holds =
    let among : is_among (actor_of e) (actors_of s.prepared.items) ≡ true =
    among_is (actor_of e) s.prepared.items ∙ (ap (λ d. list_any (is_for d) s.prepared.items) (sym of) ∙ (ap (λ v. list_any (is_for a) v.items) (sym prepared) ∙ (sym is ∙ holds))) in
    view_with s u kept (actors_of s.prepared.items) (ap (λ v. actors_of v.items) prepared)
    ∙ sym (ap (λ d. record { world = s.kept.fed.world; history = s.kept.fed.history; prepared = cond d (actors_of s.prepared.items) (actors_of s.prepared.items ++ actor_of e ∷ []) }) among)

pub view_more : (s t u : JudgeState) (e : Event) (p : Prepared) (b : Bool) → t.kept ≡ s.kept → t.prepared ≡ s.prepared → u.kept ≡ t.kept → u.prepared.items ≡ t.prepared.items ++ p ∷ [] → p.actor ≡ actor_of e →
    b ≡ list_any (is_for p.actor) t.prepared.items → b ≡ false → view_of u ≡ prepared_view (view_of s) e
view_more s t u e p b kept prepared kept2 more of is fails =
    let among : is_among (actor_of e) (actors_of s.prepared.items) ≡ false =
    among_is (actor_of e) s.prepared.items ∙ (ap (λ d. list_any (is_for d) s.prepared.items) (sym of) ∙ (ap (λ v. list_any (is_for p.actor) v.items) (sym prepared) ∙ (sym is ∙ fails))) in
    view_with s u (kept2 ∙ kept) (actors_of s.prepared.items ++ actor_of e ∷ [])
    (ap actors_of more ∙ (actors_more t.prepared.items p ∙ (ap (λ v. actors_of v.items ++ p.actor ∷ []) prepared ∙ ap (λ d. actors_of s.prepared.items ++ d ∷ []) of)))
    ∙ sym (ap (λ d. record { world = s.kept.fed.world; history = s.kept.fed.history; prepared = cond d (actors_of s.prepared.items) (actors_of s.prepared.items ++ actor_of e ∷ []) }) among)

-- an event was taken, or is late
module _ (s u : JudgeState) (e : Event) (k : AwaitsMore s) (fed_is : u.kept.fed ≡ fed_more s.kept.fed e) (events_are : u.events ≡ s.events + 1) (none_prepared : u.prepared.items ≡ []) (parts_are : u.parts ≡ s.parts) where
  fed_with : IsBehind u.kept.fed u.parts u.late → IsFed u
  fed_with behind = record {
    named = subst (λ (f : Fed). are_named f.world ≡ true) (sym fed_is) k.named;
    sizes = subst (λ (f : Fed). list_all is_small_resource f.world.resources ≡ true) (sym fed_is) k.sizes;
    counted = events_are ∙ (ap (λ n. n + 1) k.counted ∙ (sym (length-append s.kept.fed.history (e ∷ [])) ∙ ap (λ (f : Fed). length f.history) (sym fed_is)));
    behind = behind;
    ready = λ _. subst (Each (IsReady u.kept.fed.world u.kept.fed.history u.parts)) (sym none_prepared) tt;
    alone = alone u.late;
  }
    where
      alone : (o : Option Late) → IsAlone o u.prepared.items
      alone None = tt
      alone (Some l) = none_prepared

  pub fed_told : (r : Option Rule) → IsFound s.kept.fed.world s.kept.fed.history e s.parts r → u.late ≡ None → IsFed u
  fed_told r found none = fed_with (subst (IsBehind u.kept.fed u.parts) (sym none) (λ clean.
      let after : judge s.kept.fed.world (s.kept.fed.history ++ e ∷ []) ≡ Clean = subst (λ (f : Fed). judge f.world f.history ≡ Clean) fed_is clean in
      let quiet : r ≡ None = only_clean (length s.kept.fed.history + 1) r (verdict_told s e k r found.rule ∙ after) in
      subst (λ (f : Fed). Stands f.world f.history u.parts) (sym fed_is) (subst (Stands s.kept.fed.world (s.kept.fed.history ++ e ∷ [])) (sym parts_are) (found.goes_on quiet))))

  pub fed_later : (l : Late) → IsLater s.kept.fed.world s.kept.fed.history e s.parts l.what → l.before ≡ s.kept → u.late ≡ Some l → IsFed u
  fed_later l later before is = fed_with (subst (IsBehind u.kept.fed u.parts) (sym is) (record {
    event = e;
    is = later.is;
    fed = fed_is ∙ ap (λ y. fed_more y.fed e) (sym before);
    takes = subst (λ (f : Fed). TakesLate f.world l.before.fed.history u.parts l.what) (sym fed_is)
        (subst (λ y. TakesLate s.kept.fed.world y.fed.history u.parts l.what) (sym before) (subst (λ x. TakesLate s.kept.fed.world s.kept.fed.history x l.what) (sym parts_are) later.takes));
  }))

  pub view_told : view_of u ≡ fed_view (view_of s) e
  view_told =
      ap (λ (f : Fed). record { world = f.world; history = f.history; prepared = actors_of u.prepared.items }) fed_is
      ∙ ap (λ ps. record { world = s.kept.fed.world; history = s.kept.fed.history ++ e ∷ []; prepared = actors_of ps }) none_prepared
