-- What a judge's parts become at the completion of an operation.
use Rattle.std.proofs.Common.{ℕ, zero, suc, slice_get, ◌≡◌, ◌<◌, ◌≤◌, ◌∙◌, nat_le, refl, ap, sym, subst, arith, List, [], ◌∷◌, ◌++◌, map, length, true, false, Option, Some, None, option_map}
use Rattle.dx_base.specs.Each.{Each}
use Rattle.dx_base.specs.Roomy.{Roomy}
use Rattle.dx_base.specs.declared.ids.FenceId.{FenceId}
use Rattle.clocks.specs.declared.clock.Clock.{Clock}
use Rattle.clocks.specs.Clocks.{OfQueue, OfThread, number, joined, empty_clock}
use Rattle.clocks.proofs.Clocks.{number_greater}
use Rattle.d3d_machine.specs.declared.calls.Record.{Record}
use Rattle.d3d_machine.specs.declared.events.Command.{Command}
use Rattle.d3d_machine.specs.declared.events.Event.{Event}
use Rattle.d3d_machine.specs.declared.events.Operation.{Operation}
use Rattle.d3d_machine.specs.declared.events.Operation.TheVariants as operation
use Rattle.d3d_machine.specs.declared.world.World.{World}
use Rattle.d3d_machine.specs.Effects.{dropped, desk_after}
use Rattle.d3d_machine.specs.Effects as effects
use Rattle.d3d_machine.specs.Play.{state_after}
use Rattle.d3d_machine.proofs.Short.{operation_lists}
use Rattle.d3d_judge.specs.declared.carried_clocks.CarriedClocks.{CarriedClocks}
use Rattle.d3d_judge.specs.declared.carried_clocks.GivenWork.{GivenWork}
use Rattle.d3d_judge.specs.declared.judge_parts.JudgeParts.{JudgeParts}
use Rattle.verdicts.specs.declared.rules.Rule.{Rule}
use Rattle.d3d_judge.specs.declared.sub_tables.SubTables.{SubTables}
use Rattle.d3d_judge.specs.declared.word_touches.WordTouches.{WordTouches}
use Rattle.d3d_judge.specs.Carried.{Clocks, item_or, head_of, next_number, queue_clock, queue_joined, marked, completing, completed, carried, one_completion_more}
use Rattle.d3d_judge.specs.CarriedClocks.{clocks_of, pending_in, pending_of, oldest_work, HasRoomFor, IsRoomFor, is_execute, IsSized, AreSized}
use Rattle.d3d_judge.specs.Commands.{command_of}
use Rattle.d3d_judge.specs.CopyScopes.{touch_opened, IsDone, InScope, AreJudged, JudgesCopies, IsCopyReady, AreCopiesReady, IsShapedFor, AreIn, IsWorkIn}
use Rattle.d3d_judge.specs.Happenings.{Completes, work_of}
use Rattle.d3d_judge.specs.Judged.{Judged, Found, found_in, found_in_head, found_in_work, found_in_scope, judge_after}
use Rattle.d3d_judge.specs.JudgeParts.{IsFound, found_after, AreOpen, TakesQueue, IsReadyFor, OldestIsReady, completion_of}
use Rattle.d3d_judge.specs.Scopes.{Opened, Scoped, first_scope, scope_all}
use Rattle.d3d_judge.specs.Setting.{traits_of, setting_of}
use Rattle.d3d_judge.specs.WordTouches.{AreAllTied}
use Rattle.d3d_judge.proofs.Carried.{number_put}
use Rattle.d3d_judge.proofs.CarriedClocks.{oldest_is, oldest_sized, some_is}
use Rattle.d3d_judge.proofs.ClockSizes.{sized_completing, sized_carried}
use Rattle.d3d_judge.proofs.InsideWords.{pending_inside, world_small}
use Rattle.d3d_judge.proofs.Standing.{stands_next, quiet_found, append_none, clocks_sized}
use Rattle.d3d_judge.proofs.Steady.{item_changed}

-- there is room for the update of the oldest
pub room_for : (w : World) (x : JudgeParts) (q : ℕ) → OldestIsReady w x q → HasRoomFor x.clocks q
room_for w x q h p e = by_operation p.operation (h p e)
  where
    by_operation : (o : Operation) → IsReadyFor w x q o → IsRoomFor x.clocks.updates o
    by_operation (operation.Execute cs) r = tt
    by_operation (operation.Signal f v) r = r

-- what was found as the operation of the oldest
pub record IsOldest (x : JudgeParts) (q : ℕ) (o : Operation) : Type 0 where
  pub work : GivenWork
  pub oldest : oldest_work x.clocks.pending q ≡ Some work
  pub operation : work.operation ≡ o

pub oldest_found : (x : JudgeParts) (q : ℕ) (o : Operation) → Some o ≡ option_map (λ (p : GivenWork). p.operation) (oldest_work x.clocks.pending q) → IsOldest x q o
oldest_found x q o e = by_work (oldest_work x.clocks.pending q) refl e
  where
    by_work : (y : Option GivenWork) → oldest_work x.clocks.pending q ≡ y → Some o ≡ option_map (λ (p : GivenWork). p.operation) y → IsOldest x q o
    by_work None is m = cc
    by_work (Some p) is m = record { work = p; oldest = is; operation = sym (some_is o p.operation m) }

none_oldest : (y : Option GivenWork) → None ≡ option_map (λ (p : GivenWork). p.operation) y → y ≡ None
none_oldest None e = refl
none_oldest (Some p) e = cc

-- the words of the oldest lie inside their buffers
pub oldest_inside : (w : World) (h : List Event) (x : JudgeParts) (q : ℕ) (o : Operation) → AreOpen w h x → Some o ≡ option_map (λ (p : GivenWork). p.operation) (oldest_work x.clocks.pending q) →
    IsWorkIn (map traits_of w.resources) (work_of o)
oldest_inside w h x q o k e =
    let f = oldest_found x q o e in
    let all : Each (λ ps. Each (λ p. IsWorkIn (map traits_of w.resources) p.what) ps) (map pending_in x.clocks.pending) =
    subst (λ (c : Clocks). Each (λ ps. Each (λ p. IsWorkIn (map traits_of w.resources) p.what) ps) c.pending) (sym k.stands.clocks) (pending_inside w h k.clean) in
    subst (λ y. IsWorkIn (map traits_of w.resources) (work_of y)) f.operation (of_queue x.clocks.pending q f.work all f.oldest)
  where
    first_of : (ps : List GivenWork) (p : GivenWork) → Each (λ y. IsWorkIn (map traits_of w.resources) y.what) (map pending_of ps) → slice_get ps 0 ≡ Some p → IsWorkIn (map traits_of w.resources) (work_of p.operation)
    first_of [] p all is = cc
    first_of (y ∷ ps) p all is = subst (λ (z : GivenWork). IsWorkIn (map traits_of w.resources) (work_of z.operation)) (some_is y p is) all.0

    of_queue : (ps : List (Roomy GivenWork)) (i : ℕ) (p : GivenWork) → Each (λ ys. Each (λ y. IsWorkIn (map traits_of w.resources) y.what) ys) (map pending_in ps) → oldest_work ps i ≡ Some p →
        IsWorkIn (map traits_of w.resources) (work_of p.operation)
    of_queue [] i p all is = cc
    of_queue (r ∷ ps) zero p all is = first_of r.items p all.0 is
    of_queue (r ∷ ps) (suc i) p all is = of_queue ps i p all.1 is

-- of each command of an execute
pub commands_inside : (w : World) (cs : List Command) → IsWorkIn (map traits_of w.resources) (work_of (operation.Execute cs)) → Each (λ c. AreIn (map traits_of w.resources) (command_of c.what)) cs
commands_inside w [] h = tt
commands_inside w (c ∷ cs) h = (h.0, commands_inside w cs h.1)

-- tables that were made for the oldest are ready for it
pub execute_ready : (w : World) (x : JudgeParts) (touches : WordTouches) (q : ℕ) (cs : List Command) → Some (operation.Execute cs) ≡ option_map (λ (p : GivenWork). p.operation) (oldest_work x.clocks.pending q) →
    Each (λ c. IsCopyReady w touches.resources q c.what) cs → OldestIsReady w (record x { touches = touches }) q
execute_ready w x touches q cs e ready p is =
    let same : operation.Execute cs ≡ p.operation = some_is (operation.Execute cs) p.operation (e ∙ ap (option_map (λ (y : GivenWork). y.operation)) is) in
    subst (IsReadyFor w (record x { touches = touches }) q) same ready

map_whats : (cs : List Command) → map command_of (map (λ c. c.what) cs) ≡ map (λ c. command_of c.what) cs
map_whats [] = refl
map_whats (c ∷ cs) = ap (λ t. command_of c.what ∷ t) (map_whats cs)

pub each_whats : (P : Record → Type 0) (cs : List Command) → Each (λ c. P c.what) cs → Each P (map (λ c. c.what) cs)
each_whats P [] h = tt
each_whats P (c ∷ cs) h = (h.0, each_whats P cs h.1)

module _ (w : World) (h : List Event) (x : JudgeParts) (q : ℕ) (k : TakesQueue w h x q) where
  -- the lists stay
  same_lists : (desk_after w (state_after w h).desk (completion_of q)).lists ≡ (state_after w h).desk.lists
  same_lists = operation_lists (dropped (state_after w h).desk q) (effects.head_of (state_after w h).desk q)

  head_is_oldest : head_of (judge_after w h).clocks q ≡ option_map pending_of (oldest_work x.clocks.pending q)
  head_is_oldest = ap (λ (c : Clocks). head_of c q) (sym k.opened.stands.clocks) ∙ oldest_is x.clocks.pending q

  -- where the oldest is no execute, nothing is found
  pub quiet_completes : is_execute (option_map (λ (p : GivenWork). p.operation) (oldest_work x.clocks.pending q)) ≡ false → (found_after w h (completion_of q)).broken ≡ None
  quiet_completes e = ap (λ o. (found_in_head (setting_of w) (judge_after w h) q o).broken) head_is_oldest ∙ by_work (oldest_work x.clocks.pending q) e
    where
      by_operation : (p : GivenWork) (o : Operation) → is_execute (Some o) ≡ false → (found_in_work (setting_of w) (judge_after w h) q (pending_of p) (work_of o)).broken ≡ None
      by_operation p (operation.Execute cs) e = cc
      by_operation p (operation.Signal f v) e = refl

      by_work : (y : Option GivenWork) → is_execute (option_map (λ (p : GivenWork). p.operation) y) ≡ false → (found_in_head (setting_of w) (judge_after w h) q (option_map pending_of y)).broken ≡ None
      by_work None e = refl
      by_work (Some p) e = by_operation p p.operation e

  -- where no operation is there, and where the oldest is a signal
  pub none_completes : (new : JudgeParts) → None ≡ option_map (λ (p : GivenWork). p.operation) (oldest_work x.clocks.pending q) → clocks_of new.clocks ≡ carried (clocks_of x.clocks) (Completes q) →
      new.lists ≡ x.lists → new.touches ≡ x.touches → IsFound w h (completion_of q) new None
  none_completes new e clocks lists touches =
      quiet_found w h (completion_of q) x new (Completes q) k.opened.clean k.opened.stands refl
      (ap (found_in_head (setting_of w) (judge_after w h) q) (head_is_oldest ∙ ap (option_map pending_of) (none_oldest (oldest_work x.clocks.pending q) e))) k.queue
      (lists ∙ (k.opened.stands.lists ∙ sym same_lists)) clocks touches

  pub signal_completes : (new : JudgeParts) (f : FenceId) (v : ℕ) → Some (operation.Signal f v) ≡ option_map (λ (p : GivenWork). p.operation) (oldest_work x.clocks.pending q) → clocks_of new.clocks ≡ carried (clocks_of x.clocks) (Completes q) →
      new.lists ≡ x.lists → new.touches ≡ x.touches → IsFound w h (completion_of q) new None
  signal_completes new f v e clocks lists touches =
      let o = oldest_found x q (operation.Signal f v) e in
      quiet_found w h (completion_of q) x new (Completes q) k.opened.clean k.opened.stands refl
      (ap (found_in_head (setting_of w) (judge_after w h) q) (head_is_oldest ∙ ap (option_map pending_of) o.oldest)
      ∙ ap (λ y. found_in_work (setting_of w) (judge_after w h) q (pending_of o.work) (work_of y)) o.operation) k.queue
      (lists ∙ (k.opened.stands.lists ∙ sym same_lists)) clocks touches

  -- the queue's clock and count are there after the completion
  after_sized : (s : CarriedClocks) → clocks_of s ≡ carried (clocks_of x.clocks) (Completes q) → AreSized (length w.queues) (length w.scripts) (length w.fences) (clocks_of s)
  after_sized s carry = subst (AreSized (length w.queues) (length w.scripts) (length w.fences)) (sym carry)
      (sized_carried (length w.queues) (length w.scripts) (length w.fences) (clocks_of x.clocks) (Completes q) k.queue (clocks_sized w h x k.opened.stands))

  pub completed_queue : (s : CarriedClocks) → clocks_of s ≡ carried (clocks_of x.clocks) (Completes q) → q < length s.queues
  completed_queue s carry = let z = (after_sized s carry).queue_count in let l = k.queue in omega (arith, z, l)

  pub completed_counts : (s : CarriedClocks) → clocks_of s ≡ carried (clocks_of x.clocks) (Completes q) → q < length s.ends.queues
  completed_counts s carry = let z = (after_sized s carry).ends.queues_are in let l = k.queue in omega (arith, z, l)

  -- an execute
  module _ (s : CarriedClocks) (cs : List Command) (e : Some (operation.Execute cs) ≡ option_map (λ (p : GivenWork). p.operation) (oldest_work x.clocks.pending q)) (carry : clocks_of s ≡ carried (clocks_of x.clocks) (Completes q)) where
    abbrev work : GivenWork
    work = (oldest_found x q (operation.Execute cs) e).work

    abbrev j : Judged
    j = judge_after w h

    head_there : head_of j.clocks q ≡ Some (pending_of work)
    head_there = head_is_oldest ∙ ap (option_map pending_of) (oldest_found x q (operation.Execute cs) e).oldest

    clocks_are : clocks_of s ≡ completed j.clocks q (Some (pending_of work))
    clocks_are = carry ∙ (ap (λ c. carried c (Completes q)) k.opened.stands.clocks ∙ ap (completed j.clocks q) head_there)

    pub clock_is : (c : Clock) → c ≡ item_or empty_clock s.queues q → c ≡ completing j.clocks q (pending_of work)
    clock_is c is =
        is ∙ (ap (λ (y : Clocks). item_or empty_clock y.queues q) clocks_are
        ∙ item_changed (λ _. completing j.clocks q (pending_of work)) empty_clock q j.clocks.queues (let z = k.opened.stands.steady.sized.queue_count in let l = k.queue in omega (arith, z, l)))

    pub number_is : (n : ℕ) → n ≡ number s.ends.queues q → n ≡ next_number j.clocks q
    number_is n is = is ∙ (ap (λ (y : Clocks). number y.ends.queues q) clocks_are ∙ number_put j.clocks.ends.queues q (next_number j.clocks q))

    work_sized : IsSized (length w.queues) (length w.scripts) work.clock
    work_sized = oldest_sized (length w.queues) (length w.scripts) x.clocks.pending q work
        (subst (λ (c : Clocks). Each (λ ps. Each (λ p. IsSized (length w.queues) (length w.scripts) p.clock) ps) c.pending) (sym k.opened.stands.clocks) k.opened.stands.steady.sized.of_pending)
        (oldest_found x q (operation.Execute cs) e).oldest

    pub clock_sized : (c : Clock) → c ≡ item_or empty_clock s.queues q → IsSized (length w.queues) (length w.scripts) c
    clock_sized c is =
        subst (IsSized (length w.queues) (length w.scripts)) (sym (clock_is c is))
        (sized_completing (length w.queues) (length w.scripts) (length w.fences) q j.clocks (pending_of work) k.queue work_sized k.opened.stands.steady.sized)

    -- what judging the copies needs
    pub copies_ready : (c counts : Clock) → c ≡ item_or empty_clock s.queues q → counts ≡ x.clocks.ends → OldestIsReady w x q → AreCopiesReady w x.touches.resources c counts q (map (λ y. y.what) cs)
    copies_ready c counts ec eo ready = record {
      small = world_small w k.opened.sizes;
      shaped = k.opened.stands.shaped;
      clock_sized = clock_sized c ec;
      counts_sized = subst (IsSized (length w.queues) (length w.scripts)) (sym (eo ∙ ap (λ (y : Clocks). y.ends) k.opened.stands.clocks)) k.opened.stands.steady.sized.ends;
      queue = k.queue;
      copies = each_whats (IsCopyReady w x.touches.resources q) cs
          (subst (IsReadyFor w x q) (oldest_found x q (operation.Execute cs) e).operation (ready work (oldest_found x q (operation.Execute cs) e).oldest));
    }

    joint_knows : number j.clocks.ends.queues q ≤ number (queue_joined j.clocks q (pending_of work)).queues q
    joint_knows =
        let a = number_greater (joined (pending_of work).clock (queue_clock j.clocks q)).queues (marked j.clocks (pending_of work) (pending_of work).what).queues q in
        let b = number_greater (pending_of work).clock.queues (queue_clock j.clocks q).queues q in
        let c = k.opened.stands.steady.own q in
        omega (arith, a, b, c)

    abbrev first : Scoped
    first = first_scope j.layouts j.lost

    abbrev last : Scoped
    last = scope_all (setting_of w) j.made (queue_joined j.clocks q (pending_of work)) (OfQueue q (next_number j.clocks q)) first (map (λ c. command_of c.what) cs)

    begins : InScope w j.made (queue_joined j.clocks q (pending_of work)) j.clocks.ends q (next_number j.clocks q) first
    begins = record {
      done = k.opened.stands.steady.done;
      queue = k.queue;
      next = omega arith;
      own = joint_knows;
      touched = refl;
      bare = tt;
      lost = k.opened.stands.steady.lost;
    }

    found_is : found_in (setting_of w) j (Completes q) ≡ found_in_scope last
    found_is =
        ap (found_in_head (setting_of w) j q) head_there
        ∙ ap (λ o. found_in_work (setting_of w) j q (pending_of work) (work_of o)) (oldest_found x q (operation.Execute cs) e).operation

    opened_done : (os : List Opened) → Each (IsDone w (one_completion_more j.clocks.ends q)) (map (touch_opened (OfQueue q (next_number j.clocks q))) os)
    opened_done [] = tt
    opened_done (o ∷ os) = (
      record {
        queue = λ p n g. subst (λ y. y < length w.queues) (queue_is q (next_number j.clocks q) p n g) k.queue;
        thread = λ p n g. no_thread q (next_number j.clocks q) p n g;
        known = is_most (next_number j.clocks q) (number (one_completion_more j.clocks.ends q).queues q) (let a = number_put j.clocks.ends.queues q (next_number j.clocks q) in omega (arith, a));
      },
      opened_done os,
    )
      where
        queue_is : (a b c d : ℕ) → OfQueue a b ≡ OfQueue c d → a ≡ c
        queue_is a b c d g = cc

        no_thread : {P : Type 0} (a b c d : ℕ) → OfQueue a b ≡ OfThread c d → P
        no_thread a b c d g = absurd (cc)

        is_most : (a b : ℕ) → a ≤ b → nat_le a b ≡ true
        is_most a b g = grind (arith, g)

    pub execute_completes : (new : JudgeParts) (old : List (List SubTables)) (c counts : Clock) (n : ℕ) (r : Option Rule) → c ≡ item_or empty_clock s.queues q → n ≡ number s.ends.queues q → counts ≡ x.clocks.ends →
        AreAllTied j.made old → JudgesCopies w old c counts q n (map (λ y. y.what) cs) new.touches.resources r → clocks_of new.clocks ≡ clocks_of s → new.lists ≡ x.lists → IsShapedFor w new.touches.resources →
        IsFound w h (completion_of q) new r
    execute_completes new old c counts n r ec en eo tied judges clocks lists shaped =
        let counts_are : counts ≡ j.clocks.ends = eo ∙ ap (λ (y : Clocks). y.ends) k.opened.stands.clocks in
        let n_is : n ≡ next_number j.clocks q = number_is n en in
        let told : AreJudged w j.made (queue_joined j.clocks q (pending_of work)) j.clocks.ends q (next_number j.clocks q) first (map (λ y. y.what) cs) new.touches.resources r =
        subst (λ m. JudgesCopies w old c j.clocks.ends q m (map (λ y. y.what) cs) new.touches.resources r) n_is
        (subst (λ d. JudgesCopies w old c d q n (map (λ y. y.what) cs) new.touches.resources r) counts_are judges)
        j.made first (queue_joined j.clocks q (pending_of work)) (clock_is c ec) refl begins (subst (λ ts. AreAllTied ts old) (sym (append_none j.made)) tied) in
        let last_is : scope_all (setting_of w) j.made (queue_joined j.clocks q (pending_of work)) (OfQueue q (next_number j.clocks q)) first (map command_of (map (λ y. y.what) cs)) ≡ last =
        ap (scope_all (setting_of w) j.made (queue_joined j.clocks q (pending_of work)) (OfQueue q (next_number j.clocks q)) first) (map_whats cs) in
        let rule_is : r ≡ last.broken = told.rule ∙ ap (λ (y : Scoped). y.broken) last_is in
        record {
          rule = rule_is ∙ sym (ap (λ (y : Found). y.broken) found_is);
          goes_on = λ none.
              let inside : InScope w j.made (queue_joined j.clocks q (pending_of work)) j.clocks.ends q (next_number j.clocks q) last = subst (InScope w j.made (queue_joined j.clocks q (pending_of work)) j.clocks.ends q (next_number j.clocks q)) last_is (told.scope none) in
              let ends_are : (carried j.clocks (Completes q)).ends ≡ one_completion_more j.clocks.ends q = ap (λ o. (completed j.clocks q o).ends) head_there in
              stands_next w h (completion_of q) x new (Completes q) (found_in_scope last) k.opened.clean k.opened.stands refl found_is (sym rule_is ∙ none) k.queue
              (lists ∙ (k.opened.stands.lists ∙ sym same_lists)) (clocks ∙ carry)
              (subst (λ (y : Scoped). AreAllTied (j.made ++ y.touched) new.touches.resources) last_is (told.ties none)) shaped
              (subst (λ d. Each (IsDone w d) last.touched) (sym ends_are) (subst (Each (IsDone w (one_completion_more j.clocks.ends q))) (sym inside.touched) (opened_done last.opened)))
              inside.lost;
        }
