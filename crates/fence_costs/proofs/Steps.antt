-- How rounds on a fence go on.
use Rattle.std.proofs.Common.{ℕ, ◌≡◌, ◌<◌, ◌∙◌, refl, ap, sym, subst, List, [], ◌∷◌, ◌++◌, length, arith}
use Rattle.dx_base.specs.declared.ids.FenceId.{FenceId}
use Rattle.dx_base.specs.Each.{Each}
use Rattle.fence_timeline.specs.declared.wait.Wait.{Wait}
use Rattle.fence_timeline.specs.Waits.{IsIn, without}
use Rattle.fence_timeline.specs.FenceList.{FenceList, IsFenceList, IsSame, IsWaitFrom, gpu_update, caught_up, host_signalled, gpu_signalled, new_list, armed_with, done_with}
use Rattle.fence_timeline.proofs.PendingCalls.{have_signalled, have_caught, have_host, have_done}
use Rattle.fence_timeline.proofs.WaitList.{stands_behind, without_behind}
use Rattle.fence_costs.specs.Rounds.{IsOfOneQueue, GoesOn}

pub same_on : (s t : FenceList) → IsSame t s → IsFenceList t → IsOfOneQueue s → GoesOn s t
same_on s t same list is = record { queue = record { list = list; one = rw (same.applied, same.updates) is.one }; armed = same.armed }

pub signalled_on : (s t : FenceList) (v at : ℕ) → IsSame t (gpu_signalled (gpu_update v 0 at) s) → IsFenceList t → IsOfOneQueue s → GoesOn s t
signalled_on s t v at same list is = record {
  queue = record { list = list; one = have_signalled (0 ∷ []) s t v 0 at same is.list (omega arith) is.one };
  armed = same.armed;
}

pub caught_on : (s t : FenceList) (counters : List ℕ) → IsSame t (caught_up counters s) → IsFenceList t → IsOfOneQueue s → GoesOn s t
caught_on s t counters same list is = record {
  queue = record { list = list; one = have_caught (0 ∷ []) s t counters same is.list is.one };
  armed = same.armed;
}

pub host_on : (s t : FenceList) (v : ℕ) → IsSame t (host_signalled v s) → IsFenceList t → IsOfOneQueue s → GoesOn s t
host_on s t v same list is = record {
  queue = record { list = list; one = have_host (0 ∷ []) s t v same is.list is.one };
  armed = same.armed;
}

pub on_on : (s t r : FenceList) → GoesOn s t → GoesOn t r → GoesOn s r
on_on s t r first second = record { queue = second.queue; armed = second.armed ∙ first.armed }

-- a new fence
pub one_new : (f : FenceId) (v room : ℕ) (s : FenceList) → IsSame s (new_list f v room) → IsFenceList s → IsOfOneQueue s
one_new f v room s new list = record { list = list; one = rw (new.applied, new.updates) tt }

-- a wait that is armed last
pub one_armed : (s t : FenceList) (w : Wait) → IsSame t (armed_with w s) → IsFenceList t → IsOfOneQueue s → IsOfOneQueue t
one_armed s t w same list is = record { list = list; one = rw (same.applied, same.updates) is.one }

pub armed_last : (s t r : FenceList) (w : Wait) → IsSame t (armed_with w s) → GoesOn t r → IsIn r.armed w
armed_last s t r w same on =
    subst (λ ws. IsIn ws w) (sym (on.armed ∙ same.armed)) (record { place = length s.armed; stands = stands_behind s.armed w })

-- and let go of, when the fence went on
pub done_on : (s t r u : FenceList) (v : ℕ) (w : Wait) → IsSame t (armed_with w s) → IsWaitFrom s v w → GoesOn t r → IsSame u (done_with w r) → IsFenceList u → GoesOn s u
done_on s t r u v w same wait on done list = record {
  queue = record { list = list; one = have_done (0 ∷ []) r u w done on.queue.list on.queue.one };
  armed = done.armed ∙ ap (λ ws. without w.number ws) (on.armed ∙ same.armed) ∙ without_behind s.armed w wait.fresh;
}

pub stays : (s : FenceList) → IsOfOneQueue s → GoesOn s s
stays s is = record { queue = is; armed = refl }
