-- What tests keep of a fence, through its calls.
use Rattle.std.proofs.Common.{ℕ, ◌≡◌, ◌<◌, refl, sym, subst, List, [], ◌∷◌, length}
use Rattle.dx_base.specs.declared.ids.FenceId.{FenceId}
use Rattle.fence_timeline.specs.declared.update.Update.{Update}
use Rattle.fence_timeline.specs.declared.wait.Wait.{Wait}
use Rattle.fence_timeline.specs.Waits.{IsIn}
use Rattle.fence_timeline.specs.FenceList.{FenceList, IsFenceList, IsSame, HaveCounters, gpu_update, caught_up, host_signalled, gpu_signalled, new_list, armed_with}
use Rattle.table_rows.specs.WaitedFences.{IsWaitedFor}
use Rattle.fence_timeline.proofs.PendingCalls.{have_like, have_signalled, have_caught, have_host}

-- counters of two queues
pub have_two : (counters : List ℕ) (us : List Update) → length counters ≡ 2 → HaveCounters (0 ∷ 0 ∷ []) us → HaveCounters counters us
have_two counters us count have = have_like (0 ∷ 0 ∷ []) counters us count have

-- a state that is the same
pub waited_same : (s t : FenceList) (w : Wait) → IsSame t s → IsFenceList t → IsWaitedFor s w → IsWaitedFor t w
waited_same s t w same list is = record {
  list = list;
  armed = subst (λ ws. IsIn ws w) (sym same.armed) is.armed;
  two = rw (same.applied, same.updates) is.two;
}

-- a signal of one of the two queues
pub waited_signalled : (s t : FenceList) (w : Wait) (v q at : ℕ) → IsSame t (gpu_signalled (gpu_update v q at) s) → IsFenceList t → q < 2 → IsWaitedFor s w → IsWaitedFor t w
waited_signalled s t w v q at same list low is = record {
  list = list;
  armed = subst (λ ws. IsIn ws w) (sym same.armed) is.armed;
  two = have_signalled (0 ∷ 0 ∷ []) s t v q at same is.list low is.two;
}

pub waited_caught : (s t : FenceList) (w : Wait) (counters : List ℕ) → IsSame t (caught_up counters s) → IsFenceList t → IsWaitedFor s w → IsWaitedFor t w
waited_caught s t w counters same list is = record {
  list = list;
  armed = subst (λ ws. IsIn ws w) (sym same.armed) is.armed;
  two = have_caught (0 ∷ 0 ∷ []) s t counters same is.list is.two;
}

pub waited_host : (s t : FenceList) (w : Wait) (v : ℕ) → IsSame t (host_signalled v s) → IsFenceList t → IsWaitedFor s w → IsWaitedFor t w
waited_host s t w v same list is = record {
  list = list;
  armed = subst (λ ws. IsIn ws w) (sym same.armed) is.armed;
  two = have_host (0 ∷ 0 ∷ []) s t v same is.list is.two;
}

-- a new fence with a wait
pub waited_new : (f : FenceId) (v room : ℕ) (s t : FenceList) (w : Wait) → IsSame s (new_list f v room) → IsSame t (armed_with w s) → IsFenceList t → IsWaitedFor t w
waited_new f v room s t w new same list = record {
  list = list;
  armed = rw (same.armed, new.armed) (record { place = 0; stands = refl });
  two = rw (same.applied, same.updates, new.applied, new.updates) tt;
}
