-- Actions that are apart commute.
use Rattle.std.proofs.Common.{◌≡◌, ◌∙◌, sym, Bool, true, false}
use Rattle.routines.specs.Actions.{IsAction, ActionsCommute}
use Rattle.routines.proofs.Counting.{by_cases}

module _ (C : Type 0) (N : Type 0) where
  no_both : {P : Type 0} (b : Bool) → b ≡ true → b ≡ false → P
  no_both b yes_case no_case = absurd (cc)

  -- an action finds what it reads as another one, apart from it, left it
  unread : (reads writes written : C → Bool) (act other : (C → N) → C → N) → IsAction reads writes act →
      ((x : C → N) (c : C) → written c ≡ false → other x c ≡ x c) → ((c : C) → written c ≡ true → reads c ≡ false) →
      (x : C → N) (c : C) → writes c ≡ true → act (other x) c ≡ act x c
  unread reads writes written act other is leaves apart x c w =
      is.inside (other x) x (λ k r. by_cases (written k) (λ t. no_both (reads k) r (apart k t)) (λ f. leaves x k f)) c w

  pub commute : ActionsCommute C N
  commute reads writes other_reads other_writes act other is are apart x c =
      by_cases (writes c)
      (λ w. unread reads writes other_writes act other is are.outside apart.not_read x c w ∙ sym (are.outside (act x) c (apart.unwritten c w)))
      (λ n. by_cases (other_writes c)
      (λ w. is.outside (other x) c n ∙ sym (unread other_reads other_writes writes other act are is.outside apart.unread x c w))
      (λ m. is.outside (other x) c n ∙ are.outside x c m ∙ sym (is.outside x c n) ∙ sym (are.outside (act x) c m)))
