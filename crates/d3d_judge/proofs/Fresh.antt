-- The last call of a thread is known to that thread alone.
use Rattle.std.proofs.Common.{ℕ, zero, suc, ◌<◌, ◌≡◌, List, [], ◌∷◌, subst, sym, refl, arith, false}
use Rattle.dx_base.specs.Each.{Each}
use Rattle.dx_base.specs.Lists.{changed_at}
use Rattle.dx_base.proofs.Each.{each_on}
use Rattle.clocks.specs.declared.clock.Clock.{Clock}
use Rattle.clocks.specs.Clocks.{OfThread, number, knows, Within, empty_clock}
use Rattle.d3d_judge.specs.Carried.{item_or, Clocks, thread_clock, one_call_more, call_clock, called_by, Sound, Fresh}
use Rattle.d3d_judge.proofs.Carried.{each_at, within_empty, number_put}

at_other : {A : Type 0} (d : A) (f : A → A) (k u : ℕ) (xs : List A) → (u ≡ k → ⊥) → item_or d (changed_at f k xs) u ≡ item_or d xs u
at_other d f k u [] n = refl
at_other d f zero zero (x ∷ xs) n = absurd (n refl)
at_other d f zero (suc u) (x ∷ xs) n = refl
at_other d f (suc k) zero (x ∷ xs) n = refl
at_other d f (suc k) (suc u) (x ∷ xs) n = at_other d f k u xs (λ e. n (omega (arith, e)))

unknown : (c d : Clock) (t m : ℕ) → Within c d → number d.threads t < m → knows c (OfThread t m) ≡ false
unknown c d t m w l = let h = w.threads t in grind (arith, h, l)

pub fresh : (s : Clocks) (t : ℕ) → Sound s → Fresh (called_by s t) t
fresh s t z =
    let m : ℕ = number (one_call_more s.ends t).threads t in
    let b : number s.ends.threads t < m = let e = number_put s.ends.threads t (suc (number s.ends.threads t)) in omega (arith, e) in
    record {
      threads = λ u n. subst (λ c. knows c (OfThread t m) ≡ false) (sym (at_other empty_clock (λ _. call_clock s t) t u s.threads n))
          (unknown (thread_clock s u) s.ends t m (each_at (λ c. Within c s.ends) empty_clock s.threads u (within_empty s.ends) z.threads) b);
      queues = each_on (λ c. Within c s.ends) (λ c. knows c (OfThread t m) ≡ false) s.queues (λ c w. unknown c s.ends t m w b) z.queues;
      pending = each_on (λ ps. Each (λ p. Within p.clock s.ends) ps) (λ ps. Each (λ p. knows p.clock (OfThread t m) ≡ false) ps) s.pending
          (λ ps. each_on (λ p. Within p.clock s.ends) (λ p. knows p.clock (OfThread t m) ≡ false) ps (λ p w. unknown p.clock s.ends t m w b)) z.pending;
      updates = each_on (λ us. Each (λ u. Within u.clock s.ends) us) (λ us. Each (λ u. knows u.clock (OfThread t m) ≡ false) us) s.updates
          (λ us. each_on (λ u. Within u.clock s.ends) (λ u. knows u.clock (OfThread t m) ≡ false) us (λ u w. unknown u.clock s.ends t m w b)) z.updates;
    }
