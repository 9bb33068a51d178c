-- What joined clocks know.
use Rattle.std.proofs.Common.{ℕ, zero, suc, ◌≡◌, nat_le, List, [], ◌∷◌, refl, arith, max, ◌||◌}
use Rattle.clocks.specs.declared.clock.Clock.{Clock}
use Rattle.clocks.specs.Clocks.{Act, OfQueue, OfThread, number, greater, joined, knows, Within}

pub number_greater : (a b : List ℕ) (p : ℕ) → number (greater a b) p ≡ max (number a p) (number b p)
number_greater [] b p = omega arith
number_greater (x ∷ a) [] p = omega arith
number_greater (x ∷ a) (y ∷ b) zero = refl
number_greater (x ∷ a) (y ∷ b) (suc p) = number_greater a b p

le_max : (n a b : ℕ) → nat_le n (max a b) ≡ (nat_le n a || nat_le n b)
le_max n a b = grind arith

pub knows_joined : (a b : Clock) (x : Act) → knows (joined a b) x ≡ (knows a x || knows b x)
knows_joined a b (OfQueue q n) = rw (number_greater a.queues b.queues q) (le_max n (number a.queues q) (number b.queues q))
knows_joined a b (OfThread t n) = rw (number_greater a.threads b.threads t) (le_max n (number a.threads t) (number b.threads t))

pub within_joined : (a b d : Clock) → Within a d → Within b d → Within (joined a b) d
within_joined a b d p r = record {
  queues = λ q. let h1 = p.queues q in let h2 = r.queues q in rw (number_greater a.queues b.queues q) (omega (arith, h1, h2));
  threads = λ t. let h1 = p.threads t in let h2 = r.threads t in rw (number_greater a.threads b.threads t) (omega (arith, h1, h2));
}
