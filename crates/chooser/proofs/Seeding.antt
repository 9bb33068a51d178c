-- The generator of a chooser, as it gives one number after another.
use Rattle.std.proofs.Common.{◌≡◌, ℕ, List, [], ◌∷◌, ◌++◌, length, length-append, add-one, ◌∙◌, ap}
use Rattle.rand_pcg.specs.Lcg.{Lcg}
use Rattle.rand_pcg.specs.Pcg.{pcg64}
use Rattle.chooser.specs.Seeded.{seeded, seeded_after, seeded_word}

-- nothing was given yet
pub seeded_first : (number : ℕ) (given : List ℕ) (g : Lcg) → g ≡ seeded number → given ≡ [] → g ≡ seeded_after number (length given)
unfolding seeded_after
seeded_first number given g new none = rw none new

-- the number that comes at this place
pub seeded_gives : (number : ℕ) (given : List ℕ) (g h : Lcg) (r : ℕ) →
    g ≡ seeded_after number (length given) → (r, h) ≡ pcg64 g → r ≡ seeded_word number (length given)
unfolding seeded_word
seeded_gives number given g h r here step = ap (λ p. p.0) (step ∙ ap pcg64 here)

-- the generator behind it
pub seeded_next : (number : ℕ) (given more : List ℕ) (g h : Lcg) (r : ℕ) →
    g ≡ seeded_after number (length given) → (r, h) ≡ pcg64 g → more ≡ given ++ r ∷ [] → h ≡ seeded_after number (length more)
unfolding seeded_after
seeded_next number given more g h r here step grown =
    rw (grown, length-append given (r ∷ []), add-one (length given)) (ap (λ p. p.1) (step ∙ ap pcg64 here))
