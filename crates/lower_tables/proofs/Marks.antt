-- Tests of seven marks, one for each name that a set may have.
use Rattle.std.proofs.Common.{◌≡◌, Bool, true, false, not, ◌&&◌, ◌||◌}
use Rattle.dx_flags.proofs.Named.{both}

-- a test passes for both marks
abbrev pub two : (Bool → Bool) → Bool
two test = test true && test false

at_two : (test : Bool → Bool) → two test ≡ true → (a : Bool) → test a ≡ true
at_two test h true = (both (test true) (test false) h).0
at_two test h false = (both (test true) (test false) h).1

-- a test of seven marks
abbrev pub Test : Type 0
Test = Bool → Bool → Bool → Bool → Bool → Bool → Bool → Bool

-- it passes for all marks
abbrev pub all_marks : Test → Bool
all_marks test = two (λ a. two (λ b. two (λ c. two (λ d. two (λ e. two (λ f. two (test a b c d e f)))))))

-- so it passes for these
pub at_marks : (test : Test) → all_marks test ≡ true → (a b c d e f g : Bool) → test a b c d e f g ≡ true
at_marks test h a b c d e f g =
    at_two (test a b c d e f)
    (at_two (λ f. two (test a b c d e f))
    (at_two (λ e. two (λ f. two (test a b c d e f)))
    (at_two (λ d. two (λ e. two (λ f. two (test a b c d e f))))
    (at_two (λ c. two (λ d. two (λ e. two (λ f. two (test a b c d e f)))))
    (at_two (λ b. two (λ c. two (λ d. two (λ e. two (λ f. two (test a b c d e f))))))
    (at_two (λ a. two (λ b. two (λ c. two (λ d. two (λ e. two (λ f. two (test a b c d e f))))))) h a) b) c) d) e) f) g

-- the second test passes where the first does
abbrev pub implies : Bool → Bool → Bool
implies a b = not a || b

pub where_first : (a b : Bool) → implies a b ≡ true → a ≡ true → b ≡ true
where_first true b h is = h
where_first false b h is = cc
