-- One more call of the last thread.
use Rattle.trace_text.proofs.Vocabulary.{ℕ, zero, suc, ◌≡◌, ◌+◌, List, [], ◌∷◌, ◌++◌, length, get_or, slice_set, arith, ap, Call, with_call}

-- writing the longer script in place of the last
pub last_grows : (ss : List (List Call)) (i : ℕ) (s t : List Call) (c : Call) → i + 1 ≡ length ss → s ≡ get_or ss i s → t ≡ s ++ c ∷ [] →
    slice_set ss i t ≡ with_call ss c
unfolding with_call
last_grows (x ∷ []) zero s t c at was grown = cc
last_grows (x ∷ y ∷ ss) (suc i) s t c at was grown = ap (λ more. x ∷ more) (last_grows (y ∷ ss) i s t c (omega arith) was grown)
last_grows _ _ s t c at was grown = absurd (omega arith)
