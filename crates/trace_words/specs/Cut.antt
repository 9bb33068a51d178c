-- Cutting a text at a byte.
use Rattle.std.specs.Prelude.{ℕ, ◌≡◌, ◌==◌, List, [], ◌∷◌, ◌++◌, Option, Some, None}
use Rattle.std.specs.Borrow.{Bor}
use Rattle.std.specs.List.{slice_split}

-- the pieces of a text between bytes of one value
abbrev pub pieces_at : ℕ → List ℕ → List (List ℕ)
pieces_at byte text = slice_split (λ b. b == byte) text

-- a text begins with a piece, and then the byte and what stands behind it come
pub record CutsOff (byte : ℕ) (text front behind : List ℕ) : Type 0 where
  pub pieces : pieces_at byte text ≡ front ∷ pieces_at byte behind
  pub bytes : text ≡ front ++ byte ∷ behind

-- the first piece and what stands behind it, where the byte stands in the text
abbrev pub IsCut : ℕ → List ℕ → Option (Bor (List ℕ) × Bor (List ℕ)) → Type 0
IsCut byte text None = pieces_at byte text ≡ text ∷ []
IsCut byte text (Some p) = CutsOff byte text p.0.now p.1.now
