-- The names of the accesses.
use Rattle.std.specs.Prelude.{ℕ, List, [], ◌∷◌, codes}

-- each access with its bit
abbrev pub accesses : List (List ℕ × ℕ)
accesses =
    (codes "MEMORY_READ", 1) ∷ (codes "MEMORY_WRITE", 2)
    ∷ (codes "SHADER_STORAGE_READ", 4) ∷ (codes "SHADER_STORAGE_WRITE", 8)
    ∷ (codes "SHADER_READ", 16) ∷ (codes "UNIFORM_READ", 32)
    ∷ (codes "TRANSFER_READ", 64) ∷ (codes "TRANSFER_WRITE", 128)
    ∷ (codes "HOST_READ", 256) ∷ []
