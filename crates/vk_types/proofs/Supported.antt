-- Stages support accesses just where each access of the set is supported by some stage of the other.
use Rattle.std.proofs.Common.{◌≡◌, ℕ, zero, suc, Some, slice_get, arith, Bool, true, false, not, ◌&&◌, ◌||◌, List, [], ◌∷◌, refl, ◌⊎◌, inl, inr, true≢false, sym}
use Rattle.std.specs.List.{list_all, list_any}
use Rattle.std.proofs.lemmas.Bool.{and_parts}
use Rattle.std.proofs.lemmas.List.Folds.{list_any_at}
use Rattle.std.proofs.lemmas.Option.{none-some}
use Rattle.vk_types.specs.declared.accesses.Access.{Access}
use Rattle.vk_types.specs.declared.accesses.Access.TheVariants.{MemoryRead, MemoryWrite, ShaderStorageRead, ShaderStorageWrite, ShaderRead, UniformRead, TransferRead, TransferWrite, HostRead}
use Rattle.vk_types.specs.declared.accesses.Accesses.{Accesses}
use Rattle.vk_types.specs.declared.stages.Stage.{Stage}
use Rattle.vk_types.specs.declared.stages.Stage.TheVariants.{AllCommands, ComputeShader, Copy, Host}
use Rattle.vk_types.specs.declared.stages.Stages.{Stages}
use Rattle.vk_types.specs.Accesses.{has_access, group_of}
use Rattle.vk_types.specs.Stages.{has_stage}
use Rattle.vk_types.specs.Support.{supports, supports_access, supports_group, all_accesses, all_stages}
use Rattle.vk_types.specs.Supported.{IsSupported, SupportMeans}

-- one of two tests holds
one_of : (a b : Bool) → (a || b) ≡ true → (a ≡ true) ⊎ (b ≡ true)
one_of true b h = inl refl
one_of false b h = inr h

-- a test holds where another does
where_other : (a b : Bool) → (not a || b) ≡ true → a ≡ true → b ≡ true
where_other true b h is = h
where_other false b h is = absurd (true≢false (sym is))

-- the converse
wherever_other : (a b : Bool) → (a ≡ true → b ≡ true) → (not a || b) ≡ true
wherever_other true b h = h refl
wherever_other false b h = refl

both : (a b : Bool) → a ≡ true → b ≡ true → (a && b) ≡ true
both true b h k = k
both false b h k = absurd (true≢false (sym h))

-- what all accesses of a list pass
all_of : (p : Access → Bool) (xs : List Access) → ((x : Access) → p x ≡ true) → list_all p xs ≡ true
all_of p [] each = refl
all_of p (x ∷ xs) each = both (p x) (list_all p xs) (each x) (all_of p xs each)

-- what all accesses of a list pass, the one at a place passes
at_place : (p : Access → Bool) (xs : List Access) (i : ℕ) (x : Access) → list_all p xs ≡ true → slice_get xs i ≡ Some x → p x ≡ true
at_place p [] i x h e = absurd (none-some x e)
at_place p (y ∷ xs) zero x h e = let same : x ≡ y = cc in rw same (and_parts (p y) (list_all p xs) h).0
at_place p (y ∷ xs) (suc i) x h e = at_place p xs i x (and_parts (p y) (list_all p xs) h).1 e

-- a test that passes for all accesses passes for each
pub among_all : (p : Access → Bool) (x : Access) → list_all p all_accesses ≡ true → p x ≡ true
among_all p MemoryRead h = at_place p all_accesses 0 MemoryRead h refl
among_all p MemoryWrite h = at_place p all_accesses 1 MemoryWrite h refl
among_all p ShaderStorageRead h = at_place p all_accesses 2 ShaderStorageRead h refl
among_all p ShaderStorageWrite h = at_place p all_accesses 3 ShaderStorageWrite h refl
among_all p ShaderRead h = at_place p all_accesses 4 ShaderRead h refl
among_all p UniformRead h = at_place p all_accesses 5 UniformRead h refl
among_all p TransferRead h = at_place p all_accesses 6 TransferRead h refl
among_all p TransferWrite h = at_place p all_accesses 7 TransferWrite h refl
among_all p HostRead h = at_place p all_accesses 8 HostRead h refl

-- a stage of a list that passes a test
some_of : (p : Stage → Bool) (ss : List Stage) → list_any p ss ≡ true → (s : Stage) × (p s ≡ true)
some_of p [] h = absurd (true≢false (sym h))
some_of p (s ∷ ss) h = elim (one_of (p s) (list_any p ss) h) [ inl here ↦ (s, here) | inr later ↦ some_of p ss later ]

-- all stages are in the list of all
any_of_all : (p : Stage → Bool) (s : Stage) → p s ≡ true → list_any p all_stages ≡ true
any_of_all p AllCommands h = list_any_at p all_stages 0 AllCommands (omega arith) h
any_of_all p ComputeShader h = list_any_at p all_stages 1 AllCommands (omega arith) h
any_of_all p Copy h = list_any_at p all_stages 2 AllCommands (omega arith) h
any_of_all p Host h = list_any_at p all_stages 3 AllCommands (omega arith) h

module _ (stages : Stages) (x : Access) where
  fits : Stage → Bool
  fits stage = has_stage stages stage && supports_group stage (group_of x)

  -- a stage that supports an access
  supporter : supports_access stages x ≡ true → IsSupported stages x
  unfolding fits
  supporter h =
      let s : (s : Stage) × (fits s ≡ true) = some_of fits all_stages h in
      let parts : (has_stage stages s.0 ≡ true) × (supports_group s.0 (group_of x) ≡ true) = and_parts (has_stage stages s.0) (supports_group s.0 (group_of x)) s.1 in
      record { stage = s.0; there = parts.0; fits = parts.1 }

  -- an access that a stage supports
  supported : IsSupported stages x → supports_access stages x ≡ true
  unfolding fits
  supported is = any_of_all fits is.stage (both (has_stage stages is.stage) (supports_group is.stage (group_of x)) is.there is.fits)

module _ (stages : Stages) (accesses : Accesses) where
  passes : Access → Bool
  passes x = not (has_access accesses x) || supports_access stages x

  each_supported : supports stages accesses ≡ true → (x : Access) → has_access accesses x ≡ true → IsSupported stages x
  unfolding passes
  each_supported h x there = supporter stages x (where_other (has_access accesses x) (supports_access stages x) (among_all passes x h) there)

  supported_each : ((x : Access) → has_access accesses x ≡ true → IsSupported stages x) → supports stages accesses ≡ true
  unfolding passes
  supported_each each = all_of passes all_accesses (λ x. wherever_other (has_access accesses x) (supports_access stages x) (λ there. supported stages x (each x there)))

-- support means what it says
pub support_means : SupportMeans
support_means = record { only_where = each_supported; wherever = supported_each }
