-- The sides of barriers that stand for states.
use Rattle.std.proofs.Common.{◌≡◌, Bool, true, ◌&&◌, refl}
use Rattle.std.specs.List.{list_any, list_all}
use Rattle.dx_flags.proofs.Named.{each_kind}
use Rattle.dx_flags.specs.declared.atoms.Kind.{Kind}
use Rattle.dx_flags.specs.declared.atoms.Kind.TheVariants as kind
use Rattle.dx_flags.specs.declared.atoms.Part.{Part}
use Rattle.dx_flags.specs.declared.atoms.Part.TheVariants as part
use Rattle.dx_flags.specs.declared.states.State.{State}
use Rattle.dx_flags.specs.Kinds.{all_kinds}
use Rattle.dx_flags.specs.StateNames.{StateName, state_names, COMMON, VERTEX_AND_CONSTANT_BUFFER, NON_PIXEL_SHADER_RESOURCE, PIXEL_SHADER_RESOURCE, COPY_SOURCE, COPY_DEST, UNORDERED_ACCESS}
use Rattle.dx_flags.specs.States.{state_has}
use Rattle.vk_types.proofs.Supported.{among_all}
use Rattle.vk_types.specs.declared.accesses.Access.{Access}
use Rattle.vk_types.specs.declared.accesses.Accesses.{Accesses}
use Rattle.vk_types.specs.declared.stages.Stages.{Stages}
use Rattle.vk_types.specs.Support.{all_accesses, supports}
use Rattle.vk_types.specs.Whole.{stands_for_stage, stands_for_access}
use Rattle.lower_tables.proofs.Marks.{Test, implies, where_first, all_marks, at_marks}
use Rattle.lower_tables.specs.Laws.{StatesTakeInPairs, is_supported_side}
use Rattle.lower_tables.specs.Made.{stage_of_part, is_made_by}
use Rattle.lower_tables.specs.Pairs.{name_has_pair, state_has_pair}
use Rattle.lower_tables.specs.States.{state_of, state_stages, state_accesses, stage_bit_of_state, access_bits_of_state}
use Rattle.lower_tables.specs.Unions.{united}

-- a union of states by its marks
abbrev marked : Bool → Bool → Bool → Bool → Bool → Bool → Bool → StateName → Bool
marked a b c d e f g COMMON = a
marked a b c d e f g VERTEX_AND_CONSTANT_BUFFER = b
marked a b c d e f g NON_PIXEL_SHADER_RESOURCE = c
marked a b c d e f g PIXEL_SHADER_RESOURCE = d
marked a b c d e f g COPY_SOURCE = e
marked a b c d e f g COPY_DEST = f
marked a b c d e f g UNORDERED_ACCESS = g

-- a test of unions of states, by marks
abbrev by_marks : ((StateName → Bool) → Bool) → Test
by_marks test a b c d e f g = test (marked a b c d e f g)

-- the stages and the memory accesses of the union that has some names
abbrev stages_by : (StateName → Bool) → Stages
stages_by has = record { 0 = united has stage_bit_of_state 0 state_names }

abbrev accesses_by : (StateName → Bool) → Accesses
accesses_by has = record { 0 = united has access_bits_of_state 0 state_names }

-- a test that all unions pass, this one passes
at_set : (test : (StateName → Bool) → Bool) → all_marks (by_marks test) ≡ true → (s : State) →
    test (marked (state_has s COMMON) (state_has s VERTEX_AND_CONSTANT_BUFFER) (state_has s NON_PIXEL_SHADER_RESOURCE) (state_has s PIXEL_SHADER_RESOURCE) (state_has s COPY_SOURCE) (state_has s COPY_DEST) (state_has s UNORDERED_ACCESS)) ≡ true
at_set test h s =
    at_marks (by_marks test) h (state_has s COMMON) (state_has s VERTEX_AND_CONSTANT_BUFFER) (state_has s NON_PIXEL_SHADER_RESOURCE) (state_has s PIXEL_SHADER_RESOURCE) (state_has s COPY_SOURCE) (state_has s COPY_DEST) (state_has s UNORDERED_ACCESS)

-- the stages support the accesses
pub side_supported : (s : State) → is_supported_side (state_of s) ≡ true
unfolding state_stages state_accesses
side_supported s = at_set (λ has. supports (stages_by has) (accesses_by has)) refl s

-- some name of a set has a part and a kind
abbrev has_pair : Part → Kind → (StateName → Bool) → Bool
has_pair part kind has = list_any (λ name. name_has_pair part kind name && has name) state_names

-- where a union has a part and a kind, its stages stand for the part's
abbrev takes_part : Part → (StateName → Bool) → Bool
takes_part part has = list_all (λ kind. implies (has_pair part kind has) (stands_for_stage (stages_by has) (stage_of_part part))) all_kinds

each_takes_part : (part : Part) → all_marks (by_marks (takes_part part)) ≡ true
each_takes_part part.Copy = refl
each_takes_part part.Compute = refl
each_takes_part part.Clear = refl

parts_taken : (part : Part) (s : State) → list_all (λ kind. implies (state_has_pair s part kind) (stands_for_stage (state_stages s) (stage_of_part part))) all_kinds ≡ true
unfolding state_has_pair state_stages
parts_taken part s = at_set (takes_part part) (each_takes_part part) s

takes_in_part : (s : State) (part : Part) (kind : Kind) → state_has_pair s part kind ≡ true → stands_for_stage (state_of s).0 (stage_of_part part) ≡ true
takes_in_part s part kind h =
    where_first (state_has_pair s part kind) (stands_for_stage (state_stages s) (stage_of_part part))
    (each_kind (λ k. implies (state_has_pair s part k) (stands_for_stage (state_stages s) (stage_of_part part))) (parts_taken part s) kind) h

-- where a union has a part and a kind, its memory accesses stand for each that the kind makes
abbrev takes_kind : Part → Kind → (StateName → Bool) → Bool
takes_kind part kind has = implies (has_pair part kind has) (list_all (λ x. implies (is_made_by kind x) (stands_for_access (accesses_by has) x)) all_accesses)

each_takes_kind : (part : Part) (kind : Kind) → all_marks (by_marks (takes_kind part kind)) ≡ true
each_takes_kind part.Copy kind.UnorderedAccess = refl
each_takes_kind part.Copy kind.ShaderResource = refl
each_takes_kind part.Copy kind.ConstantBuffer = refl
each_takes_kind part.Copy kind.CopySource = refl
each_takes_kind part.Copy kind.CopyDest = refl
each_takes_kind part.Compute kind.UnorderedAccess = refl
each_takes_kind part.Compute kind.ShaderResource = refl
each_takes_kind part.Compute kind.ConstantBuffer = refl
each_takes_kind part.Compute kind.CopySource = refl
each_takes_kind part.Compute kind.CopyDest = refl
each_takes_kind part.Clear kind.UnorderedAccess = refl
each_takes_kind part.Clear kind.ShaderResource = refl
each_takes_kind part.Clear kind.ConstantBuffer = refl
each_takes_kind part.Clear kind.CopySource = refl
each_takes_kind part.Clear kind.CopyDest = refl

kinds_taken : (s : State) (part : Part) (kind : Kind) → state_has_pair s part kind ≡ true → list_all (λ x. implies (is_made_by kind x) (stands_for_access (state_accesses s) x)) all_accesses ≡ true
unfolding state_has_pair state_accesses
kinds_taken s part kind h = where_first (state_has_pair s part kind) _ (at_set (takes_kind part kind) (each_takes_kind part kind) s) h

takes_in_kind : (s : State) (part : Part) (kind : Kind) (x : Access) → state_has_pair s part kind ≡ true → is_made_by kind x ≡ true → stands_for_access (state_of s).1 x ≡ true
takes_in_kind s part kind x h made =
    where_first (is_made_by kind x) (stands_for_access (state_accesses s) x)
    (among_all (λ y. implies (is_made_by kind y) (stands_for_access (state_accesses s) y)) x (kinds_taken s part kind h)) made

pub takes_in_pairs : StatesTakeInPairs
takes_in_pairs = record { stages = takes_in_part; accesses = takes_in_kind }
