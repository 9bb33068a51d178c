-- Laws of legacy states.
use Rattle.std.specs.Prelude.{◌≡◌, ◌≢◌, ◌⊎◌, true, false, Some, None}
use Rattle.dx_base.specs.declared.kinds.ListType.{ListType}
use Rattle.dx_base.specs.declared.kinds.ListType.TheVariants.{Direct, Copy}
use Rattle.dx_flags.specs.declared.states.State.{State}
use Rattle.dx_flags.specs.StateNames.{COMMON, VERTEX_AND_CONSTANT_BUFFER, COPY_SOURCE, COPY_DEST, UNORDERED_ACCESS}
use Rattle.dx_flags.specs.States.{one_state, is_valid}
use Rattle.legacy_states.specs.declared.currents.Current.{Current}
use Rattle.legacy_states.specs.declared.currents.Kind.{Kind}
use Rattle.legacy_states.specs.declared.currents.Kind.TheVariants.{Buffer, Shared, Plain}
use Rattle.legacy_states.specs.Currents.{contains, is_promoted_read, promoted_to, settled, common}
use Rattle.legacy_states.specs.Decay.{decayed_of}
use Rattle.legacy_states.specs.Promotion.{promoted_of}

-- what holds of the state after an access that is allowed
pub record IsPromotion (now : Current) (need : State) (after : Current) : Type 0 where
  -- it contains what the access needs
  pub met : contains after.state need ≡ true
  -- it stayed, or was COMMON, or a union of read states that was promoted
  pub from : (after ≡ now) ⊎ ((now.state ≡ one_state COMMON) ⊎ (is_promoted_read now ≡ true))
  -- it stayed, or counts as promoted
  pub promoted : (after ≡ now) ⊎ (after.promoted ≡ true)
  -- a resource may be in it
  pub valid : is_valid now.state ≡ true → is_valid after.state ≡ true

-- so it is of each promotion
abbrev pub PromotionsAreSound : Type 0
PromotionsAreSound =
    (kind : Kind) (now : Current) (need : State) (after : Current) → promoted_of kind now need ≡ Some after → IsPromotion now need after

-- what is left at the end of a scope
pub record DecaysAreSound : Type 0 where
  -- of a plain texture that no read promoted, on a queue that has more than copies: its state
  pub plain : (queue : ListType) (now : Current) → queue ≢ Copy → is_promoted_read now ≡ false → decayed_of Plain queue now ≡ settled now.state
  -- of all that a read promoted, and of all on a copy queue: COMMON
  pub read : (kind : Kind) (queue : ListType) (now : Current) → is_promoted_read now ≡ true → decayed_of kind queue now ≡ common
  pub copied : (kind : Kind) (now : Current) → decayed_of kind Copy now ≡ common
  -- of a buffer and of a shared texture: COMMON
  pub buffer : (queue : ListType) (now : Current) → decayed_of Buffer queue now ≡ common
  pub shared : (queue : ListType) (now : Current) → decayed_of Shared queue now ≡ common

-- rows of the tables
pub record RowsOfStates : Type 0 where
  -- a plain texture in COMMON may not be written by a shader, nor read as constants
  pub no_shader_writes : promoted_of Plain common (one_state UNORDERED_ACCESS) ≡ None
  pub no_constants : promoted_of Plain common (one_state VERTEX_AND_CONSTANT_BUFFER) ≡ None
  -- a shared one and a buffer may
  pub shared_writes : promoted_of Shared common (one_state UNORDERED_ACCESS) ≡ Some (promoted_to (one_state UNORDERED_ACCESS))
  pub buffer_writes : promoted_of Buffer common (one_state UNORDERED_ACCESS) ≡ Some (promoted_to (one_state UNORDERED_ACCESS))
  -- a plain one that a copy wrote stays so after its scope, and may not be copied from in the next
  pub copied_to : decayed_of Plain Direct (promoted_to (one_state COPY_DEST)) ≡ settled (one_state COPY_DEST)
  pub not_copied_from : promoted_of Plain (settled (one_state COPY_DEST)) (one_state COPY_SOURCE) ≡ None
  -- a promoted read state is joined with no write
  pub no_write_joins : promoted_of Buffer (promoted_to (one_state COPY_SOURCE)) (one_state UNORDERED_ACCESS) ≡ None
