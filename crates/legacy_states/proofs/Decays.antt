-- What is left at the end of a scope.
use Rattle.std.proofs.Common.{◌≡◌, ◌≢◌, true, false, ◌||◌, refl}
use Rattle.std.proofs.lemmas.Bool.{or_right, cond-true, cond-false}
use Rattle.dx_base.specs.declared.kinds.ListType.{ListType}
use Rattle.dx_base.specs.declared.kinds.ListType.TheVariants.{Direct, Compute, Copy}
use Rattle.legacy_states.specs.declared.currents.Current.{Current}
use Rattle.legacy_states.specs.declared.currents.Kind.{Kind}
use Rattle.legacy_states.specs.declared.currents.Kind.TheVariants.{Buffer, Shared, Plain}
use Rattle.legacy_states.specs.Currents.{is_promoted_read, settled, common}
use Rattle.legacy_states.specs.Decay.{is_copy_queue, decayed_of}

pub plain_stays : (queue : ListType) (now : Current) → queue ≢ Copy → is_promoted_read now ≡ false → decayed_of Plain queue now ≡ settled now.state
plain_stays Direct now other unread = cond-false (is_promoted_read now) common (settled now.state) unread
plain_stays Compute now other unread = cond-false (is_promoted_read now) common (settled now.state) unread
plain_stays Copy now other unread = absurd (other refl)

pub read_decays : (kind : Kind) (queue : ListType) (now : Current) → is_promoted_read now ≡ true → decayed_of kind queue now ≡ common
read_decays Buffer queue now read = refl
read_decays Shared queue now read = refl
read_decays Plain queue now read =
    cond-true (is_copy_queue queue || is_promoted_read now) common (settled now.state) (or_right (is_copy_queue queue) (is_promoted_read now) read)

pub copied_decays : (kind : Kind) (now : Current) → decayed_of kind Copy now ≡ common
copied_decays Buffer now = refl
copied_decays Shared now = refl
copied_decays Plain now = refl
