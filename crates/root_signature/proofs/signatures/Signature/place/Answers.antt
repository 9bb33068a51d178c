-- A signature is sound, so that a register has at most one place.
use Rattle.std.proofs.Common.{◌≡◌, ◌∙◌, arith, ap, subst, slice_get}
use Rattle.std.specs.Option.{option_to_list}
use Rattle.root_signature.specs.Places.{places_of}
use Rattle.root_signature.proofs.Sound.{sound, one_place}
use Rattle.root_signature.proofs.signatures.Signature.place.Goals as goal

pub first_place_in-requires-clause-few : goal.first_place_in-requires-clause-few
first_place_in-requires-clause-few c =
    let s = sound c.self.inside.version c.self.inside.params c.self.invariant in
    rw c.as_slice.ensures (omega (arith, s.few))

pub first_place_in-requires-clause-small : goal.first_place_in-requires-clause-small
first_place_in-requires-clause-small c = rw c.as_slice.ensures (sound c.self.inside.version c.self.inside.params c.self.invariant).inside

pub returns : goal.returns
returns c =
    let first = c.first_place_in.ensures ∙ ap (λ xs. slice_get (places_of xs c.args.class c.args.register) 0) c.as_slice.ensures in
    let apart = (sound c.self.inside.version c.self.inside.params c.self.invariant).apart c.args.class c.args.register in
    subst (λ v. places_of v.params c.args.class c.args.register ≡ option_to_list c.first_place_in.result) c.self.view_is
    (one_place (places_of c.self.inside.params c.args.class c.args.register) c.first_place_in.result first apart)
