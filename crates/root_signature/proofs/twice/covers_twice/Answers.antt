-- What is found at the first registers of all ranges holds of all registers.
use Rattle.std.proofs.Common.{◌∙◌, sym}
use Rattle.root_signature.proofs.Found.{twice_of_found, found_of_twice}
use Rattle.root_signature.proofs.twice.covers_twice.Goals as goal

pub returns : goal.returns
returns c =
    let is = c.some_begins_covered_twice.ensures in
    (λ h. twice_of_found c.args.params.now (sym is ∙ h), λ twice. is ∙ found_of_twice c.args.params.now twice)
