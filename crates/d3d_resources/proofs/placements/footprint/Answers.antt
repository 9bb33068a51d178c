-- The rows in words lie inside the buffer, since those in bytes do.
use Rattle.d3d_resources.specs.Footprints.{IsFootprintIn}
use Rattle.std.proofs.Common.{subst, sym, ◌∙◌}
use Rattle.d3d_resources.proofs.Rows.{is_footprint_in}
use Rattle.d3d_resources.proofs.placements.footprint.Goals as goal

pub returns-clause-inside : goal.returns-clause-inside
returns-clause-inside c =
    let fits = sym c.fits_buffer.ensures ∙ c.if-not-fits_buffer.false in
    let rows = is_footprint_in c.in-Some.extents c.args.offset c.args.pitch c.in-Buffer.is c.in-Some.ensures.range fits in
    subst (λ f. IsFootprintIn c.args.buffer.now f) (sym c.placed.ensures) rows
