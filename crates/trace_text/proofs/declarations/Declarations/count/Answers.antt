use Rattle.trace_text.proofs.Counting.{number_there}
use Rattle.trace_text.proofs.declarations.Declarations.count.Goals as goal

pub returns : goal.returns
returns c =
    rw (← c.self.view_is)
    (number_there c.self.inside.list c.self.inside.counts c.self.inside.words c.args.kind c.place_of.result c.self.invariant c.place_of.ensures.value)
