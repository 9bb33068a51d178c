use Rattle.std.proofs.Common.{arith}
use Rattle.trace_text.proofs.Counting.{number_small, counted_push}
use Rattle.trace_text.proofs.declarations.Declarations.push.Goals as goal

pub overflow_add-self-2 : goal.overflow_add-self-2
overflow_add-self-2 c =
    omega (arith, number_small c.self.inside.list c.self.inside.counts c.self.inside.words c.kind-kind.result c.place_of.result c.self.invariant c.place_of.ensures.value)

pub invariant_of-self-2 : goal.invariant_of-self-2
invariant_of-self-2 c =
    rw (c.in_ok-push.ensures.ok)
    (counted_push c.self.inside.list c.args.object c.self.inside.counts c.self.inside.words c.kind-kind.result c.place_of.result c.words-words.result
    c.self.invariant c.kind-kind.ensures c.place_of.ensures.value c.words-words.ensures.value
    (rw (← c.self.view_is) at c.requires))
