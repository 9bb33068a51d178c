use Rattle.trace_lines.proofs.Knowing.{pairs_more, pairs_end}
use Rattle.trace_text.proofs.Printing.{objects_text, object_pairs}
use Rattle.trace_lines.specs.Formed.{item_text}
use Rattle.trace_lines.specs.declared.item.Item.TheVariants.{Declares}
use Rattle.trace_text.proofs.printer.put_objects.Goals as goal

pub loop-at-preserved : goal.loop-at-preserved
loop-at-preserved c =
    pairs_more (objects_text c.args.known.now) (λ n d. item_text c.args.known.now (Declares n d)) (object_pairs c.args.known.now)
    c.args.names.now c.args.objects.now c.loop-at.at _ c.index-names-at.result _ _ _ _ c.min-at-end.ensures c.loop-at-test.true
    c.index-names-at.is c.in_ok-put_object.ensures c.loop-at.invariant

pub returns : goal.returns
returns c =
    pairs_end (objects_text c.args.known.now) (λ n d. item_text c.args.known.now (Declares n d)) (object_pairs c.args.known.now)
    c.args.names.now c.args.objects.now c.loop-at.at _ _ _ c.min-at-end.ensures c.loop-at-test.false c.loop-at.invariant
