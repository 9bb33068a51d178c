use Rattle.std.proofs.Common.{append-nil, refl}
use Rattle.std.proofs.lemmas.List.{map_push}
use Rattle.trace_lines.specs.Known.{names_of_kind}
use Rattle.trace_lines.proofs.Knowing.{pairs_end, kind_pairs, kind_name, kind_more}
use Rattle.trace_lines.proofs.known.names_of_kind.Goals as goal
use Rattle.trace_lines.proofs.known.names_of_kind.Goals.{then-same_kind+in_ok-push, else-same_kind}

pub loop-at-preserved : goal.loop-at-preserved
loop-at-preserved c =
    kind_more c.args.kind c.args.names.now c.args.declared.now c.loop-at.at _ c.index-names-at.result _ c.kind.result c.same_kind.result _ _ _
    c.min-at-end.ensures c.loop-at-test.true c.index-names-at.is c.kind.ensures c.same_kind.ensures
    (elim c.if-same_kind.branch [
      | then-same_kind+in_ok-push w ↦ rw (w.found-is, w.in_ok-push.ensures.items, w.if-same_kind.true) (map_push _ _ _)
      | else-same_kind w ↦ rw (w.found-is, w.if-same_kind.false, append-nil) refl
    ]) c.loop-at.invariant

pub returns : goal.returns
returns c =
    pairs_end (names_of_kind c.args.kind) (kind_name c.args.kind) (kind_pairs c.args.kind) c.args.names.now c.args.declared.now c.loop-at.at
    _ _ _ c.min-at-end.ensures c.loop-at-test.false c.loop-at.invariant
