use Rattle.std.proofs.Common.{take, rules, subst}
use Rattle.std.specs.Io.KnownBytes.{Appends}
use Rattle.text_io.proofs.Appending.{appends_more}
use Rattle.text_io.proofs.all.write_all.Goals as goal

pub loop-at-preserved : goal.loop-at-preserved
loop-at-preserved g c = record {
  count = search rules;
  bound = search rules;
  told = search rules;
  taken = appends_more _ (g.K.Sink.held c.loop-at.sink) _ c.args.bytes.now c.loop-at.at c.in_ok-at.field-0 c.loop-at.invariant.taken
      (subst (λ s. Appends (g.K.Sink.held c.loop-at.sink) (g.K.Sink.held c.write.new.self) (take c.in_ok-at.field-0 s)) c.split_at.ensures.back c.in_ok-at.ensures.next);
}
