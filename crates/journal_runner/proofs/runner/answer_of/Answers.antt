-- What was read is the beginning of the source's text, which decides.
use Rattle.std.proofs.Common.{◌≡◌, IfSome, map, rules, string_bytes, subst, sym, take, true}
use Rattle.journal_runner.specs.Report.{are_good}
use Rattle.journal_runner.proofs.Answering.{answered, read_whole}
use Rattle.journal_runner.proofs.runner.answer_of.Goals as goal

pub returns-clause-says : goal.returns-clause-says
returns-clause-says g c =
    let good : are_good (map string_bytes c.args.words.now) ≡ true = search rules in
    answered (record {
      words = map string_bytes c.args.words.now;
      told = g.S.Source.left c.args.source.now;
      source = (g.S.Source.faults c.args.source.now, g.S.Source.faults c.read_all.new.source);
    }) c.as_slice.result.now c.check_text.result good
    (subst (λ text. IfSome (g.S.Source.left c.args.source.now) (λ all. text ≡ take 268435457 all)) (sym c.as_slice.ensures.value) c.in_ok-bytes.ensures.bytes) c.check_text.ensures

pub returns-clause-ended : goal.returns-clause-ended
returns-clause-ended g c =
    read_whole (g.S.Source.left c.args.source.now) (g.S.Source.left c.read_all.new.source) c.as_slice.result.now c.check_text.result
    (subst (λ text. IfSome (g.S.Source.left c.args.source.now) (λ all. text ≡ take 268435457 all)) (sym c.as_slice.ensures.value) c.in_ok-bytes.ensures.bytes)
    c.in_ok-bytes.ensures.left c.check_text.ensures
