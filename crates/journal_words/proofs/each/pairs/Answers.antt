-- One more word is read.
use Rattle.std.proofs.Common.{◌∙◌, map}
use Rattle.line_forms.proofs.EachWord.{each_begin, each_more, each_end}
use Rattle.journal_words.specs.Fields.{pair_of}
use Rattle.journal_words.proofs.each.pairs.Goals as goal

pub loop-word-init : goal.loop-word-init
loop-word-init c = rw c.new.ensures (each_begin pair_of (map (λ word. word.now) c.args.words.now))

pub loop-word-preserved : goal.loop-word-preserved
loop-word-preserved c =
    rw (c.in_ok-found.ensures, c.pair.ensures)
    (each_more pair_of c.loop-word.found c.args.words.now c.loop-word.word-index _ c.loop-word-test.true ∙ c.loop-word.invariant)

pub returns : goal.returns
returns c = each_end pair_of c.loop-word.found _ c.args.words.now c.loop-word.word-index c.loop-word-test.false c.loop-word.invariant
