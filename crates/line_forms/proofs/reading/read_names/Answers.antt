use Rattle.std.proofs.Common.{◌∙◌, map}
use Rattle.line_forms.proofs.EachWord.{each_begin, each_more, each_end}
use Rattle.line_forms.proofs.reading.read_names.Goals as goal

pub loop-word-init : goal.loop-word-init
loop-word-init g c = rw c.new.ensures (each_begin ((g.N.Naming.names c.args.names.now).number c.args.kind) (map (λ word. word.now) c.args.words.now))

pub loop-word-preserved : goal.loop-word-preserved
loop-word-preserved g c =
    rw (c.in_ok-found.ensures, c.number.ensures)
    (each_more ((g.N.Naming.names c.args.names.now).number c.args.kind) c.loop-word.found c.args.words.now c.loop-word.word-index _ c.loop-word-test.true
    ∙ c.loop-word.invariant)

pub returns : goal.returns
returns g c =
    each_end ((g.N.Naming.names c.args.names.now).number c.args.kind) c.loop-word.found _ c.args.words.now c.loop-word.word-index
    c.loop-word-test.false c.loop-word.invariant
