use Rattle.std.proofs.Common.{◌∙◌, map, drop}
use Rattle.line_forms.specs.Parts.{place_of}
use Rattle.line_forms.proofs.EachWord.{parts_begin, parts_more, parts_end}
use Rattle.line_forms.proofs.reading.read_parts.Goals as goal

pub loop-at-init : goal.loop-at-init
loop-at-init g c = rw c.new.ensures (parts_begin (g.N.Naming.names c.args.names.now) (map place_of c.args.parts.now) (map (λ word. word.now) c.args.words.now))

pub loop-at-preserved : goal.loop-at-preserved
loop-at-preserved g c =
    rw (c.in_ok-found.ensures, c.read_at.ensures)
    (parts_more (g.N.Naming.names c.args.names.now) c.loop-at.found c.args.parts.now (map (λ word. word.now) c.args.words.now) c.loop-at.at _ c.loop-at-test.true
    ∙ c.loop-at.invariant)

pub returns : goal.returns
returns g c =
    parts_end (g.N.Naming.names c.args.names.now) c.loop-at.found _ c.args.parts.now (drop c.loop-at.at (map (λ word. word.now) c.args.words.now)) c.loop-at.at
    c.loop-at-test.false c.loop-at.invariant
