use Rattle.std.proofs.Common.{drop, arith, rules, refl}
use Rattle.text_io.proofs.Taking.{gives_next}
use Rattle.text_io.proofs.bytes_source.BytesSourceSource.read.Goals as goal

pub returns-clause-next : goal.returns-clause-next
returns-clause-next c =
    rw (← c.self.view_is) (gives_next c.self.inside.bytes.items _ c.copy_from_slice.new.self (drop c.min-n.result c.args.into.now)
    c.self.inside.taken c.min-n.result refl (search rules) (grind arith))
