-- Into no words nothing is put.
use Rattle.std.proofs.Common.{◌≡◌, ◌∙◌, sym, subst}
use Rattle.routines.proofs.Counting.{puts_none}
use Rattle.routines.specs.Puts.{puts_of, writers}
use Rattle.routines.proofs.puts.puts_by.Goals as goal

pub returns-then-m-eq0 : goal.returns-then-m-eq0
returns-then-m-eq0 c =
    subst (λ m. c.new.result.items ≡ puts_of c.args.routine c.args.n m c.args.numbers.now) (sym c.if-m-eq0.true)
    (c.new.ensures.items ∙ sym (puts_none c.args.routine c.args.numbers.now (writers c.args.routine c.args.n)))
