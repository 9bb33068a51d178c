-- It is a lemma.
use Rattle.barrier_lowering.proofs.TableOrder.{keep_order}
use Rattle.barrier_lowering.proofs.laws.tables_keep_order.Goals as goal

pub returns : goal.returns
returns c = keep_order
