use Rattle.std.proofs.Common.{◌≡◌, None, sym, subst}
use Rattle.d3d_judge.specs.HostCalls.{access_in}
use Rattle.d3d_judge.specs.JudgeParts.{CallFound}
use Rattle.d3d_judge.proofs.judge_parts.JudgeParts.take_call.Goals as goal

pub returns-in-Close-clause-found : goal.returns-in-Close-clause-found
returns-in-Close-clause-found c = subst (λ y. CallFound c.args.world.now c.args.kept.now.fed.history c.args.thread y c.close.new.self c.close.result) (sym c.in-Close.is) c.close.ensures

pub returns-in-Reset-clause-found : goal.returns-in-Reset-clause-found
returns-in-Reset-clause-found c = subst (λ y. CallFound c.args.world.now c.args.kept.now.fed.history c.args.thread y c.reset.new.self c.reset.result) (sym c.in-Reset.is) c.reset.ensures

pub returns-in-HostWait-clause-found : goal.returns-in-HostWait-clause-found
returns-in-HostWait-clause-found c = subst (λ y. CallFound c.args.world.now c.args.kept.now.fed.history c.args.thread y c.wait.new.self c.wait.result) (sym c.in-HostWait.is) c.wait.ensures

pub returns-in-Value-clause-found : goal.returns-in-Value-clause-found
returns-in-Value-clause-found c = subst (λ y. CallFound c.args.world.now c.args.kept.now.fed.history c.args.thread y c.ask.new.self c.ask.result) (sym c.in-Value.is) c.ask.ensures

pub refuse_write-requires-clause-refused : goal.refuse_write-requires-clause-refused
refuse_write-requires-clause-refused c = subst (λ y. access_in c.args.world.now y ≡ None) c.in-Write.is c.requires.quiet

pub refuse_read-requires-clause-refused : goal.refuse_read-requires-clause-refused
refuse_read-requires-clause-refused c = subst (λ y. access_in c.args.world.now y ≡ None) c.in-Read.is c.requires.quiet

pub returns-in-Write-clause-found : goal.returns-in-Write-clause-found
returns-in-Write-clause-found c = subst (λ y. CallFound c.args.world.now c.args.kept.now.fed.history c.args.thread y c.refuse_write.new.self c.refuse_write.result) (sym c.in-Write.is) c.refuse_write.ensures

pub returns-in-Read-clause-found : goal.returns-in-Read-clause-found
returns-in-Read-clause-found c = subst (λ y. CallFound c.args.world.now c.args.kept.now.fed.history c.args.thread y c.refuse_read.new.self c.refuse_read.result) (sym c.in-Read.is) c.refuse_read.ensures
