-- What the system keeps tells of its history and its device.
use Rattle.std.proofs.Common.{subst}
use Rattle.sys_core.specs.Keeps.{IsSystem}
use Rattle.sys_core.proofs.sys.Sys.over.Goals as goal

pub returns-else-self-eq0-clause-system : goal.returns-else-self-eq0-clause-system
returns-else-self-eq0-clause-system g c =
    subst (λ v. IsSystem v.world v.history v.device.state) c.self.view_is
    (record {
      world = c.self.invariant.keeps.consistent.world;
      queues = c.self.invariant.queues;
      run = c.self.invariant.keeps.consistent.run;
      device = c.self.invariant.keeps.consistent.device;
      machine = c.self.invariant.keeps.machine_is;
    })
