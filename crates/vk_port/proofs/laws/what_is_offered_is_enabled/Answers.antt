-- What is offered is enabled by its meaning, and what is enabled so is offered.
use Rattle.vk_port.specs.Machine.{shown}
use Rattle.vk_port.proofs.Enabled.{enabled_means}
use Rattle.vk_port.proofs.Enabling.{offered_enabled, enabled_offered}
use Rattle.vk_port.proofs.Offered.{offered}
use Rattle.vk_port.proofs.laws.what_is_offered_is_enabled.Goals as goal

pub returns : goal.returns
returns c = record {
  offered = λ v k s counted ended is. offered_enabled v counted ended s (enabled_means (shown v) k s is);
  enabled = λ v s x counted is h. offered (shown v) s (enabled_offered v counted s x is h);
}
