-- A lemma for each thing that is done.
use Rattle.vk_port.proofs.Counting.{counted_host_write, counted_host_read}
use Rattle.vk_port.proofs.Showing.{shows_host_write, shows_host_read}
use Rattle.vk_port.proofs.Shown.{first_shown, step_shown, submit_shown}
use Rattle.vk_port.proofs.laws.states_show_the_machine.Goals as goal

pub returns : goal.returns
returns c = record {
  at_first = first_shown;
  steps = λ v s counted. step_shown v counted s;
  submissions = λ v b counted. submit_shown v counted b;
  host_writes = λ v buffer first words. (shows_host_write v buffer first words, λ counted. counted_host_write v counted buffer first words);
  host_reads = λ v buffer first words. (shows_host_read v buffer first words, λ counted. counted_host_read v counted buffer first words);
}
