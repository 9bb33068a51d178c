-- What a device stores, as the Vulkan machine sees it.
use Rattle.vk_sync_rules.specs.Progress.{journal_of}
use Rattle.vk_port.specs.declared.store.Store.{Store}
use Rattle.vk_port.specs.VkState.{VkState}

-- what is stored of the Vulkan machine's state but for the words, which stand beside it
abbrev pub state_of : Store → VkState
state_of store = record {
  timelines = store.progress.timelines;
  journal = journal_of store.progress;
  lanes = store.progress.lanes;
}
