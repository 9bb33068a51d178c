-- What a fault of a layer below is called.
use Rattle.journal_text.specs.declared.fault.JournalFault.{JournalFault}
use Rattle.journal_text.specs.declared.fault.JournalFault.TheVariants as journal
use Rattle.text_io.specs.declared.all.ReadAll.{ReadAll}
use Rattle.text_io.specs.declared.all.ReadAll.TheVariants as read
use Rattle.journal_runner.specs.declared.fault.ToolFault.{ToolFault}
use Rattle.journal_runner.specs.declared.fault.ToolFault.TheVariants as fault

-- the fault of a source
abbrev pub fault_of_source : ReadAll → ToolFault
fault_of_source read.ReadFault = fault.ReadFault
fault_of_source read.Memory = fault.Memory

-- the fault of a text
abbrev pub fault_of_journal : JournalFault → ToolFault
fault_of_journal (journal.Refused n c) = fault.Refused n c
fault_of_journal journal.Memory = fault.Memory
