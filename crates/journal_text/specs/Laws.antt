-- Laws of the text of a journal.
use Rattle.std.specs.Prelude.{ℕ, ◌≡◌, ◌≤◌, ◌&&◌, true, List, length, take, Ok}
use Rattle.std.specs.List.{All, list_all}
use Rattle.trace_words.specs.Lines.{pieces_of}
use Rattle.vk_types.specs.declared.plan.DevicePlan.{DevicePlan}
use Rattle.vk_types.specs.declared.steps.VkStep.{VkStep}
use Rattle.journal_text.specs.Names.{is_named_view}
use Rattle.journal_text.specs.Printing.{journal_text}
use Rattle.journal_words.specs.SoundWords.{is_narrow}
use Rattle.journal_text.specs.Sound.{is_sound_buffer, is_sound_image, is_sound_step, is_sound_view, names_all}
use Rattle.journal_text.specs.Texts.{journal_of, most_bytes, most_in_line}

-- each number is one of its field, and each object that a view or a step names is there
pub record IsSound (plan : DevicePlan) (ss : List VkStep) : Type 0 where
  pub buffers : list_all is_sound_buffer plan.buffers ≡ true
  pub images : list_all is_sound_image plan.images ≡ true
  pub heaps : list_all is_narrow plan.heaps ≡ true
  pub views : list_all is_sound_view plan.views ≡ true
  pub named_views : list_all (is_named_view plan) plan.views ≡ true
  pub counts : (is_narrow plan.queues && is_narrow plan.timelines) ≡ true
  pub steps : list_all is_sound_step ss ≡ true
  pub named_steps : list_all (names_all plan) ss ≡ true

-- a text is within the limits: it has at most 268,435,456 bytes, and each line at most 16,777,216, its line feed not counted
pub record IsShort (text : List ℕ) : Type 0 where
  pub whole : length text ≤ most_bytes
  pub lines : All (λ line. length line ≤ most_in_line) (pieces_of text)

-- the text of a journal is read as that journal
abbrev pub PrintsBack : Type 0
PrintsBack = (plan : DevicePlan) (steps : List VkStep) → IsSound plan steps → IsShort (journal_text plan steps) → journal_of (journal_text plan steps) ≡ Ok (plan, steps)

-- what the first bytes of a text say, up to the first past the limit, is what the whole text says, its bad line and cause included
abbrev pub FirstBytesCount : Type 0
FirstBytesCount = (all : List ℕ) → journal_of (take 268435457 all) ≡ journal_of all
