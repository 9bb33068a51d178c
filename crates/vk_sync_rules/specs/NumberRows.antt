-- Worked rows of the numbers that commands leave, and of the steps that can be taken.
use Rattle.std.specs.Prelude.{ℕ, ◌≡◌, true, false, List, [], ◌∷◌, ◌++◌, Option, Some, None}
use Rattle.dx_base.specs.declared.kinds.Routine.TheVariants.{Fill, Move}
use Rattle.vk_types.specs.declared.commands.VkCommand.TheVariants.{Copy, CopyIn, CopyOut, Clear, Dispatch}
use Rattle.vk_types.specs.declared.layouts.VkLayout.TheVariants.{General, TransferDstOptimal}
use Rattle.vk_types.specs.declared.registers.Count.TheVariants.{Word}
use Rattle.vk_types.specs.declared.registers.Register.TheVariants.{Unbound, Constant, Root, Fixed, Slot}
use Rattle.vk_types.specs.declared.steps.VkStep.TheVariants.{Submit, Pass, Command, Bump, HostWrite}
use Rattle.vk_sync_rules.specs.AccessSets.{all_stages, every_write}
use Rattle.vk_sync_rules.specs.Examples.{leading, trailing, between, change, from_nothing, image_copy, copy, dispatch, batch, begin, run, runs, wrote, buffers, count_accesses, images, at_first, all_enabled}

-- known numbers
abbrev pub words : List ℕ → List (Option ℕ)
words [] = []
words (x ∷ xs) = Some x ∷ words xs

pub record NumberRows : Type 0 where
  pub copied : buffers (wrote ∷ runs (leading ∷ copy ∷ [])) ≡ words (5 ∷ 6 ∷ 7 ∷ 8 ∷ []) ∷ words (5 ∷ 6 ∷ 7 ∷ 8 ∷ []) ∷ []
  -- what a copy does not see is open, and is handed on word by word
  pub unseen : buffers (wrote ∷ runs (Copy 1 0 0 0 2 ∷ Copy 0 0 1 0 1 ∷ [])) ≡ (None ∷ words (6 ∷ 7 ∷ 8 ∷ [])) ∷ words (5 ∷ 6 ∷ 0 ∷ 0 ∷ []) ∷ []
  pub handed_on : buffers (wrote ∷ runs (Copy 1 0 0 0 2 ∷ Copy 0 0 1 0 1 ∷ leading ∷ Copy 1 2 0 0 2 ∷ [])) ≡ (None ∷ words (6 ∷ 7 ∷ 8 ∷ [])) ∷ (Some 5 ∷ Some 6 ∷ None ∷ Some 6 ∷ []) ∷ []
  -- and known again once it is written
  pub written_again : buffers (wrote ∷ runs (Copy 1 0 0 0 2 ∷ Copy 0 0 1 0 1 ∷ leading ∷ Clear (Fixed 1) 9 ∷ Copy 0 0 1 2 1 ∷ [])) ≡ words (0 ∷ 9 ∷ 9 ∷ 8 ∷ []) ∷ words (5 ∷ 6 ∷ 0 ∷ 0 ∷ []) ∷ []
  -- past an end the words of the destination that are there are open
  pub past_end : buffers (wrote ∷ runs (Copy 1 2 0 0 3 ∷ [])) ≡ words (5 ∷ 6 ∷ 7 ∷ 8 ∷ []) ∷ (Some 0 ∷ Some 0 ∷ None ∷ None ∷ []) ∷ []
  pub host_past_end : buffers (HostWrite 0 3 (1 ∷ 2 ∷ []) ∷ []) ≡ (Some 0 ∷ Some 0 ∷ Some 0 ∷ None ∷ []) ∷ words (0 ∷ 0 ∷ 0 ∷ 0 ∷ []) ∷ []
  -- and no access is made; nor of no words
  pub none_past_end : count_accesses (HostWrite 0 3 (1 ∷ 2 ∷ []) ∷ runs (Copy 1 2 0 0 3 ∷ [])) ≡ 0
  pub none_of_no_words : count_accesses (HostWrite 0 3 [] ∷ runs (Copy 1 2 0 0 0 ∷ [])) ≡ 0
  pub one_each : count_accesses (HostWrite 0 3 (1 ∷ []) ∷ runs (Copy 1 2 0 0 2 ∷ [])) ≡ 3
  -- a layout change from UNDEFINED leaves any numbers, another one keeps them
  pub undefined : images (runs (from_nothing General ∷ [])) ≡ ((None ∷ None ∷ []) ∷ (None ∷ None ∷ []) ∷ []) ∷ []
  pub changed : images (runs (from_nothing General ∷ leading ∷ Clear (Fixed 5) 7 ∷ change all_stages every_write General TransferDstOptimal ∷ [])) ≡ ((None ∷ None ∷ []) ∷ words (7 ∷ 7 ∷ []) ∷ []) ∷ []
  pub image_copied : images (wrote ∷ runs (from_nothing General ∷ CopyIn 0 0 General 0 1 2 ∷ leading ∷ image_copy General General ∷ [])) ≡ (words (6 ∷ 7 ∷ []) ∷ words (6 ∷ 7 ∷ []) ∷ []) ∷ []
  pub image_copied_out : buffers (wrote ∷ runs (from_nothing General ∷ CopyIn 0 0 General 0 1 2 ∷ leading ∷ CopyOut 1 1 2 0 0 General ∷ [])) ≡ words (5 ∷ 6 ∷ 7 ∷ 8 ∷ []) ∷ words (0 ∷ 6 ∷ 7 ∷ 0 ∷ []) ∷ []
  -- routines
  pub filled : buffers (runs (dispatch Fill 3 Unbound (Fixed 3) (Constant 7) ∷ [])) ≡ words (0 ∷ 0 ∷ 0 ∷ 0 ∷ []) ∷ words (7 ∷ 7 ∷ 7 ∷ 0 ∷ []) ∷ []
  pub filled_by_word : buffers (wrote ∷ runs (dispatch Fill 2 Unbound (Fixed 3) (Root 0 3) ∷ [])) ≡ words (5 ∷ 6 ∷ 7 ∷ 8 ∷ []) ∷ words (8 ∷ 8 ∷ 0 ∷ 0 ∷ []) ∷ []
  pub moved : buffers (wrote ∷ runs (dispatch Move 4 (Fixed 0) (Fixed 3) Unbound ∷ [])) ≡ words (5 ∷ 6 ∷ 7 ∷ 8 ∷ []) ∷ words (5 ∷ 6 ∷ 0 ∷ 0 ∷ []) ∷ []
  -- a view of another class is as none
  pub other_class : buffers (wrote ∷ runs (dispatch Move 2 (Fixed 1) (Fixed 3) Unbound ∷ [])) ≡ words (5 ∷ 6 ∷ 7 ∷ 8 ∷ []) ∷ words (0 ∷ 0 ∷ 0 ∷ 0 ∷ []) ∷ []
  -- a routine that reads a number that is open leaves each word open that it may write
  pub read_open : buffers (wrote ∷ runs (Copy 1 0 0 0 2 ∷ Copy 0 0 1 0 1 ∷ leading ∷ dispatch Move 2 (Fixed 0) (Fixed 3) Unbound ∷ [])) ≡ (None ∷ words (6 ∷ 7 ∷ 8 ∷ [])) ∷ (None ∷ None ∷ Some 0 ∷ Some 0 ∷ []) ∷ []
  -- the number of invocations is a word, but no more than the most
  pub counted : buffers (HostWrite 0 3 (2 ∷ []) ∷ runs (Dispatch Fill (Word 0 3 3) Unbound Unbound (Fixed 3) (Constant 7) ∷ [])) ≡ words (0 ∷ 0 ∷ 0 ∷ 2 ∷ []) ∷ words (7 ∷ 7 ∷ 0 ∷ 0 ∷ []) ∷ []
  pub counted_most : buffers (HostWrite 0 3 (9 ∷ []) ∷ runs (Dispatch Fill (Word 0 3 3) Unbound Unbound (Fixed 3) (Constant 7) ∷ [])) ≡ words (0 ∷ 0 ∷ 0 ∷ 9 ∷ []) ∷ words (7 ∷ 7 ∷ 7 ∷ 0 ∷ []) ∷ []
  pub counted_open : buffers (runs (Copy 0 3 1 3 1 ∷ Dispatch Fill (Word 0 3 3) Unbound Unbound (Fixed 3) (Constant 7) ∷ [])) ≡ words (0 ∷ 0 ∷ 0 ∷ 0 ∷ []) ∷ (None ∷ None ∷ None ∷ Some 0 ∷ []) ∷ []
  -- a slot's view is the one that was loaded, and none where it is not set
  pub loaded : buffers (begin (Clear (Slot 0 2) 7 ∷ []) ++ Command 0 0 1 (2 ∷ []) ∷ []) ≡ words (0 ∷ 7 ∷ 7 ∷ 0 ∷ []) ∷ words (0 ∷ 0 ∷ 0 ∷ 0 ∷ []) ∷ []
  pub not_set : buffers (begin (Clear (Slot 0 2) 7 ∷ []) ++ Command 0 0 1 (0 ∷ []) ∷ []) ≡ words (0 ∷ 0 ∷ 0 ∷ 0 ∷ []) ∷ words (0 ∷ 0 ∷ 0 ∷ 0 ∷ []) ∷ []

pub record StepRows : Type 0 where
  pub in_order : all_enabled at_first (wrote ∷ runs (leading ∷ copy ∷ between ∷ copy ∷ trailing ∷ []) ++ Bump 0 0 ∷ []) ≡ true
  -- commands with no barrier between them come in any order
  pub any_order : all_enabled at_first (begin (copy ∷ copy ∷ []) ++ run 2 ∷ run 1 ∷ Bump 0 0 ∷ []) ≡ true
  pub before_leading : all_enabled at_first (begin (leading ∷ copy ∷ []) ++ run 2 ∷ []) ≡ false
  pub trailing_first : all_enabled at_first (begin (copy ∷ trailing ∷ []) ++ run 2 ∷ []) ≡ false
  -- an earlier batch orders, too
  pub next_batch : all_enabled at_first (begin (leading ∷ []) ++ Submit (batch 0 1 [] (copy ∷ []) []) ∷ Pass 0 1 ∷ Command 0 1 1 [] ∷ []) ≡ false
  pub twice : all_enabled at_first (begin (copy ∷ []) ++ run 1 ∷ run 1 ∷ []) ≡ false
  pub not_passed : all_enabled at_first (Submit (batch 0 0 [] (copy ∷ []) []) ∷ run 1 ∷ []) ≡ false
  pub no_command : all_enabled at_first (begin (copy ∷ []) ++ run 2 ∷ []) ≡ false
  pub batch_start : all_enabled at_first (begin (copy ∷ []) ++ run 0 ∷ []) ≡ false
  pub wait_reached : all_enabled at_first (begin [] ++ Bump 0 0 ∷ Submit (batch 1 1 ((0, 1) ∷ []) [] []) ∷ Pass 1 1 ∷ []) ≡ true
  pub wait_not_reached : all_enabled at_first (begin [] ++ Submit (batch 1 1 ((0, 1) ∷ []) [] []) ∷ Pass 1 1 ∷ []) ≡ false
  pub not_done : all_enabled at_first (begin (copy ∷ []) ++ Bump 0 0 ∷ []) ≡ false
  -- an end asks for the pass, also of a batch with no commands
  pub empty_not_passed : all_enabled at_first (Submit (batch 0 0 [] [] []) ∷ Bump 0 0 ∷ []) ≡ false
  pub empty_passed : all_enabled at_first (Submit (batch 0 0 [] [] []) ∷ Pass 0 0 ∷ Bump 0 0 ∷ []) ≡ true
  -- one answer for each slot, also where two registers name it
  pub no_answer : all_enabled at_first (begin (Clear (Slot 0 2) 7 ∷ []) ++ run 1 ∷ []) ≡ false
  pub one_answer : all_enabled at_first (begin (dispatch Move 1 (Slot 0 2) (Slot 0 2) Unbound ∷ []) ++ Command 0 0 1 (0 ∷ []) ∷ []) ≡ true
  pub two_answers : all_enabled at_first (begin (dispatch Move 1 (Slot 0 2) (Slot 0 2) Unbound ∷ []) ++ Command 0 0 1 (0 ∷ 0 ∷ []) ∷ []) ≡ false
