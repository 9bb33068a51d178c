-- A search goes on behind a block, and the blocks of a batch are kept.
use Rattle.std.proofs.Common.{◌≡◌, ◌≢◌, ℕ, zero, suc, ◌+◌, ◌-◌, ◌*◌, ◌/◌, ◌<◌, ◌≤◌, ◌==◌, ◌∙◌, Bool, true, false, ◌&&◌, nat_lt, nat_le, List, [], ◌∷◌, ◌++◌, length, min, drop, set, refl, sym, ap, subst, arith, true≢false, bit_and, bit_or, slice_get, Some, inl, inr}
use Rattle.std.proofs.Math.ListN.{drop_of_length-le}
use Rattle.std.proofs.Math.Seq.{drop-nil}
use Rattle.std.proofs.lemmas.Bool.{and_parts, cases_lt, cases_eq, eqb-true}
use Rattle.std.proofs.lemmas.Option.{none-some, slice_get_within}
use Rattle.vk_types.specs.declared.commands.VkCommand.{VkCommand}
use Rattle.vk_port.specs.declared.ahead.Ahead.{Ahead}
use Rattle.vk_port.specs.declared.lanes.Running.{Running}
use Rattle.vk_port.specs.declared.steps.Stepped.{Stepped}
use Rattle.vk_port.specs.declared.found.Found.TheVariants.{Left}
use Rattle.vk_port.specs.declared.tracked.Block.{Block}
use Rattle.vk_port.specs.After.{with_done}
use Rattle.vk_port.specs.Ahead.{with_command, summary, lets, batch_steps}
use Rattle.vk_port.specs.Blocks.{unmarked_in, undone_in, are_alike, block_of, AreBlocks, behind_by, behind_of, GoesBehind, IsBehind}
use Rattle.vk_port.specs.Enabled.{unmarked}
use Rattle.vk_port.specs.Found.{found}
use Rattle.vk_port.specs.Fronts.{work_bits}
use Rattle.vk_port.proofs.AlikeCommands.{Works, Has, with_work, lets_work, has_work, more_is_same}
use Rattle.vk_port.proofs.Earlier.{same_item}
use Rattle.vk_port.proofs.Lists.{item_at, opened}
use Rattle.vk_port.proofs.Summing.{steps_unmarked, unmarked_none}

-- what is left of a batch is summed up block by block
sum_over : (m : ℕ) (a : Ahead) (cs : List VkCommand) (done : List Bool) → summary a (unmarked cs done) ≡ summary (summary a (unmarked_in m cs done)) (unmarked (drop m cs) (drop m done))
sum_over zero a cs done = refl
sum_over (suc m) a [] done = refl
sum_over (suc m) a (c ∷ cs) [] = sym (ap (summary a) (unmarked_none (drop m cs)))
sum_over (suc m) a (c ∷ cs) (true ∷ done) = sum_over m a cs done
sum_over (suc m) a (c ∷ cs) (false ∷ done) = sum_over m (with_command a c) cs done

-- a search goes over a block of which none is left
over_none : (q n k m : ℕ) (a : Ahead) (cs : List VkCommand) (done : List Bool) → length (unmarked_in m cs done) ≡ 0 → batch_steps q n k a cs done ≡ batch_steps q n (k + m) a (drop m cs) (drop m done)
over_none q n k zero a cs done none = let here : k ≡ k + 0 = omega arith in ap (λ (j : ℕ). batch_steps q n j a cs done) here
over_none q n k (suc m) a [] done none = refl
over_none q n k (suc m) a (c ∷ cs) [] none = sym (steps_unmarked q n (k + suc m) a (drop m cs))
over_none q n k (suc m) a (c ∷ cs) (true ∷ done) none =
    let next : k + 1 + m ≡ k + suc m = omega arith in
    over_none q n (k + 1) m a cs done none ∙ ap (λ (j : ℕ). batch_steps q n j a (drop m cs) (drop m done)) next
over_none q n k (suc m) a (c ∷ cs) (false ∷ done) none = absurd (omega (arith, none))

module _ (s : ℕ) (some : 0 < s) where
  -- what is left of a block is summed up as its stage
  alike_more : (a : Ahead) (cs : List VkCommand) → Has s a → are_alike s cs ≡ true → summary a cs ≡ a
  alike_more a [] has all = refl
  alike_more a (c ∷ cs) has all =
      let parts = and_parts (work_bits c == s) (are_alike s cs) all in
      ap (λ (x : Ahead). summary x cs) (more_is_same s a c (some, eqb-true (work_bits c) s parts.0) has) ∙ alike_more a cs has parts.1

  alike_sum : (a : Ahead) (cs : List VkCommand) → 0 < length cs → are_alike s cs ≡ true → summary a cs ≡ record a { by = bit_or a.by s }
  alike_sum a [] less all = absurd (omega (arith, less))
  alike_sum a (c ∷ cs) less all =
      let parts = and_parts (work_bits c == s) (are_alike s cs) all in
      let works : Works s c = (some, eqb-true (work_bits c) s parts.0) in
      alike_more (with_command a c) cs (has_work s a c works) parts.1 ∙ with_work a s c works

  -- a search goes over a block of which nothing can run
  over_held : (q n k m : ℕ) (a : Ahead) (cs : List VkCommand) (done : List Bool) → are_alike s (unmarked_in m cs done) ≡ true → (bit_and a.to s == 0) ≡ false →
      batch_steps q n k a cs done ≡ batch_steps q n (k + m) (summary a (unmarked_in m cs done)) (drop m cs) (drop m done)
  over_held q n k zero a cs done all held = let here : k ≡ k + 0 = omega arith in ap (λ (j : ℕ). batch_steps q n j a cs done) here
  over_held q n k (suc m) a [] done all held = refl
  over_held q n k (suc m) a (c ∷ cs) [] all held = sym (steps_unmarked q n (k + suc m) a (drop m cs))
  over_held q n k (suc m) a (c ∷ cs) (true ∷ done) all held =
      let next : k + 1 + m ≡ k + suc m = omega arith in
      over_held q n (k + 1) m a cs done all held ∙ ap (λ (j : ℕ). batch_steps q n j (summary a (unmarked_in m cs done)) (drop m cs) (drop m done)) next
  over_held q n k (suc m) a (c ∷ cs) (false ∷ done) all held =
      let parts = and_parts (work_bits c == s) (are_alike s (unmarked_in m cs done)) all in
      let works : Works s c = (some, eqb-true (work_bits c) s parts.0) in
      let waits : lets a c ≡ false = lets_work a s c works ∙ held in
      let still : (bit_and (with_command a c).to s == 0) ≡ false = ap (λ (x : Ahead). bit_and x.to s == 0) (with_work a s c works) ∙ held in
      let next : k + 1 + m ≡ k + suc m = omega arith in
      rw waits (over_held q n (k + 1) m (with_command a c) cs done parts.1 still ∙ ap (λ (j : ℕ). batch_steps q n j (summary (with_command a c) (unmarked_in m cs done)) (drop m cs) (drop m done)) next)

  -- a search for a place behind a block of which all that is left can run
  over_ready : (q n k m : ℕ) (a : Ahead) (cs : List VkCommand) (done : List Bool) (left : ℕ) → are_alike s (unmarked_in m cs done) ≡ true → (bit_and a.to s == 0) ≡ true → length (unmarked_in m cs done) ≤ left →
      found (batch_steps q n k a cs done) left ≡ found (batch_steps q n (k + m) (summary a (unmarked_in m cs done)) (drop m cs) (drop m done)) (left - length (unmarked_in m cs done))
  over_ready q n k zero a cs done left all ready within =
      let here : k ≡ k + 0 = omega arith in
      let rest : left ≡ left - 0 = omega arith in
      ap (λ (j : ℕ). found (batch_steps q n j a cs done) left) here ∙ ap (λ (l : ℕ). found (batch_steps q n (k + 0) a cs done) l) rest
  over_ready q n k (suc m) a [] done left all ready within = let rest : left ≡ left - 0 = omega arith in ap (λ (l : ℕ). Left l) rest
  over_ready q n k (suc m) a (c ∷ cs) [] left all ready within =
      let rest : left ≡ left - 0 = omega arith in
      ap (λ (l : ℕ). Left l) rest ∙ sym (ap (λ (steps : List Stepped). found steps (left - 0)) (steps_unmarked q n (k + suc m) a (drop m cs)))
  over_ready q n k (suc m) a (c ∷ cs) (true ∷ done) left all ready within =
      let next : k + 1 + m ≡ k + suc m = omega arith in
      over_ready q n (k + 1) m a cs done left all ready within
      ∙ ap (λ (j : ℕ). found (batch_steps q n j (summary a (unmarked_in m cs done)) (drop m cs) (drop m done)) (left - length (unmarked_in m cs done))) next
  over_ready q n k (suc m) a (c ∷ cs) (false ∷ done) zero all ready within = absurd (omega (arith, within))
  over_ready q n k (suc m) a (c ∷ cs) (false ∷ done) (suc left) all ready within =
      let parts = and_parts (work_bits c == s) (are_alike s (unmarked_in m cs done)) all in
      let works : Works s c = (some, eqb-true (work_bits c) s parts.0) in
      let goes : lets a c ≡ true = lets_work a s c works ∙ ready in
      let still : (bit_and (with_command a c).to s == 0) ≡ true = ap (λ (x : Ahead). bit_and x.to s == 0) (with_work a s c works) ∙ ready in
      let next : k + 1 + m ≡ k + suc m = omega arith in
      let rest : left - length (unmarked_in m cs done) ≡ suc left - suc (length (unmarked_in m cs done)) = omega arith in
      rw goes (over_ready q n (k + 1) m (with_command a c) cs done left parts.1 still (omega (arith, within))
      ∙ ap (λ (j : ℕ). found (batch_steps q n j (summary (with_command a c) (unmarked_in m cs done)) (drop m cs) (drop m done)) (left - length (unmarked_in m cs done))) next
      ∙ ap (λ (l : ℕ). found (batch_steps q n (k + suc m) (summary (with_command a c) (unmarked_in m cs done)) (drop m cs) (drop m done)) l) rest)

-- so many items more are dropped
drop_more : {X : Type 0} (m n : ℕ) (xs : List X) → drop m (drop n xs) ≡ drop (n + m) xs
drop_more m zero xs = let same : m ≡ 0 + m = omega arith in ap (λ (j : ℕ). drop j xs) same
drop_more m (suc n) [] = drop-nil m ∙ sym (drop-nil (suc n + m))
drop_more m (suc n) (x ∷ xs) = let same : suc (n + m) ≡ suc n + m = omega arith in drop_more m n xs ∙ ap (λ (j : ℕ). drop j (x ∷ xs)) same

module _ (running : Running) (at : ℕ) (a : Ahead) (left : ℕ) (block : Block) (is : block ≡ block_of block.stage (undone_in at running)) (alike : block.alike ≡ true) (fits : at + 32 ≤ 18446744073709551615) where
  abbrev here_cs : List VkCommand
  here_cs = drop at running.batch.commands

  abbrev here_done : List Bool
  here_done = drop at running.done

  plain : (nat_lt 0 block.stage && are_alike block.stage (unmarked_in 32 here_cs here_done)) ≡ true
  plain = sym (ap (λ (x : Block). x.alike) is) ∙ alike

  some : 0 < block.stage
  some = let less : nat_lt 0 block.stage ≡ true = (and_parts (nat_lt 0 block.stage) (are_alike block.stage (unmarked_in 32 here_cs here_done)) plain).0 in grind (arith, less)

  each : are_alike block.stage (unmarked_in 32 here_cs here_done) ≡ true
  each = (and_parts (nat_lt 0 block.stage) (are_alike block.stage (unmarked_in 32 here_cs here_done)) plain).1

  count : block.left ≡ length (unmarked_in 32 here_cs here_done)
  count = ap (λ (x : Block). x.left) is

  -- the places behind it, counted from the batch's first
  commands_behind : drop 32 here_cs ≡ drop (at + 32) running.batch.commands
  commands_behind = drop_more 32 at running.batch.commands

  marks_behind : drop 32 here_done ≡ drop (at + 32) running.done
  marks_behind = drop_more 32 at running.done

  -- where the sum of what is left of it is known
  goes : (b : Ahead) (rest : ℕ) → summary a (unmarked_in 32 here_cs here_done) ≡ b →
      ((q n k : ℕ) → found (batch_steps q n k a here_cs here_done) left ≡ found (batch_steps q n (k + 32) (summary a (unmarked_in 32 here_cs here_done)) (drop 32 here_cs) (drop 32 here_done)) rest) → GoesBehind running at a left (record { ahead = b; left = rest })
  goes b rest sum steps = record {
    fits = fits;
    steps = λ q n k. steps q n k ∙ rw (sum, commands_behind, marks_behind) refl;
    sum = sum_over 32 a here_cs here_done ∙ rw (sum, commands_behind, marks_behind) refl;
  }

  some_left : (n : ℕ) → (n == 0) ≡ false → 0 < n
  some_left zero h = absurd (true≢false h)
  some_left (suc n) h = omega arith

  at_most : (n m : ℕ) → nat_le n m ≡ true → n ≤ m
  at_most n m h = grind (arith, h)

  nothing : (us : List VkCommand) → length us ≡ 0 → summary a us ≡ a
  nothing [] none = refl
  nothing (c ∷ us) none = absurd (omega (arith, none))

  by_cases : (none ready past : Bool) → (block.left == 0) ≡ none → (bit_and a.to block.stage == 0) ≡ ready → nat_le block.left left ≡ past → IsBehind running at a left (behind_by none ready past block a left)
  by_cases true ready past is_none is_ready is_past =
      let empty : length (unmarked_in 32 here_cs here_done) ≡ 0 = sym count ∙ eqb-true block.left 0 is_none in
      let same : summary a (unmarked_in 32 here_cs here_done) ≡ a = nothing (unmarked_in 32 here_cs here_done) empty in
      goes a left same (λ q n k. ap (λ (steps : List Stepped). found steps left) (over_none q n k 32 a here_cs here_done empty) ∙ rw same refl)
  by_cases false false past is_none is_ready is_past =
      goes (record a { by = bit_or a.by block.stage }) left (alike_sum block.stage some a (unmarked_in 32 here_cs here_done) (subst (λ (n : ℕ). 0 < n) count (some_left block.left is_none)) each)
      (λ q n k. ap (λ (steps : List Stepped). found steps left) (over_held block.stage some q n k 32 a here_cs here_done each is_ready))
  by_cases false true false is_none is_ready is_past = tt
  by_cases false true true is_none is_ready is_past =
      let within : length (unmarked_in 32 here_cs here_done) ≤ left = subst (λ (n : ℕ). n ≤ left) count (at_most block.left left is_past) in
      goes (record a { by = bit_or a.by block.stage }) (left - block.left) (alike_sum block.stage some a (unmarked_in 32 here_cs here_done) (subst (λ (n : ℕ). 0 < n) count (some_left block.left is_none)) each)
      (λ q n k. over_ready block.stage some q n k 32 a here_cs here_done left each is_ready within
      ∙ ap (λ (l : ℕ). found (batch_steps q n (k + 32) (summary a (unmarked_in 32 here_cs here_done)) (drop 32 here_cs) (drop 32 here_done)) (left - l)) (sym count))

  pub goes_behind : IsBehind running at a left (behind_of block a left)
  goes_behind = by_cases (block.left == 0) (bit_and a.to block.stage == 0) (nat_le block.left left) refl refl refl

-- a command that is done is not left of a block
pub rest_skip : (e : ℕ) (cs : List VkCommand) (done : List Bool) (i : ℕ) (d : Bool) → i < length cs → i < e → slice_get done i ≡ Some d → d ≡ true →
    unmarked_in (e - i) (drop i cs) (drop i done) ≡ unmarked_in (e - (i + 1)) (drop (i + 1) cs) (drop (i + 1) done)
rest_skip e cs done i d within less is marked =
    let c : (c : VkCommand) × (slice_get cs i ≡ Some c) = item_at cs i within in
    let more : e - i ≡ suc (e - (i + 1)) = omega (arith, less) in
    rw (more, opened cs i c.0 c.1, opened done i d is, marked) refl

-- one that is not done is
pub rest_turn : (e : ℕ) (cs : List VkCommand) (done : List Bool) (i : ℕ) (d : Bool) (c : VkCommand) → i < e → slice_get cs i ≡ Some c → slice_get done i ≡ Some d → d ≡ false →
    unmarked_in (e - i) (drop i cs) (drop i done) ≡ c ∷ unmarked_in (e - (i + 1)) (drop (i + 1) cs) (drop (i + 1) done)
rest_turn e cs done i d c less there is marked =
    let more : e - i ≡ suc (e - (i + 1)) = omega (arith, less) in
    rw (more, opened cs i c there, opened done i d is, marked) refl

-- behind the last command none is
none_past : (m : ℕ) (cs : List VkCommand) → unmarked_in m cs [] ≡ []
none_past zero cs = refl
none_past (suc m) [] = refl
none_past (suc m) (c ∷ cs) = refl

none_behind : (m : ℕ) (done : List Bool) → unmarked_in m [] done ≡ []
none_behind zero done = refl
none_behind (suc m) done = refl

pub rest_end : (m : ℕ) (cs : List VkCommand) (done : List Bool) (i : ℕ) → min (length cs) (length done) ≤ i → unmarked_in m (drop i cs) (drop i done) ≡ []
rest_end m cs done i end =
    elim (cases_lt i (length cs)) as (λ _. unmarked_in m (drop i cs) (drop i done) ≡ []) [
      | inl h ↦ let past : length done ≤ i = omega (arith, end, h) in rw (drop_of_length-le done {i = i} past) (none_past m (drop i cs))
      | inr h ↦ rw (drop_of_length-le cs {i = i} h) (none_behind m (drop i done))
    ]

-- nor behind the block
pub rest_over : (e : ℕ) (cs : List VkCommand) (done : List Bool) (i : ℕ) → min (min (length cs) (length done)) e ≤ i → unmarked_in (e - i) (drop i cs) (drop i done) ≡ []
rest_over e cs done i end =
    elim (cases_lt i e) as (λ _. unmarked_in (e - i) (drop i cs) (drop i done) ≡ []) [
      | inl h ↦ rest_end (e - i) cs done i (omega (arith, end, h))
      | inr h ↦ let none : e - i ≡ 0 = omega (arith, h) in ap (λ (m : ℕ). unmarked_in m (drop i cs) (drop i done)) none
    ]

-- a mark outside of a block leaves it
set_before : (n p : ℕ) (xs : List Bool) → p < n → drop n (set xs p true) ≡ drop n xs
set_before zero p xs h = absurd (omega (arith, h))
set_before (suc n) p [] h = refl
set_before (suc n) zero (x ∷ xs) h = refl
set_before (suc n) (suc p) (x ∷ xs) h = set_before n p xs (omega (arith, h))

set_behind : (n p : ℕ) (xs : List Bool) → n ≤ p → drop n (set xs p true) ≡ set (drop n xs) (p - n) true
set_behind zero p xs h = let same : p ≡ p - 0 = omega arith in ap (λ (j : ℕ). set xs j true) same
set_behind (suc n) p [] h = refl
set_behind (suc n) zero (x ∷ xs) h = absurd (omega (arith, h))
set_behind (suc n) (suc p) (x ∷ xs) h = let same : p - n ≡ suc p - suc n = omega arith in set_behind n p xs (omega (arith, h)) ∙ ap (λ (j : ℕ). set (drop n xs) j true) same

mark_past : (m p : ℕ) (cs : List VkCommand) (done : List Bool) → m ≤ p → unmarked_in m cs (set done p true) ≡ unmarked_in m cs done
mark_past zero p cs done h = refl
mark_past (suc m) p [] done h = refl
mark_past (suc m) p (c ∷ cs) [] h = refl
mark_past (suc m) zero (c ∷ cs) (x ∷ done) h = absurd (omega (arith, h))
mark_past (suc m) (suc p) (c ∷ cs) (true ∷ done) h = mark_past m p cs done (omega (arith, h))
mark_past (suc m) (suc p) (c ∷ cs) (false ∷ done) h = ap (λ (us : List VkCommand). c ∷ us) (mark_past m p cs done (omega (arith, h)))

undone_other : (place i : ℕ) (running : Running) → i ≢ (place - 1) / 32 → undone_in (i * 32) (with_done place running) ≡ undone_in (i * 32) running
undone_other place i running other =
    elim (cases_lt (place - 1) (i * 32)) as (λ _. undone_in (i * 32) (with_done place running) ≡ undone_in (i * 32) running) [
      | inl h ↦ ap (unmarked_in 32 (drop (i * 32) running.batch.commands)) (set_before (i * 32) (place - 1) running.done h)
      | inr h ↦
          let past : 32 ≤ place - 1 - i * 32 = grind (arith, h, other) in
          ap (unmarked_in 32 (drop (i * 32) running.batch.commands)) (set_behind (i * 32) (place - 1) running.done h)
          ∙ mark_past 32 (place - 1 - i * 32) (drop (i * 32) running.batch.commands) (drop (i * 32) running.done) past
    ]

got_set : {X : Type 0} (xs : List X) (n : ℕ) (y x : X) → slice_get (set xs n y) n ≡ Some x → x ≡ y
got_set [] n y x is = absurd (none-some x is)
got_set (z ∷ xs) zero y x is = sym (same_item y x is)
got_set (z ∷ xs) (suc n) y x is = got_set xs n y x is

got_other : {X : Type 0} (xs : List X) (n i : ℕ) (y : X) → i ≢ n → slice_get (set xs n y) i ≡ slice_get xs i
got_other [] n i y other = refl
got_other (z ∷ xs) zero zero y other = absurd (other refl)
got_other (z ∷ xs) zero (suc i) y other = refl
got_other (z ∷ xs) (suc n) zero y other = refl
got_other (z ∷ xs) (suc n) (suc i) y other = got_other xs n i y (λ same. other (ap suc same))

-- a done command has its block counted again
pub blocks_marked : (running : Running) (blocks : List Block) (place stage : ℕ) → AreBlocks running blocks →
    AreBlocks (with_done place running) (set blocks ((place - 1) / 32) (block_of stage (undone_in ((place - 1) / 32 * 32) (with_done place running))))
blocks_marked running blocks place stage are i x is =
    elim (cases_eq i ((place - 1) / 32)) as (λ _. x ≡ block_of x.stage (undone_in (i * 32) (with_done place running))) [
      | inl same ↦
          let now = block_of stage (undone_in ((place - 1) / 32 * 32) (with_done place running)) in
          let here : x ≡ block_of stage (undone_in (i * 32) (with_done place running)) =
          got_set blocks i (block_of stage (undone_in (i * 32) (with_done place running))) x
          (subst (λ (n : ℕ). slice_get (set blocks n (block_of stage (undone_in (n * 32) (with_done place running)))) i ≡ Some x) (sym same) is) in
          here ∙ ap (λ (s : ℕ). block_of s (undone_in (i * 32) (with_done place running))) (sym (ap (λ (y : Block). y.stage) here))
      | inr other ↦
          let old : slice_get blocks i ≡ Some x = sym (got_other blocks ((place - 1) / 32) i _ other) ∙ is in
          are i x old ∙ ap (block_of x.stage) (sym (undone_other place i running other))
    ]

-- past the last block none is kept
pub blocks_past : (running : Running) (blocks : List Block) (place : ℕ) → length blocks ≤ (place - 1) / 32 → AreBlocks running blocks → AreBlocks (with_done place running) blocks
blocks_past running blocks place past are i x is =
    let within : i < length blocks = slice_get_within blocks i x is in
    are i x is ∙ ap (block_of x.stage) (sym (undone_other place i running (λ same. absurd (omega (arith, past, within, same)))))

-- a block more
got_more : {X : Type 0} (p : ℕ → X → Type 0) (xs : List X) (y : X) → ((i : ℕ) (x : X) → slice_get xs i ≡ Some x → p i x) → p (length xs) y → (i : ℕ) (x : X) → slice_get (xs ++ y ∷ []) i ≡ Some x → p i x
got_more p [] y all last zero x is = subst (p 0) (same_item y x is) last
got_more p [] y all last (suc i) x is = absurd (none-some x is)
got_more p (z ∷ xs) y all last zero x is = all 0 x is
got_more p (z ∷ xs) y all last (suc i) x is = got_more (λ j. p (suc j)) xs y (λ j. all (suc j)) last i x is

pub blocks_more : (running : Running) (blocks : List Block) (number stage : ℕ) (block : Block) → length blocks ≡ number → AreBlocks running blocks → block ≡ block_of stage (undone_in (number * 32) running) → AreBlocks running (blocks ++ block ∷ [])
blocks_more running blocks number stage block long are is =
    got_more (λ i x. x ≡ block_of x.stage (undone_in (i * 32) running)) blocks block are
    (rw long (is ∙ ap (λ (s : ℕ). block_of s (undone_in (number * 32) running)) (sym (ap (λ (y : Block). y.stage) is))))
