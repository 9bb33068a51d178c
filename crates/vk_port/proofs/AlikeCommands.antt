-- A command that is done while one that works alike is left in front takes no other step away, and gives none.
use Rattle.std.proofs.Common.{◌≡◌, ℕ, zero, suc, ◌+◌, ◌<◌, ◌==◌, ◌∙◌, Bool, true, false, List, [], ◌∷◌, ◌++◌, length, take, set, refl, sym, ap, subst, arith, true≢false, bit_and, bit_or, slice_get, Some, if◌then◌else◌}
use Rattle.std.specs.List.{list_all}
use Rattle.std.proofs.lemmas.Option.{none-some}
use Rattle.vk_types.specs.declared.commands.VkCommand.{VkCommand}
use Rattle.vk_types.specs.declared.commands.VkCommand.TheVariants.{Barrier, Copy, CopyImage, CopyIn, CopyOut, Clear, Dispatch}
use Rattle.vk_port.specs.declared.ahead.Ahead.{Ahead}
use Rattle.vk_port.specs.declared.steps.Stepped.{Stepped}
use Rattle.vk_port.specs.declared.steps.Stepped.TheVariants.{Ran}
use Rattle.vk_port.specs.Ahead.{with_command, summary, lets, batch_steps}
use Rattle.vk_port.specs.Enabled.{unmarked}
use Rattle.vk_port.specs.Fronts.{work_bits}
use Rattle.vk_port.proofs.Bits.{or_twice, or_past}
use Rattle.vk_port.proofs.Earlier.{same_item}

-- a command that works in a stage
abbrev pub Works : ℕ → VkCommand → Type 0
Works s c = (0 < s) × (work_bits c ≡ s)

-- it is summed up as its stage's bits
pub with_work : (a : Ahead) (s : ℕ) (c : VkCommand) → Works s c → with_command a c ≡ record a { by = bit_or a.by s }
with_work a s (Barrier from made to seen change) w = absurd (omega (arith, w.0, w.1))
with_work a s (Copy to to_first from from_first words) w = ap (λ (x : ℕ). record a { by = bit_or a.by x }) w.1
with_work a s (CopyImage to to_sub to_layout from from_sub from_layout) w = ap (λ (x : ℕ). record a { by = bit_or a.by x }) w.1
with_work a s (CopyIn image sub layout buffer first pitch) w = ap (λ (x : ℕ). record a { by = bit_or a.by x }) w.1
with_work a s (CopyOut buffer first pitch image sub layout) w = ap (λ (x : ℕ). record a { by = bit_or a.by x }) w.1
with_work a s (Clear target word) w = ap (λ (x : ℕ). record a { by = bit_or a.by x }) w.1
with_work a s (Dispatch routine count t0 t1 u0 b0) w = ap (λ (x : ℕ). record a { by = bit_or a.by x }) w.1

-- it waits for barriers alone
pub lets_work : (a : Ahead) (s : ℕ) (c : VkCommand) → Works s c → lets a c ≡ (bit_and a.to s == 0)
lets_work a s (Barrier from made to seen change) w = absurd (omega (arith, w.0, w.1))
lets_work a s (Copy to to_first from from_first words) w = ap (λ (x : ℕ). bit_and a.to x == 0) w.1
lets_work a s (CopyImage to to_sub to_layout from from_sub from_layout) w = ap (λ (x : ℕ). bit_and a.to x == 0) w.1
lets_work a s (CopyIn image sub layout buffer first pitch) w = ap (λ (x : ℕ). bit_and a.to x == 0) w.1
lets_work a s (CopyOut buffer first pitch image sub layout) w = ap (λ (x : ℕ). bit_and a.to x == 0) w.1
lets_work a s (Clear target word) w = ap (λ (x : ℕ). bit_and a.to x == 0) w.1
lets_work a s (Dispatch routine count t0 t1 u0 b0) w = ap (λ (x : ℕ). bit_and a.to x == 0) w.1

-- commands of which one works in the stage: one more does not change their sum
abbrev pub Has : ℕ → Ahead → Type 0
Has s a = bit_or a.by s ≡ a.by

has_more : (s : ℕ) (a : Ahead) (e : VkCommand) → Has s a → Has s (with_command a e)
has_more s a (Barrier from made to seen change) h = h
has_more s a (Copy to to_first from from_first words) h = or_past a.by 4 s h
has_more s a (CopyImage to to_sub to_layout from from_sub from_layout) h = or_past a.by 4 s h
has_more s a (CopyIn image sub layout buffer first pitch) h = or_past a.by 4 s h
has_more s a (CopyOut buffer first pitch image sub layout) h = or_past a.by 4 s h
has_more s a (Clear target word) h = or_past a.by 2 s h
has_more s a (Dispatch routine count t0 t1 u0 b0) h = or_past a.by 2 s h

pub has_work : (s : ℕ) (a : Ahead) (c : VkCommand) → Works s c → Has s (with_command a c)
has_work s a c w = rw (with_work a s c w) (or_twice a.by s)

pub more_is_same : (s : ℕ) (a : Ahead) (c : VkCommand) → Works s c → Has s a → with_command a c ≡ a
more_is_same s a c w h = with_work a s c w ∙ ap (λ (x : ℕ). record a { by = x }) h

-- one step fewer behind a step that may be there
fewer_behind : (b : Bool) (x : Stepped) (xs ys : List Stepped) → suc (length xs) ≡ length ys → suc (length ((if b then x ∷ [] else []) ++ xs)) ≡ length ((if b then x ∷ [] else []) ++ ys)
fewer_behind true x xs ys h = ap suc h
fewer_behind false x xs ys h = h

module _ (s : ℕ) (c : VkCommand) (w : Works s c) where
  -- behind the sum with the command, where the next one that is left works alike
  steps_behind : (q n k : ℕ) (a : Ahead) (cs : List VkCommand) (done : List Bool) (g : ℕ) (d : VkCommand) → slice_get cs g ≡ Some d → Works s d → slice_get done g ≡ Some false → list_all (λ mark. mark) (take g done) ≡ true →
      batch_steps q n k (with_command a c) cs done ≡ batch_steps q n k a cs done
  steps_behind q n k a [] done g d is alike left before = absurd (none-some d is)
  steps_behind q n k a (e ∷ cs) [] g d is alike left before = absurd (none-some false left)
  steps_behind q n k a (e ∷ cs) (true ∷ done) zero d is alike left before = absurd (true≢false (same_item true false left))
  steps_behind q n k a (e ∷ cs) (false ∷ done) zero d is alike left before =
      let here : Works s e = subst (λ (x : VkCommand). Works s x) (sym (same_item e d is)) alike in
      let same : lets (with_command a c) e ≡ lets a e = lets_work (with_command a c) s e here ∙ (ap (λ (x : Ahead). bit_and x.to s == 0) (with_work a s c w) ∙ sym (lets_work a s e here)) in
      let sum : with_command (with_command a c) e ≡ with_command a e = with_work (with_command a c) s e here ∙ (ap (λ (x : Ahead). record x { by = bit_or x.by s }) (with_work a s c w) ∙ (ap (λ (x : ℕ). record a { by = x }) (or_twice a.by s) ∙ sym (with_work a s e here))) in
      rw (same, sum) refl
  steps_behind q n k a (e ∷ cs) (true ∷ done) (suc g) d is alike left before = steps_behind q n (k + 1) a cs done g d is alike left before
  steps_behind q n k a (e ∷ cs) (false ∷ done) (suc g) d is alike left before = absurd (true≢false (sym before))

  sum_behind : (a : Ahead) (cs : List VkCommand) (done : List Bool) (g : ℕ) (d : VkCommand) → slice_get cs g ≡ Some d → Works s d → slice_get done g ≡ Some false → list_all (λ mark. mark) (take g done) ≡ true →
      summary (with_command a c) (unmarked cs done) ≡ summary a (unmarked cs done)
  sum_behind a [] done g d is alike left before = absurd (none-some d is)
  sum_behind a (e ∷ cs) [] g d is alike left before = absurd (none-some false left)
  sum_behind a (e ∷ cs) (true ∷ done) zero d is alike left before = absurd (true≢false (same_item true false left))
  sum_behind a (e ∷ cs) (false ∷ done) zero d is alike left before =
      let here : Works s e = subst (λ (x : VkCommand). Works s x) (sym (same_item e d is)) alike in
      let sum : with_command (with_command a c) e ≡ with_command a e = with_work (with_command a c) s e here ∙ (ap (λ (x : Ahead). record x { by = bit_or x.by s }) (with_work a s c w) ∙ (ap (λ (x : ℕ). record a { by = x }) (or_twice a.by s) ∙ sym (with_work a s e here))) in
      ap (λ (x : Ahead). summary x (unmarked cs done)) sum
  sum_behind a (e ∷ cs) (true ∷ done) (suc g) d is alike left before = sum_behind a cs done g d is alike left before
  sum_behind a (e ∷ cs) (false ∷ done) (suc g) d is alike left before = absurd (true≢false (sym before))

  -- where one that works alike is summed up already
  steps_past : (q n k : ℕ) (a : Ahead) (cs : List VkCommand) (done : List Bool) (i : ℕ) → slice_get cs i ≡ Some c → slice_get done i ≡ Some false → Has s a →
      lets (summary a (unmarked (take i cs) (take i done))) c ≡ true → suc (length (batch_steps q n k a cs (set done i true))) ≡ length (batch_steps q n k a cs done)
  steps_past q n k a [] done i is left has can = absurd (none-some c is)
  steps_past q n k a (e ∷ cs) [] i is left has can = absurd (none-some false left)
  steps_past q n k a (e ∷ cs) (true ∷ done) zero is left has can = absurd (true≢false (same_item true false left))
  steps_past q n k a (e ∷ cs) (false ∷ done) zero is left has can =
      let goes : lets a e ≡ true = ap (lets a) (same_item e c is) ∙ can in
      let sum : with_command a e ≡ a = ap (with_command a) (same_item e c is) ∙ more_is_same s a c w has in
      rw (goes, sum) refl
  steps_past q n k a (e ∷ cs) (true ∷ done) (suc i) is left has can = steps_past q n (k + 1) a cs done i is left has can
  steps_past q n k a (e ∷ cs) (false ∷ done) (suc i) is left has can =
      fewer_behind (lets a e) (Ran q n k) (batch_steps q n (k + 1) (with_command a e) cs (set done i true)) (batch_steps q n (k + 1) (with_command a e) cs done)
      (steps_past q n (k + 1) (with_command a e) cs done i is left (has_more s a e has) can)

  sum_past : (a : Ahead) (cs : List VkCommand) (done : List Bool) (i : ℕ) → slice_get cs i ≡ Some c → slice_get done i ≡ Some false → Has s a →
      summary a (unmarked cs (set done i true)) ≡ summary a (unmarked cs done)
  sum_past a [] done i is left has = absurd (none-some c is)
  sum_past a (e ∷ cs) [] i is left has = absurd (none-some false left)
  sum_past a (e ∷ cs) (true ∷ done) zero is left has = absurd (true≢false (same_item true false left))
  sum_past a (e ∷ cs) (false ∷ done) zero is left has =
      let sum : with_command a e ≡ a = ap (with_command a) (same_item e c is) ∙ more_is_same s a c w has in
      ap (λ (x : Ahead). summary x (unmarked cs done)) (sym sum)
  sum_past a (e ∷ cs) (true ∷ done) (suc i) is left has = sum_past a cs done i is left has
  sum_past a (e ∷ cs) (false ∷ done) (suc i) is left has = sum_past (with_command a e) cs done i is left (has_more s a e has)

  -- a command is done, and the first one that is left then works alike: the batch has one step fewer
  pub one_fewer : (q n k : ℕ) (a : Ahead) (cs : List VkCommand) (done : List Bool) (i g : ℕ) (d : VkCommand) → slice_get cs i ≡ Some c → slice_get done i ≡ Some false → slice_get cs g ≡ Some d → Works s d →
      slice_get (set done i true) g ≡ Some false → list_all (λ mark. mark) (take g (set done i true)) ≡ true → lets (summary a (unmarked (take i cs) (take i done))) c ≡ true →
      suc (length (batch_steps q n k a cs (set done i true))) ≡ length (batch_steps q n k a cs done)
  one_fewer q n k a [] done i g d is left there alike still before can = absurd (none-some c is)
  one_fewer q n k a (e ∷ cs) [] i g d is left there alike still before can = absurd (none-some false left)
  one_fewer q n k a (e ∷ cs) (true ∷ done) zero g d is left there alike still before can = absurd (true≢false (same_item true false left))
  one_fewer q n k a (e ∷ cs) (false ∷ done) zero zero d is left there alike still before can = absurd (true≢false (same_item true false still))
  one_fewer q n k a (e ∷ cs) (false ∷ done) zero (suc g) d is left there alike still before can =
      let goes : lets a e ≡ true = ap (lets a) (same_item e c is) ∙ can in
      let same : batch_steps q n (k + 1) (with_command a e) cs done ≡ batch_steps q n (k + 1) a cs done =
      ap (λ (x : VkCommand). batch_steps q n (k + 1) (with_command a x) cs done) (same_item e c is) ∙ steps_behind q n (k + 1) a cs done g d there alike still before in
      rw (goes, same) refl
  one_fewer q n k a (e ∷ cs) (true ∷ done) (suc i) zero d is left there alike still before can = absurd (true≢false (same_item true false still))
  one_fewer q n k a (e ∷ cs) (false ∷ done) (suc i) zero d is left there alike still before can =
      let here : Works s e = subst (λ (x : VkCommand). Works s x) (sym (same_item e d there)) alike in
      fewer_behind (lets a e) (Ran q n k) (batch_steps q n (k + 1) (with_command a e) cs (set done i true)) (batch_steps q n (k + 1) (with_command a e) cs done)
      (steps_past q n (k + 1) (with_command a e) cs done i is left (has_work s a e here) can)
  one_fewer q n k a (e ∷ cs) (true ∷ done) (suc i) (suc g) d is left there alike still before can = one_fewer q n (k + 1) a cs done i g d is left there alike still before can
  one_fewer q n k a (e ∷ cs) (false ∷ done) (suc i) (suc g) d is left there alike still before can = absurd (true≢false (sym before))

  -- and the commands behind it wait for the same
  pub same_sum : (a : Ahead) (cs : List VkCommand) (done : List Bool) (i g : ℕ) (d : VkCommand) → slice_get cs i ≡ Some c → slice_get done i ≡ Some false → slice_get cs g ≡ Some d → Works s d →
      slice_get (set done i true) g ≡ Some false → list_all (λ mark. mark) (take g (set done i true)) ≡ true → summary a (unmarked cs (set done i true)) ≡ summary a (unmarked cs done)
  same_sum a [] done i g d is left there alike still before = absurd (none-some c is)
  same_sum a (e ∷ cs) [] i g d is left there alike still before = absurd (none-some false left)
  same_sum a (e ∷ cs) (true ∷ done) zero g d is left there alike still before = absurd (true≢false (same_item true false left))
  same_sum a (e ∷ cs) (false ∷ done) zero zero d is left there alike still before = absurd (true≢false (same_item true false still))
  same_sum a (e ∷ cs) (false ∷ done) zero (suc g) d is left there alike still before =
      sym (ap (λ (x : VkCommand). summary (with_command a x) (unmarked cs done)) (same_item e c is) ∙ sum_behind a cs done g d there alike still before)
  same_sum a (e ∷ cs) (true ∷ done) (suc i) zero d is left there alike still before = absurd (true≢false (same_item true false still))
  same_sum a (e ∷ cs) (false ∷ done) (suc i) zero d is left there alike still before =
      sum_past (with_command a e) cs done i is left (has_work s a e (subst (λ (x : VkCommand). Works s x) (sym (same_item e d there)) alike))
  same_sum a (e ∷ cs) (true ∷ done) (suc i) (suc g) d is left there alike still before = same_sum a cs done i g d is left there alike still before
  same_sum a (e ∷ cs) (false ∷ done) (suc i) (suc g) d is left there alike still before = absurd (true≢false (sym before))
