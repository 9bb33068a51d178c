-- What is recorded, and what the host accesses, lies inside the words of its buffers.
use Rattle.std.proofs.Common.{ℕ, zero, suc, ◌≡◌, ◌<◌, ◌≤◌, ◌+◌, ◌*◌, ◌/◌, ◌%◌, nat_le, refl, sym, subst, arith, List, [], ◌∷◌, map, length, Bool, true, false, not, ◌&&◌, Option, Some, None, is_some}
use Rattle.std.specs.Prelude.{◌==◌}
use Rattle.std.specs.List.{list_all}
use Rattle.std.proofs.lemmas.Bool.{eqb-true, leb-true}
use Rattle.dx_base.specs.Each.{Each}
use Rattle.dx_base.proofs.Lists.{and_both}
use Rattle.dx_base.specs.declared.hresult.Hresult.TheVariants.{InvalidArg}
use Rattle.dx_base.specs.declared.kinds.Home.{Home}
use Rattle.d3d_machine.specs.declared.calls.Record.{Record}
use Rattle.d3d_machine.specs.declared.calls.Record.TheVariants.{Copy}
use Rattle.d3d_machine.specs.declared.events.Command.{Command}
use Rattle.d3d_machine.specs.declared.events.Event.{Event}
use Rattle.d3d_machine.specs.declared.events.Operation.{Operation}
use Rattle.d3d_machine.specs.declared.events.Operation.TheVariants as operation
use Rattle.d3d_machine.specs.declared.world.Resource.{Resource}
use Rattle.d3d_machine.specs.declared.world.Resource.TheVariants.{Buffer}
use Rattle.d3d_machine.specs.declared.world.World.{World}
use Rattle.d3d_machine.specs.Checks.{write_refusal, read_refusal}
use Rattle.d3d_machine.specs.Good.{is_good_record, is_good_command, is_good_operation}
use Rattle.d3d_machine.specs.Play.{state_after}
use Rattle.d3d_machine.specs.Replies.{refuse_if}
use Rattle.d3d_machine.specs.World.{resource_of, words_in, home_test, is_upload, is_readback, is_upload_home, is_readback_home, is_inside, is_whole, is_small_resource}
use Rattle.d3d_machine.proofs.Good.{recorded_are_good}
use Rattle.d3d_judge.specs.Carried.{Clocks, Pending, item_or, clocks_after}
use Rattle.d3d_judge.specs.Commands.{bytes_of, command_of}
use Rattle.d3d_judge.specs.CopyScopes.{IsIn, AreIn, IsWorkIn, AreSmall}
use Rattle.d3d_judge.specs.Happenings.{work_of}
use Rattle.d3d_judge.specs.Judged.{judge, judge_after}
use Rattle.verdicts.specs.declared.rules.Verdict.TheVariants.{Clean}
use Rattle.d3d_judge.specs.Setting.{Traits, traits_of}
use Rattle.d3d_judge.specs.WordTouches.{words_at}
use Rattle.d3d_judge.proofs.CopyRules.{traits_is, words_are}
use Rattle.d3d_judge.proofs.Judging.{clean_clocks_are}
use Rattle.d3d_judge.proofs.Pending.{pending_are_called}

not_refused : (b : Bool) → refuse_if (not b) InvalidArg None ≡ None → b ≡ true
not_refused true h = refl
not_refused false h = absurd (cc)

-- a range of bytes inside a buffer is one of words inside it
pub inside_words : (n offset bytes : ℕ) → is_inside n offset bytes ≡ true → offset / 4 + bytes / 4 ≤ n
inside_words n offset bytes h =
    let a : (is_whole offset ≡ true) × ((is_whole bytes && nat_le (offset + bytes) (4 * n)) ≡ true) = and_both (is_whole offset) (is_whole bytes && nat_le (offset + bytes) (4 * n)) h in
    let b : (is_whole bytes ≡ true) × (nat_le (offset + bytes) (4 * n) ≡ true) = and_both (is_whole bytes) (nat_le (offset + bytes) (4 * n)) a.1 in
    let x : offset % 4 ≡ 0 = eqb-true (offset % 4) 0 a.0 in
    let y : bytes % 4 ≡ 0 = eqb-true (bytes % 4) 0 b.0 in
    let z : offset + bytes ≤ 4 * n = leb-true (offset + bytes) (4 * n) b.1 in
    omega arith

one_sub : (o : Option Resource) → is_some o ≡ true → 0 < length (traits_of o).subs
one_sub None h = cc
one_sub (Some (Buffer k n)) h = omega arith

-- bytes inside a live buffer
pub buffer_in : (w : World) (r offset bytes : ℕ) → is_some (resource_of w r) ≡ true → is_inside (words_in w r) offset bytes ≡ true → IsIn (map traits_of w.resources) (bytes_of r offset bytes)
buffer_in w r offset bytes lives h = record {
  sub = subst (λ (t : Traits). 0 < length t.subs) (sym (traits_is w.resources r)) (one_sub (resource_of w r) lives);
  words = let a = inside_words (words_in w r) offset bytes h in let b = words_are w r in omega (arith, a, b);
}

-- a good copy
pub copy_in : (w : World) (what : Record) → is_good_record w what ≡ true → AreIn (map traits_of w.resources) (command_of what)
copy_in w (Copy d doff s soff bytes) h =
    let a = and_both (is_some (resource_of w d.0)) _ h in
    let b = and_both (is_some (resource_of w s.0)) _ a.1 in
    let c = and_both (not (bytes == 0)) _ b.1 in
    let e = and_both (is_inside (words_in w d.0) doff bytes) _ c.1 in
    let f = and_both (is_inside (words_in w s.0) soff bytes) _ e.1 in
    (buffer_in w s.0 soff bytes b.0 f.0, (buffer_in w d.0 doff bytes a.0 e.0, tt))

commands_in : (w : World) (cs : List Command) → list_all (is_good_command w) cs ≡ true → Each (AreIn (map traits_of w.resources)) (map (λ c. command_of c.what) cs)
commands_in w [] h = tt
commands_in w (c ∷ cs) h = let a = and_both (is_good_record w c.what) (list_all (is_good_command w) cs) h in (copy_in w c.what a.0, commands_in w cs a.1)

work_in : (w : World) (o : Operation) → is_good_operation w o ≡ true → IsWorkIn (map traits_of w.resources) (work_of o)
work_in w (operation.Execute cs) h = commands_in w cs h
work_in w (operation.Signal f v) h = tt

works_in : (w : World) (os : List Operation) → list_all (is_good_operation w) os ≡ true → Each (IsWorkIn (map traits_of w.resources)) (map work_of os)
works_in w [] h = tt
works_in w (o ∷ os) h = let a = and_both (is_good_operation w o) (list_all (is_good_operation w) os) h in (work_in w o a.0, works_in w os a.1)

all_works_in : (w : World) (oss : List (List Operation)) → list_all (λ os. list_all (is_good_operation w) os) oss ≡ true → Each (λ ws. Each (IsWorkIn (map traits_of w.resources)) ws) (map (map work_of) oss)
all_works_in w [] h = tt
all_works_in w (os ∷ oss) h = let a = and_both (list_all (is_good_operation w) os) (list_all (λ ps. list_all (is_good_operation w) ps) oss) h in (works_in w os a.0, all_works_in w oss a.1)

-- a fact of the images of items is one of the items
pub each_unmap : {A B : Type 0} (P : B → Type 0) (f : A → B) (xs : List A) → Each P (map f xs) → Each (λ x. P (f x)) xs
each_unmap P f [] h = tt
each_unmap P f (x ∷ xs) h = (h.0, each_unmap P f xs h.1)

unmap_each : {A B : Type 0} (P : B → Type 0) (f : A → B) (xss : List (List A)) → Each (λ ys. Each P ys) (map (map f) xss) → Each (λ xs. Each (λ x. P (f x)) xs) xss
unmap_each P f [] h = tt
unmap_each P f (xs ∷ xss) h = (each_unmap P f xs h.0, unmap_each P f xss h.1)

-- the pending operations of a clean history
pub pending_inside : (w : World) (h : List Event) → judge w h ≡ Clean → Each (λ ps. Each (λ p. IsWorkIn (map traits_of w.resources) p.what) ps) (judge_after w h).clocks.pending
pending_inside w h clean =
    subst (λ (c : Clocks). Each (λ ps. Each (λ p. IsWorkIn (map traits_of w.resources) p.what) ps) c.pending) (sym (clean_clocks_are w h clean))
    (unmap_each (IsWorkIn (map traits_of w.resources)) (λ (p : Pending). p.what) (clocks_after w h).pending
    (subst (λ wss. Each (λ ws. Each (IsWorkIn (map traits_of w.resources)) ws) wss) (sym (pending_are_called w h)) (all_works_in w (state_after w h).desk.called (recorded_are_good.called w h))))

lives : (test : Home → Bool) (o : Option Resource) → home_test test o ≡ true → is_some o ≡ true
lives test None h = cc
lives test (Some (Buffer k n)) h = refl

-- words that the host writes, or reads
pub write_in : (w : World) (b offset n : ℕ) → write_refusal w b offset n ≡ None → IsIn (map traits_of w.resources) (record { resource = b; sub = 0; first = offset / 4; words = n })
write_in w b offset n good =
    let a = and_both (is_upload w b) (is_inside (words_in w b) offset (4 * n)) (not_refused (is_upload w b && is_inside (words_in w b) offset (4 * n)) good) in
    let i = buffer_in w b offset (4 * n) (lives is_upload_home (resource_of w b) a.0) a.1 in
    record { sub = i.sub; words = let k = i.words in let e : 4 * n / 4 ≡ n = omega arith in omega (arith, k, e) }

pub read_in : (w : World) (b offset bytes : ℕ) → read_refusal w b offset bytes ≡ None → IsIn (map traits_of w.resources) (bytes_of b offset bytes)
read_in w b offset bytes good =
    let a = and_both (is_readback w b) _ (not_refused (is_readback w b && (not (bytes == 0) && is_inside (words_in w b) offset bytes)) good) in
    let c = and_both (not (bytes == 0)) (is_inside (words_in w b) offset bytes) a.1 in
    buffer_in w b offset bytes (lives is_readback_home (resource_of w b) a.0) c.1

-- small resources have few words
pub world_small : (w : World) → list_all is_small_resource w.resources ≡ true → AreSmall w
world_small w h r s = all_small w.resources h r s
  where
    none_there : (k : ℕ) → item_or 0 [] k ≤ 262144
    none_there k = omega arith

    one_small : (o : Option Resource) (k : ℕ) → is_small_resource o ≡ true → item_or 0 (traits_of o).subs k ≤ 262144
    one_small None k e = none_there k
    one_small (Some (Buffer b n)) zero e = leb-true n 262144 e
    one_small (Some (Buffer b n)) (suc k) e = none_there k

    all_small : (os : List (Option Resource)) → list_all is_small_resource os ≡ true → (a k : ℕ) → words_at (map traits_of os) a k ≤ 262144
    all_small [] e a k = none_there k
    all_small (o ∷ os) e zero k = one_small o k (and_both (is_small_resource o) (list_all is_small_resource os) e).0
    all_small (o ∷ os) e (suc a) k = all_small os (and_both (is_small_resource o) (list_all is_small_resource os) e).1 a k
