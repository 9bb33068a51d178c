-- One number more.
use Rattle.std.proofs.Common.{◌∙◌, ◌++◌, [], ◌∷◌, ap, sym, take, ℕ, Bool, List, Option, None, if◌then◌else◌}
use Rattle.vk_sync_rules.specs.Machines.{is_seen_in}
use Rattle.vk_sync_rules.specs.NextState.{where_seen}
use Rattle.vk_sync_rules.proofs.PieceSteps.{seen_more}
use Rattle.vk_sync_rules.proofs.numbers_read.seen_numbers.Goals as goal

pub loop-k-preserved : goal.loop-k-preserved
loop-k-preserved c =
    let a = c.args in
    let read = c.at.result.now in
    let test = is_seen_in a.accesses.now a.site.queue a.site.stages a.reads a.site.place a.range.resource in
    c.in_ok-push.ensures.ok
    ∙ ap (λ (ns : List (Option ℕ)). ns ++ c.number_if.result ∷ []) c.loop-k.invariant
    ∙ ap (λ (n : Option ℕ). where_seen test a.range.first (take c.loop-k.k a.words.now) ++ n ∷ []) (c.number_if.ensures ∙ ap (λ (t : Bool). if t then read else None) c.is_seen-seen.ensures)
    ∙ sym (seen_more test a.range.first a.words.now c.loop-k.k read c.at.ensures)
