use Rattle.std.proofs.Common.{◌∙◌}
use Rattle.ms_parse.proofs.Apart.{seen_next, alike_from_seen, was_seen, was_new}
use Rattle.ms_parse.proofs.program.all_differ.Goals as goal

pub returns-then-not-is_new : goal.returns-then-not-is_new
returns-then-not-is_new c =
    let inside = rw c.as_slice-name-items.ensures at c.loop-name-test.true in
    let item = rw c.as_slice-name-items.ensures at c.name-item.is in (
      λ e. absurd (let f : ⊥ = cc in f),
      λ differ. absurd (alike_from_seen c.args.names.now _ inside _ _ (c.in_ok-copied.ensures ∙ c.as_slice.ensures ∙ item) _ c.loop-name.invariant (was_seen _ _ c.in_ok-is_new.ensures.added c.if-not-is_new.true) differ),
    )

pub loop-name-preserved : goal.loop-name-preserved
loop-name-preserved c =
    let inside = rw c.as_slice-name-items.ensures at c.loop-name-test.true in
    let item = rw c.as_slice-name-items.ensures at c.name-item.is in
    seen_next c.args.names.now _ inside _ _ (c.in_ok-copied.ensures ∙ c.as_slice.ensures ∙ item) _ c.loop-name.invariant _ (was_new _ _ c.in_ok-is_new.ensures.added c.if-not-is_new.false) c.in_ok-is_new.ensures.updates
