use Rattle.std.proofs.Common.{subst}
use Rattle.ms_lits.specs.declared.lit.Lit.{Lit}
use Rattle.ms_lits.specs.Literals.{opposite_of}
use Rattle.ms_complete.specs.Bases.{AddsExactly}
use Rattle.ms_complete.specs.Rules.{holds}
use Rattle.ms_complete.specs.Sets.{Writes, pair}
use Rattle.ms_complete.proofs.Adding.{none_added, one_added_at, all_added}
use Rattle.ms_complete.proofs.nogoods.add_parts.Goals as goal

pub loop-part-init : goal.loop-part-init
loop-part-init c = none_added (λ part n. Writes (pair (holds c.args.number) (opposite_of part)) n) c.args.parts.now c.args.store.now

pub loop-part-preserved : goal.loop-part-preserved
loop-part-preserved c =
    one_added_at (λ part n. Writes (pair (holds c.args.number) (opposite_of part)) n) c.args.parts.now c.loop-part.part-index _ c.args.store.now c.loop-part.store c.add_pair.new.store
    c.loop-part-test.true c.loop-part.invariant
    (subst (λ (l : Lit). AddsExactly c.loop-part.store c.add_pair.new.store (Writes (pair (holds c.args.number) l))) c.opposite.ensures c.in_ok-add_pair.ensures)

pub returns : goal.returns
returns c = all_added (λ part n. Writes (pair (holds c.args.number) (opposite_of part)) n) c.args.parts.now c.loop-part.part-index c.args.store.now c.loop-part.store c.loop-part-test.false c.loop-part.invariant
