use Rattle.std.proofs.Common.{◌∙◌, ap, List, ◌∷◌, [], ◌++◌}
use Rattle.ms_lits.specs.declared.lit.Lit.{Lit}
use Rattle.ms_complete.specs.Rules.{holds}
use Rattle.ms_complete.proofs.SupportLaws.{lits_next_at}
use Rattle.ms_complete.proofs.supports.lits_of.Goals as goal

pub loop-s-init : goal.loop-s-init
loop-s-init c = c.in_ok-push.ensures.items ∙ ap (λ (ls : List Lit). ls ++ holds c.args.head ∷ []) c.in_ok-lits.ensures.items

pub loop-s-preserved : goal.loop-s-preserved
loop-s-preserved c =
    lits_next_at c.args.head c.args.own.now c.loop-s.lits.items c.push-in-loop-s.new.self.items c.loop-s.s-index _ c.loop-s-test.true c.loop-s.invariant c.in_ok-push-2.ensures.items
