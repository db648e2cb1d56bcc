use Rattle.std.proofs.Common.{◌∙◌, sym, arith}
use Rattle.ms_watch.specs.Watches.{list_of, free}
use Rattle.ms_watch.proofs.Settling.{front_other}
use Rattle.ms_watch.proofs.watches.Watches.watch.Goals as goal

pub relink-requires-3-clause-front : goal.relink-requires-3-clause-front
relink-requires-3-clause-front c =
    front_other c.self.inside.lists c.relink-2.new.self c.list_of.result free _ c.in-Some._spare c.relink-2.ensures c.in-Some.ensures.some (λ e. absurd (omega arith)) (λ e. absurd (omega (arith, c.list_of.ensures.list)))
