use Rattle.std.proofs.Common.{rules, ◌≡◌, replicate, refl}
use Rattle.ms_io.proofs.Repeating.{repeats_moved}
use Rattle.ms_io.proofs.repeat_source.RepeatSourceSource.take.Goals as goal

pub returns-clause-moved : goal.returns-clause-moved
returns-clause-moved c =
    let filled : c.fill.new.self ≡ replicate c.moved_count-count.result c.self.inside.byte = search rules in
    repeats_moved c.self.inside.byte c.self.inside.left c.moved_count-count.result _ c.args.self.now c.fill.new.self _ _ c.self.view_is c.moved_count-count.ensures filled refl
