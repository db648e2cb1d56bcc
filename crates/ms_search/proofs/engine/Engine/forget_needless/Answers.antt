use Rattle.std.proofs.Common.{List, sym, subst, ◌∙◌}
use Rattle.ms_lits.specs.declared.lit.Lit.{Lit}
use Rattle.ms_lits.specs.declared.note.Note.{Note}
use Rattle.ms_lits.specs.Assignment.{Assignment}
use Rattle.ms_lawful.specs.Problems.{Problem}
use Rattle.ms_search.specs.Points.{IsPoint}
use Rattle.ms_search.proofs.Moves.{point_made}
use Rattle.ms_search.proofs.Forgotten.{ending_within, goes_on_forgotten, newest_still, point_forgotten}
use Rattle.ms_search.proofs.engine.Engine.forget_needless.Goals as goal

pub is_needless-requires-clause-within : goal.is_needless-requires-clause-within
is_needless-requires-clause-within g c = λ s found ending. ending_within g.K.Target.problem c.loop-key.self.trail c.loop-key.self.decisions.items c.loop-key.store c.loop-key.log.lines.items c.loop-key.log.spent c.loop-key.log.answers c.in-Some.key s c.loop-key.invariant.point found ending

pub loop-key-preserved : goal.loop-key-preserved
loop-key-preserved g c =
    let problem : Problem = g.K.Target.problem in
    let i = c.loop-key.invariant in
    let f = c.forget.ensures in
    let a : Assignment = c.loop-key.self.trail in
    let ds : List Lit = c.loop-key.self.decisions.items in
    let lines : List Note = c.loop-key.log.lines.items in
    let needless = c.is_needless.ensures c.if-not-is_needless.false in
    let point = point_forgotten problem a ds c.loop-key.store c.forget.new.store lines c.loop-key.log.spent c.loop-key.log.answers c.args.newest c.in-Some.key c.args.own.now i.point f.drops needless i.newest in
    record {
      point = subst (λ (t : Assignment). IsPoint problem (point_made t c.forget.new.self.decisions.items c.forget.new.store lines c.loop-key.log.spent c.loop-key.log.answers)) (sym f.trail)
          (subst (λ (ls : List Lit). IsPoint problem (point_made a ls c.forget.new.store lines c.loop-key.log.spent c.loop-key.log.answers)) (sym f.decisions) point);
      goes_on = goes_on_forgotten g.K.Target.begun c.loop-key.store c.forget.new.store c.in-Some.key i.goes_on f.drops needless.ending;
      newest = newest_still c.loop-key.store c.forget.new.store a.entries c.args.newest c.in-Some.key c.args.own.now f.drops needless i.newest;
      wired = f.wired;
      in_step = f.in_step;
      trail = f.trail ∙ i.trail;
      lines = i.lines;
    }
