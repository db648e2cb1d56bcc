use Rattle.std.proofs.Common.{◌<◌, ◌≤◌, ◌+◌, ◌∷◌, ◌++◌, [], ℕ, Bool, sym, subst, ap, ◌∙◌, arith}
use Rattle.std.specs.Prelude.{All}
use Rattle.std.specs.List.Sorted.{IsPermutation}
use Rattle.std.proofs.lemmas.List.Sorted.{All-permutation}
use Rattle.ms_lits.specs.declared.lit.Lit.{Lit}
use Rattle.ms_lits.specs.Literals.{Nogood}
use Rattle.ms_lits.specs.Assignment.{Assignment}
use Rattle.ms_lawful.specs.Problems.{Problem}
use Rattle.ms_search.specs.Notes.{learned_kind, note_of}
use Rattle.ms_search.specs.Points.{IsStep}
use Rattle.ms_search.specs.Engines.{point_of}
use Rattle.ms_search.proofs.Moves.{decisions_refuted, none_decided, over_complete, over_cut}
use Rattle.ms_search.proofs.Rounds.{learned_other, learned_step, line_same, point_same, present_at, ready_taken, takes_same}
use Rattle.ms_search.proofs.engine.Engine.conflict.Goals as goal

pub returns-then-level-eq0-clause-round : goal.returns-then-level-eq0-clause-round
returns-then-level-eq0-clause-round g c =
    let p = c.requires.point in
    over_complete g.K.Target.problem (point_of c.args.self.now c.args.store.now c.args.log.now) p.covered p.logged
    (decisions_refuted c.args.store.now c.args.self.now.trail.entries g.K.Target.problem.start c.args.key p.trail.reasoned
    (none_decided g.K.Target.problem c.args.self.now.trail c.args.self.now.decisions.items c.args.store.now g.K.Target.problem.start p.trail (sym c.level.ensures ∙ c.if-level-eq0.true))
    c.requires.whole)

pub returns-then-log-ask-clause-round : goal.returns-then-log-ask-clause-round
returns-then-log-ask-clause-round g c =
    let p = c.requires.point in
    over_cut g.K.Target.problem (point_of c.args.self.now c.args.store.now c.args.log.now) p.covered p.logged (c.if-log-ask.true ∙ sym c.requires.limit)

pub analyze-requires-clause-present : goal.analyze-requires-clause-present
analyze-requires-clause-present g c =
    let some : 1 ≤ c.args.self.now.trail.level = let is = c.level.ensures in let other = c.if-level-eq0.false in omega (arith, is, other) in
    present_at g.K.Target.problem c.args.self.now.trail c.args.self.now.decisions.items c.args.store.now c.args.key c.requires.point.trail some c.requires.whole

pub take-requires-clause-room : goal.take-requires-clause-room
take-requires-clause-room g c =
    let room = c.in_ok-learned.ensures.room in
    let sorted = All-permutation (λ (l : Lit). l.var < c.args.self.now.trail.room) c.into_vec.result.items c.in_order-lits.result.items c.in_order-lits.ensures.permutation
    (subst (All (λ (l : Lit). l.var < c.args.self.now.trail.room)) (sym c.into_vec.ensures) room) in
    subst (All (λ (l : Lit). l.var < c.args.self.now.trail.room)) (sym c.as_slice-3.ensures.value) sorted

pub returns-clause-round : goal.returns-clause-round
returns-clause-round g c =
    let problem : Problem = g.K.Target.problem in
    let a : Assignment = c.args.self.now.trail in
    let b : Assignment = c.take.new.self.trail in
    let learned = c.in_ok-learned.ensures in
    let label : Bool = c.in_ok-learned.learned.temporary in
    let sorted : Nogood = c.in_order-lits.result.items in
    let x = takes_same a b c.args.self.now.decisions.items c.take.new.self.decisions.items c.args.store.now c.take.new.store c.as_slice-3.result.now sorted c.kind_of-kind.result (learned_kind label) c.as_slice-3.ensures.value c.kind_of-kind.ensures c.in_ok-take.ensures.takes_in in
    let step = learned_step problem a b c.args.self.now.decisions.items c.take.new.self.decisions.items c.args.store.now c.take.new.store c.args.log.now.lines.items c.args.log.now.spent c.args.log.now.answers c.in_ok-learned.learned.lits sorted c.in_ok-learned.learned.back c.args.key label c.requires.point learned.whole learned.asserting learned.back
    (subst (λ (ls : Nogood). IsPermutation ls sorted) c.into_vec.ensures c.in_order-lits.ensures.permutation) c.in_order-lits.ensures.rising learned.refuted learned.lasting learned.temporary
    (λ same. c.if-log-ask.false (same ∙ c.requires.limit)) x in
    let logged = c.in_ok-nogood.ensures in
    subst (IsStep problem (point_of c.args.self.now c.args.store.now c.args.log.now))
    (sym (point_same b c.take.new.self.decisions.items c.take.new.store c.nogood.new.self.lines.items (c.args.log.now.lines.items ++ note_of (learned_kind label) sorted ∷ []) (c.nogood.new.self.spent + 1) (c.args.log.now.spent + 1) c.nogood.new.self.answers c.args.log.now.answers
    (logged.lines ∙ line_same c.args.log.now.lines.items c.as_slice-2.result.now sorted c.kind_of-kind.result (learned_kind label) c.as_slice-2.ensures.value c.kind_of-kind.ensures)
    (ap (λ (n : ℕ). n + 1) logged.spent) logged.answers))
    step

pub returns-clause-ready : goal.returns-clause-ready
returns-clause-ready g c =
    let label : Bool = c.in_ok-learned.learned.temporary in
    ready_taken g.K.Target.problem g.K.Target.begun c.args.self.now.trail c.take.new.self.trail c.args.self.now.decisions.items c.take.new.self.decisions.items c.args.store.now c.take.new.store c.as_slice-3.result.now c.kind_of-kind.result
    (g.P.Propagate.attached c.args.self.now.propagation) (g.P.Propagate.attached c.take.new.self.propagation)
    (g.P.Propagate.InStep c.args.self.now.propagation c.args.store.now c.args.self.now.trail) (g.P.Propagate.InStep c.take.new.self.propagation c.take.new.store c.take.new.self.trail)
    (g.T.Theory.Seen c.args.theory.now) (g.T.Theory.Seen c.take.new.theory)
    (g.T.Theory.vars c.args.theory.now) (g.T.Theory.vars c.take.new.theory)
    (g.T.Theory.leans_on c.args.theory.now) (g.T.Theory.leans_on c.take.new.theory)
    (g.T.Theory.Gives c.args.theory.now) (g.T.Theory.Gives c.take.new.theory)
    (g.T.Theory.Settled c.args.theory.now) (g.T.Theory.Settled c.take.new.theory)
    c.requires.ready c.in_ok-take.ensures.takes_in (λ same. learned_other label (sym c.kind_of-kind.ensures ∙ same)) c.in_ok-take.ensures.wired c.in_ok-take.ensures.in_step c.in_ok-take.ensures.seen c.in_ok-take.ensures.means
