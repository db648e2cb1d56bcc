use Rattle.std.proofs.Common.{◌<◌, ap, sym, ◌∙◌, arith}
use Rattle.ms_join.specs.declared.ground_rule.GroundRule.{GroundRule}
use Rattle.ms_rules.proofs.Visits.{Continues-trans, Looks, Pushes, continues_looks, continues_pushes, fewer_left, looked_at_all, waiting_looks, waiting_pushes}
use Rattle.ms_rules.proofs.propagation.Propagation.visit.Goals as goal

pub returns-then-left-eq0-clause-kept : goal.returns-then-left-eq0-clause-kept
returns-then-left-eq0-clause-kept c =
    let looks : Looks c.args.join.now c.args.number c.look-left.result c.index-as_slice-number.result c.as_slice-atoms.result.now c.args.self.now c.look-left.new.self = record { short = c.requires.rule; read = rw c.as_slice.ensures at c.index-as_slice-number.is; atoms_are = c.as_slice-atoms.ensures ∙ ap (λ (r : GroundRule). r.pos) (sym c.index-as_slice-number.is); stuck = c.look-left.ensures.stuck; is = c.look-left.ensures.left } in
    Continues-trans c.args.join.now c.args.in_set.now c.args.self.now c.look-left.new.self c.settle.new.self (continues_looks c.args.join.now c.args.in_set.now c.args.number c.look-left.result c.index-as_slice-number.result c.as_slice-atoms.result.now c.args.self.now c.look-left.new.self looks c.requires.sound) c.settle.ensures.kept

pub returns-then-left-eq0-clause-waiting : goal.returns-then-left-eq0-clause-waiting
returns-then-left-eq0-clause-waiting c =
    let looks : Looks c.args.join.now c.args.number c.look-left.result c.index-as_slice-number.result c.as_slice-atoms.result.now c.args.self.now c.look-left.new.self = record { short = c.requires.rule; read = rw c.as_slice.ensures at c.index-as_slice-number.is; atoms_are = c.as_slice-atoms.ensures ∙ ap (λ (r : GroundRule). r.pos) (sym c.index-as_slice-number.is); stuck = c.look-left.ensures.stuck; is = c.look-left.ensures.left } in
    λ kept seen before w. c.settle.ensures.waiting kept seen before (waiting_looks c.args.join.now c.args.in_set.now c.args.number c.look-left.result seen c.index-as_slice-number.result c.as_slice-atoms.result.now c.args.self.now c.look-left.new.self looks w)

pub returns-clause-kept : goal.returns-clause-kept
returns-clause-kept c =
    let looks : Looks c.args.join.now c.args.number c.look-left.result c.index-as_slice-number.result c.as_slice-atoms.result.now c.args.self.now c.look-left.new.self = record { short = c.requires.rule; read = rw c.as_slice.ensures at c.index-as_slice-number.is; atoms_are = c.as_slice-atoms.ensures ∙ ap (λ (r : GroundRule). r.pos) (sym c.index-as_slice-number.is); stuck = c.look-left.ensures.stuck; is = c.look-left.ensures.left } in
    let some : 0 < c.look-left.result = omega arith in
    let pushes : Pushes c.args.number c.look-left.result c.index-atoms-left.result c.as_slice-atoms.result.now c.look-left.new.self c.push.new.self = record { some = some; at = c.index-atoms-left.is; is = c.push.ensures } in
    continues_pushes c.args.join.now c.args.in_set.now c.args.number c.look-left.result c.index-atoms-left.result c.index-as_slice-number.result c.as_slice-atoms.result.now c.args.self.now c.look-left.new.self c.push.new.self looks pushes c.requires.sound

pub returns-clause-waiting : goal.returns-clause-waiting
returns-clause-waiting c =
    let looks : Looks c.args.join.now c.args.number c.look-left.result c.index-as_slice-number.result c.as_slice-atoms.result.now c.args.self.now c.look-left.new.self = record { short = c.requires.rule; read = rw c.as_slice.ensures at c.index-as_slice-number.is; atoms_are = c.as_slice-atoms.ensures ∙ ap (λ (r : GroundRule). r.pos) (sym c.index-as_slice-number.is); stuck = c.look-left.ensures.stuck; is = c.look-left.ensures.left } in
    let some : 0 < c.look-left.result = omega arith in
    let pushes : Pushes c.args.number c.look-left.result c.index-atoms-left.result c.as_slice-atoms.result.now c.look-left.new.self c.push.new.self = record { some = some; at = c.index-atoms-left.is; is = c.push.ensures } in
    λ _. waiting_pushes c.args.join.now c.args.in_set.now c.args.number c.look-left.result c.index-atoms-left.result c.index-as_slice-number.result c.as_slice-atoms.result.now c.args.self.now c.look-left.new.self c.push.new.self looks pushes c.requires.sound
