use Rattle.std.proofs.Common.{◌∙◌, ap, subst, arith}
use Rattle.ms_join.specs.Assumptions.{IsMeetingAnswer}
use Rattle.ms_rules.specs.Room.{RuleRoom}
use Rattle.ms_answers.specs.Subsets.{KeepsWhere}
use Rattle.ms_answers.proofs.Listed.{IsStep, AreOver, IsListed-step, fewer_left, length_keeps, EndsAs-complete}
use Rattle.ms_answers.proofs.answer_sets.Goals as goal
use Rattle.ms_answers.proofs.answer_sets.Goals.{in-Some+then-len-asked, in_default, then-len-asked-2, else-len-asked-2}

pub loop-candidate-smaller : goal.loop-candidate-smaller
loop-candidate-smaller c =
    let step : IsStep c.args.atoms c.loop-candidate.candidate c.in_ok-candidate.candidate c.in-Some.set = record { is_candidate = c.in-Some.is; over_base = c.loop-candidate.invariant.over_base; next_place = c.in_ok-candidate.ensures.next } in
    fewer_left c.args.atoms c.loop-candidate.candidate c.in_ok-candidate.candidate c.in-Some.set step

pub loop-candidate-preserved : goal.loop-candidate-preserved
loop-candidate-preserved c =
    let n = c.args.atoms in
    let Is = IsMeetingAnswer n c.args.join.now c.args.assume.now in
    let set = c.in-Some.set in
    let old = c.loop-candidate.sets in
    let new = c.keep_answer.new.sets in
    let invariant = c.loop-candidate.invariant in
    let step : IsStep n c.loop-candidate.candidate c.in_ok-candidate.candidate set = record { is_candidate = c.in-Some.is; over_base = invariant.over_base; next_place = c.in_ok-candidate.ensures.next } in
    let keeps : KeepsWhere (Is set) set old new = subst (λ m. KeepsWhere (IsMeetingAnswer m c.args.join.now c.args.assume.now set) set old new) invariant.room c.in_ok-keep_answer.ensures.kept in
    let over : AreOver n Is = λ other answers. answers.over_base in
    record {
      listed = IsListed-step n Is over c.loop-candidate.candidate c.in_ok-candidate.candidate set old new step invariant.listed keeps;
      over_base = c.in_ok-candidate.ensures.within;
      few = (let more = length_keeps (Is set) set old new keeps in omega arith);
      room = ap (λ (r : RuleRoom). r.atoms) c.keep_answer.ensures.room ∙ invariant.room;
      rules = omega (arith, ap (λ (r : RuleRoom). r.rules) c.keep_answer.ensures.room, invariant.rules);
    }

pub returns-clause-ends : goal.returns-clause-ends
returns-clause-ends c =
    let n = c.args.atoms in
    let Is = IsMeetingAnswer n c.args.join.now c.args.assume.now in
    let over : AreOver n Is = λ other answers. answers.over_base in
    elim c.if-len-asked-2.branch [
      | then-len-asked-2 w ↦ rw w.ending-is (omega arith)
      | else-len-asked-2 w ↦ rw w.ending-is (elim c.match-candidate.branch [ in-Some+then-len-asked v ↦ absurd (omega arith) | in_default v ↦ EndsAs-complete n c.args.asked Is over c.loop-candidate.candidate c.loop-candidate.sets v.in_default.is c.loop-candidate.invariant.listed (omega arith) ])
    ]
