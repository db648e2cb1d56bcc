use Rattle.ms_rules.proofs.Sound.{asks_for_head, outside_fails}
use Rattle.ms_rules.proofs.Visits.{HasLookedAtAll, continues_head, waiting_head}
use Rattle.ms_rules.proofs.propagation.Propagation.settle.Goals as goal

pub returns-then-not-is_marked-clause-fails : goal.returns-then-not-is_marked-clause-fails
returns-then-not-is_marked-clause-fails c =
    let join = c.args.join.now in
    let in_set = c.args.in_set.now in
    let k = c.args.number in
    let rule = c.index-as_slice-number.result in
    let h = c.in-Some.head in
    let s = c.args.self.now in
    let read = rw c.as_slice.ensures at c.index-as_slice-number.is in
    λ _. outside_fails join in_set k h rule s c.requires.rule read (asks_for_head join in_set k h rule s c.requires.rule read c.requires.looked (cc) c.in-Some.ensures c.requires.sound) (cc) c.requires.sound

pub returns-clause-kept : goal.returns-clause-kept
returns-clause-kept c =
    let all : HasLookedAtAll c.args.join.now c.args.number c.index-as_slice-number.result c.args.self.now = record { short = c.requires.rule; read = rw c.as_slice.ensures at c.index-as_slice-number.is; none = c.requires.looked } in
    continues_head c.args.join.now c.args.in_set.now c.args.number c.in-Some.head c.index-as_slice-number.result c.args.self.now c.mark.new.self all c.in-Some.ensures (cc) c.requires.sound c.mark.ensures

pub returns-clause-waiting : goal.returns-clause-waiting
returns-clause-waiting c =
    let all : HasLookedAtAll c.args.join.now c.args.number c.index-as_slice-number.result c.args.self.now = record { short = c.requires.rule; read = rw c.as_slice.ensures at c.index-as_slice-number.is; none = c.requires.looked } in
    λ _ seen before. waiting_head c.args.join.now c.args.in_set.now c.args.number c.in-Some.head c.index-as_slice-number.result c.args.self.now c.mark.new.self all c.in-Some.ensures (cc) c.requires.sound c.mark.ensures seen
