use Rattle.std.proofs.Common.{◌∙◌, ◌+◌, subst, sym, take}
use Rattle.std.specs.List.{Contains}
use Rattle.ms_unfound.specs.declared.members.Members.{Members}
use Rattle.ms_unfound.specs.Members.{AreSelected}
use Rattle.ms_unfound.proofs.MemberLaws.{selected_keep, selected_more}
use Rattle.ms_unfound.proofs.members.selected.Goals as goal
use Rattle.ms_unfound.proofs.members.selected.Goals.{in-Some+in_ok-push, in_default}

pub loop-a-preserved : goal.loop-a-preserved
loop-a-preserved c =
    let cone = c.args.cone.now in
    let rounds = c.args.rounds.now in
    let atoms = c.args.atoms.now in
    let i = c.loop-a.a-index in
    elim c.match-number_among.branch [
      | in-Some+in_ok-push w ↦
          subst (λ (m : Members). AreSelected cone (Contains rounds) (take (i + 1) atoms) m) (sym (w.members-is ∙ w.in_ok-push.ensures))
          (selected_more cone (Contains rounds) atoms i c.a-item.result c.loop-a-test.true c.a-item.is c.loop-a.members c.loop-a.invariant w.in-Some.number c.requires.atoms w.in-Some.ensures)
      | in_default w ↦
          subst (λ (m : Members). AreSelected cone (Contains rounds) (take (i + 1) atoms) m) (sym w.members-is)
          (selected_keep cone (Contains rounds) atoms i c.a-item.result c.loop-a-test.true c.a-item.is c.loop-a.members c.loop-a.invariant w.in_default.ensures)
    ]
