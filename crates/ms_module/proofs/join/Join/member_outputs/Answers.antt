use Rattle.std.proofs.Common.{◌≤◌, ◌↔◌, IsTrue, ℕ, subst}
use Rattle.ms_module.proofs.Chosen.{those_pushed, those_passed, those_whole}
use Rattle.ms_join.specs.Modules.{Join, IsOutput}
use Rattle.std.proofs.lemmas.Option.{slice_get_within, get_or_from_slice_get}
use Rattle.std.proofs.Common.{sym}
use Rattle.ms_module.proofs.join.Join.member_outputs.Goals as goal
use Rattle.ms_module.proofs.join.Join.member_outputs.Goals.{then-is_output+in_ok-push, else-is_output}

pub loop-place-preserved : goal.loop-place-preserved
loop-place-preserved c =
    elim c.if-is_output.branch [
      | then-is_output+in_ok-push w ↦
          those_pushed c.args.cone.now.members (IsOutput c.args.self.now) c.loop-place.place c.member-a.result c.loop-place.found w.push.new.self c.if-is_output.found
          w.found-is w.in_ok-push.ensures.items c.loop-place.invariant (slice_get_within c.args.cone.now.members c.loop-place.place c.member-a.result c.member-a.ensures) (sym (get_or_from_slice_get c.args.cone.now.members c.loop-place.place c.member-a.result c.member-a.result c.member-a.ensures)) ((subst (λ (j : Join). IsTrue c.is_output.result ↔ IsOutput j c.member-a.result) c.self.view_is c.is_output.ensures).0 w.if-is_output.true)
      | else-is_output w ↦
          those_passed c.args.cone.now.members (IsOutput c.args.self.now) c.loop-place.place c.member-a.result c.loop-place.found c.if-is_output.found _
          w.found-is c.loop-place.invariant (slice_get_within c.args.cone.now.members c.loop-place.place c.member-a.result c.member-a.ensures) (sym (get_or_from_slice_get c.args.cone.now.members c.loop-place.place c.member-a.result c.member-a.result c.member-a.ensures)) (subst (λ (j : Join). IsTrue c.is_output.result ↔ IsOutput j c.member-a.result) c.self.view_is c.is_output.ensures) w.if-is_output.false
    ]

pub returns : goal.returns
returns c = those_whole c.args.cone.now.members c.loop-place.found.items (IsOutput c.args.self.now) c.loop-place.place
    (subst (λ (n : ℕ). n ≤ c.loop-place.place) c.len-place-end.ensures c.loop-place-test.false) c.loop-place.invariant
