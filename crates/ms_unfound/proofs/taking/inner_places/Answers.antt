use Rattle.std.proofs.Common.{◌∙◌, ◌+◌, ℕ, List, subst, sym, take}
use Rattle.std.specs.Prelude.{◌↔◌}
use Rattle.std.specs.List.{Contains}
use Rattle.std.proofs.lemmas.List.{take_all}
use Rattle.ms_unfound.specs.Taking.{IsInner}
use Rattle.ms_unfound.proofs.SupportLaws.{inner_keep, inner_more}
use Rattle.ms_unfound.proofs.taking.inner_places.Goals as goal
use Rattle.ms_unfound.proofs.taking.inner_places.Goals.{in-Some+in_ok-push, in_default}

pub loop-a-preserved : goal.loop-a-preserved
loop-a-preserved c =
    let m = c.args.members.now in
    let atoms = c.args.atoms.now in
    let i = c.loop-a.a-index in
    elim c.match-inner_place.branch [
      | in-Some+in_ok-push w ↦
          subst (λ (ps : List ℕ). (k : ℕ) → Contains ps k ↔ IsInner m c.args.number (take (i + 1) atoms) k) (sym (w.places-is ∙ w.in_ok-push.ensures.ok))
          (inner_more m c.args.number atoms i c.a-item.result c.loop-a-test.true c.a-item.is c.loop-a.places c.loop-a.invariant w.in-Some.place c.requires.rising w.in-Some.ensures)
      | in_default w ↦
          subst (λ (ps : List ℕ). (k : ℕ) → Contains ps k ↔ IsInner m c.args.number (take (i + 1) atoms) k) (sym w.places-is)
          (inner_keep m c.args.number atoms i c.a-item.result c.loop-a-test.true c.a-item.is c.loop-a.places c.loop-a.invariant w.in_default.ensures)
    ]

pub returns : goal.returns
returns c =
    subst (λ (as' : List ℕ). (k : ℕ) → Contains c.loop-a.places k ↔ IsInner c.args.members.now c.args.number as' k) (take_all c.loop-a.a-index c.args.atoms.now c.loop-a-test.false) c.loop-a.invariant
