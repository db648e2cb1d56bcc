use Rattle.std.proofs.Common.{◌≡◌, ◌∙◌, ℕ, List, [], ap, arith, get_or, subst, sym}
use Rattle.std.specs.Option.{is_some}
use Rattle.std.proofs.lemmas.Bool.{false≢true}
use Rattle.std.proofs.lemmas.List.{append-nil, get_or_default}
use Rattle.ms_unfound.specs.Waiting.{AreCared}
use Rattle.ms_unfound.specs.Watched.{places_at}
use Rattle.ms_unfound.proofs.WaitLaws.{AreCaredBut, cared_next, none_popped, still_when, taken, taken_cared, taken_fits, taken_place}
use Rattle.ms_unfound.proofs.marking.Marking.step.Goals as goal

pub returns-in_default-clause-cared : goal.returns-in_default-clause-cared
returns-in_default-clause-cared c =
    let m = c.args.self.now in
    subst (λ (xs : List ℕ). AreCared c.args.trail.now.entries c.args.part.now.supports (record m { todo = xs })) (c.in_default.ensures.taken ∙ append-nil c.pop.new.self) c.requires.cared

pub returns-in_default-clause-progress : goal.returns-in_default-clause-progress
returns-in_default-clause-progress c =
    still_when c.args.trail.now.entries c.args.part.now.supports c.args.self.now (none_popped c.args.self.now.todo (λ some. false≢true (sym (ap is_some c.in_default.is) ∙ c.pop.ensures.found.1 some))) c.requires.cared

pub loop-support-init : goal.loop-support-init
loop-support-init c =
    let m = c.args.self.now in
    let rest = c.pop.new.self in
    let place = c.in-Some.place in
    let others = c.replace-waiting.new.dest in
    let entries = c.args.trail.now.entries in
    let supports = c.args.part.now.supports in
    let fits = taken_fits m rest place c.in-Some.ensures.taken others c.args.part.now c.requires.under_way.fits in
    let inside = taken_place m rest place c.in-Some.ensures.taken others c.args.part.now c.requires.under_way.fits in
    let list : places_at m.waiting.items place ≡ c.as_slice-support-items.result.now =
    get_or_default m.waiting.items place [] c.index_mut.result.now inside ∙ (sym c.index_mut.ensures.value ∙ (sym c.replace-waiting.ensures.value ∙ sym c.as_slice-support-items.ensures)) in (
      record { fits = fits; marks = c.requires.under_way.marks },
      omega arith,
      subst (AreCaredBut entries supports (taken m rest place c.in-Some.ensures.taken others)) list (taken_cared m rest place c.in-Some.ensures.taken others entries supports c.requires.cared),
    )

pub loop-support-preserved : goal.loop-support-preserved
loop-support-preserved c =
    let list = c.as_slice-support-items.result.now in
    let i = c.loop-support.support-index in
    let made = c.in_ok-look.ensures.goes_on in
    let less = made.less in
    let before = c.loop-support.invariant.1 in (
      made.under_way,
      omega (arith, less, before),
      cared_next c.args.trail.now.entries c.args.part.now.supports c.loop-support.self c.look.new.self list i (get_or list i 0) c.loop-support-test.true
          (get_or_default list i 0 (get_or list i 0) c.loop-support-test.true) made.grows c.in_ok-look.ensures.cared c.loop-support.invariant.2,
    )
