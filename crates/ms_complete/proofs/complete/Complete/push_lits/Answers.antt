use Rattle.std.proofs.Common.{◌++◌, List, ℕ, sym, subst}
use Rattle.std.specs.List.{Contains}
use Rattle.std.proofs.lemmas.List.{append-nil, take_all}
use Rattle.std.proofs.lemmas.List.Elements.{All-contains}
use Rattle.ms_join.specs.Things.Thing.{atom}
use Rattle.ms_things.specs.Signs.{Signed, IsFor}
use Rattle.ms_complete.specs.Rules.{signed_atoms}
use Rattle.ms_complete.specs.Sets.{Match}
use Rattle.ms_complete.proofs.BodyLaws.{signs_next}
use Rattle.ms_complete.proofs.complete.Complete.push_lits.Goals as goal

pub thing_of-var-requires : goal.thing_of-var-requires
thing_of-var-requires c = All-contains (λ a. Contains c.args.self.now.things (atom a)) c.args.atoms.now c.a-item.result c.requires (c.loop-a.a-index, c.loop-a-test.true, sym c.a-item.is)

pub loop-a-init : goal.loop-a-init
loop-a-init c signs paired = subst (λ (ss : List Signed). Match (IsFor c.args.self.now.things) ss c.args.lits.now.items) (sym (append-nil signs)) paired

pub loop-a-preserved : goal.loop-a-preserved
loop-a-preserved c signs paired =
    signs_next c.args.self.now.things c.args.truth c.args.atoms.now signs c.loop-a.lits.items c.push.new.self.items c.loop-a.a-index c.a-item.result c.thing_of-var.result c.loop-a-test.true c.a-item.is
    c.thing_of-var.ensures (c.loop-a.invariant signs paired) c.in_ok-push.ensures.items

pub returns : goal.returns
returns c signs paired =
    subst (λ (atoms : List ℕ). Match (IsFor c.args.self.now.things) (signs ++ signed_atoms c.args.truth atoms) c.loop-a.lits.items) (take_all c.loop-a.a-index c.args.atoms.now c.loop-a-test.false) (c.loop-a.invariant signs paired)
