use Rattle.std.proofs.Common.{◌≡◌, ◌<◌, ap, arith, refl, subst, ◌∙◌, sym}
use Rattle.std.specs.Prelude.{All}
use Rattle.std.proofs.lemmas.List.Elements.{All-contains}
use Rattle.ms_lits.specs.declared.lit.Lit.{Lit}
use Rattle.ms_lits.specs.Assignment.{IsUnitIn, entry_of}
use Rattle.ms_nogood.specs.Store.{nogood_at}
use Rattle.ms_lits.proofs.Seen.{unassigned_entry}
use Rattle.ms_nogood.proofs.Propagation.{stored_read, propagates_none, propagates_one}
use Rattle.ms_nogood.proofs.nogoods.Nogoods.visit.Goals as goal

pub read_nogood-requires : goal.read_nogood-requires
read_nogood-requires c =
    let r = stored_read (nogood_at c.args.self.now c.args.key) c.in-Some.lits.now c.in-Some.ensures in
    subst (All (λ (l : Lit). l.var < c.args.trail.now.room)) r.same (c.requires c.args.key r.stored r.found)

pub assign-requires : goal.assign-requires
assign-requires c =
    let r = stored_read (nogood_at c.args.self.now c.args.key) c.in-Some.lits.now c.in-Some.ensures in
    let within = subst (All (λ (l : Lit). l.var < c.args.trail.now.room)) r.same (c.requires c.args.key r.stored r.found) in
    let unit : IsUnitIn c.args.trail.now.entries c.in-Some.lits.now c.in-Open.lit = c.in-Open.ensures in
    let var : c.opposite.result.var ≡ c.in-Open.lit.var = ap (λ (l : Lit). l.var) c.opposite.ensures in
    let below : c.in-Open.lit.var < c.args.trail.now.room = All-contains (λ (l : Lit). l.var < c.args.trail.now.room) c.in-Some.lits.now c.in-Open.lit within unit.contained in
    record {
      room = omega arith;
      unassigned = ap (entry_of c.args.trail.now.entries) var ∙ unassigned_entry (entry_of c.args.trail.now.entries c.in-Open.lit.var) unit.unassigned;
    }

pub returns-in_default-clause-propagates : goal.returns-in_default-clause-propagates
returns-in_default-clause-propagates c = propagates_none c.args.self.now c.args.trail.now c.args.trail.now refl

pub returns-in-Whole-clause-propagates : goal.returns-in-Whole-clause-propagates
returns-in-Whole-clause-propagates c = propagates_none c.args.self.now c.args.trail.now c.args.trail.now refl

pub returns-in-Open-clause-propagates : goal.returns-in-Open-clause-propagates
returns-in-Open-clause-propagates c =
    let r = stored_read (nogood_at c.args.self.now c.args.key) c.in-Some.lits.now c.in-Some.ensures in
    let unit = subst (λ lits. IsUnitIn c.args.trail.now.entries lits c.in-Open.lit) (sym r.same) c.in-Open.ensures in
    propagates_one c.args.self.now c.args.trail.now c.assign.new.self c.args.key r.stored c.in-Open.lit c.opposite.result r.found unit c.opposite.ensures c.assign.ensures

pub returns-in-Calm-clause-propagates : goal.returns-in-Calm-clause-propagates
returns-in-Calm-clause-propagates c = propagates_none c.args.self.now c.args.trail.now c.args.trail.now refl
