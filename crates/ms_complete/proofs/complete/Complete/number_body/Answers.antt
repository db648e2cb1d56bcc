use Rattle.std.proofs.Common.{subst, sym, List, ℕ}
use Rattle.std.specs.List.{All, Contains}
use Rattle.ms_join.specs.Things.Thing.{atom}
use Rattle.ms_complete.specs.Numbering.{IsAtomOf}
use Rattle.ms_complete.proofs.NumberLaws.{all_stay, body_declared, body_number, parts_there}
use Rattle.ms_complete.proofs.complete.Complete.number_body.Goals as goal

pub number-requires : goal.number-requires
number-requires c part made =
    parts_there c.declare-2.new.self.things c.in_ok-pos.pos c.in_ok-neg.neg
    (subst (λ (ps : List ℕ). All (λ a. Contains c.declare-2.new.self.things (atom a)) ps) (sym c.in_ok-pos.ensures)
    (all_stay c.declare.new.self c.declare-2.new.self (IsAtomOf c.args.neg.now) c.in_ok-declare-2.ensures.declares c.args.pos.now c.in_ok-declare.ensures.all))
    (subst (λ (ps : List ℕ). All (λ a. Contains c.declare-2.new.self.things (atom a)) ps) (sym c.in_ok-neg.ensures) c.in_ok-declare-2.ensures.all) part made

pub returns-clause-declares : goal.returns-clause-declares
returns-clause-declares c =
    body_declared c.args.self.now c.declare.new.self c.declare-2.new.self c.number.new.self c.args.pos.now c.args.neg.now c.in_ok-pos.pos c.in_ok-neg.neg c.in_ok-number.number
    c.in_ok-pos.ensures c.in_ok-neg.ensures c.in_ok-declare.ensures.declares c.in_ok-declare-2.ensures.declares c.in_ok-number.ensures

pub returns-clause-number : goal.returns-clause-number
returns-clause-number c =
    body_number c.declare-2.new.self c.number.new.self c.args.pos.now c.args.neg.now c.in_ok-pos.pos c.in_ok-neg.neg c.in_ok-number.number c.in_ok-pos.ensures c.in_ok-neg.ensures c.in_ok-number.ensures
