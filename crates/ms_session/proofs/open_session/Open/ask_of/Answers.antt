use Rattle.std.proofs.Common.{◌∙◌, ap}
use Rattle.ms_session.specs.Opened.{state_in}
use Rattle.ms_session.proofs.Gathering.{is_ask}
use Rattle.ms_session.proofs.open_session.Open.ask_of.Goals as goal

pub returns-clause-asks : goal.returns-clause-asks
returns-clause-asks c =
    is_ask (state_in c.args.self.now) c.args.assume.now c.as_slice.result.now c.in_ok-lits.lits.items c.add_assumed.new.lits.items c.each_once.new.lits.items c.from_vec.result
    (c.as_slice.ensures ∙ ap (λ r. r.inputs) c.rules.ensures.value) c.in_ok-lits.ensures c.in_ok-impossible.ensures.adds c.each_once.ensures c.from_vec.ensures
    c.args.count c.args.limit c.in_ok-impossible.impossible c.in_ok-impossible.ensures.impossible
