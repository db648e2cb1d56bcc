use Rattle.std.proofs.Common.{arith}
use Rattle.ms_instances.specs.Listing.{said_of}
use Rattle.ms_instances.proofs.Adding.{adds_none, adds_one, instance_given, none_given}
use Rattle.ms_instances.proofs.listing.add_copy.Goals as goal

pub returns-in_ok-push-clause-ok : goal.returns-in_ok-push-clause-ok
returns-in_ok-push-clause-ok c =
    let old = c.args.terms.now in
    let new = c.instance_of.new.terms in
    let given = instance_given old new (said_of c.args.rule.now c.args.chosen.now) c.in_ok-instance.field-0 c.in-Some.instance c.in_ok-instance.ensures c.in-Some.is in
    adds_one old new c.args.list.now.items c.push.new.self.items (said_of c.args.rule.now c.args.chosen.now) c.in-Some.instance c.requires.named
    (omega arith)
    c.in_ok-instance.ensures.keeps given.0 given.1 c.in_ok-push.ensures.items

pub returns-in_default-clause-ok : goal.returns-in_default-clause-ok
returns-in_default-clause-ok c =
    let old = c.args.terms.now in
    let new = c.instance_of.new.terms in
    let said = said_of c.args.rule.now c.args.chosen.now in
    adds_none old new c.args.list.now.items said c.requires.named c.requires.few c.in_ok-instance.ensures.keeps
    (none_given old new said c.in_ok-instance.field-0 c.in_ok-instance.ensures c.in_default.is)
