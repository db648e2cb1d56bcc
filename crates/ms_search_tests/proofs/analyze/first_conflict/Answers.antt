use Rattle.std.proofs.Common.{◌∙◌, ap, arith, sym, subst}
use Rattle.std.proofs.lemmas.Grind.{common_steps}
use Rattle.ms_lits.specs.Assignment.{Assignment}
use Rattle.ms_refutation.specs.Sets.{AreReasoned}
use Rattle.ms_analyze.proofs.Reasoned.{reasoned_none}
use Rattle.ms_search_tests.proofs.analyze.first_conflict.Goals as goal

pub loop-lit-init : goal.loop-lit-init
loop-lit-init c =
    let grown = c.in_ok-grow.ensures.ok in
    record {
      room = grind (arith, common_steps);
      reasons = subst (AreReasoned c.args.store.now) (sym (ap (λ (a : Assignment). a.entries) grown ∙ c.new-trail.ensures.entries)) (reasoned_none c.args.store.now);
    }
