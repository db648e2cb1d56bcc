use Rattle.std.proofs.Common.{length, sym, arith}
use Rattle.ms_term.proofs.Orders.{both_passed, both_differ, AllBelow-first, AllBelow-rest, tail_is, different_names, same_names, rests_equally_long}
use Rattle.ms_term.proofs.terms.Terms.compare_arguments.Goals as goal

pub returns-then-ne : goal.returns-then-ne
returns-then-ne c = λ n below.
    let ts = c.args.self.now in
    let i = c.loop-rest.invariant in
    let apart = different_names c.first-item.result c.other-item.result (sym c.if-ne.ensures) in
    record {
      below = AllBelow-first n c.loop-rest.rest.now c.first-item.result (omega (arith, c.in-len1-up.len_at_least)) c.first-item.is (i.below n below);
      within = AllBelow-first (length ts) c.loop-rest.others_rest.now c.other-item.result (omega (arith, c.in-len1-up-others_rest.len_at_least)) c.other-item.is i.others_within;
      same = both_differ ts c.loop-rest.rest.now c.loop-rest.others_rest.now c.first-item.result c.other-item.result _
          (omega (arith, c.in-len1-up.len_at_least)) (omega (arith, c.in-len1-up-others_rest.len_at_least)) c.first-item.is c.other-item.is apart i.different i.within i.others_within i.same;
    }

pub loop-rest-preserved : goal.loop-rest-preserved
loop-rest-preserved c =
    let ts = c.args.self.now in
    let i = c.loop-rest.invariant in
    let names = same_names c.first-item.result c.other-item.result (sym c.if-ne.ensures) in
    rw (tail_is c.loop-rest.rest.now, tail_is c.loop-rest.others_rest.now) (record {
      same = both_passed ts c.loop-rest.rest.now c.loop-rest.others_rest.now c.first-item.result c.other-item.result _
          (omega (arith, c.in-len1-up.len_at_least)) (omega (arith, c.in-len1-up-others_rest.len_at_least)) c.first-item.is c.other-item.is names i.same;
      within = AllBelow-rest (length ts) c.loop-rest.rest.now i.within;
      others_within = AllBelow-rest (length ts) c.loop-rest.others_rest.now i.others_within;
      equally_long = rests_equally_long c.loop-rest.rest.now c.loop-rest.others_rest.now i.equally_long;
      below = λ n below. AllBelow-rest n c.loop-rest.rest.now (i.below n below);
      different = i.different;
    })
