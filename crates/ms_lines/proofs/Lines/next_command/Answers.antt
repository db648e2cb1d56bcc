use Rattle.std.proofs.Common.{None, subst, sym}
use Rattle.ms_lines.specs.Feeding.{item_of, SaysThen}
use Rattle.ms_lines.proofs.LineSteps.{where_err, says_later, end_of_end, no_item, read_on, loses_item, shorter_end}
use Rattle.ms_lines.proofs.Lines.next_command.Goals as goal

pub loop-len-preserved : goal.loop-len-preserved
loop-len-preserved c = record {
  said =
      says_later c.args.self.now c.next_line.new.self c.take_line.new.self None
      (says_later c.args.self.now c.loop-len.self c.next_line.new.self None c.loop-len.invariant.said c.next_line.ensures.said)
      (rw c.in-NotYet.is at c.in_ok-fed.ensures.said);
  kept = end_of_end _ _ _ (end_of_end _ _ _ c.loop-len.invariant.kept c.next_line.ensures.kept) c.in_ok-fed.ensures.kept;
}

pub loop-len-smaller : goal.loop-len-smaller
loop-len-smaller c = shorter_end _ _ _ c.next_line.ensures.kept c.in_ok-fed.ensures.shorter

pub returns-in_err-fed-clause-kept : goal.returns-in_err-fed-clause-kept
returns-in_err-fed-clause-kept c = end_of_end _ _ _ (end_of_end _ _ _ c.loop-len.invariant.kept c.next_line.ensures.kept) c.in_err-fed.ensures.kept

pub returns-in_err-fed-clause-err : goal.returns-in_err-fed-clause-err
returns-in_err-fed-clause-err c =
    where_err c.from_residual.result
    (subst (λ l. SaysThen c.args.self.now None l) (sym c.in_err-fed.ensures.err)
    (says_later c.args.self.now c.loop-len.self c.next_line.new.self None c.loop-len.invariant.said c.next_line.ensures.said))

pub returns-clause-said : goal.returns-clause-said
returns-clause-said c = says_later c.args.self.now c.loop-len.self c.next_line.new.self None c.loop-len.invariant.said c.next_line.ensures.said

pub returns-clause-kept : goal.returns-clause-kept
returns-clause-kept c = end_of_end _ _ _ c.loop-len.invariant.kept c.next_line.ensures.kept

pub returns-in_default-2 : goal.returns-in_default-2
returns-in_default-2 c =
    let here = end_of_end _ _ _ c.loop-len.invariant.kept c.next_line.ensures.kept in
    record {
      said =
          says_later c.args.self.now c.next_line.new.self c.take_line.new.self (item_of c.in_ok-fed.fed)
          (says_later c.args.self.now c.loop-len.self c.next_line.new.self None c.loop-len.invariant.said c.next_line.ensures.said)
          c.in_ok-fed.ensures.said;
      whole = λ none. absurd (c.in_default-2.not-NotYet (no_item c.in_ok-fed.fed none));
      passed = λ none. absurd (c.in_default-2.not-NotYet (no_item c.in_ok-fed.fed none));
      some = c.in_ok-fed.ensures.some;
      kept = end_of_end _ _ _ here c.in_ok-fed.ensures.kept;
      shorter = loses_item c.in_ok-fed.fed _ _ (read_on _ _ _ here c.in_ok-fed.ensures.shorter);
      err = tt;
    }
