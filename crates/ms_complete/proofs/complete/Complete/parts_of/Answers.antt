use Rattle.std.proofs.Common.{◌++◌, List, [], sym, subst, true, false}
use Rattle.std.proofs.lemmas.List.{append-nil}
use Rattle.ms_lits.specs.declared.lit.Lit.{Lit}
use Rattle.ms_things.specs.Signs.{Signed, IsFor}
use Rattle.ms_complete.specs.Rules.{signed_atoms}
use Rattle.ms_complete.specs.Sets.{Match}
use Rattle.ms_complete.proofs.NumberLaws.{match_none}
use Rattle.ms_complete.proofs.complete.Complete.parts_of.Goals as goal

pub returns : goal.returns
returns c =
    let things = c.args.self.now.things in
    let start : Match (IsFor things) [] c.new-lits.result.items = subst (λ (ls : List Lit). Match (IsFor things) [] ls) (sym c.new-lits.ensures.items) (match_none (IsFor things)) in
    subst (λ (ss : List Signed). Match (IsFor things) ss c.push_lits-2.new.lits.items) (sym (append-nil (signed_atoms true c.args.pos.now ++ signed_atoms false c.args.neg.now)))
    (c.in_ok-push_lits-2.ensures (signed_atoms true c.args.pos.now) (c.in_ok-push_lits.ensures [] start))
