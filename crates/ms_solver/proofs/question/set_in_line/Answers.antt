use Rattle.std.proofs.Common.{List, rules, sym, subst}
use Rattle.std.specs.Prelude.{◌↔◌}
use Rattle.std.specs.List.{AllPairs, Contains}
use Rattle.std.proofs.lemmas.List.Filters.{dedup_is}
use Rattle.std.proofs.lemmas.List.Sorted.{IsNonDecreasingBy-from_sort_by_key}
use Rattle.ms_lits.specs.declared.lit.Lit.{Lit}
use Rattle.ms_complete.specs.Lines.{line_place}
use Rattle.ms_complete.specs.Notes.{ComesBefore}
use Rattle.ms_complete.proofs.LineLaws.{line_has_same, line_in_order, lit_eq}
use Rattle.ms_solver.proofs.question.set_in_line.Goals as goal

pub returns-clause-order : goal.returns-clause-order
returns-clause-order c =
    subst (λ (lits : List Lit). AllPairs ComesBefore lits) (sym (dedup_is lit_eq c.sort_unstable_by_key.new.self.items c.dedup.new.self.items c.dedup.ensures.filtered))
    (line_in_order c.sort_unstable_by_key.new.self.items (IsNonDecreasingBy-from_sort_by_key line_place _ c.sort_unstable_by_key.ensures.sorted (λ a r q k. search rules)))

pub returns-clause-same : goal.returns-clause-same
returns-clause-same c =
    subst (λ (lits : List Lit). (l : Lit) → Contains lits l ↔ Contains c.args.lits.now.items l) (sym (dedup_is lit_eq c.sort_unstable_by_key.new.self.items c.dedup.new.self.items c.dedup.ensures.filtered))
    (line_has_same c.args.lits.now.items c.sort_unstable_by_key.new.self.items c.sort_unstable_by_key.ensures.permutation)
