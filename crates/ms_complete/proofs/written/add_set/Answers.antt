use Rattle.std.proofs.Common.{Option, Vec, Global, rules, subst}
use Rattle.std.specs.Prelude.{MatchOption}
use Rattle.std.proofs.lemmas.List.Sorted.{IsNonDecreasingBy-from_sort_by_key}
use Rattle.ms_lits.specs.declared.lit.Lit.{Lit}
use Rattle.ms_lits.specs.Literals.{Nogood}
use Rattle.ms_complete.specs.Sets.{Writes}
use Rattle.ms_complete.proofs.WritingSteps.{set_added, none_written}
use Rattle.ms_complete.proofs.written.add_set.Goals as goal

pub written-requires : goal.written-requires
written-requires c = IsNonDecreasingBy-from_sort_by_key (λ (l : Lit). l.var) _ c.sort_unstable_by_key.ensures.sorted (λ a r q k. search rules)

pub returns-in-None : goal.returns-in-None
returns-in-None c =
    none_written c.args.lits.now c.sort_unstable_by_key.new.self c.args.store.now c.sort_unstable_by_key.ensures.permutation
    (subst (λ (found : Option (Vec Lit Global)). MatchOption found ((n : Nogood) → ¬ Writes c.sort_unstable_by_key.new.self n) (λ v. Writes c.sort_unstable_by_key.new.self v.items)) c.in-None.is c.in_ok-written.ensures)

pub returns-in_ok-add-in-Some : goal.returns-in_ok-add-in-Some
returns-in_ok-add-in-Some c =
    set_added c.args.lits.now c.sort_unstable_by_key.new.self c.in-Some.nogood.items c.as_slice.result.now c.in_ok-add-in-Some.field-0 c.args.store.now c.add.new.self
    c.sort_unstable_by_key.ensures.permutation c.as_slice.ensures.value
    (subst (λ (found : Option (Vec Lit Global)). MatchOption found ((n : Nogood) → ¬ Writes c.sort_unstable_by_key.new.self n) (λ v. Writes c.sort_unstable_by_key.new.self v.items)) c.in-Some.is c.in_ok-written.ensures)
    c.in_ok-add-in-Some.ensures.added
