use Rattle.std.proofs.Common.{◌<◌, ◌∙◌, List, ℕ, length, subst, sym, Contains}
use Rattle.std.specs.List.{All}
use Rattle.ms_join.specs.Composability.{IsLeast}
use Rattle.ms_join.specs.Modules.{IsOutput}
use Rattle.ms_module.specs.Names.{names_of}
use Rattle.ms_module.proofs.ConeLoops.{those_within}
use Rattle.ms_module.proofs.Verdicts.{first_redefined, none_redefined}
use Rattle.ms_module.proofs.join.Join.first_redefined.Goals as goal

pub least-requires-clause-within : goal.least-requires-clause-within
least-requires-clause-within c =
    subst (λ (xs : List ℕ). All (λ a. a < length c.args.base.now) xs) (sym c.as_slice-2.ensures.value)
    (those_within (length c.args.base.now) c.as_slice.result.now c.in_ok-redefined.redefined.items (IsOutput c.args.self.now)
    (subst (λ (xs : List ℕ). All (λ a. a < length c.args.base.now) xs) (sym c.as_slice.ensures) c.requires.heads) c.in_ok-redefined.ensures)

pub returns-in-Some : goal.returns-in-Some
returns-in-Some c =
    first_redefined (names_of c.args.terms.now c.args.base.now) c.args.self.now c.args.m.now c.as_slice.result.now c.in_ok-redefined.redefined.items c.in-Some.atom
    c.in_ok-redefined.ensures c.as_slice.ensures (subst (λ (xs : List ℕ). IsLeast (names_of c.args.terms.now c.args.base.now) (Contains xs) c.in-Some.atom) c.as_slice-2.ensures.value c.in-Some.ensures)

pub returns : goal.returns
returns c =
    none_redefined c.args.self.now c.args.m.now c.as_slice.result.now c.in_ok-redefined.redefined.items
    c.in_ok-redefined.ensures c.as_slice.ensures (sym c.as_slice-2.ensures.value ∙ c.in-None.ensures)
