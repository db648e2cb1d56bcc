use Rattle.std.proofs.Common.{◌<◌, ◌++◌, ◌∙◌, ℕ, List, Option, subst, sym}
use Rattle.std.specs.List.{All}
use Rattle.std.proofs.lemmas.Option.{MatchOption-at_some, MatchOption-at_none}
use Rattle.ms_join.specs.declared.ground_rule.GroundRule.{GroundRule}
use Rattle.ms_join.specs.Composability.{IsLeast, IsRedefined}
use Rattle.ms_module.specs.declared.loops.CrossLoop.{CrossLoop}
use Rattle.ms_module.specs.Faults.{FindsLoop}
use Rattle.ms_module.specs.Names.{names_of}
use Rattle.ms_module.specs.Bodies.{ArePlain}
use Rattle.ms_module.proofs.Verdicts.{is_many, is_few, first_loop, composable}
use Rattle.ms_module.proofs.join.Join.fault.Goals as goal

pub first_redefined-requires-clause-heads : goal.first_redefined-requires-clause-heads
first_redefined-requires-clause-heads c = subst (λ (n : ℕ). All (λ a. a < n) c.args.m.now.heads) (sym c.requires.base) c.requires.well_formed.heads.within

pub returns-then-is_many : goal.returns-then-is_many
returns-then-is_many c =
    is_many c.args.self.now c.args.m.now c.len.result c.as_slice.result.now c.in_ok-is_many.is_many c.in_ok-is_many.ensures.tells (c.len.ensures ∙ c.requires.base) c.as_slice.ensures c.if-is_many.true

pub returns-in-Some : goal.returns-in-Some
returns-in-Some c = record {
  few = (is_few c.args.self.now c.args.m.now c.len.result c.as_slice.result.now c.in_ok-is_many.is_many c.in_ok-is_many.ensures.tells (c.len.ensures ∙ c.requires.base) c.as_slice.ensures c.if-is_many.false);
  redefined = MatchOption-at_some ((h : ℕ) → ¬ IsRedefined c.args.self.now c.args.m.now h) (IsLeast (names_of c.args.terms.now c.args.base.now) (IsRedefined c.args.self.now c.args.m.now)) c.in-Some.atom c.in-Some.is c.in_ok-redefined.ensures;
}

pub returns-in-Some-found : goal.returns-in-Some-found
returns-in-Some-found c =
    first_loop (names_of c.args.terms.now c.args.base.now) c.args.self.now c.args.m.now _
    (is_few c.args.self.now c.args.m.now c.len.result c.as_slice.result.now c.in_ok-is_many.is_many c.in_ok-is_many.ensures.tells (c.len.ensures ∙ c.requires.base) c.as_slice.ensures c.if-is_many.false)
    (MatchOption-at_none ((h : ℕ) → ¬ IsRedefined c.args.self.now c.args.m.now h) (IsLeast (names_of c.args.terms.now c.args.base.now) (IsRedefined c.args.self.now c.args.m.now)) c.in_default.is c.in_ok-redefined.ensures)
    (subst (λ (found : Option CrossLoop). FindsLoop (names_of c.args.terms.now c.args.base.now) c.args.self.now c.args.m.now found) c.in-Some-found.is c.in_ok-found.ensures)

pub returns-in-None : goal.returns-in-None
returns-in-None c =
    composable (names_of c.args.terms.now c.args.base.now) c.args.self.now c.args.m.now
    (subst (λ (rules : List GroundRule). ArePlain (c.args.self.now.rules ++ rules)) c.as_slice.ensures c.in_ok-is_many.ensures.plain)
    (is_few c.args.self.now c.args.m.now c.len.result c.as_slice.result.now c.in_ok-is_many.is_many c.in_ok-is_many.ensures.tells (c.len.ensures ∙ c.requires.base) c.as_slice.ensures c.if-is_many.false)
    (MatchOption-at_none ((h : ℕ) → ¬ IsRedefined c.args.self.now c.args.m.now h) (IsLeast (names_of c.args.terms.now c.args.base.now) (IsRedefined c.args.self.now c.args.m.now)) c.in_default.is c.in_ok-redefined.ensures)
    (subst (λ (found : Option CrossLoop). FindsLoop (names_of c.args.terms.now c.args.base.now) c.args.self.now c.args.m.now found) c.in-None.is c.in_ok-found.ensures)
