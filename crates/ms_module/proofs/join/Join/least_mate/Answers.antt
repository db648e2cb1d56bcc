use Rattle.std.proofs.Common.{◌≡◌, ◌<◌, ◌∙◌, List, ℕ, length, subst, sym, Contains}
use Rattle.std.specs.List.{All}
use Rattle.ms_join.specs.Composability.{IsLeast}
use Rattle.ms_cone.specs.Cones.{number_of}
use Rattle.ms_module.specs.Names.{names_of}
use Rattle.ms_module.proofs.ConeLoops.{mate_within, least_mate, no_mate}
use Rattle.ms_module.proofs.join.Join.least_mate.Goals as goal

pub least-requires-clause-within : goal.least-requires-clause-within
least-requires-clause-within c =
    subst (λ (xs : List ℕ). All (λ a. a < length c.args.base.now) xs) (sym c.as_slice.ensures.value)
    (mate_within c.args.self.now (length c.args.base.now) c.args.cone.now c.args.outputs.now c.in_ok-mates.mates.items (λ b. number_of c.args.cone.now b ≡ number_of c.args.cone.now c.args.a) c.requires.base c.requires.outputs c.in_ok-mates.ensures)

pub returns-in-Some : goal.returns-in-Some
returns-in-Some c =
    least_mate (names_of c.args.terms.now c.args.base.now) c.args.self.now c.args.cone.now c.args.outputs.now c.in_ok-mates.mates.items c.args.a c.in-Some.old c.requires.member c.requires.outputs c.in_ok-mates.ensures
    (subst (λ (xs : List ℕ). IsLeast (names_of c.args.terms.now c.args.base.now) (Contains xs) c.in-Some.old) c.as_slice.ensures.value c.in-Some.ensures)

pub returns : goal.returns
returns c =
    no_mate c.args.self.now c.args.cone.now c.args.outputs.now c.in_ok-mates.mates.items c.args.a c.requires.member c.requires.outputs c.in_ok-mates.ensures (sym c.as_slice.ensures.value ∙ c.in-None.ensures)
