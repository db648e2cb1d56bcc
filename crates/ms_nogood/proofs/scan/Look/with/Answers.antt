use Rattle.std.proofs.Common.{◌∷◌, [], Some, sym, ◌∙◌, ap, subst}
use Rattle.ms_nogood.specs.Looks.{IsLook}
use Rattle.ms_nogood.proofs.Looks.{look_holds, calm_false, calm_two, calm_front, unit_first, unit_same, same_truth, truth_itself, same_lit, other_lit}
use Rattle.std.proofs.lemmas.Bool.{both_ways}
use Rattle.ms_nogood.proofs.scan.Look.with.Goals as goal

pub returns-then-truth-lit : goal.returns-then-truth-lit
returns-then-truth-lit c seen is =
    look_holds c.args.trail.now.entries seen c.args.lit c.args.self (sym c.value.ensures ∙ c.in-Some.is ∙ ap Some (same_truth c.in-Some.truth c.args.lit.truth c.if-truth-lit.true)) is

pub returns-else-truth-lit : goal.returns-else-truth-lit
returns-else-truth-lit c seen is =
    calm_false c.args.trail.now.entries seen c.args.lit c.in-Some.truth (sym c.value.ensures ∙ c.in-Some.is) (λ same. both_ways _ c.if-truth-lit.false (truth_itself c.in-Some.truth c.args.lit.truth same))

pub returns-in-Whole : goal.returns-in-Whole
returns-in-Whole c seen is =
    unit_first c.args.trail.now.entries seen c.args.lit (subst (IsLook c.args.trail.now.entries seen) c.in-Whole.is is) (sym c.value.ensures ∙ c.in-None.is)

pub returns-then-eq : goal.returns-then-eq
returns-then-eq c seen is =
    unit_same c.args.trail.now.entries seen c.in-Open.first c.args.lit (subst (IsLook c.args.trail.now.entries seen) c.in-Open.is is) (same_lit c.in-Open.first c.args.lit (sym c.eq.ensures ∙ c.if-eq.true))

pub returns-else-eq : goal.returns-else-eq
returns-else-eq c seen is =
    calm_two c.args.trail.now.entries seen c.in-Open.first c.args.lit (subst (IsLook c.args.trail.now.entries seen) c.in-Open.is is) (sym c.value.ensures ∙ c.in-None.is) (other_lit c.in-Open.first c.args.lit (sym c.eq.ensures ∙ c.if-eq.false))

pub returns-in-Calm : goal.returns-in-Calm
returns-in-Calm c seen is =
    calm_front c.args.trail.now.entries seen (c.args.lit ∷ []) (subst (IsLook c.args.trail.now.entries seen) c.in-Calm.is is)
