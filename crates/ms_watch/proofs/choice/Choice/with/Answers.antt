use Rattle.std.proofs.Common.{◌≡◌, inl, inr, ◌∷◌, [], ◌++◌, Some, subst, sym, ◌∙◌, refl}
use Rattle.std.proofs.lemmas.List.Elements.{All-push}
use Rattle.ms_lits.specs.Assignment.{HoldsIn}
use Rattle.ms_watch.specs.Choices.{IsChoice}
use Rattle.ms_nogood.proofs.Looks.{same_lit, other_lit}
use Rattle.ms_watch.proofs.Choices.{top_untrue, open_first, open_more, open_two, open_both}
use Rattle.ms_watch.proofs.choice.Choice.with.Goals as goal

pub returns-then-holds : goal.returns-then-holds
returns-then-holds c seen is =
    let was = subst (IsChoice c.args.trail.now.entries seen) c.in-Whole.is is in
    (All-push (HoldsIn c.args.trail.now.entries) seen c.args.lit was.0 (c.is_true-holds.ensures.holds c.if-holds.true), c.higher.ensures seen was.1)

pub returns-else-holds : goal.returns-else-holds
returns-else-holds c seen is =
    let was = subst (IsChoice c.args.trail.now.entries seen) c.in-Whole.is is in
    let untrue = c.is_true-holds.ensures.fails c.if-holds.false in
    (open_first c.args.trail.now.entries seen c.args.lit untrue was.0, top_untrue c.args.trail.now.entries seen c.in-Whole.top c.args.lit untrue was.1)

pub returns-then-holds-2 : goal.returns-then-holds-2
returns-then-holds-2 c seen is =
    let was = subst (IsChoice c.args.trail.now.entries seen) c.in-One.is is in
    (open_more c.args.trail.now.entries seen c.in-One.first c.args.lit (inr (c.is_true-holds.ensures.holds c.if-holds-2.true)) was.0, c.higher-then-holds-2.ensures seen was.1)

pub returns-then-eq : goal.returns-then-eq
returns-then-eq c seen is =
    let was = subst (IsChoice c.args.trail.now.entries seen) c.in-One.is is in
    let untrue = c.is_true-holds.ensures.fails c.if-holds-2.false in
    let same : c.in-One.first ≡ c.args.lit = same_lit c.in-One.first c.args.lit (sym c.eq.ensures ∙ c.if-eq.true) in
    (open_more c.args.trail.now.entries seen c.in-One.first c.args.lit (inl (sym same)) was.0, top_untrue c.args.trail.now.entries seen c.in-One.top c.args.lit untrue was.1)

pub returns-else-eq : goal.returns-else-eq
returns-else-eq c seen is =
    let was = subst (IsChoice c.args.trail.now.entries seen) c.in-One.is is in
    let untrue = c.is_true-holds.ensures.fails c.if-holds-2.false in
    open_two c.args.trail.now.entries seen c.in-One.first c.args.lit untrue (other_lit c.in-One.first c.args.lit (sym c.eq.ensures ∙ c.if-eq.false)) was.0
