use Rattle.std.proofs.Common.{◌++◌, List, []}
use Rattle.std.proofs.lemmas.Result.{IfOk-weaker}
use Rattle.ms_join.specs.declared.ground_rule.GroundRule.{GroundRule}
use Rattle.ms_cone.specs.Cones.{Numbered, IsCone}
use Rattle.ms_cone.specs.Dependencies.{Keeps}
use Rattle.ms_cone.specs.Search.{AreNumbered}
use Rattle.ms_cone.proofs.Adding.{keeps_below}
use Rattle.ms_cone.proofs.Reaching.{is_cone}
use Rattle.ms_cone.proofs.cone.Cone.around.Goals as goal

pub first_whole-requires-clause-new : goal.first_whole-requires-clause-new
first_whole-requires-clause-new c = keeps_below c.args.atoms c.add.new.self c.args.new.now (c.in_ok-add.ensures [] c.new-fresh.ensures) c.requires.new

pub returns : goal.returns
returns c =
    let s = c.in_ok-search.search in
    let new = c.args.new.now in
    let starts = c.args.starts.now in
    IfOk-weaker c.numbered.result (AreNumbered s)
    (λ (cone : Numbered). (rules : List GroundRule) → Keeps c.args.old.now rules → IsCone (rules ++ new) starts cone)
    (λ (cone : Numbered) numbered rules keeps. is_cone c.args.old.now c.add.new.self rules new starts s cone keeps (c.in_ok-add.ensures [] c.new-fresh.ensures) c.in_ok-search.ensures numbered)
    c.numbered.ensures
