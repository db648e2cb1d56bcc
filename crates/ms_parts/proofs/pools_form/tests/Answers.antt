use Rattle.std.proofs.Common.{◌≡◌, ◌++◌, map, rules, ap, ◌∙◌}
use Rattle.ms_parts.specs.Sides.{test_of}
use Rattle.ms_core.specs.Pools.{pairs_with}
use Rattle.ms_parts.proofs.RowLaws.{map_pairs}
use Rattle.ms_parts.proofs.pools_form.tests.Goals as goal

pub loop-left-init : goal.loop-left-init
loop-left-init c =
    let items : c.into_iter-left-iterator.result.rest.items ≡ pairs_with (λ x y. (x, y)) c.args.lefts c.args.rights = search (rules) in
    ap (λ l. l ++ map (test_of c.args.cmp) c.into_iter-left-iterator.result.rest.items) c.new-made.ensures ∙ ap (map (test_of c.args.cmp)) items ∙ map_pairs (test_of c.args.cmp) c.args.lefts c.args.rights
