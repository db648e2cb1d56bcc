use Rattle.std.proofs.Common.{◌≡◌, ◌++◌, map, rules, ap, ◌∙◌}
use Rattle.ms_parts.specs.Sides.{element_of}
use Rattle.ms_core.specs.Pools.{pairs_with}
use Rattle.ms_parts.proofs.RowLaws.{map_pairs}
use Rattle.ms_parts.proofs.pools_form.elements.Goals as goal

pub loop-tuple-init : goal.loop-tuple-init
loop-tuple-init c =
    let items : c.into_iter-tuple-iterator.result.rest.items ≡ pairs_with (λ x y. (x, y)) c.args.tuples c.args.conds = search (rules) in
    ap (λ l. l ++ map element_of c.into_iter-tuple-iterator.result.rest.items) c.new-made.ensures ∙ ap (map element_of) items ∙ map_pairs element_of c.args.tuples c.args.conds
