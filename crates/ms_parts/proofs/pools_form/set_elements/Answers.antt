use Rattle.std.proofs.Common.{◌≡◌, ◌++◌, map, rules, ap, ◌∙◌}
use Rattle.ms_parts.specs.Sides.{set_element_of}
use Rattle.ms_core.specs.Pools.{pairs_with}
use Rattle.ms_parts.proofs.RowLaws.{map_pairs}
use Rattle.ms_parts.proofs.pools_form.set_elements.Goals as goal

pub loop-atom-init : goal.loop-atom-init
loop-atom-init c =
    let items : c.into_iter-atom-iterator.result.rest.items ≡ pairs_with (λ x y. (x, y)) c.args.atoms c.args.conds = search (rules) in
    ap (λ l. l ++ map set_element_of c.into_iter-atom-iterator.result.rest.items) c.new-made.ensures ∙ ap (map set_element_of) items ∙ map_pairs set_element_of c.args.atoms c.args.conds
