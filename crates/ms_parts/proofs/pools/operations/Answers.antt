use Rattle.std.proofs.Common.{◌≡◌, ◌++◌, map, rules, ap, ◌∙◌}
use Rattle.ms_tree.specs.declared.op.Op.{Op}
use Rattle.ms_grammar.specs.declared.term.TextTerm.{TextTerm, Binary}
use Rattle.ms_core.specs.Pools.{pairs_with}
use Rattle.ms_parts.proofs.RowLaws.{map_pairs}
use Rattle.ms_parts.proofs.pools.operations.Goals as goal

abbrev made : Op → TextTerm × TextTerm → TextTerm
made op p = Binary op p.0 p.1

pub loop-left-init : goal.loop-left-init
loop-left-init c =
    let items : c.into_iter-left-iterator.result.rest.items ≡ pairs_with (λ x y. (x, y)) c.args.lefts c.args.rights = search (rules) in
    ap (λ l. l ++ map (made c.args.op) c.into_iter-left-iterator.result.rest.items) c.new-made.ensures ∙ ap (map (made c.args.op)) items ∙ map_pairs (made c.args.op) c.args.lefts c.args.rights
