use Rattle.std.proofs.Common.{◌≡◌, ◌++◌, map, rules, ap, ◌∙◌}
use Rattle.ms_grammar.specs.declared.term.TextTerm.{TextTerm, Interval}
use Rattle.ms_core.specs.Pools.{pairs_with}
use Rattle.ms_parts.proofs.RowLaws.{map_pairs}
use Rattle.ms_parts.proofs.pools.intervals.Goals as goal

abbrev made : TextTerm × TextTerm → TextTerm
made p = Interval p.0 p.1

pub loop-low-init : goal.loop-low-init
loop-low-init c =
    let items : c.into_iter-low-iterator.result.rest.items ≡ pairs_with (λ x y. (x, y)) c.args.lows c.args.highs = search (rules) in
    ap (λ l. l ++ map made c.into_iter-low-iterator.result.rest.items) c.new-made.ensures ∙ ap (map made) items ∙ map_pairs made c.args.lows c.args.highs
