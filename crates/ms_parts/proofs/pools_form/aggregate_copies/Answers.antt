use Rattle.std.proofs.Common.{◌≡◌, IfOk, map, subst, ap, ◌∙◌}
use Rattle.std.specs.List.{flat_map}
use Rattle.ms_core.specs.Pools.{pairs_with, guard_copies, element_copies, aggregate_copies}
use Rattle.ms_parts.specs.Sides.{aggregate_of}
use Rattle.ms_parts.proofs.RowLaws.{map_pairs}
use Rattle.ms_parts.proofs.pools_form.aggregate_copies.Goals as goal

pub returns : goal.returns
returns c =
    let a = c.args.aggregate.now in
    let elements = c.in_ok-elements.elements in
    let same : map (aggregate_of a.function elements) c.in_ok-pairs.field-0 ≡ aggregate_copies a =
    ap (map (aggregate_of a.function elements)) c.in_ok-pairs.ensures
    ∙ map_pairs (aggregate_of a.function elements) c.in_ok-lefts.lefts c.in_ok-rights.rights
    ∙ ap (λ l. pairs_with (λ x y. aggregate_of a.function elements (x, y)) l c.in_ok-rights.rights) c.in_ok-lefts.ensures
    ∙ ap (λ r. pairs_with (λ x y. aggregate_of a.function elements (x, y)) (guard_copies a.left) r) c.in_ok-rights.ensures
    ∙ ap (λ es. pairs_with (λ x y. aggregate_of a.function es (x, y)) (guard_copies a.left) (guard_copies a.right)) (c.in_ok-elements.ensures ∙ ap (flat_map element_copies) c.as_slice.ensures) in
    subst (λ z. IfOk c.aggregates.result (λ made. made ≡ z)) same c.aggregates.ensures
