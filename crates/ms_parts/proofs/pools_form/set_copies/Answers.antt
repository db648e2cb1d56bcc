use Rattle.std.proofs.Common.{◌≡◌, IfOk, map, subst, ap, ◌∙◌}
use Rattle.std.specs.List.{flat_map}
use Rattle.ms_core.specs.Pools.{pairs_with, guard_copies, set_element_copies, set_copies}
use Rattle.ms_parts.specs.Sides.{set_of}
use Rattle.ms_parts.proofs.RowLaws.{map_pairs}
use Rattle.ms_parts.proofs.pools_form.set_copies.Goals as goal

pub returns : goal.returns
returns c =
    let elements = c.in_ok-elements.elements in
    let set = c.args.set.now in
    let same : map (set_of elements) c.in_ok-pairs.field-0 ≡ set_copies set =
    ap (map (set_of elements)) c.in_ok-pairs.ensures
    ∙ map_pairs (set_of elements) c.in_ok-lefts.lefts c.in_ok-rights.rights
    ∙ ap (λ l. pairs_with (λ x y. set_of elements (x, y)) l c.in_ok-rights.rights) c.in_ok-lefts.ensures
    ∙ ap (λ r. pairs_with (λ x y. set_of elements (x, y)) (guard_copies set.left) r) c.in_ok-rights.ensures
    ∙ ap (λ es. pairs_with (λ x y. set_of es (x, y)) (guard_copies set.left) (guard_copies set.right)) (c.in_ok-elements.ensures ∙ ap (flat_map set_element_copies) c.as_slice.ensures) in
    subst (λ z. IfOk c.sets.result (λ made. made ≡ z)) same c.sets.ensures
