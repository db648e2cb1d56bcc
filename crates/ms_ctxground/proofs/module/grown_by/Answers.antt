use Rattle.std.proofs.Common.{◌∙◌, ◌++◌, ap, arith}
use Rattle.ms_copies.specs.Grounding.{gives_head, gives_external}
use Rattle.ms_ctxground.specs.NewAtoms.{IsNewOf, head_of}
use Rattle.ms_ctxground.proofs.Additions.{all_new, all_different, heads_there}
use Rattle.ms_ctxground.proofs.GroundModules.{IsGrownBy-from_parts, outputs_of, externals_of}
use Rattle.ms_ctxground.proofs.Heads.{heads_below, length-filter_map}
use Rattle.ms_ctxground.proofs.module.grown_by.Goals as goal
use Rattle.ms_ctxground.proofs.module.grown_by.Goals.{In_ok-names}

pub new_names-requires-clause-outputs : goal.new_names-requires-clause-outputs
new_names-requires-clause-outputs c = rw (c.as_slice.ensures.value, c.in_ok-outputs.ensures) (heads_below gives_head _ c.args.instances.now c.requires.named)

pub new_names-requires-clause-externals : goal.new_names-requires-clause-externals
new_names-requires-clause-externals c = rw (c.as_slice-2.ensures.value, c.in_ok-externals.ensures) (heads_below gives_external _ c.args.instances.now c.requires.named)

are_new : (c : In_ok-names) → IsNewOf c.args.terms.now c.args.base.now (outputs_of c.args.instances.now) (externals_of c.args.instances.now) c.in_ok-names.names
are_new c = rw (← c.in_ok-outputs.ensures, ← c.in_ok-externals.ensures, ← c.as_slice.ensures.value, ← c.as_slice-2.ensures.value) c.in_ok-names.ensures

pub add-requires-clause-new : goal.add-requires-clause-new
add-requires-clause-new c = rw c.as_slice-3.ensures (all_new (are_new (goal.at.add-requires-clause-new c).In_ok-names))

pub add-requires-clause-different : goal.add-requires-clause-different
add-requires-clause-different c = rw c.as_slice-3.ensures (all_different c.args.terms.now c.in_ok-names.names (are_new (goal.at.add-requires-clause-different c).In_ok-names).rising)

pub add-requires-clause-few : goal.add-requires-clause-few
add-requires-clause-few c =
    let few = (are_new (goal.at.add-requires-clause-few c).In_ok-names).few in
    let outs = length-filter_map (head_of gives_head) c.args.instances.now in
    let exts = length-filter_map (head_of gives_external) c.args.instances.now in
    rw c.as_slice-3.ensures (omega arith)

pub overflow_cast-result : goal.overflow_cast-result
overflow_cast-result c =
    let few = (are_new (goal.at.overflow_cast-result c).In_ok-names).few in
    let outs = length-filter_map (head_of gives_head) c.args.instances.now in
    let exts = length-filter_map (head_of gives_external) c.args.instances.now in
    omega (arith, c.len.ensures)

pub rule_set-requires : goal.rule_set-requires
rule_set-requires c =
    let grown = c.in_ok-add.ensures.ok ∙ ap (λ ns. c.args.base.now ++ ns) c.as_slice-3.ensures in
    rw grown (heads_there c.args.terms.now c.args.instances.now c.args.base.now c.in_ok-names.names c.requires.headed (are_new (goal.at.rule_set-requires c).In_ok-names))

pub returns-clause-ok : goal.returns-clause-ok
returns-clause-ok c =
    let table = c.args.terms.now in
    let instances = c.args.instances.now in
    let old = c.args.base.now in
    let grown = c.in_ok-add.ensures.ok ∙ ap (λ ns. c.args.base.now ++ ns) c.as_slice-3.ensures in
    let rules = rw grown at c.in_ok-rule_set.ensures in
    let externals = rw (grown, c.as_slice-4.ensures.value, c.in_ok-externals.ensures) at c.in_ok-numbers_of_known.ensures in
    let heads = rw (grown, c.as_slice-5.ensures.value, c.in_ok-outputs.ensures) at c.in_ok-numbers_of_known-2.ensures in
    rw grown
    (IsGrownBy-from_parts table c.requires.different instances old _ c.requires.base_named c.requires.named c.requires.headed
    (are_new (goal.at.returns-clause-ok c).In_ok-names) rules heads externals c.len-first_new.ensures c.len.ensures)
