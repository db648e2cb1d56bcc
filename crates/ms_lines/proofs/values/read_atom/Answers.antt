use Rattle.std.proofs.Common.{sym, ◌∙◌}
use Rattle.ms_lines.proofs.ValueFronts.{atom_if_name}
use Rattle.ms_lines.proofs.values.read_atom.Goals as goal

pub returns-then-begins_with_name-clause-found : goal.returns-then-begins_with_name-clause-found
returns-then-begins_with_name-clause-found c = atom_if_name c.args.text.now c.args.tokens.now (sym c.begins_with_name.ensures ∙ c.if-begins_with_name.true) _ c.read_value.ensures.found
