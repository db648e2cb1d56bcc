use Rattle.std.proofs.Common.{◌≡◌, ◌++◌, take}
use Rattle.std.specs.List.{flat_map}
use Rattle.ms_core.specs.Texts.{core_of_form}
use Rattle.ms_parts.specs.Meanings.{meant}
use Rattle.ms_parts.proofs.call.append_forms.Given as goal

abbrev pub invariant-loop-form : goal.invariant-loop-form
invariant-loop-form l = l.into ≡ l.fn.into ++ flat_map (core_of_form (meant l.means)) (take l.form-index l.forms)
