use Rattle.std.proofs.Common.{◌≡◌, ◌++◌, OnOk, subst}
use Rattle.ms_parts.specs.Meanings.{meant}
use Rattle.ms_parts.proofs.CallLaws.{external_is}
use Rattle.ms_parts.proofs.call.append_external.Goals as goal

pub returns : goal.returns
returns c =
    subst (λ z. OnOk c.append_externals.result (c.append_externals.new.into ≡ c.args.into.now ++ z)) (external_is (meant c.args.means.now) c.args.atom.now c.in_ok-atom.atom c.in_ok-atoms.atoms c.as_slice.result.now c.in_ok-atom.ensures c.in_ok-atoms.ensures c.as_slice.ensures) c.append_externals.ensures
