use Rattle.std.proofs.Common.{subst}
use Rattle.ms_atombase.specs.Bases.{IsPlaceOf}
use Rattle.ms_atombase.proofs.Places.{found_at}
use Rattle.ms_atombase.proofs.atom_base.AtomBase.find.Goals as goal

pub returns : goal.returns
returns c = subst (λ atoms. IsPlaceOf atoms c.args.t c.in_ok-place.place) c.self.view_is (found_at _ c.args.t c.in_ok-place.place c.self.invariant c.in_ok-place.ensures.index)
