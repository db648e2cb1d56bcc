use Rattle.std.proofs.Common.{subst, sym}
use Rattle.ms_unfound.specs.Members.{IsRising}
use Rattle.ms_unfound.proofs.MemberLaws.{rising_from}
use Rattle.ms_unfound.proofs.taking.head_place.Goals as goal

pub place_in-requires : goal.place_in-requires
place_in-requires c = subst IsRising (sym c.as_slice.ensures) (rising_from c.args.members.now.atoms c.requires)
