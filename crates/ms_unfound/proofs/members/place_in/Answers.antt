use Rattle.ms_unfound.proofs.MemberLaws.{not_found}
use Rattle.ms_unfound.proofs.members.place_in.Goals as goal

pub returns-in-Err : goal.returns-in-Err
returns-in-Err c = not_found c.args.rising.now c.args.number c.binary_search.result c.in-Err.field-0 c.binary_search.ensures.position c.requires c.in-Err.is
