use Rattle.ms_lawful.proofs.Parts.{kept_list-append}
use Rattle.ms_lawful.proofs.kept_list_goes_on.Goals as goal

pub returns : goal.returns
returns c = kept_list-append
