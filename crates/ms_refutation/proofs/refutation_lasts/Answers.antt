use Rattle.ms_refutation.specs.Sets.{Passes}
use Rattle.ms_refutation.proofs.Found.{refuted_more}
use Rattle.ms_refutation.proofs.refutation_lasts.Goals as goal

pub returns : goal.returns
returns c = λ fewer more. refuted_more (Passes fewer) (Passes more)
