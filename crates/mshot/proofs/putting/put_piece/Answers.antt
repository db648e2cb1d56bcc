use Rattle.mshot.proofs.Gaining.{failed_by}
use Rattle.mshot.proofs.putting.put_piece.Goals as goal

pub returns-clause-failed : goal.returns-clause-failed
returns-clause-failed g c = failed_by c.put.result _ _ _ _ _ c.put.ensures.front c.put.ensures.no_piece
