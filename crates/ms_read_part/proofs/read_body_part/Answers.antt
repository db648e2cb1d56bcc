use Rattle.ms_read_part.proofs.Measured.{read_tokens}
use Rattle.ms_read_part.proofs.read_body_part.Goals as goal

pub returns : goal.returns
returns c = rw c.ended.ensures (read_tokens (λ rest ends. ends) c.args.text.now c.args.tokens.now c.new.ensures c.in_ok-found.ensures)
