use Rattle.std.proofs.Common.{[]}
use Rattle.ms_parse.proofs.sign.is_alone.Goals as goal

pub returns-in-None : goal.returns-in-None
returns-in-None c = (λ e. absurd (let f : ⊥ = cc in f), λ b. absurd (c.in-None.ensures [] b))
