use Rattle.std.proofs.Common.{arith}
use Rattle.ms_log.proofs.Words.{behind, front_is, word_found}
use Rattle.ms_log.proofs.item.next_word.Goals as goal

pub returns-in-32 : goal.returns-in-32
returns-in-32 c = word_found c.args.text.now (behind c.args.text.now) c.split_at.result.0.now c.split_at.result.1.now c.word_len.result (front_is c.args.text.now 32 (omega arith) (omega arith)) c.word_len.ensures.value c.split_at.ensures.front c.split_at.ensures.back
