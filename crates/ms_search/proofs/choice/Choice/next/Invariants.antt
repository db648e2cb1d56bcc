use Rattle.std.specs.BinaryHeap.{heap_len}
use Rattle.ms_search.proofs.choice.Choice.next.Given as goal

abbrev pub decreases-loop-rank : goal.decreases-loop-rank
decreases-loop-rank l = heap_len l.self.ranks
