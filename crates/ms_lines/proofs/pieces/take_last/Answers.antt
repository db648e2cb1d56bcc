use Rattle.ms_lines.proofs.WholeScripts.{told_item_at_end}
use Rattle.ms_lines.proofs.pieces.take_last.Goals as goal

pub loop-fed-preserved : goal.loop-fed-preserved
loop-fed-preserved c = λ bytes told. told_item_at_end bytes c.loop-fed.said c.loop-fed.lines c.end.new.self c.in_ok-fed.fed _ c.in_ok-push-in_default.ensures.ok (c.loop-fed.invariant bytes told) c.in_ok-fed.ensures.said
