use Rattle.std.proofs.Common.{◌≡◌, ◌≤◌, length, take, drop}
use Rattle.ms_log.specs.Reading.{HasNoColon}
use Rattle.ms_log.proofs.reading.split_at_last_colon.Given as goal

abbrev pub invariant-loop-front : goal.invariant-loop-front
invariant-loop-front l = record {
  within : length l.front ≤ length l.text;
  front : l.front ≡ take (length l.front) l.text;
  back : HasNoColon (drop (length l.front) l.text);
}

abbrev pub decreases-loop-front : goal.decreases-loop-front
decreases-loop-front l = length l.front
