use Rattle.ms_call.specs.Items.{command}
use Rattle.mshot.proofs.serving.next_answer.Goals as goal

pub returns-in_ok-answer_command-in-Command : goal.returns-in_ok-answer_command-in-Command
returns-in_ok-answer_command-in-Command c = record {
  item = command c.in-Command.command;
  says = rw c.in-Command.is at c.in_ok-next_fed.ensures.said;
  output = c.in_ok-answer_command-in-Command.ensures.0;
  takes = c.in_ok-answer_command-in-Command.ensures.1;
  texts = c.in_ok-answer_command-in-Command.ensures.2;
  shorter = rw c.in-Command.is at c.in_ok-next_fed.ensures.shorter;
}
