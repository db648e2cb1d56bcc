use Rattle.std.proofs.Common.{List, map}
use Rattle.ms_text.specs.declared.token.TokenKind.TheVariants.{Semicolon}
use Rattle.ms_grammar.specs.declared.part.Counted.{Counted}
use Rattle.ms_grammar.specs.declared.statement.AggElement.{AggElement}
use Rattle.ms_grammar.specs.Words.{sign, separated}
use Rattle.ms_grammar.specs.Statements.{row_of, TuplePart, tuple_part_words, tuple_part_spelled}
use Rattle.ms_read_part.proofs.Groups.{braces_read}
use Rattle.ms_read_part.proofs.group.read_tuples.Goals as goal

pub returns : goal.returns
returns c =
    let front = c.begins_with.ensures.is c.if-not-begins_with.false in
    let elements = rw c.after_front.ensures at (rw c.in-Some.is at c.in_ok-elements.ensures) in
    rw c.closed.ensures (braces_read (List TuplePart) (Counted (List AggElement)) (λ es. separated (sign Semicolon) (map tuple_part_words es)) (row_of tuple_part_spelled) front elements)
