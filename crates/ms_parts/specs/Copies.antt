-- The copies of a rule.
use Rattle.std.specs.Prelude.{List, map}
use Rattle.ms_grammar.specs.declared.statement.Head.{Head}
use Rattle.ms_grammar.specs.declared.statement.BodyLit.{BodyLit}
use Rattle.ms_core.specs.Replacing.{Meaning, replaced_part, replaced_head}
use Rattle.ms_core.specs.Pools.{pairs_with, copies_of_all, head_copies, part_copies}

-- the head and the body of each copy of a rule whose names were replaced
abbrev pub rule_copies : Meaning → Head → List BodyLit → List (Head × List BodyLit)
rule_copies means head body = pairs_with (λ x y. (x, y)) (head_copies (replaced_head means head)) (copies_of_all part_copies (map (replaced_part means) body))
