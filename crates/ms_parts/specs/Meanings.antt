-- What names stand for in a call of a part, and elements with names replaced.
use Rattle.std.specs.Prelude.{map}
use Rattle.ms_grammar.specs.declared.statement.SetElement.{SetElement}
use Rattle.ms_grammar.specs.declared.statement.AggElement.{AggElement}
use Rattle.ms_core.specs.Replacing.{Meaning, replaced, replaced_atom, replaced_literal}
use Rattle.ms_core.specs.Texts.{meaning_of}
use Rattle.ms_parts.specs.declared.meaning.Meanings.{Meanings}

abbrev pub meant : Meanings → Meaning
meant m = meaning_of m.texts.now m.params.now m.args.now

abbrev pub replaced_set_element : Meaning → SetElement → SetElement
replaced_set_element means e = record { atom = replaced_atom means e.atom; conds = map (replaced_literal means) e.conds }

abbrev pub replaced_element : Meaning → AggElement → AggElement
replaced_element means e = record { tuple = map (replaced means) e.tuple; conds = map (replaced_literal means) e.conds }
