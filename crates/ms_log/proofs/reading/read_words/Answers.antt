use Rattle.std.proofs.Common.{All, refl, ◌∙◌, rules}
use Rattle.ms_lits.specs.declared.note.Note.TheVariants.{Tuple, Aggregate, Start}
use Rattle.ms_log.specs.declared.kind.Kind.TheVariants as kinds
use Rattle.ms_log.specs.NoteText.{IsLiteral}
use Rattle.ms_log.specs.Reading.{IsDeclared, IsAggregate, declared_text, start_text}
use Rattle.ms_log.proofs.Dispatch.{kind_of_note, content_of, words_split, kind_read}
use Rattle.ms_log.proofs.Notes.{tuple_only, aggregate_only, start_only}
use Rattle.ms_log.proofs.reading.read_words.Goals as goal

pub returns-in_default : goal.returns-in_default
returns-in_default c = λ note readable e. c.in_default.ensures (kind_of_note note) (content_of note) (e ∙ words_split note)

pub returns-in_ok-read_declared-in-Tuple : goal.returns-in_ok-read_declared-in-Tuple
returns-in_ok-read_declared-in-Tuple c =
    kind_read kinds.Tuple (λ x. Tuple x.0 x.1) declared_text IsDeclared (λ x. refl) (λ x h. h) tuple_only c.args.line.now c.in-Some.rest.now (search rules) c.in_ok-read_declared-in-Tuple.field-0 c.in_ok-read_declared-in-Tuple.ensures c.map-in-Tuple.result (search rules)

pub returns-in_ok-read_aggregate-in-Aggregate : goal.returns-in_ok-read_aggregate-in-Aggregate
returns-in_ok-read_aggregate-in-Aggregate c =
    kind_read kinds.Aggregate (λ x. Aggregate x.0 x.1) declared_text IsAggregate (λ x. refl) (λ x h. h) aggregate_only c.args.line.now c.in-Some.rest.now (search rules) c.in_ok-read_aggregate-in-Aggregate.field-0 c.in_ok-read_aggregate-in-Aggregate.ensures c.map-in-Aggregate.result (search rules)

pub returns-in_ok-read_start-in-Start : goal.returns-in_ok-read_start-in-Start
returns-in_ok-read_start-in-Start c =
    kind_read kinds.Start (λ x. Start x.0 x.1) start_text (λ x. All IsLiteral x.1) (λ x. refl) (λ x h. h) start_only c.args.line.now c.in-Some.rest.now (search rules) c.in_ok-read_start-in-Start.field-0 c.in_ok-read_start-in-Start.ensures c.map-in-Start.result (search rules)
