-- How many nogoods a solve learns.
use Rattle.std.proofs.Common.{ℕ, ◌≡◌, ◌∙◌, ◌<◌, ◌≤◌, ◌+◌, ◌^◌, List, [], ◌∷◌, ◌++◌, length, Option, Some, None, subst, ap, refl, arith, length-append}
use Rattle.std.proofs.lemmas.List.Elements.{filter-append, filter_map-append}
use Rattle.ms_lits.specs.declared.note.Note.{Note}
use Rattle.ms_lits.specs.declared.note.Note.TheVariants.{Theory, Kept, Temporary, Answer}
use Rattle.ms_lits.specs.declared.note.Ending.{Ending}
use Rattle.ms_lits.specs.declared.note.Ending.TheVariants.{Cut}
use Rattle.ms_lawful.specs.Problems.{Problem}
use Rattle.ms_lawful.specs.Lines.{Stage, AreLines, EndsFor, EndsRun, IsLine, MayFollow, after, answer_of, answers_in, first_stage, is_learned, learned_in, nogood_of, nogoods_in, owed_after, spent_by, stage_after}
use Rattle.ms_lawful.proofs.Apart.{apart_differ, lines_apart}
use Rattle.ms_lawful.proofs.Nogoods.{few_nogoods}
use Rattle.ms_lawful.proofs.Stages.{lines_after}

learned-append : (lines more : List Note) → length (learned_in (lines ++ more)) ≡ length (learned_in lines) + length (learned_in more)
learned-append lines more = ap length (filter-append is_learned lines more) ∙ length-append (learned_in lines) (learned_in more)

answers-append : (lines more : List Note) → length (answers_in (lines ++ more)) ≡ length (answers_in lines) + length (answers_in more)
answers-append lines more = ap length (filter_map-append answer_of lines more) ∙ length-append (answers_in lines) (answers_in more)

nogoods-append : (lines more : List Note) → length (nogoods_in (lines ++ more)) ≡ length (nogoods_in lines) + length (nogoods_in more)
nogoods-append lines more = ap length (filter_map-append nogood_of lines more) ∙ length-append (nogoods_in lines) (nogoods_in more)

-- how many lines are owed
abbrev owes : Option (List ℕ) → ℕ
owes None = 0
owes (Some answer) = 1

one_counts : (problem : Problem) (lines : List Note) (owed : Option (List ℕ)) (note : Note) → MayFollow problem lines owed note → length (learned_in (note ∷ [])) + owes (owed_after note) ≡ (spent_by owed note + length (answers_in (note ∷ []))) + owes owed
one_counts problem lines (Some answer) (Temporary nogood) line = refl
one_counts problem lines None (Theory nogood) line = refl
one_counts problem lines None (Kept nogood) line = refl
one_counts problem lines None (Temporary nogood) line = refl
one_counts problem lines None (Answer answer) line = refl
one_counts problem lines owed note line = absurd line

-- What was learned, and a line that is owed, are what was spent and the answers.
abbrev AreCounted : Stage → Type 0
AreCounted stage = length (learned_in stage.lines) + owes stage.owed ≡ stage.spent + length (answers_in stage.lines)

counted_push : (problem : Problem) (stage : Stage) (note : Note) → IsLine problem stage note → AreCounted stage → AreCounted (after stage note)
counted_push problem stage note line before =
    omega (arith, one_counts problem stage.lines stage.owed note line, learned-append stage.lines (note ∷ []), answers-append stage.lines (note ∷ []))

counted_after : (problem : Problem) (stage : Stage) (notes : List Note) → AreLines problem stage notes → AreCounted stage → AreCounted (stage_after stage notes)
counted_after problem stage [] lawful before = before
counted_after problem stage (note ∷ notes) lawful before = counted_after problem (after stage note) notes lawful.1 (counted_push problem stage note lawful.0 before)

-- Where nothing is owed, what was learned is what was spent and one line for each answer.
pub learned_count : (problem : Problem) (notes : List Note) → AreLines problem first_stage notes → (stage_after first_stage notes).owed ≡ None → length (learned_in notes) ≡ (stage_after first_stage notes).spent + length (answers_in notes)
learned_count problem notes lawful nothing =
    let counted = counted_after problem first_stage notes lawful refl in
    let none : owes (stage_after first_stage notes).owed ≡ 0 = ap owes nothing in
    let lines = lines_after first_stage notes in
    omega (arith, counted, none, ap (λ l. length (learned_in l)) lines, ap (λ l. length (answers_in l)) lines)

spent_few : (owed : Option (List ℕ)) (note : Note) → spent_by owed note ≤ length (nogoods_in (note ∷ []))
spent_few None (Temporary nogood) = omega arith
spent_few (Some answer) (Temporary nogood) = omega arith
spent_few owed (Kept nogood) = omega arith
spent_few owed note = omega arith

spent_after : (stage : Stage) (notes : List Note) → stage.spent ≤ length (nogoods_in stage.lines) → (stage_after stage notes).spent ≤ length (nogoods_in (stage_after stage notes).lines)
spent_after stage [] before = before
spent_after stage (note ∷ notes) before = spent_after (after stage note) notes (omega (arith, spent_few stage.owed note, nogoods-append stage.lines (note ∷ [])))

-- No more is spent than there are lines with nogoods.
pub spent_within : (notes : List Note) → (stage_after first_stage notes).spent ≤ length (nogoods_in notes)
spent_within notes = omega (arith, spent_after first_stage notes (omega arith), ap (λ l. length (nogoods_in l)) (lines_after first_stage notes))

pub lines_few : (problem : Problem) (notes : List Note) → AreLines problem first_stage notes → length (nogoods_in notes) ≤ 3 ^ problem.things
lines_few problem notes lawful =
    let all = lines_apart problem notes lawful in
    few_nogoods problem.things (nogoods_in notes) (apart_differ problem (nogoods_in notes) all) all.ordered

pub no_cut : (problem : Problem) (notes : List Note) → AreLines problem first_stage notes → 3 ^ problem.things < problem.limit → EndsRun problem (stage_after first_stage notes) Cut → ⊥
no_cut problem notes lawful great ends =
    let cut : (stage_after first_stage notes).spent ≡ problem.limit = ends.reason.1 in
    omega (arith, spent_within notes, lines_few problem notes lawful)

pub cut_spent : (problem : Problem) (notes : List Note) (ending : Ending) → ending ≡ Cut → EndsRun problem (stage_after first_stage notes) ending → (stage_after first_stage notes).spent ≡ problem.limit
cut_spent problem notes ending cut ends = (subst (EndsFor problem (stage_after first_stage notes)) cut ends.reason).1
