-- The answers of a solve, and the lines that are theirs.
use Rattle.std.proofs.Common.{ℕ, ◌≡◌, ◌≢◌, ◌∙◌, Bool, List, [], ◌∷◌, ◌++◌, get_or, Option, Some, None, sym, subst, ap, refl, arith, append-nil}
use Rattle.std.specs.Prelude.{All, AllPairs, Contains}
use Rattle.std.specs.List.{cons_option}
use Rattle.std.proofs.lemmas.List.Elements.{All-push, Contains-get_or, Contains-push, filter_map-append}
use Rattle.std.proofs.lemmas.List.Quantifiers.{all_pairs_push}
use Rattle.ms_lits.specs.declared.note.Note.{Note}
use Rattle.ms_lits.specs.declared.note.Note.TheVariants.{Temporary, Answer}
use Rattle.ms_lits.specs.Literals.{Nogood}
use Rattle.ms_lawful.specs.Problems.{Problem, HasNogood, IsAdmitted, true_atoms}
use Rattle.ms_lawful.specs.Lines.{Stage, AreLines, IsAnswerLine, IsLine, MayFollow, after, answer_of, answers_in, first_stage, owed_after, stage_after}
use Rattle.ms_lawful.proofs.Lists.{Contains-filter_map, Contains-none, filter_map-Contains}
use Rattle.ms_lawful.proofs.Stages.{lines_after, lines_parts, stage_after-append}

-- The answers so far are to be listed, and differ.
pub record AreListed (problem : Problem) (answers : List (List ℕ)) : Type 0 where
  pub members : All problem.Member answers
  pub differ : AllPairs (λ answer later. answer ≢ later) answers

answer_line : (problem : Problem) (lines : List Note) (owed : Option (List ℕ)) (note : Note) (answer : List ℕ) → MayFollow problem lines owed note → answer_of note ≡ Some answer → IsAnswerLine problem lines answer
answer_line problem lines None (Answer a) answer line is = let same : a ≡ answer = cc in subst (IsAnswerLine problem lines) same line
answer_line problem lines (Some a) (Answer b) answer line is = absurd line
answer_line problem lines owed note answer line is = let clash : ⊥ = cc in absurd clash

answered_at : (lines : List Note) (note : Note) (answer : List ℕ) → Contains lines note → answer_of note ≡ Some answer → Contains lines (Answer answer)
answered_at lines (Answer a) answer among is = let same : a ≡ answer = cc in subst (λ (b : List ℕ). Contains lines (Answer b)) same among
answered_at lines note answer among is = let clash : ⊥ = cc in absurd clash

-- between the answers of lines and the lines with answers
pub answered_from : (lines : List Note) (answer : List ℕ) → Contains (answers_in lines) answer → Contains lines (Answer answer)
answered_from lines answer among =
    let from = Contains-filter_map answer_of answer lines among in
    answered_at lines from.0 answer from.1 from.2

pub listed_from : (lines : List Note) (answer : List ℕ) → Contains lines (Answer answer) → Contains (answers_in lines) answer
listed_from lines answer among = filter_map-Contains answer_of (Answer answer) answer lines among refl

listed_one : (problem : Problem) (lines : List Note) (answer : List ℕ) → IsAnswerLine problem lines answer → AreListed problem (answers_in lines) → AreListed problem (answers_in lines ++ answer ∷ [])
listed_one problem lines answer line before = record {
  members = All-push problem.Member (answers_in lines) answer before.members line.member;
  differ = all_pairs_push (λ a later. a ≢ later) (answers_in lines) answer before.differ
      (λ k d h same. line.differs (subst (λ (a : List ℕ). Contains lines (Answer a)) same (answered_from lines (get_or (answers_in lines) k d) (Contains-get_or (answers_in lines) k d h))));
}

listed_by : (problem : Problem) (lines : List Note) (o : Option (List ℕ)) → ((answer : List ℕ) → o ≡ Some answer → IsAnswerLine problem lines answer) → AreListed problem (answers_in lines) → AreListed problem (answers_in lines ++ cons_option o [])
listed_by problem lines None line before = subst (AreListed problem) (sym (append-nil (answers_in lines))) before
listed_by problem lines (Some answer) line before = listed_one problem lines answer (line answer refl) before

listed_push : (problem : Problem) (stage : Stage) (note : Note) → IsLine problem stage note → AreListed problem (answers_in stage.lines) → AreListed problem (answers_in (stage.lines ++ note ∷ []))
listed_push problem stage note line before =
    subst (AreListed problem) (sym (filter_map-append answer_of stage.lines (note ∷ [])))
    (listed_by problem stage.lines (answer_of note) (λ answer is. answer_line problem stage.lines stage.owed note answer line is) before)

listed_after : (problem : Problem) (stage : Stage) (notes : List Note) → AreLines problem stage notes → AreListed problem (answers_in stage.lines) → AreListed problem (answers_in (stage_after stage notes).lines)
listed_after problem stage [] lawful before = before
listed_after problem stage (note ∷ notes) lawful before = listed_after problem (after stage note) notes lawful.1 (listed_push problem stage note lawful.0 before)

pub lines_listed : (problem : Problem) (notes : List Note) → AreLines problem first_stage notes → AreListed problem (answers_in notes)
lines_listed problem notes lawful =
    subst (λ lines. AreListed problem (answers_in lines)) (lines_after first_stage notes)
    (listed_after problem first_stage notes lawful (record { members = λ k d h. absurd (omega arith); differ = λ i j d less within. absurd (omega arith) }))

-- The answer's own line comes next, and an admitted assignment with the answer's atoms contains its nogood.
pub record OwnComesNext (problem : Problem) (answer : List ℕ) (notes : List Note) : Type 0 where
  pub nogood : Nogood
  pub rest : List Note
  pub first : notes ≡ Temporary nogood ∷ rest
  pub truth : ℕ → Bool
  pub admitted : IsAdmitted problem truth
  pub answers : true_atoms problem truth ≡ answer
  pub contained : HasNogood truth nogood

not_owed : (answer : List ℕ) → Some answer ≡ None → ⊥
not_owed answer e = cc

-- a line after an answer
own_next : (problem : Problem) (stage : Stage) (answer : List ℕ) (notes : List Note) → stage.owed ≡ Some answer → AreLines problem stage notes → (stage_after stage notes).owed ≡ None → OwnComesNext problem answer notes
own_next problem stage answer [] owed lawful nothing = absurd (not_owed answer (sym owed ∙ nothing))
own_next problem stage answer (note ∷ notes) owed lawful nothing = own_line note (subst (λ o. MayFollow problem stage.lines o note) owed lawful.0)
  where
    own_line : (first : Note) → MayFollow problem stage.lines (Some answer) first → OwnComesNext problem answer (first ∷ notes)
    own_line (Temporary nogood) line = record { nogood = nogood; rest = notes; first = refl; truth = line.truth; admitted = line.admitted; answers = line.answers; contained = line.contained }
    own_line first line = absurd line

pub own_follows : (problem : Problem) (before notes : List Note) (answer : List ℕ) → AreLines problem first_stage (before ++ Answer answer ∷ notes) → (stage_after first_stage (before ++ Answer answer ∷ notes)).owed ≡ None → OwnComesNext problem answer notes
own_follows problem before notes answer lawful nothing =
    let rest = (lines_parts problem first_stage before (Answer answer ∷ notes) lawful).1 in
    own_next problem (after (stage_after first_stage before) (Answer answer)) answer notes refl rest.1
    (ap (λ s. s.owed) (sym (stage_after-append first_stage before (Answer answer ∷ notes))) ∙ nothing)

-- where a line is owed there was an answer
abbrev IsOwedRightly : Stage → Type 0
IsOwedRightly stage = (answer : List ℕ) → stage.owed ≡ Some answer → Contains stage.lines (Answer answer)

owed_line : (lines : List Note) (note : Note) (answer : List ℕ) → owed_after note ≡ Some answer → Contains (lines ++ note ∷ []) (Answer answer)
owed_line lines (Answer a) answer is = let same : a ≡ answer = cc in subst (λ (b : List ℕ). Contains (lines ++ Answer a ∷ []) (Answer b)) same (Contains-push lines (Answer a))
owed_line lines note answer is = let clash : ⊥ = cc in absurd clash

rightly_after : (stage : Stage) (notes : List Note) → IsOwedRightly stage → IsOwedRightly (stage_after stage notes)
rightly_after stage [] before = before
rightly_after stage (note ∷ notes) before = rightly_after (after stage note) notes (λ answer is. owed_line stage.lines note answer is)

some_answer : (lines : List Note) (answer : List ℕ) → Contains lines (Answer answer) → answers_in lines ≢ []
some_answer lines answer among none = Contains-none answer (subst (λ answers. Contains answers answer) none (listed_from lines answer among))

temporary_by : (problem : Problem) (lines : List Note) (owed : Option (List ℕ)) (nogood : Nogood) → ((answer : List ℕ) → owed ≡ Some answer → Contains lines (Answer answer)) → MayFollow problem lines owed (Temporary nogood) → answers_in lines ≢ []
temporary_by problem lines None nogood rightly line = line.answered
temporary_by problem lines (Some answer) nogood rightly line = some_answer lines answer (rightly answer refl)

-- A temporary line stands after an answer.
pub temporary_answered : (problem : Problem) (before rest : List Note) (nogood : Nogood) → AreLines problem first_stage (before ++ Temporary nogood ∷ rest) → answers_in before ≢ []
temporary_answered problem before rest nogood lawful =
    let stage = stage_after first_stage before in
    let line = (lines_parts problem first_stage before (Temporary nogood ∷ rest) lawful).1.0 in
    let rightly = rightly_after first_stage before (λ answer is. absurd (not_owed answer (sym is))) in
    subst (λ lines. answers_in lines ≢ []) (lines_after first_stage before) (temporary_by problem stage.lines stage.owed nogood rightly line)
