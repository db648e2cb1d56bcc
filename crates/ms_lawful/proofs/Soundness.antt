-- What a solve's lines say of the assignments that it looks for.
use Rattle.std.proofs.Common.{ℕ, ◌≡◌, ◌∙◌, ◌<◌, Bool, List, [], ◌∷◌, ◌++◌, Option, Some, None, inl, inr, sym, subst, refl, arith}
use Rattle.std.specs.Prelude.{Contains}
use Rattle.std.proofs.lemmas.Bool.{false≢true}
use Rattle.std.proofs.lemmas.List.Elements.{All-contains, Contains-append_left, Contains-push_cases}
use Rattle.ms_lits.specs.declared.note.Note.{Note}
use Rattle.ms_lits.specs.declared.note.Note.TheVariants.{Theory, Kept, Temporary, Answer}
use Rattle.ms_lits.specs.declared.note.Ending.TheVariants.{Complete}
use Rattle.ms_lits.specs.Literals.{Nogood, IsRefuted}
use Rattle.ms_lawful.specs.Problems.{Problem, HasNogood, HasNoKept, IsAdmitted, MeetsStart, true_atoms}
use Rattle.ms_lawful.specs.Lines.{Stage, AreLines, EndsRun, IsLine, MayFollow, InFullStore, InStore, IsOfAnswer, after, first_stage, of_answer, of_completion, of_theory, kept_before, kept_now, stage_after, standing, stored, temporary}
use Rattle.ms_lawful.proofs.Assignments.{refuted_in_none, same_atoms}
use Rattle.ms_lawful.proofs.Stages.{answered_or_not, lines_after, lines_parts}

-- The assignment contains nothing of the store.
abbrev pub HasNothing : Problem → (ℕ → Bool) → List Note → Type 0
HasNothing problem truth lines = (nogood : Nogood) → InStore problem lines nogood → HasNogood truth nogood → ⊥

-- What it contains of the full store was answered.
abbrev pub IsAnswered : Problem → (ℕ → Bool) → List Note → Type 0
IsAnswered problem truth lines = (nogood : Nogood) → InFullStore problem lines nogood → HasNogood truth nogood → Contains lines (Answer (true_atoms problem truth))

-- a line of a theory
theory_line : (problem : Problem) (lines : List Note) (owed : Option (List ℕ)) (note : Note) (nogood : Nogood) → MayFollow problem lines owed note → note ≡ Theory nogood → problem.Gives nogood
theory_line problem lines None (Theory n) nogood line is = let same : n ≡ nogood = cc in subst problem.Gives same line.given
theory_line problem lines (Some answer) (Theory n) nogood line is = absurd line
theory_line problem lines owed note nogood line is = let clash : ⊥ = cc in absurd clash

pub kept_line : (problem : Problem) (lines : List Note) (owed : Option (List ℕ)) (note : Note) (nogood : Nogood) → MayFollow problem lines owed note → note ≡ Kept nogood → IsRefuted (InStore problem lines) nogood
kept_line problem lines None (Kept n) nogood line is = let same : n ≡ nogood = cc in subst (IsRefuted (InStore problem lines)) same line.refuted
kept_line problem lines (Some answer) (Kept n) nogood line is = absurd line
kept_line problem lines owed note nogood line is = let clash : ⊥ = cc in absurd clash

pub temporary_line : (problem : Problem) (lines : List Note) (owed : Option (List ℕ)) (note : Note) (nogood : Nogood) → MayFollow problem lines owed note → note ≡ Temporary nogood → IsRefuted (InFullStore problem lines) nogood
temporary_line problem lines None (Temporary n) nogood line is = let same : n ≡ nogood = cc in subst (IsRefuted (InFullStore problem lines)) same line.refuted
temporary_line problem lines (Some answer) (Temporary n) nogood line is = let same : n ≡ nogood = cc in subst (IsRefuted (InFullStore problem lines)) same line.refuted
temporary_line problem lines owed note nogood line is = let clash : ⊥ = cc in absurd clash

-- one more line
nothing_push : (problem : Problem) (truth : ℕ → Bool) (stage : Stage) (note : Note) → IsAdmitted problem truth → HasNoKept problem truth → HasNothing problem truth stage.lines → IsLine problem stage note → HasNothing problem truth (stage.lines ++ note ∷ [])
nothing_push problem truth stage note admitted kept nothing line nogood (of_completion base) has = admitted.completed nogood base has
nothing_push problem truth stage note admitted kept nothing line nogood (kept_before among) has = All-contains (λ n. ¬ HasNogood truth n) problem.kept nogood kept among has
nothing_push problem truth stage note admitted kept nothing line nogood (of_theory among) has =
    elim (Contains-push_cases stage.lines note (Theory nogood) among) [
      | inl before ↦ nothing nogood (of_theory before) has
      | inr same ↦ admitted.accepted nogood (theory_line problem stage.lines stage.owed note nogood line same) has
    ]
nothing_push problem truth stage note admitted kept nothing line nogood (kept_now among) has =
    elim (Contains-push_cases stage.lines note (Kept nogood) among) [
      | inl before ↦ nothing nogood (kept_now before) has
      | inr same ↦ refuted_in_none (InStore problem stage.lines) truth nogood nothing (kept_line problem stage.lines stage.owed note nogood line same) has
    ]

nothing_after : (problem : Problem) (truth : ℕ → Bool) (stage : Stage) (notes : List Note) → IsAdmitted problem truth → HasNoKept problem truth → HasNothing problem truth stage.lines → AreLines problem stage notes → HasNothing problem truth (stage_after stage notes).lines
nothing_after problem truth stage [] admitted kept nothing lawful = nothing
nothing_after problem truth stage (note ∷ notes) admitted kept nothing lawful =
    nothing_after problem truth (after stage note) notes admitted kept (nothing_push problem truth stage note admitted kept nothing lawful.0) lawful.1

-- before the first line
nothing_first : (problem : Problem) (truth : ℕ → Bool) → IsAdmitted problem truth → HasNoKept problem truth → HasNothing problem truth []
nothing_first problem truth admitted kept nogood (of_completion base) has = admitted.completed nogood base has
nothing_first problem truth admitted kept nogood (kept_before among) has = All-contains (λ n. ¬ HasNogood truth n) problem.kept nogood kept among has
nothing_first problem truth admitted kept nogood (of_theory among) has = let h : among.0 < 0 = among.1 in absurd (omega arith)
nothing_first problem truth admitted kept nogood (kept_now among) has = let h : among.0 < 0 = among.1 in absurd (omega arith)

-- An admitted assignment that contains no nogood kept before contains nothing of the store of a lawful solve.
pub store_sound : (problem : Problem) (truth : ℕ → Bool) (notes : List Note) → IsAdmitted problem truth → HasNoKept problem truth → AreLines problem first_stage notes → HasNothing problem truth notes
store_sound problem truth notes admitted kept lawful =
    subst (HasNothing problem truth) (lines_after first_stage notes) (nothing_after problem truth first_stage notes admitted kept (nothing_first problem truth admitted kept) lawful)

-- What is refuted with the full store is contained only where there was an answer with these atoms.
pub refuted_or_answered : (problem : Problem) (truth : ℕ → Bool) (lines : List Note) (nogood : Nogood) → IsAnswered problem truth lines → IsRefuted (InFullStore problem lines) nogood → HasNogood truth nogood → Contains lines (Answer (true_atoms problem truth))
refuted_or_answered problem truth lines nogood answered refuted has =
    elim (answered_or_not lines (true_atoms problem truth)) [
      | inl among ↦ among
      | inr not ↦ absurd (refuted_in_none (InFullStore problem lines) truth nogood (λ n among whole. not (answered n among whole)) refuted has)
    ]

answered_push : (problem : Problem) (truth : ℕ → Bool) (stage : Stage) (note : Note) → HasNothing problem truth (stage.lines ++ note ∷ []) → IsAnswered problem truth stage.lines → IsLine problem stage note → IsAnswered problem truth (stage.lines ++ note ∷ [])
answered_push problem truth stage note nothing answered line nogood (standing (stored among)) has = absurd (nothing nogood among has)
answered_push problem truth stage note nothing answered line nogood (standing (temporary among)) has =
    Contains-append_left stage.lines (note ∷ []) (Answer (true_atoms problem truth)) (elim (Contains-push_cases stage.lines note (Temporary nogood) among) [
      | inl before ↦ answered nogood (standing (temporary before)) has
      | inr same ↦ refuted_or_answered problem truth stage.lines nogood answered (temporary_line problem stage.lines stage.owed note nogood line same) has
    ])
answered_push problem truth stage note nothing answered line nogood (of_answer answer) has = answer_same problem truth (stage.lines ++ note ∷ []) nogood answer has
  where
    answer_same : (problem : Problem) (truth : ℕ → Bool) (lines : List Note) (nogood : Nogood) → IsOfAnswer problem lines nogood → HasNogood truth nogood → Contains lines (Answer (true_atoms problem truth))
    answer_same problem truth lines nogood answer has = subst (λ atoms. Contains lines (Answer atoms)) (sym (same_atoms problem truth answer.truth (subst (HasNogood truth) answer.signs has))) answer.answered

answered_after : (problem : Problem) (truth : ℕ → Bool) (stage : Stage) (notes : List Note) → IsAdmitted problem truth → HasNoKept problem truth → HasNothing problem truth stage.lines → IsAnswered problem truth stage.lines → AreLines problem stage notes → IsAnswered problem truth (stage_after stage notes).lines
answered_after problem truth stage [] admitted kept nothing answered lawful = answered
answered_after problem truth stage (note ∷ notes) admitted kept nothing answered lawful =
    let next = nothing_push problem truth stage note admitted kept nothing lawful.0 in
    answered_after problem truth (after stage note) notes admitted kept next (answered_push problem truth stage note next answered lawful.0) lawful.1

answered_first : (problem : Problem) (truth : ℕ → Bool) → IsAdmitted problem truth → HasNoKept problem truth → IsAnswered problem truth []
answered_first problem truth admitted kept nogood (standing (stored among)) has = absurd (nothing_first problem truth admitted kept nogood among has)
answered_first problem truth admitted kept nogood (standing (temporary among)) has = let h : among.0 < 0 = among.1 in absurd (omega arith)
answered_first problem truth admitted kept nogood (of_answer answer) has = let h : answer.answered.0 < 0 = answer.answered.1 in absurd (omega arith)

-- What an admitted assignment contains of the full store was answered.
pub full_sound : (problem : Problem) (truth : ℕ → Bool) (notes : List Note) → IsAdmitted problem truth → HasNoKept problem truth → AreLines problem first_stage notes → IsAnswered problem truth notes
full_sound problem truth notes admitted kept lawful =
    subst (IsAnswered problem truth) (lines_after first_stage notes) (answered_after problem truth first_stage notes admitted kept (nothing_first problem truth admitted kept) (answered_first problem truth admitted kept) lawful)

-- A lawful complete solve lists each admitted assignment that meets what is demanded.
pub complete_lists : (problem : Problem) (truth : ℕ → Bool) (notes : List Note) → IsAdmitted problem truth → HasNoKept problem truth → MeetsStart problem truth → AreLines problem first_stage notes → EndsRun problem (stage_after first_stage notes) Complete → Contains notes (Answer (true_atoms problem truth))
complete_lists problem truth notes admitted kept meets lawful ends =
    elim (ends.reason.1) [
      | inl impossible ↦ absurd (false≢true (sym meets.possible ∙ impossible))
      | inr refuted ↦ refuted_or_answered problem truth notes problem.start (full_sound problem truth notes admitted kept lawful)
          (subst (λ lines. IsRefuted (InFullStore problem lines) problem.start) (lines_after first_stage notes) refuted) meets.demanded
    ]

-- A temporary nogood is contained only in those admitted assignments whose atoms are an earlier answer.
pub temporary_rests : (problem : Problem) (before rest : List Note) (truth : ℕ → Bool) (nogood : Nogood) → AreLines problem first_stage (before ++ Temporary nogood ∷ rest) → IsAdmitted problem truth → HasNoKept problem truth → HasNogood truth nogood → Contains before (Answer (true_atoms problem truth))
temporary_rests problem before rest truth nogood lawful admitted kept has =
    let parts = lines_parts problem first_stage before (Temporary nogood ∷ rest) lawful in
    let stage = stage_after first_stage before in
    let refuted = temporary_line problem stage.lines stage.owed (Temporary nogood) nogood parts.1.0 refl in
    refuted_or_answered problem truth before nogood (full_sound problem truth before admitted kept parts.0)
    (subst (λ lines. IsRefuted (InFullStore problem lines) nogood) (lines_after first_stage before) refuted) has
