-- Stages, one line after another.
use Rattle.std.proofs.Common.{ℕ, ◌≡◌, ◌∙◌, ◌<◌, ◌⊎◌, List, [], ◌∷◌, ◌++◌, Option, Some, None, inl, inr, sym, subst, ap, refl, arith, append_assoc, append-nil}
use Rattle.std.specs.Prelude.{Contains}
use Rattle.std.proofs.lemmas.List.Elements.{Contains-append_left, Contains-push_cases}
use Rattle.std.proofs.lemmas.Slice.Eq.{bytes_eq-Decides}
use Rattle.std.specs.Str.{bytes_eq}
use Rattle.std.proofs.lemmas.Bool.{cases_Bool, false≢true}
use Rattle.ms_lits.specs.declared.note.Note.{Note}
use Rattle.ms_lits.specs.declared.note.Note.TheVariants.{Theory, Kept, Temporary, Answer}
use Rattle.ms_lits.specs.Literals.{Nogood}
use Rattle.ms_lawful.proofs.Lists.{Contains-cons, Contains-cons_cases, Contains-here}
use Rattle.ms_lawful.specs.Problems.{Problem, true_atoms}
use Rattle.ms_lawful.specs.Lines.{Stage, AreLines, IsLine, MayFollow, InFullStore, InStore, IsFresh, IsOfAnswer, Stands, after, nogood_of, of_answer, of_completion, of_theory, kept_before, kept_now, stage_after, standing, stored, temporary}

pub lines_after : (stage : Stage) (notes : List Note) → (stage_after stage notes).lines ≡ stage.lines ++ notes
lines_after stage [] = sym (append-nil stage.lines)
lines_after stage (note ∷ notes) = lines_after (after stage note) notes ∙ append_assoc stage.lines (note ∷ []) notes

pub stage_after-append : (stage : Stage) (before notes : List Note) → stage_after stage (before ++ notes) ≡ stage_after (stage_after stage before) notes
stage_after-append stage [] notes = refl
stage_after-append stage (note ∷ before) notes = stage_after-append (after stage note) before notes

-- Lawful lines are lawful ones and then others, and the other way round.
pub lines_parts : (problem : Problem) (stage : Stage) (before notes : List Note) → AreLines problem stage (before ++ notes) → AreLines problem stage before × AreLines problem (stage_after stage before) notes
lines_parts problem stage [] notes lawful = (tt, lawful)
lines_parts problem stage (note ∷ before) notes lawful =
    let rest = lines_parts problem (after stage note) before notes lawful.1 in
    ((lawful.0, rest.0), rest.1)

pub lines_append : (problem : Problem) (stage : Stage) (before notes : List Note) → AreLines problem stage before → AreLines problem (stage_after stage before) notes → AreLines problem stage (before ++ notes)
lines_append problem stage [] notes first second = second
lines_append problem stage (note ∷ before) notes first second = (first.0, lines_append problem (after stage note) before notes first.1 second)

-- One more lawful line.
pub lines_push : (problem : Problem) (stage : Stage) (before : List Note) (note : Note) → AreLines problem stage before → IsLine problem (stage_after stage before) note → AreLines problem stage (before ++ note ∷ [])
lines_push problem stage before note first line = lines_append problem stage before (note ∷ []) first (line, tt)

pub stage_after-push : (stage : Stage) (before : List Note) (note : Note) → stage_after stage (before ++ note ∷ []) ≡ after (stage_after stage before) note
stage_after-push stage before note = stage_after-append stage before (note ∷ [])

-- What is stored, stands or is in the full store after one more line.
pub store_push_cases : (problem : Problem) (lines : List Note) (note : Note) (nogood : Nogood) → InStore problem (lines ++ note ∷ []) nogood → InStore problem lines nogood ⊎ ((note ≡ Theory nogood) ⊎ (note ≡ Kept nogood))
store_push_cases problem lines note nogood (of_completion base) = inl (of_completion base)
store_push_cases problem lines note nogood (kept_before among) = inl (kept_before among)
store_push_cases problem lines note nogood (of_theory among) = elim (Contains-push_cases lines note (Theory nogood) among) [
  | inl before ↦ inl (of_theory before)
  | inr same ↦ inr (inl same)
]
store_push_cases problem lines note nogood (kept_now among) = elim (Contains-push_cases lines note (Kept nogood) among) [
  | inl before ↦ inl (kept_now before)
  | inr same ↦ inr (inr same)
]

pub stands_push_cases : (problem : Problem) (lines : List Note) (note : Note) (nogood : Nogood) → Stands problem (lines ++ note ∷ []) nogood → Stands problem lines nogood ⊎ (nogood_of note ≡ Some nogood)
stands_push_cases problem lines note nogood (stored among) = elim (store_push_cases problem lines note nogood among) [
  | inl before ↦ inl (stored before)
  | inr same ↦ elim same [ inl given ↦ inr (ap nogood_of given) | inr learned ↦ inr (ap nogood_of learned) ]
]
stands_push_cases problem lines note nogood (temporary among) = elim (Contains-push_cases lines note (Temporary nogood) among) [
  | inl before ↦ inl (temporary before)
  | inr same ↦ inr (ap nogood_of same)
]

pub full_push_cases : (problem : Problem) (lines : List Note) (note : Note) (nogood : Nogood) → InFullStore problem (lines ++ note ∷ []) nogood → InFullStore problem lines nogood ⊎ ((nogood_of note ≡ Some nogood) ⊎ IsOfAnswer problem (note ∷ []) nogood)
full_push_cases problem lines note nogood (standing among) = elim (stands_push_cases problem lines note nogood among) [
  | inl before ↦ inl (standing before)
  | inr same ↦ inr (inl same)
]
full_push_cases problem lines note nogood (of_answer answer) = elim (Contains-push_cases lines note (Answer (true_atoms problem answer.truth)) answer.answered) [
  | inl before ↦ inl (of_answer (record { truth = answer.truth; answered = before; signs = answer.signs }))
  | inr same ↦ inr (inr (record { truth = answer.truth; answered = Contains-here note (Answer (true_atoms problem answer.truth)) [] same; signs = answer.signs }))
]

-- What stands or is stored goes on doing so.
pub store_more : (problem : Problem) (lines more : List Note) (nogood : Nogood) → InStore problem lines nogood → InStore problem (lines ++ more) nogood
store_more problem lines more nogood (of_completion base) = of_completion base
store_more problem lines more nogood (kept_before among) = kept_before among
store_more problem lines more nogood (of_theory among) = of_theory (Contains-append_left lines more (Theory nogood) among)
store_more problem lines more nogood (kept_now among) = kept_now (Contains-append_left lines more (Kept nogood) among)

pub stands_more : (problem : Problem) (lines more : List Note) (nogood : Nogood) → Stands problem lines nogood → Stands problem (lines ++ more) nogood
stands_more problem lines more nogood (stored among) = stored (store_more problem lines more nogood among)
stands_more problem lines more nogood (temporary among) = temporary (Contains-append_left lines more (Temporary nogood) among)

pub full_more : (problem : Problem) (lines more : List Note) (nogood : Nogood) → InFullStore problem lines nogood → InFullStore problem (lines ++ more) nogood
full_more problem lines more nogood (standing among) = standing (stands_more problem lines more nogood among)
full_more problem lines more nogood (of_answer answer) = of_answer (record {
  truth = answer.truth;
  answered = Contains-append_left lines more (Answer (true_atoms problem answer.truth)) answer.answered;
  signs = answer.signs;
})

some_same : (a b : Nogood) → Some a ≡ Some b → a ≡ b
some_same a b e = cc

none_some : (a : Nogood) → None ≡ Some a → ⊥
none_some a e = cc

-- Each line with a nogood is fresh.
pub line_fresh : (problem : Problem) (lines : List Note) (owed : Option (List ℕ)) (note : Note) (nogood : Nogood) → MayFollow problem lines owed note → nogood_of note ≡ Some nogood → IsFresh problem lines nogood
line_fresh problem lines (Some answer) (Temporary n) nogood line is = subst (IsFresh problem lines) (some_same n nogood is) line.fresh
line_fresh problem lines None (Theory n) nogood line is = subst (IsFresh problem lines) (some_same n nogood is) line.fresh
line_fresh problem lines None (Kept n) nogood line is = subst (IsFresh problem lines) (some_same n nogood is) line.fresh
line_fresh problem lines None (Temporary n) nogood line is = subst (IsFresh problem lines) (some_same n nogood is) line.fresh
line_fresh problem lines None (Answer answer) nogood line is = absurd (none_some nogood is)
line_fresh problem lines owed note nogood line is = absurd line

same_answer : (note : Note) (answer : List ℕ) → (note ≡ Answer answer) ⊎ (note ≡ Answer answer → ⊥)
same_answer (Answer other) answer =
    elim (cases_Bool (bytes_eq other answer)) [
      | inl same ↦ inl (ap Answer ((bytes_eq-Decides other answer).0 same))
      | inr differ ↦ inr (λ e. let inside : other ≡ answer = cc in false≢true (sym differ ∙ (bytes_eq-Decides other answer).1 inside))
    ]
same_answer note answer = inr (λ e. cc)

-- Whether an answer is among the lines can be decided.
pub answered_or_not : (lines : List Note) (answer : List ℕ) → Contains lines (Answer answer) ⊎ (Contains lines (Answer answer) → ⊥)
answered_or_not [] answer = inr (λ c. absurd (let h : c.0 < 0 = c.1 in omega arith))
answered_or_not (note ∷ lines) answer =
    elim (same_answer note answer) [
      | inl same ↦ inl (Contains-here note (Answer answer) lines same)
      | inr differ ↦ elim (answered_or_not lines answer) [
        | inl among ↦ inl (Contains-cons note (Answer answer) lines among)
        | inr none ↦ inr (λ c. elim (Contains-cons_cases note (Answer answer) lines c) [ inl e ↦ differ e | inr among ↦ none among ])
      ]
    ]
