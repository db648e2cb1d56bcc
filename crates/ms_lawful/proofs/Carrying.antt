-- Lawful lines of one problem are lawful lines of another one with the same nogoods and more answers.
use Rattle.std.proofs.Common.{ℕ, ◌≡◌, ◌∙◌, Bool, length, map, ◌<◌, ◌≤◌, List, [], ◌∷◌, Option, Some, None, inl, inr, sym, subst}
use Rattle.std.specs.Prelude.{Contains, IsTrue, filter}
use Rattle.ms_lits.specs.declared.lit.Lit.{Lit}
use Rattle.ms_lits.specs.declared.note.Note.{Note}
use Rattle.ms_lits.specs.declared.note.Note.TheVariants.{Theory, Kept, Temporary, Answer}
use Rattle.ms_lits.specs.declared.note.Ending.{Ending}
use Rattle.ms_lits.specs.declared.note.Ending.TheVariants.{Complete, StillOpen, Cut}
use Rattle.ms_lits.specs.Literals.{Nogood, IsNew, IsRefuted}
use Rattle.ms_lawful.specs.Problems.{Problem, IsAdmitted, literal_of}
use Rattle.ms_lawful.specs.Lines.{Stage, AreLines, EndsFor, EndsRun, InFullStore, InStore, IsFresh, IsInOrder, MayFollow, Stands, after, answers_in, of_answer, of_completion, of_theory, kept_before, kept_now, standing, stored, temporary}

-- What is refuted stays so with more nogoods.
pub refuted_more : (Among More : Nogood → Type 0) (start : List Lit) → ((nogood : Nogood) → Among nogood → More nogood) → IsRefuted Among start → IsRefuted More start
refuted_more Among More start more refuted set whole closed =
    elim (refuted set whole (λ nogood among. closed nogood (more nogood among))) [
      | inl has ↦ inl (record { nogood = has.nogood; among = more has.nogood has.among; whole = has.whole })
      | inr both ↦ inr both
    ]

-- What is new is so for fewer nogoods.
pub new_fewer : (Among Fewer : Nogood → Type 0) (nogood : Nogood) → ((small : Nogood) → Fewer small → Among small) → IsNew Among nogood → IsNew Fewer nogood
new_fewer Among Fewer nogood among fresh = record {
  lit = fresh.lit;
  contained = fresh.contained;
  set = fresh.set;
  others = fresh.others;
  closed = λ n fewer. fresh.closed n (among n fewer);
  none_whole = λ has. fresh.none_whole (record { nogood = has.nogood; among = among has.nogood has.among; whole = has.whole });
  one_sign = fresh.one_sign;
  lacks = fresh.lacks;
}

-- The other problem has the same completion nogoods, and no fewer nogoods that a theory gives, answers and admitted
-- assignments; in all else it is the same.
pub record SaysAsMuch (problem other : Problem) : Type 0 where
  pub base : (nogood : Nogood) → problem.Base nogood → other.Base nogood
  pub base_back : (nogood : Nogood) → other.Base nogood → problem.Base nogood
  pub gives : (nogood : Nogood) → problem.Gives nogood → other.Gives nogood
  pub member : (answer : List ℕ) → problem.Member answer → other.Member answer
  pub admits : (truth : ℕ → Bool) → IsAdmitted problem truth → IsAdmitted other truth
  pub things : problem.things ≡ other.things
  pub atoms : problem.atoms ≡ other.atoms
  pub kept : problem.kept ≡ other.kept
  pub impossible : problem.impossible ≡ other.impossible
  pub start : problem.start ≡ other.start
  pub asked : problem.asked ≡ other.asked
  pub limit : problem.limit ≡ other.limit

store_carries : (problem other : Problem) → ((nogood : Nogood) → problem.Base nogood → other.Base nogood) → problem.kept ≡ other.kept → (lines : List Note) (nogood : Nogood) → InStore problem lines nogood → InStore other lines nogood
store_carries problem other base kept lines nogood (of_completion is) = of_completion (base nogood is)
store_carries problem other base kept lines nogood (kept_before among) = kept_before (subst (λ nogoods. Contains nogoods nogood) kept among)
store_carries problem other base kept lines nogood (of_theory among) = of_theory among
store_carries problem other base kept lines nogood (kept_now among) = kept_now among

stands_carries : (problem other : Problem) → ((nogood : Nogood) → problem.Base nogood → other.Base nogood) → problem.kept ≡ other.kept → (lines : List Note) (nogood : Nogood) → Stands problem lines nogood → Stands other lines nogood
stands_carries problem other base kept lines nogood (stored among) = stored (store_carries problem other base kept lines nogood among)
stands_carries problem other base kept lines nogood (temporary among) = temporary among

full_carries : (problem other : Problem) → SaysAsMuch problem other → (lines : List Note) (nogood : Nogood) → InFullStore problem lines nogood → InFullStore other lines nogood
full_carries problem other says lines nogood (standing among) = standing (stands_carries problem other says.base says.kept lines nogood among)
full_carries problem other says lines nogood (of_answer answer) = of_answer (record {
  truth = answer.truth;
  answered = subst (λ atoms. Contains lines (Answer (filter answer.truth atoms))) says.atoms answer.answered;
  signs = subst (λ atoms. nogood ≡ map (literal_of answer.truth) atoms) says.atoms answer.signs;
})

fresh_carries : (problem other : Problem) → SaysAsMuch problem other → (lines : List Note) (nogood : Nogood) → IsFresh problem lines nogood → IsFresh other lines nogood
fresh_carries problem other says lines nogood fresh = record {
  ordered = subst (λ things. IsInOrder things nogood) says.things fresh.ordered;
  contains_none = λ small stands. fresh.contains_none small (stands_carries other problem says.base_back (sym says.kept) lines small stands);
}

new_carries : (problem other : Problem) → SaysAsMuch problem other → (lines : List Note) (nogood : Nogood) → IsNew (Stands problem lines) nogood → IsNew (Stands other lines) nogood
new_carries problem other says lines nogood = new_fewer (Stands problem lines) (Stands other lines) nogood (λ small stands. stands_carries other problem says.base_back (sym says.kept) lines small stands)

line_carries : (problem other : Problem) → SaysAsMuch problem other → (lines : List Note) (owed : Option (List ℕ)) (note : Note) → MayFollow problem lines owed note → MayFollow other lines owed note
line_carries problem other says lines (Some answer) (Temporary nogood) line = record {
  fresh = fresh_carries problem other says lines nogood line.fresh;
  refuted = refuted_more (InFullStore problem lines) (InFullStore other lines) nogood (full_carries problem other says lines) line.refuted;
  truth = line.truth;
  admitted = says.admits line.truth line.admitted;
  answers = subst (λ atoms. filter line.truth atoms ≡ answer) says.atoms line.answers;
  contained = line.contained;
}
line_carries problem other says lines None (Theory nogood) line = record {
  fresh = fresh_carries problem other says lines nogood line.fresh;
  given = says.gives nogood line.given;
}
line_carries problem other says lines None (Kept nogood) line = record {
  fresh = fresh_carries problem other says lines nogood line.fresh;
  refuted = refuted_more (InStore problem lines) (InStore other lines) nogood (store_carries problem other says.base says.kept lines) line.refuted;
  is_new = new_carries problem other says lines nogood line.is_new;
}
line_carries problem other says lines None (Temporary nogood) line = record {
  fresh = fresh_carries problem other says lines nogood line.fresh;
  refuted = refuted_more (InFullStore problem lines) (InFullStore other lines) nogood (full_carries problem other says lines) line.refuted;
  is_new = new_carries problem other says lines nogood line.is_new;
  answered = line.answered;
}
line_carries problem other says lines None (Answer answer) line = record {
  truth = line.truth;
  answers = subst (λ atoms. filter line.truth atoms ≡ answer) says.atoms line.answers;
  member = says.member answer line.member;
  differs = line.differs;
}
line_carries problem other says lines owed note line = absurd line

-- Lawful lines carry over.
pub lines_carry : (problem other : Problem) → SaysAsMuch problem other → (stage : Stage) (notes : List Note) → AreLines problem stage notes → AreLines other stage notes
lines_carry problem other says stage [] lawful = tt
lines_carry problem other says stage (note ∷ notes) lawful = (line_carries problem other says stage.lines stage.owed note lawful.0, lines_carry problem other says (after stage note) notes lawful.1)

ends_for_carries : (problem other : Problem) → SaysAsMuch problem other → (stage : Stage) (ending : Ending) → EndsFor problem stage ending → EndsFor other stage ending
ends_for_carries problem other says stage Complete (fewer, why) = (
  subst (λ asked. length (answers_in stage.lines) < asked) says.asked fewer,
  elim why [
    | inl impossible ↦ inl (subst IsTrue says.impossible impossible)
    | inr refuted ↦ inr (refuted_more (InFullStore problem stage.lines) (InFullStore other stage.lines) other.start (full_carries problem other says stage.lines) (subst (IsRefuted (InFullStore problem stage.lines)) says.start refuted))
  ],
)
ends_for_carries problem other says stage StillOpen many = many ∙ says.asked
ends_for_carries problem other says stage Cut (fewer, spent) = (subst (λ asked. length (answers_in stage.lines) < asked) says.asked fewer, spent ∙ says.limit)

-- So does that a solve may end.
pub ends_carry : (problem other : Problem) → SaysAsMuch problem other → (stage : Stage) (ending : Ending) → EndsRun problem stage ending → EndsRun other stage ending
ends_carry problem other says stage ending ends = record {
  nothing_owed = ends.nothing_owed;
  within = subst (λ limit. stage.spent ≤ limit) says.limit ends.within;
  reason = ends_for_carries problem other says stage ending ends.reason;
}
