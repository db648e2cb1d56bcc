-- The nogoods of a solve's lines: each contains none that stands before it.
use Rattle.std.proofs.Common.{◌≡◌, ◌≢◌, ◌⊎◌, List, [], ◌∷◌, ◌++◌, get_or, Option, Some, None, inl, inr, sym, subst, refl, arith, append-nil}
use Rattle.std.specs.Prelude.{All, AllPairs, Contains}
use Rattle.std.specs.List.{cons_option}
use Rattle.std.proofs.lemmas.List.Elements.{All-push, All-contains_itself, Contains-get_or, filter_map-append}
use Rattle.std.proofs.lemmas.List.Quantifiers.{all_pairs_push}
use Rattle.ms_lits.specs.declared.note.Note.{Note}
use Rattle.ms_lits.specs.declared.note.Note.TheVariants.{Theory, Kept, Temporary}
use Rattle.ms_lits.specs.Literals.{Nogood, IsContained}
use Rattle.ms_lawful.specs.Problems.{Problem}
use Rattle.ms_lawful.specs.Lines.{Stage, AreLines, IsFresh, IsInOrder, IsLine, Stands, after, first_stage, nogood_of, nogoods_in, of_completion, of_theory, kept_before, kept_now, stage_after, stored, temporary}
use Rattle.ms_lawful.proofs.Lists.{Contains-filter_map}
use Rattle.ms_lawful.proofs.Stages.{line_fresh, lines_after}

-- what a line has stands
stands_by : (problem : Problem) (lines : List Note) (note : Note) (nogood : Nogood) → Contains lines note → nogood_of note ≡ Some nogood → Stands problem lines nogood
stands_by problem lines (Theory n) nogood among is = let same : n ≡ nogood = cc in stored (of_theory (subst (λ (m : Nogood). Contains lines (Theory m)) same among))
stands_by problem lines (Kept n) nogood among is = let same : n ≡ nogood = cc in stored (kept_now (subst (λ (m : Nogood). Contains lines (Kept m)) same among))
stands_by problem lines (Temporary n) nogood among is = let same : n ≡ nogood = cc in temporary (subst (λ (m : Nogood). Contains lines (Temporary m)) same among)
stands_by problem lines note nogood among is = let clash : ⊥ = cc in absurd clash

pub nogoods_stand : (problem : Problem) (lines : List Note) (nogood : Nogood) → Contains (nogoods_in lines) nogood → Stands problem lines nogood
nogoods_stand problem lines nogood among =
    let from = Contains-filter_map nogood_of nogood lines among in
    stands_by problem lines from.0 nogood from.1 from.2

-- What the nogoods of lawful lines are: none contains an earlier one, or one of the completion or kept before; and each
-- is in order.
pub record AreApart (problem : Problem) (nogoods : List Nogood) : Type 0 where
  pub apart : AllPairs (λ nogood later. ¬ IsContained later nogood) nogoods
  pub outside : All (λ nogood. (small : Nogood) → problem.Base small ⊎ Contains problem.kept small → ¬ IsContained nogood small) nogoods
  pub ordered : All (IsInOrder problem.things) nogoods

before_stands : (problem : Problem) (lines : List Note) (small : Nogood) → problem.Base small ⊎ Contains problem.kept small → Stands problem lines small
before_stands problem lines small (inl base) = stored (of_completion base)
before_stands problem lines small (inr among) = stored (kept_before among)

fresh_push : (problem : Problem) (lines : List Note) (nogood : Nogood) → IsFresh problem lines nogood → AreApart problem (nogoods_in lines) → AreApart problem (nogoods_in lines ++ nogood ∷ [])
fresh_push problem lines nogood fresh before = record {
  apart = all_pairs_push (λ n later. ¬ IsContained later n) (nogoods_in lines) nogood before.apart
      (λ k d h. fresh.contains_none (get_or (nogoods_in lines) k d) (nogoods_stand problem lines (get_or (nogoods_in lines) k d) (Contains-get_or (nogoods_in lines) k d h)));
  outside = All-push (λ n. (small : Nogood) → problem.Base small ⊎ Contains problem.kept small → ¬ IsContained n small) (nogoods_in lines) nogood before.outside
      (λ small is. fresh.contains_none small (before_stands problem lines small is));
  ordered = All-push (IsInOrder problem.things) (nogoods_in lines) nogood before.ordered fresh.ordered;
}

-- one more line, by the nogood that it has or hasn't
apart_by : (problem : Problem) (lines : List Note) (note : Note) (o : Option Nogood) → ((nogood : Nogood) → o ≡ Some nogood → IsFresh problem lines nogood) → AreApart problem (nogoods_in lines) → AreApart problem (nogoods_in lines ++ cons_option o [])
apart_by problem lines note None fresh before = subst (AreApart problem) (sym (append-nil (nogoods_in lines))) before
apart_by problem lines note (Some nogood) fresh before = fresh_push problem lines nogood (fresh nogood refl) before

apart_push : (problem : Problem) (stage : Stage) (note : Note) → IsLine problem stage note → AreApart problem (nogoods_in stage.lines) → AreApart problem (nogoods_in (stage.lines ++ note ∷ []))
apart_push problem stage note line before =
    subst (AreApart problem) (sym (filter_map-append nogood_of stage.lines (note ∷ [])))
    (apart_by problem stage.lines note (nogood_of note) (λ nogood is. line_fresh problem stage.lines stage.owed note nogood line is) before)

apart_after : (problem : Problem) (stage : Stage) (notes : List Note) → AreLines problem stage notes → AreApart problem (nogoods_in stage.lines) → AreApart problem (nogoods_in (stage_after stage notes).lines)
apart_after problem stage [] lawful before = before
apart_after problem stage (note ∷ notes) lawful before = apart_after problem (after stage note) notes lawful.1 (apart_push problem stage note lawful.0 before)

apart_first : (problem : Problem) → AreApart problem []
apart_first problem = record {
  apart = λ i j d less within. absurd (omega arith);
  outside = λ k d h. absurd (omega arith);
  ordered = λ k d h. absurd (omega arith);
}

pub lines_apart : (problem : Problem) (notes : List Note) → AreLines problem first_stage notes → AreApart problem (nogoods_in notes)
lines_apart problem notes lawful = subst (λ lines. AreApart problem (nogoods_in lines)) (lines_after first_stage notes) (apart_after problem first_stage notes lawful (apart_first problem))

pub apart_differ : (problem : Problem) (nogoods : List Nogood) → AreApart problem nogoods → AllPairs (λ nogood later. nogood ≢ later) nogoods
apart_differ problem nogoods all = λ i j d less within same. all.apart i j d less within
    (subst (λ later. IsContained later (get_or nogoods i d)) same (All-contains_itself (get_or nogoods i d)))
