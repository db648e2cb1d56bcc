-- The answer sets of a join that meet assumptions.
use Rattle.std.specs.Prelude.{ℕ, ◌≡◌, List, All}
use Rattle.ms_join.specs.declared.assumption.AtomLit.{AtomLit}
use Rattle.ms_join.specs.declared.ground_rule.Rules.{Rules}
use Rattle.ms_join.specs.AnswerSets.{IsAnswerSet, IsAtomSet, set_of}

-- the set has the atom or lacks it, as it is assumed
abbrev pub MeetsEach : List ℕ → List AtomLit → Type 0
MeetsEach set assume = All (λ s. set_of set s.atom ≡ s.truth) assume

-- The set, as the list of its atoms in rising order, is an answer set over a base of n atoms and meets each assumption.
pub record IsMeetingAnswer (n : ℕ) (join : Rules) (assume : List AtomLit) (set : List ℕ) : Type 0 where
  pub over_base : IsAtomSet n set
  pub answers : IsAnswerSet join (set_of set)
  pub assumed : MeetsEach set assume
