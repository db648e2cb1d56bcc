-- A theory that forbids variables to be true.
use Rattle.std.specs.Prelude.{ℕ, ◌≡◌, ◌<◌, ◌∷◌, [], Some, Bool, true, false, List}
use Rattle.std.proofs.Common.{lit<, sym, ◌∙◌, ap, subst}
use Rattle.std.proofs.lemmas.Bool.{both_ways}
use Rattle.ms_nogood.specs.Theories.{HasAll, IsTotal}
use Rattle.ms_search.specs.Engines.{is_true}
use Rattle.ms_lits.specs.declared.lit.Lit.{Lit}
use Rattle.ms_lits.specs.declared.trail.Entry.{Entry}
use Rattle.ms_lits.specs.Literals.{Nogood}
use Rattle.ms_lits.specs.Assignment.{value_in}

-- The nogood of one of so many variables that is true.
pub record IsForbidden (vars : ℕ) (nogood : Nogood) : Type 0 where
  pub var : ℕ
  pub below : var < vars
  pub is : nogood ≡ record { var = var; truth = true } ∷ []

-- Each of so many variables is false.
abbrev pub AreFalse : ℕ → List Entry → Type 0
AreFalse vars entries = (var : ℕ) → var < vars → value_in entries var ≡ Some false

-- A total assignment with these variables false contains none of these nogoods.
pub accepts_false : (vars : ℕ) (entries : List Entry) (total : ℕ → Bool) (nogood : Nogood) → IsTotal vars entries total → AreFalse vars entries → IsForbidden vars nogood → HasAll total nogood → ⊥
accepts_false vars entries total nogood is_total are f has =
    let one : HasAll total (record { var = f.var; truth = true } ∷ []) = subst (HasAll total) f.is has in
    let holds : total f.var ≡ true = one 0 (record { var = f.var; truth = true }) (lit< tt) in
    let isnt : total f.var ≡ false = ap is_true (sym (is_total f.var f.below) ∙ are f.var f.below) in
    both_ways (total f.var) isnt holds
