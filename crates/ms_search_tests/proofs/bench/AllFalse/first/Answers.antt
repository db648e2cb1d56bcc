use Rattle.std.proofs.Common.{◌≡◌, ◌∷◌, [], ◌⊎◌, ◌∙◌, ℕ, List, Option, Some, None, Bool, true, false, inl, inr, refl, sym, lit<}
use Rattle.std.specs.Prelude.{is_some}
use Rattle.std.proofs.lemmas.List.Elements.{All-cons, All-nil}
use Rattle.ms_lits.specs.declared.lit.Lit.{Lit}
use Rattle.ms_lits.specs.declared.trail.Entry.{Entry}
use Rattle.ms_lits.specs.Assignment.{HoldsIn, IsUnitIn, value_in}
use Rattle.ms_nogood.specs.Theories.{HasOpen}
use Rattle.ms_search_tests.proofs.bench.AllFalse.first.Goals as goal

none_of : (value : Option Bool) → is_some value ≡ false → value ≡ None
none_of None is = refl
none_of (Some truth) is = cc

open_one : (entries : List Entry) (var : ℕ) → value_in entries var ≡ None → HasOpen entries (record { var = var; truth = true } ∷ [])
open_one entries var free = record {
  lit = record { var = var; truth = true };
  unit = record {
    contained = (0, lit< tt, refl);
    unassigned = free;
    others = All-cons (λ (other : Lit). (other ≡ record { var = var; truth = true }) ⊎ HoldsIn entries other) (record { var = var; truth = true }) [] (inl refl) (All-nil (λ (other : Lit). (other ≡ record { var = var; truth = true }) ⊎ HoldsIn entries other));
  };
}

pub returns-then-is_none-clause-found : goal.returns-then-is_none-clause-found
returns-then-is_none-clause-found c = inr (open_one c.args.trail.now.entries c.loop-var-2.var (sym c.value-in-loop-var-2.ensures ∙ none_of c.value-in-loop-var-2.result c.if-is_none.ensures))
