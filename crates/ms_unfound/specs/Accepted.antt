-- A total assignment contains no loop nogood where its entries are settled.
use Rattle.std.proofs.Common.{◌≡◌, ◌∙◌, ◌<◌, ℕ, Bool, true, false, List, ◌∷◌, Some, refl, sym, ap, inr, get_or}
use Rattle.std.specs.List.{Contains}
use Rattle.std.proofs.lemmas.Bool.{false≢true}
use Rattle.std.proofs.lemmas.List.Elements.{All-contains, All-contains_itself}
use Rattle.std.proofs.lemmas.Option.{same_Some}
use Rattle.ms_base.proofs.Lists.{Contains-first}
use Rattle.ms_lits.specs.declared.lit.Lit.{Lit}
use Rattle.ms_lits.specs.declared.trail.Entry.{Entry}
use Rattle.ms_lits.specs.Assignment.{value_in}
use Rattle.ms_lits.specs.Literals.{Nogood}
use Rattle.ms_nogood.specs.Theories.{HasAll, IsTotal}
use Rattle.ms_complete.specs.Rules.{fails, holds}
use Rattle.std.specs.Prelude.{map}
use Rattle.ms_unfound.specs.Parts.{Known}
use Rattle.ms_unfound.specs.Loops.{IsGiven, outer_bodies}
use Rattle.ms_unfound.specs.Settled.{IsSettled}

pub accepts : (known : Known) (entries : List Entry) (total : ℕ → Bool) (nogood : Nogood) → IsTotal known.vars entries total → IsSettled known entries → IsGiven known nogood → ¬ HasAll total nogood
accepts known entries total nogood is_total settled given has =
    let of = given.of_part.4 in
    let there : Contains nogood (holds of.var) =
    All-contains (Contains nogood) (holds of.var ∷ map fails (outer_bodies of.loop given.of_part.1.supports)) (holds of.var) of.is.all (Contains-first (holds of.var) (map fails (outer_bodies of.loop given.of_part.1.supports))) in
    let held : (lit : Lit) → Contains nogood lit → value_in entries lit.var ≡ Some lit.truth =
    λ lit among. is_total lit.var (All-contains (λ (l : Lit). l.var < known.vars) nogood lit given.within among) ∙ ap Some (All-contains (λ (l : Lit). total l.var ≡ l.truth) nogood lit has among) in
    settled nogood given (record {
      atom = holds of.var;
      contained = there;
      positive = refl;
      others = λ k d within. inr (held (get_or nogood k d) (All-contains_itself nogood k d within));
      not_false = λ is. false≢true (sym (same_Some true false (sym (held (holds of.var) there) ∙ is)));
    })
