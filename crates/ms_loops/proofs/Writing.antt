-- A set of signed things that hold can be written as a nogood.
use Rattle.std.proofs.Common.{◌≡◌, ◌∙◌, ◌⊎◌, ℕ, ◌<◌, Bool, List, [], ◌∷◌, Some, get_or, refl, sym, ap, subst, inl, inr, arith}
use Rattle.std.specs.Prelude.{slice_get}
use Rattle.std.specs.List.{All, AllPairs, Any, Contains}
use Rattle.std.proofs.lemmas.Bool.{cases_eq, cases_lt}
use Rattle.std.proofs.lemmas.List.Elements.{All-cons, All-contains, All-contains_itself, All-head, All-nil, All-tail, All-weaker}
use Rattle.std.proofs.lemmas.List.Kept.{AllPairs-cons}
use Rattle.ms_lits.specs.declared.lit.Lit.{Lit}
use Rattle.ms_lits.specs.Literals.{Nogood}
use Rattle.ms_join.specs.Things.{Thing}
use Rattle.ms_things.specs.Signs.{IsContainedIn, IsFor, IsNogoodOf, Signed}
use Rattle.ms_base.proofs.Lists.{Contains-behind, Contains-first}
use Rattle.ms_loops.proofs.Members.{any_at, any_here, any_later, pairs_head, pairs_nil, pairs_tail}

abbrev Rises : Lit → Lit → Type 0
Rises lit next = lit.var < next.var

record Inserted (truths : ℕ → Bool) (lit : Lit) (old : Nogood) : Type 0 where
  new : Nogood
  rising : AllPairs Rises new
  among : All (λ l. (l ≡ lit) ⊎ Contains old l) new
  keeps : All (Contains new) old
  has : Contains new lit

-- Of one number there is one literal that holds.
one_lit : (truths : ℕ → Bool) (a b : Lit) → truths a.var ≡ a.truth → truths b.var ≡ b.truth → a.var ≡ b.var → a ≡ b
one_lit truths a b first second same =
    let truth : a.truth ≡ b.truth = sym first ∙ ap truths same ∙ second in
    let by_number : ℕ → Lit = λ n. record { var = n; truth = a.truth } in
    let by_truth : Bool → Lit = λ t. record { var = b.var; truth = t } in
    ap by_number same ∙ ap by_truth truth

inserted : (truths : ℕ → Bool) (lit : Lit) (old : Nogood) → truths lit.var ≡ lit.truth → IsContainedIn truths old → AllPairs Rises old → Inserted truths lit old
inserted truths lit [] holds contained rising = record {
  new = lit ∷ [];
  rising = AllPairs-cons Rises lit [] (All-nil (Rises lit)) (pairs_nil Rises);
  among = All-cons (λ l. (l ≡ lit) ⊎ Contains [] l) lit [] (inl refl) (All-nil (λ l. (l ≡ lit) ⊎ Contains [] l));
  keeps = All-nil (Contains (lit ∷ []));
  has = Contains-first lit [];
}
inserted truths lit (next ∷ rest) holds contained rising =
    let above : All (Rises next) rest = pairs_head Rises next rest rising in
    elim (cases_lt lit.var next.var) [
      | inl less ↦ record {
        new = lit ∷ next ∷ rest;
        rising = AllPairs-cons Rises lit (next ∷ rest)
            (All-cons (Rises lit) next rest less (All-weaker (Rises next) (Rises lit) (λ l more. omega (arith, less, more)) rest above)) rising;
        among = All-cons (λ l. (l ≡ lit) ⊎ Contains (next ∷ rest) l) lit (next ∷ rest) (inl refl) (λ k d within. inr (All-contains_itself (next ∷ rest) k d within));
        keeps = λ k d within. Contains-behind lit (next ∷ rest) (get_or (next ∷ rest) k d) (All-contains_itself (next ∷ rest) k d within);
        has = Contains-first lit (next ∷ rest);
      }
      | inr least ↦ elim (cases_eq lit.var next.var) [
        | inl same ↦
            let is : lit ≡ next = one_lit truths lit next holds (All-head (λ l. truths l.var ≡ l.truth) next rest contained) same in
            record {
              new = next ∷ rest;
              rising = rising;
              among = λ k d within. inr (All-contains_itself (next ∷ rest) k d within);
              keeps = All-contains_itself (next ∷ rest);
              has = subst (Contains (next ∷ rest)) (sym is) (Contains-first next rest);
            }
        | inr differ ↦
            let more : next.var < lit.var = omega (arith, least, differ) in
            let i = inserted truths lit rest holds (All-tail (λ l. truths l.var ≡ l.truth) next rest contained) (pairs_tail Rises next rest rising) in
            record {
              new = next ∷ i.new;
              rising = AllPairs-cons Rises next i.new
                  (λ k d within. elim (i.among k d within) [
                    | inl is ↦ subst (Rises next) (sym is) more
                    | inr old ↦ All-contains (Rises next) rest (get_or i.new k d) above old
                  ])
                  i.rising;
              among = All-cons (λ l. (l ≡ lit) ⊎ Contains (next ∷ rest) l) next i.new (inr (Contains-first next rest))
                  (λ k d within. elim (i.among k d within) [
                    | inl is ↦ inl is
                    | inr old ↦ inr (Contains-behind next rest (get_or i.new k d) old)
                  ]);
              keeps = All-cons (Contains (next ∷ i.new)) next rest (Contains-first next i.new)
                  (λ k d within. Contains-behind next i.new (get_or rest k d) (i.keeps k d within));
              has = Contains-behind next i.new lit i.has;
            }
      ]
    ]

-- The thing has a number, and under these truths the sign that is asked of it.
pub record Holds (things : List Thing) (truths : ℕ → Bool) (s : Signed) : Type 0 where
  pub number : ℕ
  pub there : slice_get things number ≡ Some s.thing
  pub truth : truths number ≡ s.truth

pub record Written (things : List Thing) (truths : ℕ → Bool) (signs : List Signed) : Type 0 where
  pub nogood : Nogood
  pub is : IsNogoodOf things signs nogood
  pub contained : IsContainedIn truths nogood

module _ (things : List Thing) (truths : ℕ → Bool) where
  abbrev IsOfSet : List Signed → Lit → Type 0
  IsOfSet signs lit = Any (λ s. IsFor things s lit) signs

  -- a set with one sign more
  with_sign : (s : Signed) (signs : List Signed) → Holds things truths s → Written things truths signs → Written things truths (s ∷ signs)
  with_sign s signs holds w =
      let lit : Lit = record { var = holds.number; truth = s.truth } in
      let i = inserted truths lit w.nogood holds.truth w.contained w.is.rising in
      record {
        nogood = i.new;
        is = record {
          rising = i.rising;
          of_set = λ k d within. elim (i.among k d within) [
            | inl is ↦ any_here (λ t. IsFor things t (get_or i.new k d)) s signs (subst (IsFor things s) (sym is) (holds.there, refl))
            | inr old ↦
                any_later (λ t. IsFor things t (get_or i.new k d)) s signs
                (All-contains (IsOfSet signs) w.nogood (get_or i.new k d) w.is.of_set old)
          ];
          whole = All-cons (λ t. Any (IsFor things t) i.new) s signs (any_at (IsFor things s) i.new lit i.has (holds.there, refl))
              (λ k d within.
              let here = w.is.whole k d within in
              any_at (IsFor things (get_or signs k d)) i.new here.1
              (All-contains (Contains i.new) w.nogood here.1 i.keeps (here.0, here.2, here.3)) here.4);
        };
        contained = λ k d within. elim (i.among k d within) [
          | inl is ↦ subst (λ (l : Lit). truths l.var ≡ l.truth) (sym is) holds.truth
          | inr old ↦ All-contains (λ (l : Lit). truths l.var ≡ l.truth) w.nogood (get_or i.new k d) w.contained old
        ];
      }

  pub written : (signs : List Signed) → All (Holds things truths) signs → Written things truths signs
  written [] all = record {
    nogood = [];
    is = record { rising = pairs_nil Rises; of_set = All-nil (IsOfSet []); whole = All-nil (λ s. Any (IsFor things s) []) };
    contained = All-nil (λ (lit : Lit). truths lit.var ≡ lit.truth);
  }
  written (s ∷ signs) all = with_sign s signs (All-head (Holds things truths) s signs all) (written signs (All-tail (Holds things truths) s signs all))

  -- What a nogood that is contained asks holds.
  pub all_hold : (signs : List Signed) (nogood : Nogood) → IsNogoodOf things signs nogood → IsContainedIn truths nogood → All (Holds things truths) signs
  all_hold signs nogood is contained k d within =
      let here = is.whole k d within in
      record {
        number = here.1.var;
        there = here.4.0;
        truth = All-contains (λ (lit : Lit). truths lit.var ≡ lit.truth) nogood here.1 contained (here.0, here.2, here.3) ∙ here.4.1;
      }
