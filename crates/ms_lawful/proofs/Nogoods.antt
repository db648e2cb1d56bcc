-- There are three times as many nogoods in order for one more thing.
use Rattle.std.proofs.Common.{ℕ, ◌≡◌, ◌≢◌, ◌∙◌, ◌<◌, ◌≤◌, ◌+◌, ◌*◌, ◌^◌, Bool, true, false, List, [], ◌∷◌, ◌++◌, length, get_or, map, zero, suc, inl, inr, sym, subst, refl, arith, length-append}
use Rattle.std.specs.Prelude.{All, AllPairs, Contains}
use Rattle.std.proofs.Math.Nat.{pow-suc}
use Rattle.std.proofs.lemmas.Bool.{cases_order}
use Rattle.std.proofs.lemmas.List.{length-map}
use Rattle.std.proofs.lemmas.List.Elements.{All-cons, All-head, All-tail, Contains-append_left, Contains-append_right}
use Rattle.ms_lits.specs.Literals.{Nogood}
use Rattle.ms_lawful.specs.Lines.{IsInOrder}
use Rattle.ms_lawful.proofs.Lists.{AllPairs-head, AllPairs-tail, Contains-here, Contains-map, different_few}

-- the literal before each of the nogoods
abbrev all_with : ℕ → Bool → List Nogood → List Nogood
all_with thing truth nogoods = map (λ (rest : Nogood). (record { var = thing; truth = truth }) ∷ rest) nogoods

-- the nogoods in order over so many things from this one on
abbrev nogoods_from : ℕ → ℕ → List Nogood
nogoods_from low zero = [] ∷ []
nogoods_from low (suc n) = nogoods_from (suc low) n ++ (all_with low true (nogoods_from (suc low) n) ++ all_with low false (nogoods_from (suc low) n))

three_times : (low : ℕ) (nogoods : List Nogood) (p : ℕ) → length nogoods ≡ p → length (nogoods ++ (all_with low true nogoods ++ all_with low false nogoods)) ≡ p * 3
three_times low nogoods p is =
    let second : length (all_with low true nogoods) ≡ p = length-map nogoods (λ (rest : Nogood). (record { var = low; truth = true }) ∷ rest) ∙ is in
    let third : length (all_with low false nogoods) ≡ p = length-map nogoods (λ (rest : Nogood). (record { var = low; truth = false }) ∷ rest) ∙ is in
    omega (arith, length-append nogoods (all_with low true nogoods ++ all_with low false nogoods), length-append (all_with low true nogoods) (all_with low false nogoods))

length-nogoods_from : (low n : ℕ) → length (nogoods_from low n) ≡ 3 ^ n
length-nogoods_from low zero = refl
length-nogoods_from low (suc n) = three_times low (nogoods_from (suc low) n) (3 ^ n) (length-nogoods_from (suc low) n) ∙ sym (pow-suc 3 n)

-- a nogood whose first literal is of the first thing
with_first : (low : ℕ) (sign : Bool) (rest : Nogood) (nogoods : List Nogood) → Contains nogoods rest → Contains (nogoods ++ (all_with low true nogoods ++ all_with low false nogoods)) ((record { var = low; truth = sign }) ∷ rest)
with_first low true rest nogoods among =
    let here = Contains-map (λ (r : Nogood). (record { var = low; truth = true }) ∷ r) rest nogoods among in
    Contains-append_right nogoods (all_with low true nogoods ++ all_with low false nogoods) _ (Contains-append_left (all_with low true nogoods) (all_with low false nogoods) _ here)
with_first low false rest nogoods among =
    let here = Contains-map (λ (r : Nogood). (record { var = low; truth = false }) ∷ r) rest nogoods among in
    Contains-append_right nogoods (all_with low true nogoods ++ all_with low false nogoods) _ (Contains-append_right (all_with low true nogoods) (all_with low false nogoods) _ here)

abbrev IsRising : Nogood → Type 0
IsRising nogood = AllPairs (λ lit later. lit.var < later.var) nogood

covered : (n low : ℕ) (nogood : Nogood) → All (λ lit. low ≤ lit.var) nogood → All (λ lit. lit.var < low + n) nogood → IsRising nogood → Contains (nogoods_from low n) nogood
covered zero low [] above within rising = Contains-here [] [] [] refl
covered zero low (lit ∷ rest) above within rising =
    let a = All-head (λ l. low ≤ l.var) lit rest above in
    let b = All-head (λ l. l.var < low + 0) lit rest within in
    absurd (omega arith)
covered (suc n) low [] above within rising =
    Contains-append_left (nogoods_from (suc low) n) (all_with low true (nogoods_from (suc low) n) ++ all_with low false (nogoods_from (suc low) n)) []
    (covered n (suc low) [] (λ k d h. absurd (omega arith)) (λ k d h. absurd (omega arith)) rising)
covered (suc n) low (lit ∷ rest) above within rising =
    let later = AllPairs-head (λ l next. l.var < next.var) lit rest rising in
    let first = All-head (λ l. low ≤ l.var) lit rest above in
    elim (cases_order low lit.var) [
      | inl same ↦
          let tail = covered n (suc low) rest
          (λ k d h. let g : lit.var < (get_or rest k d).var = later k d h in omega arith)
          (λ k d h. let g : (get_or rest k d).var < low + suc n = All-tail (λ l. l.var < low + suc n) lit rest within k d h in omega arith)
          (AllPairs-tail (λ l next. l.var < next.var) lit rest rising) in
          let made = with_first low lit.truth rest (nogoods_from (suc low) n) tail in
          subst (λ v. Contains (nogoods_from low (suc n)) ((record { var = v; truth = lit.truth }) ∷ rest)) same made
      | inr other ↦ elim other [
        | inl less ↦
            Contains-append_left (nogoods_from (suc low) n) (all_with low true (nogoods_from (suc low) n) ++ all_with low false (nogoods_from (suc low) n)) (lit ∷ rest)
            (covered n (suc low) (lit ∷ rest)
            (All-cons (λ l. suc low ≤ l.var) lit rest (omega arith) (λ k d h. let g : lit.var < (get_or rest k d).var = later k d h in omega arith))
            (λ k d h. let g : (get_or (lit ∷ rest) k d).var < low + suc n = within k d h in omega arith)
            rising)
        | inr more ↦ absurd (omega arith)
      ]
    ]

-- Different nogoods in order over so many things are at most three to the power of that number.
pub few_nogoods : (things : ℕ) (nogoods : List Nogood) → AllPairs (λ nogood later. nogood ≢ later) nogoods → All (IsInOrder things) nogoods → length nogoods ≤ 3 ^ things
few_nogoods things nogoods differ ordered =
    let among = λ (k : ℕ) (d : Nogood) (h : k < length nogoods). covered things 0 (get_or nogoods k d) (λ i e g. omega arith) (λ i e g. let w = (ordered k d h).within i e g in omega arith) (ordered k d h).rising in
    let few = different_few nogoods (nogoods_from 0 things) differ among in
    omega (arith, length-nogoods_from 0 things)
