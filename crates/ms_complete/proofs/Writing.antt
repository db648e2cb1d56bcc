-- Sets of literals as nogoods, and sets of signed things as sets of literals.
use Rattle.std.proofs.Common.{◌≡◌, ◌≢◌, ◌∙◌, ◌<◌, ℕ, suc, Bool, List, [], ◌∷◌, ◌++◌, get_or, refl, sym, ap, subst, inl, inr, arith}
use Rattle.std.specs.List.{All, AllPairs, Any, Contains}
use Rattle.std.proofs.lemmas.Bool.{cases_eq, cases_lt}
use Rattle.std.proofs.lemmas.List.{get_or_default}
use Rattle.std.proofs.lemmas.List.Elements.{All-contains, All-head, All-nil, All-push, All-tail, Contains-append_left, Contains-push, Contains-push_cases}
use Rattle.std.proofs.lemmas.List.Kept.{AllPairs-cons}
use Rattle.ms_lits.specs.declared.lit.Lit.{Lit}
use Rattle.ms_lits.specs.Literals.{Nogood}
use Rattle.ms_join.specs.Things.{Thing}
use Rattle.ms_things.specs.Signs.{IsFor, IsNogoodOf, Signed}
use Rattle.ms_complete.specs.Sets.{Match, Writes}
use Rattle.ms_complete.proofs.Lists.{any_from, member_of, member_none, member_cases, some_once, all_from}

abbrev pub Rises : Lit → Lit → Type 0
Rises lit next = lit.var < next.var

pub same_lit : (a b : Lit) → a.var ≡ b.var → a.truth ≡ b.truth → a ≡ b
same_lit a b var truth =
    let by_var : ℕ → Lit = λ n. record { var = n; truth = a.truth } in
    let by_truth : Bool → Lit = λ t. record { var = b.var; truth = t } in
    ap by_var var ∙ ap by_truth truth

-- the first of a rising list is below the others, and these rise
rises_head : (x : Lit) (xs : List Lit) → AllPairs Rises (x ∷ xs) → All (Rises x) xs
rises_head x xs rising k d within = rising 0 (suc k) d (omega arith) (omega (arith, within))

rises_tail : (x : Lit) (xs : List Lit) → AllPairs Rises (x ∷ xs) → AllPairs Rises xs
rises_tail x xs rising i j d less within = rising (suc i) (suc j) d (omega (arith, less)) (omega (arith, within))

tail_members : (x : Lit) (xs ys : List Lit) → All (Rises x) xs → All (Contains (x ∷ ys)) xs → All (Contains ys) xs
tail_members x xs ys above each k d within = elim (member_cases x (get_or xs k d) ys (each k d within)) [
  | inl same ↦
      let less : x.var < (get_or xs k d).var = above k d within in
      let equal : x.var ≡ (get_or xs k d).var = ap (λ (l : Lit). l.var) same in
      absurd (omega (arith, less, equal))
  | inr later ↦ later
]

-- Rising lists with the same members are equal.
pub rising_same : (xs ys : List Lit) → AllPairs Rises xs → AllPairs Rises ys → All (Contains ys) xs → All (Contains xs) ys → xs ≡ ys
rising_same [] [] first second each all = refl
rising_same [] (y ∷ ys) first second each all = absurd (member_none y (All-head (Contains []) y ys all))
rising_same (x ∷ xs) [] first second each all = absurd (member_none x (All-head (Contains []) x xs each))
rising_same (x ∷ xs) (y ∷ ys) first second each all =
    let above_x : All (Rises x) xs = rises_head x xs first in
    let above_y : All (Rises y) ys = rises_head y ys second in
    let same : x ≡ y = elim (member_cases y x ys (All-head (Contains (y ∷ ys)) x xs each)) [
      | inl is ↦ sym is
      | inr among ↦ elim (member_cases x y xs (All-head (Contains (x ∷ xs)) y ys all)) [
        | inl is ↦ is
        | inr there ↦
            let less : y.var < x.var = All-contains (Rises y) ys x above_y among in
            let more : x.var < y.var = All-contains (Rises x) xs y above_x there in
            absurd (omega (arith, less, more))
      ]
    ] in
    let each_tail : All (Contains (x ∷ ys)) xs = subst (λ (z : Lit). All (Contains (z ∷ ys)) xs) (sym same) (All-tail (Contains (y ∷ ys)) x xs each) in
    let all_tail : All (Contains (y ∷ xs)) ys = subst (λ (z : Lit). All (Contains (z ∷ xs)) ys) same (All-tail (Contains (x ∷ xs)) y ys all) in
    let tails : xs ≡ ys = rising_same xs ys (rises_tail x xs first) (rises_tail y ys second) (tail_members x xs ys above_x each_tail) (tail_members y ys xs above_y all_tail) in
    ap (λ (z : Lit). z ∷ xs) same ∙ ap (λ (zs : List Lit). y ∷ zs) tails

pub writes_once : (lits : List Lit) (first second : Nogood) → Writes lits first → Writes lits second → first ≡ second
writes_once lits first second one other =
    rising_same first second one.rising other.rising
    (all_from (Contains second) first (λ x has. All-contains (Contains second) lits x other.all (All-contains (Contains lits) first x one.each has)))
    (all_from (Contains first) second (λ x has. All-contains (Contains first) lits x one.all (All-contains (Contains lits) second x other.each has)))

-- The same members, the same nogood.
pub writes_same : (lits others : List Lit) → ((x : Lit) → Contains lits x → Contains others x) → ((x : Lit) → Contains others x → Contains lits x)
    → (nogood : Nogood) → Writes lits nogood → Writes others nogood
writes_same lits others forth back nogood w = record {
  rising = w.rising;
  each = all_from (Contains others) nogood (λ x has. forth x (All-contains (Contains lits) nogood x w.each has));
  all = all_from (Contains nogood) others (λ x has. All-contains (Contains nogood) lits x w.all (back x has));
}

-- Two members of a rising list with one variable are one.
pub rising_one : (nogood : Nogood) → AllPairs Rises nogood → (a b : Lit) → Contains nogood a → Contains nogood b → a.var ≡ b.var → a ≡ b
rising_one nogood rising a b (i, in_i, at_i) (j, in_j, at_j) same =
    let there : get_or nogood j a ≡ b = get_or_default nogood j a b in_j ∙ at_j in
    let var_i : (get_or nogood i a).var ≡ a.var = ap (λ (l : Lit). l.var) at_i in
    let var_j : (get_or nogood j a).var ≡ b.var = ap (λ (l : Lit). l.var) there in
    elim (cases_eq i j) [
      | inl equal ↦ sym at_i ∙ (ap (λ (k : ℕ). get_or nogood k a) equal ∙ there)
      | inr differ ↦ elim (cases_lt i j) [
        | inl less ↦
            let below : (get_or nogood i a).var < (get_or nogood j a).var = rising i j a less in_j in
            absurd (omega (arith, below, var_i, var_j, same))
        | inr least ↦
            let more : j < i = omega (arith, least, differ) in
            let below : (get_or nogood j a).var < (get_or nogood i a).var = rising j i a more in_i in
            absurd (omega (arith, below, var_i, var_j, same))
      ]
    ]

-- the next literal of a list that is written
pub written_none : (lits : List Lit) (a b : Lit) → Contains lits a → Contains lits b → a.var ≡ b.var → a.truth ≢ b.truth → (nogood : Nogood) → ¬ Writes lits nogood
written_none lits a b has_a has_b var differ nogood w =
    differ (ap (λ (l : Lit). l.truth) (rising_one nogood w.rising a b (All-contains (Contains nogood) lits a w.all has_a) (All-contains (Contains nogood) lits b w.all has_b) var))

pub written_known : (lits : List Lit) (nogood : Nogood) (x : Lit) → Writes lits nogood → Contains nogood x → Writes (lits ++ x ∷ []) nogood
written_known lits nogood x w has = record {
  rising = w.rising;
  each = all_from (Contains (lits ++ x ∷ [])) nogood (λ y there. Contains-append_left lits (x ∷ []) y (All-contains (Contains lits) nogood y w.each there));
  all = All-push (Contains nogood) lits x w.all has;
}

rising_push : (nogood : Nogood) (x : Lit) → AllPairs Rises nogood → All (λ (l : Lit). l.var < x.var) nogood → AllPairs Rises (nogood ++ x ∷ [])
rising_push [] x rising below = AllPairs-cons Rises x [] (All-nil (Rises x)) rising
rising_push (y ∷ ys) x rising below =
    AllPairs-cons Rises y (ys ++ x ∷ [])
    (All-push (Rises y) ys x (rises_head y ys rising) (All-head (λ (l : Lit). l.var < x.var) y ys below))
    (rising_push ys x (rises_tail y ys rising) (All-tail (λ (l : Lit). l.var < x.var) y ys below))

pub written_new : (lits : List Lit) (nogood : Nogood) (x : Lit) → Writes lits nogood → All (λ (l : Lit). l.var < x.var) nogood → Writes (lits ++ x ∷ []) (nogood ++ x ∷ [])
written_new lits nogood x w below = record {
  rising = rising_push nogood x w.rising below;
  each = all_from (Contains (lits ++ x ∷ [])) (nogood ++ x ∷ []) (λ y has. elim (Contains-push_cases nogood x y has) [
    | inl before ↦ Contains-append_left lits (x ∷ []) y (All-contains (Contains lits) nogood y w.each before)
    | inr last ↦ subst (Contains (lits ++ x ∷ [])) last (Contains-push lits x)
  ]);
  all = all_from (Contains (nogood ++ x ∷ [])) (lits ++ x ∷ []) (λ y has. elim (Contains-push_cases lits x y has) [
    | inl before ↦ Contains-append_left nogood (x ∷ []) y (All-contains (Contains nogood) lits y w.all before)
    | inr last ↦ subst (Contains (nogood ++ x ∷ [])) last (Contains-push nogood x)
  ]);
}

module _ (things : List Thing) (signs : List Signed) (lits : List Lit) (paired : Match (IsFor things) signs lits) where
  -- a set of signed things is written as that of their literals
  pub nogood_from : (nogood : Nogood) → Writes lits nogood → IsNogoodOf things signs nogood
  nogood_from nogood w = record {
    rising = w.rising;
    of_set = all_from (λ lit. Any (λ s. IsFor things s lit) signs) nogood (λ lit has.
        All-contains (λ (l : Lit). Any (λ s. IsFor things s l) signs) lits lit paired.each (All-contains (Contains lits) nogood lit w.each has));
    whole = all_from (λ s. Any (IsFor things s) nogood) signs (λ s has.
        let there = All-contains (λ (t : Signed). Any (IsFor things t) lits) signs s paired.all has in
        any_from (IsFor things s) nogood there.1 (All-contains (Contains nogood) lits there.1 w.all (member_of (IsFor things s) lits there)) there.4);
  }

  one_for : AllPairs (λ t u. t ≢ u) things → (s : Signed) (a b : Lit) → IsFor things s a → IsFor things s b → a ≡ b
  one_for once s a b first second = same_lit a b (some_once things once a.var b.var s.thing first.0 second.0) (first.1 ∙ sym second.1)

  pub writes_from : AllPairs (λ t u. t ≢ u) things → (nogood : Nogood) → IsNogoodOf things signs nogood → Writes lits nogood
  writes_from once nogood is = record {
    rising = is.rising;
    each = all_from (Contains lits) nogood (λ lit has.
        let sign = All-contains (λ (l : Lit). Any (λ s. IsFor things s l) signs) nogood lit is.of_set has in
        let there = All-contains (λ (t : Signed). Any (IsFor things t) lits) signs sign.1 paired.all (member_of (λ s. IsFor things s lit) signs sign) in
        subst (Contains lits) (one_for once sign.1 there.1 lit there.4 sign.4) (member_of (IsFor things sign.1) lits there));
    all = all_from (Contains nogood) lits (λ lit has.
        let sign = All-contains (λ (l : Lit). Any (λ s. IsFor things s l) signs) lits lit paired.each has in
        let there = All-contains (λ (t : Signed). Any (IsFor things t) nogood) signs sign.1 is.whole (member_of (λ s. IsFor things s lit) signs sign) in
        subst (Contains nogood) (one_for once sign.1 there.1 lit there.4 sign.4) (member_of (IsFor things sign.1) nogood there));
  }
