-- Variables in rising order, each once, as the literals of a nogood.
use Rattle.std.proofs.Common.{◌≡◌, ◌∙◌, ◌⊎◌, ◌<◌, ℕ, Bool, true, false, nat_eq, List, [], ◌∷◌, ◌++◌, map, length, get_or, refl, sym, ap, subst, inl, inr, arith}
use Rattle.std.specs.List.{AllPairs, Contains, dedup}
use Rattle.std.specs.List.Sorted.{IsPermutation, IsSorted, IsStrictlyIncreasing}
use Rattle.std.specs.Ordering.{nat_cmp}
use Rattle.std.proofs.lemmas.Bool.{eq-eqb, eqb-true, false_from_ne_true}
use Rattle.std.proofs.lemmas.List.{get_or-map, length-map}
use Rattle.std.proofs.lemmas.List.Elements.{Contains-append_left, Contains-push, Contains-push_cases}
use Rattle.std.proofs.lemmas.List.Kept.{AllPairs-from_increasing, Contains-dedup_nat, Contains-from_dedup}
use Rattle.std.proofs.lemmas.List.Sorted.{Contains-permutation, IsPermutation-sym}
use Rattle.std.proofs.lemmas.Map.Keys.{IsStrictlyIncreasing-dedup}
use Rattle.ms_base.proofs.Lists.{Contains-behind, Contains-cases, Contains-first, Contains-map}
use Rattle.ms_lits.specs.declared.lit.Lit.{Lit}
use Rattle.ms_complete.specs.Rules.{fails, holds}
use Rattle.ms_complete.specs.Sets.{Writes}
use Rattle.ms_complete.proofs.Lists.{all_from, member_map_cases}
use Rattle.ms_unfound.specs.Loops.{sign_at}

sign_by : (atom var : ℕ) (truth : Bool) → nat_eq var atom ≡ truth → sign_at atom var ≡ record { var = var; truth = truth }
sign_by atom var truth is = ap (λ (t : Bool). let lit : Lit = record { var = var; truth = t } in lit) is

rising_signs : (atom : ℕ) (vars : List ℕ) → IsStrictlyIncreasing vars → AllPairs (λ (lit next : Lit). lit.var < next.var) (map (sign_at atom) vars)
rising_signs atom vars rising i k d less within =
    let in_k : k < length vars = omega (arith, within, length-map vars (sign_at atom)) in
    let in_i : i < length vars = omega (arith, less, in_k) in
    let first : get_or (map (sign_at atom) vars) i d ≡ sign_at atom (get_or vars i 0) = get_or-map (sign_at atom) vars i 0 d in_i in
    let second : get_or (map (sign_at atom) vars) k d ≡ sign_at atom (get_or vars k 0) = get_or-map (sign_at atom) vars k 0 d in_k in
    let below : get_or vars i 0 < get_or vars k 0 = AllPairs-from_increasing vars rising i k 0 less in_k in
    let left : (get_or (map (sign_at atom) vars) i d).var ≡ get_or vars i 0 = ap (λ (l : Lit). l.var) first in
    let right : (get_or (map (sign_at atom) vars) k d).var ≡ get_or vars k 0 = ap (λ (l : Lit). l.var) second in
    omega (arith, below, left, right)

module _ (atom : ℕ) (bodies vars : List ℕ) (apart : ¬ Contains bodies atom) (each : (v : ℕ) → Contains vars v → Contains bodies v ⊎ (v ≡ atom)) (all : (v : ℕ) → Contains bodies v → Contains vars v) (has : Contains vars atom) where
  abbrev signs : List Lit
  signs = holds atom ∷ map fails bodies

  sign_there : (v : ℕ) → Contains vars v → Contains signs (sign_at atom v)
  sign_there v there = elim (each v there) [
    | inl of_body ↦
        let differ : nat_eq v atom ≡ false = false_from_ne_true (nat_eq v atom) (λ same. apart (subst (Contains bodies) (eqb-true v atom same) of_body)) in
        subst (Contains signs) (sym (sign_by atom v false differ)) (Contains-behind (holds atom) (map fails bodies) (fails v) (Contains-map fails bodies v of_body))
    | inr same ↦
        let is : sign_at atom v ≡ holds atom = sign_by atom v true (eq-eqb v atom same) ∙ ap holds same in
        subst (Contains signs) (sym is) (Contains-first (holds atom) (map fails bodies))
  ]

  there_sign : (lit : Lit) → Contains signs lit → Contains (map (sign_at atom) vars) lit
  there_sign lit among = elim (Contains-cases (holds atom) (map fails bodies) lit among) [
    | inl same ↦
        subst (Contains (map (sign_at atom) vars)) (sign_by atom atom true (eq-eqb atom atom refl) ∙ same) (Contains-map (sign_at atom) vars atom has)
    | inr later ↦
        let (b, has_b, same_b) = member_map_cases fails bodies lit later in
        let differ : nat_eq b atom ≡ false = false_from_ne_true (nat_eq b atom) (λ same. apart (subst (Contains bodies) (eqb-true b atom same) has_b)) in
        subst (Contains (map (sign_at atom) vars)) (sign_by atom b false differ ∙ same_b) (Contains-map (sign_at atom) vars b (all b has_b))
  ]

  writes : IsStrictlyIncreasing vars → Writes signs (map (sign_at atom) vars)
  writes rising = record {
    rising = rising_signs atom vars rising;
    each = all_from (Contains signs) (map (sign_at atom) vars) (λ lit there.
        let (v, has_v, same) = member_map_cases (sign_at atom) vars lit there in subst (Contains signs) same (sign_there v has_v));
    all = all_from (Contains (map (sign_at atom) vars)) signs there_sign;
  }

-- what sorting and leaving out equal ones gives
pub written_from : (atom : ℕ) (bodies pushed sorted : List ℕ) → ¬ Contains bodies atom → pushed ≡ bodies ++ atom ∷ [] → IsPermutation pushed sorted → IsSorted nat_cmp sorted
    → Writes (holds atom ∷ map fails bodies) (map (sign_at atom) (dedup nat_eq sorted))
written_from atom bodies pushed sorted apart is moved order =
    let in_sorted : (v : ℕ) → Contains (bodies ++ atom ∷ []) v → Contains (dedup nat_eq sorted) v =
    λ v has. Contains-dedup_nat sorted v (Contains-permutation pushed sorted v moved (subst (λ (vs : List ℕ). Contains vs v) (sym is) has)) in
    writes atom bodies (dedup nat_eq sorted) apart
    (λ v has.
    let before : Contains (bodies ++ atom ∷ []) v = subst (λ (vs : List ℕ). Contains vs v) is (Contains-permutation sorted pushed v (IsPermutation-sym pushed sorted moved) (Contains-from_dedup nat_eq sorted v has)) in
    elim (Contains-push_cases bodies atom v before) [ inl of_body ↦ inl of_body | inr same ↦ inr (sym same) ])
    (λ v has. in_sorted v (Contains-append_left bodies (atom ∷ []) v has))
    (in_sorted atom (Contains-push bodies atom))
    (IsStrictlyIncreasing-dedup sorted order)
