-- An atom comes to the members of a search.
use Rattle.std.proofs.Common.{◌≡◌, ◌<◌, ◌≤◌, ◌+◌, ◌⊎◌, ℕ, zero, suc, List, [], ◌∷◌, ◌++◌, Some, Bool, true, false, if◌then◌else◌, All, Contains, slice_get, get_or, nat_eq, inl, inr, refl, sym, ap, subst, ◌∙◌, length, arith}
use Rattle.std.specs.List.{list_any, IsDistinct}
use Rattle.std.proofs.lemmas.Bool.Decides.{Decides-eqb}
use Rattle.std.proofs.lemmas.Bool.{cases_lt}
use Rattle.std.proofs.lemmas.Option.{none-some, slice_get_within, slice_get-get_or}
use Rattle.std.proofs.lemmas.Map.Views.{Contains-from_any}
use Rattle.std.proofs.lemmas.List.Elements.{All-weaker, All-push, All-contains, Contains-push_cases}
use Rattle.std.proofs.lemmas.Map.Steps.{length-le_from_distinct_below}
use Rattle.indexmap.specs.IndexSet.{insert_key}
use Rattle.ms_graph.specs.Components.{HasEndsBelow}
use Rattle.ms_cone.specs.Search.{Found, IsFound, IsStart, Grows, Enters}
use Rattle.ms_cone.proofs.Members.{at_contains, contains_at}

grows_not : (atoms : List ℕ) (Is : ℕ → Type 0) → Grows atoms atoms Is
grows_not atoms Is = record { kept = λ i a at. at; only = λ i a at. inl at }

push_kept : (atoms : List ℕ) (b i a : ℕ) → slice_get atoms i ≡ Some a → slice_get (atoms ++ b ∷ []) i ≡ Some a
push_kept [] b i a at = absurd (none-some a at)
push_kept (x ∷ atoms) b zero a at = at
push_kept (x ∷ atoms) b (suc i) a at = push_kept atoms b i a at

push_only : (atoms : List ℕ) (b i a : ℕ) → slice_get (atoms ++ b ∷ []) i ≡ Some a → (slice_get atoms i ≡ Some a) ⊎ ((a ≡ b) × (length atoms ≤ i))
push_only [] b zero a at = (let same : a ≡ b = cc in inr (same, omega arith))
push_only [] b (suc i) a at = absurd (none-some a at)
push_only (x ∷ atoms) b zero a at = inl at
push_only (x ∷ atoms) b (suc i) a at = elim (push_only atoms b i a at) [
  | inl there ↦ inl there
  | inr last ↦ inr (last.0, let le = last.1 in omega (arith, le))
]

grows_by : (atoms : List ℕ) (b : ℕ) → Grows atoms (atoms ++ b ∷ []) (λ x. x ≡ b)
grows_by atoms b = record { kept = push_kept atoms b; only = push_only atoms b }

grows_inserted : (found : Bool) (old new : List ℕ) (b : ℕ) → new ≡ (if found then old else old ++ b ∷ []) → Grows old new (λ x. x ≡ b)
grows_inserted true old new b is = subst (λ xs. Grows old xs (λ x. x ≡ b)) (sym is) (grows_not old (λ x. x ≡ b))
grows_inserted false old new b is = subst (λ xs. Grows old xs (λ x. x ≡ b)) (sym is) (grows_by old b)

below_inserted : (found : Bool) (old new : List ℕ) (b n : ℕ) → new ≡ (if found then old else old ++ b ∷ []) → All (λ a. a < n) old → b < n → All (λ a. a < n) new
below_inserted true old new b n is below less = subst (λ xs. All (λ a. a < n) xs) (sym is) below
below_inserted false old new b n is below less = subst (λ xs. All (λ a. a < n) xs) (sym is) (All-push (λ a. a < n) old b below less)

-- members are never fewer
pub grows_longer : (old new : List ℕ) (Is : ℕ → Type 0) → Grows old new Is → length old ≤ length new
grows_longer old new Is grows = elim (cases_lt (length new) (length old)) [
  | inl less ↦ let within = slice_get_within new (length new) (get_or old (length new) 0) (grows.kept (length new) (get_or old (length new) 0) (slice_get-get_or old (length new) 0 less)) in
      absurd (omega (arith, within))
  | inr more ↦ more
]

pub entered : (old : Found) (new : List ℕ) (a place k : ℕ) → new ≡ insert_key nat_eq old.members a → IsFound old → slice_get new place ≡ Some k → nat_eq a k ≡ true → Enters old (record old { members = new }) a place
entered old new a place k members found stored equal = record {
  atoms = refl;
  visited = refl;
  edges = refl;
  members = grows_inserted (list_any (nat_eq a) old.members) old.members new a members;
  at = stored ∙ ap Some (sym ((Decides-eqb a k).0 equal));
  graph = found.graph;
}

below_from_all : (atoms : List ℕ) (n q : ℕ) → All (λ a. a < n) atoms → list_any (nat_eq q) atoms ≡ true → q < n
below_from_all atoms n q below any = All-contains (λ a. a < n) atoms q below (Contains-from_any (λ x y. (Decides-eqb x y).0) q atoms any)

pub found_more : (old : Found) (new : List ℕ) (a : ℕ) → new ≡ insert_key nat_eq old.members a → IsFound old → IsDistinct nat_eq new → a < old.atoms → IsFound (record old { members = new })
found_more old new a members found once less =
    let grows = grows_inserted (list_any (nat_eq a) old.members) old.members new a members in
    let longer = grows_longer old.members new (λ x. x ≡ a) grows in
    let below = below_inserted (list_any (nat_eq a) old.members) old.members new a old.atoms members found.below less in
    record {
      once = once;
      below = below;
      fits = length-le_from_distinct_below new old.atoms once (λ q. below_from_all new old.atoms q below);
      small = found.small;
      graph = All-weaker (HasEndsBelow (length old.members)) (HasEndsBelow (length new)) (λ e ends. let start = ends.start in let end = ends.end in record { start = omega (arith, start, longer); end = omega (arith, end, longer) }) old.edges found.graph;
      within = let within = found.within in omega (arith, within, longer);
    }

-- an edge comes
pub found_edge : (s : Found) (from to : ℕ) → IsFound s → from < length s.members → to < length s.members → IsFound (record s { edges = s.edges ++ record { from = from; to = to } ∷ [] })
found_edge s from to found start end = record {
  once = found.once;
  below = found.below;
  fits = found.fits;
  small = found.small;
  graph = All-push (HasEndsBelow (length s.members)) s.edges (record { from = from; to = to }) found.graph (record { start = start; end = end });
  within = found.within;
}

-- one more member was visited
pub found_passed : (s : Found) → IsFound s → s.visited < length s.members → IsFound (record s { visited = s.visited + 1 })
found_passed s found some = record {
  once = found.once;
  below = found.below;
  fits = found.fits;
  small = found.small;
  graph = found.graph;
  within = omega (arith, some);
}

-- the members after one more start
pub start_more : (starts : List ℕ) (old new : Found) (a place : ℕ) → IsStart starts old → Enters old new a place → IsStart (starts ++ a ∷ []) new
start_more starts old new a place start enters = record {
  begun = λ b here. elim (Contains-push_cases starts a b here) [
    | inl there ↦ let before = start.begun b there in
        contains_at new.members before.0 b (enters.members.kept before.0 b (at_contains old.members b before))
    | inr last ↦ subst (λ x. Contains new.members x) last (contains_at new.members place a enters.at)
  ];
  edges = enters.edges ∙ start.edges;
  visited = enters.visited ∙ start.visited;
}
