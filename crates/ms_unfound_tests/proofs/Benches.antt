-- Searches over stores that are made by hand.
use Rattle.std.proofs.Common.{ℕ, ◌≡◌, ◌<◌, ◌≤◌, ◌+◌, ◌⊎◌, inl, inr, List, [], ◌∷◌, ◌++◌, Option, Some, None, Bool, true, false, filter, option_map, get_or, refl, sym, ◌∙◌, ap, subst, arith}
use Rattle.std.specs.Prelude.{◌≢◌, All, Contains, is_some}
use Rattle.std.proofs.lemmas.Bool.{both_ways, cases_Bool, cases_eq, cases_lt}
use Rattle.std.proofs.lemmas.List.Elements.{All-contains, All-push, Contains-append_left, Contains-push, filter_passes}
use Rattle.ms_base.proofs.Lists.{Contains-filter}
use Rattle.ms_lits.specs.declared.lit.Lit.{Lit}
use Rattle.ms_lits.specs.Literals.{Nogood}
use Rattle.ms_nogood.specs.Store.{Adds, Store, Stored, awake_in, nogood_at, slot_at}
use Rattle.ms_nogood.specs.declared.kind.Kind.{Kind}
use Rattle.ms_nogood.specs.declared.kind.Kind.TheVariants.{Base, Kept}
use Rattle.ms_nogood.proofs.Propagation.{awake_same, within_more}
use Rattle.ms_search.specs.declared.ask.Ask.{Ask}
use Rattle.ms_search.specs.Problems.{AreUnique, problem_of}
use Rattle.ms_search.specs.Runs.{Resting, empty_trail}
use Rattle.ms_watch.specs.Steps.{changed}
use Rattle.ms_watch.specs.Watches.{Watching, AreInStep, is_attached, state_in}
use Rattle.ms_unfound_tests.specs.Benches.{IsBench}

abbrev pub AreAtoms : ℕ → List ℕ → Type 0
AreAtoms count atoms = (var : ℕ) → var < count → Contains atoms var

-- one atom more
pub atoms_more : (count : ℕ) (atoms more : List ℕ) → AreAtoms count atoms → more ≡ atoms ++ count ∷ [] → AreAtoms (count + 1) more
atoms_more count atoms more every is var lt =
    subst (λ (xs : List ℕ). Contains xs var) (sym is)
    (elim (cases_lt var count) [
      | inl before ↦ Contains-append_left atoms (count ∷ []) var (every var before)
      | inr late ↦ (let at : count ≡ var = omega (arith, late, lt) in subst (λ (n : ℕ). Contains (atoms ++ count ∷ []) n) at (Contains-push atoms count))
    ])

pub below_more : (vars count : ℕ) (atoms more : List ℕ) → All (λ (atom : ℕ). atom < vars) atoms → count < vars → more ≡ atoms ++ count ∷ [] → All (λ (atom : ℕ). atom < vars) more
below_more vars count atoms more below lt is = subst (All (λ (atom : ℕ). atom < vars)) (sym is) (All-push (λ (atom : ℕ). atom < vars) atoms count below lt)

-- nothing stored, and nothing attached
pub bench_begun : (vars : ℕ) (atoms : List ℕ) (search : Resting Watching) (store : Store) → store ≡ record { slots = []; kept = []; fresh = [] } → ((key : ℕ) → is_attached (state_in search.propagation.keys key) ≡ false) → AreInStep search.propagation store (empty_trail search.room) → All (λ (atom : ℕ). atom < vars) atoms → AreAtoms vars atoms → IsBench vars atoms search store
bench_begun vars atoms search store none free in_step below every =
    let attached : ℕ → Bool = λ key. is_attached (state_in search.propagation.keys key) in
    let nothing : (key : ℕ) → slot_at store key ≡ None = λ key. ap (λ (s : Store). slot_at s key) none in
    record {
      within = λ key s found. (let slot = nothing key in let clash : None ≡ Some s = sym (ap awake_in slot) ∙ found in absurd (cc));
      lasting = λ key s found. (let slot = nothing key in let clash : None ≡ Some s = sym (ap awake_in slot) ∙ found in absurd (cc));
      wired = record {
        known = λ key is. absurd (both_ways (attached key) (free key) is);
        fresh = λ key is. absurd (both_ways (is_some (slot_at store key)) (ap is_some (nothing key)) is);
      };
      in_step = in_step;
      below = below;
      every = every;
    }

-- a nogood more
pub bench_added : (vars : ℕ) (atoms : List ℕ) (search : Resting Watching) (old new : Store) (lits : Nogood) (kind : Kind) (key : ℕ) → IsBench vars atoms search old → Adds old new (record { lits = lits; kind = Some kind }) key → (kind ≡ Base) ⊎ (kind ≡ Kept) → All (λ l. l.var < vars) lits → IsBench vars atoms search new
bench_added vars atoms search old new lits kind key bench adds which small =
    let stored : Stored = record { lits = lits; kind = Some kind } in
    let lasts : (stored.kind ≡ Some Base) ⊎ (stored.kind ≡ Some Kept) = elim which [
      | inl base ↦ inl (ap (λ (k : Kind). Some k) base)
      | inr kept ↦ inr (ap (λ (k : Kind). Some k) kept)
    ] in
    let attached : ℕ → Bool = λ k. is_attached (state_in search.propagation.keys k) in
    let apart : (k : ℕ) → attached k ≡ true → k ≡ key → ⊥ = λ k is same.
    both_ways (is_some (slot_at old k)) (ap is_some (ap (slot_at old) same ∙ adds.was_free)) (bench.wired.known k is) in
    record {
      within = within_more old new stored key vars adds bench.within small;
      lasting = λ k s found. elim (cases_eq k key) [
        | inl same ↦ (
            let here : stored ≡ s = awake_same stored s (sym (ap (nogood_at new) same ∙ ap awake_in adds.added) ∙ found) in
            subst (λ (x : Stored). (x.kind ≡ Some Base) ⊎ (x.kind ≡ Some Kept)) here lasts)
        | inr other ↦ bench.lasting k s (sym (ap awake_in (adds.others k other)) ∙ found)
      ];
      wired = record {
        known = λ k is. ap is_some (adds.others k (apart k is)) ∙ bench.wired.known k is;
        fresh = λ k is. elim (cases_eq k key) [
          | inl same ↦ inr (subst (λ (ks : List ℕ). Contains ks k) (sym adds.fresh) (subst (Contains (old.fresh ++ key ∷ [])) (sym same) (Contains-push old.fresh key)))
          | inr other ↦ elim (bench.wired.fresh k (sym (ap is_some (adds.others k other)) ∙ is)) [
            | inl already ↦ inl already
            | inr waits ↦ inr (subst (λ (ks : List ℕ). Contains ks k) (sym adds.fresh) (Contains-append_left old.fresh (key ∷ []) k waits))
          ]
        ];
      };
      in_step = changed search.propagation old new (empty_trail search.room) bench.in_step (λ k is. ap (option_map (λ (s : Stored). s.lits)) (adds.others k (apart k is)));
      below = bench.below;
      every = bench.every;
    }

passes_too : (f g : ℕ → Bool) (xs : List ℕ) (x : ℕ) → filter f xs ≡ filter g xs → Contains xs x → f x ≡ true → g x ≡ true
passes_too f g xs x same among passes =
    All-contains (λ (y : ℕ). g y ≡ true) (filter g xs) x (filter_passes g xs)
    (subst (λ (ys : List ℕ). Contains ys x) same (Contains-filter f xs x among passes))

same_tests : (f g : ℕ → Bool) (xs : List ℕ) (x : ℕ) → filter f xs ≡ filter g xs → Contains xs x → f x ≡ g x
same_tests f g xs x same among = elim (cases_Bool (f x)) [
  | inl passes ↦ passes ∙ sym (passes_too f g xs x same among passes)
  | inr fails ↦ elim (cases_Bool (g x)) [
    | inl other ↦ absurd (both_ways (f x) fails (passes_too g f xs x (sym same) among other))
    | inr other ↦ fails ∙ sym other
  ]
]

-- Where each variable is an atom, assignments that agree on the atoms are equal.
pub unique_atoms : (gives : Nogood → Type 0) (store : Store) (ask : Ask) (atoms : List ℕ) → AreAtoms ask.vars atoms → AreUnique (problem_of gives store ask atoms)
unique_atoms gives store ask atoms every = λ truth other admitted admits same var lt. same_tests truth other atoms var same (every var lt)
