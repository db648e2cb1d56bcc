-- How far a nogood is open below a level.
use Rattle.std.proofs.Common.{ℕ, ◌≡◌, ◌<◌, ◌≤◌, ◌+◌, zero, suc, List, [], ◌∷◌, ◌++◌, Option, Some, None, length, get_or, take, option_map, refl, sym, ◌∙◌, ap, subst, arith}
use Rattle.std.specs.Prelude.{◌≢◌, All, AllPairs}
use Rattle.std.proofs.lemmas.List.{get_or-take, get_or_default, take_more}
use Rattle.std.proofs.lemmas.List.Elements.{Contains-append_left, Contains-push}
use Rattle.ms_lits.specs.declared.lit.Lit.{Lit}
use Rattle.ms_lits.specs.declared.trail.Entry.{Entry}
use Rattle.ms_lits.specs.Literals.{Nogood}
use Rattle.ms_lits.specs.Assignment.{Assignment, IsAssignment, entry_of, up_to, value_in}
use Rattle.ms_lits.proofs.Entries.{none_at}
use Rattle.ms_analyze.specs.Cuts.{no_entry}
use Rattle.ms_analyze.proofs.Trails.{lost_up_to, placed}
use Rattle.ms_search.specs.Jumps.{IsFreeBelow, IsOpenIn, IsOpenTwice}

-- what was assigned above a level isn't assigned up to it
pub lost_below : (a : Assignment) → IsAssignment a → (var : ℕ) (e : Entry) (lower : ℕ) → entry_of a.entries var ≡ Some e → lower < e.level → value_in (up_to lower a.entries) var ≡ None
lost_below a t var e lower found high =
    let p = placed a.entries var e found in
    ap (option_map (λ (x : Entry). x.lit.truth)) (lost_up_to lower a.entries var
    (λ i lt same.
    let here : (get_or a.entries _ no_entry).lit.var ≡ var = ap (λ (x : Entry). x.lit.var) (p.same no_entry) ∙ p.of_var in
    let at = t.once i _ no_entry lt p.within (same ∙ sym here) in
    let is : get_or a.entries i no_entry ≡ e = ap (λ (k : ℕ). get_or a.entries k no_entry) at ∙ p.same no_entry in
    subst (λ (x : Entry). lower < x.level) (sym is) high))

by_entry : {V : Type 0} → (o : Option Entry) → {lower : ℕ} → ((e : Entry) → o ≡ Some e → lower < e.level → V) → (level : ℕ) → option_map (λ (e : Entry). e.level) o ≡ Some level → lower < level → V
by_entry None each level is high = cc
by_entry {V} (Some e) {lower} each level is high = let same : e.level ≡ level = cc in each e refl (omega (arith, same, high))

pub lost_level : (a : Assignment) → IsAssignment a → (var level lower : ℕ) → option_map (λ (e : Entry). e.level) (entry_of a.entries var) ≡ Some level → lower < level → value_in (up_to lower a.entries) var ≡ None
lost_level a t var level lower is high = by_entry (entry_of a.entries var) (λ e found. lost_below a t var e lower found) level is high

-- and what is unassigned isn't either
pub free_below : (entries : List Entry) (var lower : ℕ) → entry_of entries var ≡ None → value_in (up_to lower entries) var ≡ None
free_below entries var lower free =
    ap (option_map (λ (x : Entry). x.lit.truth)) (lost_up_to lower entries var (λ i lt same. absurd (none_at entries var i no_entry free lt same)))

-- What is known of the levels of the literals that were seen.
pub record AreReached (entries : List Entry) (seen : Nogood) (greatest second : ℕ) : Type 0 where
  pub order : second ≤ greatest
  pub one : (lower : ℕ) → lower < greatest → IsOpenIn (up_to lower entries) seen
  pub two : (lower : ℕ) → lower < second → IsOpenTwice (up_to lower entries) seen

one_more : (entries : List Entry) (seen : Nogood) (x : Lit) → IsOpenIn entries seen → IsOpenIn entries (seen ++ x ∷ [])
one_more entries seen x one = record { lit = one.lit; among = Contains-append_left seen (x ∷ []) one.lit one.among; free = one.free }

two_more : (entries : List Entry) (seen : Nogood) (x : Lit) → IsOpenTwice entries seen → IsOpenTwice entries (seen ++ x ∷ [])
two_more entries seen x two = record {
  first = two.first;
  second = two.second;
  has_first = Contains-append_left seen (x ∷ []) two.first two.has_first;
  has_second = Contains-append_left seen (x ∷ []) two.second two.has_second;
  differ = two.differ;
  first_free = two.first_free;
  second_free = two.second_free;
}

one_first : (entries : List Entry) (seen : Nogood) (x : Lit) → value_in entries x.var ≡ None → IsOpenIn entries (seen ++ x ∷ [])
one_first entries seen x free = record { lit = x; among = Contains-push seen x; free = free }

two_first : (entries : List Entry) (seen : Nogood) (x : Lit) → IsOpenIn entries seen → All (λ (l : Lit). l.var ≢ x.var) seen → value_in entries x.var ≡ None → IsOpenTwice entries (seen ++ x ∷ [])
two_first entries seen x one apart free = record {
  first = one.lit;
  second = x;
  has_first = Contains-append_left seen (x ∷ []) one.lit one.among;
  has_second = Contains-push seen x;
  differ = let at = one.among in subst (λ (l : Lit). l.var ≢ x.var) at.2 (apart at.0 one.lit at.1);
  first_free = one.free;
  second_free = free;
}

below_take : (lits : Nogood) (i k : ℕ) → k < length (take i lits) → k < i
below_take lits zero k inside = inside
below_take [] (suc i) k inside = absurd (omega (arith, inside))
below_take (x ∷ lits) (suc i) zero inside = omega arith
below_take (x ∷ lits) (suc i) (suc k) inside = let less : k < length (take i lits) = omega (arith, inside) in let rest = below_take lits i k less in omega (arith, rest)

pub apart_from : (lits : Nogood) (i : ℕ) (x : Lit) → AllPairs (λ (l : Lit) (m : Lit). l.var ≢ m.var) lits → i < length lits → get_or lits i x ≡ x → All (λ (l : Lit). l.var ≢ x.var) (take i lits)
apart_from lits i x different lt is k d inside =
    let before : k < i = below_take lits i k inside in
    let here : get_or (take i lits) k d ≡ get_or lits k x = get_or-take i lits k d before ∙ get_or_default lits k d x (omega (arith, before, lt)) in
    subst (λ (l : Lit). l.var ≢ x.var) (sym here) (subst (λ (m : Lit). (get_or lits k x).var ≢ m.var) is (different k i x before lt))

-- no literal so far
pub reached_none : (entries : List Entry) (seen : Nogood) → AreReached entries seen 0 0
reached_none entries seen = record {
  order = omega arith;
  one = λ lower lt. absurd (omega arith);
  two = λ lower lt. absurd (omega arith);
}

module _ (entries : List Entry) (lits : Nogood) (i greatest second : ℕ) (x : Lit) (level : ℕ) (different : AllPairs (λ (l : Lit) (m : Lit). l.var ≢ m.var) lits) (lt : i < length lits) (is : get_or lits i x ≡ x) (r : AreReached entries (take i lits) greatest second) (f : IsFreeBelow entries x level) where
  apart : All (λ (l : Lit). l.var ≢ x.var) (take i lits)
  apart = apart_from lits i x different lt is

  seen_more : (g s : ℕ) → AreReached entries (take i lits ++ x ∷ []) g s → AreReached entries (take (i + 1) lits) g s
  seen_more g s more = subst (λ (ls : Nogood). AreReached entries ls g s) (sym (take_more lits i x lt ∙ ap (λ (y : Lit). take i lits ++ y ∷ []) is)) more

  -- a greater level
  pub reached_greater : greatest < level → AreReached entries (take (i + 1) lits) level greatest
  reached_greater more = seen_more level greatest (record {
    order = omega arith;
    one = λ lower below. one_first (up_to lower entries) (take i lits) x (f.free lower below);
    two = λ lower below. two_first (up_to lower entries) (take i lits) x (r.one lower below) apart (f.free lower (omega (arith, below, more)));
  })

  -- one between
  pub reached_between : level ≤ greatest → AreReached entries (take (i + 1) lits) greatest level
  reached_between less = seen_more greatest level (record {
    order = less;
    one = λ lower below. one_more (up_to lower entries) (take i lits) x (r.one lower below);
    two = λ lower below. two_first (up_to lower entries) (take i lits) x (r.one lower (omega (arith, below, less))) apart (f.free lower below);
  })

  -- one that isn't greater
  pub reached_same : AreReached entries (take (i + 1) lits) greatest second
  reached_same = seen_more greatest second (record {
    order = r.order;
    one = λ lower below. one_more (up_to lower entries) (take i lits) x (r.one lower below);
    two = λ lower below. two_more (up_to lower entries) (take i lits) x (r.two lower below);
  })
