-- What the marks of a part say of its loops: what has no mark is a loop without support from outside, and each such loop
-- has none.
use Rattle.std.proofs.Common.{◌≡◌, ◌≢◌, ◌∙◌, ◌⊎◌, ◌<◌, ◌≤◌, ℕ, Bool, true, false, not, ◌&&◌, nat_eq, IsTrue, List, ◌∷◌, Option, Some, None, map, length, get_or, refl, sym, ap, subst, inl, inr, arith}
use Rattle.std.specs.Prelude.{slice_get, slice_index}
use Rattle.std.specs.List.{All, Contains, filter}
use Rattle.std.proofs.lemmas.Bool.{and_from, and_parts, eq-eqb, eqb-true, false_from_ne_true, false≢true, true_from_ne_false, not_from_false, not_from_true}
use Rattle.std.proofs.lemmas.List.Elements.{All-contains, All-weaker, Contains-get_or}
use Rattle.std.proofs.lemmas.Option.{get_or_from_slice_get, slice_get_within}
use Rattle.ms_base.proofs.Lists.{Contains-behind, Contains-cases, Contains-filter, Contains-filtered, Contains-first, Contains-map, passes-filtered}
use Rattle.ms_lits.specs.declared.lit.Lit.{Lit}
use Rattle.ms_lits.specs.declared.trail.Entry.{Entry}
use Rattle.ms_lits.specs.Assignment.{HoldsIn, value_in}
use Rattle.ms_lits.specs.Literals.{Nogood}
use Rattle.ms_join.specs.Sets.{has_all, has_none}
use Rattle.ms_complete.specs.Rules.{fails, holds}
use Rattle.ms_complete.specs.Sets.{Writes}
use Rattle.ms_complete.proofs.Lists.{member_map_cases, some_at}
use Rattle.ms_unfound.specs.declared.part.Part.{Part}
use Rattle.ms_unfound.specs.declared.part.Support.{Support}
use Rattle.ms_unfound.specs.Parts.{Known, IsPart, IsSupport}
use Rattle.ms_unfound.specs.Loops.{IsLoopOf, is_outer, outer_bodies}
use Rattle.ms_unfound.specs.Marks.{IsBare, IsLeast, asks, flag_at, may_hold, unmarked_in}
use Rattle.ms_unfound.proofs.MarkLaws.{all_more}
use Rattle.ms_unfound.specs.Settled.{IsPressingGiven, IsPressingLoop, IsSettled, IsSettledPart}

was_true : (b : Bool) → not b ≡ false → b ≡ true
was_true true fails = refl
was_true false fails = absurd (false≢true (sym fails))

pub was_false : (b : Bool) → IsTrue (not b) → b ≡ false
was_false true holds = absurd (false≢true holds)
was_false false holds = refl

must_be_false : (v : Option Bool) → may_hold v ≡ false → v ≡ Some false
must_be_false None may = absurd (false≢true (sym may))
must_be_false (Some true) may = absurd (false≢true (sym may))
must_be_false (Some false) may = refl

isn't_false : (v : Option Bool) → v ≢ Some false → may_hold v ≡ true
isn't_false v differs = true_from_ne_false (may_hold v) (λ may. differs (must_be_false v may))

differs_from_false : (v : Option Bool) → may_hold v ≡ true → v ≢ Some false
differs_from_false v may is = false≢true (sym (ap may_hold is) ∙ may)

-- a body of an outer support, as a literal of the nogood
outer_body : (loop : ℕ → Bool) (supports : List Support) (s : Support) → Contains supports s → is_outer loop s ≡ true → Contains (outer_bodies loop supports) s.body
outer_body loop supports s among outer = Contains-map (λ (t : Support). t.body) (filter (is_outer loop) supports) s (Contains-filter (is_outer loop) supports s among outer)

module _ (room : ℕ) (part : Part) (is : IsPart room part) where
  -- an atom is no body
  pub apart : (place var : ℕ) (loop : ℕ → Bool) → slice_get part.atoms place ≡ Some var → ¬ Contains (outer_bodies loop part.supports) var
  apart place var loop at has =
      let (s, there, same) = member_map_cases (λ (t : Support). t.body) (filter (is_outer loop) part.supports) var has in
      let support = All-contains (IsSupport room part) part.supports s is.supports (Contains-filtered (is_outer loop) part.supports s there) in
      All-contains (λ v. v ≢ s.body) part.atoms var support.apart (some_at part.atoms place var at) (sym same)

  module _ (entries : List Entry) (flags : List Bool) (least : IsLeast entries part.supports (flag_at flags)) where
    -- what supports the unmarked atoms of a component from outside is false
    outer_is_false : (number : ℕ) (s : Support) → Contains part.supports s → is_outer (unmarked_in part.numbers flags number) s ≡ true → value_in entries s.body ≡ Some false
    outer_is_false number s among outer = must_be_false (value_in entries s.body) (false_from_ne_true (may_hold (value_in entries s.body)) (λ may.
        let left : ℕ → Bool = unmarked_in part.numbers flags number in
        let halves = and_parts (left s.head) (has_none left s.inner) outer in
        let head = and_parts (nat_eq (slice_index part.numbers s.head) number) (not (flag_at flags s.head)) halves.0 in
        let support = All-contains (IsSupport room part) part.supports s is.supports among in
        let inner : has_all (flag_at flags) s.inner ≡ true =
        all_more (λ i. not (left i)) (flag_at flags) s.inner
        (λ k d within not_left.
        let i : ℕ = get_or s.inner k d in
        let same : nat_eq (slice_index part.numbers i) number ≡ true = eq-eqb (slice_index part.numbers i) number (support.together k d within ∙ eqb-true (slice_index part.numbers s.head) number head.0) in
        true_from_ne_false (flag_at flags i) (λ lacks. false≢true (sym (not_from_true (left i) (and_from (nat_eq (slice_index part.numbers i) number) (not (flag_at flags i)) same (not_from_false (flag_at flags i) lacks))) ∙ not_left)))
        halves.1 in
        let asked : asks entries (flag_at flags) s ≡ true =
        and_from (may_hold (value_in entries s.body)) (not (flag_at flags s.head) && has_all (flag_at flags) s.inner) may (and_from (not (flag_at flags s.head)) (has_all (flag_at flags) s.inner) head.1 inner) in
        false≢true (sym (All-contains (λ (t : Support). asks entries (flag_at flags) t ≡ false) part.supports s least.still among) ∙ asked)))

    -- the nogood of a bare atom
    pub pressing_at : (place number var : ℕ) (lits : List Lit) → slice_index part.numbers place ≡ number → IsBare entries part.atoms flags place → slice_get part.atoms place ≡ Some var
        → Writes (holds var ∷ map fails (outer_bodies (unmarked_in part.numbers flags number) part.supports)) lits → IsPressingLoop part entries lits
    pressing_at place number var lits numbered bare at w =
        let left : ℕ → Bool = unmarked_in part.numbers flags number in
        let bodies : List ℕ = outer_bodies left part.supports in
        let signs : List Lit = holds var ∷ map fails bodies in
        let same_var : bare.var ≡ var = sym (get_or_from_slice_get part.atoms place bare.var 0 bare.at) ∙ get_or_from_slice_get part.atoms place var 0 at in
        record {
          is = record {
            loop = left;
            member = place;
            var = var;
            has = and_from (nat_eq (slice_index part.numbers place) number) (not (flag_at flags place)) (eq-eqb (slice_index part.numbers place) number numbered) (not_from_false (flag_at flags place) bare.unmarked);
            at = at;
            together = λ i in_left. eqb-true (slice_index part.numbers i) number (and_parts (nat_eq (slice_index part.numbers i) number) (not (flag_at flags i)) in_left).0 ∙ sym numbered;
            is = w;
          };
          pressing = record {
            atom = holds var;
            contained = All-contains (Contains lits) signs (holds var) w.all (Contains-first (holds var) (map fails bodies));
            positive = refl;
            others = All-weaker (Contains signs) (λ other. (other ≡ holds var) ⊎ HoldsIn entries other)
                (λ other among. elim (Contains-cases (holds var) (map fails bodies) other among) [
                  | inl same ↦ inl (sym same)
                  | inr later ↦
                      let (b, has_b, same_b) = member_map_cases fails bodies other later in
                      let (s, there, same_s) = member_map_cases (λ (t : Support). t.body) (filter (is_outer left) part.supports) b has_b in
                      let false_body = outer_is_false number s (Contains-filtered (is_outer left) part.supports s there) (passes-filtered (is_outer left) part.supports s there) in
                      inr (subst (HoldsIn entries) same_b (subst (λ (v : ℕ). value_in entries v ≡ Some false) same_s false_body))
                ])
                lits w.each;
            not_false = subst (λ (v : ℕ). value_in entries v ≢ Some false) same_var (differs_from_false (value_in entries bare.var) bare.not_false);
          };
        }

    -- where no atom is bare, no loop presses
    pub settled_when : ((i : ℕ) → ¬ IsBare entries part.atoms flags i) → IsSettledPart part entries
    settled_when none nogood l p =
        let bodies : List ℕ = outer_bodies l.loop part.supports in
        let signs : List Lit = holds l.var ∷ map fails bodies in
        let is_atom : holds l.var ≡ p.atom = elim (Contains-cases (holds l.var) (map fails bodies) p.atom (All-contains (Contains signs) nogood p.atom l.is.each p.contained)) [
          | inl same ↦ same
          | inr later ↦ let (b, has_b, same_b) = member_map_cases fails bodies p.atom later in absurd (false≢true (ap (λ (m : Lit). m.truth) same_b ∙ p.positive))
        ] in
        let false_body : (s : Support) → Contains part.supports s → is_outer l.loop s ≡ true → value_in entries s.body ≡ Some false =
        λ s among outer.
        let there : Contains nogood (fails s.body) =
        All-contains (Contains nogood) signs (fails s.body) l.is.all (Contains-behind (holds l.var) (map fails bodies) (fails s.body) (Contains-map fails bodies s.body (outer_body l.loop part.supports s among outer))) in
        elim (All-contains (λ other. (other ≡ p.atom) ⊎ HoldsIn entries other) nogood (fails s.body) p.others there) [
          | inl same ↦ absurd (false≢true (ap (λ (m : Lit). m.truth) same ∙ p.positive))
          | inr held ↦ held
        ] in
        let beyond : ℕ → Bool = λ i. not (l.loop i) in
        let still : (s : Support) → Contains part.supports s → asks entries beyond s ≡ false =
        λ s among. false_from_ne_true (asks entries beyond s) (λ asked.
        let first = and_parts (may_hold (value_in entries s.body)) (not (beyond s.head) && has_all beyond s.inner) asked in
        let second = and_parts (not (beyond s.head)) (has_all beyond s.inner) first.1 in
        let outer : is_outer l.loop s ≡ true = and_from (l.loop s.head) (has_none l.loop s.inner) (was_true (l.loop s.head) (was_false (not (l.loop s.head)) second.0)) second.1 in
        differs_from_false (value_in entries s.body) first.0 (false_body s among outer)) in
        let unmarked : flag_at flags l.member ≡ false = false_from_ne_true (flag_at flags l.member) (λ marked.
        let outside : IsTrue (beyond l.member) = least.within beyond (λ k d within. still (get_or part.supports k d) (Contains-get_or part.supports k d within)) l.member marked in
        false≢true (sym (was_false (l.loop l.member) outside) ∙ l.has)) in
        let differs : value_in entries l.var ≢ Some false = subst (λ (m : Lit). value_in entries m.var ≢ Some false) (sym is_atom) p.not_false in
        none l.member (record { var = l.var; at = l.at; not_false = isn't_false (value_in entries l.var) differs; unmarked = unmarked })

-- what isn't bare
pub not_bare_false : (entries : List Entry) (atoms : List ℕ) (flags : List Bool) (i : ℕ) → may_hold (value_in entries (get_or atoms i 0)) ≡ false → ¬ IsBare entries atoms flags i
not_bare_false entries atoms flags i may bare =
    let same : get_or atoms i 0 ≡ bare.var = get_or_from_slice_get atoms i bare.var 0 bare.at in
    false≢true (sym (subst (λ (v : ℕ). may_hold (value_in entries v) ≡ false) same may) ∙ bare.not_false)

pub not_bare_marked : (entries : List Entry) (atoms : List ℕ) (flags : List Bool) (i : ℕ) → flag_at flags i ≡ true → ¬ IsBare entries atoms flags i
not_bare_marked entries atoms flags i marked bare = false≢true (sym bare.unmarked ∙ marked)

pub not_bare_beyond : (entries : List Entry) (atoms : List ℕ) (flags : List Bool) (n : ℕ) → length atoms ≤ n → ((k : ℕ) → k < n → ¬ IsBare entries atoms flags k) → (i : ℕ) → ¬ IsBare entries atoms flags i
not_bare_beyond entries atoms flags n long none i bare =
    let within : i < length atoms = slice_get_within atoms i bare.var bare.at in
    none i (omega (arith, within, long)) bare

-- ---- over what the code reads

module _ (room : ℕ) (part : Part) (is : IsPart room part) (entries : List Entry) (flags : List Bool) (place : ℕ) (bare : IsBare entries part.atoms flags place) where
  at_bare : get_or part.atoms place 0 ≡ bare.var
  at_bare = get_or_from_slice_get part.atoms place bare.var 0 bare.at

  pub apart_in : (atoms bodies : List ℕ) (supports : List Support) (loop : ℕ → Bool) → atoms ≡ part.atoms → supports ≡ part.supports → bodies ≡ outer_bodies loop supports → ¬ Contains bodies (get_or atoms place 0)
  apart_in atoms bodies supports loop same_atoms same_supports same_bodies has =
      let var_is : get_or atoms place 0 ≡ bare.var = ap (λ (xs : List ℕ). get_or xs place 0) same_atoms ∙ at_bare in
      let there : Contains bodies bare.var = subst (Contains bodies) var_is has in
      apart room part is place bare.var loop bare.at (subst (λ (bs : List ℕ). Contains bs bare.var) (same_bodies ∙ ap (outer_bodies loop) same_supports) there)

  pub pressing_in : (least : IsLeast entries part.supports (flag_at flags)) (atoms numbers bodies : List ℕ) (supports : List Support) (lits : List Lit) → atoms ≡ part.atoms → numbers ≡ part.numbers → supports ≡ part.supports
      → bodies ≡ outer_bodies (unmarked_in numbers flags (get_or numbers place 0)) supports → Writes (holds (get_or atoms place 0) ∷ map fails bodies) lits → IsPressingLoop part entries lits
  pressing_in least atoms numbers bodies supports lits same_atoms same_numbers same_supports same_bodies w =
      let number : ℕ = get_or part.numbers place 0 in
      let var_is : get_or atoms place 0 ≡ bare.var = ap (λ (xs : List ℕ). get_or xs place 0) same_atoms ∙ at_bare in
      let bodies_are : bodies ≡ outer_bodies (unmarked_in part.numbers flags number) part.supports =
      same_bodies ∙ (ap (λ (ns : List ℕ). outer_bodies (unmarked_in ns flags (get_or ns place 0)) supports) same_numbers ∙ ap (outer_bodies (unmarked_in part.numbers flags number)) same_supports) in
      pressing_at room part is entries flags least place number bare.var lits refl bare bare.at
      (subst (λ (bs : List ℕ). Writes (holds bare.var ∷ map fails bs) lits) bodies_are (subst (λ (v : ℕ). Writes (holds v ∷ map fails bodies) lits) var_is w))

-- ---- all parts

-- the literals of a loop nogood are over the variables
pub loop_within : (vars : ℕ) (part : Part) (nogood : Nogood) → IsPart vars part → IsLoopOf part nogood → All (λ lit. lit.var < vars) nogood
loop_within vars part nogood is l =
    let bodies : List ℕ = outer_bodies l.loop part.supports in
    All-weaker (Contains (holds l.var ∷ map fails bodies)) (λ lit. lit.var < vars)
    (λ lit among. elim (Contains-cases (holds l.var) (map fails bodies) lit among) [
      | inl same ↦ subst (λ (m : Lit). m.var < vars) same (All-contains (λ v. v < vars) part.atoms l.var is.atoms (some_at part.atoms l.member l.var l.at))
      | inr later ↦
          let (b, has_b, same_b) = member_map_cases fails bodies lit later in
          let (s, there, same_s) = member_map_cases (λ (t : Support). t.body) (filter (is_outer l.loop) part.supports) b has_b in
          let support = All-contains (IsSupport vars part) part.supports s is.supports (Contains-filtered (is_outer l.loop) part.supports s there) in
          subst (λ (m : Lit). m.var < vars) same_b (subst (λ (v : ℕ). v < vars) same_s support.body)
    ])
    nogood l.is.each

-- more room does no harm
pub part_in : (vars room : ℕ) (part : Part) → vars ≤ room → IsPart vars part → IsPart room part
part_in vars room part fits is = record {
  numbered = is.numbered;
  atoms = All-weaker (λ v. v < vars) (λ v. v < room) (λ v less. omega (arith, less, fits)) part.atoms is.atoms;
  supports = All-weaker (IsSupport vars part) (IsSupport room part)
      (λ s of. record { head = of.head; body = (let less = of.body in omega (arith, less, fits)); apart = of.apart; inner = of.inner; together = of.together })
      part.supports is.supports;
}

pub settled_from : (known : Known) (entries : List Entry) → All (λ part. IsSettledPart part entries) known.parts → IsSettled known entries
settled_from known entries all nogood given =
    let of = given.of_part in
    All-contains (λ (part : Part). IsSettledPart part entries) known.parts of.1 all (of.0, of.2, of.3) nogood of.4

pub given_from : (known : Known) (entries : List Entry) (part : Part) (nogood : Nogood) → All (IsPart known.vars) known.parts → Contains known.parts part → IsPressingLoop part entries nogood → IsPressingGiven known entries nogood
given_from known entries part nogood are among p = record {
  given = record {
    within = loop_within known.vars part nogood (All-contains (IsPart known.vars) known.parts part are among) p.is;
    of_part = (among.0, part, among.1, among.2, p.is);
  };
  pressing = p.pressing;
}
