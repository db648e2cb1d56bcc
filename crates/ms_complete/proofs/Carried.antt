-- Nogoods of old things among more, rules by their heads, and literals for signed things.
use Rattle.std.proofs.Common.{◌≡◌, ◌≢◌, ◌∙◌, ◌⊎◌, ◌<◌, ℕ, Bool, true, false, nat_eq, List, [], ◌∷◌, ◌++◌, Option, Some, None, map, length, refl, sym, ap, subst, inl, inr, eq-eqb}
use Rattle.std.specs.Prelude.{slice_get, IfSome}
use Rattle.std.specs.List.{All, AllPairs, Any, Contains, filter}
use Rattle.std.proofs.lemmas.Bool.Decides.{Decides-eqb}
use Rattle.std.proofs.lemmas.Bool.{cond-false, false≢true, false_from_ne_true}
use Rattle.std.proofs.lemmas.List.{get_or_append_left}
use Rattle.std.proofs.lemmas.List.Elements.{All-cons, All-contains, All-nil, All-map}
use Rattle.std.proofs.lemmas.Option.{get_or_from_slice_get, slice_get-get_or}
use Rattle.ms_lits.specs.declared.lit.Lit.{Lit}
use Rattle.ms_lits.specs.Literals.{Nogood}
use Rattle.ms_join.specs.declared.ground_rule.GroundKind.{GroundKind}
use Rattle.ms_join.specs.declared.ground_rule.GroundKind.TheVariants.{Normal, Choice, Constraint}
use Rattle.ms_join.specs.declared.ground_rule.GroundRule.{GroundRule}
use Rattle.ms_join.specs.Things.{Body, Thing}
use Rattle.ms_join.specs.Things.Thing.{atom, body, tuple, aggregate}
use Rattle.ms_things.specs.Signs.{Signed, IsFor, IsNogoodOf}
use Rattle.ms_things.specs.Completion.{has_head_in}
use Rattle.ms_complete.specs.Rules.{IsAtomAt, IsHeadAt, holds, fails, BodyNogood, ThingNogood, SaysByKind}
use Rattle.ms_complete.specs.Sets.{Match, Writes, pair}
use Rattle.ms_complete.proofs.Lists.{any_from, any_weaker, any_here, any_later, member_of, member_here, member_later, member_none, member_cases, at_some, at_left, some_once, same_some, none_is_some, all_from}

-- Things keep their numbers, so a set of old things is written as before.
module _ (O more N : List Thing) (is : N ≡ O ++ more) (once : AllPairs (λ t u. t ≢ u) N) where
  stays : (k : ℕ) (t : Thing) → slice_get O k ≡ Some t → slice_get N k ≡ Some t
  stays k t at = subst (λ (ts : List Thing). slice_get ts k ≡ Some t) (sym is) (at_left O more k t at)

  for_stays : (s : Signed) (lit : Lit) → IsFor O s lit → IsFor N s lit
  for_stays s lit f = (stays lit.var s.thing f.0, f.1)

  pub nogood_stays : (signs : List Signed) (n : Nogood) → IsNogoodOf O signs n → IsNogoodOf N signs n
  nogood_stays signs n of = record {
    rising = of.rising;
    of_set = all_from (λ lit. Any (λ s. IsFor N s lit) signs) n (λ lit has.
        any_weaker (λ s. IsFor O s lit) (λ s. IsFor N s lit) (λ s f. for_stays s lit f) signs (All-contains (λ (l : Lit). Any (λ s. IsFor O s l) signs) n lit of.of_set has));
    whole = all_from (λ s. Any (IsFor N s) n) signs (λ s has.
        any_weaker (IsFor O s) (IsFor N s) (λ lit f. for_stays s lit f) n (All-contains (λ (t : Signed). Any (IsFor O t) n) signs s of.whole has));
  }

  for_was : (s : Signed) (lit : Lit) → Contains O s.thing → IsFor N s lit → IsFor O s lit
  for_was s lit has f =
      let (k, at) = at_some O s.thing has in
      let same : k ≡ lit.var = some_once N once k lit.var s.thing (stays k s.thing at) f.0 in
      (subst (λ (i : ℕ). slice_get O i ≡ Some s.thing) same at, f.1)

  pub nogood_was : (signs : List Signed) → All (λ (s : Signed). Contains O s.thing) signs → (n : Nogood) → IsNogoodOf N signs n → IsNogoodOf O signs n
  nogood_was signs each n of = record {
    rising = of.rising;
    of_set = all_from (λ lit. Any (λ s. IsFor O s lit) signs) n (λ lit has.
        let some = All-contains (λ (l : Lit). Any (λ s. IsFor N s l) signs) n lit of.of_set has in
        let among = member_of (λ s. IsFor N s lit) signs some in
        any_from (λ s. IsFor O s lit) signs some.1 among (for_was some.1 lit (All-contains (λ (s : Signed). Contains O s.thing) signs some.1 each among) some.4));
    whole = all_from (λ s. Any (IsFor O s) n) signs (λ s has.
        any_weaker (IsFor N s) (IsFor O s) (λ lit f. for_was s lit (All-contains (λ (t : Signed). Contains O t.thing) signs s each has) f) n
        (All-contains (λ (t : Signed). Any (IsFor N t) n) signs s of.whole has));
  }

  -- a place in the front
  pub front_at : (k : ℕ) (t : Thing) → slice_get N k ≡ Some t → k < length O → slice_get O k ≡ Some t
  front_at k t at within =
      let there : slice_get (O ++ more) k ≡ Some t = subst (λ (ts : List Thing). slice_get ts k ≡ Some t) is at in
      slice_get-get_or O k t within ∙ ap Some (sym (get_or_append_left O more t k within) ∙ get_or_from_slice_get (O ++ more) k t t there)

-- rules by their heads
pub filter_none : (p : GroundRule → Bool) (rules : List GroundRule) → ((rule : GroundRule) → Contains rules rule → p rule ≡ false) → filter p rules ≡ []
filter_none p [] each = refl
filter_none p (rule ∷ rules) each =
    cond-false (p rule) (rule ∷ filter p rules) (filter p rules) (each rule (member_here rule rules)) ∙ filter_none p rules (λ r has. each r (member_later rule r rules has))

abbrev pub heads : ℕ → GroundRule → Bool
heads a rule = has_head_in (nat_eq a) rule.head

pub has_head : (a : ℕ) (head : Option ℕ) → has_head_in (nat_eq a) head ≡ true → head ≡ Some a
has_head a None e = absurd (false≢true e)
has_head a (Some h) e = ap Some (sym ((Decides-eqb a h).0 e))

pub head_is : (a : ℕ) (head : Option ℕ) → head ≡ Some a → has_head_in (nat_eq a) head ≡ true
head_is a head e = subst (λ (o : Option ℕ). has_head_in (nat_eq a) o ≡ true) (sym e) (eq-eqb a a refl)

pub other_head : (a : ℕ) (head : Option ℕ) → (head ≡ Some a → ⊥) → has_head_in (nat_eq a) head ≡ false
other_head a head differ = false_from_ne_true (has_head_in (nat_eq a) head) (λ e. differ (has_head a head e))

pub if_some : (P : ℕ → Type 0) (o : Option ℕ) (h : ℕ) → IfSome o P → o ≡ Some h → P h
if_some P o h p e = subst (λ (x : Option ℕ). IfSome x P) e p

-- the number of a head
pub number_of : (N : List Thing) (head number : Option ℕ) (h : ℕ) → IsHeadAt N head number → head ≡ Some h → (n : ℕ) × (number ≡ Some n) × IsAtomAt N h n
number_of N None number h at is = absurd (none_is_some h is)
number_of N (Some g) None h at is = absurd at
number_of N (Some g) (Some n) h at is = (n, refl, at ∙ ap (λ (a : ℕ). Some (atom a)) (same_some g h is))

-- the head of a number
pub head_of : (N : List Thing) (head number : Option ℕ) (n : ℕ) → IsHeadAt N head number → number ≡ Some n → (h : ℕ) × (head ≡ Some h) × IsAtomAt N h n
head_of N head None n at is = absurd (none_is_some n is)
head_of N None (Some k) n at is = absurd at
head_of N (Some h) (Some k) n at is = (h, refl, subst (IsAtomAt N h) (same_some k n is) at)

pub record SaysNormal (kind : GroundKind) (head : Option ℕ) (b : ℕ) (n : Nogood) : Type 0 where
  pub normal : kind ≡ Normal
  pub number : ℕ
  pub has : head ≡ Some number
  pub writes : Writes (pair (holds b) (fails number)) n

pub says_cases : (kind : GroundKind) (head : Option ℕ) (b : ℕ) (n : Nogood) → SaysByKind kind head b n → SaysNormal kind head b n ⊎ ((kind ≡ Constraint) × Writes (holds b ∷ []) n)
says_cases Normal (Some h) b n says = inl (record { normal = refl; number = h; has = refl; writes = says })
says_cases Normal None b n says = absurd says
says_cases Choice head b n says = absurd says
says_cases Constraint head b n says = inr (refl, says)

pub says_normal : (kind : GroundKind) (head : Option ℕ) (b h : ℕ) (n : Nogood) → kind ≡ Normal → head ≡ Some h → Writes (pair (holds b) (fails h)) n → SaysByKind kind head b n
says_normal kind head b h n normal has w =
    subst (λ (k : GroundKind). SaysByKind k head b n) (sym normal) (subst (λ (o : Option ℕ). SaysByKind Normal o b n) (sym has) w)

pub says_constraint : (kind : GroundKind) (head : Option ℕ) (b : ℕ) (n : Nogood) → kind ≡ Constraint → Writes (holds b ∷ []) n → SaysByKind kind head b n
says_constraint kind head b n is w = subst (λ (k : GroundKind). SaysByKind k head b n) (sym is) w

-- a thing that is said something of is a body
pub thing_says : (N : List Thing) (o : Option Thing) (n : Nogood) → ThingNogood N o n → (b : Body) × (o ≡ Some (body b)) × BodyNogood N b n
thing_says N None n says = absurd says
thing_says N (Some (atom a)) n says = absurd says
thing_says N (Some (body b)) n says = (b, refl, says)
thing_says N (Some (tuple t)) n says = absurd says
thing_says N (Some (aggregate g)) n says = absurd says

-- literals for one and for two signed things
pub match_one : (N : List Thing) (s : Signed) (a : Lit) → IsFor N s a → Match (IsFor N) (s ∷ []) (a ∷ [])
match_one N s a f = record {
  each = All-cons (λ (l : Lit). Any (λ t. IsFor N t l) (s ∷ [])) a [] (any_here (λ t. IsFor N t a) s [] f) (All-nil (λ (l : Lit). Any (λ t. IsFor N t l) (s ∷ [])));
  all = All-cons (λ (t : Signed). Any (IsFor N t) (a ∷ [])) s [] (any_here (IsFor N s) a [] f) (All-nil (λ (t : Signed). Any (IsFor N t) (a ∷ [])));
}

pub match_two : (N : List Thing) (s t : Signed) (a b : Lit) → IsFor N s a → IsFor N t b → Match (IsFor N) (s ∷ t ∷ []) (a ∷ b ∷ [])
match_two N s t a b f g = record {
  each = all_from (λ l. Any (λ u. IsFor N u l) (s ∷ t ∷ [])) (a ∷ b ∷ []) (λ l has. elim (member_cases a l (b ∷ []) has) [
    | inl first ↦ any_here (λ u. IsFor N u l) s (t ∷ []) (subst (IsFor N s) first f)
    | inr later ↦ elim (member_cases b l [] later) [
      | inl second ↦ any_later (λ u. IsFor N u l) s (t ∷ []) (any_here (λ u. IsFor N u l) t [] (subst (IsFor N t) second g))
      | inr none ↦ absurd (member_none l none)
    ]
  ]);
  all = all_from (λ u. Any (IsFor N u) (a ∷ b ∷ [])) (s ∷ t ∷ []) (λ u has. elim (member_cases s u (t ∷ []) has) [
    | inl first ↦ any_here (IsFor N u) a (b ∷ []) (subst (λ (v : Signed). IsFor N v a) first f)
    | inr later ↦ elim (member_cases t u [] later) [
      | inl second ↦ any_later (IsFor N u) a (b ∷ []) (any_here (IsFor N u) b [] (subst (λ (v : Signed). IsFor N v b) second g))
      | inr none ↦ absurd (member_none u none)
    ]
  ]);
}

-- The parts of a declared body are declared.
pub part_atoms : (N : List Thing) (truth : Bool) (atoms : List ℕ) → ((a : ℕ) → Contains atoms a → Contains N (atom a))
    → All {X = Signed} (λ (s : Signed). Contains N s.thing) (map (λ a. record { thing = atom a; truth = truth }) atoms)
part_atoms N truth atoms each = All-map (λ (s : Signed). Contains N s.thing) (λ a. record { thing = atom a; truth = truth }) atoms (all_from (λ a. Contains N (atom a)) atoms each)
