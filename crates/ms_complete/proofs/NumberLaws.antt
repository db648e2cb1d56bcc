-- Declaring things one after the other.
use Rattle.std.proofs.Common.{◌≡◌, ◌≢◌, ◌∙◌, ◌⊎◌, ◌+◌, ◌<◌, ◌≤◌, ◌^◌, ℕ, zero, suc, List, [], ◌∷◌, ◌++◌, Option, Some, None, take, length, get_or, refl, sym, ap, subst, inl, inr, arith, append_assoc}
use Rattle.std.specs.Prelude.{slice_get}
use Rattle.std.specs.List.{All, AllPairs, Any, Contains}
use Rattle.std.proofs.lemmas.List.Elements.{All-append, All-nil, All-push, All-weaker, All-cons, All-contains, Contains-append_left, Contains-push}
use Rattle.std.proofs.lemmas.Bool.{cases_eq}
use Rattle.std.proofs.lemmas.List.{append-nil, length_push}
use Rattle.std.proofs.lemmas.Option.{slice_get_within}
use Rattle.ms_join.specs.declared.aggregate.SignedAgg.{SignedAgg}
use Rattle.ms_join.specs.declared.ground_rule.GroundRule.{GroundRule}
use Rattle.ms_join.specs.Things.{Thing}
use Rattle.ms_join.specs.Things.Thing.{atom, body, tuple, aggregate}
use Rattle.ms_things.specs.Numbers.{IsMadeOf}
use Rattle.ms_complete.specs.declared.key.NumberedRule.{NumberedRule}
use Rattle.ms_complete.specs.Keys.{plain, plain_body}
use Rattle.ms_complete.specs.Numbering.{Numbering, AreDeclared, Declares, Numbers, IsAtomOf, IsNewAtom, IsPartOf, IsOfRule}
use Rattle.ms_complete.specs.Rules.{IsAtomAt, IsHeadAt, IsNumbered}
use Rattle.ms_complete.specs.Sets.{Match}
use Rattle.ms_complete.proofs.Lists.{any_from, any_weaker, any_left, any_none, some_at, at_some, at_left, none_is_some, same_some, next_one}

pub declares_none : (n : Numbering) (Is : Thing → Type 0) → Declares Is n n
declares_none n Is = record { more = []; things = sym (append-nil n.things); each = All-nil Is; names = refl }

pub declares_then : (a b c : Numbering) (P Q R : Thing → Type 0) → Declares P a b → Declares Q b c → ((t : Thing) → P t → R t) → ((t : Thing) → Q t → R t) → Declares R a c
declares_then a b c P Q R first second left right = record {
  more = first.more ++ second.more;
  things = second.things ∙ (ap (λ (ts : List Thing). ts ++ second.more) first.things ∙ append_assoc a.things first.more second.more);
  each = All-append R first.more second.more (All-weaker P R left first.more first.each) (All-weaker Q R right second.more second.each);
  names = second.names ∙ first.names;
}

pub declares_weaker : (a b : Numbering) (P R : Thing → Type 0) → Declares P a b → ((t : Thing) → P t → R t) → Declares R a b
declares_weaker a b P R first left = record { more = first.more; things = first.things; each = All-weaker P R left first.more first.each; names = first.names }

pub keeps_number : (a b : Numbering) (Is : Thing → Type 0) → Declares Is a b → (k : ℕ) (t : Thing) → slice_get a.things k ≡ Some t → slice_get b.things k ≡ Some t
keeps_number a b Is d k t at = subst (λ (ts : List Thing). slice_get ts k ≡ Some t) (sym d.things) (at_left a.things d.more k t at)

pub keeps_member : (a b : Numbering) (Is : Thing → Type 0) → Declares Is a b → (t : Thing) → Contains a.things t → Contains b.things t
keeps_member a b Is d t has = subst (λ (ts : List Thing). Contains ts t) (sym d.things) (Contains-append_left a.things d.more t has)

-- the number of a thing after it was inserted
pub numbers_from : (old new : Numbering) (t : Thing) (number : ℕ)
    → ((Contains old.things t × (new.things ≡ old.things)) ⊎ ((¬ Contains old.things t) × (new.things ≡ old.things ++ t ∷ [])))
    → new.names ≡ old.names → slice_get new.things number ≡ Some t → Numbers old new t number
numbers_from old new t number cases names at = record {
  declares = elim cases [
    | inl there ↦ record { more = []; things = there.1 ∙ sym (append-nil old.things); each = All-nil (λ u. u ≡ t); names = names }
    | inr fresh ↦ record { more = t ∷ []; things = fresh.1; each = All-cons (λ u. u ≡ t) t [] refl (All-nil (λ u. u ≡ t)); names = names }
  ];
  at = at;
}

at_push_cases : (xs : List Thing) (t u : Thing) (k : ℕ) → slice_get (xs ++ t ∷ []) k ≡ Some u → (slice_get xs k ≡ Some u) ⊎ ((k ≡ length xs) × (t ≡ u))
at_push_cases [] t u zero at = inr (refl, same_some t u at)
at_push_cases [] t u (suc k) at = absurd (none_is_some u at)
at_push_cases (x ∷ xs) t u zero at = inl at
at_push_cases (x ∷ xs) t u (suc k) at = elim (at_push_cases xs t u k at) [
  | inl before ↦ inl before
  | inr last ↦ inr (ap suc last.0, last.1)
]

pub declared_more : (old new : List Thing) (t : Thing) → AreDeclared old → ((part : Thing) → IsMadeOf t part → Contains old part)
    → ((Contains old t × (new ≡ old)) ⊎ ((¬ Contains old t) × (new ≡ old ++ t ∷ [])))
    → length new < 2 ^ 32 → AllPairs (λ u v. u ≢ v) new → AreDeclared new
declared_more old new t are parts cases fits once = record {
  fits = fits;
  once = once;
  before = elim cases [
    | inl there ↦ subst (λ (ts : List Thing). (k : ℕ) (u part : Thing) → slice_get ts k ≡ Some u → IsMadeOf u part → (i : ℕ) × (i < k) × (slice_get ts i ≡ Some part)) (sym there.1) are.before
    | inr fresh ↦ subst (λ (ts : List Thing). (k : ℕ) (u part : Thing) → slice_get ts k ≡ Some u → IsMadeOf u part → (i : ℕ) × (i < k) × (slice_get ts i ≡ Some part)) (sym fresh.1)
        (λ k u part at made. elim (at_push_cases old t u k at) [
          | inl before ↦
              let (i, less, found) = are.before k u part before made in
              (i, less, at_left old (t ∷ []) i part found)
          | inr last ↦
              let (i, found) = at_some old part (parts part (subst (λ (v : Thing). IsMadeOf v part) (sym last.1) made)) in
              let within : i < length old = slice_get_within old i part found in
              let less : i < k = omega (arith, within, last.0) in
              (i, less, at_left old (t ∷ []) i part found)
        ])
  ];
}

-- the atoms that a loop has declared, and the next one
pub declares_next : (start mid new : Numbering) (atoms : List ℕ) (i a number : ℕ) → i < length atoms → a ≡ get_or atoms i a
    → Declares (IsAtomOf atoms) start mid → Numbers mid new (atom a) number → Declares (IsAtomOf atoms) start new
declares_next start mid new atoms i a number within is before next =
    declares_then start mid new (IsAtomOf atoms) (λ u. u ≡ atom a) (IsAtomOf atoms) before next.declares (λ t p. p)
    (λ t same. subst (IsAtomOf atoms) (sym same) (i, within, sym is))

pub all_declared_next : (mid new : Numbering) (atoms : List ℕ) (i a number : ℕ) → i < length atoms → a ≡ get_or atoms i a
    → All (λ b. Contains mid.things (atom b)) (take i atoms) → Numbers mid new (atom a) number → All (λ b. Contains new.things (atom b)) (take (i + 1) atoms)
all_declared_next mid new atoms i a number within is before next =
    subst (All (λ b. Contains new.things (atom b))) (sym (next_one atoms i a within is))
    (All-push (λ b. Contains new.things (atom b)) (take i atoms) a
    (All-weaker (λ b. Contains mid.things (atom b)) (λ b. Contains new.things (atom b)) (λ b has. keeps_member mid new (λ u. u ≡ atom a) next.declares (atom b) has) (take i atoms) before)
    (some_at new.things number (atom a) next.at))

-- what a paired of lists says after a next pair
module _ {A B : Type 0} (R S : A → B → Type 0) (weaker : (a : A) (b : B) → R a b → S a b) where
  pub match_push : (ones : List A) (others : List B) (a : A) (b : B) → Match R ones others → S a b → Match S (ones ++ a ∷ []) (others ++ b ∷ [])
  match_push ones others a b m is = record {
    each = All-push (λ c. Any (λ d. S d c) (ones ++ a ∷ [])) others b
        (All-weaker (λ c. Any (λ d. R d c) ones) (λ c. Any (λ d. S d c) (ones ++ a ∷ [])) (λ c some. any_left (λ d. S d c) ones (a ∷ []) (any_weaker (λ d. R d c) (λ d. S d c) (λ d r. weaker d c r) ones some)) others m.each)
        (any_from (λ d. S d b) (ones ++ a ∷ []) a (Contains-push ones a) is);
    all = All-push (λ d. Any (S d) (others ++ b ∷ [])) ones a
        (All-weaker (λ d. Any (R d) others) (λ d. Any (S d) (others ++ b ∷ [])) (λ d some. any_left (S d) others (b ∷ []) (any_weaker (R d) (S d) (λ c r. weaker d c r) others some)) ones m.all)
        (any_from (S a) (others ++ b ∷ []) b (Contains-push others b) is);
  }

pub match_none : {A B : Type 0} (R : A → B → Type 0) → Match R [] []
match_none R = record { each = All-nil (λ b. Any (λ a. R a b) []); all = All-nil (λ a. Any (R a) []) }

-- rules stay numbered where things are added
pub numbered_stays : (a b : Numbering) (Is : Thing → Type 0) → Declares Is a b → (rule : GroundRule) (r : NumberedRule) → IsNumbered a.things rule r → IsNumbered b.things rule r
numbered_stays a b Is d rule r is = record {
  kind = is.kind;
  head = head_stays a b Is d rule.head r.head is.head;
  body_at = keeps_number a b Is d r.body (body (plain_body rule)) is.body_at;
}
  where
    head_stays : (a b : Numbering) (Is : Thing → Type 0) → Declares Is a b → (head number : Option ℕ) → IsHeadAt a.things head number → IsHeadAt b.things head number
    head_stays a b Is d None None at = at
    head_stays a b Is d None (Some n) at = at
    head_stays a b Is d (Some h) None at = at
    head_stays a b Is d (Some h) (Some n) at = keeps_number a b Is d n (atom h) at

-- the numbers that a loop has found, and the next one
pub atoms_next : (mid new : Numbering) (atoms numbers nexts : List ℕ) (i a number : ℕ) → i < length atoms → a ≡ get_or atoms i a
    → Match (IsAtomAt mid.things) (take i atoms) numbers → Numbers mid new (atom a) number → nexts ≡ numbers ++ number ∷ [] → Match (IsAtomAt new.things) (take (i + 1) atoms) nexts
atoms_next mid new atoms numbers nexts i a number within is before next pushed =
    subst (λ (ns : List ℕ). Match (IsAtomAt new.things) (take (i + 1) atoms) ns) (sym pushed)
    (subst (λ (xs : List ℕ). Match (IsAtomAt new.things) xs (numbers ++ number ∷ [])) (sym (next_one atoms i a within is))
    (match_push (IsAtomAt mid.things) (IsAtomAt new.things) (λ b n at. keeps_number mid new (λ u. u ≡ atom a) next.declares n (atom b) at) (take i atoms) numbers a number before next.at))

pub rules_next : (mid new : Numbering) (rules : List GroundRule) (numbered nexts : List NumberedRule) (i : ℕ) (rule : GroundRule) (r : NumberedRule) → i < length rules → rule ≡ get_or rules i rule
    → Match (IsNumbered mid.things) (take i rules) numbered → Declares (IsOfRule rule) mid new → IsNumbered new.things rule r → nexts ≡ numbered ++ r ∷ [] → Match (IsNumbered new.things) (take (i + 1) rules) nexts
rules_next mid new rules numbered nexts i rule r within is before d next pushed =
    subst (λ (ns : List NumberedRule). Match (IsNumbered new.things) (take (i + 1) rules) ns) (sym pushed)
    (subst (λ (xs : List GroundRule). Match (IsNumbered new.things) xs (numbered ++ r ∷ [])) (sym (next_one rules i rule within is))
    (match_push (IsNumbered mid.things) (IsNumbered new.things) (λ one n at. numbered_stays mid new (IsOfRule rule) d one n at) (take i rules) numbered rule r before next))

pub rules_declare_next : (start mid new : Numbering) (rules : List GroundRule) (i : ℕ) (rule : GroundRule) → i < length rules → rule ≡ get_or rules i rule
    → Declares (λ t. Any (λ one. IsOfRule one t) rules) start mid → Declares (IsOfRule rule) mid new → Declares (λ t. Any (λ one. IsOfRule one t) rules) start new
rules_declare_next start mid new rules i rule within is before next =
    declares_then start mid new (λ t. Any (λ one. IsOfRule one t) rules) (IsOfRule rule) (λ t. Any (λ one. IsOfRule one t) rules) before next (λ t p. p)
    (λ t of. any_from (λ one. IsOfRule one t) rules rule (i, within, sym is) of)

-- the parts of a body whose atoms are declared
pub parts_there : (things : List Thing) (pos neg : List ℕ) → All (λ a. Contains things (atom a)) pos → All (λ a. Contains things (atom a)) neg
    → (part : Thing) → IsMadeOf (body (plain pos neg)) part → Contains things part
parts_there things pos neg first second (atom a) made = elim made [
  | inl has ↦ All-contains (λ b. Contains things (atom b)) pos a first has
  | inr has ↦ All-contains (λ b. Contains things (atom b)) neg a second has
]
parts_there things pos neg first second (body b) made = absurd made
parts_there things pos neg first second (tuple t) made = absurd made
parts_there things pos neg first second (aggregate g) made = absurd (any_none (λ (s : SignedAgg). s.agg ≡ g) made)

pub all_stay : (a b : Numbering) (Is : Thing → Type 0) → Declares Is a b → (atoms : List ℕ) → All (λ x. Contains a.things (atom x)) atoms → All (λ x. Contains b.things (atom x)) atoms
all_stay a b Is d atoms each = All-weaker (λ x. Contains a.things (atom x)) (λ x. Contains b.things (atom x)) (λ x has. keeps_member a b Is d (atom x) has) atoms each

-- a body after its atoms
pub body_declared : (a b c d : Numbering) (pos neg p n : List ℕ) (number : ℕ) → p ≡ pos → n ≡ neg → Declares (IsAtomOf pos) a b → Declares (IsAtomOf neg) b c → Numbers c d (body (plain p n)) number
    → Declares (IsPartOf (plain pos neg)) a d
body_declared a b c d pos neg p n number first second positive negated last =
    let same : body (plain p n) ≡ body (plain pos neg) = ap (λ (x : List ℕ). body (plain x n)) first ∙ ap (λ (x : List ℕ). body (plain pos x)) second in
    declares_then a b d (IsAtomOf pos) (λ t. (t ≡ body (plain pos neg)) ⊎ IsAtomOf neg t) (IsPartOf (plain pos neg)) positive
    (declares_then b c d (IsAtomOf neg) (λ u. u ≡ body (plain p n)) (λ t. (t ≡ body (plain pos neg)) ⊎ IsAtomOf neg t) negated last.declares (λ t has. inr has) (λ t is. inl (is ∙ same)))
    (λ t has. inr (inl has)) (λ t cases. elim cases [ inl is ↦ inl is | inr has ↦ inr (inr has) ])

pub body_number : (c d : Numbering) (pos neg p n : List ℕ) (number : ℕ) → p ≡ pos → n ≡ neg → Numbers c d (body (plain p n)) number → slice_get d.things number ≡ Some (body (plain pos neg))
body_number c d pos neg p n number first second last =
    last.at ∙ (ap (λ (x : List ℕ). Some (body (plain x n))) first ∙ ap (λ (x : List ℕ). Some (body (plain pos x))) second)

-- so many new atoms, and the next one
pub new_declared_next : (start mid new : Numbering) (first count a number : ℕ) → first ≤ a → a < first + count → Declares (IsNewAtom first count) start mid → Numbers mid new (atom a) number
    → Declares (IsNewAtom first count) start new
new_declared_next start mid new first count a number least less before next =
    declares_then start mid new (IsNewAtom first count) (λ u. u ≡ atom a) (IsNewAtom first count) before next.declares (λ t p. p)
    (λ t same. subst (IsNewAtom first count) (sym same) (least, less))

pub new_all_next : (mid new : Numbering) (first a number : ℕ) → ((b : ℕ) → first ≤ b → b < a → Contains mid.things (atom b)) → Numbers mid new (atom a) number
    → (b : ℕ) → first ≤ b → b < a + 1 → Contains new.things (atom b)
new_all_next mid new first a number before next b least less = elim (cases_eq b a) [
  | inl same ↦ subst (λ (x : ℕ). Contains new.things (atom x)) (sym same) (some_at new.things number (atom a) next.at)
  | inr differ ↦ keeps_member mid new (λ u. u ≡ atom a) next.declares (atom b) (before b least (omega (arith, less, differ)))
]

-- there is a number for one thing more
pub few_after : (old new : List Thing) (t : Thing) → ((Contains old t × (new ≡ old)) ⊎ ((¬ Contains old t) × (new ≡ old ++ t ∷ []))) → length old < 4294967295 → length new < 2 ^ 32
few_after old new t cases few = elim cases [
  | inl there ↦ let same : length new ≡ length old = ap (λ (ts : List Thing). length ts) there.1 in omega (arith, few, same)
  | inr fresh ↦
      let same : length new ≡ length (old ++ t ∷ []) = ap (λ (ts : List Thing). length ts) fresh.1 in
      let more : length (old ++ t ∷ []) ≡ length old + 1 = length_push old t in
      omega (arith, few, same, more)
]
