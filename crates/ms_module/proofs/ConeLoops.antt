-- Loops in a cone are loops across modules.
use Rattle.std.proofs.Common.{◌≡◌, ◌↔◌, ℕ, ◌+◌, ◌<◌, ◌≤◌, ◌⊎◌, inl, inr, Bool, true, false, nat_eq, nat_lt, Option, Some, None, List, [], ◌∷◌, ◌++◌, length, get_or, take, refl, sym, ap, ◌∙◌, subst, arith, length-append, Contains, if◌then◌else◌, IsTrue}
use Rattle.std.specs.List.{Any, All, position_or_len, list_any}
use Rattle.std.specs.Option.{option_map, option_eq}
use Rattle.std.proofs.lemmas.Bool.{cases_lt, cond-true, lt-ltb, false≢true}
use Rattle.std.proofs.lemmas.Bool.Decides.{Decides-eqb}
use Rattle.std.proofs.lemmas.List.Elements.{All-contains, All-weaker, Contains-push_cases, Contains-append_left, Contains-push}
use Rattle.std.proofs.lemmas.List.{get_or_append_left, get_or_default}
use Rattle.std.proofs.lemmas.Option.{none-some, same_Some}
use Rattle.std.proofs.lemmas.Cmp.{nat_eq_equiv}
use Rattle.std.proofs.lemmas.Map.Views.{list_any-from_Contains}
use Rattle.indexmap.specs.IndexSet.{insert_key}
use Rattle.indexmap.proofs.CallerLemmas.{Contains-list_any}
use Rattle.ms_module.proofs.Changes.{next_atom}
use Rattle.std.proofs.lemmas.List.Sums.{fails_before_first}
use Rattle.ms_tree.specs.Tree.{Tree}
use Rattle.ms_join.specs.declared.ground_module.GroundModule.{GroundModule}
use Rattle.ms_join.specs.AnswerSets.{IsRuleOver}
use Rattle.ms_join.specs.Modules.{Join, IsJoin, IsOutput, IsWellFormed}
use Rattle.ms_join.specs.Composability.{IsInLoop, IsLeast, LoopsWith}
use Rattle.ms_cone.specs.Cones.{Numbered, number_of, IsCone}
use Rattle.ms_cone.specs.Dependencies.{IsBelow, Keeps, Linked}
use Rattle.ms_cone.proofs.Adding.{keeps_below}
use Rattle.ms_cone.proofs.Members.{member_of, contains_at}
use Rattle.ms_cone.proofs.CrossLoops.{IsWithOldHead, loop_has_old_head, no_loop_without_old_head}
use Rattle.ms_module.specs.declared.loops.CrossLoop.{CrossLoop}
use Rattle.ms_module.specs.Faults.{AreThose, AreNumbersOf, HasNumber, HasNumberAmong, LoopsInCone, IsInConeLoop, FindsInCone, FindsLoop}
use Rattle.ms_module.proofs.Leasts.{least_of}
use Rattle.ms_module.proofs.JoinLaws.{rule_over_more}

abbrev HasNumberIn : Numbered → ℕ → ℕ → Type 0
HasNumberIn cone n a = number_of cone a ≡ Some n

any_left : (cone : Numbered) (atoms : List ℕ) (a n : ℕ) → Any (HasNumberIn cone n) atoms → Any (HasNumberIn cone n) (atoms ++ a ∷ [])
any_left cone atoms a n (k, x, within, is, number) =
    (k, x, omega (arith, length-append atoms (a ∷ [])), get_or_append_left atoms (a ∷ []) x k within ∙ is, number)

any_last : (cone : Numbered) (atoms : List ℕ) (a n : ℕ) → HasNumberIn cone n a → Any (HasNumberIn cone n) (atoms ++ a ∷ [])
any_last cone atoms a n number = let (k, within, is) = Contains-push atoms a in (k, a, within, is, number)

any_cases : (cone : Numbered) (atoms : List ℕ) (a n : ℕ) → Any (HasNumberIn cone n) (atoms ++ a ∷ []) → Any (HasNumberIn cone n) atoms ⊎ HasNumberIn cone n a
any_cases cone atoms a n (k, x, within, is, number) = elim (Contains-push_cases atoms a x (k, within, is)) [
  | inl (i, inside, at) ↦ inl (i, x, inside, at, number)
  | inr same ↦ inr (subst (HasNumberIn cone n) (sym same) number)
]

-- a member has a number
has_number : (cone : Numbered) (a : ℕ) → Contains cone.members a → HasNumber cone a
has_number cone a (k, within, is) =
    let first = position_or_len (nat_eq a) cone.members in
    let inside : first < length cone.members = elim (cases_lt k first) [
      | inl before ↦
          let fails = fails_before_first (nat_eq a) cone.members k a before in
          absurd (false≢true (sym fails ∙ (Decides-eqb a (get_or cone.members k a)).1 (sym is)))
      | inr after ↦ (let low : position_or_len (nat_eq a) cone.members ≤ k = after in omega arith)
    ] in
    record {
      number = get_or cone.numbers first 0;
      is = ap (option_map (λ i. get_or cone.numbers i 0)) (cond-true (nat_lt first (length cone.members)) (Some first) None (lt-ltb first (length cone.members) inside));
    }

has_member : (cone : Numbered) (b n : ℕ) → number_of cone b ≡ Some n → Contains cone.members b
has_member cone b n is = let at = member_of cone b n is in contains_at cone.members at.place b at.member

-- the old heads from which the cone starts
pub record StartsAtOldHeads (j : Join) (m : GroundModule) (starts : List ℕ) : Type 0 where
  pub all : AreThose m.heads (λ a. a < j.atoms) starts

member_from : (j : Join) (m : GroundModule) (starts : List ℕ) (cone : Numbered) (a : ℕ) → StartsAtOldHeads j m starts → IsCone (j.rules ++ m.rules) starts cone
    → IsWithOldHead j m a → Contains cone.members a
member_from j m starts cone a old is reaches =
    let t = reaches.through in
    let start = (old.all t).1 (reaches.is_head.head, reaches.is_head.within) in
    let n = has_number cone t (is.starts_are t start) in
    has_member cone a n.number ((is.components t a n.number n.is).1 (record { forth = reaches.together.back; back = reaches.together.forth }))

to_module : (j : Join) (m : GroundModule) (starts : List ℕ) (cone : Numbered) (a b : ℕ) → IsCone (j.rules ++ m.rules) starts cone → LoopsInCone j cone a b → LoopsWith j m a b
to_module j m starts cone a b is loops = record {
  output = loops.output;
  together = (is.components a b loops.number loops.first).0 loops.second;
}

to_cone : (j : Join) (m : GroundModule) (starts : List ℕ) (cone : Numbered) (a b : ℕ) → IsJoin j → IsWellFormed j.atoms m → StartsAtOldHeads j m starts
    → IsCone (j.rules ++ m.rules) starts cone → Contains m.heads a → LoopsWith j m a b → LoopsInCone j cone a b
to_cone j m starts cone a b join formed old is head loops =
    let both = loop_has_old_head j m a b join formed head loops in
    let n = has_number cone a (member_from j m starts cone a old is both.new) in
    record {
      output = loops.output;
      number = n.number;
      first = n.is;
      second = (is.components a b n.number n.is).1 loops.together;
    }

-- what is found in the cone is what is to be found
pub found_in_cone : (names : List Tree) (j : Join) (m : GroundModule) (starts : List ℕ) (cone : Numbered) (found : Option CrossLoop) → IsJoin j → IsWellFormed j.atoms m
    → StartsAtOldHeads j m starts → IsCone (j.rules ++ m.rules) starts cone → FindsInCone names j cone m.heads found → FindsLoop names j m found
found_in_cone names j m starts cone None join formed old is finds = λ a in_loop.
    let loop = to_cone j m starts cone a in_loop.loops.0 join formed old is in_loop.head in_loop.loops.1 in
    finds a (record { head = in_loop.head; loops = (in_loop.loops.0, loop) })
found_in_cone names j m starts cone (Some l) join formed old is finds = (
  least_of names (IsInConeLoop j cone m.heads) (IsInLoop j m) l.new_head
      (λ a loop. record { head = loop.head; loops = (loop.loops.0, to_module j m starts cone a loop.loops.0 is loop.loops.1) })
      (λ a loop. record { head = loop.head; loops = (loop.loops.0, to_cone j m starts cone a loop.loops.0 join formed old is loop.head loop.loops.1) })
      finds.0,
  least_of names (LoopsInCone j cone l.new_head) (LoopsWith j m l.new_head) l.old
      (λ b loop. to_module j m starts cone l.new_head b is loop)
      (λ b loop. to_cone j m starts cone l.new_head b join formed old is finds.0.is.head loop)
      finds.1,
)

-- where no head is in the old base
pub none_found : (j : Join) (m : GroundModule) (heads starts : List ℕ) → IsJoin j → IsWellFormed j.atoms m → AreThose heads (λ a. a < j.atoms) starts → heads ≡ m.heads → length starts ≡ 0 → (a : ℕ) → ¬ IsInLoop j m a
none_found j m heads starts join formed those same none =
    no_loop_without_old_head j m join formed (λ h old.
    let (k, within, is) = ((those h).1 (subst (λ xs. Contains xs h) (sym same) old.head, old.within)) in
    omega (arith, within, none))

-- the links of kept dependencies lead to atoms of the base
pub kept_below : (j : Join) (d : Linked) (n : ℕ) → IsJoin j → Keeps d j.rules → j.atoms ≤ n → IsBelow n d
kept_below j d n join keeps le =
    keeps_below n d j.rules keeps (All-weaker (IsRuleOver j.atoms) (IsRuleOver n) (rule_over_more j.atoms n le) j.rules join.over.rules)

-- heads with a number of an output are the heads of loops
pub looping : (j : Join) (cone : Numbered) (heads outputs numbers found : List ℕ) → AreThose cone.members (IsOutput j) outputs → AreNumbersOf cone outputs numbers
    → AreThose heads (HasNumberAmong cone numbers) found → (a : ℕ) → Contains found a ↔ IsInConeLoop j cone heads a
looping j cone heads outputs numbers found members are those a = (
  λ has.
      let both = (those a).0 has in
      let (k, b, within, is, number) = (are both.1.number).0 both.1.among in
      let output = ((members b).0 (k, within, is)).1 in
      record { head = both.0; loops = (b, record { output = output; number = both.1.number; first = both.1.is; second = number }) },
  λ loop.
      let b = loop.loops.0 in
      let by = loop.loops.1 in
      let (k, within, is) = (members b).1 (has_member cone b by.number by.second, by.output) in
      (those a).1 (loop.head, record { number = by.number; is = by.first; among = (are by.number).1 (k, b, within, is, by.second) }),
)

-- and the outputs in its component are those with which a head loops
pub mates : (j : Join) (cone : Numbered) (outputs found : List ℕ) (a n : ℕ) → AreThose cone.members (IsOutput j) outputs → number_of cone a ≡ Some n
    → AreThose outputs (λ b. number_of cone b ≡ number_of cone a) found → (b : ℕ) → Contains found b ↔ LoopsInCone j cone a b
mates j cone outputs found a n members is those b = (
  λ has.
      let both = (those b).0 has in
      record { output = ((members b).0 both.0).1; number = n; first = is; second = both.1 ∙ is },
  λ loop. (those b).1 ((members b).1 (has_member cone b loop.number loop.second, loop.output), loop.second ∙ sym loop.first),
)

-- numbers to which another one came
pub numbers_none : (cone : Numbered) → AreNumbersOf cone [] []
numbers_none cone n = (λ (k, within, is). absurd (omega arith), λ (k, x, within, is, number). absurd (omega arith))

-- a number that was inserted among others
inserted_number : (keys new : List ℕ) (number : ℕ) → new ≡ insert_key nat_eq keys number → (n : ℕ) → Contains new n ↔ (Contains keys n ⊎ (number ≡ n))
inserted_number keys new number is n =
    subst (λ ks. Contains ks n ↔ (Contains keys n ⊎ (number ≡ n))) (sym is) (by (list_any (nat_eq number) keys) keys number n refl)
  where
    by : (b : Bool) (keys : List ℕ) (number n : ℕ) → list_any (nat_eq number) keys ≡ b → Contains (if b then keys else keys ++ number ∷ []) n ↔ (Contains keys n ⊎ (number ≡ n))
    by true keys number n any = (
      λ has. inl has,
      λ either. elim either [
        | inl has ↦ has
        | inr same ↦ subst (Contains keys) same (Contains-list_any nat_eq (λ x y. (Decides-eqb x y).0) keys number any)
      ],
    )
    by false keys number n any = (
      λ has. Contains-push_cases keys number n has,
      λ either. elim either [
        | inl has ↦ Contains-append_left keys (number ∷ []) n has
        | inr same ↦ subst (Contains (keys ++ number ∷ [])) same (Contains-push keys number)
      ],
    )

-- the numbers after the next atom, which the cone has
pub numbers_more : (cone : Numbered) (atoms keys new : List ℕ) (i a number : ℕ) → AreNumbersOf cone (take i atoms) keys → i < length atoms → a ≡ get_or atoms i a
    → Some number ≡ number_of cone a → new ≡ insert_key nat_eq keys number → AreNumbersOf cone (take (i + 1) atoms) new
numbers_more cone atoms keys new i a number are within at is inserts =
    subst (λ seen. AreNumbersOf cone seen new) (sym (next_atom atoms i a within at)) (λ n. (
      λ has. elim ((inserted_number keys new number inserts n).0 has) [
        | inl before ↦ any_left cone (take i atoms) a n ((are n).0 before)
        | inr same ↦ any_last cone (take i atoms) a n (sym is ∙ ap Some same)
      ],
      λ any. (inserted_number keys new number inserts n).1 (elim (any_cases cone (take i atoms) a n any) [
        | inl before ↦ inl ((are n).1 before)
        | inr last ↦ inr (same_Some number n (is ∙ last))
      ]),
    ))

-- or which it has not
pub numbers_skip : (cone : Numbered) (atoms keys : List ℕ) (i a : ℕ) → AreNumbersOf cone (take i atoms) keys → i < length atoms → a ≡ get_or atoms i a
    → None ≡ number_of cone a → AreNumbersOf cone (take (i + 1) atoms) keys
numbers_skip cone atoms keys i a are within at is =
    subst (λ seen. AreNumbersOf cone seen keys) (sym (next_atom atoms i a within at)) (λ n. (
      λ has. any_left cone (take i atoms) a n ((are n).0 has),
      λ any. elim (any_cases cone (take i atoms) a n any) [
        | inl before ↦ (are n).1 before
        | inr last ↦ absurd (none-some n (is ∙ last))
      ],
    ))

-- what a least mate and its want say of an atom in the cone
pub mate_within : (j : Join) (n : ℕ) (cone : Numbered) (outputs found : List ℕ) (P : ℕ → Type 0) → j.atoms ≤ n → AreThose cone.members (IsOutput j) outputs → AreThose outputs P found
    → All (λ a. a < n) found
mate_within j n cone outputs found P le members those k d within =
    let a = get_or found k d in
    let output = ((members a).0 ((those a).0 (k, within, get_or_default found k a d within)).0).1 in
    let low : a < j.atoms = output.within in
    omega arith

pub least_mate : (names : List Tree) (j : Join) (cone : Numbered) (outputs found : List ℕ) (a b : ℕ) → HasNumber cone a → AreThose cone.members (IsOutput j) outputs
    → AreThose outputs (λ b. number_of cone b ≡ number_of cone a) found → IsLeast names (Contains found) b → IsLeast names (LoopsInCone j cone a) b
least_mate names j cone outputs found a b has members those is =
    least_of names (Contains found) (LoopsInCone j cone a) b
    (λ c. (mates j cone outputs found a has.number members has.is those c).0) (λ c. (mates j cone outputs found a has.number members has.is those c).1) is

pub no_mate : (j : Join) (cone : Numbered) (outputs found : List ℕ) (a : ℕ) → HasNumber cone a → AreThose cone.members (IsOutput j) outputs
    → AreThose outputs (λ b. number_of cone b ≡ number_of cone a) found → found ≡ [] → (b : ℕ) → ¬ LoopsInCone j cone a b
no_mate j cone outputs found a has members those none b loop =
    let (k, within, is) = subst (λ xs. Contains xs b) none ((mates j cone outputs found a has.number members has.is those b).1 loop) in omega arith

-- those of a list are within what the list is within
pub those_within : (n : ℕ) (atoms found : List ℕ) (P : ℕ → Type 0) → All (λ a. a < n) atoms → AreThose atoms P found → All (λ a. a < n) found
those_within n atoms found P all those k d within =
    let a = get_or found k d in
    All-contains (λ x. x < n) atoms a all ((those a).0 (k, within, get_or_default found k a d within)).0

-- the least head in a loop, and its least mate
pub cone_loop : (names : List Tree) (j : Join) (cone : Numbered) (heads outputs numbers found : List ℕ) (l : CrossLoop) → AreThose cone.members (IsOutput j) outputs
    → AreNumbersOf cone outputs numbers → AreThose heads (HasNumberAmong cone numbers) found → IsLeast names (Contains found) l.new_head
    → IsLeast names (LoopsInCone j cone l.new_head) l.old → FindsInCone names j cone heads (Some l)
cone_loop names j cone heads outputs numbers found l members are those is mate = (
  least_of names (Contains found) (IsInConeLoop j cone heads) l.new_head
      (λ c. (looping j cone heads outputs numbers found members are those c).0) (λ c. (looping j cone heads outputs numbers found members are those c).1) is,
  mate,
)

-- a head in a loop is in the cone
pub head_number : (names : List Tree) (j : Join) (cone : Numbered) (heads outputs numbers found : List ℕ) (a : ℕ) → AreThose cone.members (IsOutput j) outputs
    → AreNumbersOf cone outputs numbers → AreThose heads (HasNumberAmong cone numbers) found → IsLeast names (Contains found) a → HasNumber cone a
head_number names j cone heads outputs numbers found a members are those is =
    let loop = (looping j cone heads outputs numbers found members are those a).0 is.is in
    record { number = loop.loops.1.number; is = loop.loops.1.first }

-- it has a mate
pub head_mate : (names : List Tree) (j : Join) (cone : Numbered) (heads outputs numbers found : List ℕ) (a : ℕ) → AreThose cone.members (IsOutput j) outputs
    → AreNumbersOf cone outputs numbers → AreThose heads (HasNumberAmong cone numbers) found → IsLeast names (Contains found) a
    → ((b : ℕ) → ¬ LoopsInCone j cone a b) → FindsInCone names j cone heads None
head_mate names j cone heads outputs numbers found a members are those is none =
    let loop = (looping j cone heads outputs numbers found members are those a).0 is.is in
    absurd (none loop.loops.0 loop.loops.1)

-- no head is in a loop
pub no_cone_loop : (names : List Tree) (j : Join) (cone : Numbered) (heads outputs numbers found : List ℕ) → AreThose cone.members (IsOutput j) outputs
    → AreNumbersOf cone outputs numbers → AreThose heads (HasNumberAmong cone numbers) found → found ≡ [] → FindsInCone names j cone heads None
no_cone_loop names j cone heads outputs numbers found members are those none = λ a loop.
    let (k, within, is) = subst (λ xs. Contains xs a) none ((looping j cone heads outputs numbers found members are those a).1 loop) in omega arith

-- what the test of two numbers tells
pub option_same : (o p : Option ℕ) (t : Bool) → t ≡ option_eq nat_eq o p → IsTrue t ↔ (o ≡ p)
option_same None None t is = (λ so. refl, λ same. is)
option_same None (Some y) t is = (λ so. absurd (false≢true (sym is ∙ so)), λ same. absurd (none-some y same))
option_same (Some x) None t is = (λ so. absurd (false≢true (sym is ∙ so)), λ same. absurd (none-some x (sym same)))
option_same (Some x) (Some y) t is = (λ so. ap Some ((Decides-eqb x y).0 (sym is ∙ so)), λ same. is ∙ (Decides-eqb x y).1 (same_Some x y same))

pub numbers_same : (o p m n : Option ℕ) (t : Bool) → t ≡ option_eq nat_eq o p → o ≡ m → p ≡ n → IsTrue t ↔ (m ≡ n)
numbers_same o p m n t is first second = subst (λ x. IsTrue t ↔ (x ≡ n)) first (subst (λ y. IsTrue t ↔ (o ≡ y)) second (option_same o p t is))

-- what the test of an atom's number tells
pub number_among : (cone : Numbered) (keys : List ℕ) (a number : ℕ) (t : Bool) → Some number ≡ number_of cone a → t ≡ list_any (nat_eq number) keys
    → IsTrue t ↔ HasNumberAmong cone keys a
number_among cone keys a number t is tested = (
  λ so. record { number = number; is = sym is; among = Contains-list_any nat_eq (λ x y. (Decides-eqb x y).0) keys number (sym tested ∙ so) },
  λ has.
      let same : number ≡ has.number = same_Some number has.number (is ∙ has.is) in
      tested ∙ list_any-from_Contains nat_eq_equiv number keys (subst (Contains keys) (sym same) has.among),
)

-- old atoms are below a greater number of atoms
pub starts_below : (k n : ℕ) (heads found : List ℕ) → k ≤ n → AreThose heads (λ a. a < k) found → All (λ a. a < n) found
starts_below k n heads found le those i d within =
    let a = get_or found i d in
    let low : a < k = ((those a).0 (i, within, get_or_default found i a d within)).1 in
    omega arith
