-- What holds of the states of a propagation.
use Rattle.std.specs.Prelude.{ℕ, ◌≡◌, ◌≢◌, ◌+◌, ◌-◌, ◌<◌, ◌≤◌, ◌⊎◌, Bool, false, IsTrue, List, [], ◌∷◌, Some, length, map, slice_index, sum, ⊤}
use Rattle.std.specs.List.{slice_index_or}
use Rattle.ms_join.specs.declared.ground_rule.GroundRule.{GroundRule}
use Rattle.ms_join.specs.declared.ground_rule.Rules.{Rules}
use Rattle.ms_join.specs.AnswerSets.{side_holds, AreRulesOver, IsReductModel, Keeps}
use Rattle.ms_rules.specs.Flags.{flag_at}
use Rattle.ms_rules.specs.LeastModel.{IsMarking, MayAsk, unmarked_count}
use Rattle.ms_rules.specs.State.{State}

-- In the reduct by the set, the rule asks for nothing.
abbrev pub AsksNothing : (ℕ → Bool) → GroundRule → Type 0
AsksNothing by rule = (of : ℕ → Bool) → Keeps by of rule.kind rule

-- In the reduct by the set, the rule asks for the atom where its positive atoms are there.
pub record Requires (by : ℕ → Bool) (rule : GroundRule) (a : ℕ) : Type 0 where
  pub kind : MayAsk by rule.kind a
  pub side : IsTrue (side_holds by rule)
  pub head : rule.head ≡ Some a

-- Of the first `left` atoms those from `rest` on are marked, and the one before them isn't.
pub record IsStuck (atoms : List ℕ) (marks : ℕ → Bool) (left rest : ℕ) : Type 0 where
  pub fewer : rest ≤ left
  pub passed : (i : ℕ) → rest ≤ i → i < left → IsTrue (marks (slice_index atoms i))
  pub unmarked : 0 < rest → marks (slice_index atoms (rest - 1)) ≡ false

-- Of the atoms those from `left` on are marked.
pub record HasLooked (atoms : List ℕ) (marks : ℕ → Bool) (left : ℕ) : Type 0 where
  pub within : left ≤ length atoms
  pub passed : (i : ℕ) → left ≤ i → i < length atoms → IsTrue (marks (slice_index atoms i))

pub record IsSized (atoms rules : ℕ) (s : State) : Type 0 where
  pub derived : length s.derived ≡ atoms
  pub first : length s.first ≡ atoms
  pub queue : length s.queue ≡ atoms
  pub left : length s.left ≡ rules
  pub next : length s.next ≡ rules

-- the positive atoms of a rule by its number
abbrev pub body_at : List GroundRule → ℕ → List ℕ
body_at rules k = slice_index_or (map (λ rule. rule.pos) rules) k []

-- There is room for the rules, what is marked is within the models of the reduct by the set, the queue has marked atoms
-- and room for the others, and what a rule looked at is marked.
pub record IsSound (join : Rules) (in_set : List Bool) (s : State) : Type 0 where
  pub over : AreRulesOver (length in_set) join
  pub sized : IsSized (length in_set) (length s.left) s
  pub rules : length join.rules ≤ length s.left
  pub marking : IsMarking join (flag_at in_set) (flag_at s.derived)
  pub room : s.queued + unmarked_count s.derived ≤ length s.derived
  pub queue : (i : ℕ) → i < s.queued → IsTrue (flag_at s.derived (slice_index s.queue i))
  pub looked : (k : ℕ) → k < length join.rules → HasLooked (body_at join.rules k) (flag_at s.derived) (slice_index s.left k)

abbrev pub Has : List ℕ → ℕ → Type 0
Has [] x = ⊥
Has (y ∷ ys) x = (x ≡ y) ⊎ Has ys x

-- no two of the numbers are equal
abbrev pub AreApart : List ℕ → Type 0
AreApart [] = ⊤
AreApart (x ∷ xs) = (¬ Has xs x) × AreApart xs

-- From this number on, the numbers of the list follow one another. What is no rule's number ends it.
abbrev pub IsLinked : List ℕ → ℕ → List ℕ → Type 0
IsLinked next from [] = length next ≤ from
IsLinked next from (k ∷ ks) = (from ≡ k) × (k < length next) × IsLinked next (slice_index next k) ks

-- The rule is one of the first `seen`, and not the one in hand, and the last atom that it didn't look at is this one.
pub record IsWaiting (rules : List GroundRule) (left : List ℕ) (seen hand a k : ℕ) : Type 0 where
  pub before : k < seen
  pub apart : k ≢ hand
  pub some : 0 < slice_index left k
  pub last : slice_index (body_at rules k) (slice_index left k - 1) ≡ a

-- The list that begins with this number has exactly the rules that wait for the atom, each once.
pub record IsListed (rules : List GroundRule) (left next : List ℕ) (from seen hand a : ℕ) : Type 0 where
  pub list : List ℕ
  pub linked : IsLinked next from list
  pub once : AreApart list
  pub only : (k : ℕ) → Has list k → IsWaiting rules left seen hand a k
  pub each : (k : ℕ) → IsWaiting rules left seen hand a k → Has list k

-- The atom is in the queue, and wasn't taken from it yet.
pub record IsQueued (queue : List ℕ) (taken queued a : ℕ) : Type 0 where
  pub place : ℕ
  pub after : taken ≤ place
  pub before : place < queued
  pub at : slice_index queue place ≡ a

-- In the reduct by the set `by`, each set that contains the marked atoms keeps what the rule asks for.
abbrev pub IsSettled : (ℕ → Bool) → (ℕ → Bool) → GroundRule → Type 0
IsSettled by marks rule = (of : ℕ → Bool) → ((a : ℕ) → IsTrue (marks a) → IsTrue (of a)) → Keeps by of rule.kind rule

-- Each of the first `seen` rules but the one in hand is on the list of the atom for which it waits, or it looked at all
-- its atoms and is settled. Rules wait only for atoms that aren't marked or are in the queue.
pub record AreWaiting (rules : List GroundRule) (by : ℕ → Bool) (seen hand : ℕ) (s : State) : Type 0 where
  pub within : seen ≤ length rules
  pub taken : s.taken ≤ s.queued
  pub lists : (a : ℕ) → a < length s.first → IsListed rules s.left s.next (slice_index s.first a) seen hand a
  pub later : (a : ℕ) → a < length s.first → IsTrue (flag_at s.derived a) → (length s.next ≤ slice_index s.first a) ⊎ IsQueued s.queue s.taken s.queued a
  pub settled : (k : ℕ) (rule : GroundRule) → k < seen → k ≢ hand → rule ≡ slice_index_or rules k rule → slice_index s.left k ≡ 0 → IsSettled by (flag_at s.derived) rule

-- It stays sound and as large, what was marked stays marked, and the queue grows at its end.
pub record Continues (join : Rules) (in_set : List Bool) (old new : State) : Type 0 where
  pub sound : IsSound join in_set new
  pub size : length new.left ≡ length old.left
  pub marks : (a : ℕ) → IsTrue (flag_at old.derived a) → IsTrue (flag_at new.derived a)
  pub taken : new.taken ≡ old.taken
  pub queued : old.queued ≤ new.queued
  pub queue : (i : ℕ) → i < old.queued → slice_index new.queue i ≡ slice_index old.queue i

-- Where the last atom that the rule didn't look at is marked, it looks at it.
abbrev pub LooksFurther : List ℕ → ℕ → State → State → Type 0
LooksFurther atoms k old new = 0 < slice_index old.left k → IsTrue (flag_at old.derived (slice_index atoms (slice_index old.left k - 1))) → sum new.left < sum old.left

-- Each rule waits or is settled.
abbrev pub AllWait : Rules → List Bool → State → Type 0
AllWait join in_set s = AreWaiting join.rules (flag_at in_set) (length join.rules) (length join.rules) s

-- no rule waits for the atom
abbrev pub IsWaitedForByNone : State → ℕ → Type 0
IsWaitedForByNone s a = length s.next ≤ slice_index s.first a

-- the set is no model of the reduct by itself
abbrev pub IsNoModel : Rules → List Bool → Type 0
IsNoModel join in_set = ¬ (IsReductModel join (flag_at in_set) (flag_at in_set))
