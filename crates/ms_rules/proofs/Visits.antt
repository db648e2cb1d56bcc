-- A visit to a rule: it waits for an atom that isn't marked, or marks its head.
use Rattle.std.proofs.Common.{◌≡◌, ◌≢◌, ◌+◌, ◌-◌, ◌<◌, ◌≤◌, ℕ, Bool, true, false, IsTrue, List, Option, Some, length, get_or, set, refl, sym, subst, ap, ◌∙◌, ⊎_elim, not, length-set, arith}
use Rattle.std.specs.Option.{IfSome}
use Rattle.std.specs.Prelude.{sum}
use Rattle.std.proofs.lemmas.Bool.{both_ways, cases_lt}
use Rattle.std.proofs.lemmas.List.{get_or-set_other, get_or-set_same, get_or_default, get_or_past}
use Rattle.std.proofs.lemmas.List.Sums.{count_by-le-length, sum_by-set}
use Rattle.ms_join.specs.declared.ground_rule.GroundRule.{GroundRule}
use Rattle.ms_join.specs.declared.ground_rule.Rules.{Rules}
use Rattle.ms_join.specs.declared.ground_rule.GroundKind.{GroundKind}
use Rattle.ms_join.specs.declared.ground_rule.GroundKind.TheVariants.{Normal, Choice, Constraint}
use Rattle.ms_join.specs.AnswerSets.{AreRulesOver, Keeps, has_all, side_holds}
use Rattle.ms_rules.specs.Flags.{flag_at}
use Rattle.ms_rules.specs.LeastModel.{IsMarking}
use Rattle.ms_rules.specs.State.{State, advanced, looked, marked, popped, pushed}
use Rattle.ms_rules.specs.Waiting.{AllWait, AreWaiting, AsksNothing, Continues, IsSettled, IsSized, IsSound, IsStuck, IsWaitedForByNone, IsWaiting, Requires, body_at}
use Rattle.ms_rules.proofs.LeastModel.{marks_stay}
use Rattle.ms_rules.proofs.Sound.{IsSound-advanced, IsSound-looked, IsSound-marked, IsSound-popped, IsSound-pushed, asks_for_head, head_in_range, room_for_head}
use Rattle.ms_rules.proofs.States.{AreWaiting-advanced, AreWaiting-looked, AreWaiting-marked, AreWaiting-popped, AreWaiting-pushed, AreWaiting-settled, body_of_rule}

-- a set that has its head keeps what the rule asks for
keeps_with_head : (by of : ℕ → Bool) (kind : GroundKind) (rule : GroundRule) (h : ℕ) → rule.head ≡ Some h → IsTrue (of h) → Keeps by of kind rule
keeps_with_head by of Normal rule h is has =
    λ side pos. subst (λ o. IfSome o (λ a. IsTrue (of a))) (sym is) has
keeps_with_head by of Choice rule h is has =
    subst (λ o. IfSome o (λ a. IsTrue (by a) → IsTrue (side_holds by rule) → IsTrue (has_all of rule.pos) → IsTrue (of a))) (sym is) (λ there side pos. has)
keeps_with_head by of Constraint rule h is has = tt

IsSettled-head : (by marks : ℕ → Bool) (rule : GroundRule) (h : ℕ) → rule.head ≡ Some h → IsTrue (marks h) → IsSettled by marks rule
IsSettled-head by marks rule h is has of above =
    keeps_with_head by of rule.kind rule h is (above h has)

-- A rule of the join by its number, which looked at all its positive atoms.
pub record HasLookedAtAll (join : Rules) (k : ℕ) (rule : GroundRule) (s : State) : Type 0 where
  pub short : k < length join.rules
  pub read : rule ≡ get_or join.rules k rule
  pub none : get_or s.left k 0 ≡ 0

pub waiting_nothing : (join : Rules) (in_set : List Bool) (k : ℕ) (rule : GroundRule) (s new : State) → HasLookedAtAll join k rule s → AsksNothing (flag_at in_set) rule → new ≡ s → (seen : ℕ) → AreWaiting join.rules (flag_at in_set) seen k s → AreWaiting join.rules (flag_at in_set) seen seen new
waiting_nothing join in_set k rule s new all nothing is seen w =
    let here : AreWaiting join.rules (flag_at in_set) seen seen s = AreWaiting-settled join.rules (flag_at in_set) seen k s rule all.short all.read all.none (λ of above. nothing of) w in
    subst (λ n. AreWaiting join.rules (flag_at in_set) seen seen n) (sym is) here

pub waiting_marked_before : (join : Rules) (in_set : List Bool) (k h : ℕ) (rule : GroundRule) (s new : State) → HasLookedAtAll join k rule s → Requires (flag_at in_set) rule h → IsTrue (flag_at s.derived h) → new ≡ s → (seen : ℕ) → AreWaiting join.rules (flag_at in_set) seen k s → AreWaiting join.rules (flag_at in_set) seen seen new
waiting_marked_before join in_set k h rule s new all requires has is seen w =
    let here : AreWaiting join.rules (flag_at in_set) seen seen s = AreWaiting-settled join.rules (flag_at in_set) seen k s rule all.short all.read all.none (IsSettled-head (flag_at in_set) (flag_at s.derived) rule h requires.head has) w in
    subst (λ n. AreWaiting join.rules (flag_at in_set) seen seen n) (sym is) here

pub continues_same : (join : Rules) (in_set : List Bool) (s new : State) → IsSound join in_set s → new ≡ s → Continues join in_set s new
continues_same join in_set s new sound is =
    let here : Continues join in_set s s = record { sound = sound; size = refl; marks = λ a has. has; taken = refl; queued = omega arith; queue = λ i short. refl } in
    subst (Continues join in_set s) (sym is) here

pub Continues-trans : (join : Rules) (in_set : List Bool) (s mid new : State) → Continues join in_set s mid → Continues join in_set mid new → Continues join in_set s new
Continues-trans join in_set s mid new first second = record {
  sound = second.sound;
  size = second.size ∙ first.size;
  marks = λ a has. second.marks a (first.marks a has);
  taken = second.taken ∙ first.taken;
  queued = omega (arith, first.queued, second.queued);
  queue = λ i short. second.queue i (omega (arith, first.queued, short)) ∙ first.queue i short;
}

pub continues_head : (join : Rules) (in_set : List Bool) (k h : ℕ) (rule : GroundRule) (s new : State) → HasLookedAtAll join k rule s → Requires (flag_at in_set) rule h → flag_at s.derived h ≡ false → IsSound join in_set s → new ≡ marked s h → Continues join in_set s new
continues_head join in_set k h rule s new all requires lacks sound is =
    let asks = asks_for_head join in_set k h rule s all.short all.read all.none lacks requires sound in
    let in_range = head_in_range join in_set k h rule s all.short all.read sound asks in
    let room = room_for_head join in_set h s in_range lacks sound in
    let here : Continues join in_set s (marked s h) = record {
      sound = IsSound-marked join in_set k h rule s all.short all.read asks in_range room sound;
      size = refl;
      marks = λ a has. marks_stay s.derived h a in_range has;
      taken = refl;
      queued = omega arith;
      queue = λ i short. get_or-set_other s.queue s.queued i h 0 (omega (arith, short));
    } in
    subst (Continues join in_set s) (sym is) here

pub waiting_head : (join : Rules) (in_set : List Bool) (k h : ℕ) (rule : GroundRule) (s new : State) → HasLookedAtAll join k rule s → Requires (flag_at in_set) rule h → flag_at s.derived h ≡ false → IsSound join in_set s → new ≡ marked s h → (seen : ℕ) → AreWaiting join.rules (flag_at in_set) seen k s → AreWaiting join.rules (flag_at in_set) seen seen new
waiting_head join in_set k h rule s new all requires lacks sound is seen w =
    let asks = asks_for_head join in_set k h rule s all.short all.read all.none lacks requires sound in
    let in_range = head_in_range join in_set k h rule s all.short all.read sound asks in
    let room = room_for_head join in_set h s in_range lacks sound in
    let has : IsTrue (flag_at (set s.derived h true) h) = get_or-set_same s.derived h true false in_range in
    let here : AreWaiting join.rules (flag_at in_set) seen seen (marked s h) = AreWaiting-settled join.rules (flag_at in_set) seen k (marked s h) rule all.short all.read all.none (IsSettled-head (flag_at in_set) (flag_at (set s.derived h true)) rule h requires.head has) (AreWaiting-marked join.rules (flag_at in_set) seen k h s in_range room w) in
    subst (λ n. AreWaiting join.rules (flag_at in_set) seen seen n) (sym is) here

-- A rule of the join by its number, and its positive atoms, of which it looks at some.
pub record Looks (join : Rules) (k r : ℕ) (rule : GroundRule) (atoms : List ℕ) (s mid : State) : Type 0 where
  pub short : k < length join.rules
  pub read : rule ≡ get_or join.rules k rule
  pub atoms_are : atoms ≡ rule.pos
  pub stuck : IsStuck atoms (flag_at s.derived) (get_or s.left k 0) r
  pub is : mid ≡ looked s k r

body_is : (join : Rules) (k r : ℕ) (rule : GroundRule) (atoms : List ℕ) (s mid : State) → Looks join k r rule atoms s mid → body_at join.rules k ≡ atoms
body_is join k r rule atoms s mid looks =
    body_of_rule join.rules k rule looks.short looks.read ∙ sym looks.atoms_are

pub left_within : (join : Rules) (in_set : List Bool) (k : ℕ) (rule : GroundRule) (atoms : List ℕ) (s : State) → k < length join.rules → rule ≡ get_or join.rules k rule → atoms ≡ rule.pos → IsSound join in_set s → get_or s.left k 0 ≤ length atoms
left_within join in_set k rule atoms s short read atoms_are sound =
    omega (arith, (sound.looked k short).within, ap length (body_of_rule join.rules k rule short read), ap length atoms_are)

pub continues_looks : (join : Rules) (in_set : List Bool) (k r : ℕ) (rule : GroundRule) (atoms : List ℕ) (s mid : State) → Looks join k r rule atoms s mid → IsSound join in_set s → Continues join in_set s mid
continues_looks join in_set k r rule atoms s mid looks sound =
    let stuck : IsStuck (body_at join.rules k) (flag_at s.derived) (get_or s.left k 0) r = subst (λ xs. IsStuck xs (flag_at s.derived) (get_or s.left k 0) r) (sym (body_is join k r rule atoms s mid looks)) looks.stuck in
    let here : Continues join in_set s (looked s k r) = record {
      sound = IsSound-looked join in_set k r s looks.short stuck sound;
      size = length-set s.left k r;
      marks = λ a has. has;
      taken = refl;
      queued = omega arith;
      queue = λ i short. refl;
    } in
    subst (Continues join in_set s) (sym looks.is) here

left_after : (join : Rules) (in_set : List Bool) (k r : ℕ) (rule : GroundRule) (atoms : List ℕ) (s mid : State) → Looks join k r rule atoms s mid → IsSound join in_set s → get_or mid.left k 0 ≡ r
left_after join in_set k r rule atoms s mid looks sound =
    let at : get_or (set s.left k r) k 0 ≡ r = get_or-set_same s.left k r 0 (omega (arith, looks.short, sound.rules)) in
    ap (λ (m : State). get_or m.left k 0) looks.is ∙ at

pub looked_at_all : (join : Rules) (in_set : List Bool) (k r : ℕ) (rule : GroundRule) (atoms : List ℕ) (s mid : State) → Looks join k r rule atoms s mid → IsSound join in_set s → r ≡ 0 → get_or mid.left k 0 ≡ 0
looked_at_all join in_set k r rule atoms s mid looks sound none =
    left_after join in_set k r rule atoms s mid looks sound ∙ none

pub waiting_looks : (join : Rules) (in_set : List Bool) (k r seen : ℕ) (rule : GroundRule) (atoms : List ℕ) (s mid : State) → Looks join k r rule atoms s mid → AreWaiting join.rules (flag_at in_set) seen k s → AreWaiting join.rules (flag_at in_set) seen k mid
waiting_looks join in_set k r seen rule atoms s mid looks w =
    subst (λ n. AreWaiting join.rules (flag_at in_set) seen k n) (sym looks.is) (AreWaiting-looked join.rules (flag_at in_set) seen k r s w)

-- where the last atom that it didn't look at is marked, it looks at one more at least
pub fewer_left : (join : Rules) (in_set : List Bool) (k r : ℕ) (rule : GroundRule) (atoms : List ℕ) (s mid : State) (left : List ℕ) → Looks join k r rule atoms s mid → IsSound join in_set s → left ≡ mid.left → 0 < get_or s.left k 0 → IsTrue (flag_at s.derived (get_or (body_at join.rules k) (get_or s.left k 0 - 1) 0)) → sum left < sum s.left
fewer_left join in_set k r rule atoms s mid left looks sound same some is_marked =
    let before = get_or s.left k 0 in
    let here : IsTrue (flag_at s.derived (get_or atoms (before - 1) 0)) = subst (λ xs. IsTrue (flag_at s.derived (get_or xs (before - 1) 0))) (body_is join k r rule atoms s mid looks) is_marked in
    let differs : r ≢ before = λ equal.
    both_ways (flag_at s.derived (get_or atoms (before - 1) 0)) (subst (λ n. flag_at s.derived (get_or atoms (n - 1) 0) ≡ false) equal (looks.stuck.unmarked (subst (λ n. 0 < n) (sym equal) some))) here in
    let sums = sum_by-set (λ n. n) s.left k r 0 (omega (arith, looks.short, sound.rules)) in
    let total : sum left ≡ sum (set s.left k r) = ap sum (same ∙ ap (λ (m : State). m.left) looks.is) in
    omega (arith, differs, looks.stuck.fewer, sums, total)

-- The atom that the rule waits for, and where it is put on that list.
pub record Pushes (k r b : ℕ) (atoms : List ℕ) (mid new : State) : Type 0 where
  pub some : 0 < r
  pub at : b ≡ get_or atoms (r - 1) b
  pub is : new ≡ pushed mid b k

pub atom_in_range : (join : Rules) (in_set : List Bool) (k r b : ℕ) (rule : GroundRule) (atoms : List ℕ) (s mid : State) → Looks join k r rule atoms s mid → IsSound join in_set s → 0 < r → b ≡ get_or atoms (r - 1) b → b < length mid.first
atom_in_range join in_set k r b rule atoms s mid looks sound some at =
    let over = (rw (← looks.read) at (sound.over.rules k rule looks.short)).pos in
    let within = left_within join in_set k rule atoms s looks.short looks.read looks.atoms_are sound in
    let inside : r - 1 < length rule.pos = omega (arith, some, within, looks.stuck.fewer, ap length looks.atoms_are) in
    let here : b ≡ get_or rule.pos (r - 1) b = at ∙ ap (λ xs. get_or xs (r - 1) b) looks.atoms_are in
    omega (arith, over (r - 1) b inside, here, sound.sized.first, ap (λ (m : State). length m.first) looks.is)

pub rule_in_range : (join : Rules) (in_set : List Bool) (k r : ℕ) (rule : GroundRule) (atoms : List ℕ) (s mid : State) → Looks join k r rule atoms s mid → IsSound join in_set s → k < length mid.next
rule_in_range join in_set k r rule atoms s mid looks sound =
    omega (arith, looks.short, sound.rules, sound.sized.next, ap (λ (m : State). length m.next) looks.is)

pub continues_pushes : (join : Rules) (in_set : List Bool) (k r b : ℕ) (rule : GroundRule) (atoms : List ℕ) (s mid new : State) → Looks join k r rule atoms s mid → Pushes k r b atoms mid new → IsSound join in_set s → Continues join in_set s new
continues_pushes join in_set k r b rule atoms s mid new looks pushes sound =
    let first = continues_looks join in_set k r rule atoms s mid looks sound in
    let here : Continues join in_set mid (pushed mid b k) = record {
      sound = IsSound-pushed join in_set b k mid first.sound;
      size = refl;
      marks = λ a has. has;
      taken = refl;
      queued = omega arith;
      queue = λ i short. refl;
    } in
    Continues-trans join in_set s mid new first (subst (Continues join in_set mid) (sym pushes.is) here)

pub waiting_pushes : (join : Rules) (in_set : List Bool) (k r b : ℕ) (rule : GroundRule) (atoms : List ℕ) (s mid new : State) → Looks join k r rule atoms s mid → Pushes k r b atoms mid new → IsSound join in_set s → (seen : ℕ) → k < seen → AreWaiting join.rules (flag_at in_set) seen k s → AreWaiting join.rules (flag_at in_set) seen seen new
waiting_pushes join in_set k r b rule atoms s mid new looks pushes sound seen before w =
    let rules = join.rules in
    let left = left_after join in_set k r rule atoms s mid looks sound in
    let body = body_is join k r rule atoms s mid looks in
    let within = left_within join in_set k rule atoms s looks.short looks.read looks.atoms_are sound in
    let some = pushes.some in
    let inside : r - 1 < length atoms = omega (arith, some, within, looks.stuck.fewer) in
    let at : get_or atoms (r - 1) 0 ≡ b = get_or_default atoms (r - 1) 0 b inside ∙ sym pushes.at in
    let waits : IsWaiting rules mid.left seen seen b k = record {
      before = before;
      apart = omega (arith, before);
      some = omega (arith, some, left);
      last = ap (λ n. get_or (body_at rules k) (n - 1) 0) left ∙ ap (λ xs. get_or xs (r - 1) 0) body ∙ at;
    } in
    let unmarked : flag_at mid.derived b ≡ false = ap (λ (m : State). flag_at m.derived b) looks.is ∙ ap (flag_at s.derived) (sym at) ∙ looks.stuck.unmarked some in
    let atom_in = atom_in_range join in_set k r b rule atoms s mid looks sound some pushes.at in
    let rule_in = rule_in_range join in_set k r rule atoms s mid looks sound in
    subst (λ n. AreWaiting rules (flag_at in_set) seen seen n) (sym pushes.is) (AreWaiting-pushed rules (flag_at in_set) seen k b mid rule_in atom_in waits unmarked (waiting_looks join in_set k r seen rule atoms s mid looks w))

-- The first rule that waits for a marked atom is taken in hand.
pub record Wakes (join : Rules) (in_set : List Bool) (k : ℕ) (s mid : State) : Type 0 where
  pub short : k < length join.rules
  pub kept : Continues join in_set s mid
  pub others : AreWaiting join.rules (flag_at in_set) (length join.rules) k mid
  pub left : mid.left ≡ s.left
  pub some : 0 < get_or mid.left k 0
  pub is_marked : IsTrue (flag_at mid.derived (get_or (body_at join.rules k) (get_or mid.left k 0 - 1) 0))

-- what the pop of a rule gives
pub record Pops (k a : ℕ) (s mid : State) : Type 0 where
  pub within : k < length s.next
  pub first : k ≡ get_or s.first a 0
  pub is : mid ≡ popped s a

marked_in_range : (flags : List Bool) (a : ℕ) → IsTrue (flag_at flags a) → a < length flags
marked_in_range flags a is_marked =
    ⊎_elim (λ (short : a < length flags). short) (λ (past : length flags ≤ a). absurd (both_ways (flag_at flags a) (get_or_past flags a false past) is_marked)) (cases_lt a (length flags))

pub wakes : (join : Rules) (in_set : List Bool) (k a : ℕ) (s mid : State) → IsSound join in_set s → AllWait join in_set s → IsTrue (flag_at s.derived a) → Pops k a s mid → Wakes join in_set k s mid
wakes join in_set k a s mid sound w is_marked pops =
    let in_range : a < length s.first = omega (arith, marked_in_range s.derived a is_marked, sound.sized.derived, sound.sized.first) in
    let taken = AreWaiting-popped join.rules (flag_at in_set) (length join.rules) k a s pops.within in_range pops.first w in
    let here : Wakes join in_set k s (popped s a) = record {
      short = taken.waits.before;
      kept = record { sound = IsSound-popped join in_set a s sound; size = refl; marks = λ b has. has; taken = refl; queued = omega arith; queue = λ i short. refl };
      others = taken.others;
      left = refl;
      some = taken.waits.some;
      is_marked = subst (λ n. IsTrue (flag_at s.derived n)) (sym taken.waits.last) is_marked;
    } in
    subst (Wakes join in_set k s) (sym pops.is) here

-- The first atom of the queue is taken from it.
pub record Advances (join : Rules) (in_set : List Bool) (s new : State) : Type 0 where
  pub sound : IsSound join in_set new
  pub size : length new.left ≡ length s.left
  pub waiting : AllWait join in_set new
  pub taken : new.taken ≡ s.taken + 1

pub advances : (join : Rules) (in_set : List Bool) (a : ℕ) (s mid : State) → IsSound join in_set s → s.taken < s.queued → a ≡ get_or s.queue s.taken a → Continues join in_set s mid → AllWait join in_set mid → IsWaitedForByNone mid a → Advances join in_set s (advanced mid)
advances join in_set a s mid sound more first kept w none =
    let within : s.taken < length s.queue = omega (arith, more, sound.room, sound.sized.derived, sound.sized.queue) in
    let first_now : a ≡ get_or mid.queue mid.taken 0 = first ∙ get_or_default s.queue s.taken a 0 within ∙ sym (kept.queue s.taken more) ∙ ap (λ n. get_or mid.queue n 0) (sym kept.taken) in
    record {
      sound = IsSound-advanced join in_set mid kept.sound;
      size = kept.size;
      waiting = AreWaiting-advanced join.rules (flag_at in_set) (length join.rules) a mid (omega (arith, more, kept.taken, kept.queued)) first_now none w;
      taken = omega (arith, kept.taken);
    }

-- The inputs that are facts are marked, and no rule looked at an atom.
pub IsSound-start : (join : Rules) (in_set : List Bool) (new : State) → AreRulesOver (length in_set) join → IsSized (length in_set) (length new.left) new → length join.rules ≤ length new.left → IsMarking join (flag_at in_set) (flag_at new.derived) → new.queued ≡ 0 → ((k : ℕ) → k < length join.rules → get_or new.left k 0 ≡ length (body_at join.rules k)) → IsSound join in_set new
IsSound-start join in_set new over sized rules marking none lengths = record {
  over = over;
  sized = sized;
  rules = rules;
  marking = marking;
  room = omega (arith, none, count_by-le-length not new.derived);
  queue = λ i short. absurd (omega (arith, short, none));
  looked = λ k short. record { within = omega (arith, lengths k short); passed = λ i from within. absurd (omega (arith, from, within, lengths k short)) };
}
