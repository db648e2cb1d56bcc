-- The state of a propagation, which marks the least model of a reduct atom by atom.
use Rattle.std.specs.Prelude.{ℕ, ◌+◌, Bool, true, List, slice_index, slice_set}

-- For each atom whether it is marked, and the first of the rules that wait for it. For each rule how many of its positive
-- atoms it didn't look at, and the rule that waits behind it. The queue has the heads that were marked, `queued` of
-- them, and of the first `taken` no rule waits for them.
pub record State : Type 0 where
  pub derived : List Bool
  pub first : List ℕ
  pub left : List ℕ
  pub next : List ℕ
  pub queue : List ℕ
  pub queued : ℕ
  pub taken : ℕ

-- the rule is the first to wait for the atom
abbrev pub pushed : State → ℕ → ℕ → State
pushed s a k = record s { first = slice_set s.first a k; next = slice_set s.next k (slice_index s.first a) }

-- the first rule doesn't wait for the atom any more
abbrev pub popped : State → ℕ → State
popped s a = record s { first = slice_set s.first a (slice_index s.next (slice_index s.first a)) }

-- of the positive atoms of the rule it didn't look at so many
abbrev pub looked : State → ℕ → ℕ → State
looked s k count = record s { left = slice_set s.left k count }

-- the head is marked, and goes to the end of the queue
abbrev pub marked : State → ℕ → State
marked s a = record s { derived = slice_set s.derived a true; queue = slice_set s.queue s.queued a; queued = s.queued + 1 }

-- no rule waits for the first head of the queue
abbrev pub advanced : State → State
advanced s = record s { taken = s.taken + 1 }
