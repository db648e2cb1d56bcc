-- The limits of the program. All are this project's own.
use Rattle.std.specs.Prelude.{ℕ, ◌^◌}

-- how many things a join may have: its atoms and the bodies of its rules
abbrev pub most_things : ℕ
most_things = 4000000

-- how many copies of rules and of elements a grounding may have together
abbrev pub most_copies : ℕ
most_copies = 1000000

-- how many symbols an atom may have
abbrev pub most_symbols : ℕ
most_symbols = 2000

-- how many copies the pools of a statement may make
abbrev pub most_choices : ℕ
most_choices = 10000

-- the greatest height of a term
abbrev pub most_height : ℕ
most_height = 200

-- how many answers may be asked for, and how many are by `all`
abbrev pub most_answers : ℕ
most_answers = 1000000

-- how many conflicts a solve may have where nothing is said, and how many it may be allowed
abbrev pub usual_limit : ℕ
usual_limit = 1000000

abbrev pub greatest_limit : ℕ
greatest_limit = 2 ^ 40

-- how many learned nogoods are kept from one solve to the next
abbrev pub most_kept : ℕ
most_kept = 200000

-- how many bytes an input may have
abbrev pub most_bytes : ℕ
most_bytes = 2 ^ 30
