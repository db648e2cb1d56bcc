-- The parts of a log: the declarations that an accepted grounding adds, and the lines of a solve. Things are numbered
-- from 0 in the order of their declarations.
-- Source: bodies as things of their own are after Gebser, Kaufmann and Schaub, "Conflict-driven answer set solving: from
-- theory to practice" (2012); the log's form is this project's.
use Rattle.std.specs.Prelude.{ℕ, ◌≡◌, ◌≢◌, ◌-◌, ◌<◌, ◌⊎◌, ◌++◌, Bool, true, false, List, [], ◌∷◌, length, drop, Option, Some, None, All, AllPairs, Contains, IfSome, filter, filter_map, slice_get}
use Rattle.ms_lits.specs.declared.lit.Lit.{Lit}
use Rattle.ms_lits.specs.declared.note.Note.{Note}
use Rattle.ms_lits.specs.declared.note.Note.TheVariants.{Atom, Body, Tuple, Aggregate, Start, Kept, Finish}
use Rattle.ms_lits.specs.declared.note.Ending.{Ending}
use Rattle.ms_lits.specs.Literals.{Nogood}
use Rattle.ms_lawful.specs.Problems.{Problem}
use Rattle.ms_lawful.specs.Lines.{AreLines, EndsRun, first_stage, stage_after}

-- The number of a thing comes first, and of its two literals the positive one.
abbrev pub ComesBefore : Lit → Lit → Type 0
ComesBefore lit later = (lit.var < later.var) ⊎ ((lit.var ≡ later.var) × (lit.truth ≡ true) × (later.truth ≡ false))

-- The part of a solve: the demanded literals in order, lawful lines after which the solve may end so, and the last
-- line of its reply.
pub record IsSolvePart (problem : Problem) (ending : Ending) (reply : List ℕ) (part : List Note) : Type 0 where
  pub ordered : AllPairs ComesBefore problem.start
  pub lines : List Note
  pub whole : part ≡ Start problem.impossible problem.start ∷ lines ++ Finish reply ∷ []
  pub lawful : AreLines problem first_stage lines
  pub ends : EndsRun problem (stage_after first_stage lines) ending

-- the nogood of a line that keeps one
abbrev pub kept_by : Note → Option Nogood
kept_by (Kept nogood) = Some nogood
kept_by note = None

abbrev pub kept_in : List Note → List Nogood
kept_in log = filter_map kept_by log

abbrev pub last_of {ℓ} : {A : Type ℓ} → ℕ → List A → List A
last_of most xs = drop (length xs - most) xs

-- how many kept nogoods a solve begins with at most
abbrev pub most_kept : ℕ
most_kept = 200000

-- the nogoods that a solve after this log begins with: the last ones that were kept
abbrev pub kept_list : List Note → List Nogood
kept_list log = last_of most_kept (kept_in log)

-- what is kept after a solve that began with the last ones of these
abbrev pub kept_after : List Nogood → List Note → List Nogood
kept_after kept part = last_of most_kept kept ++ kept_in part

abbrev pub is_declaration : Note → Bool
is_declaration (Atom text) = true
is_declaration (Body literals) = true
is_declaration (Tuple terms conditions) = true
is_declaration (Aggregate guards tuples) = true
is_declaration note = false

-- The declarations of a log: the thing with the number i is the one that was declared in place i.
abbrev pub declared_in : List Note → List Note
declared_in log = filter is_declaration log

-- atoms and aggregates may be literals of a body
abbrev pub may_be_literal : Note → Bool
may_be_literal (Atom text) = true
may_be_literal (Aggregate guards tuples) = true
may_be_literal note = false

abbrev pub is_body : Note → Bool
is_body (Body literals) = true
is_body note = false

abbrev pub is_tuple : Note → Bool
is_tuple (Tuple terms conditions) = true
is_tuple note = false

-- The thing with this number was declared, and by such a declaration.
abbrev pub IsDeclaredAs : (Note → Bool) → List Note → ℕ → Type 0
IsDeclaredAs test declared thing = IfSome (slice_get declared thing) (λ note. test note ≡ true)

-- Bytes that a line can have: there are some, and no line end.
pub record IsText (bytes : List ℕ) : Type 0 where
  pub some : bytes ≢ []
  pub one_line : All (λ byte. byte ≢ 10) bytes

-- The declaration names only things that were declared before it, in order: a body atoms and aggregates, a tuple
-- bodies, and an aggregate tuples.
abbrev pub Declares : List Note → Note → Type 0
Declares declared (Atom text) = IsText text
Declares declared (Body literals) = AllPairs ComesBefore literals × All (λ lit. IsDeclaredAs may_be_literal declared lit.var) literals
Declares declared (Tuple terms conditions) = IsText terms × AllPairs (λ thing later. thing < later) conditions × All (IsDeclaredAs is_body declared) conditions
Declares declared (Aggregate guards tuples) = IsText guards × AllPairs (λ thing later. thing < later) tuples × All (IsDeclaredAs is_tuple declared) tuples
Declares declared note = ⊥

-- The part of a grounding: declarations of things that weren't declared before, after these declarations.
abbrev pub AreDeclarations : List Note → List Note → Type 0
AreDeclarations declared [] = Unit {0}
AreDeclarations declared (note ∷ part) = Declares declared note × (¬ Contains declared note) × AreDeclarations (declared ++ note ∷ []) part
