-- Nogoods that last, and what refutes the demands of a complete solve.
-- Source: that learned nogoods are checked by unit closure is after Goldberg and Novikov, "Verification of proofs of
-- unsatisfiability for CNF formulas" (2003); the nogoods of answers are this project's.
use Rattle.std.specs.Prelude.{ℕ, ◌≡◌, ◌≢◌, ◌<◌, ◌↔◌, ◌⊎◌, ◌++◌, [], ◌∷◌, Bool, IsTrue, List, Some, All, Contains, filter, length, map, slice_get}
use Rattle.std.specs.List.{flat_map}
use Rattle.ms_tree.specs.Tree.{Tree}
use Rattle.ms_call.specs.declared.command.Assumption.{Assumption}
use Rattle.ms_join.specs.Modules.{Join}
use Rattle.ms_join.specs.Things.{Thing}
use Rattle.ms_lits.specs.declared.lit.Lit.{Lit}
use Rattle.ms_lits.specs.declared.note.Note.{Note}
use Rattle.ms_lits.specs.declared.note.Note.TheVariants.{Answer, Kept, Start, Temporary}
use Rattle.ms_lits.specs.Literals.{Nogood, IsDerived, IsRefuted, opposite_of}
use Rattle.ms_things.specs.Completion.{IsCompletionNogood}
use Rattle.ms_things.specs.Consequences.{IsConsequence}
use Rattle.ms_lawful.specs.Lines.{nogoods_in}
use Rattle.ms_lawful.specs.Parts.{last_of, most_kept}
use Rattle.ms_lawful.specs.Problems.{literal_of}
use Rattle.ms_problem.specs.Numbered.{AreNumbers}
use Rattle.ms_machine.specs.Machine.{State, IsImpossible}
use Rattle.ms_machine.specs.Replies.{Output, Reply, listing_of}
use Rattle.ms_solving.specs.Showing.{shows_atom}
use Rattle.ms_things.specs.Numbers.{ext}

-- The nogood is over these things, and no set that is possible contains it, whatever the inputs are.
pub record IsLasting (j : Join) (things : List Thing) (nogood : Nogood) : Type 0 where
  pub within : All (λ lit. lit.var < length things) nogood
  pub consequence : IsConsequence j things nogood

-- the lines that outputs give, one output after the other
abbrev pub log_of : List Output → List Note
log_of outputs = flat_map (λ o. o.log) outputs

-- the true atoms of an assignment, by their numbers
abbrev pub answer_by : (ℕ → Bool) → List ℕ → List ℕ
answer_by truth numbers = filter truth numbers

-- The terms are those of the atoms in the set that are shown.
abbrev pub ListsAtoms : (Tree → Bool) → List Tree → (ℕ → Bool) → List Tree → Type 0
ListsAtoms shows names set shown = (t : Tree) → Contains shown t ↔ (IsTrue (shows t) × ((a : ℕ) × (slice_get names a ≡ Some t) × IsTrue (set a)))

-- The set is one of those that were answered: these lines have its atoms as an answer, and the reply lists those of its atoms
-- that are shown.
pub record IsAnswered (s : State) (numbers : List ℕ) (before : List Note) (reply : Reply) (set : ℕ → Bool) : Type 0 where
  pub line : Contains before (Answer (answer_by (ext set s.things) numbers))
  pub shown : List Tree
  pub listed : Contains (listing_of reply) shown
  pub atoms : ListsAtoms (shows_atom s.texts) s.names set shown

-- What stands after these lines of a solve, but for answers: the completion of the join, what the solve begins with, and the
-- nogoods of the lines.
abbrev pub IsStanding : State → List Note → Nogood → Type 0
IsStanding s lines nogood = IsCompletionNogood s.join s.things nogood ⊎ (Contains (last_of most_kept s.kept) nogood ⊎ Contains (nogoods_in lines) nogood)

-- What a reader of the log has at hand: what stands, and of each answer in the log all atoms with the signs that they have
-- there.
pub data IsAtHand (s : State) (numbers : List ℕ) (log : List Note) (nogood : Nogood) : Type 0 where
  of_standing : IsStanding s log nogood → IsAtHand s numbers log nogood
  of_listed : (truth : ℕ → Bool) → Contains log (Answer (answer_by truth numbers)) → nogood ≡ map (literal_of truth) numbers → IsAtHand s numbers log nogood

-- One literal of the nogood is such that unit closure neither refutes any of the others nor gives the opposite of that one
-- from them.
pub record BringsNew (Among : Nogood → Type 0) (nogood : Nogood) : Type 0 where
  pub lit : Lit
  pub contained : Contains nogood lit
  pub none_known : (others : List Lit) → All (λ other. Contains nogood other × (other ≢ lit)) others → (¬ IsRefuted Among others) × ¬ IsDerived Among others (opposite_of lit)

-- The line has a learned nogood, and isn't the one that each answer has behind it.
abbrev pub IsLearnedLine : List Note → Note → Nogood → Type 0
IsLearnedLine before line nogood = (line ≡ Kept nogood) ⊎ ((line ≡ Temporary nogood) × ((earlier : List Note) (answer : List ℕ) → before ≢ earlier ++ Answer answer ∷ []))

-- The log begins with the literals that are demanded, which are refuted by unit closure with what is at hand; or an atom
-- outside the base is assumed true.
pub record IsRefutedByLog (s : State) (assume : List Assumption) (log : List Note) : Type 0 where
  pub numbers : List ℕ
  pub numbered : AreNumbers s.things s.join.atoms numbers
  pub impossible : Bool
  pub start : List Lit
  pub rest : List Note
  pub begins : log ≡ Start impossible start ∷ rest
  pub ended : (IsTrue impossible × IsImpossible s assume) ⊎ IsRefuted (IsAtHand s numbers log) start
