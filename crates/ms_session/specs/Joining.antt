-- What joining a ground module answers, over a base that has its new atoms already.
use Rattle.std.specs.Prelude.{ℕ, ◌≡◌, ◌+◌, ◌<◌, ◌++◌, List, [], All, length, map, take, ⊤}
use Rattle.ms_tree.specs.Tree.{Tree}
use Rattle.ms_tree.specs.Text.{tree_text}
use Rattle.ms_term.specs.Terms.{term_at}
use Rattle.ms_join.specs.declared.ground_module.GroundModule.{GroundModule}
use Rattle.ms_join.specs.declared.join_fault.JoinFault.{JoinFault}
use Rattle.ms_join.specs.declared.join_fault.JoinFault.TheVariants.{TooMany as too_many, Redefined as redefined, CrossLoop as cross_loop, RecursiveAggregate as recursive_aggregate, OutOfMemory}
use Rattle.ms_join.specs.Modules.{Join, IsJoined, IsWellFormed}
use Rattle.ms_join.specs.Composability.{name_of, IsComposable, IsTooMany}
use Rattle.ms_lits.specs.declared.note.Note.{Note}
use Rattle.ms_machine.specs.declared.reply.Reply.{Reply}
use Rattle.ms_session.specs.declared.open_session.Open.{Open}
use Rattle.ms_machine.specs.declared.reply.Reply.TheVariants.{Grounded, Refused}
use Rattle.ms_machine.specs.declared.reply.Refusal.{Refusal}
use Rattle.ms_machine.specs.declared.reply.Refusal.TheVariants.{TooMany, Redefined, CrossLoop, RecursiveAggregate}
use Rattle.ms_machine.specs.Machine.{RedefinesAs, LoopsAs, RecursesAs}
use Rattle.ms_session.specs.Declaring.{DeclaresNew}
use Rattle.ms_session.specs.Fitting.{IsFit, Watcher}

-- the base has the atoms of the join up to the mark, and then the new atoms of the module
pub record IsGrownBase (table : List Tree) (mark : ℕ) (base : List ℕ) (join : Join) (m : GroundModule) : Type 0 where
  pub mark_is : mark ≡ join.atoms
  pub well_formed : IsWellFormed join.atoms m
  pub named : All (λ t. t < length table) base
  pub counted : length base ≡ join.atoms + m.fresh

-- The solver fits the join, and hasn't taken the module.
pub record IsGrownOver (join : Join) (solver : Watcher) (base : List ℕ) (m : GroundModule) : Type 0 where
  pub fit : IsFit solver join
  pub grown : base ≡ solver.knows.numbering.names ++ m.names

-- each atom of the reason is one of so many
abbrev pub AreAtomsOf : ℕ → JoinFault → Type 0
AreAtomsOf n too_many = ⊤
AreAtomsOf n (redefined a) = a < n
AreAtomsOf n (cross_loop a b) = (a < n) × (b < n)
AreAtomsOf n (recursive_aggregate a) = a < n
AreAtomsOf n OutOfMemory = ⊤

-- the refusal gives the atoms of the reason by their texts
abbrev pub IsRefusalOf : List Tree → JoinFault → Refusal → Type 0
IsRefusalOf names too_many refusal = refusal ≡ TooMany
IsRefusalOf names (redefined a) refusal = refusal ≡ Redefined (tree_text (name_of names a))
IsRefusalOf names (cross_loop a b) refusal = refusal ≡ CrossLoop (tree_text (name_of names a)) (tree_text (name_of names b))
IsRefusalOf names (recursive_aggregate a) refusal = refusal ≡ RecursiveAggregate (tree_text (name_of names a))
IsRefusalOf names OutOfMemory refusal = ⊥

-- the join can't take the module, for the reason that the refusal gives
abbrev pub RefusesAs : List Tree → Join → GroundModule → Refusal → Type 0
RefusesAs names join m TooMany = IsTooMany join m
RefusesAs names join m (Redefined atom) = RedefinesAs join atom names m
RefusesAs names join m (CrossLoop new_head other) = LoopsAs join new_head other names m
RefusesAs names join m (RecursiveAggregate atom) = RecursesAs join atom names m
RefusesAs names join m refusal = ⊥

-- The join took the module, or it refused it and the base is as it was at the mark.
abbrev pub JoinsAs : List Tree → ℕ → GroundModule → List ℕ → Join → List ℕ → Join → Reply → Type 0
JoinsAs table mark m base join new_base new_join (Grounded atoms rules) =
    IsComposable join m × (atoms ≡ length m.names) × (rules ≡ length m.rules) × (new_base ≡ base) × IsJoined join m new_join
JoinsAs table mark m base join new_base new_join (Refused refusal) =
    RefusesAs (map (term_at table) base) join m refusal × (new_base ≡ take mark base) × (new_join ≡ join)
JoinsAs table mark m base join new_base new_join reply = ⊥

-- The solver took the module and the notes declare what is new, or the module was refused and there are none.
abbrev pub DeclaresAs : List Tree → List ℕ → Join → Watcher → Watcher → List Note → Reply → Type 0
DeclaresAs table base new_join solver new_solver notes (Grounded atoms rules) = DeclaresNew table base new_join solver new_solver notes
DeclaresAs table base new_join solver new_solver notes (Refused refusal) = (notes ≡ []) × (new_solver ≡ solver)
DeclaresAs table base new_join solver new_solver notes reply = ⊥

-- where the reply is a refusal, the base, the join and the solver are as before, and there are no lines of the log
abbrev pub StaysWhereRefused : Open → Open → Reply → Type 0
StaysWhereRefused old new (Refused refusal) = (new.base ≡ old.base) × (new.join ≡ old.join) × (new.solver ≡ old.solver) × (new.notes ≡ [])
StaysWhereRefused old new reply = ⊤
