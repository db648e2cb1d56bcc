-- The laws of the lawful log. They speak of every problem, every log and every total assignment.
use Rattle.std.specs.Prelude.{ℕ, ◌≡◌, ◌≢◌, ◌+◌, ◌<◌, ◌≤◌, ◌^◌, ◌⊎◌, ◌++◌, Bool, List, [], ◌∷◌, length, None, All, AllPairs, Contains}
use Rattle.ms_lits.specs.declared.lit.Lit.{Lit}
use Rattle.ms_lits.specs.declared.note.Note.{Note}
use Rattle.ms_lits.specs.declared.note.Note.TheVariants.{Answer, Kept, Temporary}
use Rattle.ms_lits.specs.declared.note.Ending.{Ending}
use Rattle.ms_lits.specs.declared.note.Ending.TheVariants.{Complete, Cut}
use Rattle.ms_lits.specs.Literals.{Nogood, IsContained, IsDerived, IsRefuted, opposite_of}
use Rattle.ms_lawful.specs.Problems.{TestedProblem, HasNogood, HasNoKept, IsAdmitted, IsConsequence, MeetsStart, problem_by, true_atoms}
use Rattle.ms_lawful.specs.Lines.{AreLines, EndsRun, Stands, answers_in, first_stage, learned_in, nogoods_in, stage_after}
use Rattle.ms_lawful.specs.Parts.{AreDeclarations, kept_after, kept_in, kept_list, last_of, most_kept}

-- the lines are lawful from the first one on
abbrev pub AreLawful : TestedProblem → List Note → Type 0
AreLawful tests notes = AreLines (problem_by tests) first_stage notes

-- after the lines the solve may end so
abbrev pub MayEnd : TestedProblem → List Note → Ending → Type 0
MayEnd tests notes ending = EndsRun (problem_by tests) (stage_after first_stage notes) ending

-- An admitted assignment that contains nothing kept from earlier solves contains no nogood that this one keeps.
abbrev pub KeptLinesHold : Type 0
KeptLinesHold =
    (tests : TestedProblem) (notes : List Note) (truth : ℕ → Bool) (nogood : Nogood) → AreLawful tests notes
    → IsAdmitted (problem_by tests) truth → HasNoKept (problem_by tests) truth → Contains notes (Kept nogood) → ¬ HasNogood truth nogood

-- Where what was kept before are consequences, so is what a solve keeps.
abbrev pub KeptStaysTrue : Type 0
KeptStaysTrue =
    (tests : TestedProblem) (notes : List Note) → AreLawful tests notes → All (IsConsequence (problem_by tests)) tests.kept
    → All (IsConsequence (problem_by tests)) (kept_in notes)

-- A temporary nogood is contained only in those admitted assignments whose atoms are an earlier answer.
abbrev pub TemporaryRestsOnAnswers : Type 0
TemporaryRestsOnAnswers =
    (tests : TestedProblem) (before rest : List Note) (truth : ℕ → Bool) (nogood : Nogood) → AreLawful tests (before ++ Temporary nogood ∷ rest)
    → IsAdmitted (problem_by tests) truth → HasNoKept (problem_by tests) truth → HasNogood truth nogood
    → Contains before (Answer (true_atoms (problem_by tests) truth))

-- A temporary nogood comes only after an answer.
abbrev pub TemporaryFollowsAnswers : Type 0
TemporaryFollowsAnswers =
    (tests : TestedProblem) (before rest : List Note) (nogood : Nogood) → AreLawful tests (before ++ Temporary nogood ∷ rest) → answers_in before ≢ []

-- A complete solve lists the atoms of each admitted assignment that meets what is demanded and contains nothing kept
-- from earlier solves.
abbrev pub CompleteListsAll : Type 0
CompleteListsAll =
    (tests : TestedProblem) (notes : List Note) (truth : ℕ → Bool) → AreLawful tests notes → MayEnd tests notes Complete
    → IsAdmitted (problem_by tests) truth → HasNoKept (problem_by tests) truth → MeetsStart (problem_by tests) truth
    → Contains (answers_in notes) (true_atoms (problem_by tests) truth)

-- Each answer is one that may be listed, and no two are equal.
abbrev pub AnswersAreListedOnce : Type 0
AnswersAreListedOnce =
    (tests : TestedProblem) (notes : List Note) → AreLawful tests notes
    → All (problem_by tests).Member (answers_in notes) × AllPairs (λ answer later. answer ≢ later) (answers_in notes)

-- Where a solve may end, each answer is followed by its own line, which an admitted assignment with its atoms contains.
abbrev pub OwnLineFollows : Type 0
OwnLineFollows =
    (tests : TestedProblem) (before notes : List Note) (answer : List ℕ) (ending : Ending)
    → AreLawful tests (before ++ Answer answer ∷ notes) → MayEnd tests (before ++ Answer answer ∷ notes) ending
    → (nogood : Nogood) × (rest : List Note) × (truth : ℕ → Bool) × (notes ≡ Temporary nogood ∷ rest)
    × IsAdmitted (problem_by tests) truth × (true_atoms (problem_by tests) truth ≡ answer) × HasNogood truth nogood

-- No line's nogood contains that of an earlier line, a completion nogood, or one that was kept from earlier solves.
abbrev pub LinesContainNoEarlier : Type 0
LinesContainNoEarlier =
    (tests : TestedProblem) (notes : List Note) → AreLawful tests notes
    → AllPairs (λ nogood later. ¬ IsContained later nogood) (nogoods_in notes)
    × All (λ nogood. (small : Nogood) → (problem_by tests).Base small ⊎ Contains tests.kept small → ¬ IsContained nogood small) (nogoods_in notes)

-- A solve that begins with the kept list of a log has no line again whose nogood is in that list, or contains one of it.
abbrev pub KeptIsNotLearnedAgain : Type 0
KeptIsNotLearnedAgain =
    (tests : TestedProblem) (log notes : List Note) (nogood : Nogood) → tests.kept ≡ kept_list log → AreLawful tests notes
    → Contains (kept_list log) nogood → All (λ line. (line ≢ nogood) × ¬ IsContained line nogood) (nogoods_in notes)

-- The lines of a solve have different nogoods, at most three to the power of the number of things.
abbrev pub LinesAreFew : Type 0
LinesAreFew =
    (tests : TestedProblem) (notes : List Note) → AreLawful tests notes
    → AllPairs (λ nogood later. nogood ≢ later) (nogoods_in notes) × (length (nogoods_in notes) ≤ 3 ^ tests.things)

-- No solve is cut whose limit is greater than three to the power of the number of things.
abbrev pub GreatLimitsCutNothing : Type 0
GreatLimitsCutNothing =
    (tests : TestedProblem) (notes : List Note) → AreLawful tests notes → 3 ^ tests.things < tests.limit → ¬ MayEnd tests notes Cut

-- A solve that is cut has as many learned lines as its limit and its answers together, and any other no more.
abbrev pub LearnedLinesAreCounted : Type 0
LearnedLinesAreCounted =
    (tests : TestedProblem) (notes : List Note) (ending : Ending) → AreLawful tests notes → MayEnd tests notes ending
    → (length (learned_in notes) ≤ tests.limit + length (answers_in notes))
    × (ending ≡ Cut → length (learned_in notes) ≡ tests.limit + length (answers_in notes))

-- A learned nogood that isn't an answer's own has a literal such that what stands neither refutes the others nor gives
-- the opposite of that one from them, by unit closure.
abbrev pub LearnedLinesAreNew : Type 0
LearnedLinesAreNew =
    (tests : TestedProblem) (before rest : List Note) (line : Note) (nogood : Nogood) → AreLawful tests (before ++ line ∷ rest)
    → (line ≡ Kept nogood) ⊎ ((line ≡ Temporary nogood) × ((stage_after first_stage before).owed ≡ None))
    → (lit : Lit) × Contains nogood lit × ((others : List Lit) → All (λ other. Contains nogood other × (other ≢ lit)) others
    → (¬ IsRefuted (Stands (problem_by tests) before) others) × (¬ IsDerived (Stands (problem_by tests) before) others (opposite_of lit)))

-- The kept list of a longer log follows from that of the shorter one and the lines since.
abbrev pub KeptListGoesOn : Type 0
KeptListGoesOn = (log more : List Note) → kept_list (log ++ more) ≡ last_of most_kept (kept_after (kept_list log) more)

-- A thing is declared once.
abbrev pub ThingsAreDeclaredOnce : Type 0
ThingsAreDeclaredOnce =
    (declared part : List Note) → AreDeclarations declared part
    → AllPairs (λ note later. note ≢ later) part × All (λ note. ¬ Contains declared note) part
