-- Along a run the declared things are those of the join, and what is kept lasts.
use Rattle.std.proofs.Common.{◌≡◌, ◌∙◌, ◌⊎◌, ℕ, ◌+◌, ◌<◌, ◌≤◌, ◌-◌, ◌^◌, Bool, List, [], ◌∷◌, ◌++◌, None, get_or, length, length-append, append_assoc, append-nil, refl, sym, ap, subst, inl, inr, arith}
use Rattle.std.specs.List.{All, AllPairs, AllZip, Contains}
use Rattle.std.proofs.lemmas.List.{length-map}
use Rattle.std.proofs.lemmas.List.Elements.{All-append, All-contains, All-drop, All-weaker, Contains-append_left, Contains-append_right, filter_map-append}
use Rattle.ms_tree.specs.Tree.{Tree}
use Rattle.ms_call.specs.Items.{Item, command}
use Rattle.ms_call.specs.declared.command.Assumption.{Assumption}
use Rattle.ms_call.specs.declared.command.Command.{Command}
use Rattle.ms_call.specs.declared.command.Command.TheVariants.{Ground, Solve}
use Rattle.ms_join.specs.Modules.{Join}
use Rattle.ms_join.specs.Possible.{IsPossible, cut}
use Rattle.ms_join.specs.Things.{Thing, IsThing}
use Rattle.ms_join.specs.Things.Thing.{atom, body, tuple, aggregate}
use Rattle.ms_lits.specs.declared.lit.Lit.{Lit}
use Rattle.ms_lits.specs.declared.note.Ending.TheVariants.{Complete, Cut}
use Rattle.ms_lits.specs.declared.note.Note.{Note}
use Rattle.ms_lits.specs.declared.note.Note.TheVariants.{Answer, Kept, Temporary}
use Rattle.ms_lits.specs.Literals.{Nogood, IsContained}
use Rattle.ms_things.specs.Completion.{IsCompletionNogood}
use Rattle.ms_things.specs.Numbers.{AreThings, ext}
use Rattle.ms_things.specs.Signs.{IsContainedIn}
use Rattle.ms_loops.specs.Laws.{NogoodsAreConsequences}
use Rattle.ms_lawful.specs.Lines.{answers_in, learned_in, nogoods_in}
use Rattle.ms_lawful.specs.Parts.{kept_by, kept_in, last_of, most_kept}
use Rattle.ms_lawful.proofs.Listed.{listed_from}
use Rattle.ms_lawful.proofs.Lists.{Contains-none, filter_map-Contains, last_of-append}
use Rattle.ms_problem.specs.Numbered.{AreNumbers, numbers_in}
use Rattle.ms_solving.specs.Showing.{shows_atom}
use Rattle.ms_machine.specs.Logging.{Tells as TellsThing}
use Rattle.ms_machine.specs.Machine.{State, Answers, Logs, Step, start}
use Rattle.ms_machine.specs.Replies.{Output, Reply, grounded, solved}
use Rattle.ms_machine.specs.Scripts.{Run, Takes}
use Rattle.ms_released.specs.Released.{IsReached}
use Rattle.ms_released.proofs.Reaching.{orderly_reached}
use Rattle.ms_released.proofs.Steps.{Grows, Stays, takes_changes}
use Rattle.ms_growth.proofs.Running.{IsClosed, closed_after, closed_reached, closed_start, cut_after}
use Rattle.ms_learned.specs.Learned.{BringsNew, IsAnswered, IsLasting, IsLearnedLine, IsRefutedByLog, IsStanding, answer_by, log_of}
use Rattle.ms_learned.proofs.Cut.{ext_cut}
use Rattle.ms_learned.proofs.Solved.{answered, apart, brings_new, cut_has, follows_answer, kept_lasting, none_earlier, refuted_by_log, same_numbers}
use Rattle.ms_learned.proofs.Listed.{listed, long_listing}
use Rattle.ms_learned.proofs.Told.{Declaring, IsQuiet, Solving, Tells, solve_told, takes_told, told}

-- The declared things are those of the join, and what is kept lasts.
record IsSound (s : State) : Type 0 where
  are : AreThings s.join s.things
  kept : All (IsLasting s.join s.things) s.kept

no_thing : (t : Thing) → ¬ IsThing 0 [] t
no_thing (atom a) is = let less : a < 0 = is in absurd (omega arith)
no_thing (body b) (k, rule, within, at, is) = absurd (omega arith)
no_thing (tuple t) (k, rule, within, at, is) = absurd (omega arith)
no_thing (aggregate g) (k, rule, within, at, is) = absurd (omega arith)

sound_start : IsSound start
sound_start = record {
  are = record {
    exactly = λ t. ((λ among. absurd (Contains-none t among)), (λ is. absurd (no_thing t is)));
    once = λ i k d less within. absurd (omega arith);
    before = λ k t part at made. cc;
  };
  kept = λ k d within. absurd (omega arith);
}

-- ---- what is a consequence at one moment

lasting_after : (old new : State) (more : List Thing) (nogood : Nogood) → Stays old new ⊎ Grows old new → IsClosed old → AreThings old.join old.things → new.things ≡ old.things ++ more
    → IsLasting old.join old.things nogood → IsLasting new.join new.things nogood
lasting_after old new more nogood change closed are longer l = record {
  within = subst (λ (things : List Thing). All (λ (lit : Lit). lit.var < length things) nogood) (sym longer)
      (All-weaker (λ (lit : Lit). lit.var < length old.things) (λ (lit : Lit). lit.var < length (old.things ++ more)) (λ lit less. omega (arith, less, length-append old.things more)) nogood l.within);
  consequence = λ set possible contained.
      l.consequence (cut old.join.atoms set) (cut_after old new set change closed possible)
      (λ k d within.
      let number : ℕ = (get_or nogood k d).var in
      ext_cut old.join set closed.below old.things more are number (l.within k d within) ∙ (ap (λ (things : List Thing). ext set things number) (sym longer) ∙ contained k d within));
}

all_lasting : (old new : State) (more : List Thing) → Stays old new ⊎ Grows old new → IsClosed old → IsSound old → new.things ≡ old.things ++ more
    → All (IsLasting new.join new.things) old.kept
all_lasting old new more change closed is longer =
    All-weaker (IsLasting old.join old.things) (IsLasting new.join new.things) (λ nogood l. lasting_after old new more nogood change closed is.are longer l) old.kept is.kept

-- ---- a step

same_things : (old new : State) → Stays old new → new.things ≡ old.things → AreThings old.join old.things → AreThings new.join new.things
same_things old new stays things are = subst (AreThings new.join) (sym things) (record {
  exactly = λ t. subst (λ (n : ℕ). (Contains old.things t → IsThing n new.join.rules t) × (IsThing n new.join.rules t → Contains old.things t)) (sym stays.atoms)
      (subst (λ rules. (Contains old.things t → IsThing old.join.atoms rules t) × (IsThing old.join.atoms rules t → Contains old.things t)) (sym stays.rules) (are.exactly t));
  once = are.once;
  before = are.before;
})

no_more : (old new : State) → new.things ≡ old.things → new.things ≡ old.things ++ []
no_more old new things = things ∙ sym (append-nil old.things)

quiet_sound : (old new : State) (log : List Note) → Stays old new ⊎ Grows old new → IsClosed old → IsSound old → IsQuiet old new log → IsSound new
quiet_sound old new log change closed is quiet = record {
  are = same_things old new quiet.stays quiet.things is.are;
  kept = subst (All (IsLasting new.join new.things)) (sym quiet.kept) (all_lasting old new [] change closed is (no_more old new quiet.things));
}

declaring_sound : (old new : State) (log : List Note) → Stays old new ⊎ Grows old new → IsClosed old → IsSound old → Declaring old new log → IsSound new
declaring_sound old new log change closed is declares = record {
  are = subst (AreThings new.join) (sym declares.logs.longer) declares.logs.declares;
  kept = subst (All (IsLasting new.join new.things)) (sym declares.kept) (all_lasting old new declares.logs.more change closed is declares.logs.longer);
}

-- what a solve logs as kept
logged_lasting : NogoodsAreConsequences → (old new : State) (log : List Note) → IsSound old → Solving old new log → All (IsLasting new.join new.things) (kept_in log)
logged_lasting law old new log is solves =
    subst (λ (j : Join). All (IsLasting j new.things) (kept_in log)) (sym solves.join)
    (subst (λ (things : List Thing). All (IsLasting old.join things) (kept_in log)) (sym solves.logs.things)
    (kept_lasting old new solves.asked solves.limit solves.assume solves.ending solves.count solves.listing log solves.logs law is.kept))

solving_sound : NogoodsAreConsequences → (old new : State) (log : List Note) → Stays old new ⊎ Grows old new → IsClosed old → IsSound old → Solving old new log → IsSound new
solving_sound law old new log change closed is solves = record {
  are = subst (AreThings new.join) (sym solves.logs.things) (subst (λ (j : Join). AreThings j old.things) (sym solves.join) is.are);
  kept = subst (All (IsLasting new.join new.things)) (sym solves.logs.kept)
      (All-append (IsLasting new.join new.things) (last_of most_kept old.kept) (kept_in log)
      (All-drop (IsLasting new.join new.things) (length old.kept - most_kept) old.kept (all_lasting old new [] change closed is (no_more old new solves.logs.things)))
      (logged_lasting law old new log is solves));
}

sound_takes : NogoodsAreConsequences → (old : State) (item : Item) (output : Output) (new : State) → IsClosed old → IsSound old → Takes old item output new → IsSound new
sound_takes law old item output new closed is takes =
    let change = takes_changes old item output new takes in
    elim (takes_told old item output new takes) [
      | inl quiet ↦ quiet_sound old new output.log change closed is quiet
      | inr told ↦ elim told [
        | inl declares ↦ declaring_sound old new output.log change closed is declares
        | inr solves ↦ solving_sound law old new output.log change closed is solves
      ]
    ]

abbrev IsLonger : State → State → Type 0
IsLonger old new = (more : List Thing) × (new.things ≡ old.things ++ more)

longer_takes : (old : State) (item : Item) (output : Output) (new : State) → Takes old item output new → IsLonger old new
longer_takes old item output new takes = elim (takes_told old item output new takes) [
  | inl quiet ↦ ([], no_more old new quiet.things)
  | inr told ↦ elim told [
    | inl declares ↦ (declares.logs.more, declares.logs.longer)
    | inr solves ↦ ([], no_more old new solves.logs.things)
  ]
]

-- ---- a run

pub longer_run : (old new : State) (items : List Item) (outputs : List Output) → Run old items outputs new → (more : List Thing) × (new.things ≡ old.things ++ more)
unfolding Run
longer_run old new [] [] run = ([], no_more old new (ap (λ (s : State). s.things) run))
longer_run old new (item ∷ items) (output ∷ outputs) (mid, takes, run) =
    let first = longer_takes old item output mid takes in
    let then = longer_run mid new items outputs run in
    (first.0 ++ then.0, then.1 ∙ (ap (λ ts. ts ++ then.0) first.1 ∙ append_assoc old.things first.0 then.0))
longer_run old new [] (output ∷ outputs) run = absurd run
longer_run old new (item ∷ items) [] run = absurd run

closed_takes : (old : State) (item : Item) (output : Output) (new : State) → IsClosed old → Takes old item output new → IsClosed new
closed_takes old item output new closed takes = closed_after old new (takes_changes old item output new takes) closed

sound_run : NogoodsAreConsequences → (old new : State) (items : List Item) (outputs : List Output) → IsClosed old → IsSound old → Run old items outputs new → IsSound new
unfolding Run
sound_run law old new [] [] closed is run = subst IsSound (sym run) is
sound_run law old new (item ∷ items) (output ∷ outputs) closed is (mid, takes, run) =
    sound_run law mid new items outputs (closed_takes old item output mid closed takes) (sound_takes law old item output mid closed is takes) run
sound_run law old new [] (output ∷ outputs) closed is run = absurd run
sound_run law old new (item ∷ items) [] closed is run = absurd run

sound_reached : NogoodsAreConsequences → (s : State) → IsReached s → IsSound s
sound_reached law s reached = sound_run law start s reached.items reached.outputs closed_start sound_start reached.run

lasting_run : NogoodsAreConsequences → (old new : State) (items : List Item) (outputs : List Output) (nogood : Nogood) → IsClosed old → IsSound old → Run old items outputs new
    → IsLasting old.join old.things nogood → IsLasting new.join new.things nogood
unfolding Run
lasting_run law old new [] [] nogood closed is run l = subst (λ (s : State). IsLasting s.join s.things nogood) (sym run) l
lasting_run law old new (item ∷ items) (output ∷ outputs) nogood closed is (mid, takes, run) l =
    let longer = longer_takes old item output mid takes in
    lasting_run law mid new items outputs nogood (closed_takes old item output mid closed takes) (sound_takes law old item output mid closed is takes) run
    (lasting_after old mid longer.0 nogood (takes_changes old item output mid takes) closed is.are longer.1 l)
lasting_run law old new [] (output ∷ outputs) nogood closed is run l = absurd run
lasting_run law old new (item ∷ items) [] nogood closed is run l = absurd run

-- ---- the laws of consequences

pub declared_are_things : NogoodsAreConsequences → (s : State) → IsReached s → AreThings s.join s.things
declared_are_things law s reached = (sound_reached law s reached).are

pub kept_are_consequences : NogoodsAreConsequences → (s : State) → IsReached s → All (IsLasting s.join s.things) s.kept
kept_are_consequences law s reached = (sound_reached law s reached).kept

pub kept_last : NogoodsAreConsequences → (old new : State) (items : List Item) (outputs : List Output) (nogood : Nogood) → IsReached old → Run old items outputs new
    → Contains old.kept nogood → IsLasting new.join new.things nogood
kept_last law old new items outputs nogood reached run among =
    let is = sound_reached law old reached in
    lasting_run law old new items outputs nogood (closed_reached old reached) is run (All-contains (IsLasting old.join old.things) old.kept nogood is.kept among)

-- ---- what is kept

-- a declaration keeps nothing
tells_no_kept : (names : List Tree) (all : List Thing) (t : Thing) (note : Note) → TellsThing names all t note → kept_by note ≡ None
tells_no_kept names all (atom a) note (tree, at, is) = ap kept_by is
tells_no_kept names all (body b) note (line, of, is) = ap kept_by is
tells_no_kept names all (tuple t) note tells = absurd tells
tells_no_kept names all (aggregate g) note tells = absurd tells

declarations_keep_nothing : (names : List Tree) (all things : List Thing) (log : List Note) → AllZip (TellsThing names all) things log → kept_in log ≡ []
declarations_keep_nothing names all [] [] zip = refl
declarations_keep_nothing names all (t ∷ things) (note ∷ log) zip =
    let none : kept_by note ≡ None = tells_no_kept names all t note zip.0 in
    let rest : kept_in log ≡ [] = declarations_keep_nothing names all things log zip.1 in
    filter_map-append kept_by (note ∷ []) log ∙ (ap (λ ns. ns ++ kept_in log) (one_kept note none) ∙ rest)
  where
    one_kept : (note : Note) → kept_by note ≡ None → kept_in (note ∷ []) ≡ []
    one_kept note none = cc
declarations_keep_nothing names all [] (note ∷ log) zip = absurd zip
declarations_keep_nothing names all (t ∷ things) [] zip = absurd zip

unchanged : (old new : State) (log : List Note) → new.kept ≡ old.kept → kept_in log ≡ [] → last_of most_kept new.kept ≡ last_of most_kept (old.kept ++ kept_in log)
unchanged old new log kept nothing = ap (last_of most_kept) (kept ∙ (sym (append-nil old.kept) ∙ ap (λ (ns : List Nogood). old.kept ++ ns) (sym nothing)))

last_takes : (old : State) (item : Item) (output : Output) (new : State) → Takes old item output new → last_of most_kept new.kept ≡ last_of most_kept (old.kept ++ kept_in output.log)
last_takes old item output new takes = elim (takes_told old item output new takes) [
  | inl quiet ↦ unchanged old new output.log quiet.kept (ap kept_in quiet.nothing)
  | inr told ↦ elim told [
    | inl declares ↦ unchanged old new output.log declares.kept (declarations_keep_nothing new.names new.things declares.logs.more output.log declares.logs.tells)
    | inr solves ↦ ap (last_of most_kept) solves.logs.kept ∙ last_of-append most_kept old.kept (kept_in output.log)
  ]
]

pub last_run : (old new : State) (items : List Item) (outputs : List Output) → Run old items outputs new → last_of most_kept new.kept ≡ last_of most_kept (old.kept ++ kept_in (log_of outputs))
unfolding Run
last_run old new [] [] run = ap (λ (s : State). last_of most_kept s.kept) run ∙ ap (last_of most_kept) (sym (append-nil old.kept))
last_run old new (item ∷ items) (output ∷ outputs) (mid, takes, run) =
    let first : List Nogood = kept_in output.log in
    let then : List Nogood = kept_in (log_of outputs) in
    last_run mid new items outputs run
    ∙ (sym (last_of-append most_kept mid.kept then)
    ∙ (ap (λ (ns : List Nogood). last_of most_kept (ns ++ then)) (last_takes old item output mid takes)
    ∙ (last_of-append most_kept (old.kept ++ first) then
    ∙ ap (last_of most_kept) (append_assoc old.kept first then ∙ ap (λ (ns : List Nogood). old.kept ++ ns) (sym (filter_map-append kept_by output.log (log_of outputs)))))))
last_run old new [] (output ∷ outputs) run = absurd run
last_run old new (item ∷ items) [] run = absurd run

others_keep : (old : State) (c : Command) (reply : Reply) (log : List Note) (new : State) → ((asked limit : ℕ) (assume : List Assumption) → c ≡ Solve asked limit assume → ⊥)
    → Answers old c reply new → Logs old c reply log new → new.kept ≡ old.kept
others_keep old (Solve asked limit assume) reply log new other h logs = absurd (other asked limit assume refl)
others_keep old (Ground calls) (grounded atoms count) log new other h logs = logs.1
others_keep old c reply log new other h logs = logs.2

pub others_keep_all : (old new : State) (c : Command) (output : Output) → ((asked limit : ℕ) (assume : List Assumption) → c ≡ Solve asked limit assume → ⊥) → Step old c output new → new.kept ≡ old.kept
others_keep_all old new c output other step = others_keep old c output.reply output.log new other step.answers step.logs

-- ---- the lines of a step

kept_by_log : (old new : State) (log : List Note) (nogood : Nogood) → Tells old new log → Contains (kept_in log) nogood → Contains new.kept nogood
kept_by_log old new log nogood (inl quiet) among = absurd (Contains-none nogood (subst (λ (ns : List Note). Contains (kept_in ns) nogood) quiet.nothing among))
kept_by_log old new log nogood (inr (inl declares)) among =
    absurd (Contains-none nogood (subst (λ (ns : List Nogood). Contains ns nogood) (declarations_keep_nothing new.names new.things declares.logs.more log declares.logs.tells) among))
kept_by_log old new log nogood (inr (inr solves)) among =
    subst (λ (ns : List Nogood). Contains ns nogood) (sym solves.logs.kept) (Contains-append_right (last_of most_kept old.kept) (kept_in log) nogood among)

pub logged_last : NogoodsAreConsequences → (old mid new : State) (c : Command) (output : Output) (items : List Item) (outputs : List Output) (nogood : Nogood)
    → IsReached old → Step old c output mid → Run mid items outputs new → Contains output.log (Kept nogood) → IsLasting new.join new.things nogood
logged_last law old mid new c output items outputs nogood reached step run among =
    let closed = closed_reached old reached in
    let is = sound_takes law old (command c) output mid closed (sound_reached law old reached) step in
    let kept = kept_by_log old mid output.log nogood (takes_told old (command c) output mid step) (filter_map-Contains kept_by (Kept nogood) nogood output.log among refl) in
    lasting_run law mid new items outputs nogood (closed_takes old (command c) output mid closed step) is run (All-contains (IsLasting mid.join mid.things) mid.kept nogood is.kept kept)

pub not_learned_again : (old new : State) (asked limit : ℕ) (assume : List Assumption) (output : Output) (nogood : Nogood) → Step old (Solve asked limit assume) output new
    → Contains (last_of most_kept old.kept) nogood → All (λ line. (line ≡ nogood → ⊥) × ¬ IsContained line nogood) (nogoods_in output.log)
not_learned_again old new asked limit assume output nogood step among =
    let solve = solve_told old new asked limit assume output.reply output.log step.answers step.logs in
    apart old new asked limit assume solve.ending solve.count solve.listing output.log solve.logs nogood among

pub temporary_rests : NogoodsAreConsequences → (old new : State) (asked limit : ℕ) (assume : List Assumption) (output : Output) (before rest : List Note) (nogood : Nogood) (numbers : List ℕ) (set : ℕ → Bool)
    → IsReached old → Step old (Solve asked limit assume) output new → output.log ≡ before ++ Temporary nogood ∷ rest
    → AreNumbers old.things old.join.atoms numbers → IsPossible old.join set → IsContainedIn (ext set old.things) nogood → IsAnswered old numbers before output.reply set
temporary_rests law old new asked limit assume output before rest nogood numbers set reached step split numbered possible contained =
    let solve = solve_told old new asked limit assume output.reply output.log step.answers step.logs in
    let is = sound_reached law old reached in
    let same : solve.logs.numbers ≡ numbers = same_numbers old.things old.join.atoms solve.logs.numbers numbers is.are.once solve.logs.numbered numbered in
    let own : Contains before (Answer (answer_by (ext set old.things) solve.logs.numbers)) =
    answered old new asked limit assume solve.ending solve.count solve.listing output.log solve.logs law is.kept set possible before rest nogood split contained in
    let there : Contains output.log (Answer (answer_by (ext set old.things) solve.logs.numbers)) =
    subst (λ (ns : List Note). Contains ns (Answer (answer_by (ext set old.things) solve.logs.numbers))) (sym split) (Contains-append_left before (Temporary nogood ∷ rest) (Answer (answer_by (ext set old.things) solve.logs.numbers)) own) in
    let among = subst (λ (sets : List (List ℕ)). Contains sets (answer_by (ext set old.things) solve.logs.numbers)) solve.logs.answers (listed_from output.log (answer_by (ext set old.things) solve.logs.numbers) there) in
    let (shown, in_listing, atoms) = listed old.things old.join.atoms solve.logs.numbers solve.logs.numbered old.names (orderly_reached old reached).counted (shows_atom old.texts) solve.logs.sets solve.listing set solve.logs.listed among in
    record {
      line = subst (λ (ns : List ℕ). Contains before (Answer (answer_by (ext set old.things) ns))) same own;
      shown = shown;
      listed = subst (λ (lists : List (List Tree)). Contains lists shown) (sym solve.lists) in_listing;
      atoms = atoms;
    }

pub temporary_follows : (old new : State) (asked limit : ℕ) (assume : List Assumption) (output : Output) (before rest : List Note) (nogood : Nogood)
    → Step old (Solve asked limit assume) output new → output.log ≡ before ++ Temporary nogood ∷ rest → answers_in before ≡ [] → ⊥
temporary_follows old new asked limit assume output before rest nogood step split =
    let solve = solve_told old new asked limit assume output.reply output.log step.answers step.logs in
    follows_answer old new asked limit assume solve.ending solve.count solve.listing output.log solve.logs before rest nogood split

pub contain_no_earlier : (old new : State) (asked limit : ℕ) (assume : List Assumption) (output : Output) → Step old (Solve asked limit assume) output new
    → AllPairs (λ nogood later. ¬ IsContained later nogood) (nogoods_in output.log)
    × All (λ line. (nogood : Nogood) → IsCompletionNogood old.join old.things nogood → ¬ IsContained line nogood) (nogoods_in output.log)
contain_no_earlier old new asked limit assume output step =
    let solve = solve_told old new asked limit assume output.reply output.log step.answers step.logs in
    none_earlier old new asked limit assume solve.ending solve.count solve.listing output.log solve.logs

pub lines_are_new : (old new : State) (asked limit : ℕ) (assume : List Assumption) (output : Output) (before rest : List Note) (line : Note) (nogood : Nogood)
    → Step old (Solve asked limit assume) output new → output.log ≡ before ++ line ∷ rest → IsLearnedLine before line nogood → BringsNew (IsStanding old before) nogood
lines_are_new old new asked limit assume output before rest line nogood step =
    let solve = solve_told old new asked limit assume output.reply output.log step.answers step.logs in
    brings_new old new asked limit assume solve.ending solve.count solve.listing output.log solve.logs before rest line nogood

cut_counted : (old new : State) (asked limit count most : ℕ) (assume : List Assumption) (listing : List (List Tree)) (log : List Note)
    → Answers old (Solve asked limit assume) (solved Cut count most listing) new → Logs old (Solve asked limit assume) (solved Cut count most listing) log new
    → (length (learned_in log) ≡ limit + count) × (limit ≤ 3 ^ length old.things)
cut_counted old new asked limit count most assume listing log answers logs =
    let cut = cut_has old new asked limit assume Cut count listing log logs refl in
    let sets : length (answers_in log) ≡ length logs.sets = ap length logs.answers ∙ length-map logs.sets (numbers_in old.things logs.numbers) in
    let here : length listing ≡ length logs.sets = long_listing (shows_atom old.texts) old.names logs.sets listing logs.listed in
    let there : length listing ≡ length answers.0.sets = long_listing (shows_atom old.texts) old.names answers.0.sets listing answers.0.listed in
    (omega (arith, cut.0, sets, here, there, answers.0.counted), cut.1)

pub cut_is_counted : (old new : State) (asked limit count most : ℕ) (assume : List Assumption) (listing : List (List Tree)) (output : Output)
    → Step old (Solve asked limit assume) output new → output.reply ≡ solved Cut count most listing → (length (learned_in output.log) ≡ limit + count) × (limit ≤ 3 ^ length old.things)
cut_is_counted old new asked limit count most assume listing output step is =
    cut_counted old new asked limit count most assume listing output.log
    (subst (λ (reply : Reply). Answers old (Solve asked limit assume) reply new) is step.answers)
    (subst (λ (reply : Reply). Logs old (Solve asked limit assume) reply output.log new) is step.logs)

pub complete_is_refuted : (old new : State) (asked limit count most : ℕ) (assume : List Assumption) (listing : List (List Tree)) (output : Output)
    → Step old (Solve asked limit assume) output new → output.reply ≡ solved Complete count most listing → IsRefutedByLog old assume output.log
complete_is_refuted old new asked limit count most assume listing output step is =
    refuted_by_log old new asked limit assume count listing output.log
    (subst (λ (reply : Reply). Logs old (Solve asked limit assume) reply output.log new) is step.logs)
