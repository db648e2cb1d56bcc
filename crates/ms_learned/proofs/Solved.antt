-- What the part of a solve says of the sets that are possible.
use Rattle.std.proofs.Common.{◌≡◌, ◌≢◌, ◌∙◌, ◌⊎◌, ℕ, ◌+◌, ◌<◌, ◌≤◌, ◌-◌, ◌^◌, Bool, true, false, not, if◌then◌else◌, List, [], ◌∷◌, ◌++◌, Option, Some, None, length, get_or, append-nil, refl, sym, ap, subst, inl, inr, arith}
use Rattle.std.specs.Prelude.{IsTrue, slice_get}
use Rattle.std.specs.List.{All, AllPairs, Contains}
use Rattle.std.proofs.lemmas.Bool.{cases_order, false≢true}
use Rattle.std.proofs.lemmas.List.{ext_get_or}
use Rattle.std.proofs.lemmas.List.Elements.{All-contains, All-contains_itself, All-drop, All-weaker, Contains-append_left, Contains-get_or, filter-append, filter_map-append}
use Rattle.std.proofs.lemmas.Option.{get_or_from_slice_get, slice_get-get_or, slice_get_within}
use Rattle.ms_tree.specs.Tree.{Tree}
use Rattle.ms_call.specs.declared.command.Assumption.{Assumption}
use Rattle.ms_join.specs.Possible.{IsPossible}
use Rattle.ms_join.specs.Things.{Thing}
use Rattle.ms_join.specs.Things.Thing.{atom}
use Rattle.ms_lits.specs.declared.lit.Lit.{Lit}
use Rattle.ms_lits.specs.declared.note.Ending.{Ending}
use Rattle.ms_lits.specs.declared.note.Ending.TheVariants.{Complete, Cut}
use Rattle.ms_lits.specs.declared.note.Note.{Note}
use Rattle.ms_lits.specs.declared.note.Note.TheVariants.{Answer, Finish, Kept, Start, Temporary, Theory}
use Rattle.ms_lits.specs.Literals.{Nogood, IsContained, IsRefuted}
use Rattle.ms_things.specs.Completion.{IsCompletionNogood}
use Rattle.ms_things.specs.Numbers.{ext}
use Rattle.ms_things.specs.Signs.{IsContainedIn}
use Rattle.ms_loops.specs.Laws.{NogoodsAreConsequences}
use Rattle.ms_lawful.specs.Lines.{AreLines, InFullStore, IsInOrder, Stage, Stands, after, answer_of, answers_in, first_stage, is_learned, kept_now, learned_in, nogood_of, nogoods_in, of_answer, of_completion, of_theory, owed_after, kept_before, stage_after, standing, stored, temporary}
use Rattle.ms_lawful.specs.Parts.{kept_in, last_of, most_kept}
use Rattle.ms_lawful.specs.Problems.{HasNogood, HasNoKept, IsAdmitted, Problem, holds_under}
use Rattle.ms_lawful.proofs.Apart.{lines_apart, nogoods_stand}
use Rattle.ms_lawful.proofs.Counts.{cut_spent, learned_count, lines_few, spent_within}
use Rattle.ms_lawful.proofs.Listed.{temporary_answered}
use Rattle.ms_lawful.proofs.Lists.{Contains-cons, filter_map-Contains}
use Rattle.ms_lawful.proofs.Newness.{HasNewLiteral, learned_new}
use Rattle.ms_lawful.proofs.Parts.{kept_from, kept_in_part}
use Rattle.ms_lawful.proofs.Soundness.{store_sound, temporary_rests}
use Rattle.ms_lawful.proofs.Stages.{lines_after}
use Rattle.ms_problem.specs.Numbered.{AreNumbers}
use Rattle.ms_problem.specs.Solves.{problem_of}
use Rattle.ms_machine.specs.Machine.{State, LogsSolve}
use Rattle.ms_learned.specs.Learned.{BringsNew, IsAtHand, IsLasting, IsLearnedLine, IsRefutedByLog, IsStanding, answer_by}
use Rattle.ms_learned.specs.Learned.IsAtHand.{of_standing, of_listed}

-- ---- literals and truths

holds_is : (wanted has : Bool) → IsTrue (if wanted then has else not has) → has ≡ wanted
holds_is true true is = refl
holds_is true false is = absurd (false≢true is)
holds_is false true is = absurd (false≢true is)
holds_is false false is = refl

is_holds : (wanted has : Bool) → has ≡ wanted → IsTrue (if wanted then has else not has)
is_holds true true is = refl
is_holds true false is = absurd (false≢true is)
is_holds false true is = absurd (false≢true (sym is))
is_holds false false is = refl

contained_from : (truth : ℕ → Bool) (nogood : Nogood) → HasNogood truth nogood → IsContainedIn truth nogood
contained_from truth = All-weaker (λ (l : Lit). IsTrue (holds_under truth l)) (λ (l : Lit). truth l.var ≡ l.truth) (λ l is. holds_is l.truth (truth l.var) is)

has_from : (truth : ℕ → Bool) (nogood : Nogood) → IsContainedIn truth nogood → HasNogood truth nogood
has_from truth = All-weaker (λ (l : Lit). truth l.var ≡ l.truth) (λ (l : Lit). IsTrue (holds_under truth l)) (λ l is. is_holds l.truth (truth l.var) is)

-- ---- numbers of atoms

not_twice : (xs : List Thing) → AllPairs (λ t u. t ≢ u) xs → (i k : ℕ) (t : Thing) → i < k → slice_get xs i ≡ Some t → slice_get xs k ≡ Some t → ⊥
not_twice xs once i k t less first second =
    once i k t less (slice_get_within xs k t second) (get_or_from_slice_get xs i t t first ∙ sym (get_or_from_slice_get xs k t t second))

one_place : (xs : List Thing) → AllPairs (λ t u. t ≢ u) xs → (i k : ℕ) (t : Thing) → slice_get xs i ≡ Some t → slice_get xs k ≡ Some t → i ≡ k
one_place xs once i k t first second = elim (cases_order i k) [
  | inl same ↦ same
  | inr other ↦ elim other [
    | inl before ↦ absurd (not_twice xs once i k t before first second)
    | inr after ↦ absurd (not_twice xs once k i t after second first)
  ]
]

-- Atoms have their numbers in one way.
pub same_numbers : (things : List Thing) (count : ℕ) (numbers others : List ℕ) → AllPairs (λ t u. t ≢ u) things → AreNumbers things count numbers → AreNumbers things count others → numbers ≡ others
same_numbers things count numbers others once are also = ext_get_or 0 numbers others (are.counted ∙ sym also.counted) (λ a within.
    one_place things once (get_or numbers a 0) (get_or others a 0) (atom a)
    (are.each a (get_or numbers a 0) (slice_get-get_or numbers a 0 within))
    (also.each a (get_or others a 0) (slice_get-get_or others a 0 (omega (arith, within, are.counted, also.counted)))))

-- ---- the frame of a part

-- Another line comes behind the first one.
behind_first : (impossible : Bool) (start : List Lit) (lines before rest : List Note) (line : Note) → (Start impossible start ≡ line → ⊥) → Start impossible start ∷ lines ≡ before ++ line ∷ rest
    → (front : List Note) × (before ≡ Start impossible start ∷ front) × (lines ≡ front ++ line ∷ rest)
behind_first impossible start lines [] rest line other is = let same : Start impossible start ≡ line = cc in absurd (other same)
behind_first impossible start lines (note ∷ front) rest line other is =
    let first : Start impossible start ≡ note = cc in
    let others : lines ≡ front ++ line ∷ rest = cc in
    (front, ap (λ n. n ∷ front) (sym first), others)

not_empty : (front rest : List Note) (note : Note) → [] ≡ front ++ note ∷ rest → ⊥
not_empty [] rest note is = cc
not_empty (first ∷ front) rest note is = cc

-- And before the last one.
before_last : (reply : List ℕ) (lines front rest : List Note) (line : Note) → (Finish reply ≡ line → ⊥) → lines ++ Finish reply ∷ [] ≡ front ++ line ∷ rest
    → (later : List Note) × (lines ≡ front ++ line ∷ later)
before_last reply [] [] rest line other is = let same : Finish reply ≡ line = cc in absurd (other same)
before_last reply [] (first ∷ front) rest line other is = let others : [] ≡ front ++ line ∷ rest = cc in absurd (not_empty front rest line others)
before_last reply (note ∷ lines) [] rest line other is = let same : note ≡ line = cc in (lines, ap (λ n. n ∷ lines) same)
before_last reply (note ∷ lines) (first ∷ front) rest line other is =
    let same : note ≡ first = cc in
    let others : lines ++ Finish reply ∷ [] ≡ front ++ line ∷ rest = cc in
    let later = before_last reply lines front rest line other others in
    (later.0, ap (λ n. n ∷ lines) same ∙ ap (λ ls. first ∷ ls) later.1)

-- a line with a learned nogood is neither the first nor the last
abbrev IsOwnOrKept : Note → Nogood → Type 0
IsOwnOrKept line nogood = (line ≡ Kept nogood) ⊎ (line ≡ Temporary nogood)

not_start : (impossible : Bool) (start : List Lit) (line : Note) (nogood : Nogood) → IsOwnOrKept line nogood → Start impossible start ≡ line → ⊥
not_start impossible start line nogood (inl is) same = cc
not_start impossible start line nogood (inr is) same = cc

not_finish : (reply : List ℕ) (line : Note) (nogood : Nogood) → IsOwnOrKept line nogood → Finish reply ≡ line → ⊥
not_finish reply line nogood (inl is) same = cc
not_finish reply line nogood (inr is) same = cc

-- Where a line is owed the last one was an answer.
owed_last : (stage : Stage) (notes : List Note) (answer : List ℕ) → (stage_after stage notes).owed ≡ Some answer
    → ((notes ≡ []) × (stage.owed ≡ Some answer)) ⊎ ((earlier : List Note) × (notes ≡ earlier ++ Answer answer ∷ []))
owed_last stage [] answer owed = inl (refl, owed)
owed_last stage (note ∷ notes) answer owed = elim (owed_last (after stage note) notes answer owed) [
  | inl first ↦ inr ([], (ap (λ ns. note ∷ ns) first.0 ∙ ap (λ n. n ∷ []) (answering note first.1)))
  | inr later ↦ inr (note ∷ later.0, ap (λ ns. note ∷ ns) later.1)
]
  where
    answering : (line : Note) → owed_after line ≡ Some answer → line ≡ Answer answer
    answering (Answer a) is = let same : a ≡ answer = cc in ap Answer same
    answering line is = let clash : ⊥ = cc in absurd clash

none_owed : (notes : List Note) → ((earlier : List Note) (answer : List ℕ) → notes ≡ earlier ++ Answer answer ∷ [] → ⊥) → (stage_after first_stage notes).owed ≡ None
none_owed notes none = by (stage_after first_stage notes).owed refl
  where
    by : (owed : Option (List ℕ)) → (stage_after first_stage notes).owed ≡ owed → (stage_after first_stage notes).owed ≡ None
    by None is = is
    by (Some answer) is = elim (owed_last first_stage notes answer is) [
      | inl first ↦ let nothing = first.1 in let clash : ⊥ = cc in absurd clash
      | inr last ↦ absurd (none last.0 answer last.1)
    ]

nogoods_in_part : (impossible : Bool) (start : List Lit) (lines : List Note) (reply : List ℕ) → nogoods_in (Start impossible start ∷ lines ++ Finish reply ∷ []) ≡ nogoods_in lines
nogoods_in_part impossible start lines reply = filter_map-append nogood_of lines (Finish reply ∷ []) ∙ append-nil (nogoods_in lines)

-- What is refuted stays so where there are more nogoods.
more_refute : (Among More : Nogood → Type 0) (start : List Lit) → ((nogood : Nogood) → Among nogood → More nogood) → IsRefuted Among start → IsRefuted More start
more_refute Among More start more refuted set whole closed = elim (refuted set whole (λ nogood among. closed nogood (more nogood among))) [
  | inl has ↦ inl (record { nogood = has.nogood; among = more has.nogood has.among; whole = has.whole })
  | inr both ↦ inr both
]

-- ---- the part of a solve

module _ (old new : State) (asked limit : ℕ) (assume : List Assumption) (ending : Ending) (count : ℕ) (listing : List (List Tree)) (log : List Note) (is : LogsSolve old asked limit assume ending count listing log new) where
  abbrev problem : Problem
  problem = problem_of old.join old.things is.numbers (last_of most_kept old.kept) is.ask is.start

  abbrev lines : List Note
  lines = is.part.lines

  kept_lines : kept_in log ≡ kept_in lines
  kept_lines = ap kept_in is.part.whole ∙ kept_in_part is.ask.impossible is.start lines _

  nogood_lines : nogoods_in log ≡ nogoods_in lines
  nogood_lines = ap nogoods_in is.part.whole ∙ nogoods_in_part is.ask.impossible is.start lines _

  in_log : (note : Note) → Contains lines note → Contains log note
  in_log note among = subst (λ (ns : List Note). Contains ns note) (sym is.part.whole) (Contains-cons _ note _ (Contains-append_left lines _ note among))

  line_in_log : (note : Note) (nogood : Nogood) → nogood_of note ≡ Some nogood → Contains lines note → Contains (nogoods_in log) nogood
  line_in_log note nogood has among = filter_map-Contains nogood_of note nogood log (in_log note among) has

  -- where a line stands among those between the first and the last
  record IsWithin (before : List Note) (line : Note) : Type 0 where
    front : List Note
    later : List Note
    first : before ≡ Start is.ask.impossible is.start ∷ front
    whole : lines ≡ front ++ line ∷ later

  within_part : (before rest : List Note) (line : Note) (nogood : Nogood) → IsOwnOrKept line nogood → log ≡ before ++ line ∷ rest → IsWithin before line
  within_part before rest line nogood learned split =
      let (front, first, behind) = behind_first is.ask.impossible is.start (lines ++ Finish _ ∷ []) before rest line (not_start is.ask.impossible is.start line nogood learned) (sym is.part.whole ∙ split) in
      let (later, whole) = before_last _ lines front rest line (not_finish _ line nogood learned) behind in
      record { front = front; later = later; first = first; whole = whole }

  -- no line contains what was kept
  pub apart : (nogood : Nogood) → Contains (last_of most_kept old.kept) nogood → All (λ line. (line ≢ nogood) × ¬ IsContained line nogood) (nogoods_in log)
  apart nogood among =
      subst (All (λ (line : Nogood). (line ≢ nogood) × ¬ IsContained line nogood)) (sym nogood_lines)
      (All-weaker (λ (line : Nogood). ¬ IsContained line nogood) (λ (line : Nogood). (line ≢ nogood) × ¬ IsContained line nogood)
      (λ line none. ((λ same. none (subst (λ (n : Nogood). IsContained line n) same (All-contains_itself line))), none))
      (nogoods_in lines)
      (λ k d h. (lines_apart problem lines is.part.lawful).outside k d h nogood (inr among)))

  -- what the log gives of answers and nogoods is at hand
  at_hand : (nogood : Nogood) → InFullStore problem lines nogood → IsAtHand old is.numbers log nogood
  at_hand nogood (standing (stored (of_completion base))) = of_standing (inl base)
  at_hand nogood (standing (stored (kept_before among))) = of_standing (inr (inl among))
  at_hand nogood (standing (stored (of_theory among))) = of_standing (inr (inr (line_in_log (Theory nogood) nogood refl among)))
  at_hand nogood (standing (stored (kept_now among))) = of_standing (inr (inr (line_in_log (Kept nogood) nogood refl among)))
  at_hand nogood (standing (temporary among)) = of_standing (inr (inr (line_in_log (Temporary nogood) nogood refl among)))
  at_hand nogood (of_answer answer) = of_listed answer.truth (in_log (Answer (answer_by answer.truth is.numbers)) answer.answered) answer.signs

  refuted_here : IsRefuted (InFullStore problem lines) is.start → IsRefuted (IsAtHand old is.numbers log) is.start
  refuted_here refuted = more_refute (InFullStore problem lines) (IsAtHand old is.numbers log) is.start at_hand refuted

  module _ (law : NogoodsAreConsequences) (kept : All (IsLasting old.join old.things) old.kept) (set : ℕ → Bool) (possible : IsPossible old.join set) where
    abbrev truth : ℕ → Bool
    truth = ext set old.things

    admitted : IsAdmitted problem truth
    admitted = record {
      completed = λ nogood base has. law old.join old.things nogood (inl base) set possible (contained_from truth nogood has);
      accepted = λ nogood loop has. law old.join old.things nogood (inr (inl loop)) set possible (contained_from truth nogood has);
    }

    none_kept : HasNoKept problem truth
    none_kept = All-drop (λ (nogood : Nogood). ¬ HasNogood truth nogood) (length old.kept - most_kept) old.kept
        (All-weaker (IsLasting old.join old.things) (λ (nogood : Nogood). ¬ HasNogood truth nogood) (λ nogood l has. l.consequence set possible (contained_from truth nogood has)) old.kept kept)

    kept_line_holds : (nogood : Nogood) → Contains lines (Kept nogood) → ¬ IsContainedIn truth nogood
    kept_line_holds nogood among contained = store_sound problem truth lines admitted none_kept is.part.lawful nogood (kept_now among) (has_from truth nogood contained)

    -- an earlier answer has the true atoms of a set that contains what is temporary
    pub answered : (before rest : List Note) (nogood : Nogood) → log ≡ before ++ Temporary nogood ∷ rest → IsContainedIn truth nogood → Contains before (Answer (answer_by truth is.numbers))
    answered before rest nogood split contained =
        let at = within_part before rest (Temporary nogood) nogood (inr refl) split in
        let has = temporary_rests problem at.front at.later truth nogood (subst (AreLines problem first_stage) at.whole is.part.lawful) admitted none_kept (has_from truth nogood contained) in
        subst (λ (notes : List Note). Contains notes (Answer (answer_by truth is.numbers))) (sym at.first) (Contains-cons _ (Answer (answer_by truth is.numbers)) at.front has)

  pub follows_answer : (before rest : List Note) (nogood : Nogood) → log ≡ before ++ Temporary nogood ∷ rest → answers_in before ≢ []
  follows_answer before rest nogood split none =
      let at = within_part before rest (Temporary nogood) nogood (inr refl) split in
      temporary_answered problem at.front at.later nogood (subst (AreLines problem first_stage) at.whole is.part.lawful) (ap answers_in (sym at.first) ∙ none)

  standing_before : (front : List Note) (small : Nogood) → IsStanding old (Start is.ask.impossible is.start ∷ front) small → Stands problem front small
  standing_before front small (inl base) = stored (of_completion base)
  standing_before front small (inr (inl among)) = stored (kept_before among)
  standing_before front small (inr (inr among)) = nogoods_stand problem front small among

  new_by : (front : List Note) (nogood : Nogood) → HasNewLiteral (Stands problem front) nogood → BringsNew (IsStanding old (Start is.ask.impossible is.start ∷ front)) nogood
  new_by front nogood (lit, contained, none) = record {
    lit = lit;
    contained = contained;
    none_known = λ others each.
        let both = none others each in (
          (λ refuted. both.0 (more_refute (IsStanding old (Start is.ask.impossible is.start ∷ front)) (Stands problem front) others (standing_before front) refuted)),
          (λ derived. both.1 (λ set whole closed. derived set whole (λ small among. closed small (standing_before front small among)))),
        );
  }

  -- what is learned is new
  pub brings_new : (before rest : List Note) (line : Note) (nogood : Nogood) → log ≡ before ++ line ∷ rest → IsLearnedLine before line nogood → BringsNew (IsStanding old before) nogood
  brings_new before rest line nogood split learned =
      let kind : IsOwnOrKept line nogood = elim learned [ inl kept ↦ inl kept | inr other ↦ inr other.0 ] in
      let at = within_part before rest line nogood kind split in
      let plain : (line ≡ Kept nogood) ⊎ ((line ≡ Temporary nogood) × ((stage_after first_stage at.front).owed ≡ None)) = elim learned [
        | inl kept ↦ inl kept
        | inr other ↦ inr (
          other.0,
          none_owed at.front (λ earlier answer ends. other.1 (Start is.ask.impossible is.start ∷ earlier) answer (at.first ∙ ap (λ ns. Start is.ask.impossible is.start ∷ ns) ends)),
        )
      ] in
      subst (λ (notes : List Note). BringsNew (IsStanding old notes) nogood) (sym at.first)
      (new_by at.front nogood (learned_new problem at.front at.later line nogood (subst (AreLines problem first_stage) at.whole is.part.lawful) plain))

  -- no line contains an earlier one
  pub none_earlier : AllPairs (λ nogood later. ¬ IsContained later nogood) (nogoods_in log)
      × All (λ line. (nogood : Nogood) → IsCompletionNogood old.join old.things nogood → ¬ IsContained line nogood) (nogoods_in log)
  none_earlier =
      let all = lines_apart problem lines is.part.lawful in (
        subst (AllPairs (λ nogood later. ¬ IsContained later nogood)) (sym nogood_lines) all.apart,
        subst (All (λ line. (nogood : Nogood) → IsCompletionNogood old.join old.things nogood → ¬ IsContained line nogood)) (sym nogood_lines)
            (λ k d h nogood base. all.outside k d h nogood (inl base)),
      )

  answer_lines : answers_in log ≡ answers_in lines
  answer_lines = ap answers_in is.part.whole ∙ (filter_map-append answer_of lines (Finish _ ∷ []) ∙ append-nil (answers_in lines))

  learned_lines : learned_in log ≡ learned_in lines
  learned_lines = ap learned_in is.part.whole ∙ (filter-append is_learned lines (Finish _ ∷ []) ∙ append-nil (learned_in lines))

  -- a cut has its limit
  pub cut_has : ending ≡ Cut → (length (learned_in log) ≡ limit + length (answers_in log)) × (limit ≤ 3 ^ length old.things)
  cut_has cut =
      let counted = learned_count problem lines is.part.lawful is.part.ends.nothing_owed in
      let spent = cut_spent problem lines ending cut is.part.ends in
      let within = spent_within lines in
      let few = lines_few problem lines is.part.lawful in (
        omega (arith, ap length learned_lines, ap length answer_lines, counted, spent, is.is_ask.limit_is),
        omega (arith, within, few, spent, is.is_ask.limit_is),
      )

  -- what a solve keeps lasts
  pub kept_lasting : NogoodsAreConsequences → All (IsLasting old.join old.things) old.kept → All (IsLasting old.join old.things) (kept_in log)
  kept_lasting law kept = subst (All (IsLasting old.join old.things)) (sym kept_lines) (λ k d h.
      let nogood : Nogood = get_or (kept_in lines) k d in
      let among : Contains lines (Kept nogood) = kept_from lines nogood (Contains-get_or (kept_in lines) k d h) in
      let line : Contains (nogoods_in lines) nogood = filter_map-Contains nogood_of (Kept nogood) nogood lines among refl in
      record {
        within = (All-contains (IsInOrder (length old.things)) (nogoods_in lines) nogood (lines_apart problem lines is.part.lawful).ordered line).within;
        consequence = λ set possible. kept_line_holds law kept set possible nogood among;
      })

-- After a complete solve the log refutes what was demanded.
pub refuted_by_log : (old new : State) (asked limit : ℕ) (assume : List Assumption) (count : ℕ) (listing : List (List Tree)) (log : List Note) → LogsSolve old asked limit assume Complete count listing log new
    → IsRefutedByLog old assume log
refuted_by_log old new asked limit assume count listing log is = record {
  numbers = is.numbers;
  numbered = is.numbered;
  impossible = is.ask.impossible;
  start = is.start;
  rest = is.part.lines ++ Finish _ ∷ [];
  begins = is.part.whole;
  ended = elim (is.part.ends.reason.1) [
    | inl impossible ↦ inl (impossible, is.is_ask.impossible.0 impossible)
    | inr refuted ↦ inr (refuted_here old new asked limit assume Complete count listing log is
        (subst (λ (ls : List Note). IsRefuted (InFullStore (problem old new asked limit assume Complete count listing log is) ls) is.start) (lines_after first_stage is.part.lines) refuted))
  ];
}
