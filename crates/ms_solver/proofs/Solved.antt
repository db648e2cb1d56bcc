-- A run of the search over what a solver keeps of a join is a solve of the join.
use Rattle.std.proofs.Common.{◌≡◌, ◌≢◌, ◌∙◌, ◌<◌, ◌-◌, ℕ, Bool, true, false, List, [], ◌∷◌, Option, Some, None, get_or, map, length, option_map, refl, sym, ap, subst, inl, inr, arith}
use Rattle.std.specs.List.{All, AllPairs, Any, Contains}
use Rattle.std.proofs.lemmas.Option.{slice_get_within}
use Rattle.std.proofs.lemmas.List.{get_or-map, length-map}
use Rattle.std.proofs.lemmas.List.Elements.{All-append, All-contains, All-drop, All-map, All-tail, All-weaker}
use Rattle.ms_lits.specs.declared.lit.Lit.{Lit}
use Rattle.ms_lits.specs.declared.note.Note.{Note}
use Rattle.ms_lits.specs.declared.note.Note.TheVariants.{Start, Kept as KeptLine}
use Rattle.ms_lits.specs.declared.note.Ending.{Ending}
use Rattle.ms_lits.specs.declared.note.Ending.TheVariants.{Complete, StillOpen, Cut}
use Rattle.ms_lits.specs.Literals.{Nogood}
use Rattle.ms_nogood.specs.declared.kind.Kind.{Kind}
use Rattle.ms_nogood.specs.declared.kind.Kind.TheVariants.{Base, Kept}
use Rattle.ms_nogood.specs.Propagation.{IsWithin}
use Rattle.ms_nogood.specs.Store.{AreKept, Store, Stored, awake_in, holds_kept, slot_at}
use Rattle.ms_nogood.specs.Theories.{Agree}
use Rattle.ms_join.specs.declared.assumption.AtomAsk.{AtomAsk}
use Rattle.ms_join.specs.declared.assumption.AtomLit.{AtomLit}
use Rattle.ms_join.specs.Modules.{Join}
use Rattle.ms_join.specs.Sets.{IsAtomSet, set_of}
use Rattle.ms_join.specs.Things.{Thing}
use Rattle.ms_join.specs.Things.Thing.{atom}
use Rattle.ms_things.specs.Completion.{IsCompletionNogood, signs_of}
use Rattle.ms_things.specs.Numbers.{ext, known_truth}
use Rattle.ms_things.specs.Signs.{IsFor, Signed}
use Rattle.ms_loops.specs.Laws.{AssignmentsArePossible, CompletionAndLoops, PossibleIsOverBase}
use Rattle.ms_lawful.specs.Problems.{HasNogood, IsAdmitted, Problem}
use Rattle.ms_lawful.specs.Lines.{EndsFor, IsInOrder, Stage, answers_in, first_stage, kept_now, nogood_of, nogoods_in, stage_after}
use Rattle.ms_lawful.specs.Parts.{kept_in, last_of, most_kept}
use Rattle.ms_lawful.proofs.Carrying.{SaysAsMuch, ends_carry, lines_carry}
use Rattle.ms_lawful.proofs.Lists.{Contains-map, filter_map-Contains}
use Rattle.ms_lawful.proofs.Apart.{lines_apart}
use Rattle.ms_lawful.proofs.Parts.{kept_from}
use Rattle.ms_lawful.proofs.Soundness.{store_sound}
use Rattle.ms_lawful.proofs.Stages.{lines_after}
use Rattle.ms_complete.specs.Bases.{HasExactly, base_of}
use Rattle.ms_complete.specs.Rules.{holds}
use Rattle.ms_complete.specs.Sets.{Match}
use Rattle.ms_complete.proofs.Lists.{all_from, any_weaker, at_some}
use Rattle.ms_search.specs.declared.ask.Ask.{Ask}
use Rattle.ms_search.specs.declared.ask.Run.{Run}
use Rattle.ms_search.specs.Posed as search_lists
use Rattle.ms_search.specs.Problems.{AreLasting, AreUnique, IsAnswer, IsBase, kept_nogoods, literals_at}
use Rattle.ms_search.specs.Problems as search
use Rattle.ms_search.specs.Runs.{IsRun, Leaves}
use Rattle.ms_search.proofs.Begins.{awake_slot}
use Rattle.ms_unfound.specs.Loops.{IsGiven}
use Rattle.ms_unfound.specs.Parts.{Known}
use Rattle.ms_unfound.proofs.Admitted.{same_keeps_loops}
use Rattle.ms_solver.specs.Admitted.{Asks}
use Rattle.ms_problem.specs.Numbered.{numbers_in, said}
use Rattle.ms_solver.specs.Numbered.{IsLitOf, IsPickedFrom, atoms_of}
use Rattle.ms_problem.specs.Solves.{IsAskedFor, IsListed, problem_of}
use Rattle.ms_solver.specs.Solves.{EndsWith, IsLog, IsQuestion, Lists, Solves}
use Rattle.ms_solver.specs.States.{HasSleeper, IsLasting, Knowledge, Serves, kept_of}
use Rattle.ms_solver.proofs.Assignments.{admitted_by, decided_by, found_by, has_from, listed_by, none_kept_by}
use Rattle.ms_solver.proofs.Picked.{atoms_back, atoms_of_filter, filter_picked}

-- a nogood of the kind Base
stored_same : (s : Stored) (n : Nogood) → s.lits ≡ n → s.kind ≡ Some Base → s ≡ base_of n
stored_same s n lits kind =
    ap (λ (ls : Nogood). record { lits = ls; kind = s.kind }) lits ∙ ap (λ (k : Option Kind). record { lits = n; kind = k }) kind

-- as many answers as the solve may end with
ends_with : (problem : Problem) (stage : Stage) (ending : Ending) → EndsFor problem stage ending → EndsWith problem.asked (length (answers_in stage.lines)) ending
ends_with problem stage Complete ends = ends.0
ends_with problem stage StillOpen ends = ends
ends_with problem stage Cut ends = ends.0

module _ (k : Knowledge) (j : Join) (serves : Serves k j) (ask : AtomAsk) (question : Ask) (q : IsQuestion k.numbering.things k.atoms ask question) where
  abbrev things : List Thing
  things = k.numbering.things

  -- what the search solves, and what the solve is about
  map_back : (answers : List (List ℕ)) → All (λ answer. numbers_in things k.atoms (atoms_of k.atoms answer) ≡ answer) answers → map (numbers_in things k.atoms) (map (atoms_of k.atoms) answers) ≡ answers
  map_back [] back = refl
  map_back (answer ∷ answers) back =
      ap (λ (first : List ℕ). first ∷ map (numbers_in things k.atoms) (map (atoms_of k.atoms) answers)) (back 0 answer (omega arith))
      ∙ ap (λ (rest : List (List ℕ)). answer ∷ rest) (map_back answers (All-tail (λ a. numbers_in things k.atoms (atoms_of k.atoms a) ≡ a) answer answers back))

  abbrev pub posed : Problem
  posed = search.problem_of (IsGiven k.loops) k.store question k.atoms

  abbrev pub asked : Problem
  asked = problem_of j things k.atoms (last_of most_kept (kept_of k)) ask question.assume

  says_of : (s : AtomLit) (l : Lit) → IsLitOf k.atoms s l → IsFor things (said s) l
  says_of s l is = (serves.atoms.each s.atom l.var is.var, is.truth)

  pub says_match : Match (λ (s : AtomLit) (l : Lit). IsFor things (said s) l) ask.assume question.assume
  says_match = record {
    each = All-weaker (λ (l : Lit). Any (λ (s : AtomLit). IsLitOf k.atoms s l) ask.assume) (λ (l : Lit). Any (λ (s : AtomLit). IsFor things (said s) l) ask.assume)
        (λ l. any_weaker (λ (s : AtomLit). IsLitOf k.atoms s l) (λ (s : AtomLit). IsFor things (said s) l) (λ s. says_of s l) ask.assume) question.assume q.says.each;
    all = All-weaker (λ (s : AtomLit). Any (IsLitOf k.atoms s) question.assume) (λ (s : AtomLit). Any (IsFor things (said s)) question.assume)
        (λ s. any_weaker (IsLitOf k.atoms s) (IsFor things (said s)) (says_of s) question.assume) ask.assume q.says.all;
  }

  pub asks : Asks j things k.atoms ask question.assume
  asks = record { join = serves.join; are = serves.of.are; numbered = serves.atoms; demands = record { ordered = q.ordered; each = says_match.each; all = says_match.all } }

  base_to : (n : Nogood) → IsBase k.store n → IsCompletionNogood j things n
  base_to n b = (serves.of.completion n).0 (b.key, awake_slot (slot_at k.store b.key) b.stored b.found ∙ ap Some (stored_same b.stored n b.same b.base))

  base_from : (n : Nogood) → IsCompletionNogood j things n → IsBase k.store n
  base_from n is =
      let at = (serves.of.completion n).1 is in
      record { key = at.0; stored = base_of n; found = ap awake_in at.1; base = refl; same = refl }

  admits_to : (truth : ℕ → Bool) → ((n : Nogood) → IsBase k.store n → ¬ HasNogood truth n) → ((n : Nogood) → IsGiven k.loops n → ¬ HasNogood truth n) → IsAdmitted asked truth
  admits_to truth completed accepted = record {
    completed = λ n is. completed n (base_from n is);
    accepted = λ n is has. elim (serves.loops.all n is) [ inl given ↦ accepted n given has | inr completion ↦ completed n (base_from n completion) has ];
  }

  admits_from : (truth : ℕ → Bool) → IsAdmitted asked truth → IsAdmitted posed truth
  admits_from truth a = record {
    completed = λ n is. a.completed n (base_to n is);
    accepted = λ n is. a.accepted n (serves.loops.each n is);
  }

  pub unique : AssignmentsArePossible → AreUnique posed
  unique law truth other one two same var within =
      decided_by j things k.atoms ask question.assume (last_of most_kept (kept_of k)) asks law truth other
      (admits_to truth one.completed one.accepted) (admits_to other two.completed two.accepted) same var (subst (λ (n : ℕ). var < n) q.vars within)

  answer_listed : AssignmentsArePossible → (answer : List ℕ) → posed.Member answer → IsListed j things k.atoms ask answer
  answer_listed law answer is =
      subst (IsListed j things k.atoms ask) is.answers
      (listed_by j things k.atoms ask question.assume (last_of most_kept (kept_of k)) asks law is.truth (admits_to is.truth is.admitted.completed is.admitted.accepted)
      (record { possible = sym q.impossible ∙ is.meets.possible; demanded = is.meets.demanded }))

  pub says_as_much : AssignmentsArePossible → SaysAsMuch posed asked
  says_as_much law = record {
    base = base_to;
    base_back = base_from;
    gives = serves.loops.each;
    member = answer_listed law;
    admits = λ truth a. admits_to truth a.completed a.accepted;
    things = q.vars;
    atoms = refl;
    kept = refl;
    impossible = q.impossible;
    start = refl;
    asked = q.count;
    limit = q.limit;
  }

  -- ---- what the search asks for

  completion_within : (n : Nogood) → IsCompletionNogood j things n → All (λ (l : Lit). l.var < length things) n
  completion_within n is =
      All-weaker (λ (l : Lit). Any (λ (s : Signed). IsFor things s l) (signs_of j.rules is.says)) (λ (l : Lit). l.var < length things)
      (λ l some. slice_get_within things l.var some.1.thing some.4.0) n is.is.of_set

  kept_within : (key : ℕ) (stored : Stored) → slot_at k.store key ≡ Some stored → stored.kind ≡ Some Kept → All (λ (l : Lit). l.var < length things) stored.lits
  kept_within key stored at kind =
      let holds : holds_kept (slot_at k.store key) ≡ true = ap holds_kept (at ∙ ap (λ (x : Option Kind). Some (record { lits = stored.lits; kind = x })) kind) in
      let lits : literals_at k.store key ≡ Some stored.lits = ap (option_map (λ (s : Stored). s.lits)) at in
      (All-contains (IsLasting j things) (kept_of k) stored.lits serves.kept
      (filter_map-Contains (literals_at k.store) key stored.lits k.store.kept (serves.order.every_one key holds) lits)).within

  pub store_within : IsWithin k.store question.vars
  store_within key stored found =
      let at : slot_at k.store key ≡ Some stored = awake_slot (slot_at k.store key) stored found in
      subst (λ (n : ℕ). All (λ (l : Lit). l.var < n) stored.lits) (sym q.vars) (elim (serves.lasting key stored found) [
        | inl base ↦ completion_within stored.lits ((serves.of.completion stored.lits).0 (key, at ∙ ap Some (stored_same stored stored.lits refl base)))
        | inr kept ↦ kept_within key stored at kept
      ])

  pub start_within : All (λ (l : Lit). l.var < question.vars) question.assume
  start_within = subst (λ (n : ℕ). All (λ (l : Lit). l.var < n) question.assume) (sym q.vars)
      (All-weaker (λ (l : Lit). Any (λ (s : AtomLit). IsFor things (said s) l) ask.assume) (λ (l : Lit). l.var < length things)
      (λ l some. slice_get_within things l.var (atom some.1.atom) some.4.0) question.assume says_match.each)

  pub atoms_within : All (λ n. n < question.vars) k.atoms
  atoms_within = subst (λ (v : ℕ). All (λ n. n < v) k.atoms) (sym q.vars)
      (all_from (λ n. n < length things) k.atoms (λ n has. let at = at_some k.atoms n has in slice_get_within things n (atom at.0) (serves.atoms.each at.0 n at.1)))

  -- ---- what the run comes to

  -- a set that is asked for, from the numbers of its atoms
  set_back : (set : List ℕ) → IsAskedFor j ask set → atoms_of k.atoms (numbers_in things k.atoms set) ≡ set
  set_back set is =
      atoms_of_filter (ext (set_of set) things) k.atoms
      ∙ atoms_back (ext (set_of set) things) k.atoms set (subst (λ (n : ℕ). IsAtomSet n set) (sym serves.atoms.counted) is.over_base)
      (λ a n at. ap (known_truth (set_of set)) (serves.atoms.each a n at))

  -- an answer is the numbers of a set that is asked for
  pub record IsBack (answer : List ℕ) : Type 0 where
    pub asked_for : IsAskedFor j ask (atoms_of k.atoms answer)
    pub back : numbers_in things k.atoms (atoms_of k.atoms answer) ≡ answer

  back_from : (answer : List ℕ) → IsListed j things k.atoms ask answer → IsBack answer
  back_from answer l =
      let set : atoms_of k.atoms answer ≡ l.set = ap (atoms_of k.atoms) (sym l.same) ∙ set_back l.set l.asked in
      record { asked_for = subst (IsAskedFor j ask) (sym set) l.asked; back = ap (numbers_in things k.atoms) set ∙ l.same }

  abbrev sets_of : Run → List (List ℕ)
  sets_of run = map (atoms_of k.atoms) run.answers

  abbrev pub told : Run → Run
  told run = record { ending = run.ending; answers = sets_of run; notes = run.notes }

  module _ (law : AssignmentsArePossible) (run : Run) (lists : search_lists.Lists posed run) where
    backs : All IsBack run.answers
    backs = All-weaker posed.Member IsBack (λ answer is. back_from answer (answer_listed law answer is)) run.answers lists.members

    pub picked : All (IsPickedFrom k.atoms) run.answers
    picked = All-weaker posed.Member (IsPickedFrom k.atoms)
        (λ answer is. subst (IsPickedFrom k.atoms) is.answers (filter_picked is.truth k.atoms)) run.answers lists.members

    module _ (converse : CompletionAndLoops) (is : IsRun posed run) where
      kept_lasting : All (IsLasting j things) (last_of most_kept (kept_of k))
      kept_lasting = All-drop (IsLasting j things) (length (kept_of k) - most_kept) (kept_of k) serves.kept

      all_listed : run.ending ≡ Complete → ask.impossible ≡ false → (set : List ℕ) → IsAskedFor j ask set → Contains (sets_of run) set
      all_listed complete possible set asked_for =
          let found = found_by j things k.atoms ask question.assume (last_of most_kept (kept_of k)) asks set asked_for converse possible kept_lasting in
          let truth : ℕ → Bool = ext (set_of set) things in
          let has : Contains run.answers (numbers_in things k.atoms set) = lists.all complete truth (admits_from truth found.admitted) found.none_kept
          (record { possible = q.impossible ∙ possible; demanded = found.meets.demanded }) in
          subst (Contains (sets_of run)) (set_back set asked_for) (Contains-map (atoms_of k.atoms) (numbers_in things k.atoms set) run.answers has)

      once_told : AllPairs (λ set later. set ≢ later) (sets_of run)
      once_told i j' d less within same =
          let long : j' < length run.answers = subst (λ (n : ℕ). j' < n) (length-map run.answers (atoms_of k.atoms)) within in
          let short : i < length run.answers = omega (arith, less, long) in
          let one : get_or (sets_of run) i d ≡ atoms_of k.atoms (get_or run.answers i d) = get_or-map (atoms_of k.atoms) run.answers i d d short in
          let two : get_or (sets_of run) j' d ≡ atoms_of k.atoms (get_or run.answers j' d) = get_or-map (atoms_of k.atoms) run.answers j' d d long in
          lists.once i j' d less long
          (sym (backs i d short).back ∙ (ap (numbers_in things k.atoms) (sym one ∙ (same ∙ two)) ∙ (backs j' d long).back))

      ends_told : EndsWith ask.count (length (sets_of run)) run.ending
      ends_told =
          let listed : answers_in (stage_after first_stage is.lines).lines ≡ run.answers = ap answers_in (lines_after first_stage is.lines) ∙ sym is.answers in
          subst (λ (n : ℕ). EndsWith ask.count n run.ending) (ap length listed ∙ sym (length-map run.answers (atoms_of k.atoms)))
          (subst (λ (n : ℕ). EndsWith n (length (answers_in (stage_after first_stage is.lines).lines)) run.ending) q.count
          (ends_with posed (stage_after first_stage is.lines) run.ending is.ends.reason))

      pub lists_told : Lists j ask (told run)
      lists_told = record {
        members = All-map (IsAskedFor j ask) (atoms_of k.atoms) run.answers (All-weaker IsBack (λ answer. IsAskedFor j ask (atoms_of k.atoms answer)) (λ answer b. b.asked_for) run.answers backs);
        once = once_told;
        all = all_listed;
        none = λ impossible. let idle = lists.idle (q.impossible ∙ impossible) in (ap (map (atoms_of k.atoms)) idle.answers, idle.complete);
        ends = ends_told;
      }

      pub log_told : IsLog j things k.atoms (last_of most_kept (kept_of k)) ask (told run)
      log_told = record {
        start = question.assume;
        demands = asks.demands;
        lines = is.lines;
        notes = is.notes ∙ ap (λ (b : Bool). Start b question.assume ∷ is.lines) q.impossible;
        lawful = lines_carry posed asked (says_as_much law) first_stage is.lines is.lawful;
        ends = ends_carry posed asked (says_as_much law) (stage_after first_stage is.lines) run.ending is.ends;
        answers = sym is.answers ∙ sym (map_back run.answers (All-weaker IsBack (λ answer. numbers_in things k.atoms (atoms_of k.atoms answer) ≡ answer) (λ answer b. b.back) run.answers backs));
      }

      -- ---- what is kept afterwards

      module _ (over : PossibleIsOverBase) (store : Store) (leaves : Leaves posed run.notes k.store store) where
        in_notes : (n : Nogood) → Contains (kept_in run.notes) n → Contains is.lines (KeptLine n)
        in_notes n has = kept_from is.lines n (subst (λ (notes : List Note). Contains (kept_in notes) n) is.notes has)

        line_lasts : (n : Nogood) → Contains (kept_in run.notes) n → IsLasting j things n
        line_lasts n has =
            let line = in_notes n has in
            record {
              within = subst (λ (v : ℕ). All (λ (l : Lit). l.var < v) n) q.vars
                  (All-contains (IsInOrder question.vars) (nogoods_in is.lines) n (lines_apart posed is.lines is.lawful).ordered (filter_map-Contains nogood_of (KeptLine n) n is.lines line refl)).within;
              consequence = λ set possible contained.
                  store_sound asked (ext set things) is.lines
                  (admitted_by j things k.atoms ask question.assume (last_of most_kept (kept_of k)) asks converse over set possible)
                  (none_kept_by j things k.atoms ask question.assume (last_of most_kept (kept_of k)) asks set possible kept_lasting)
                  (lines_carry posed asked (says_as_much law) first_stage is.lines is.lawful) n (kept_now line) (has_from (ext set things) n contained);
            }

        kept_lasts : All (IsLasting j things) (kept_nogoods store)
        kept_lasts = subst (All (IsLasting j things)) (sym leaves.kept)
            (All-append (IsLasting j things) (last_of most_kept (kept_of k)) (kept_in run.notes) kept_lasting (all_from (IsLasting j things) (kept_in run.notes) line_lasts))

        still_exactly : HasExactly store (IsCompletionNogood j things)
        still_exactly n = (
          λ at. (serves.of.completion n).0 (at.0, leaves.no_more at.0 (base_of n) (inr refl) at.1),
          λ is'. let at = (serves.of.completion n).1 is' in (at.0, leaves.base at.0 (base_of n) (inr refl) at.1),
        )

        still_asleep : (a : ℕ) → HasSleeper things k.store k.sleepers a → HasSleeper things store k.sleepers a
        still_asleep a h = record { key = h.key; at = h.at; number = h.number; thing = h.thing; asleep = leaves.base h.key (record { lits = holds h.number ∷ []; kind = None }) (inl refl) h.asleep }

        module _ (loops : Known) (vars : loops.vars ≡ k.loops.vars) (gives : Agree (IsGiven loops) (IsGiven k.loops)) (lasting : AreLasting store) (order : AreKept store.slots store.kept) where
          pub solves_told : Solves j k ask (told run) (record k { store = store; loops = loops })
          solves_told = record {
            lists = lists_told;
            log = log_told;
            kept = leaves.kept;
            numbering = refl;
            serves = record {
              join = serves.join;
              of = record { are = serves.of.are; completion = still_exactly };
              loops = same_keeps_loops j things k.loops loops vars gives serves.loops;
              lasting = lasting;
              order = order;
              kept = kept_lasts;
              sleepers = λ a input. still_asleep a (serves.sleepers a input);
              named = serves.named;
              places = serves.places;
              atoms = serves.atoms;
            };
          }
