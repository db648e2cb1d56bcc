-- How a search ends: what it tells, and what it leaves in the store.
use Rattle.std.proofs.Common.{ℕ, ◌≡◌, ◌⊎◌, inl, inr, List, ◌∷◌, ◌++◌, Option, Some, None, Bool, true, false, length, get_or, option_map, refl, sym, ◌∙◌, ap, subst, arith}
use Rattle.std.specs.Prelude.{◌≢◌, All, AllPairs, Contains, IsTrue, is_some}
use Rattle.std.specs.List.{filter_map}
use Rattle.ms_lits.specs.declared.note.Note.{Note}
use Rattle.ms_lits.specs.declared.note.Note.TheVariants.{Start}
use Rattle.ms_lits.specs.declared.note.Ending.{Ending}
use Rattle.ms_lits.specs.declared.note.Ending.TheVariants.{Complete}
use Rattle.ms_nogood.specs.Store.{AreKept, EndsSolve, Store, Stored, awake_in, ends_by_kind, holds_kept, lasting, slot_at}
use Rattle.ms_nogood.specs.declared.kind.Kind.{Kind}
use Rattle.ms_nogood.specs.declared.kind.Kind.TheVariants.{Base, Kept, Temporary, Reason}
use Rattle.ms_nogood.specs.Propagation.{IsWithin}
use Rattle.ms_lawful.specs.Problems.{Problem, true_atoms}
use Rattle.ms_lawful.specs.Lines.{EndsRun, answers_in, first_stage, stage_after}
use Rattle.ms_lawful.specs.Parts.{kept_in}
use Rattle.ms_lawful.proofs.Listed.{lines_listed, listed_from}
use Rattle.ms_lawful.proofs.Soundness.{complete_lists}
use Rattle.ms_lawful.proofs.Stages.{lines_after}
use Rattle.ms_search.specs.declared.ask.Run.{Run}
use Rattle.ms_search.specs.Points.{GoesOn, IsOver, IsPoint, IsWired, Point}
use Rattle.ms_search.specs.Posed.{IsIdle, Lists}
use Rattle.ms_search.specs.Problems.{AreLasting, kept_nogoods, literals_at}
use Rattle.ms_search.specs.Runs.{AreAttached, Begins, IsRun, Leaves}
use Rattle.ms_search.proofs.Begins.{awake_slot, slot_back, slot_stays}
use Rattle.ms_search.proofs.Lists.{filter_map-alike}

-- the search is over where something is demanded that no answer has
pub over_impossible : (problem : Problem) (p : Point) → IsPoint problem p → IsTrue problem.impossible → IsOver problem p Complete
over_impossible problem p point impossible =
    let l = point.logged in
    record {
      lawful = l.lawful;
      ends = record {
        nothing_owed = l.owed;
        within = let most = l.within in let same = l.counted in omega (arith, most, same);
        reason = ((let all = ap length (ap answers_in (lines_after first_stage p.lines) ∙ l.listed) in let few = l.few in omega (arith, all, few)), inl impossible);
      };
      answers = l.listed;
      covered = point.covered;
    }

-- what is told of a search that is over
pub run_told : (problem : Problem) (p : Point) (ending : Ending) (run : Run) → IsOver problem p ending → run.ending ≡ ending → run.answers ≡ p.answers → run.notes ≡ Start problem.impossible problem.start ∷ p.lines → IsRun problem run
run_told problem p ending run over ends answers notes = record {
  lines = p.lines;
  notes = notes;
  lawful = over.lawful;
  ends = subst (EndsRun problem (stage_after first_stage p.lines)) (sym ends) over.ends;
  answers = answers ∙ sym over.answers;
}

-- a lawful run lists what it should
pub run_lists : (problem : Problem) (run : Run) → IsRun problem run → (problem.impossible ≡ true → IsIdle problem run) → Lists problem run
run_lists problem run is idle =
    let listed = lines_listed problem is.lines is.lawful in
    record {
      members = subst (All problem.Member) (sym is.answers) listed.members;
      once = subst (λ (xs : List (List ℕ)). AllPairs (λ answer later. answer ≢ later) xs) (sym is.answers) listed.differ;
      all = λ complete truth admitted kept meets.
          subst (λ (xs : List (List ℕ)). Contains xs (true_atoms problem truth)) (sym is.answers)
          (listed_from is.lines (true_atoms problem truth)
          (complete_lists problem truth is.lines admitted kept meets is.lawful (subst (EndsRun problem (stage_after first_stage is.lines)) complete is.ends)));
      idle = idle;
    }

-- what a solve doesn't drop is left as it is
lasting_same : (o : Option Stored) → holds_kept o ≡ true → lasting o ≡ o
lasting_same None kept = cc
lasting_same (Some s) kept = by_kind s.kind refl
  where
    by_kind : (kind : Option Kind) → s.kind ≡ kind → lasting (Some s) ≡ Some s
    by_kind None same = cc
    by_kind (Some Base) same = cc
    by_kind (Some Kept) same = cc
    by_kind (Some Temporary) same = cc
    by_kind (Some Reason) same = cc

lasting_stays : (o : Option Stored) (s : Stored) → o ≡ Some s → ends_by_kind s.kind ≡ false → lasting o ≡ Some s
lasting_stays None s is passes = cc
lasting_stays (Some t) s is passes = cc

lasting_back : (o : Option Stored) (s : Stored) → lasting o ≡ Some s → (o ≡ Some s) × (ends_by_kind s.kind ≡ false)
lasting_back None s is = cc
lasting_back (Some t) s is = by_test (ends_by_kind t.kind) refl
  where
    by_test : (b : Bool) → ends_by_kind t.kind ≡ b → (Some t ≡ Some s) × (ends_by_kind s.kind ≡ false)
    by_test true same = cc
    by_test false same = (cc, cc)

-- a nogood of the program, or one asleep, isn't dropped
lasts_kind : (s : Stored) → (s.kind ≡ None) ⊎ (s.kind ≡ Some Base) → (holds_kept (Some s) ≡ false) × (ends_by_kind s.kind ≡ false)
lasts_kind s (inl none) = (cc, cc)
lasts_kind s (inr base) = (cc, cc)

module _ (problem : Problem) (old begun over new : Store) (notes : List Note) (order : AreKept old.slots old.kept) (b : Begins old begun) (g : GoesOn begun over) (over_order : AreKept over.slots over.kept) (e : EndsSolve over new) where
  kept_left : kept_nogoods new ≡ kept_nogoods over
  kept_left =
      ap (filter_map (literals_at new)) e.kept
      ∙ filter_map-alike (literals_at new) (literals_at over) over.kept
      (λ k d lt. ap (option_map (λ (s : Stored). s.lits)) (e.lasts (get_or over.kept k d) ∙ lasting_same (slot_at over (get_or over.kept k d)) (over_order.all_kept k d lt)))

  pub leaves : kept_nogoods over ≡ problem.kept ++ kept_in notes → Leaves problem notes old new
  leaves kept = record {
    kept = kept_left ∙ kept;
    base = λ key s kind here.
        let lasts = lasts_kind s kind in
        e.lasts key ∙ lasting_stays (slot_at over key) s (g.stays key s (slot_stays old begun order b key s here lasts.0)) lasts.1;
    no_more = λ key s kind here.
        let before = (lasting_back (slot_at over key) s (sym (e.lasts key) ∙ here)).0 in
        elim (g.added key s before) [
          | inl there ↦ slot_back old begun order b key s there
          | inr other ↦ elim kind [ inl none ↦ absurd (other.0 none) | inr base ↦ absurd (other.1 base) ]
        ];
  }

awake_kind : (kind : Option Kind) → is_some kind ≡ true → ends_by_kind kind ≡ false → (kind ≡ Some Base) ⊎ (kind ≡ Some Kept)
awake_kind None some passes = cc
awake_kind (Some Base) some passes = inl refl
awake_kind (Some Kept) some passes = inr refl
awake_kind (Some Temporary) some passes = cc
awake_kind (Some Reason) some passes = cc

awake_some : (o : Option Stored) (s : Stored) → awake_in o ≡ Some s → is_some s.kind ≡ true
awake_some None s is = cc
awake_some (Some t) s is = by_kind t.kind refl
  where
    by_kind : (kind : Option Kind) → t.kind ≡ kind → is_some s.kind ≡ true
    by_kind None same = cc
    by_kind (Some kind) same = cc

-- what is left lasts
pub lasting_left : (over new : Store) → EndsSolve over new → AreLasting new
lasting_left over new e key s found =
    let slot = awake_slot (slot_at new key) s found in
    let from = lasting_back (slot_at over key) s (sym (e.lasts key) ∙ slot) in
    awake_kind s.kind (awake_some (slot_at new key) s found) from.1

pub attached_left : (attached : ℕ → Bool) (store : Store) → IsWired attached store → AreAttached attached store
attached_left attached store wired = record {
  known = λ key is. sym (wired key) ∙ is;
  fresh = λ key is. inl (wired key ∙ is);
}

-- and is of the same variables
pub within_left : (over new : Store) (vars : ℕ) → EndsSolve over new → IsWithin over vars → IsWithin new vars
within_left over new vars e within key s found =
    let slot = awake_slot (slot_at new key) s found in
    let from = lasting_back (slot_at over key) s (sym (e.lasts key) ∙ slot) in
    within key s (ap awake_in (from.0 ∙ sym slot) ∙ found)
