-- The steps of a search: each keeps what a point of it is, and leaves less to do.
use Rattle.std.proofs.Common.{ℕ, ◌≡◌, ◌<◌, ◌+◌, ◌*◌, ◌-◌, ◌^◌, ◌⊎◌, inl, inr, List, [], ◌∷◌, ◌++◌, Option, Some, None, Bool, true, false, length, get_or, option_map, take, refl, sym, ◌∙◌, ap, subst, arith}
use Rattle.std.specs.Prelude.{◌≢◌, All, Contains, IsTrue, not}
use Rattle.std.specs.List.Sorted.{IsPermutation}
use Rattle.std.proofs.lemmas.List.{length-append}
use Rattle.std.proofs.lemmas.List.Elements.{All-contains, Contains-get_or}
use Rattle.std.proofs.lemmas.List.Sorted.{All-permutation, Contains-permutation}
use Rattle.ms_lits.specs.declared.lit.Lit.{Lit}
use Rattle.ms_lits.specs.declared.trail.Entry.{Entry}
use Rattle.ms_lits.specs.declared.note.Note.{Note}
use Rattle.ms_lits.specs.declared.note.Note.TheVariants as notes
use Rattle.ms_lits.specs.declared.note.Ending.TheVariants.{Complete, Cut}
use Rattle.ms_lits.specs.Literals.{IsNew, IsRefuted, IsWhole, Nogood, opposite_of}
use Rattle.ms_lits.specs.Assignment.{Assignment, HoldsIn, IsWholeIn, entry_made, up_to, value_in}
use Rattle.ms_nogood.specs.Store.{Store, Stored, nogood_at}
use Rattle.ms_nogood.specs.declared.kind.Kind.{Kind}
use Rattle.ms_nogood.specs.declared.kind.Kind.TheVariants.{Base, Kept, Temporary, Reason}
use Rattle.ms_nogood.specs.Propagation.{IsSettled, IsStored, IsWholeAt, lits_of}
use Rattle.ms_nogood.specs.Theories.{AreRising, HasOpen}
use Rattle.ms_nogood.proofs.Propagation.{held_in_set, stored_among}
use Rattle.ms_refutation.specs.Sets.{AreDecided, AreReasoned}
use Rattle.ms_refutation.proofs.Found.{entries_derived, found_contains_none}
use Rattle.ms_analyze.specs.Analysis.{IsAsserting, IsGreatestBelow, IsNotTemporary, IsTemporaryAt, is_temporary, is_temporary_kind}
use Rattle.ms_analyze.proofs.Resolved.{refuted_more}
use Rattle.ms_analyze.proofs.Trails.{front_entry, holds_entry}
use Rattle.ms_lawful.specs.Problems.{Problem}
use Rattle.ms_lawful.specs.Lines.{InFullStore, MayFollow, answers_in, first_stage, nogoods_in, stage_after}
use Rattle.ms_lawful.proofs.Counts.{lines_few}
use Rattle.ms_lawful.proofs.Stages.{lines_after}
use Rattle.ms_search.specs.Engines.{HasFalse}
use Rattle.ms_search.specs.Notes.{note_of}
use Rattle.ms_search.specs.Points.{AreCovered, AreLogged, IsKnown, IsOnTrail, IsOver, IsPoint, IsStep, Point, TakesIn, with_decision, work}
use Rattle.ms_search.proofs.Lines.{covered_gained, fresh_new, holds_within, less_work, new_standing, nogoods_more, none_standing, note_nogood, refuted_full, refuted_lasting, temporary_after, unit_new}
use Rattle.ms_search.proofs.OnTrail.{trail_decided, trail_taken}

abbrev pub point_made : Assignment → List Lit → Store → List Note → ℕ → List (List ℕ) → Point
point_made trail decisions store lines spent answers = record { trail = trail; decisions = decisions; store = store; lines = lines; spent = spent; answers = answers }

-- a nogood is taken in, whose line is lawful
pub line_step : (problem : Problem) (a b : Assignment) (ds left : List Lit) (old new : Store) (lines : List Note) (spent more : ℕ) (answers : List (List ℕ)) (lits : Nogood) (kind : Kind) → IsOnTrail problem a ds old → AreCovered problem old lines → TakesIn a b ds left old new lits kind → (kind ≡ Base → ⊥) → All (λ (l : Lit). l.var < problem.things) lits → AreLogged problem (lines ++ note_of kind lits ∷ []) more answers → IsStep problem (point_made a ds old lines spent answers) (point_made b left new (lines ++ note_of kind lits ∷ []) more answers)
line_step problem a b ds left old new lines spent more answers lits kind t c x other small l =
    let same : b.room ≡ a.room = ap (λ (y : Assignment). y.room) x.trail in
    record {
      point = record {
        trail = trail_taken problem a b ds left old new lits kind t x;
        covered = covered_gained problem old new lines lits kind c x.gains other small;
        logged = l;
      };
      less = subst (λ (r : ℕ). (3 ^ problem.things - length (nogoods_in (lines ++ note_of kind lits ∷ []))) * (r + 1) + (r - length b.entries) < work problem.things a lines) (sym same)
          (less_work (3 ^ problem.things) (length (nogoods_in lines)) (length (nogoods_in (lines ++ note_of kind lits ∷ []))) a.room (a.room - length b.entries) (a.room - length a.entries)
          (nogoods_more lines (note_of kind lits) lits (note_nogood kind lits)) (lines_few problem (lines ++ note_of kind lits ∷ []) l.lawful) (omega arith));
    }

-- a literal is decided
pub decided_step : (problem : Problem) (a : Assignment) (ds : List Lit) (store : Store) (lines : List Note) (spent : ℕ) (answers : List (List ℕ)) (lit : Lit) → IsPoint problem (point_made a ds store lines spent answers) → IsSettled store a.entries → lit.var < problem.things → value_in a.entries lit.var ≡ None → Contains problem.start lit ⊎ All (HoldsIn a.entries) problem.start → length a.entries < a.room → IsStep problem (point_made a ds store lines spent answers) (point_made (with_decision a lit) (ds ++ lit ∷ []) store lines spent answers)
decided_step problem a ds store lines spent answers lit p settled within free demanded fewer = record {
  point = record {
    trail = trail_decided problem a ds store lit p.trail within free settled demanded fewer;
    covered = p.covered;
    logged = p.logged;
  };
  less = let len = length-append a.entries (entry_made lit (a.level + 1) None ∷ []) in omega (arith, len, fewer);
}

-- a theory's nogood may be the next line
pub given_follows : (problem : Problem) (a : Assignment) (store : Store) (lines : List Note) (lits : Nogood) → AreCovered problem store lines → IsSettled store a.entries → IsWholeIn a.entries lits ⊎ HasOpen a.entries lits → All (λ (l : Lit). l.var < problem.things) lits → AreRising lits → problem.Gives lits → MayFollow problem lines None (notes.Theory lits)
given_follows problem a store lines lits c settled found within rising given = record {
  fresh = record {
    ordered = record { within = within; rising = rising };
    contains_none = none_standing problem store lines lits c (λ small among contained. found_contains_none store a.entries lits small settled found among contained);
  };
  given = given;
}

moved_refuted : (Among : Nogood → Type 0) (nogood sorted : Nogood) → IsPermutation nogood sorted → IsRefuted Among nogood → IsRefuted Among sorted
moved_refuted Among nogood sorted moved refuted =
    refuted_more Among nogood sorted refuted (λ k d lt. Contains-permutation nogood sorted (get_or nogood k d) moved (Contains-get_or nogood k d lt))

module _ (problem : Problem) (a : Assignment) (ds : List Lit) (store : Store) (lines : List Note) (nogood sorted : Nogood) (back : ℕ) (t : IsOnTrail problem a ds store) (c : AreCovered problem store lines) (whole : IsWholeIn a.entries nogood) (asserting : IsAsserting a nogood back) (greatest : IsGreatestBelow a nogood back) (moved : IsPermutation nogood sorted) (rising : AreRising sorted) where
  pub learned_within : All (λ (l : Lit). l.var < problem.things) sorted
  learned_within = All-permutation (λ (l : Lit). l.var < problem.things) nogood sorted moved
      (λ k d lt. holds_within problem a ds store (get_or nogood k d) t (whole k d lt))

  learned_new : IsNew (IsStored store) sorted
  learned_new = unit_new store (up_to back a.entries) nogood sorted asserting.lit (t.closed back greatest.below) asserting.unit moved

  -- what was learned may be the next line, to be kept
  pub kept_follows : IsRefuted (IsNotTemporary store) nogood → MayFollow problem lines None (notes.Kept sorted)
  kept_follows refuted =
      let fresh = new_standing problem store lines sorted c learned_new in
      record {
        fresh = fresh_new problem lines sorted learned_within rising fresh;
        refuted = refuted_lasting problem store lines sorted c (moved_refuted (IsNotTemporary store) nogood sorted moved refuted);
        is_new = fresh;
      }

  -- or for this solve alone
  pub temporary_follows : IsRefuted (IsStored store) nogood → answers_in lines ≢ [] → MayFollow problem lines None (notes.Temporary sorted)
  temporary_follows refuted answered =
      let fresh = new_standing problem store lines sorted c learned_new in
      record {
        fresh = fresh_new problem lines sorted learned_within rising fresh;
        refuted = refuted_full problem store lines sorted c (moved_refuted (IsStored store) nogood sorted moved refuted);
        is_new = fresh;
        answered = answered;
      }

temporary_kind : (problem : Problem) (lines : List Note) (kind : Option Kind) (nogood : Nogood) → is_temporary_kind kind ≡ true → IsKnown problem lines kind nogood → Contains lines (notes.Temporary nogood)
temporary_kind problem lines None nogood is known = absurd known
temporary_kind problem lines (Some Base) nogood is known = cc
temporary_kind problem lines (Some Kept) nogood is known = cc
temporary_kind problem lines (Some Temporary) nogood is known = known
temporary_kind problem lines (Some Reason) nogood is known = cc

temporary_stored : (problem : Problem) (store : Store) (lines : List Note) (key : ℕ) (found : Option Stored) → AreCovered problem store lines → nogood_at store key ≡ found → is_temporary found ≡ true → (nogood : Nogood) × Contains lines (notes.Temporary nogood)
temporary_stored problem store lines key None c at is = cc
temporary_stored problem store lines key (Some s) c at is = (s.lits, temporary_kind problem lines s.kind s.lits is (c.known key s at))

-- a key of a temporary nogood tells that an answer was found
pub temporary_answered_at : (problem : Problem) (store : Store) (lines : List Note) (spent : ℕ) (answers : List (List ℕ)) (key : ℕ) → AreCovered problem store lines → AreLogged problem lines spent answers → IsTemporaryAt store key → answers_in lines ≢ []
temporary_answered_at problem store lines spent answers key c l is =
    let one = temporary_stored problem store lines key (nogood_at store key) c refl is in
    temporary_after problem lines one.0 l.lawful one.1

-- what refutes what is demanded: whole entries that rest on it
pub decisions_refuted : (store : Store) (entries : List Entry) (start : List Lit) (key : ℕ) → AreReasoned store entries → AreDecided start entries → IsWholeAt store entries key → IsRefuted (IsStored store) start
decisions_refuted store entries start key reasoned decided whole = λ set has closed.
    let all : IsWhole set (lits_of entries) = λ k d lt. entries_derived store entries start reasoned decided k d lt set has closed in
    inl (record {
      nogood = whole.stored.lits;
      among = stored_among store key whole.stored whole.found;
      whole = λ k d lt. held_in_set set entries (get_or whole.stored.lits k d) (whole.whole k d lt) all;
    })

-- level 0 has no decision
pub none_decided : (problem : Problem) (a : Assignment) (ds : List Lit) (store : Store) (start : List Lit) → IsOnTrail problem a ds store → a.level ≡ 0 → AreDecided start a.entries
none_decided problem a ds store start t zero_level i d lt none =
    let above = (t.decided i d lt none).above in
    let most = t.assignment.present i d lt in
    absurd (omega (arith, above, most, zero_level))

not_itself : (b : Bool) → Some b ≡ Some (not b) → ⊥
not_itself true same = cc
not_itself false same = cc

-- where a demanded literal is false, each decision is demanded
false_decided : (problem : Problem) (a : Assignment) (ds : List Lit) (store : Store) → IsOnTrail problem a ds store → HasFalse a.entries problem.start → AreDecided problem.start a.entries
false_decided problem a ds store t wrong i d lt none = elim (t.decided i d lt none).demanded [
  | inl among ↦ among
  | inr all ↦ (
      let holds = All-contains (HoldsIn (take i a.entries)) problem.start wrong.lit all wrong.among in
      let e = holds_entry (take i a.entries) wrong.lit holds in
      let here : HoldsIn a.entries wrong.lit = ap (option_map (λ (x : Entry). x.lit.truth)) (front_entry i a.entries wrong.lit.var e.entry e.found) ∙ ap Some e.truth in
      absurd (not_itself wrong.lit.truth (sym here ∙ wrong.opposite)))
]

-- and what is demanded is refuted
pub false_refuted : (problem : Problem) (a : Assignment) (ds : List Lit) (store : Store) → IsOnTrail problem a ds store → HasFalse a.entries problem.start → IsRefuted (IsStored store) problem.start
false_refuted problem a ds store t wrong = λ set has closed.
    let all : IsWhole set (lits_of a.entries) = λ k d lt. entries_derived store a.entries problem.start t.reasoned (false_decided problem a ds store t wrong) k d lt set has closed in
    inr (record {
      lit = wrong.lit;
      holds = All-contains (λ (l : Lit). IsTrue (set l)) problem.start wrong.lit has wrong.among;
      opposite = held_in_set set a.entries (opposite_of wrong.lit) wrong.opposite all;
    })

-- fewer answers than were asked for
few_answers : (problem : Problem) (lines : List Note) (answers : List (List ℕ)) (spent : ℕ) → AreLogged problem lines spent answers → length (answers_in (stage_after first_stage lines).lines) < problem.asked
few_answers problem lines answers spent l =
    let all = ap length (ap answers_in (lines_after first_stage lines) ∙ l.listed) in
    let few = l.few in
    omega (arith, all, few)

-- the search is over where what is demanded is refuted
pub over_complete : (problem : Problem) (p : Point) → AreCovered problem p.store p.lines → AreLogged problem p.lines p.spent p.answers → IsRefuted (IsStored p.store) problem.start → IsOver problem p Complete
over_complete problem p c l refuted = record {
  lawful = l.lawful;
  ends = record {
    nothing_owed = l.owed;
    within = let most = l.within in let same = l.counted in omega (arith, most, same);
    reason = (few_answers problem p.lines p.answers p.spent l, inr (subst (λ (ls : List Note). IsRefuted (InFullStore problem ls) problem.start) (sym (lines_after first_stage p.lines)) (refuted_full problem p.store p.lines problem.start c refuted)));
  };
  answers = l.listed;
  covered = c;
}

-- and where the limit is reached
pub over_cut : (problem : Problem) (p : Point) → AreCovered problem p.store p.lines → AreLogged problem p.lines p.spent p.answers → p.spent ≡ problem.limit → IsOver problem p Cut
over_cut problem p c l all = record {
  lawful = l.lawful;
  ends = record {
    nothing_owed = l.owed;
    within = let most = l.within in let same = l.counted in omega (arith, most, same);
    reason = (few_answers problem p.lines p.answers p.spent l, l.counted ∙ all);
  };
  answers = l.listed;
  covered = c;
}
