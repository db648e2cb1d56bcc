-- The stored trail, as contracts see it.
use Rattle.std.proofs.Common.{ℕ, ◌≡◌, ◌<◌, List, [], ◌∷◌, ◌++◌, Option, Some, None, length, get_or, set, option_map, refl, sym, ◌∙◌, ap, subst, arith}
use Rattle.std.specs.Prelude.{IsSome}
use Rattle.std.proofs.lemmas.List.{get_or_default}
use Rattle.ms_lits.specs.declared.trail.Entry.{Entry}
use Rattle.ms_lits.specs.declared.trail.Mark.{Mark}
use Rattle.ms_lits.specs.declared.trail.Mark.TheVariants.{Free}
use Rattle.ms_lits.specs.Assignment.{Assignment, IsAssignment, entry_of, place_in, value_in}
use Rattle.ms_lits.specs.Storage.{AreStored, IsTrail, assignment_in, truth_of, mark_for}
use Rattle.ms_lits.proofs.Stored.{assigned_found, entry_read, place_stored, value_marked, room_left, entries_few, stored_more}
use Rattle.ms_lits.proofs.Entries.{some_entry}
use Rattle.ms_lits.proofs.Leveled.{levels_rise}

pub value_seen : (a : Assignment) (room : ℕ) (entries : List Entry) (places : List ℕ) (marks : List Mark) (ends : List ℕ) (var : ℕ) (mark : Mark) → assignment_in entries ends room ≡ a → AreStored room entries places marks → var < a.room → mark ≡ get_or marks var mark → truth_of mark ≡ value_in a.entries var
value_seen a room entries places marks ends var mark view s below read =
    let same : room ≡ a.room = ap (λ (x : Assignment). x.room) view in
    let len = s.marks_len in
    ap truth_of (read ∙ get_or_default marks var mark Free (omega arith))
    ∙ value_marked room entries places marks var s (omega arith)
    ∙ ap (λ (x : Assignment). value_in x.entries var) view

pub place_seen : (a : Assignment) (room : ℕ) (entries : List Entry) (places : List ℕ) (marks : List Mark) (ends : List ℕ) (var place : ℕ) → assignment_in entries ends room ≡ a → AreStored room entries places marks → var < a.room → IsSome (entry_of a.entries var) → place ≡ get_or places var place → place < length entries
place_seen a room entries places marks ends var place view s below assigned read =
    let same : room ≡ a.room = ap (λ (x : Assignment). x.room) view in
    let len = s.places_len in
    let P : Assignment → Type 0 = λ x. IsSome (entry_of x.entries var) in
    let f = assigned_found room entries places marks var s (omega arith) (subst P (sym view) assigned) in
    omega (arith, f.within, read, get_or_default places var place 0 (omega arith))

pub entry_seen : (a : Assignment) (room : ℕ) (entries : List Entry) (places : List ℕ) (marks : List Mark) (ends : List ℕ) (var place : ℕ) (e : Entry) → assignment_in entries ends room ≡ a → AreStored room entries places marks → var < a.room → IsSome (entry_of a.entries var) → place ≡ get_or places var place → e ≡ get_or entries place e → entry_of a.entries var ≡ Some e
entry_seen a room entries places marks ends var place e view s below assigned read is =
    let same : room ≡ a.room = ap (λ (x : Assignment). x.room) view in
    let P : Assignment → Type 0 = λ x. IsSome (entry_of x.entries var) in
    ap (λ (x : Assignment). entry_of x.entries var) (sym view)
    ∙ entry_read room entries places marks var place e s (omega arith) (subst P (sym view) assigned) read
    (place_seen a room entries places marks ends var place view s below assigned read) is

pub place_is : (a : Assignment) (room : ℕ) (entries : List Entry) (places : List ℕ) (marks : List Mark) (ends : List ℕ) (var place : ℕ) → assignment_in entries ends room ≡ a → AreStored room entries places marks → var < a.room → IsSome (entry_of a.entries var) → place ≡ get_or places var place → place ≡ place_in a.entries var
place_is a room entries places marks ends var place view s below assigned read =
    let same : room ≡ a.room = ap (λ (x : Assignment). x.room) view in
    let len = s.places_len in
    let P : Assignment → Type 0 = λ x. IsSome (entry_of x.entries var) in
    let f = assigned_found room entries places marks var s (omega arith) (subst P (sym view) assigned) in
    read
    ∙ get_or_default places var place 0 (omega arith)
    ∙ sym (place_stored room entries places marks var some_entry s f)
    ∙ ap (λ (x : Assignment). place_in x.entries var) view

pub place_below : (a : Assignment) (room : ℕ) (entries : List Entry) (places : List ℕ) (marks : List Mark) (ends : List ℕ) (var place : ℕ) → assignment_in entries ends room ≡ a → AreStored room entries places marks → var < a.room → IsSome (entry_of a.entries var) → place ≡ get_or places var place → place < length a.entries
place_below a room entries places marks ends var place view s below assigned read =
    subst (λ (x : Assignment). place < length x.entries) view (place_seen a room entries places marks ends var place view s below assigned read)

pub room_seen : (a : Assignment) (room : ℕ) (entries : List Entry) (places : List ℕ) (marks : List Mark) (ends : List ℕ) (var : ℕ) → assignment_in entries ends room ≡ a → AreStored room entries places marks → var < a.room → entry_of a.entries var ≡ None → length entries < room
room_seen a room entries places marks ends var view s below absent =
    let same : room ≡ a.room = ap (λ (x : Assignment). x.room) view in
    room_left room entries places marks var s (omega arith) (ap (λ (x : Assignment). entry_of x.entries var) view ∙ absent)

pub unassigned_entry : (found : Option Entry) → option_map (λ (e : Entry). e.lit.truth) found ≡ None → found ≡ None
unassigned_entry None is = refl
unassigned_entry (Some e) is = cc

-- while a variable is unassigned, there are fewer entries than variables
pub fewer_seen : (a : Assignment) (room : ℕ) (entries : List Entry) (places : List ℕ) (marks : List Mark) (ends : List ℕ) (var : ℕ) → assignment_in entries ends room ≡ a → AreStored room entries places marks → var < a.room → value_in a.entries var ≡ None → length entries < a.room
fewer_seen a room entries places marks ends var view s below absent =
    let same : room ≡ a.room = ap (λ (x : Assignment). x.room) view in
    let less = room_seen a room entries places marks ends var view s below (unassigned_entry (entry_of a.entries var) absent) in
    omega (arith, less, same)

pub more_seen : (a : Assignment) (room : ℕ) (entries : List Entry) (places : List ℕ) (marks : List Mark) (ends : List ℕ) (e : Entry) (mark : Mark) (place : ℕ) (pushed : List Entry) → assignment_in entries ends room ≡ a → AreStored room entries places marks → e.lit.var < a.room → entry_of a.entries e.lit.var ≡ None → mark ≡ mark_for e.lit.truth → place ≡ length entries → pushed ≡ entries ++ e ∷ [] → AreStored room pushed (set places e.lit.var place) (set marks e.lit.var mark)
more_seen a room entries places marks ends e mark place pushed view s below absent is at pushes =
    let same : room ≡ a.room = ap (λ (x : Assignment). x.room) view in
    let P : ℕ → Type 0 = λ k. AreStored room pushed (set places e.lit.var k) (set marks e.lit.var mark) in
    subst P (sym at) (stored_more room entries places marks e mark pushed s (omega arith) (ap (λ (x : Assignment). entry_of x.entries e.lit.var) view ∙ absent) is pushes)

pub assignment_seen : (a : Assignment) (room : ℕ) (entries : List Entry) (places : List ℕ) (marks : List Mark) (ends : List ℕ) (entries_capacity ends_capacity : ℕ) → assignment_in entries ends room ≡ a → IsTrail room entries places marks ends entries_capacity ends_capacity → IsAssignment a
assignment_seen a room entries places marks ends entries_capacity ends_capacity view t =
    let s = t.stored in
    let P : Assignment → Type 0 = IsAssignment in
    subst P view (record {
      within = λ i d lt. (s.noted i d lt).within;
      once = λ i k d lt lt' same. sym (s.noted i d lt).placed ∙ ap (λ v. get_or places v 0) same ∙ (s.noted k d lt').placed;
      rising = λ i k d le lt. levels_rise entries ends i k d t.levels le lt;
      present = λ i d lt. t.levels.present i d lt;
      few = entries_few room entries places marks s;
      levels = t.ends_len;
      fits = t.fits;
    })
