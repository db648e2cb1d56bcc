-- What the stored places and marks tell of the entries, and how they change.
use Rattle.std.proofs.Common.{ℕ, ◌≡◌, ◌<◌, ◌+◌, ◌≤◌, inl, inr, List, [], ◌∷◌, ◌++◌, Some, None, true, false, length, get_or, set, sym, ◌∙◌, ap, subst, arith, option_map}
use Rattle.std.specs.Prelude.{IsSome}
use Rattle.std.proofs.lemmas.Bool.{cases_eq, cases_lt, cases_Bool, both_ways, false_from_ne_true, true_from_ne_false}
use Rattle.std.proofs.lemmas.List.Sums.{count_by-le-length}
use Rattle.std.proofs.lemmas.List.{length-set, length-append, get_or-set_same, get_or-set_other, get_or_default}
use Rattle.std.proofs.Math.ListN.{get_or-append}
use Rattle.std.proofs.Math.Seq.{get_or-append_seam}
use Rattle.ms_lits.specs.declared.trail.Entry.{Entry}
use Rattle.ms_lits.specs.declared.trail.Mark.{Mark}
use Rattle.ms_lits.specs.declared.trail.Mark.TheVariants.{Free}
use Rattle.ms_lits.specs.Assignment.{entry_of, place_in, value_in}
use Rattle.ms_lits.specs.Storage.{AreStored, IsFound, IsNoted, mark_for, truth_of, is_set}
use Rattle.ms_lits.proofs.Entries.{some_entry, entry_first, place_first, entry_none, none_at}
use Rattle.ms_lits.proofs.Marks.{truth_marked, set_marked, free_untrue, count_up, count_down, count_below, count_none}

-- a marked variable has the entry in its place
pub entry_stored : (room : ℕ) (entries : List Entry) (places : List ℕ) (marks : List Mark) (var : ℕ) (d : Entry) → AreStored room entries places marks → IsFound entries places var → entry_of entries var ≡ Some (get_or entries (get_or places var 0) d)
entry_stored room entries places marks var d s found =
    entry_first entries var (get_or places var 0) d found.within (found.same d)
    (λ i lt here. sym (s.noted i d lt).placed ∙ ap (λ v. get_or places v 0) here)

-- and its place is that of the variable
pub place_stored : (room : ℕ) (entries : List Entry) (places : List ℕ) (marks : List Mark) (var : ℕ) (d : Entry) → AreStored room entries places marks → IsFound entries places var → place_in entries var ≡ get_or places var 0
place_stored room entries places marks var d s found =
    place_first entries var (get_or places var 0) d found.within (found.same d)
    (λ i lt here. sym (s.noted i d lt).placed ∙ ap (λ v. get_or places v 0) here)

-- a variable that isn't marked has none
pub entry_unmarked : (room : ℕ) (entries : List Entry) (places : List ℕ) (marks : List Mark) (var : ℕ) → AreStored room entries places marks → is_set (get_or marks var Free) ≡ false → entry_of entries var ≡ None
entry_unmarked room entries places marks var s free =
    entry_none entries var some_entry
    (λ i lt here.
    let n = s.noted i some_entry lt in
    both_ways (is_set (get_or marks var Free)) free
    (ap (λ v. is_set (get_or marks v Free)) (sym here) ∙ ap is_set n.marked ∙ set_marked (get_or entries i some_entry).lit.truth))

-- an assigned variable is found in its place
pub assigned_found : (room : ℕ) (entries : List Entry) (places : List ℕ) (marks : List Mark) (var : ℕ) → AreStored room entries places marks → var < room → IsSome (entry_of entries var) → IsFound entries places var
assigned_found room entries places marks var s below assigned =
    s.found var below
    (true_from_ne_false (is_set (get_or marks var Free)) (λ free. let none = entry_unmarked room entries places marks var s free in cc))

-- what is read in the place of an assigned variable is its entry
pub entry_read : (room : ℕ) (entries : List Entry) (places : List ℕ) (marks : List Mark) (var place : ℕ) (e : Entry) → AreStored room entries places marks → var < room → IsSome (entry_of entries var) → place ≡ get_or places var place → place < length entries → e ≡ get_or entries place e → entry_of entries var ≡ Some e
entry_read room entries places marks var place e s below assigned read within is =
    let l = s.places_len in
    let same : get_or places var place ≡ get_or places var 0 = get_or_default places var place 0 (omega arith) in
    let p : place ≡ get_or places var 0 = read ∙ same in
    entry_stored room entries places marks var e s (assigned_found room entries places marks var s below assigned)
    ∙ ap (λ q. Some (get_or entries q e)) (sym p) ∙ ap Some (sym is)

-- an unassigned variable isn't marked
pub unassigned_free : (room : ℕ) (entries : List Entry) (places : List ℕ) (marks : List Mark) (var : ℕ) → AreStored room entries places marks → var < room → entry_of entries var ≡ None → is_set (get_or marks var Free) ≡ false
unassigned_free room entries places marks var s below absent =
    false_from_ne_true (is_set (get_or marks var Free))
    (λ marked. let f = s.found var below marked in
    none_at entries var (get_or places var 0) some_entry absent f.within (f.same some_entry))

-- the mark tells the value
pub value_marked : (room : ℕ) (entries : List Entry) (places : List ℕ) (marks : List Mark) (var : ℕ) → AreStored room entries places marks → var < room → truth_of (get_or marks var Free) ≡ value_in entries var
value_marked room entries places marks var s below =
    elim (cases_Bool (is_set (get_or marks var Free))) [
      | inl marked ↦ (
          let f = s.found var below marked in
          let p = get_or places var 0 in
          let e = get_or entries p some_entry in
          let n = s.noted p some_entry f.within in
          ap (λ v. truth_of (get_or marks v Free)) (sym (f.same some_entry))
          ∙ ap truth_of n.marked
          ∙ truth_marked e.lit.truth
          ∙ sym (ap (option_map (λ (x : Entry). x.lit.truth)) (entry_stored room entries places marks var some_entry s f)))
      | inr free ↦ free_untrue (get_or marks var Free) free
          ∙ sym (ap (option_map (λ (x : Entry). x.lit.truth)) (entry_unmarked room entries places marks var s free))
    ]

-- there is room for the entry of an unassigned variable
pub room_left : (room : ℕ) (entries : List Entry) (places : List ℕ) (marks : List Mark) (var : ℕ) → AreStored room entries places marks → var < room → entry_of entries var ≡ None → length entries < room
room_left room entries places marks var s below absent =
    let len = s.marks_len in
    let count = s.count in
    let less = count_below marks var (omega arith) (unassigned_free room entries places marks var s below absent) in
    omega (arith, less)

-- there are no more entries than variables
pub entries_few : (room : ℕ) (entries : List Entry) (places : List ℕ) (marks : List Mark) → AreStored room entries places marks → length entries ≤ room
entries_few room entries places marks s =
    let len = s.marks_len in
    let count = s.count in
    omega (arith, count_by-le-length is_set marks)

-- one more entry
pub stored_more : (room : ℕ) (entries : List Entry) (places : List ℕ) (marks : List Mark) (e : Entry) (mark : Mark) (pushed : List Entry) → AreStored room entries places marks → e.lit.var < room → entry_of entries e.lit.var ≡ None → mark ≡ mark_for e.lit.truth → pushed ≡ entries ++ e ∷ [] → AreStored room pushed (set places e.lit.var (length entries)) (set marks e.lit.var mark)
stored_more room entries places marks e mark pushed s below absent is pushes =
    let var = e.lit.var in
    let free = unassigned_free room entries places marks var s below absent in
    let plen = s.places_len in
    let mlen = s.marks_len in
    let lenp : length pushed ≡ length entries + 1 = simp length-append at (ap length pushes) in
    let in_places : var < length places = omega arith in
    let in_marks : var < length marks = omega arith in
    let old : (i : ℕ) (d : Entry) → i < length entries → get_or pushed i d ≡ get_or entries i d = λ i d lt. ap (λ xs. get_or xs i d) pushes ∙ get_or-append entries (e ∷ []) d i lt in
    let last : (d : Entry) → get_or pushed (length entries) d ≡ e = λ d. ap (λ xs. get_or xs (length entries) d) pushes ∙ get_or-append_seam entries e [] d in
    record {
      places_len = omega (arith, length-set places var (length entries));
      marks_len = length-set marks var mark ∙ s.marks_len;
      noted = λ i d lt. elim (cases_lt i (length entries)) [
        | inl before ↦ (
            let n = s.noted i d before in
            let v = (get_or entries i d).lit.var in
            let other : v ≡ var → ⊥ = λ same. none_at entries var i d absent before same in
            let N : Entry → Type 0 = λ x. IsNoted room (set places var (length entries)) (set marks var mark) i x.lit in
            subst N (sym (old i d before)) (record {
              within = n.within;
              placed = get_or-set_other places var v (length entries) 0 other ∙ n.placed;
              marked = get_or-set_other marks var v mark Free other ∙ n.marked;
            }))
        | inr behind ↦ (
            let at : i ≡ length entries = omega arith in
            let N : Entry → Type 0 = λ x. IsNoted room (set places var (length entries)) (set marks var mark) i x.lit in
            subst N (sym (ap (λ k. get_or pushed k d) at ∙ last d)) (record {
              within = below;
              placed = get_or-set_same places var (length entries) 0 in_places ∙ sym at;
              marked = get_or-set_same marks var mark Free in_marks ∙ is;
            }))
      ];
      found = λ v lt marked. elim (cases_eq v var) [
        | inl same ↦ (
            let at : get_or (set places var (length entries)) v 0 ≡ length entries = ap (λ k. get_or (set places var (length entries)) k 0) same ∙ get_or-set_same places var (length entries) 0 in_places in
            record { within = omega (arith, at, lenp); same = λ d. ap (λ k. (get_or pushed k d).lit.var) at ∙ ap (λ x. x.lit.var) (last d) ∙ sym same })
        | inr other ↦ (
            let was : is_set (get_or marks v Free) ≡ true = ap is_set (sym (get_or-set_other marks var v mark Free other)) ∙ marked in
            let f = s.found v lt was in
            let at = get_or-set_other places var v (length entries) 0 other in
            record { within = omega (arith, at, lenp, f.within); same = λ d. ap (λ k. (get_or pushed k d).lit.var) at ∙ ap (λ x. x.lit.var) (old (get_or places v 0) d f.within) ∙ f.same d })
      ];
      count = count_up marks var mark in_marks free (ap is_set is ∙ set_marked e.lit.truth) ∙ ap (λ n. n + 1) s.count ∙ sym lenp;
    }

-- one entry less
pub stored_less : (room : ℕ) (whole entries : List Entry) (places : List ℕ) (marks : List Mark) (e : Entry) → AreStored room whole places marks → whole ≡ entries ++ e ∷ [] → AreStored room entries places (set marks e.lit.var Free)
stored_less room whole entries places marks e s splits =
    let var = e.lit.var in
    let lenw : length whole ≡ length entries + 1 = simp length-append at (ap length splits) in
    let old : (i : ℕ) (d : Entry) → i < length entries → get_or whole i d ≡ get_or entries i d = λ i d lt. ap (λ xs. get_or xs i d) splits ∙ get_or-append entries (e ∷ []) d i lt in
    let last : (d : Entry) → get_or whole (length entries) d ≡ e = λ d. ap (λ xs. get_or xs (length entries) d) splits ∙ get_or-append_seam entries e [] d in
    let mlen = s.marks_len in
    let N : Entry → Type 0 = λ x. IsNoted room places marks (length entries) x.lit in
    let n : IsNoted room places marks (length entries) e.lit = subst N (last e) (s.noted (length entries) e (omega arith)) in
    let in_marks : var < length marks = omega (arith, n.within) in
    record {
      places_len = s.places_len;
      marks_len = length-set marks var Free ∙ s.marks_len;
      noted = λ i d lt.
          let P : Entry → Type 0 = λ x. IsNoted room places marks i x.lit in
          let m : IsNoted room places marks i (get_or entries i d).lit = subst P (old i d lt) (s.noted i d (omega arith)) in
          let v = (get_or entries i d).lit.var in
          let other : v ≡ var → ⊥ = λ same. (let at : i ≡ length entries = sym m.placed ∙ ap (λ k. get_or places k 0) same ∙ n.placed in absurd (omega arith)) in
          record { within = m.within; placed = m.placed; marked = get_or-set_other marks var v Free Free other ∙ m.marked };
      found = λ v lt marked. elim (cases_eq v var) [
        | inl same ↦ absurd (both_ways (is_set (get_or (set marks var Free) v Free)) (ap (λ k. is_set (get_or (set marks var Free) k Free)) same ∙ ap is_set (get_or-set_same marks var Free Free in_marks)) marked)
        | inr other ↦ (
            let was : is_set (get_or marks v Free) ≡ true = ap is_set (sym (get_or-set_other marks var v Free Free other)) ∙ marked in
            let f = s.found v lt was in
            let p = get_or places v 0 in
            let inside : get_or places v 0 < length entries = elim (cases_lt (get_or places v 0) (length entries)) [
              | inl h ↦ h
              | inr h ↦ (
                  let at : get_or places v 0 ≡ length entries = omega (arith, f.within, lenw) in
                  absurd (other (sym (f.same e) ∙ ap (λ k. (get_or whole k e).lit.var) at ∙ ap (λ x. x.lit.var) (last e))))
            ] in
            record { within = inside; same = λ d. ap (λ x. x.lit.var) (sym (old (get_or places v 0) d inside)) ∙ f.same d })
      ];
      count =
          let down = count_down marks var in_marks (ap is_set n.marked ∙ set_marked e.lit.truth) in
          let count = s.count in
          omega (arith, down, count, lenw);
    }

-- without entries no variable is marked
pub unmarked_empty : (room : ℕ) (entries : List Entry) (places : List ℕ) (marks : List Mark) (var : ℕ) → AreStored room entries places marks → entries ≡ [] → var < room → is_set (get_or marks var Free) ≡ false
unmarked_empty room entries places marks var s empty below =
    let len : length entries ≡ 0 = ap length empty in
    false_from_ne_true (is_set (get_or marks var Free)) (λ marked. let f = s.found var below marked in absurd (omega (arith, f.within)))

-- more room for no entries
pub stored_empty : (room : ℕ) (entries : List Entry) (places : List ℕ) (marks : List Mark) → entries ≡ [] → room ≤ length places → length marks ≡ room → ((i : ℕ) → i < length marks → is_set (get_or marks i Free) ≡ false) → AreStored room entries places marks
stored_empty room entries places marks empty plen mlen free =
    let len : length entries ≡ 0 = ap length empty in
    record {
      places_len = plen;
      marks_len = mlen;
      noted = λ i d lt. absurd (omega arith);
      found = λ v lt marked. absurd (both_ways (is_set (get_or marks v Free)) (free v (omega arith)) marked);
      count = count_none marks free ∙ sym len;
    }
