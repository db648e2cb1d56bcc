-- Going back to a level.
use Rattle.std.proofs.Common.{ℕ, ◌≡◌, ◌<◌, List, ◌++◌, length, get_or, take, sym, ◌∙◌, ap, subst, arith}
use Rattle.std.proofs.lemmas.List.{get_or_default, length-take-le}
use Rattle.std.proofs.Math.Seq.{take-append_seam}
use Rattle.ms_lits.specs.declared.trail.Entry.{Entry}
use Rattle.ms_lits.specs.Assignment.{Assignment, up_to}
use Rattle.ms_lits.specs.Storage.{AreLevels, assignment_in}
use Rattle.ms_lits.proofs.Entries.{some_entry}
use Rattle.ms_lits.proofs.Leveled.{cut_up_to, all_up_to}

back_made : List Entry → ℕ → ℕ → Assignment
back_made entries level room = record { entries = entries; level = level; room = room }

pub back_same : (a : Assignment) (entries : List Entry) (ends : List ℕ) (room level : ℕ) → assignment_in entries ends room ≡ a → AreLevels entries ends → level ≡ length ends → a ≡ record { entries = up_to level a.entries; level = level; room = a.room }
unfolding back_made
back_same a entries ends room level view s is =
    let P : Assignment → Type 0 = λ x. x ≡ record { entries = up_to level x.entries; level = level; room = x.room } in
    subst P view (ap (λ xs. back_made xs (length ends) room) (sym (all_up_to entries ends level some_entry s is)) ∙ ap (λ n. back_made (up_to level entries) n room) (sym is))

-- the entries that are left, once those from the end of the level on have gone
pub cut_is : (initial cut rest : List Entry) (ends : List ℕ) (level end : ℕ) → level < length ends → end ≡ get_or ends level end → initial ≡ cut ++ rest → length cut ≡ end → cut ≡ take (get_or ends level 0) initial
cut_is initial cut rest ends level end inside read splits len =
    sym (take-append_seam cut rest)
    ∙ ap (take (length cut)) (sym splits)
    ∙ ap (λ n. take n initial) (len ∙ read ∙ get_or_default ends level end 0 inside)

pub back_kept : (a : Assignment) (initial cut : List Entry) (ends shorter : List ℕ) (room room_left level : ℕ) → assignment_in initial ends room ≡ a → AreLevels initial ends → level < length ends → room_left ≡ room → cut ≡ take (get_or ends level 0) initial → shorter ≡ take level ends → assignment_in cut shorter room_left ≡ record { entries = up_to level a.entries; level = level; room = a.room }
unfolding back_made
back_kept a initial cut ends shorter room room_left level view s inside same cuts shortens =
    let P : Assignment → Type 0 = λ x. assignment_in cut shorter room_left ≡ record { entries = up_to level x.entries; level = level; room = x.room } in
    subst P view
    (ap (λ xs. back_made xs (length shorter) room_left) (cuts ∙ sym (cut_up_to initial ends level some_entry s inside))
    ∙ ap (λ n. back_made (up_to level initial) n room_left) (ap length shortens ∙ length-take-le level ends (omega arith))
    ∙ ap (λ n. back_made (up_to level initial) level n) same)

pub front_kept : (a : Assignment) (initial cut rest : List Entry) (ends : List ℕ) (room : ℕ) → assignment_in initial ends room ≡ a → initial ≡ cut ++ rest → cut ≡ take (length cut) a.entries
front_kept a initial cut rest ends room view splits =
    sym (take-append_seam cut rest) ∙ ap (take (length cut)) (sym splits) ∙ ap (λ (x : Assignment). take (length cut) x.entries) view
