-- The kept list and the declarations of a log.
use Rattle.std.specs.List.{cons_option}
use Rattle.std.proofs.Common.{Bool, true, false, cond, ℕ, ◌≡◌, ◌≢◌, ◌∙◌, List, [], ◌∷◌, ◌++◌, get_or, Option, Some, None, inr, refl, sym, subst, ap, arith, append-nil}
use Rattle.std.specs.Prelude.{All, AllPairs, Contains}
use Rattle.std.proofs.lemmas.List.Elements.{All-cons, All-contains_itself, Contains-append_left, Contains-push, filter-append, filter_map-append}
use Rattle.std.proofs.lemmas.List.Kept.{AllPairs-cons}
use Rattle.ms_lits.specs.declared.note.Note.{Note}
use Rattle.ms_lits.specs.declared.lit.Lit.{Lit}
use Rattle.ms_lits.specs.declared.note.Note.TheVariants.{Atom, Body, Tuple, Aggregate, Start, Theory, Kept, Temporary, Answer, Finish}
use Rattle.ms_lits.specs.declared.note.Ending.{Ending}
use Rattle.ms_lits.specs.Literals.{Nogood, IsContained}
use Rattle.ms_lawful.specs.Problems.{Problem, IsConsequence}
use Rattle.ms_lawful.specs.Lines.{Stage, AreLines, MayFollow, after, first_stage, kept_now, nogoods_in}
use Rattle.ms_lawful.specs.Parts.{AreDeclarations, Declares, IsSolvePart, declared_in, is_declaration, kept_after, kept_by, kept_in, kept_list, last_of, most_kept}
use Rattle.ms_lawful.proofs.Apart.{lines_apart}
use Rattle.ms_lawful.proofs.Lists.{Contains-filter_map, last_of-append}
use Rattle.ms_lawful.proofs.Soundness.{store_sound}

-- the last ones of the last ones
last_twice : {X : Type 0} → (most : ℕ) (xs : List X) → last_of most (last_of most xs) ≡ last_of most xs
last_twice most xs = ap (last_of most) (sym (append-nil (last_of most xs))) ∙ last_of-append most xs [] ∙ ap (last_of most) (append-nil xs)

pub kept_list-append : (log more : List Note) → kept_list (log ++ more) ≡ last_of most_kept (kept_after (kept_list log) more)
kept_list-append log more =
    ap (last_of most_kept) (filter_map-append kept_by log more)
    ∙ sym (last_of-append most_kept (kept_in log) (kept_in more))
    ∙ ap (λ nogoods. last_of most_kept (nogoods ++ kept_in more)) (sym (last_twice most_kept (kept_in log)))

kept_at : (lines : List Note) (note : Note) (nogood : Nogood) → Contains lines note → kept_by note ≡ Some nogood → Contains lines (Kept nogood)
kept_at lines (Kept n) nogood among is = let same : n ≡ nogood = cc in subst (λ (m : Nogood). Contains lines (Kept m)) same among
kept_at lines note nogood among is = let clash : ⊥ = cc in absurd clash

pub kept_from : (lines : List Note) (nogood : Nogood) → Contains (kept_in lines) nogood → Contains lines (Kept nogood)
kept_from lines nogood among =
    let from = Contains-filter_map kept_by nogood lines among in
    kept_at lines from.0 nogood from.1 from.2

-- Where what was kept before are consequences, so is what a solve keeps.
pub kept_consequences : (problem : Problem) (notes : List Note) → AreLines problem first_stage notes → All (IsConsequence problem) problem.kept → All (IsConsequence problem) (kept_in notes)
kept_consequences problem notes lawful before = λ k d h truth admitted.
    store_sound problem truth notes admitted (λ i e g. before i e g truth admitted) lawful (get_or (kept_in notes) k d)
    (kept_now (kept_from notes (get_or (kept_in notes) k d) (All-contains_itself (kept_in notes) k d h)))

pub not_again : (problem : Problem) (log notes : List Note) (nogood : Nogood) → problem.kept ≡ kept_list log → AreLines problem first_stage notes → Contains (kept_list log) nogood → All (λ line. (line ≢ nogood) × ¬ IsContained line nogood) (nogoods_in notes)
not_again problem log notes nogood kept lawful among = λ k d h.
    let line = get_or (nogoods_in notes) k d in
    let none = (lines_apart problem notes lawful).outside k d h nogood (inr (subst (λ nogoods. Contains nogoods nogood) (sym kept) among)) in
    ((λ same. none (subst (λ (n : Nogood). IsContained line n) same (All-contains_itself line))), none)

pub declared_once : (declared part : List Note) → AreDeclarations declared part → AllPairs (λ note later. note ≢ later) part × All (λ note. ¬ Contains declared note) part
declared_once declared [] all = ((λ i j d less within. absurd (omega arith)), (λ k d h. absurd (omega arith)))
declared_once declared (note ∷ part) all =
    let rest = declared_once (declared ++ note ∷ []) part all.2 in (
      AllPairs-cons (λ n later. n ≢ later) note part (λ k d h same. rest.1 k d h (subst (λ (n : Note). Contains (declared ++ note ∷ []) n) same (Contains-push declared note))) rest.0,
      All-cons (λ n. ¬ Contains declared n) note part all.1 (λ k d h among. rest.1 k d h (Contains-append_left declared (note ∷ []) (get_or part k d) among)),
    )

-- The frame of a solve's part keeps nothing and declares nothing, nor do its lines declare anything.
pub kept_in_part : (impossible : Bool) (start : List Lit) (lines : List Note) (reply : List ℕ) → kept_in (Start impossible start ∷ lines ++ Finish reply ∷ []) ≡ kept_in lines
kept_in_part impossible start lines reply = filter_map-append kept_by lines (Finish reply ∷ []) ∙ append-nil (kept_in lines)

line_declares_nothing : (problem : Problem) (lines : List Note) (owed : Option (List ℕ)) (note : Note) → MayFollow problem lines owed note → is_declaration note ≡ false
line_declares_nothing problem lines (Some answer) (Temporary nogood) line = refl
line_declares_nothing problem lines None (Theory nogood) line = refl
line_declares_nothing problem lines None (Kept nogood) line = refl
line_declares_nothing problem lines None (Temporary nogood) line = refl
line_declares_nothing problem lines None (Answer answer) line = refl
line_declares_nothing problem lines owed note line = absurd line

pub lines_declare_nothing : (problem : Problem) (stage : Stage) (notes : List Note) → AreLines problem stage notes → declared_in notes ≡ []
lines_declare_nothing problem stage [] lawful = refl
lines_declare_nothing problem stage (note ∷ notes) lawful =
    ap (λ b. cond b (note ∷ declared_in notes) (declared_in notes)) (line_declares_nothing problem stage.lines stage.owed note lawful.0)
    ∙ lines_declare_nothing problem (after stage note) notes lawful.1

pub part_declares_nothing : (problem : Problem) (ending : Ending) (reply : List ℕ) (part : List Note) → IsSolvePart problem ending reply part → declared_in part ≡ []
part_declares_nothing problem ending reply part solve =
    ap declared_in solve.whole
    ∙ filter-append is_declaration solve.lines (Finish reply ∷ [])
    ∙ append-nil (declared_in solve.lines)
    ∙ lines_declare_nothing problem first_stage solve.lines solve.lawful

-- What is kept after the part of a solve.
pub kept_after_part : (problem : Problem) (ending : Ending) (reply : List ℕ) (part log : List Note) (solve : IsSolvePart problem ending reply part) → kept_list (log ++ part) ≡ last_of most_kept (kept_after (kept_list log) solve.lines)
kept_after_part problem ending reply part log solve =
    kept_list-append log part
    ∙ ap (λ nogoods. last_of most_kept (last_of most_kept (kept_list log) ++ nogoods)) (ap kept_in solve.whole ∙ kept_in_part problem.impossible problem.start solve.lines reply)

declaration_is : (declared : List Note) (note : Note) → Declares declared note → (is_declaration note ≡ true) × (kept_by note ≡ None)
declaration_is declared (Atom text) is = (refl, refl)
declaration_is declared (Body literals) is = (refl, refl)
declaration_is declared (Tuple terms conditions) is = (refl, refl)
declaration_is declared (Aggregate guards tuples) is = (refl, refl)
declaration_is declared note is = absurd is

-- The part of a grounding is declarations alone.
pub part_declares : (declared part : List Note) → AreDeclarations declared part → declared_in part ≡ part
part_declares declared [] all = refl
part_declares declared (note ∷ part) all =
    ap (λ b. cond b (note ∷ declared_in part) (declared_in part)) (declaration_is declared note all.0).0
    ∙ ap (λ notes. note ∷ notes) (part_declares (declared ++ note ∷ []) part all.2)

pub part_keeps_nothing : (declared part : List Note) → AreDeclarations declared part → kept_in part ≡ []
part_keeps_nothing declared [] all = refl
part_keeps_nothing declared (note ∷ part) all =
    ap (λ (o : Option Nogood). cons_option o (kept_in part)) (declaration_is declared note all.0).1
    ∙ part_keeps_nothing (declared ++ note ∷ []) part all.2
