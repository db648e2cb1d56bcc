-- Which place is resolved next, and how the learned nogood is read off.
use Rattle.std.proofs.Common.{ℕ, ◌≡◌, ◌<◌, ◌≤◌, ◌-◌, List, [], ◌∷◌, ◌++◌, Option, Some, None, false, length, get_or, option_map, refl, sym, ◌∙◌, ap, subst, arith, All, append_assoc, reverse, append-nil, IfSome, IfNone}
use Rattle.std.proofs.lemmas.List.{reverse-append}
use Rattle.std.specs.Prelude.{Contains, slice_get}
use Rattle.std.specs.Ordering.{is_lt, nat_cmp}
use Rattle.std.proofs.lemmas.Option.{get_or_from_slice_get}
use Rattle.std.proofs.lemmas.Map.Keys.{ge_from_not_lt}
use Rattle.std.proofs.lemmas.List.Elements.{Contains-get_or}
use Rattle.ms_lits.specs.declared.lit.Lit.{Lit}
use Rattle.ms_lits.specs.declared.trail.Entry.{Entry}
use Rattle.ms_lits.specs.Assignment.{Assignment, IsAssignment}
use Rattle.ms_analyze.specs.Analysis.{IsOnlyDecision}
use Rattle.ms_analyze.specs.Cuts.{entry_at, last_level, level_at, level_or_0, lit_at, lits_at, no_entry}

pub entry_read : (entries : List Entry) (p : ℕ) (e : Entry) → slice_get entries p ≡ Some e → entry_at entries p ≡ e
entry_read entries p e read = get_or_from_slice_get entries p e no_entry read

lit_of_some : (o : Option Entry) (l : Lit) → option_map (λ (e : Entry). e.lit) o ≡ Some l → (e : Entry) × (o ≡ Some e) × (e.lit ≡ l)
lit_of_some None l is = cc
lit_of_some (Some e) l is = (e, refl, cc)

pub lit_read : (entries : List Entry) (p : ℕ) (l : Lit) → option_map (λ (e : Entry). e.lit) (slice_get entries p) ≡ Some l → lit_at entries p ≡ l
lit_read entries p l read =
    let e = lit_of_some (slice_get entries p) l read in
    ap (λ (x : Entry). x.lit) (entry_read entries p e.0 e.1) ∙ e.2

-- one literal more of those that are read from the last place on
pub rest_more : (entries : List Entry) (old new total : List Lit) (places left : List ℕ) (p : ℕ) (l : Lit) → old ++ lits_at entries (reverse places) ≡ total → places ≡ left ++ p ∷ [] → new ≡ old ++ l ∷ [] → lit_at entries p ≡ l → new ++ lits_at entries (reverse left) ≡ total
rest_more entries old new total places left p l rest splits pushes is =
    let turned : reverse places ≡ p ∷ reverse left = ap reverse splits ∙ reverse-append left (p ∷ []) in
    ap (λ (ls : List Lit). ls ++ lits_at entries (reverse left)) pushes
    ∙ append_assoc old (l ∷ []) (lits_at entries (reverse left))
    ∙ ap (λ (x : Lit). old ++ x ∷ lits_at entries (reverse left)) (sym is)
    ∙ sym (ap (λ (ps : List ℕ). old ++ lits_at entries ps) turned)
    ∙ rest

-- what is read once no place is left
pub all_read : (entries : List Entry) (lits begun none : List Lit) (places all : List ℕ) (p : ℕ) (l : Lit) → lits ++ lits_at entries (reverse places) ≡ begun ++ lits_at entries (reverse all) → places ≡ [] → begun ≡ none ++ l ∷ [] → none ≡ [] → lit_at entries p ≡ l → lits ≡ lit_at entries p ∷ lits_at entries (reverse all)
all_read entries lits begun none places all p l rest ended pushes empty is =
    sym (append-nil lits)
    ∙ sym (ap (λ (ps : List ℕ). lits ++ lits_at entries (reverse ps)) ended)
    ∙ rest
    ∙ ap (λ (ls : List Lit). ls ++ lits_at entries (reverse all)) (pushes ∙ ap (λ (ls : List Lit). ls ++ l ∷ []) empty)
    ∙ ap (λ (x : Lit). x ∷ lits_at entries (reverse all)) (sym is)

-- the last place of a set
pub last_below : (places : List ℕ) (next last : ℕ) → slice_get places (length places - 1) ≡ Some next → 0 < length places → All (λ (p : ℕ). p < last) places → next < last
last_below places next last read some below =
    let n : ℕ = length places - 1 in
    let inside : length places - 1 < length places = omega (arith, some) in
    subst (λ (p : ℕ). p < last) (get_or_from_slice_get places (length places - 1) next 0 read) (below (length places - 1) 0 inside)

pub last_among : (places : List ℕ) (next : ℕ) → slice_get places (length places - 1) ≡ Some next → 0 < length places → Contains places next
last_among places next read some =
    let inside : length places - 1 < length places = omega (arith, some) in
    subst (Contains places) (get_or_from_slice_get places (length places - 1) next 0 read) (Contains-get_or places (length places - 1) 0 inside)

-- where the last place of a set is of a lower level, all are
pub all_lower : (a : Assignment) (places : List ℕ) (next : ℕ) (e : Entry) → IsAssignment a → All (λ (q : ℕ). is_lt (nat_cmp next q) ≡ false) places → next < length a.entries → slice_get a.entries next ≡ Some e → e.level < a.level → All (λ (p : ℕ). level_at a.entries p < a.level) places
all_lower a places next e t upper on read lower k d lt =
    let under = ge_from_not_lt next (get_or places k d) (upper k d lt) in
    let rise = t.rising (get_or places k d) next no_entry under on in
    let top : level_at a.entries next ≡ e.level = ap (λ (x : Entry). x.level) (entry_read a.entries next e read) in
    omega (arith, rise, top, lower)

-- only the first literal of a level is without a reason
pub has_reason : (a : Assignment) (next last : ℕ) (e f : Entry) → IsAssignment a → IsOnlyDecision a.level a.entries → next < last → last < length a.entries → slice_get a.entries next ≡ Some e → slice_get a.entries last ≡ Some f → a.level ≤ e.level → level_at a.entries last ≡ a.level → f.reason ≡ None → ⊥
has_reason a next last e f t only before on read_next read high present none =
    let e_is = entry_read a.entries next e read_next in
    let f_is = entry_read a.entries last f read in
    let at : level_at a.entries next ≡ e.level = ap (λ (x : Entry). x.level) e_is in
    let most = t.present next no_entry (omega (arith, before, on)) in
    only next last no_entry before on (omega (arith, at, most, high)) present (ap (λ (x : Entry). x.reason) f_is ∙ none)

pub none_absurd : (o : Option ℕ) (P : Type 0) → (o ≡ None → ⊥) → IfNone o P
none_absurd None P never = absurd (never refl)
none_absurd (Some k) P never = tt

pub some_itself : (o : Option ℕ) (other : Option ℕ) → other ≡ o → IfSome o (λ (k : ℕ). other ≡ Some k)
some_itself None other is = tt
some_itself (Some k) other is = is

pub some_any : (o : Option ℕ) (P : Type 0) → P → IfSome o (λ (k : ℕ). P)
some_any None P this = tt
some_any (Some k) P this = this

pub last_read : (entries : List Entry) (places : List ℕ) (p back : ℕ) (e : Entry) → slice_get places (length places - 1) ≡ Some p → slice_get entries p ≡ Some e → back ≡ e.level → back ≡ last_level entries places
last_read entries places p back e last read is =
    is ∙ sym (ap (λ (x : Entry). x.level) (entry_read entries p e read)) ∙ sym (ap (level_or_0 entries) last)

pub none_read : (entries : List Entry) (places : List ℕ) (back : ℕ) → (0 < length places → ⊥) → back ≡ 0 → back ≡ last_level entries places
none_read entries [] back none is = is
none_read entries (p ∷ places) back none is = absurd (none (omega arith))
