-- The levels of the entries.
use Rattle.std.proofs.Common.{ℕ, ◌≡◌, ◌<◌, ◌+◌, ◌≤◌, inl, inr, zero, suc, List, [], ◌∷◌, ◌++◌, length, get_or, take, refl, ◌∙◌, ap, arith, nat_le}
use Rattle.std.proofs.lemmas.Bool.{cases_lt, cond-true, cond-false, le-leb, lt-leb}
use Rattle.std.proofs.lemmas.List.{length-append, length-take-le, get_or-take, take_all}
use Rattle.std.proofs.Math.ListN.{get_or-append}
use Rattle.std.proofs.Math.Seq.{get_or-append_seam}
use Rattle.ms_lits.specs.declared.trail.Entry.{Entry}
use Rattle.ms_lits.specs.Assignment.{up_to}
use Rattle.ms_lits.specs.Storage.{AreLevels}

-- the entries up to a level are those in the front, where those behind are of greater levels
pub front_up_to : (es : List Entry) (n level : ℕ) (d : Entry) → n ≤ length es → ((i : ℕ) → i < n → (get_or es i d).level ≤ level) → ((i : ℕ) → n ≤ i → i < length es → level < (get_or es i d).level) → up_to level es ≡ take n es
front_up_to [] zero level d fits front back = refl
front_up_to [] (suc n) level d fits front back = absurd (omega arith)
front_up_to (e ∷ es) zero level d fits front back =
    cond-false (nat_le e.level level) (e ∷ up_to level es) (up_to level es) (lt-leb e.level level (back 0 (omega arith) (omega arith)))
    ∙ front_up_to es zero level d (omega arith) (λ i lt. absurd (omega arith)) (λ i le lt. back (suc i) (omega arith) (omega arith))
front_up_to (e ∷ es) (suc n) level d fits front back =
    cond-true (nat_le e.level level) (e ∷ up_to level es) (up_to level es) (le-leb e.level level (front 0 (omega arith)))
    ∙ ap (λ xs. e ∷ xs) (front_up_to es n level d (omega arith) (λ i lt. front (suc i) (omega arith)) (λ i le lt. back (suc i) (omega arith) (omega arith)))

-- one more entry of the present level
pub levels_more : (entries pushed : List Entry) (ends : List ℕ) (e : Entry) → AreLevels entries ends → e.level ≡ length ends → pushed ≡ entries ++ e ∷ [] → AreLevels pushed ends
levels_more entries pushed ends e s is pushes =
    let lenp : length pushed ≡ length entries + 1 = simp length-append at (ap length pushes) in
    let old : (i : ℕ) (d : Entry) → i < length entries → (get_or pushed i d).level ≡ (get_or entries i d).level = λ i d lt. ap (λ xs. (get_or xs i d).level) pushes ∙ ap (λ x. x.level) (get_or-append entries (e ∷ []) d i lt) in
    let last : (i : ℕ) (d : Entry) → i ≡ length entries → (get_or pushed i d).level ≡ length ends = λ i d at. ap (λ k. (get_or pushed k d).level) at ∙ ap (λ xs. (get_or xs (length entries) d).level) pushes ∙ ap (λ x. x.level) (get_or-append_seam entries e [] d) ∙ is in
    record {
      within = λ level lt. let w = s.within level lt in omega arith;
      front = λ level i d lt before. let w = s.within level lt in let o = old i d (omega arith) in omega (arith, o, s.front level i d lt before);
      back = λ level i d lt behind inside. elim (cases_lt i (length entries)) [
        | inl before ↦ (let o = old i d before in omega (arith, o, s.back level i d lt behind before))
        | inr h ↦ (let o = last i d (omega arith) in omega (arith, o))
      ];
      present = λ i d inside. elim (cases_lt i (length entries)) [
        | inl before ↦ (let o = old i d before in omega (arith, o, s.present i d before))
        | inr h ↦ (let o = last i d (omega arith) in omega (arith, o))
      ];
    }

-- the ends rise
ends_rise : (entries : List Entry) (ends : List ℕ) (d : Entry) (level depth : ℕ) → AreLevels entries ends → level < depth → depth < length ends → get_or ends level 0 ≤ get_or ends depth 0
ends_rise entries ends d level depth s below inside =
    elim (cases_lt (get_or ends depth 0) (get_or ends level 0)) [
      | inl less ↦ (
          let i = get_or ends depth 0 in
          let w = s.within level (omega arith) in
          let f = s.front level (get_or ends depth 0) d (omega arith) less in
          let b = s.back depth (get_or ends depth 0) d inside (omega arith) (omega arith) in
          absurd (omega (arith, f, b)))
      | inr h ↦ h
    ]

-- back to a level
pub levels_cut : (entries cut : List Entry) (ends shorter : List ℕ) (depth : ℕ) (d : Entry) → AreLevels entries ends → depth < length ends → cut ≡ take (get_or ends depth 0) entries → shorter ≡ take depth ends → AreLevels cut shorter
levels_cut entries cut ends shorter depth d s inside cuts shortens =
    let w = s.within depth inside in
    let lenc : length cut ≡ get_or ends depth 0 = ap length cuts ∙ length-take-le (get_or ends depth 0) entries w in
    let lens : length shorter ≡ depth = ap length shortens ∙ length-take-le depth ends (omega arith) in
    let old : (i : ℕ) (d : Entry) → i < length cut → (get_or cut i d).level ≡ (get_or entries i d).level = λ i d lt. ap (λ xs. (get_or xs i d).level) cuts ∙ ap (λ x. x.level) (get_or-take (get_or ends depth 0) entries i d (omega arith)) in
    let end : (level : ℕ) → level < depth → get_or shorter level 0 ≡ get_or ends level 0 = λ level lt. ap (λ xs. get_or xs level 0) shortens ∙ get_or-take depth ends level 0 lt in
    record {
      within = λ level lt. let e = end level (omega arith) in let r = ends_rise entries ends d level depth s (omega arith) inside in omega (arith, e, r);
      front = λ level i x lt before. let e = end level (omega arith) in let r = ends_rise entries ends d level depth s (omega arith) inside in let o = old i x (omega (arith, e, r)) in omega (arith, o, s.front level i x (omega arith) (omega (arith, e)));
      back = λ level i x lt behind within. let e = end level (omega arith) in let o = old i x within in omega (arith, o, s.back level i x (omega arith) (omega (arith, e)) (omega arith));
      present = λ i x within. let o = old i x within in omega (arith, o, s.front depth i x inside (omega arith));
    }

-- the entries up to a level below the present one
pub cut_up_to : (entries : List Entry) (ends : List ℕ) (depth : ℕ) (d : Entry) → AreLevels entries ends → depth < length ends → up_to depth entries ≡ take (get_or ends depth 0) entries
cut_up_to entries ends depth d s inside = front_up_to entries (get_or ends depth 0) depth d (s.within depth inside) (λ i lt. s.front depth i d inside lt) (λ i le lt. s.back depth i d inside le lt)

-- and up to the present one
pub all_up_to : (entries : List Entry) (ends : List ℕ) (depth : ℕ) (d : Entry) → AreLevels entries ends → depth ≡ length ends → up_to depth entries ≡ entries
all_up_to entries ends depth d s is = front_up_to entries (length entries) depth d (omega arith) (λ i lt. let p = s.present i d lt in omega arith) (λ i le lt. absurd (omega arith)) ∙ take_all (length entries) entries (omega arith)

-- levels rise along the entries
pub levels_rise : (entries : List Entry) (ends : List ℕ) (i k : ℕ) (d : Entry) → AreLevels entries ends → i ≤ k → k < length entries → (get_or entries i d).level ≤ (get_or entries k d).level
levels_rise entries ends i k d s le lt =
    let level = (get_or entries k d).level in
    elim (cases_lt (get_or entries k d).level (length ends)) [
      | inl inside ↦ elim (cases_lt k (get_or ends (get_or entries k d).level 0)) [
        | inl before ↦ s.front (get_or entries k d).level i d inside (omega arith)
        | inr behind ↦ (let b = s.back (get_or entries k d).level k d inside behind lt in absurd (omega arith))
      ]
      | inr h ↦ (let p = s.present i d (omega arith) in omega (arith, p, h))
    ]
