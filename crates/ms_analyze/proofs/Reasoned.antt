-- How the premises of an analysis are kept along a search: reasons, and one decision a level.
use Rattle.std.proofs.Common.{ℕ, ◌≡◌, ◌<◌, ◌⊎◌, inl, inr, List, [], ◌∷◌, ◌++◌, ◌+◌, Option, Some, None, length, get_or, take, drop, sym, ◌∙◌, ap, subst, arith}
use Rattle.std.proofs.lemmas.Bool.{cases_eq, cases_lt}
use Rattle.std.proofs.lemmas.List.{length-append, take-append-drop, take-append-le, take_at}
use Rattle.std.proofs.Math.ListN.{get_or-append}
use Rattle.std.proofs.Math.Seq.{get_or-append_seam}
use Rattle.ms_lits.specs.declared.trail.Entry.{Entry}
use Rattle.ms_lits.specs.Assignment.{Assignment, IsAssignment}
use Rattle.ms_nogood.specs.Store.{Store, Stored, Adds, awake_in, nogood_at}
use Rattle.ms_nogood.specs.Propagation.{IsForced, Propagates}
use Rattle.ms_refutation.specs.Sets.{AreReasoned}
use Rattle.ms_analyze.specs.Analysis.{IsOnlyDecision}

-- an entry after these has no reason, or its reason was unit in them
abbrev pub IsReasoned : Store → List Entry → Entry → Type 0
IsReasoned store before e = (e.reason ≡ None) ⊎ IsForced store e.level before e

pub reasoned_none : (store : Store) → AreReasoned store []
reasoned_none store i d lt = absurd (omega arith)

-- one entry more
pub reasoned_push : (store : Store) (es : List Entry) (e : Entry) → AreReasoned store es → IsReasoned store es e → AreReasoned store (es ++ e ∷ [])
reasoned_push store es e each this i d lt = elim (cases_lt i (length es)) [
  | inl before ↦
      let front : take i es ≡ take i (es ++ e ∷ []) = sym (take-append-le i es (e ∷ []) (omega arith)) in
      let same : get_or es i d ≡ get_or (es ++ e ∷ []) i d = sym (get_or-append es (e ∷ []) d i before) in
      subst (λ (x : Entry). IsReasoned store (take i (es ++ e ∷ [])) x) same (subst (λ (xs : List Entry). IsReasoned store xs (get_or es i d)) front (each i d before))
  | inr behind ↦
      let at : i ≡ length es = omega (arith, length-append es (e ∷ [])) in
      let front : es ≡ take i (es ++ e ∷ []) = sym (take_at es (e ∷ []) i (sym at)) in
      let same : e ≡ get_or (es ++ e ∷ []) i d = sym (ap (λ (k : ℕ). get_or (es ++ e ∷ []) k d) at ∙ get_or-append_seam es e [] d) in
      subst (λ (x : Entry). IsReasoned store (take i (es ++ e ∷ [])) x) same (subst (λ (xs : List Entry). IsReasoned store xs e) front this)
]

reasoned_before : (store : Store) (front rest : List Entry) → AreReasoned store (front ++ rest) → AreReasoned store front
reasoned_before store front rest each i d lt =
    let whole : take i (front ++ rest) ≡ take i front = take-append-le i front rest (omega arith) in
    let same : get_or (front ++ rest) i d ≡ get_or front i d = get_or-append front rest d i lt in
    subst (λ (x : Entry). IsReasoned store (take i front) x) same
    (subst (λ (xs : List Entry). IsReasoned store xs (get_or (front ++ rest) i d)) whole (each i d (omega (arith, length-append front rest))))

-- a front, as a jump back leaves it
pub reasoned_front : (store : Store) (es : List Entry) (n : ℕ) → AreReasoned store es → AreReasoned store (take n es)
reasoned_front store es n each = reasoned_before store (take n es) (drop n es) (subst (AreReasoned store) (sym (take-append-drop n es)) each)

-- what a propagation adds
pub reasoned_more : (store : Store) (a b : Assignment) → Propagates store a b → AreReasoned store a.entries → AreReasoned store b.entries
reasoned_more store a b p each i d lt = elim (cases_lt i (length a.entries)) [
  | inl before ↦
      let front : take i a.entries ≡ take i b.entries = sym (ap (take i) p.entries ∙ take-append-le i a.entries p.added (omega arith)) in
      let same : get_or a.entries i d ≡ get_or b.entries i d = sym (ap (λ (es : List Entry). get_or es i d) p.entries ∙ get_or-append a.entries p.added d i before) in
      subst (λ (x : Entry). IsReasoned store (take i b.entries) x) same (subst (λ (xs : List Entry). IsReasoned store xs (get_or a.entries i d)) front (each i d before))
  | inr behind ↦
      let forced = p.forced i d behind lt in
      inr (subst (λ (n : ℕ). IsForced store n (take i b.entries) (get_or b.entries i d)) (sym forced.at_level) forced)
]

-- a decision and what a propagation adds
pub reasoned_decided : (store : Store) (before mid after : Assignment) (e : Entry) → AreReasoned store before.entries → mid.entries ≡ before.entries ++ e ∷ [] → e.reason ≡ None → Propagates store mid after → AreReasoned store after.entries
reasoned_decided store before mid after e each pushes none p =
    reasoned_more store mid after p (subst (AreReasoned store) (sym pushes) (reasoned_push store before.entries e each (inl none)))

-- a nogood more in the store
pub reasoned_added : (old new : Store) (stored : Stored) (key : ℕ) (es : List Entry) → Adds old new stored key → AreReasoned old es → AreReasoned new es
reasoned_added old new stored key es adds each i d lt = elim (each i d lt) [
  | inl none ↦ inl none
  | inr forced ↦ inr (record {
    at_level = forced.at_level;
    key = forced.key;
    reason = forced.reason;
    stored = forced.stored;
    found = elim (cases_eq forced.key key) [
      | inl same ↦ (let none : nogood_at old forced.key ≡ None = ap (λ (k : ℕ). nogood_at old k) same ∙ ap awake_in adds.was_free in let some = forced.found in cc)
      | inr other ↦ ap awake_in (adds.others forced.key other) ∙ forced.found
    ];
    unit = forced.unit;
  })
]

some_reason : (o : Option ℕ) (key : ℕ) → o ≡ Some key → o ≡ None → ⊥
some_reason o key some none = cc

-- after a decision at a new level and a propagation, the decision is the only entry of its level without a reason
pub one_decision : (store : Store) (before mid after : Assignment) (e : Entry) (level : ℕ) → IsAssignment before → before.level < level → mid.entries ≡ before.entries ++ e ∷ [] → Propagates store mid after → IsOnlyDecision level after.entries
one_decision store before mid after e level t higher pushes p i k d less inside at_i at_k none = elim (cases_lt k (length mid.entries)) [
  | inl early ↦
      let len : length mid.entries ≡ length before.entries + 1 = ap length pushes ∙ length-append before.entries (e ∷ []) in
      let here : i < length before.entries = omega (arith, len) in
      let same : get_or after.entries i d ≡ get_or before.entries i d =
      ap (λ (es : List Entry). get_or es i d) p.entries ∙ get_or-append mid.entries p.added d i (omega (arith, len))
      ∙ ap (λ (es : List Entry). get_or es i d) pushes ∙ get_or-append before.entries (e ∷ []) d i here in
      let low = t.present i d here in
      let lev : (get_or after.entries i d).level ≡ (get_or before.entries i d).level = ap (λ (x : Entry). x.level) same in
      omega (arith, low, lev, at_i)
  | inr late ↦
      let forced = p.forced k d late inside in
      some_reason (get_or after.entries k d).reason forced.key forced.reason none
]
