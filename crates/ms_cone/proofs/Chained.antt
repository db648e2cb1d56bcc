-- The links from each atom to the one before it.
use Rattle.std.proofs.Common.{◌≡◌, ◌≤◌, ◌+◌, ℕ, List, [], ◌∷◌, ◌++◌, Option, Some, Bool, cond, nat_eq, inl, inr, sym, ap, subst, ◌∙◌, length, get_or, length-append, arith}
use Rattle.std.proofs.lemmas.Bool.{cases_lt}
use Rattle.std.proofs.lemmas.Bool.Decides.{eqb_tells}
use Rattle.std.proofs.lemmas.List.{get_or_append_left, get_or_push}
use Rattle.ms_cone.specs.declared.links.Chain.{Chain}
use Rattle.ms_cone.specs.declared.links.Link.{Link}
use Rattle.ms_cone.specs.Chains.{IsLast, AreChained, last_of}

-- the last link stays so where a link comes after it
still_last : (links : List Link) (l : Link) (atom count place : ℕ) → count ≤ length links → IsLast links atom count place → IsLast (links ++ l ∷ []) atom count place
still_last links l atom count place few last = record {
  within = last.within;
  found = λ k d is. let within = last.within in
      ap (λ (x : Link). x.from) (get_or_append_left links (l ∷ []) d k (omega (arith, within, is, few))) ∙ last.found k d is;
  others = λ k d from below is. last.others k d from below
      (sym (ap (λ (x : Link). x.from) (get_or_append_left links (l ∷ []) d k (omega (arith, below, few)))) ∙ is);
}

last_itself : (links : List Link) (l : Link) (atom : ℕ) → l.from ≡ atom → IsLast (links ++ l ∷ []) atom (length links + 1) (length links + 1)
last_itself links l atom is = record {
  within = omega arith;
  found = λ k d at. ap (λ (x : Link). x.from) (get_or_push links l d k (omega (arith, at))) ∙ is;
  others = λ k d from below _. absurd (omega (arith, from, below));
}

last_before : (links : List Link) (l : Link) (atom place : ℕ) → (l.from ≡ atom → ⊥) → IsLast links atom (length links) place → IsLast (links ++ l ∷ []) atom (length links + 1) place
last_before links l atom place differs last =
    let still = still_last links l atom (length links) place (omega arith) last in
    record {
      within = let within = last.within in omega (arith, within);
      found = still.found;
      others = λ k d from below is. elim (cases_lt k (length links)) [
        | inl before ↦ still.others k d from before is
        | inr more ↦ differs (sym (ap (λ (x : Link). x.from) (get_or_push links l d k (omega (arith, more, below)))) ∙ is)
      ];
    }

-- a link comes, and becomes the last one of its atom
pub chained_more : (links : List Link) (l : Link) (chain : Chain) (old new : ℕ → Option Chain) → chain.last ≡ length links + 1 → AreChained links old → IsLast links l.from (length links) l.before → ((q : ℕ) → new q ≡ cond (nat_eq l.from q) (Some chain) (old q)) → AreChained (links ++ l ∷ []) new
chained_more links l chain old new last chained before updates =
    let len = length-append links (l ∷ []) in
    record {
      of_atoms = λ q. subst (λ n. IsLast (links ++ l ∷ []) q n (last_of (new q))) (sym len) (elim (eqb_tells l.from q) [
        | inl is ↦ let now : new q ≡ Some chain = updates q ∙ ap (λ (b : Bool). cond b (Some chain) (old q)) is.0 in
            subst (λ n. IsLast (links ++ l ∷ []) q (length links + 1) n) (sym last ∙ ap last_of (sym now)) (last_itself links l q is.1)
        | inr other ↦ let now : new q ≡ old q = updates q ∙ ap (λ (b : Bool). cond b (Some chain) (old q)) other.0 in
            subst (λ c. IsLast (links ++ l ∷ []) q (length links + 1) (last_of c)) (sym now) (last_before links l q (last_of (old q)) other.1 (chained.of_atoms q))
      ]);
      of_links = λ k d within. elim (cases_lt k (length links)) [
        | inl less ↦ rw (get_or_append_left links (l ∷ []) d k less) (still_last links l (get_or links k d).from k (get_or links k d).before (omega (arith, less)) (chained.of_links k d less))
        | inr more ↦ let same : k ≡ length links = omega (arith, within, more, len) in
            rw (get_or_push links l d k (sym same)) (rw same (still_last links l l.from (length links) l.before (omega arith) before))
      ];
    }
