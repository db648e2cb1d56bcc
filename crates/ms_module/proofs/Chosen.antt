-- The atoms of a list of which something holds, found one after another.
use Rattle.std.proofs.Common.{◌≡◌, ◌↔◌, ℕ, ◌+◌, ◌<◌, ◌≤◌, inl, inr, List, [], ◌∷◌, ◌++◌, length, get_or, take, sym, ap, ◌∙◌, subst, arith, Contains, Vec, Global, Bool, false, IsTrue}
use Rattle.std.proofs.lemmas.Bool.{false≢true}
use Rattle.std.proofs.lemmas.List.{take_all}
use Rattle.std.proofs.lemmas.List.Elements.{Contains-append_left, Contains-push, Contains-push_cases}
use Rattle.ms_module.specs.Faults.{AreThose}
use Rattle.ms_module.proofs.Changes.{next_atom}

pub those_none : (P : ℕ → Type 0) → AreThose [] P []
those_none P a = (λ (k, within, is). absurd (omega arith), λ ((k, within, is), p). absurd (omega arith))

those_push : (atoms found : List ℕ) (P : ℕ → Type 0) (a : ℕ) → AreThose atoms P found → P a → AreThose (atoms ++ a ∷ []) P (found ++ a ∷ [])
those_push atoms found P a are p b = (
  λ has. elim (Contains-push_cases found a b has) [
    | inl before ↦ (let both = (are b).0 before in (Contains-append_left atoms (a ∷ []) b both.0, both.1))
    | inr last ↦ (subst (Contains (atoms ++ a ∷ [])) last (Contains-push atoms a), subst P last p)
  ],
  λ both. elim (Contains-push_cases atoms a b both.0) [
    | inl before ↦ Contains-append_left found (a ∷ []) b ((are b).1 (before, both.1))
    | inr last ↦ subst (Contains (found ++ a ∷ [])) last (Contains-push found a)
  ],
)

those_pass : (atoms found : List ℕ) (P : ℕ → Type 0) (a : ℕ) → AreThose atoms P found → ¬ P a → AreThose (atoms ++ a ∷ []) P found
those_pass atoms found P a are not_p b = (
  λ has. (let both = (are b).0 has in (Contains-append_left atoms (a ∷ []) b both.0, both.1)),
  λ both. elim (Contains-push_cases atoms a b both.0) [
    | inl before ↦ (are b).1 (before, both.1)
    | inr last ↦ absurd (not_p (subst P (sym last) both.1))
  ],
)

-- the next atom, of which it holds
pub those_more : (atoms found : List ℕ) (P : ℕ → Type 0) (i a : ℕ) → AreThose (take i atoms) P found → i < length atoms → a ≡ get_or atoms i a → P a
    → AreThose (take (i + 1) atoms) P (found ++ a ∷ [])
those_more atoms found P i a are within at p =
    subst (λ seen. AreThose seen P (found ++ a ∷ [])) (sym (next_atom atoms i a within at)) (those_push (take i atoms) found P a are p)

-- or of which it doesn't
pub those_skip : (atoms found : List ℕ) (P : ℕ → Type 0) (i a : ℕ) → AreThose (take i atoms) P found → i < length atoms → a ≡ get_or atoms i a → (¬ P a)
    → AreThose (take (i + 1) atoms) P found
those_skip atoms found P i a are within at not_p =
    subst (λ seen. AreThose seen P found) (sym (next_atom atoms i a within at)) (those_pass (take i atoms) found P a are not_p)

pub those_whole : (atoms found : List ℕ) (P : ℕ → Type 0) (i : ℕ) → length atoms ≤ i → AreThose (take i atoms) P found → AreThose atoms P found
those_whole atoms found P i le are = subst (λ seen. AreThose seen P found) (take_all i atoms le) are

-- the same of the vectors in a loop, where a test tells whether it holds
pub those_pushed : (atoms : List ℕ) (P : ℕ → Type 0) (i a : ℕ) (found new joined : Vec ℕ Global) → joined ≡ new → new.items ≡ found.items ++ a ∷ [] → AreThose (take i atoms) P found.items
    → i < length atoms → a ≡ get_or atoms i a → P a → AreThose (take (i + 1) atoms) P joined.items
those_pushed atoms P i a found new joined same pushed are within at p =
    subst (AreThose (take (i + 1) atoms) P) (sym (ap (λ (v : Vec ℕ Global). v.items) same ∙ pushed)) (those_more atoms found.items P i a are within at p)

pub those_passed : (atoms : List ℕ) (P : ℕ → Type 0) (i a : ℕ) (found joined : Vec ℕ Global) (t : Bool) → joined ≡ found → AreThose (take i atoms) P found.items
    → i < length atoms → a ≡ get_or atoms i a → IsTrue t ↔ P a → t ≡ false → AreThose (take (i + 1) atoms) P joined.items
those_passed atoms P i a found joined t same are within at tells is =
    subst (AreThose (take (i + 1) atoms) P) (sym (ap (λ (v : Vec ℕ Global). v.items) same))
    (those_skip atoms found.items P i a are within at (λ p. false≢true (sym is ∙ tells.1 p)))
