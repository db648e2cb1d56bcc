-- What a learned line brings, in words of unit closure.
use Rattle.std.proofs.Common.{ℕ, ◌≡◌, ◌≢◌, ◌∙◌, ◌⊎◌, List, ◌∷◌, ◌++◌, get_or, Option, Some, None, inl, inr, sym, subst}
use Rattle.std.specs.Prelude.{All, Contains, IsTrue}
use Rattle.std.proofs.lemmas.Bool.{false≢true}
use Rattle.std.proofs.lemmas.List.Elements.{All-contains}
use Rattle.ms_lits.specs.declared.lit.Lit.{Lit}
use Rattle.ms_lits.specs.declared.note.Note.{Note}
use Rattle.ms_lits.specs.declared.note.Note.TheVariants.{Kept, Temporary}
use Rattle.ms_lits.specs.Literals.{Nogood, IsDerived, IsNew, IsRefuted, IsWhole, opposite_of}
use Rattle.ms_lawful.specs.Problems.{Problem}
use Rattle.ms_lawful.specs.Lines.{AreLines, MayFollow, Stands, first_stage, stage_after}
use Rattle.ms_lawful.proofs.Stages.{lines_after, lines_parts}

-- A literal of the nogood such that what stands neither refutes the others nor gives the opposite of that one.
abbrev pub HasNewLiteral : (Nogood → Type 0) → Nogood → Type 0
HasNewLiteral Among nogood =
    (lit : Lit) × Contains nogood lit × ((others : List Lit) → All (λ other. Contains nogood other × (other ≢ lit)) others
    → (¬ IsRefuted Among others) × (¬ IsDerived Among others (opposite_of lit)))

pub new_literal : (Among : Nogood → Type 0) (nogood : Nogood) → IsNew Among nogood → HasNewLiteral Among nogood
new_literal Among nogood fresh = (
  fresh.lit,
  fresh.contained,
  λ others each.
      let whole : IsWhole fresh.set others = λ k d h. elim (All-contains (λ other. (other ≡ fresh.lit) ⊎ IsTrue (fresh.set other)) nogood (get_or others k d) fresh.others (each k d h).0) [
        | inl same ↦ absurd ((each k d h).1 same)
        | inr holds ↦ holds
      ] in (
        (λ refuted. elim (refuted fresh.set whole fresh.closed) [ inl has ↦ fresh.none_whole has | inr both ↦ fresh.one_sign both ]),
        (λ derived. false≢true (sym fresh.lacks ∙ derived fresh.set whole fresh.closed)),
      ),
)

learned_line : (problem : Problem) (lines : List Note) (owed : Option (List ℕ)) (note : Note) (nogood : Nogood) → MayFollow problem lines owed note → (note ≡ Kept nogood) ⊎ ((note ≡ Temporary nogood) × (owed ≡ None)) → IsNew (Stands problem lines) nogood
learned_line problem lines None (Kept n) nogood line is = elim is [
  | inl same ↦ let e : n ≡ nogood = cc in subst (IsNew (Stands problem lines)) e line.is_new
  | inr other ↦ let e = other.0 in let clash : ⊥ = cc in absurd clash
]
learned_line problem lines None (Temporary n) nogood line is = elim is [
  | inl same ↦ let clash : ⊥ = cc in absurd clash
  | inr other ↦ let same = other.0 in let e : n ≡ nogood = cc in subst (IsNew (Stands problem lines)) e line.is_new
]
learned_line problem lines (Some answer) note nogood line is = owed_line note line is
  where
    owed_line : (first : Note) → MayFollow problem lines (Some answer) first → (first ≡ Kept nogood) ⊎ ((first ≡ Temporary nogood) × (Some answer ≡ None)) → IsNew (Stands problem lines) nogood
    owed_line (Temporary n) follows why = elim why [
      | inl same ↦ let clash : ⊥ = cc in absurd clash
      | inr other ↦ let nothing = other.1 in let clash : ⊥ = cc in absurd clash
    ]
    owed_line first follows why = absurd follows
learned_line problem lines None note nogood line is = elim is [
  | inl same ↦ let clash : ⊥ = cc in absurd clash
  | inr other ↦ let same = other.0 in let clash : ⊥ = cc in absurd clash
]

pub learned_new : (problem : Problem) (before rest : List Note) (line : Note) (nogood : Nogood) → AreLines problem first_stage (before ++ line ∷ rest) → (line ≡ Kept nogood) ⊎ ((line ≡ Temporary nogood) × ((stage_after first_stage before).owed ≡ None)) → HasNewLiteral (Stands problem before) nogood
learned_new problem before rest line nogood lawful is =
    let stage = stage_after first_stage before in
    let here = (lines_parts problem first_stage before (line ∷ rest) lawful).1.0 in
    subst (λ lines. HasNewLiteral (Stands problem lines) nogood) (lines_after first_stage before)
    (new_literal (Stands problem stage.lines) nogood (learned_line problem stage.lines stage.owed line nogood here is))
