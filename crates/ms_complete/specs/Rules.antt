-- Rules by the numbers of their heads and bodies, and what their completion says in these numbers.
use Rattle.std.specs.Prelude.{ℕ, ◌≡◌, ◌≤◌, ◌⊎◌, ◌++◌, ◌↔◌, Bool, true, false, List, [], ◌∷◌, Option, Some, None, map, Any, Contains, ⊤, slice_get}
use Rattle.std.specs.Option.{option_map}
use Rattle.std.specs.List.Sorted.{IsNonDecreasingBy}
use Rattle.ms_lits.specs.declared.lit.Lit.{Lit}
use Rattle.ms_lits.specs.Literals.{Nogood, opposite_of}
use Rattle.ms_join.specs.declared.ground_rule.GroundKind.{GroundKind}
use Rattle.ms_join.specs.declared.ground_rule.GroundKind.TheVariants.{Normal, Choice, Constraint}
use Rattle.ms_join.specs.declared.ground_rule.GroundRule.{GroundRule}
use Rattle.ms_join.specs.Things.{Body, Thing}
use Rattle.ms_join.specs.Things.Thing.{atom, body, tuple, aggregate}
use Rattle.ms_things.specs.Signs.{Signed, IsNogoodOf, plus, minus, turned}
use Rattle.ms_things.specs.Completion.{parts_of}
use Rattle.ms_complete.specs.declared.key.NumberedRule.{NumberedRule}
use Rattle.ms_complete.specs.declared.key.Support.{Support}
use Rattle.ms_complete.specs.Keys.{plain_body}
use Rattle.ms_complete.specs.Sets.{Writes, pair}

abbrev pub IsAtomAt : List Thing → ℕ → ℕ → Type 0
IsAtomAt things a number = slice_get things number ≡ Some (atom a)

abbrev pub IsHeadAt : List Thing → Option ℕ → Option ℕ → Type 0
IsHeadAt things None None = ⊤
IsHeadAt things None (Some number) = ⊥
IsHeadAt things (Some h) None = ⊥
IsHeadAt things (Some h) (Some number) = IsAtomAt things h number

pub record IsNumbered (things : List Thing) (rule : GroundRule) (r : NumberedRule) : Type 0 where
  pub kind : r.kind ≡ rule.kind
  pub head : IsHeadAt things rule.head r.head
  pub body_at : slice_get things r.body ≡ Some (body (plain_body rule))

abbrev pub holds : ℕ → Lit
holds number = record { var = number; truth = true }

abbrev pub fails : ℕ → Lit
fails number = record { var = number; truth = false }

-- the atoms with one sign
abbrev pub signed_atoms : Bool → List ℕ → List Signed
signed_atoms truth atoms = map (λ a. record { thing = atom a; truth = truth }) atoms

-- a body holds, and one of its parts doesn't
abbrev pub PartsSay : ℕ → List Lit → Nogood → Type 0
PartsSay number parts nogood = Any (λ part. Writes (pair (holds number) (opposite_of part)) nogood) parts

-- that, or its parts hold, and it doesn't
abbrev pub BodySays : ℕ → List Lit → Nogood → Type 0
BodySays number parts nogood = PartsSay number parts nogood ⊎ Writes (parts ++ fails number ∷ []) nogood

-- a body holds and one of its parts doesn't, or its parts hold and it doesn't
abbrev pub BodyNogood : List Thing → Body → Nogood → Type 0
BodyNogood things b nogood = Any (λ part. IsNogoodOf things (plus (body b) ∷ turned part ∷ []) nogood) (parts_of b) ⊎ IsNogoodOf things (minus (body b) ∷ parts_of b) nogood

-- the completion of a thing that is declared
abbrev pub ThingNogood : List Thing → Option Thing → Nogood → Type 0
ThingNogood things None nogood = ⊥
ThingNogood things (Some (atom a)) nogood = ⊥
ThingNogood things (Some (body b)) nogood = BodyNogood things b nogood
ThingNogood things (Some (tuple t)) nogood = ⊥
ThingNogood things (Some (aggregate g)) nogood = ⊥

abbrev pub ThingSays : List Thing → ℕ → Nogood → Type 0
ThingSays things number nogood = ThingNogood things (slice_get things number) nogood

-- the completion of the things from a number on
abbrev pub NewSay : List Thing → ℕ → Nogood → Type 0
NewSay things known nogood = (number : ℕ) × (known ≤ number) × ThingSays things number nogood

-- the body of a rule holds, and its head doesn't, or it has none
abbrev pub SaysByKind : GroundKind → Option ℕ → ℕ → Nogood → Type 0
SaysByKind Normal (Some head) b nogood = Writes (pair (holds b) (fails head)) nogood
SaysByKind Normal None b nogood = ⊥
SaysByKind Choice head b nogood = ⊥
SaysByKind Constraint head b nogood = Writes (holds b ∷ []) nogood

abbrev pub RuleSays : NumberedRule → Nogood → Type 0
RuleSays r nogood = SaysByKind r.kind r.head r.body nogood

-- the support by a rule that has a head
abbrev pub support_of : NumberedRule → Option Support
support_of r = option_map (λ h. record { head = h; body = r.body }) r.head

abbrev pub IsSupport : NumberedRule → Support → Type 0
IsSupport r s = (r.head ≡ Some s.head) × (r.body ≡ s.body)

pub record AreSupports (rules : List NumberedRule) (supports : List Support) : Type 0 where
  pub each : (s : Support) → Contains supports s → Any (λ r. IsSupport r s) rules
  pub all : (s : Support) → Any (λ r. IsSupport r s) rules → Contains supports s

-- they stand in the order of their heads
abbrev pub IsByHead : List Support → Type 0
IsByHead supports = IsNonDecreasingBy (λ s. s.head) supports

abbrev pub head_lits : ℕ → List Support → List Lit
head_lits head own = holds head ∷ map (λ s. fails s.body) own

-- These are the supports of the head.
abbrev pub AreOwn : List Support → ℕ → List Support → Type 0
AreOwn supports head own = (s : Support) → Contains own s ↔ (Contains supports s × (s.head ≡ head))

-- an atom holds, and none of its supports does
abbrev pub HeadSays : List Support → ℕ → Nogood → Type 0
HeadSays supports head nogood = (own : List Support) × AreOwn supports head own × Writes (head_lits head own) nogood
