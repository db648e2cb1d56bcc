-- One step of a run, and what is made on the way.
use Rattle.std.proofs.Common.{◌≡◌, ℕ, suc, ◌+◌, ◌≤◌, nat_le, zero, Bool, true, false, List, [], ◌∷◌, Option, Some, None, refl, ap, sym, arith, if◌then◌else◌}
use Rattle.std.specs.Prelude.{⊤}
use Rattle.std.proofs.lemmas.Bool.{leb-true}
use Rattle.std.specs.Option.{option_map, option_and_then}
use Rattle.ms_text.specs.declared.token.TokenKind.{TokenKind}
use Rattle.ms_text.specs.declared.token.TokenKind.TheVariants.{LeftParen}
use Rattle.ms_grammar.specs.declared.term.TextTerm.{Neg}
use Rattle.ms_grammar.specs.declared.part.Part.{Part}
use Rattle.ms_grammar.specs.Words.{Word}
use Rattle.ms_grammar.specs.Terms.{both, round}
use Rattle.ms_read_term.specs.declared.level.PendingSum.{PendingSum}
use Rattle.ms_read_term.specs.declared.level.PendingProduct.{PendingProduct}
use Rattle.ms_read_term.specs.declared.level.Level.{Level}
use Rattle.ms_read_term.specs.declared.bracket.Frame.{Frame}
use Rattle.ms_read_term.specs.declared.reader.Place.TheVariants.{Named, Behind}
use Rattle.ms_read_term.specs.declared.reader.Reader.{Reader}
use Rattle.ms_read_term.specs.Closing.{negated}
use Rattle.ms_read_term.specs.Machine.{Outcome, made, step, carried, run, kind_of}

-- Two things are there, and this is made of them.
pub record Both {A B C : Type 0} (f : A → B → Option C) (a : Option A) (b : Option B) (c : C) : Type 0 where
  pub left : A
  pub right : B
  pub left_is : a ≡ Some left
  pub right_is : b ≡ Some right
  pub made_is : f left right ≡ Some c

pub both_some : {A B C : Type 0} (f : A → B → Option C) (a : Option A) (b : Option B) (c : C) → both f a b ≡ Some c → Both f a b c
both_some f (Some a) (Some b) c e = record { left = a; right = b; left_is = refl; right_is = refl; made_is = e }
both_some f (Some a) None c e = absurd (let false' : ⊥ = cc in false')
both_some f None b c e = absurd (let false' : ⊥ = cc in false')

pub record Then {A B : Type 0} (f : A → Option B) (a : Option A) (b : B) : Type 0 where
  pub from : A
  pub from_is : a ≡ Some from
  pub made_is : f from ≡ Some b

pub then_some : {A B : Type 0} (f : A → Option B) (a : Option A) (b : B) → option_and_then f a ≡ Some b → Then f a b
then_some f (Some a) b e = record { from = a; from_is = refl; made_is = e }
then_some f None b e = absurd (let false' : ⊥ = cc in false')

pub record Mapped {A B : Type 0} (f : A → B) (a : Option A) (b : B) : Type 0 where
  pub from : A
  pub from_is : a ≡ Some from
  pub made_is : f from ≡ b

pub some_injective : {A : Type 0} (x y : A) → Some x ≡ Some y → x ≡ y
some_injective x y e = cc

pub map_some : {A B : Type 0} (f : A → B) (a : Option A) (b : B) → option_map f a ≡ Some b → Mapped f a b
map_some f (Some a) b e = record { from = a; from_is = refl; made_is = some_injective _ _ e }
map_some f None b e = absurd (let false' : ⊥ = cc in false')

pub if_some : {A : Type 0} (b : Bool) (x y : A) → (if b then Some x else None) ≡ Some y → (b ≡ true) × (x ≡ y)
if_some true x y e = (refl, some_injective x y e)
if_some false x y e = absurd (let false' : ⊥ = cc in false')

pub made_some : {A : Type 0} (go : A → Outcome) (o : Option A) (x : A) → o ≡ Some x → made go o ≡ go x
made_some go o x e = ap (made go) e

-- what is found behind a word with this outcome
abbrev pub after : Outcome → Word → List Word → Option (Part × List Word)
after o w ws = carried (λ s. run s ws) (λ p. Some (p, w ∷ ws)) None o

pub run_step : (r : Reader) (w : Word) (ws : List Word) (o : Outcome) → step r w ≡ o → run r (w ∷ ws) ≡ after o w ws
run_step r w ws o e = ap (λ x. after x w ws) e

-- what stands before a part
abbrev pub level : Option Part → Option PendingSum → Option PendingProduct → ℕ → Level
level low sum product minuses = record { low = low; sum = sum; product = product; minuses = minuses }

-- behind a part
abbrev pub at : List Frame → Level → Part → Reader
at frames l p = record { frames = frames; level = l; place = Behind p }

-- behind a name
abbrev pub at_name : List Frame → Level → List ℕ → Reader
at_name frames l f = record { frames = frames; level = l; place = Named f }

-- the kind of a token that gives a name no arguments
abbrev pub stays : TokenKind → Type 0
stays LeftParen = ⊥
stays kind = ⊤

-- The words give a name before them no arguments.
abbrev pub Stays : List Word → Type 0
Stays [] = ⊤
Stays (w ∷ ws) = stays (kind_of w)

fitting_height : (p q : Part) (b : Bool) → nat_le p.height 201 ≡ b → (if b then Some p else None) ≡ Some q → (p ≡ q) × (p.height ≤ 201)
fitting_height p q true e h = (some_injective p q h, leb-true _ _ e)
fitting_height p q false e h = absurd (let false' : ⊥ = cc in false')

pub height_of_round : (p q : Part) → round Neg p ≡ Some q → (q.height ≡ suc p.height) × (q.height ≤ 201)
height_of_round p q e =
    let f = fitting_height (record { term = Neg p.term; height = suc p.height; choices = p.choices }) q _ refl e in
    let same : suc p.height ≡ q.height = ap (λ (x : Part). x.height) f.0 in
    (sym same, omega (arith, f.1))

-- a part behind minuses isn't too high
pub negated_height : (m : ℕ) (p q : Part) → p.height ≤ 201 → negated m p ≡ Some q → m + p.height ≤ 201
negated_height zero p q h e = omega arith
negated_height (suc m) p q h e =
    let t = then_some (negated m) (round Neg p) q e in
    let high = height_of_round p t.from t.from_is in
    let deeper : m + t.from.height ≤ 201 = negated_height m t.from q high.1 t.made_is in
    omega (arith, high.0)
