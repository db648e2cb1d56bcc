-- What a reader finds.
use Rattle.std.specs.Prelude.{ℕ, ◌≡◌, ◌≢◌, ◌<◌, ◌≤◌, List, [], ◌∷◌, ◌++◌, length, Option, Some, None, IfSome}
use Rattle.ms_text.specs.declared.token.TokenKind.TheVariants.{RightParen}
use Rattle.ms_grammar.specs.declared.value.Value.{Value}
use Rattle.ms_grammar.specs.Words.{Word, name, sign}
use Rattle.ms_grammar.specs.Reading.{EndsValue}
use Rattle.ms_call.specs.declared.command.Call.{Call}
use Rattle.ms_call.specs.Commands.{AreArguments, IsCall}

-- What is found is the one that there is, and something is found where there is one.
abbrev pub Finds : {V : Type 0} → (V → Type 0) → Option V → Type 0
Finds Is None = (v : _) → Is v → ⊥
Finds Is (Some v) = Is v × ((other : _) → Is other → other ≡ v)

-- This is one, and there is no other.
abbrev pub IsOnly : {V : Type 0} → (V → Type 0) → V → Type 0
IsOnly Is v = Is v × ((other : _) → Is other → other ≡ v)

-- So many words at the front are this, and what follows doesn't carry it on.
pub record IsFront {V : Type 0} (Is : List Word → V → Type 0) (ws : List Word) (found : V × ℕ) : Type 0 where
  pub first : List Word
  pub rest : List Word
  pub words_are : ws ≡ first ++ rest
  pub count_is : found.1 ≡ length first
  pub is : Is first found.0
  pub ends : EndsValue rest

-- The words at the front are the values up to a `)`, and so many words stand behind it.
pub record AreClosed (ws : List Word) (found : List Value × ℕ) : Type 0 where
  pub inside : List Word
  pub rest : List Word
  pub words_are : ws ≡ inside ++ sign RightParen ∷ rest
  pub count_is : found.1 ≡ length rest
  pub values_are : AreArguments inside found.0

pub record AreSomeClosed (ws : List Word) (found : List Value × ℕ) : Type 0 where
  pub some : found.0 ≢ []
  pub closed : AreClosed ws found

-- A call of this name, where the words follow the name. The count has the name.
abbrev pub IsCallAfter : List ℕ → List Word → Call × ℕ → Type 0
IsCallAfter called ws found = IsFront IsCall (name called ∷ ws) found

-- There is a first one, and there are no more than so many.
abbrev pub FitWithin : {V : Type 0} → ℕ → Option (V × ℕ) → Type 0
FitWithin most found = IfSome found (λ f. (0 < f.1) × (f.1 ≤ most))
