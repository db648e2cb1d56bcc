-- How far a search is with each node.
use Rattle.std.specs.Prelude.{ℕ, ◌≡◌, Bool, true, false, List, [], ◌∷◌, count_by, slice_set}
use Rattle.std.specs.List.{slice_index_or}
use Rattle.ms_graph.specs.declared.stage.Stage.{Stage}
use Rattle.ms_graph.specs.declared.stage.Stage.TheVariants.{New, Open, Closed}

-- the stage of a node, which is new where the list has none
abbrev pub stage_of : List Stage → ℕ → Stage
stage_of stages a = slice_index_or stages a New

-- nodes that were entered are not new again
abbrev pub KeepsEntered : List Stage → List Stage → Type 0
KeepsEntered old new = (a : ℕ) → stage_of new a ≡ New → stage_of old a ≡ New

abbrev pub IsClosed : Stage → Type 0
IsClosed New = ⊥
IsClosed (Open place) = ⊥
IsClosed (Closed number) = Unit {0}

abbrev pub is_new : Stage → Bool
is_new New = true
is_new (Open place) = false
is_new (Closed number) = false

abbrev pub new_count : List Stage → ℕ
new_count stages = count_by is_new stages

-- the nodes become closed with this number
abbrev pub numbered : List Stage → List ℕ → ℕ → List Stage
numbered stages [] number = stages
numbered stages (a ∷ nodes) number = numbered (slice_set stages a (Closed number)) nodes number
