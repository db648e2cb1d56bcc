-- Walks along edges.
use Rattle.std.proofs.Common.{◌≡◌, ℕ, zero, suc, List, refl, subst}
use Rattle.ms_graph.specs.declared.edge.Edge.{Edge}
use Rattle.ms_graph.specs.Components.{Walk, Reaches, IsEdge}

abbrev pub some_edge : Edge
some_edge = record { from = 0; to = 0 }

pub reaches_self : (edges : List Edge) (a : ℕ) → Reaches edges a a
reaches_self edges a = record { steps = zero; walk = refl }

pub reaches_more : (edges : List Edge) (a b c : ℕ) → Reaches edges a b → IsEdge edges b c → Reaches edges a c
reaches_more edges a b c reaches edge = record { steps = suc reaches.steps; walk = (b, reaches.walk, edge) }

walk_joined : (edges : List Edge) (steps a b c : ℕ) → Reaches edges a b → Walk edges steps b c → Reaches edges a c
walk_joined edges zero a b c reaches walk = subst (λ x. Reaches edges a x) walk reaches
walk_joined edges (suc steps) a b c reaches walk =
    reaches_more edges a walk.0 c (walk_joined edges steps a b walk.0 reaches walk.1) walk.2

pub reaches_through : (edges : List Edge) (a b c : ℕ) → Reaches edges a b → Reaches edges b c → Reaches edges a c
reaches_through edges a b c first then = walk_joined edges then.steps a b c first then.walk

pub reaches_between : (edges : List Edge) (a a_new b b_new : ℕ) → a ≡ a_new → b ≡ b_new → Reaches edges a b → Reaches edges a_new b_new
reaches_between edges a a_new b b_new same_a same_b reaches =
    subst (λ x. Reaches edges x b_new) same_a (subst (λ x. Reaches edges a x) same_b reaches)
