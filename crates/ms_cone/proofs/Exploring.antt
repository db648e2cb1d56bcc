-- How far a search has come.
use Rattle.std.proofs.Common.{◌≡◌, ◌+◌, ℕ, List, [], Some, Contains, slice_get, inl, inr, refl, sym, ap, subst, ◌∙◌, arith}
use Rattle.std.proofs.lemmas.Bool.{cases_lt}
use Rattle.std.proofs.lemmas.Option.{same_Some, slice_get_within}
use Rattle.ms_graph.specs.declared.edge.Edge.{Edge}
use Rattle.ms_cone.specs.Search.{Found, HasEdge, Follows, IsExplored, IsStart, Visits, Advances}
use Rattle.ms_cone.proofs.Members.{at_contains, contains_at}

no_edge : (edges : List Edge) (e : Edge) → edges ≡ [] → ¬ Contains edges e
no_edge edges e none here = let inside : Contains [] e = subst (λ (es : List Edge). Contains es e) none here in let less = inside.1 in omega (arith, less)

-- where the starts are members and none was visited
pub explored_start : (Is : ℕ → ℕ → Type 0) (starts : List ℕ) (s : Found) → IsStart starts s → IsExplored Is starts s
explored_start Is starts s start = record {
  begun = start.begun;
  sound = λ a b edge. absurd (no_edge s.edges (record { from = edge.from; to = edge.to }) start.edges edge.edge);
  whole = λ i b a less at is. let none = start.visited in absurd (omega (arith, less, none));
}

-- one more member was followed
pub explored_more : (Is : ℕ → ℕ → Type 0) (starts : List ℕ) (old new : Found) (b : ℕ) → IsExplored Is starts old → slice_get old.members old.visited ≡ Some b → Follows old new b (λ a. Is a b)
    → IsExplored Is starts (record new { visited = new.visited + 1 })
explored_more Is starts old new b explored at follows =
    let place = old.visited in
    let inside = slice_get_within old.members place b at in
    let next : Found = record new { visited = new.visited + 1 } in
    let stays = follows.visited in
    let moved : (x y : ℕ) → HasEdge new x y → HasEdge next x y = λ x y edge. record { from = edge.from; to = edge.to; start = edge.start; end = edge.end; edge = edge.edge } in
    record {
      begun = λ a is_start. let here = explored.begun a is_start in
          contains_at new.members here.0 a (follows.members.kept here.0 a (at_contains old.members a here));
      sound = λ x y edge. elim (follows.only x y (record { from = edge.from; to = edge.to; start = edge.start; end = edge.end; edge = edge.edge })) [
        | inl before ↦ explored.sound x y before
        | inr new_one ↦ subst (λ z. Is x z) (sym new_one.1) new_one.0
      ];
      whole = λ i c a less there is. moved a c (elim (follows.members.only i c there) [
        | inr after ↦ absurd (let le = after.1 in omega (arith, le, inside, less, stays))
        | inl before ↦ elim (cases_lt i place) [
          | inl earlier ↦ follows.kept a c (explored.whole i c a earlier before is)
          | inr more ↦ let here : i ≡ place = omega (arith, more, less, stays) in
              let same : c ≡ b = same_Some c b (sym before ∙ ap (λ k. slice_get old.members k) here ∙ at) in
              subst (λ z. HasEdge new a z) (sym same) (follows.each a (subst (λ z. Is a z) same is))
        ]
      ]);
    }

pub visits : (Is : ℕ → ℕ → Type 0) (old new : Found) (b : ℕ) → slice_get old.members old.visited ≡ Some b → Follows old new b (λ a. Is a b) → Visits old (record new { visited = new.visited + 1 }) Is
visits Is old new b at follows = record {
  atoms = follows.atoms;
  visited = ap (λ n. n + 1) follows.visited;
  explored = λ starts explored. explored_more Is starts old new b explored at follows;
}

-- either search visits, and the other stays as it is
pub first_advances : (Is Other : ℕ → ℕ → Type 0) (old new other : Found) → Visits old new Is → Advances old new Is other other Other
first_advances Is Other old new other visits = record {
  atoms = visits.atoms;
  other_atoms = refl;
  visited = let more = visits.visited in omega (arith, more);
  explored = visits.explored;
  other_explored = λ starts explored. explored;
}

pub second_advances : (Is Other : ℕ → ℕ → Type 0) (old other other_new : Found) → Visits other other_new Other → Advances old old Is other other_new Other
second_advances Is Other old other other_new visits = record {
  atoms = refl;
  other_atoms = visits.atoms;
  visited = let more = visits.visited in omega (arith, more);
  explored = λ starts explored. explored;
  other_explored = visits.explored;
}
