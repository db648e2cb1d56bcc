use Rattle.std.proofs.Common.{◌≡◌, ◌+◌, ◌≤◌, ℕ, length, get_or}
use Rattle.ms_cone.specs.declared.links.Link.{Link}
use Rattle.ms_cone.specs.Chains.{IsLinkedFrom}
use Rattle.ms_cone.specs.Search.{Follows}
use Rattle.ms_cone.proofs.search.Search.follow.Given as goal

abbrev pub invariant-loop-rest : goal.invariant-loop-rest
invariant-loop-rest l = record {
  within : l.rest ≤ length l.links;
  found : (k : ℕ) (d : Link) → l.rest ≡ k + 1 → (get_or l.links k d).from ≡ l.fn.atom;
  follows : Follows l.initial.self l.self l.fn.atom (IsLinkedFrom l.links l.rest l.fn.atom);
}

abbrev pub decreases-loop-rest : goal.decreases-loop-rest
decreases-loop-rest l = l.rest
