use Rattle.std.proofs.Common.{◌<◌, List, ℕ, length, sym, subst}
use Rattle.std.specs.List.{All}
use Rattle.ms_complete_tests.proofs.Named.{are_named}
use Rattle.ms_complete_tests.proofs.programs.texts.Goals as goal

pub lines-requires : goal.lines-requires
lines-requires c =
    let terms = length c.names.new.terms in
    let below = subst (λ (names : List ℕ). All (λ name. name < terms) names) (sym c.as_slice.ensures.value) c.in_ok-names.ensures.below in
    let (count, has) = c.in_ok-take_all.ensures terms below in
    are_named count terms c.take_all.new.complete has
