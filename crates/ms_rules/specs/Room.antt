-- What a scratch for the test by propagation has room for.
use Rattle.std.specs.Prelude.{ℕ}

pub record RuleRoom : Type 0 where
  pub atoms : ℕ
  pub rules : ℕ
