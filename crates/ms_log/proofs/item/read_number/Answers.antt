use Rattle.std.proofs.Common.{◌≡◌, ◌<◌, ◌≤◌, ◌^◌, ◌-◌, ℕ, sym, subst, inl, inr}
use Rattle.std.specs.Prelude.{Result, Ok, Err, MatchOption}
use Rattle.std.specs.Result.{result_ok, OkIff}
use Rattle.std.proofs.lemmas.Bool.{cases_lt}
use Rattle.ms_log.proofs.Numerals.{thing_read}
use Rattle.ms_log.proofs.item.read_number.Goals as goal

narrowed : {E : Type 0} (r : Result ℕ E) (n : ℕ) → OkIff r (n < 2 ^ 32) n → MatchOption (result_ok r) (2 ^ 32 ≤ n) (λ m. (m ≡ n) × (m < 2 ^ 32))
narrowed (Ok m) n is = (is.1, subst (λ k. k < 2 ^ 32) (sym is.1) is.0)
narrowed (Err e) n is = elim (cases_lt n (2 ^ 32)) [ inl low ↦ absurd (is low) | inr high ↦ high ]

pub returns : goal.returns
returns c =
    let n = c.in_ok-number.number in
    thing_read c.args.word.now n c.in_ok-number.ensures.0 c.in_ok-number.ensures.1 c.ok.result
    (subst (λ o. MatchOption o (2 ^ 32 ≤ n - 1) (λ m. (m ≡ n - 1) × (m < 2 ^ 32))) (sym c.ok.ensures.value) (narrowed c.try_from.result (n - 1) c.try_from.ensures))
