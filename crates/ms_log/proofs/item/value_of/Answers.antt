use Rattle.std.proofs.Common.{◌≡◌, ◌≤◌, ◌<◌, ◌^◌, ℕ, length, rules, sym, subst, inl, inr}
use Rattle.std.specs.Prelude.{None, Result, Ok, Err, MatchOption, MatchResult}
use Rattle.std.specs.Result.{result_ok, OkIff}
use Rattle.std.specs.Str.{IsUtf8}
use Rattle.std.specs.Str.Parse.{digits_value}
use Rattle.std.proofs.lemmas.Bool.{cases_lt}
use Rattle.std.proofs.lemmas.Fmt.{IsAscii-from_digits}
use Rattle.std.proofs.lemmas.Str.{IsUtf8-from_ascii}
use Rattle.std.proofs.lemmas.Str.Parse.{parse_digits}
use Rattle.ms_log.proofs.Numerals.{own}
use Rattle.ms_log.proofs.item.value_of.Goals as goal

no_error : {T E : Type 0} (r : Result T E) (P : T → Type 0) (Q : E → Type 0) (U : Type 0) → U → MatchResult r P (λ e. (U → ⊥) × Q e) → result_ok r ≡ None → ⊥
no_error (Ok x) P Q U u m e = absurd (cc)
no_error (Err x) P Q U u m e = m.0 u

from_parse : {E : Type 0} (r : Result ℕ E) (v len : ℕ) → 0 < len → OkIff r ((0 < len) × (v < 2 ^ 64)) v → MatchOption (result_ok r) (2 ^ 64 ≤ v) (λ n. (n ≡ v) × (n < 2 ^ 64))
from_parse (Ok x) v len some m = (m.1, subst (λ n. n < 2 ^ 64) (sym m.1) m.0.1)
from_parse (Err x) v len some m = elim (cases_lt v (2 ^ 64)) [ inl low ↦ absurd (m (some, low)) | inr high ↦ high ]

pub returns-in_err-ok : goal.returns-in_err-ok
returns-in_err-ok c =
    let utf8 = IsUtf8-from_ascii c.args.digits.now (IsAscii-from_digits c.args.digits.now (own.to c.args.digits.now c.requires.digits)) in
    absurd (no_error c.from_utf8.result _ _ (IsUtf8 c.args.digits.now) utf8 c.from_utf8.ensures.cases (search rules))

pub returns : goal.returns
returns c =
    let same : c.in_ok-ok.field-0.now ≡ c.args.digits.now = search rules in
    let parsed = rw same at c.parse.ensures.value.0 in
    subst (λ o. MatchOption o (2 ^ 64 ≤ digits_value 10 c.args.digits.now) (λ n. (n ≡ digits_value 10 c.args.digits.now) × (n < 2 ^ 64))) (search rules)
    (from_parse c.parse.result (digits_value 10 c.args.digits.now) (length c.args.digits.now) c.requires.some (parse_digits own 64 c.args.digits.now c.parse.result parsed c.requires.digits))
