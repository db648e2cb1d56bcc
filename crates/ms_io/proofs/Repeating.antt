-- What a source that repeats one byte gives.
use Rattle.std.proofs.Common.{◌≡◌, ◌∙◌, ℕ, ◌-◌, ◌≤◌, List, ◌++◌, length, take, drop, min, replicate, Some, sym, subst, ap, arith}
use Rattle.std.proofs.lemmas.List.{length-replicate, take-replicate, drop-replicate, take-append-le}
use Rattle.std.proofs.Math.Seq.{take-length}
use Rattle.ms_io.specs.Streams.{Moves}

-- The front of a buffer has the byte as often as it was moved.
pub repeats_moved : (byte left n room : ℕ) (now filled rest next : List ℕ) → replicate left byte ≡ now → n ≡ min left room → filled ≡ replicate n byte → next ≡ replicate (left - n) byte → Moves (Some now) n (filled ++ rest) (Some next)
repeats_moved byte left n room now filled rest next is count full after =
    let within : n ≤ left = omega arith in
    let size : length filled ≡ n = ap length full ∙ length-replicate n byte in (
      subst (λ bytes. n ≤ length bytes) is (omega (arith, length-replicate left byte)),
      take-append-le n filled rest (omega arith) ∙ ap (λ k. take k filled) (sym size) ∙ take-length filled ∙ full ∙ sym (take-replicate n left byte within) ∙ ap (take n) is,
      ap Some (after ∙ sym (drop-replicate n left byte) ∙ ap (drop n) is),
    )
