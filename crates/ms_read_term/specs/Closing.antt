-- What the pending operators of a term make of the part behind them.
use Rattle.std.specs.Prelude.{ℕ, zero, suc, Bool, true, false, Option, Some, None}
use Rattle.std.specs.Option.{option_and_then}
use Rattle.ms_tree.specs.declared.op.Op.{Op}
use Rattle.ms_tree.specs.declared.op.Op.TheVariants.{Add, Sub, Mul, Div, Rem}
use Rattle.ms_grammar.specs.declared.term.TextTerm.{Interval, Neg, Binary}
use Rattle.ms_grammar.specs.declared.part.Part.{Part}
use Rattle.ms_grammar.specs.Terms.{round, joined}
use Rattle.ms_read_term.specs.declared.level.SumSign.{SumSign}
use Rattle.ms_read_term.specs.declared.level.SumSign.TheVariants.{Plus, Minus}
use Rattle.ms_read_term.specs.declared.level.ProductSign.{ProductSign}
use Rattle.ms_read_term.specs.declared.level.ProductSign.TheVariants.{Times, Over, Modulo}
use Rattle.ms_read_term.specs.declared.level.PendingSum.{PendingSum}
use Rattle.ms_read_term.specs.declared.level.PendingProduct.{PendingProduct}
use Rattle.ms_read_term.specs.declared.level.Level.{Level}

abbrev pub op_of_sum : SumSign → Op
op_of_sum Plus = Add
op_of_sum Minus = Sub

abbrev pub op_of_product : ProductSign → Op
op_of_product Times = Mul
op_of_product Over = Div
op_of_product Modulo = Rem

-- nothing stands before the part
abbrev pub no_level : Level
no_level = record { low = None; sum = None; product = None; minuses = 0 }

abbrev pub are_none : Option Part → Option PendingSum → Option PendingProduct → ℕ → Bool
are_none None None None zero = true
are_none low sum product minuses = false

-- whether nothing stands before the part
abbrev pub is_bare : Level → Bool
is_bare level = are_none level.low level.sum level.product level.minuses

-- the part behind so many minuses
abbrev pub negated : ℕ → Part → Option Part
negated zero p = Some p
negated (suc n) p = option_and_then (negated n) (round Neg p)

-- the product that ends with the part
abbrev pub with_product : Option PendingProduct → Part → Option Part
with_product None p = Some p
with_product (Some left) p = joined (Binary (op_of_product left.sign)) left.part p

-- the sum that ends with the part
abbrev pub with_sum : Option PendingSum → Part → Option Part
with_sum None p = Some p
with_sum (Some left) p = joined (Binary (op_of_sum left.sign)) left.part p

-- the term that ends with the part
abbrev pub with_low : Option Part → Part → Option Part
with_low None p = Some p
with_low (Some low) p = joined Interval low p

abbrev pub closed_product : Level → Part → Option Part
closed_product level p = with_product level.product p

abbrev pub closed_sum : Level → Part → Option Part
closed_sum level p = option_and_then (with_sum level.sum) (closed_product level p)

abbrev pub closed_term : Level → Part → Option Part
closed_term level p = option_and_then (with_low level.low) (closed_sum level p)
