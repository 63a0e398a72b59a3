-- The calls of arith. Assumes nothing.
use mathlib.Core.Path.{sym, ◌∙◌}
use Rattle.arith.proofs.sum_of.Reads as sum_of
use Rattle.arith.proofs.sum_of.Kinds as sum-of-kinds
use Rattle.arith.proofs.mean_of.Reads as mean-of
use Rattle.arith.proofs.mean_of.Kinds as mean-of-kinds
use Rattle.arith.proofs.largest_of.Reads as largest-of
use Rattle.arith.proofs.largest_of.Kinds as largest-of-kinds
use Rattle.arith.proofs.smallest_of.Reads as smallest-of
use Rattle.arith.proofs.smallest_of.Kinds as smallest-of-kinds
use Rattle.arith.proofs.range_of.Reads as range-of
use Rattle.arith.proofs.range_of.Kinds as range-of-kinds
use Rattle.arith.proofs.or_nan.Reads as or-nan
use Rattle.arith.proofs.or_nan.Kinds as or-nan-kinds
use Rattle.arith.proofs.deviation_of.Reads as deviation-of
use Rattle.arith.proofs.deviation_of.Kinds as deviation-of-kinds
use Rattle.arith.proofs.moving_range.Reads as moving-range
use Rattle.arith.proofs.moving_range.Kinds as moving-range-kinds
use Rattle.promises.proofs.Coincide.{Coincide}

sum-of-one : Coincide 1 sum-of-kinds.ps sum-of-kinds.r sum_of.Post (λ κs x s. x)
sum-of-one κs a x y s t p q = p ∙ sym q

mean-of-one : Coincide 1 mean-of-kinds.ps mean-of-kinds.r mean-of.Post (λ κs x s. x)
mean-of-one κs a x y s t p q = p ∙ sym q

largest-of-one : Coincide 1 largest-of-kinds.ps largest-of-kinds.r largest-of.Post (λ κs x s. x)
largest-of-one κs a x y s t p q = p ∙ sym q

smallest-of-one : Coincide 1 smallest-of-kinds.ps smallest-of-kinds.r smallest-of.Post (λ κs x s. x)
smallest-of-one κs a x y s t p q = p ∙ sym q

range-of-one : Coincide 1 range-of-kinds.ps range-of-kinds.r range-of.Post (λ κs x s. x)
range-of-one κs a x y s t p q = p ∙ sym q

or-nan-one : Coincide 0 or-nan-kinds.ps or-nan-kinds.r or-nan.Post (λ κs x s. x)
or-nan-one κs a x y s t p q = p ∙ sym q

deviation-of-one : Coincide 1 deviation-of-kinds.ps deviation-of-kinds.r deviation-of.Post (λ κs x s. x)
deviation-of-one κs a x y s t p q = p ∙ sym q

moving-range-one : Coincide 0 moving-range-kinds.ps moving-range-kinds.r moving-range.Post (λ κs x s. x)
moving-range-one κs a x y s t p q = p ∙ sym q
