-- The calls of rule sets and of the tests. Assumes nothing.
use mathlib.Core.Path.{◌≡◌, sym, ap, ◌∙◌}
use Prim.Native.Nat.{ℕ}
use Rattle.sets.specs.declared.RuleSet.{RuleSet}
use Rattle.sets.proofs.Answers.{chosen-one, contained-one, counted-one}
use Rattle.sets.proofs.RuleSet.shewhart.Reads as shewhart
use Rattle.sets.proofs.RuleSet.shewhart.Kinds as shewhart-kinds
use Rattle.sets.proofs.RuleSet.nelson.Reads as nelson
use Rattle.sets.proofs.RuleSet.nelson.Kinds as nelson-kinds
use Rattle.sets.proofs.RuleSet.western_electric.Reads as western-electric
use Rattle.sets.proofs.RuleSet.western_electric.Kinds as western-electric-kinds
use Rattle.sets.proofs.RuleSet.none.Reads as none
use Rattle.sets.proofs.RuleSet.none.Kinds as none-kinds
use Rattle.sets.proofs.RuleSet.named.Reads as named
use Rattle.sets.proofs.RuleSet.named.Kinds as named-kinds
use Rattle.sets.proofs.RuleSet.with.Reads as with-test
use Rattle.sets.proofs.RuleSet.with.Kinds as with-kinds
use Rattle.sets.proofs.RuleSet.without.Reads as without
use Rattle.sets.proofs.RuleSet.without.Kinds as without-kinds
use Rattle.sets.proofs.RuleSet.contains.Reads as contains
use Rattle.sets.proofs.RuleSet.contains.Kinds as contains-kinds
use Rattle.sets.proofs.RuleSet.len.Reads as len
use Rattle.sets.proofs.RuleSet.len.Kinds as len-kinds
use Rattle.sets.proofs.RefusalNumbered.number.Reads as refusal-number
use Rattle.sets.proofs.RefusalNumbered.number.Kinds as refusal-number-kinds
use Rattle.sets.proofs.Test.bit.Reads as bit
use Rattle.sets.proofs.Test.bit.Kinds as bit-kinds
use Rattle.sets.proofs.Test.from_bit.Reads as from-bit
use Rattle.sets.proofs.Test.from_bit.Kinds as from-bit-kinds
use Rattle.promises.proofs.Coincide.{Coincide}

-- a set is its mask
by_mask : (x y : RuleSet) → x.mask ≡ y.mask → x ≡ y
by_mask x y e = ap (λ (m : ℕ). record { mask = m }) e

shewhart-one : Coincide 0 shewhart-kinds.ps shewhart-kinds.r shewhart.Post (λ κs x s. x)
shewhart-one κs a x y s t p q = by_mask x y (p ∙ sym q)

nelson-one : Coincide 0 nelson-kinds.ps nelson-kinds.r nelson.Post (λ κs x s. x)
nelson-one κs a x y s t p q = by_mask x y (p ∙ sym q)

western-electric-one : Coincide 0 western-electric-kinds.ps western-electric-kinds.r western-electric.Post (λ κs x s. x)
western-electric-one κs a x y s t p q = by_mask x y (p ∙ sym q)

none-one : Coincide 0 none-kinds.ps none-kinds.r none.Post (λ κs x s. x)
none-one κs a x y s t p q = by_mask x y (p ∙ sym q)

name-one : Coincide 1 named-kinds.ps named-kinds.r named.Post (λ κs x s. x)
name-one κs a x y s t p q = chosen-one x y (p ∙ sym q)

with-one : Coincide 0 with-kinds.ps with-kinds.r with-test.Post (λ κs x s. x)
with-one κs a x y s t p q = chosen-one x y (p ∙ sym q)

without-one : Coincide 0 without-kinds.ps without-kinds.r without.Post (λ κs x s. x)
without-one κs a x y s t p q = chosen-one x y (p ∙ sym q)

contains-one : Coincide 0 contains-kinds.ps contains-kinds.r contains.Post (λ κs x s. x)
contains-one κs a x y s t p q = contained-one x y (p ∙ sym q)

len-one : Coincide 0 len-kinds.ps len-kinds.r len.Post (λ κs x s. x)
len-one κs a x y s t p q = counted-one x y (p ∙ sym q)

refusal-number-one : Coincide 1 refusal-number-kinds.ps refusal-number-kinds.r refusal-number.Post (λ κs x s. x)
refusal-number-one κs a x y s t p q = p ∙ sym q

bit-one : Coincide 0 bit-kinds.ps bit-kinds.r bit.Post (λ κs x s. x)
bit-one κs a x y s t p q = p ∙ sym q

from-bit-one : Coincide 0 from-bit-kinds.ps from-bit-kinds.r from-bit.Post (λ κs x s. x)
from-bit-one κs a x y s t p q = p ∙ sym q
