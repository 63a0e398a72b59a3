-- `rules::widths_of` meets its contract: its operations are those of the definition. Assumes nothing.
use mathlib.Core.Path.{refl}
use borrow.Author.Tests.{eq-eqb, ne_eqb}
use native.Mathlib.Omega.{arith}
use lib.Ieee.{of_bits}
use Rattle.rules.specs.Lines.{one_sigma, two_sigma}
use Rattle.rules.proofs.widths_of.Goals as goal

pub returns-then-width-eq-OWN_WIDTHS : goal.returns-then-width-eq-OWN_WIDTHS
unfolding one_sigma two_sigma of_bits
returns-then-width-eq-OWN_WIDTHS c =
    rw (eq-eqb c.args.width 1 (omega (arith, c.if-width-eq-OWN_WIDTHS.true))) refl

pub returns : goal.returns
unfolding one_sigma two_sigma of_bits
returns c =
    rw (ne_eqb _ 1 c.if-width-eq-OWN_WIDTHS.false) refl
