-- `twin::read_values` meets its contract, refusal by refusal. Assumes nothing.
use Prim.Native.Nat.{◌%◌}
use native.Mathlib.Omega.{arith}
use mathlib.Core.Path.{refl}
use lib.ListN.{length}
use borrow.Author.Tests.{lt-ltb, le-ltb, eq-eqb, ne_eqb}
use Rattle.laws.specs.Refusals.{first_of}
use Rattle.twin.specs.Steps.{early, values_after}
use Rattle.twin.proofs.read_values.Goals as goal

pub returns-then-b-ne0 : goal.returns-then-b-ne0
unfolding early values_after first_of
returns-then-b-ne0 c =
    record {
      answer = simp (ne_eqb (length c.args.b.now % 8) 0 (λ e. omega arith)) refl;
      room = simp (ne_eqb (length c.args.b.now % 8) 0 (λ e. omega arith)) refl;
    }

pub returns-then-b-gt-MOST : goal.returns-then-b-gt-MOST
unfolding early values_after first_of
returns-then-b-gt-MOST c =
    record {
      answer = simp (eq-eqb (length c.args.b.now % 8) 0 (omega arith), lt-ltb _ _ c.if-b-gt-MOST.true) refl;
      room = simp (eq-eqb (length c.args.b.now % 8) 0 (omega arith), lt-ltb _ _ c.if-b-gt-MOST.true) refl;
    }

pub returns-then-from-set : goal.returns-then-from-set
unfolding early values_after first_of
returns-then-from-set c =
    let over = lt-ltb 511 c.args.set (omega (arith, c.if-from-set.true, c.from.ensures)) in
    record {
      answer = simp (eq-eqb _ _ c.if-b-ne0.false, le-ltb _ _ c.if-b-gt-MOST.false, over) refl;
      room = simp (eq-eqb _ _ c.if-b-ne0.false, le-ltb _ _ c.if-b-gt-MOST.false, over) refl;
    }

pub returns : goal.returns
unfolding early values_after first_of
returns c =
    let small = le-ltb 511 c.args.set (omega (arith, c.if-from-set.false, c.from.ensures)) in
    record {
      answer = simp (eq-eqb _ _ c.if-b-ne0.false, le-ltb _ _ c.if-b-gt-MOST.false, small) refl;
      room = simp (eq-eqb _ _ c.if-b-ne0.false, le-ltb _ _ c.if-b-gt-MOST.false, small) c.read_floats.ensures;
    }
