-- `plot` meets its contract: no room, all zero, or the columns in front. Assumes nothing.
use mathlib.Core.Path.{refl, sym, ◌∙◌}
use mathlib.Core.Bool.{false}
use native.Mathlib.Omega.{arith}
use lib.ListN.{take}
use lib.Seq.{length-take-le}
use Rattle.laws.proofs.Bools.{told}
use Rattle.laws.proofs.LentAfter.{slice_kept, slice-7}
use Rattle.floats.specs.Values.{plus_zero}
use Rattle.points.specs.Points.{uppers, lowers, outs, zs, has_zs}
use Rattle.points.specs.Plotting.{plot_from}
use Rattle.points.proofs.Filled.{column-length}
use Rattle.points.proofs.Plotting.{has_room, number-6, number-7, number-0, part-zeroed, part-written, front_kept}
use Rattle.points.proofs.plot.Goals as goal

pub returns-then-too_short : goal.returns-then-too_short
returns-then-too_short c =
    record {
      answer = number-6 _ _ (told c.too_short.ensures c.if-too_short.true);
      values = slice_kept plus_zero _ _ 6 (λ e. omega arith) refl;
      ucl = slice_kept plus_zero _ _ 6 (λ e. omega arith) refl;
      lcl = slice_kept plus_zero _ _ 6 (λ e. omega arith) refl;
      out = slice_kept false _ _ 6 (λ e. omega arith) refl;
      z = slice_kept plus_zero _ _ 6 (λ e. omega arith) refl;
      has_z = slice_kept false _ _ 6 (λ e. omega arith) refl;
    }

pub returns-then-not-sound : goal.returns-then-not-sound
returns-then-not-sound c =
    let args = c.args in
    let values = args.values.now in
    let n = args.n in
    let g = plot_from args.cl n values args.ucl.now in
    let fine = told c.too_short.ensures c.if-too_short.false in record {
      answer = number-7 _ g fine (sym c.fill_all-sound.ensures.sound ∙ c.if-not-sound.true);
      values = slice-7 plus_zero (take n values) values values refl (c.fill.ensures.after (λ y e. e));
      ucl = part-zeroed plus_zero n (uppers g) c.fill_all-sound.new.ucl args.ucl.now c.fill_all-sound.auto.ucl (c.fill-then-not-sound.ensures.after (λ y e. e));
      lcl = part-zeroed plus_zero n (lowers g) c.fill_all-sound.new.lcl args.lcl.now c.fill_all-sound.auto.lcl (c.fill-then-not-sound-2.ensures.after (λ y e. e));
      out = part-zeroed false n (outs g) c.fill_all-sound.new.out args.out.now c.fill_all-sound.auto.out (c.fill-then-not-sound-3.ensures.after (λ y e. e));
      z = part-zeroed plus_zero n (zs g) c.fill_all-sound.new.z args.z.now c.fill_all-sound.auto.z (c.fill-then-not-sound-4.ensures.after (λ y e. e));
      has_z = part-zeroed false n (has_zs g) c.fill_all-sound.new.has_z args.has_z.now c.fill_all-sound.auto.has_z (c.fill-then-not-sound-5.ensures.after (λ y e. e));
    }

pub returns : goal.returns
returns c =
    let args = c.args in
    let values = args.values.now in
    let n = args.n in
    let g = plot_from args.cl n values args.ucl.now in
    let fine = told c.too_short.ensures c.if-too_short.false in
    let room = has_room _ _ _ _ _ _ _ fine in
    let long = length-take-le n values room.in-values in record {
      answer = number-0 _ g fine (sym c.fill_all-sound.ensures.sound ∙ c.if-not-sound.false);
      values = front_kept plus_zero n values room.in-values;
      ucl = part-written plus_zero n (uppers g) c.fill_all-sound.new.ucl args.ucl.now c.fill_all-sound.ensures.ucl (column-length (λ p. p.ucl) g ∙ long);
      lcl = part-written plus_zero n (lowers g) c.fill_all-sound.new.lcl args.lcl.now c.fill_all-sound.ensures.lcl (column-length (λ p. p.lcl) g ∙ long);
      out = part-written false n (outs g) c.fill_all-sound.new.out args.out.now c.fill_all-sound.ensures.out (column-length (λ p. p.out_of_control) g ∙ long);
      z = part-written plus_zero n (zs g) c.fill_all-sound.new.z args.z.now c.fill_all-sound.ensures.z (column-length (λ p. p.z) g ∙ long);
      has_z = part-written false n (has_zs g) c.fill_all-sound.new.has_z args.has_z.now c.fill_all-sound.ensures.has_z (column-length (λ p. p.has_z) g ∙ long);
    }
