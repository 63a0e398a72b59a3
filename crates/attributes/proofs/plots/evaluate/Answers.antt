-- `plots::evaluate` meets its contract: the points about the centre, and the answer by how plotting went. Assumes nothing.
use Rattle.std.proofs.Common.{take, length-take-le, arith}
use Rattle.attributes.proofs.Held.{small-front}
use Rattle.points.specs.Plotting.{plotted}
use Rattle.attributes.proofs.Outcomes.{in-front, in-two-steps, plotted-so}
use Rattle.attributes.proofs.plots.evaluate.Goals as goal

pub fill_values-requires : goal.fill_values-requires
fill_values-requires c =
    let pre = c.requires in
    (omega (arith, length-take-le c.args.n c.args.counts.now pre.0, length-take-le c.args.n c.args.values.now pre.1), omega (arith, length-take-le c.args.n c.args.ucl.now pre.2, length-take-le c.args.n c.args.values.now pre.1), small-front c.args.n c.args.counts.now pre.0 pre.7)

pub returns : goal.returns
returns c =
    let args = c.args in
    let pre = c.requires in
    let all = plotted-so args.cl args.variance args.counts.now args.n args.values.now args.ucl.now pre.1 pre.2
    (in-front args.counts.now args.n (take args.n args.ucl.now) args.values.now (length-take-le args.n args.ucl.now pre.2) c.fill_values.ensures)
    (in-two-steps args.variance args.n args.ucl.now pre.2 c.variances.ensures c.sigmas.ensures)
    (plotted c.plot.result) args.lcl.now args.out.now args.z.now args.has_z.now pre.3 pre.4 pre.5 pre.6 c.answer.ensures (c.plot.ensures.answer, (c.plot.ensures.values, (c.plot.ensures.ucl, (c.plot.ensures.lcl, (c.plot.ensures.out, (c.plot.ensures.z, c.plot.ensures.has_z)))))) in
    record { answer = all.0; values = all.1.0; ucl = all.1.1.0; lcl = all.1.1.1.0; out = all.1.1.1.1.0; z = all.1.1.1.1.1.0; has_z = all.1.1.1.1.1.1 }
