-- `spc_report::report` meets its contract: no report is longer than the room. Assumes nothing.
use mathlib.Core.Path.{◌≡◌}
use native.Mathlib.Omega.{arith}
use lib.ListN.{length}
use Rattle.reports.specs.Report.{text_of}
use Rattle.reports.proofs.Longest.{text-short, always-text, always-written}
use Rattle.spc_report.proofs.report.Goals as goal

pub unwrap-requires : goal.unwrap-requires
unwrap-requires c =
    let a = c.args in
    rw (always-text a.input.now a.out.now c.requires c.report.result c.report.ensures.answer)

pub returns : goal.returns
returns c =
    let a = c.args in
    let told = always-text a.input.now a.out.now c.requires c.report.result c.report.ensures.answer in
    let unwrapped = c.unwrap.ensures in
    let whole : c.unwrap.result ≡ length (text_of a.input.now) = cc in
    record {
      length = whole;
      text = always-written a.input.now a.out.now c.requires c.report.new.out c.report.ensures.room;
      within = omega (arith, c.report.auto, c.requires, text-short a.input.now);
    }
