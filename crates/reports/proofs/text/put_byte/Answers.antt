-- `text::put_byte` meets its contract. Assumes nothing.
use Rattle.std.proofs.Common.{ap, ne_eqb, eq-eqb}
use mathlib.Core.Bool.{not}
use Rattle.reports.proofs.Putting.{byte_past, byte-written, byte-counted}
use Rattle.reports.proofs.text.put_byte.Goals.{then-this-ne0, else-this-ne0}
use Rattle.reports.proofs.text.put_byte.Goals as goal

pub returns-then-out-at : goal.returns-then-out-at
returns-then-out-at g c =
    let args = c.args in
    byte_past _ args.b args.at args.out.now c.if-out-at.true

pub returns : goal.returns
returns g c =
    let args = c.args in
    elim c.if-this-ne0.branch [
      | then-this-ne0 w ↦ rw w.out-is (byte-written _ args.b args.at args.out.now c.if-out-at.false (ap not (ne_eqb g.row.WRITE 0 w.if-this-ne0.true)))
      | else-this-ne0 w ↦ rw w.out-is (byte-counted _ args.b args.at args.out.now c.if-out-at.false (ap not (eq-eqb g.row.WRITE 0 w.if-this-ne0.false)))
    ]
