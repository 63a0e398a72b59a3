-- `rules::codes::Marker::families` meets its contract: each family puts its bits into the codes. Assumes nothing.
use Rattle.rules.proofs.Making.{codes-by}
use Rattle.rules.proofs.codes.Marker.families.Goals as goal

pub returns : goal.returns
returns c =
    codes-by c.args.self.set c.args.self.lines _ c.args.values.now _ _ _ _ _ _ _ _ c.requires.2 (rw c.outside-limits.ensures at c.put.ensures)
    (rw c.outside-centre.ensures at c.put-2.ensures) (rw c.outside-two_sigma.ensures at c.put-3.ensures)
    (rw c.outside-one_sigma.ensures at c.put-4.ensures) c.put-5.ensures c.put-6.ensures
