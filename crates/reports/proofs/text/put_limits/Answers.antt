-- `text::put_limits` meets its contract: the series, and the patterns of the limits. Assumes nothing.
use Rattle.reports.proofs.Limits.{limits-no-nan, limits-line}
use Rattle.reports.proofs.Putting.{put_as}
use Rattle.reports.proofs.text.put_limits.Goals as goal

pub float_to_bits-words : goal.float_to_bits-words
float_to_bits-words g c =
    (limits-no-nan c.args.limits c.requires).0

pub float_to_bits-words-2 : goal.float_to_bits-words-2
float_to_bits-words-2 g c =
    (limits-no-nan c.args.limits c.requires).1

pub float_to_bits-words-3 : goal.float_to_bits-words-3
float_to_bits-words-3 g c =
    (limits-no-nan c.args.limits c.requires).2

pub returns : goal.returns
returns g c =
    let args = c.args in
    put_as (limits-line args.series args.limits) c.put_line.ensures
