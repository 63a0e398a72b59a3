-- `text::put_refusal` meets its contract. Assumes nothing.
use mathlib.Core.Path.{ap}
use Prim.Native.Nat.{ℕ}
use Rattle.reports.specs.Text.{r_line}
use Rattle.reports.specs.TextSteps.{words_of}
use Rattle.reports.proofs.Putting.{put_as}
use Rattle.reports.proofs.text.put_refusal.Goals as goal

pub returns : goal.returns
unfolding words_of
returns g c =
    put_as (ap (λ (n : ℕ). r_line n) c.from.ensures) c.put_line.ensures
