-- `text::put_word` meets its contract. Assumes nothing.
use Prim.Native.Nat.{ℕ}
use mathlib.Core.Path.{sym, ap, ◌∙◌}
use Rattle.reports.specs.Text.{digits}
use Rattle.reports.specs.TextSteps.{word_of}
use Rattle.reports.proofs.Digits.{decimal-digits}
use Rattle.reports.proofs.Putting.{put_as}
use Rattle.reports.proofs.text.put_word.Goals as goal

pub returns-in-Decimal : goal.returns-in-Decimal
returns-in-Decimal g c =
    put_as (ap (λ (n : ℕ). digits 10 n c.in-Decimal.x) c.decimal_len.ensures ∙ decimal-digits c.in-Decimal.x ∙ sym (ap word_of c.in-Decimal.is)) c.put_digits.ensures
