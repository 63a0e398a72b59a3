-- `text::put_digits` meets its contract: the digits in front of the last one are those of a number too. Assumes nothing.
use mathlib.Core.Path.{sym, ap, ◌∙◌}
use mathlib.Core.List.{[], ◌∷◌, ◌++◌}
use Prim.Native.Nat.{ℕ, ◌-◌, ◌/◌}
use Rattle.reports.specs.Text.{digits}
use Rattle.reports.proofs.Digits.{digits-none, digits_more}
use Rattle.reports.proofs.Putting.{put-none, put_as, put_both}
use Rattle.reports.proofs.text.+put_digits.Goals as goal

pub returns-then-k-eq0 : goal.returns-then-k-eq0
returns-then-k-eq0 g t c =
    let args = c.args in
    put-none (digits-none args.base args.k args.x c.if-k-eq0.true)

pub returns : goal.returns
returns g t c =
    let args = c.args in
    let front = digits args.base (args.k - 1) (args.x / args.base) in
    put_as
    (ap (λ (d : ℕ). front ++ (d ∷ [])) c.glyph.ensures ∙ sym (digits_more args.base args.k args.x c.if-k-eq0.false))
    (put_both c.put_digits-last.ensures c.put_byte.ensures)
