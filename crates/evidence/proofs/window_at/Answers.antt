-- `evidence::window_at` meets its contract, by what is shown at the position. Assumes nothing.
use mathlib.Core.Path.{◌≡◌, refl, sym, ◌∙◌}
use mathlib.Core.Bool.{false}
use native.Mathlib.Omega.{arith}
use borrow.Author.Rules.{rules}
use Rattle.std.specs.Prelude.{Some}
use Rattle.stops.specs.Stops.{cut_at}
use Rattle.stops.proofs.Cuts.{since-le}
use Rattle.sets.specs.Sets.{test_at}
use Rattle.rules.specs.Terms.{told}
use Rattle.evidence.specs.Evidence.{shown_at}
use Rattle.evidence.proofs.Behind.{past-the-series, stops-are-wrong, no-such-test, no-such-window, shown-by-part}
use Rattle.evidence.proofs.Spans.{part-by-window}
use Rattle.evidence.proofs.window_at.Goals.{After-shows_pattern, After-window-n}
use Rattle.evidence.proofs.window_at.Goals as goal

-- ---- the test that was found, and whether its window shows the pattern

is-test : (c : After-window-n) → test_at c.args.bit ≡ Some c.in_ok-t.t
is-test c =
    sym c.from_bit.ensures ∙ c.in_ok-t.was

shown : (c : After-shows_pattern) → c.shows_pattern.result ≡ (let a = c.args in shown_at a.series.now (told a.terms) a.at a.bit)
shown c =
    let a = c.args in
    c.shows_pattern.ensures
    ∙ shown-by-part _ (told a.terms) _ _ c.in_ok-t.t (sym c.from_bit.ensures ∙ c.in_ok-t.was) _ c.window-n.ensures c.if-series-at.false (sym c.wrong.ensures ∙ c.if-wrong.false)
    (omega (arith, c.since.ensures, c.if-start-since.false, c.if-end-n.false))

pub returns-then-series-at : goal.returns-then-series-at
returns-then-series-at c =
    past-the-series _ _ _ _ c.if-series-at.true

pub returns-then-wrong : goal.returns-then-wrong
returns-then-wrong c =
    stops-are-wrong _ _ _ _ (sym c.wrong.ensures ∙ c.if-wrong.true)

pub returns-in_err-t : goal.returns-in_err-t
returns-in_err-t c =
    rw c.from_residual.ensures (no-such-test _ _ _ _ (sym c.from_bit.ensures ∙ c.in_err-t.was))

pub returns-then-end-n : goal.returns-then-end-n
returns-then-end-n c =
    no-such-window _ _ _ _ c.in_ok-t.t (is-test (goal.at.returns-then-end-n c).After-window-n) _ c.window-n.ensures (omega (arith, c.if-end-n.true))

pub returns-then-start-since : goal.returns-then-start-since
returns-then-start-since c =
    let a = c.args in
    no-such-window _ _ _ _ c.in_ok-t.t (is-test (goal.at.returns-then-start-since c).After-window-n) _ c.window-n.ensures
    (omega (arith, since-le (cut_at a.terms.stops.now a.terms.moving) a.at, c.since.ensures, c.if-start-since.true, c.if-end-n.false))

pub returns-then-shows_pattern : goal.returns-then-shows_pattern
returns-then-shows_pattern c =
    let part = part-by-window false c.args.at c.args.bit c.in_ok-t.t (is-test (goal.at.returns-then-shows_pattern c).After-window-n) _ c.window-n.ensures c.if-end-n.false in (
      sym (shown (goal.at.returns-then-shows_pattern c).After-shows_pattern) ∙ c.if-shows_pattern.true,
      rw part (record { block = refl; place = search rules; values = search rules }),
    )

pub returns : goal.returns
returns c =
    sym (shown (goal.at.returns c).After-shows_pattern) ∙ c.if-shows_pattern.false
