-- `histories::Lane::take` meets its contract: its tests are marking's, in the same order. Assumes nothing.
use mathlib.Core.Path.{◌≡◌, sym, ap, ◌∙◌}
use mathlib.Core.Bool.{true, false}
use Prim.Native.Nat.{ℕ}
use native.Mathlib.Nat.{min-le_right}
use native.Mathlib.Omega.{arith}
use Rattle.floats.specs.Finite.{finite}
use Rattle.rules.specs.declared.Lines.{Lines}
use Rattle.rules.specs.Finite.{finite_limits}
use Rattle.histories.specs.Lanes.{after}
use Rattle.histories.specs.Taking.{marked}
use Rattle.histories.proofs.Answers.{set-refused, mode-refused, limits-refused, value-refused, value_taken}
use Rattle.histories.proofs.Lane.take.Goals as goal

pub returns-then-set-gt-ALL : goal.returns-then-set-gt-ALL
returns-then-set-gt-ALL c =
    let a = c.args in
    sym (set-refused a.limits a.width a.set.mask a.self.now a.value c.if-set-gt-ALL.true)

pub returns-then-width-gt-OWN_WIDTHS : goal.returns-then-width-gt-OWN_WIDTHS
returns-then-width-gt-OWN_WIDTHS c =
    let a = c.args in
    sym (mode-refused a.limits a.width a.set.mask a.self.now a.value (omega arith) c.if-width-gt-OWN_WIDTHS.true)

pub returns-then-not-finite_limits : goal.returns-then-not-finite_limits
returns-then-not-finite_limits c =
    let a = c.args in
    let unsound : finite_limits a.limits ≡ false = sym c.finite_limits.ensures ∙ c.if-not-finite_limits.true in
    sym (limits-refused a.limits a.width a.set.mask a.self.now a.value (omega arith) (omega arith) unsound)

pub returns-then-not-is_finite : goal.returns-then-not-is_finite
returns-then-not-is_finite c =
    let a = c.args in
    let sound : finite_limits a.limits ≡ true = sym c.finite_limits.ensures ∙ c.if-not-finite_limits.false in
    let unsound : finite a.value ≡ false = sym c.is_finite.ensures ∙ c.if-not-is_finite.true in
    sym (value-refused a.limits a.width a.set.mask a.self.now a.value (omega arith) (omega arith) sound unsound)

pub marks-requires : goal.marks-requires
unfolding after
marks-requires c =
    rw c.after.ensures (min-le_right _ 15)

pub returns : goal.returns
returns c =
    let a = c.args in
    let sound : finite_limits a.limits ≡ true = sym c.finite_limits.ensures ∙ c.if-not-finite_limits.false in
    let is : finite a.value ≡ true = sym c.is_finite.ensures ∙ c.if-not-is_finite.false in
    ap (λ (m : ℕ). (0, m, c.after.result)) c.marks.ensures
    ∙ ap (marked a.set.mask) (c.after.ensures ∙ ap (λ (l : Lines). after l a.self.now a.value) c.lines_of.ensures)
    ∙ sym (value_taken a.limits a.width a.set.mask a.self.now a.value (omega arith) (omega arith) sound is)
