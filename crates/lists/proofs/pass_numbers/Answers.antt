-- `lists::pass_numbers` meets its contract. The invariant of its loop: what is found of those left is what is found of all. Assumes nothing.
use mathlib.Core.Path.{◌≡◌, sym, ap, ◌∙◌}
use Prim.Native.Nat.{ℕ, ◌-◌}
use native.Mathlib.Omega.{arith}
use Rattle.std.proofs.lemmas.Result.{err_from_is_err_and}
use Rattle.lists.specs.Reading.{number_from, numbers_from}
use Rattle.lists.proofs.Rows.{row-none, row_next}
use Rattle.lists.proofs.pass_numbers.Goals as goal

pub loop-init : goal.loop-init
loop-init c =
    let a = c.args in
    let all : a.n - 0 ≡ a.n = omega arith in
    ap (λ (m : ℕ). (numbers_from a.list.now a.item m a.at).1) all

pub returns-in_err-next : goal.returns-in_err-next
returns-in_err-next c =
    let p = err_from_is_err_and c.from_residual.result c.from_residual.ensures.1 in
    rw (p.1, p.2)
    (sym (ap (λ p. p.1) (row_next (number_from _ _) _ _ _ c.loop-test.true _ (sym c.in_err-next.ensures)))
    ∙ c.loop.invariant)

pub loop-preserved : goal.loop-preserved
loop-preserved c =
    sym (ap (λ p. p.1) (row_next (number_from _ _) _ _ _ c.loop-test.true _ (sym c.in_ok-next.ensures)))
    ∙ c.loop.invariant

pub returns : goal.returns
returns c =
    sym (ap (λ p. p.1) (row-none (number_from _ _) _ _ _ c.loop-test.false)) ∙ c.loop.invariant
