-- `root_run::answer` meets its contract: by `root`'s own, whose answer is always a number. Assumes nothing.
use mathlib.Core.Path.{sym, ap, ◌∙◌, subst}
use lib.Ieee.{Float}
use Rattle.std.specs.Prelude.{Result}
use Rattle.root.specs.declared.NoRoot.{NoRoot}
use Rattle.root.specs.Root.{Allowed, numbered, root_of}
use Rattle.root.proofs.Answers.{allowed-number}
use Rattle.root_run.specs.Pairs.{stored}
use Rattle.root_run.proofs.answer.Goals as goal

pub float_to_bits-result : goal.float_to_bits-result
float_to_bits-result c =
    let x = c.of_bits.result in
    allowed-number x c.in-Ok.r (subst (λ (a : Result Float NoRoot). Allowed x (numbered a)) c.in-Ok.is c.root.ensures.nearest)

pub returns-in-Ok : goal.returns-in-Ok
returns-in-Ok c =
    sym (ap stored c.in-Ok.is) ∙ ap stored c.root.ensures.is ∙ ap (λ (x : Float). stored (root_of x)) c.of_bits.ensures

pub returns-in-Err : goal.returns-in-Err
returns-in-Err c =
    sym (ap stored c.in-Err.is) ∙ ap stored c.root.ensures.is ∙ ap (λ (x : Float). stored (root_of x)) c.of_bits.ensures
