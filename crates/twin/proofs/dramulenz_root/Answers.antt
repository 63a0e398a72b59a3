-- `twin::dramulenz_root` meets its contract. Assumes nothing.
use mathlib.Core.Path.{◌≡◌, refl, ap, ◌∙◌}
use lib.Ieee.{Float, binary64, of_bits}
use Rattle.std.specs.Prelude.{Result, Ok, Err}
use Rattle.std.specs.Result.{result_unwrap_or}
use Rattle.root.specs.declared.NoRoot.{NoRoot}
use Rattle.root.specs.Root.{numbered}
use Rattle.twin.specs.Answers.{root_number}
use Rattle.twin.proofs.dramulenz_root.Goals as goal

-- +0.0 is the value that goes with a refusal
or_zero : (r : Result Float NoRoot) → result_unwrap_or r (of_bits binary64 0) ≡ (numbered r).1
unfolding of_bits
or_zero (Ok r) = refl
or_zero (Err why) = refl

pub returns : goal.returns
unfolding root_number
returns c =
    c.unwrap_or.ensures ∙ or_zero c.root.result ∙ ap (λ (r : Result Float NoRoot). (numbered r).1) c.root.ensures.is
