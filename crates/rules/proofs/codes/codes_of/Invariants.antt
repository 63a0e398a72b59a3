-- `rules::codes::codes_of` meets its contract: one code after the other, and u is the value before. Assumes nothing.
use mathlib.Core.Path.{◌≡◌}
use mathlib.Core.Bool.{true}
use mathlib.Core.List.{◌∷◌}
use lib.Ieee.{nan}
use lib.ListN.{get_or}
use Rattle.rules.specs.Codes.{family_at}
use Rattle.rules.proofs.Making.{Adding}
use Rattle.rules.proofs.codes.codes_of.Given as goal

abbrev pub invariant-loop-j : goal.invariant-loop-j
invariant-loop-j g l =
    Adding (family_at (g.F.Family.code l.family) true l.first l.v) 16 l.initial.k l.k l.j × (l.u ≡ get_or (l.first ∷ l.v) l.j nan)
