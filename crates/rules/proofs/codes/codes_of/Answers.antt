-- `rules::codes::codes_of` meets its contract: one code after the other, and u is the value before. Assumes nothing.
use mathlib.Core.Path.{refl, ap, ◌∙◌}
use native.Mathlib.Numerals.{add-one}
use native.Mathlib.Omega.{arith}
use lib.Ieee.{Float, nan}
use lib.ListN.{get_or}
use mathlib.Core.Bool.{true}
use Rattle.rules.specs.Codes.{family_at}
use Rattle.rules.proofs.Making.{adding-starts, adding-one, adding-ends, clear-zeros, coded}
use Rattle.rules.proofs.codes.codes_of.Goals as goal

pub loop-j-preserved : goal.loop-j-preserved
loop-j-preserved g c =
    let v = get_or c.args.v.now c.loop-j.j nan in (
      adding-one (family_at (g.F.Family.code c.args.family) true c.args.first c.args.v.now) 16 _ _ _ c.loop-j.invariant.0 _ (c.code.ensures ∙ ap (λ (u : Float). g.F.Family.code c.args.family u v) c.loop-j.invariant.1) (omega arith) (omega arith),
      rw add-one refl,
    )

pub loop-j-init : goal.loop-j-init
loop-j-init g c =
    (adding-starts _ _ _, refl)

pub returns : goal.returns
returns g c =
    coded _ _ _ _ (clear-zeros 16) (adding-ends _ _ _ _ _ c.loop-j.invariant.0 (omega arith))
