-- The number of an answer, whatever is done and whatever the refusals are. Assumes nothing.
use mathlib.Core.Path.{sym, ◌∙◌}
use denote.RattleType.{RattleType}
use denote.Param.Laws.{Laws}
use mir.Syntax.{Dict}
use Rattle.numbers.specs.declared.Numbered.{Ghosts}
use Rattle.numbers.proofs.ResultNumbered.number.Reads as number
use Rattle.numbers.proofs.ResultNumbered.number.Kinds as number-kinds
use Rattle.promises.proofs.Coincide.{Coincide}

number-one : (T E : RattleType) (L : Laws T) (M : Laws E) (g : Ghosts E.Denot) (d : Dict)
    → Coincide 3 (number-kinds.ps T E L M) (number-kinds.r T E L M) (number.Post T E L M g d) (λ κs x s. x)
number-one T E L M g d κs a x y s t p q = p ∙ sym q
