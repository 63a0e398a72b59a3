-- The calls of floats. Assumes nothing.
use mathlib.Core.Path.{sym, ◌∙◌}
use Rattle.floats.proofs.of_bits.Reads as of-bits
use Rattle.floats.proofs.of_bits.Kinds as of-bits-kinds
use Rattle.floats.proofs.is_finite.Reads as is_finite
use Rattle.floats.proofs.is_finite.Kinds as is-finite-kinds
use Rattle.floats.proofs.all_finite.Reads as all-finite
use Rattle.floats.proofs.all_finite.Kinds as all-finite-kinds
use Rattle.promises.proofs.Coincide.{Coincide}

of-bits-one : Coincide 0 of-bits-kinds.ps of-bits-kinds.r of-bits.Post (λ κs x s. x)
of-bits-one κs a x y s t p q = p ∙ sym q

is-finite-one : Coincide 0 is-finite-kinds.ps is-finite-kinds.r is_finite.Post (λ κs x s. x)
is-finite-one κs a x y s t p q = p ∙ sym q

all-finite-one : Coincide 1 all-finite-kinds.ps all-finite-kinds.r all-finite.Post (λ κs x s. x)
all-finite-one κs a x y s t p q = p ∙ sym q
