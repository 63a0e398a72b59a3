-- The sigma figures, from the centre line of the dispersion series or refused with it. Assumes nothing.
use Rattle.std.proofs.Common.{◌≡◌, ℕ, Bool, false, cond, eqb, length, sym, refl, ap, ◌∙◌, ne_eqb}
use Rattle.std.specs.Prelude.{Result, Ok, Err}
use lib.Ieee.{Float}
use Rattle.laws.proofs.Refusals.{Passed, were-passed}
use Rattle.laws.specs.Bools.{every}
use Rattle.floats.specs.Values.{plus_zero}
use Rattle.charts.specs.declared.Refusal.{Refusal}
use Rattle.charts.specs.Records.{number, record_wrong}
use Rattle.charts.proofs.Answers.{number-some}
use Rattle.evaluating.specs.declared.SigmaFigures.{SigmaFigures}
use Rattle.evaluating.specs.Asked.{Asked}
use Rattle.evaluating.specs.Evaluating.{refusals}
use Rattle.evaluating.specs.Sigma.{figured, estimated, sigma_number, unless_refused, sigma_hat_of, sigma_hat_df_of, estimate_of}

module _ (n : ℕ) where
  pub figure-refused : (why : Refusal) → n ≡ number why → (u : Float) → (number why, plus_zero) ≡ unless_refused n u
  unfolding unless_refused
  figure-refused why e u =
      sym
      (ap (λ (k : ℕ). (k, cond (eqb k 0) u plus_zero)) e
      ∙ ap (λ (t : Bool). (number why, cond t u plus_zero)) (ne_eqb (number why) 0 (number-some why)))

  pub figure-done : n ≡ 0 → {v u : Float} → v ≡ u → (0, v) ≡ unless_refused n u
  unfolding unless_refused
  figure-done e {v} {u} is = ap (λ (w : Float). (0, w)) is ∙ sym (ap (λ (k : ℕ). (k, cond (eqb k 0) u plus_zero)) e)

  -- what a figure tells
  module _ (v : Float) {f : Result Float Refusal} (found : figured f ≡ unless_refused n v) where
    pub was-refused : {why : Refusal} → f ≡ Err why → n ≡ number why
    unfolding unless_refused
    was-refused is = sym (ap (λ (p : ℕ × Float). p.0) (sym (ap figured is) ∙ found))

    module _ {m : Float} (is : f ≡ Ok m) where
      told : (0, m) ≡ unless_refused n v
      told = sym (ap figured is) ∙ found

      pub was-done : n ≡ 0
      unfolding unless_refused
      was-done = sym (ap (λ (p : ℕ × Float). p.0) told)

      pub value-done : m ≡ v
      unfolding unless_refused
      value-done = ap (λ (p : ℕ × Float). p.1) told ∙ ap (λ (k : ℕ). cond (eqb k 0) v plus_zero) was-done

-- each of both
module _ (a : Asked) (e : Result SigmaFigures Refusal) (found : estimated e ≡ estimate_of a) where
  pub its-hat : ((estimated e).0, (estimated e).1) ≡ sigma_hat_of a
  unfolding estimate_of sigma_hat_of unless_refused
  its-hat = ap (λ (p : ℕ × Float × Float). (p.0, p.1)) found

  pub its-df : ((estimated e).0, (estimated e).2) ≡ sigma_hat_df_of a
  unfolding estimate_of sigma_hat_df_of unless_refused
  its-df = ap (λ (p : ℕ × Float × Float). (p.0, p.2)) found

-- the record of a chart that has figures is not wrong
pub record-right : (a : Asked) → sigma_number a ≡ 0 → record_wrong a.chart (length a.values) ≡ false
unfolding sigma_number Passed every
record-right a e = (were-passed (refusals a false false false) refl e).0
