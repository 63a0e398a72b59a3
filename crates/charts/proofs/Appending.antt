-- A sample appended: what the code leaves of the values is what the definition says. Assumes nothing.
use mathlib.Core.Path.{◌≡◌, sym, ap₂, ◌∙◌}
use mathlib.Core.List.{List, ◌++◌}
use Prim.Native.Nat.{ℕ, ◌+◌, ◌-◌, ◌*◌, ◌≤◌}
use native.Mathlib.Nat.{add-sub_cancel_left}
use native.Mathlib.Omega.{arith}
use lib.Ieee.{Float}
use lib.ListN.{length, take, drop, length-take, length-drop}
use Rattle.charts.specs.declared.Chart.{Chart}
use Rattle.charts.specs.Records.{values_after}

-- the part from `at` on was lent, and `part` came back
pub appended : (c : Chart) (values sample part : List Float) → part ≡ sample → length sample ≡ c.size
    → take (c.count * c.size) values
    ++ (part ++ drop (c.count * c.size + c.size - c.count * c.size) (drop (c.count * c.size) values))
    ≡ values_after 0 c sample values
unfolding values_after
appended c values sample part e n =
    ap₂ (λ (p : List Float) (k : ℕ). take (c.count * c.size) values ++ (p ++ drop k (drop (c.count * c.size) values))) e
    (add-sub_cancel_left (c.count * c.size) c.size ∙ sym n)

module _ (c : Chart) (values : List Float) (room : c.count * c.size + c.size ≤ length values) where
  -- the part that is lent is as long as a sample
  pub lent_length : (sample : List Float) → length sample ≡ c.size
      → length (take (c.count * c.size + c.size - c.count * c.size) (drop (c.count * c.size) values)) ≡ length sample
  lent_length sample n = simp (length-take, length-drop) (omega arith)
