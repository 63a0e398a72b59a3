-- The window behind a mark (01, 'The mark sheet', Evidence; 02, R-1 and R-5). Definitions only.
use Rattle.std.specs.Prelude.{◌≡◌, Bool, false, not, ◌&&◌, cond, List, ℕ, suc, ◌+◌, ◌*◌, ◌-◌, ltb, leb, eqb, Float, length, take, drop}
use Rattle.std.specs.Borrow.{Bor}
use Rattle.stops.specs.Stops.{stops_wrong, main_points}
use Rattle.sets.specs.Sets.{tests, test_of}
use Rattle.rules.specs.Terms.{Terms}
use Rattle.rules.specs.Lines.{width_wrong}
use Rattle.rules.specs.Tests.{window}
use Rattle.floats.specs.Finite.{all_finite}
use Rattle.rules.specs.Finite.{finite_limits}
use Rattle.rules.specs.Marking.{newest_first, stands, cuts_of, lines_for}

-- a part of one of two series: of which, where it starts, how long it is
pub record Part : Type 0 where
  pub second : Bool
  pub start : ℕ
  pub long : ℕ

-- "the empty part at the front of series 0"
abbrev pub nothing : Part
nothing = record { second = false; start = 0; long = 0 }

-- the window of the test of that bit number that ends at the position
abbrev pub part_at : Bool → ℕ → ℕ → Part
part_at second at bit = record { second = second; start = suc at - window (test_of bit); long = window (test_of bit) }

-- The position and the test are in range, the stops are some of the series, the width mode is one, the limits and the window's values are
-- finite, the window fits and shows the pattern.
unfoldable pub shown_at : List Float → Terms → ℕ → ℕ → Bool
shown_at series terms at bit =
    ltb at (length series)
    && (ltb bit (length tests)
    && (not (stops_wrong (main_points terms.moving (length series)) terms.stops)
    && (not (width_wrong terms.width)
    && (finite_limits terms.limits
    && (all_finite (take (window (test_of bit)) (newest_first (cuts_of terms) series (suc at)))
    && stands (lines_for terms) (newest_first (cuts_of terms) series (suc at)) (test_of bit))))))

-- the window that ends at the position, of the series of that number, 0 or 1
unfoldable pub evidence_of : List Float → List Float → ℕ → Terms → ℕ → ℕ → Part
evidence_of main dispersion number terms at bit =
    cond (leb number 1 && shown_at (cond (eqb number 0) main dispersion) terms at bit)
    (part_at (eqb number 1) at bit)
    nothing

-- r is that part: in the memory of its series, from its start on (an f64 takes eight bytes), with its values
pub record IsPart (main dispersion r : Bor (List Float)) (p : Part) : Type 0 where
  pub block : r.ref_ptr.0 ≡ cond p.second dispersion.ref_ptr.0 main.ref_ptr.0
  pub place : r.ref_ptr.1 ≡ cond p.second dispersion.ref_ptr.1 main.ref_ptr.1 + p.start * 8
  pub values : r.now ≡ take p.long (drop p.start (cond p.second dispersion.now main.now))
