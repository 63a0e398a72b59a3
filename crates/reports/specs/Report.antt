-- The report of any bytes: its text, and what the call answers (01, 'The report program'; 'Numbers a call may give back', row 6).
-- Definitions only.
use Rattle.std.specs.Prelude.{not, cond, List, [], ◌∷◌, ℕ, eqb, Result}
use Rattle.laws.specs.Refusals.{first_of}
use Rattle.groups.specs.declared.TooShort.{TooShort}
use Rattle.groups.specs.Groups.{written}
use Rattle.floats.specs.Finite.{all_finite}
use Rattle.charts.specs.declared.Chart.{Chart}
use Rattle.charts.specs.Records.{by_kind}
use Rattle.evaluating.specs.Asked.{Asked, asked}
use Rattle.evaluating.specs.Limits.{limits_of}
use Rattle.evaluating.specs.Evaluating.{too_few, sound, series_marks}
use Rattle.reports.specs.Flow.{Said, refused, flow, flow_of}
use Rattle.reports.specs.Text.{both_marks, chart_text, r_line}

-- ---- the text

-- "here an index is the position, plus 1 on a moving range series" (01, 'What is ported')
unfoldable pub first_index : Chart → ℕ
first_index c = by_kind c.kind 1 0 0

-- "then 3, 8, 7"
unfoldable pub refusal_of : Asked → ℕ
refusal_of a = first_of ((not (all_finite a.values), 3) ∷ (too_few a.chart, 8) ∷ (not (sound a), 7) ∷ []) 0

-- of a chart and its values: its evaluation, or the line of a refusal
unfoldable pub chart_report : Asked → List ℕ
chart_report a =
    cond (eqb (refusal_of a) 0)
    (chart_text a.chart.kind a.chart.size a.chart.set.mask (limits_of a 0) (limits_of a 1)
    (both_marks (first_index a.chart) (series_marks a 0) (series_marks a 1)))
    (r_line (refusal_of a))

abbrev pub text_on : Said → List ℕ
text_on (refused why) = r_line why
text_on (flow c values) = chart_report (asked c values)

unfoldable pub text_of : List ℕ → List ℕ
text_of s = text_on (flow_of s)

-- ---- the answer

-- 01's number, and the text's length
abbrev pub reported : Result ℕ TooShort → ℕ × ℕ
reported = written
