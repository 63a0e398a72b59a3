-- No report is longer than 405,704 bytes, whatever the bytes of the flow file are: a V line has at most 11, there are at most nine for each
-- of 4,096 points, and all other lines together have at most 200. So a room of that many holds any. Assumes nothing.
use mathlib.Core.Path.{◌≡◌, ap}
use mathlib.Core.Bool.{Bool, true, false, cond, not, ◌||◌}
use mathlib.Core.List.{List, [], ◌∷◌, ◌++◌}
use Prim.Native.Nat.{ℕ, zero, suc, ◌+◌, ◌*◌, ◌≤◌, ◌<◌}
use native.Mathlib.Omega.{arith}
use borrow.Author.Tests.{le-leb, ltb-false, not-true}
use lib.Dec.{leb, ltb, eqb}
use lib.Ieee.{Float}
use lib.ListN.{length, length-append}
use Rattle.laws.specs.Front.{at_front, at_front_if_room, room_for}
use Rattle.laws.specs.Refusals.{first_of}
use Rattle.laws.proofs.Bools.{or_left, or_right}
use Rattle.groups.proofs.Onward.{by_number}
use Rattle.sets.specs.declared.Test.{Test}
use Rattle.sets.specs.Sets.{bit_of, tests, too_large, has}
use Rattle.sets.proofs.Sets.{bit_of-lt}
use Rattle.floats.specs.Finite.{all_finite}
use Rattle.charts.specs.declared.Chart.{Chart}
use Rattle.charts.specs.Records.{kind_wrong, size_wrong, own_wrong}
use Rattle.charts.proofs.Held.{own}
use Rattle.evaluating.specs.Asked.{asked}
use Rattle.evaluating.specs.Limits.{limits_of}
use Rattle.evaluating.specs.Evaluating.{too_few, sound, series_marks}
use Rattle.std.specs.Prelude.{Result, Ok}
use Rattle.groups.specs.declared.TooShort.{TooShort}
use Rattle.reports.specs.Flow.{Said, refused, flow, number, before, values_from, count_wrong, head_from, flow_of}
use Rattle.reports.specs.Text.{decimal, spaced, c_line, l_line, e_line, r_line, mark, v_line, v_lines, marks_in, listed, both_marks, chart_text}
use Rattle.reports.specs.Report.{first_index, refusal_of, chart_report, text_on, text_of, reported}
use Rattle.reports.specs.Steps.{Legal}
use Rattle.reports.proofs.Digits.{below_power}
use Rattle.reports.proofs.Limits.{limits-length}
use Rattle.reports.proofs.Marks.{lines-append}
use Rattle.reports.proofs.Heads.{legal}
use Rattle.reports.proofs.Evaluations.{points-fit, first_small, length-marks}
use Rattle.reports.proofs.Answers.{reported-one}

abbrev pub longest : ℕ
longest = 405704

-- ---- lines

one_word : (a : List ℕ) → length (spaced (a ∷ [])) ≡ length a + 2
unfolding spaced
one_word a = omega (arith, length-append a (10 ∷ []))

more-words : (a : List ℕ) (ws : List (List ℕ)) → length (spaced (a ∷ ws)) ≡ suc (length a) + length (spaced ws)
unfolding spaced
more-words a ws = omega (arith, length-append a (spaced ws))

three-words : (a b c : List ℕ) → length (spaced (a ∷ b ∷ c ∷ [])) ≡ length a + length b + length c + 4
three-words a b c = omega (arith, more-words a (b ∷ c ∷ []), more-words b (c ∷ []), one_word c)

line-short : (series index : ℕ) (t : Test) → series < 10 → index < 10000 → length (v_line (mark series index t)) ≤ 11
line-short series index t h k =
    omega (
      arith,
      three-words (decimal series) (decimal index) (decimal (bit_of t)),
      below_power 0 series (omega arith),
      below_power 3 index (omega arith),
      below_power 0 (bit_of t) (omega (arith, bit_of-lt t)),
    )

-- ---- marks: a line for each of nine tests at most

module _ (series index m : ℕ) (h : series < 10) (k : index < 10000) where
  in-short : (ts : List Test) → (length (v_lines (marks_in series index m ts)) ≤ 11 * length ts) × (length (marks_in series index m ts) ≤ length ts)
  unfolding marks_in v_lines
  in-short [] = (omega arith, omega arith)
  in-short (t ∷ ts) = by (has m t) (in-short ts)
    where
      by : (b : Bool) → (length (v_lines (marks_in series index m ts)) ≤ 11 * length ts) × (length (marks_in series index m ts) ≤ length ts)
          → (length (v_lines (cond b (mark series index t ∷ []) [] ++ marks_in series index m ts)) ≤ 11 * suc (length ts))
          × (length (cond b (mark series index t ∷ []) [] ++ marks_in series index m ts) ≤ suc (length ts))
      by true e = (
        omega (arith, e.0, length-append (v_line (mark series index t)) (v_lines (marks_in series index m ts)), line-short series index t h k),
        omega (arith, e.1),
      )
      by false e = (omega (arith, e.0), omega (arith, e.1))

listed-short : (series index : ℕ) (ms : List ℕ) → series < 10 → index + length ms ≤ 10000
    → (length (v_lines (listed series index ms)) ≤ 99 * length ms) × (length (listed series index ms) ≤ 9 * length ms)
unfolding listed v_lines tests
listed-short series index [] h k = (omega arith, omega arith)
listed-short series index (m ∷ ms) h k =
    let point = marks_in series index m tests in
    let rest = listed series (suc index) ms in
    let p = in-short series index m h (omega arith) tests in
    let r = listed-short series (suc index) ms h (omega arith) in (
      omega (arith, p.0, r.0, ap length (lines-append point rest), length-append (v_lines point) (v_lines rest)),
      omega (arith, p.1, r.1, length-append point rest),
    )

-- ---- the text of a chart, and of a refusal

refusal-short : (n : ℕ) → n < 100 → length (r_line n) ≤ longest
refusal-short n h = omega (arith, one_word (decimal n), below_power 1 n (omega arith))

module _ (c : Chart) (h : Legal c) (values : List Float) where
  kind-small : c.kind < 10
  unfolding own_wrong
  kind-small =
      let kinds = kind_wrong c.kind in
      let sizes = size_wrong c.kind c.size in
      let counts = ltb 4096 c.count in
      let two = or_left (kinds || sizes) counts (or_left (kinds || sizes || counts) (too_large c.set.mask) h.own) in
      omega (arith, ltb-false 3 c.kind (or_right (ltb c.kind 1) (ltb 3 c.kind) (or_left kinds sizes two)))

  chart-short : length (chart_text c.kind c.size c.set.mask (limits_of (asked c values) 0) (limits_of (asked c values) 1)
      (both_marks (first_index c) (series_marks (asked c values) 0) (series_marks (asked c values) 1))) ≤ longest
  unfolding chart_text
  chart-short =
      let ms = series_marks (asked c values) 0 in
      let os = series_marks (asked c values) 1 in
      let a = listed 0 0 ms in
      let b = listed 1 (first_index c) os in
      let main = limits_of (asked c values) 0 in
      let other = limits_of (asked c values) 1 in
      let end = e_line (length (a ++ b)) in
      let few = points-fit c h 0 in
      let fewer = points-fit c h 1 in
      let many = length-marks (asked c values) 0 in
      let more = length-marks (asked c values) 1 in
      let p = listed-short 0 0 ms (omega arith) (omega arith) in
      let q = listed-short 1 (first_index c) os (omega arith) (omega (arith, first_small c)) in
      let number = length-append a b in
      let o = own c h.own in
      omega (
        arith,
        length-append (c_line c.kind c.size c.set.mask) (l_line 0 main ++ (l_line 1 other ++ (v_lines (a ++ b) ++ end))),
        length-append (l_line 0 main) (l_line 1 other ++ (v_lines (a ++ b) ++ end)),
        length-append (l_line 1 other) (v_lines (a ++ b) ++ end),
        length-append (v_lines (a ++ b)) end,
        ap length (lines-append a b),
        length-append (v_lines a) (v_lines b),
        three-words (decimal c.kind) (decimal c.size) (decimal c.set.mask),
        below_power 0 c.kind (omega (arith, kind-small)),
        below_power 1 c.size (omega (arith, o.most)),
        below_power 2 c.set.mask (omega (arith, o.set-small)),
        limits-length 0 main,
        limits-length 1 other,
        below_power 0 0 (omega arith),
        below_power 0 1 (omega arith),
        one_word (decimal (length (a ++ b))),
        below_power 4 (length (a ++ b)) (omega (arith, p.1, q.1)),
        p.0,
        q.0,
      )

  number-low : refusal_of (asked c values) < 100
  unfolding refusal_of first_of
  number-low = by (all_finite values) (too_few c) (sound (asked c values))
    where
      by : (f t s : Bool) → cond (not f) 3 (cond t 8 (cond (not s) 7 0)) < 100
      by false t s = omega arith
      by true true s = omega arith
      by true false false = omega arith
      by true false true = omega arith

  report-short : length (chart_report (asked c values)) ≤ longest
  unfolding chart_report
  report-short = by (eqb (refusal_of (asked c values)) 0)
    where
      by : (b : Bool) → length (cond b
          (chart_text c.kind c.size c.set.mask (limits_of (asked c values) 0) (limits_of (asked c values) 1)
          (both_marks (first_index c) (series_marks (asked c values) 0) (series_marks (asked c values) 1)))
          (r_line (refusal_of (asked c values)))) ≤ longest
      by true = chart-short
      by false = refusal-short (refusal_of (asked c values)) number-low

-- ---- what any bytes say: a refusal's number is small, and a chart is legal

abbrev Fine : Said → Type 0
Fine (refused why) = why < 100
Fine (flow c values) = Legal c

before-fine : (v : Float) (r : Said) → Fine r → Fine (before v r)
before-fine v (refused why) h = h
before-fine v (flow c vs) h = h

number-fine : (why : ℕ) (wrong : ℕ → Bool) (s : List ℕ) (at : ℕ) (rest : ℕ → ℕ → Said) → why < 100
    → ((v next : ℕ) → wrong v ≡ false → Fine (rest v next)) → Fine (number why wrong s at rest)
number-fine why wrong s at rest h f =
    by_number (refused 12) (refused why) (λ v. not (wrong v)) s at rest Fine (omega arith) h (λ v next e o. f v next (not-true (wrong v) o))

values-fine : (s : List ℕ) (c : Chart) → Legal c → (k at : ℕ) → Fine (values_from s c k at)
unfolding values_from
values-fine s c h zero at = by (ltb at (length s))
  where
    by : (b : Bool) → Fine (cond b (refused 12) (flow c []))
    by true = omega arith
    by false = h
values-fine s c h (suc k) at =
    number-fine 12 (λ v. false) s at _ (omega arith) (λ v next e. before-fine _ (values_from s c k next) (values-fine s c h k next))

flow-fine : (s : List ℕ) → Fine (flow_of s)
unfolding flow_of head_from
flow-fine s = by (ltb 24576 (length s))
  where
    by : (b : Bool) → Fine (cond b (refused 12) (head_from s 0))
    by true = omega arith
    by false =
        number-fine 12 kind_wrong s 0 _ (omega arith) (λ kind p k.
        number-fine 1 (size_wrong kind) s p _ (omega arith) (λ size q z.
        number-fine 4 too_large s q _ (omega arith) (λ set r t.
        number-fine 5 (count_wrong size) s r _ (omega arith) (λ count end n.
        values-fine s _ (legal kind size set count k z (ltb-false _ set t) n) (count * size) end))))

text-on : (r : Said) → Fine r → length (text_on r) ≤ longest
text-on (refused why) h = refusal-short why h
text-on (flow c values) h = report-short c h values

-- the longest report
pub text-short : (s : List ℕ) → length (text_of s) ≤ longest
unfolding text_of
text-short s = text-on (flow_of s) (flow-fine s)

-- a room of that many bytes is never too short: whatever the promise of `report` allows there is the text, at its front
module _ (s room : List ℕ) (h : longest ≤ length room) where
  enough : leb (length (text_of s)) (length room) ≡ true
  enough = le-leb (length (text_of s)) (length room) (omega (arith, text-short s))

  pub always-text : (r : Result ℕ TooShort) → reported r ≡ room_for (text_of s) (length room) → r ≡ Ok (length (text_of s))
  always-text r e = reported-one r (Ok (length (text_of s))) (rw enough at e)

  pub always-written : (after : List ℕ) → after ≡ at_front_if_room (text_of s) room → after ≡ at_front (text_of s) room
  always-written after e = rw enough at e
