-- The text of a chart, line by line as it is put. Assumes nothing.
use mathlib.Core.Path.{◌≡◌, sym, ap, ap₂, ◌∙◌}
use mathlib.Core.List.{List, [], ◌∷◌, ◌++◌, append_assoc}
use Prim.Native.Nat.{ℕ}
use lib.ListN.{length}
use Rattle.rules.specs.declared.Limits.{Limits}
use Rattle.reports.specs.Text.{line, c_line, l_line, e_line, v_lines, listed, both_marks, chart_text}
use Rattle.reports.specs.declared.text.Word.TheVariants.{Decimal}
use Rattle.reports.specs.TextSteps.{words_of}
use Rattle.reports.proofs.Marks.{lines-append}

pub chart-lines : (kind size set : ℕ) (main dispersion : Limits) (first : ℕ) (marks others : List ℕ) (n : ℕ)
    → n ≡ length (both_marks first marks others)
    → line 67 (words_of (Decimal kind ∷ Decimal size ∷ Decimal set ∷ []))
    ++ (l_line 0 main ++ (l_line 1 dispersion ++ (v_lines (listed 0 0 marks) ++ (v_lines (listed 1 first others) ++ line 69 (words_of (Decimal n ∷ []))))))
    ≡ chart_text kind size set main dispersion (both_marks first marks others)
unfolding chart_text words_of
chart-lines kind size set main dispersion first marks others n e =
    ap (λ (l : List ℕ). c_line kind size set ++ (l_line 0 main ++ (l_line 1 dispersion ++ l)))
    (sym (append_assoc (v_lines (listed 0 0 marks)) (v_lines (listed 1 first others)) (e_line n))
    ∙ ap₂ (λ (l : List ℕ) (k : ℕ). l ++ e_line k) (sym (lines-append (listed 0 0 marks) (listed 1 first others))) e)
