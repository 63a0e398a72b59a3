-- `text::put_line` meets its contract: the words from i on are to come. Assumes nothing.
use mathlib.Core.Path.{refl}
use Rattle.reports.proofs.Putting.{put_both, coming-starts, coming-same, coming-on, coming-last}
use Rattle.reports.proofs.Words.{words-next, words_last}
use Rattle.reports.proofs.text.put_line.Goals as goal

pub loop-word-init : goal.loop-word-init
loop-word-init g c =
    coming-starts refl

pub loop-word-preserved : goal.loop-word-preserved
loop-word-preserved g c =
    let args = c.args in
    coming-on (coming-on c.loop-word.invariant (words-next args.words.now c.loop-word.word-index _ c.loop-word-test.true) c.put_byte-next.ensures)
    refl c.put_word-to.ensures

pub returns : goal.returns
returns g c =
    let args = c.args in
    let last = coming-same c.loop-word.invariant (words_last args.words.now c.loop-word.word-index c.loop-word-test.false) in
    put_both c.put_byte-to.ensures (coming-last last c.put_byte.ensures)
