-- `text::put_digits` calls itself for the digits in front of the last one, of which there is one less.
use Rattle.reports.proofs.text.+put_digits.Given as goal

abbrev pub decreases-put_digits : goal.decreases-put_digits
decreases-put_digits g l = l.k
