-- The measure of `Line::put_decimal`, which calls itself, is the number.
use Rattle.lines.proofs.Line.+put_decimal.Given as goal

abbrev pub decreases-put_decimal : goal.decreases-put_decimal
decreases-put_decimal l = l.x
