use Rattle.wb_text.proofs.text.+decimal_digits.Given as goal

abbrev pub decreases-decimal_digits : goal.decreases-decimal_digits
decreases-decimal_digits l = l.number
