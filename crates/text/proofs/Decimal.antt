-- The digits that the library writes of a number are its decimal digits, as `decimal` and `signed` define them. Assumes nothing.
use Rattle.std.proofs.Common.{◌≡◌, ℕ, ◌^◌, ◌<◌, ◌++◌, List, ℤ, pos, negsuc, ap, rules, arith, suc, add-one}
use Rattle.std.proofs.lemmas.Fmt.{AppendsLastDigit, decimal_from_appends, length-decimal-le_succ}
use Rattle.std.specs.Fmt.{decimal as std_decimal, signed_decimal}
use mir.Syntax.{w64}
use mir.Val.{SFits}
use Rattle.text.specs.Text.{ascii, decimal_below, decimal, signed}

appends_last : AppendsLastDigit decimal_below
unfolding decimal_below
appends_last = search rules

pub decimal_written : (n : ℕ) → n < 2 ^ 64 → decimal n ≡ std_decimal n
unfolding decimal
decimal_written n h = decimal_from_appends decimal_below appends_last _ n h (omega (arith, length-decimal-le_succ n h))

pub signed_written : (z : ℤ) → SFits w64 z → signed z ≡ signed_decimal z
unfolding signed
signed_written (pos n) h = decimal_written n (omega (arith, h.sfits))
signed_written (negsuc n) h = rw (add-one n) (ap (λ (l : List ℕ). ascii "-" ++ l) (decimal_written (suc n) (omega (arith, h.sfits))))
