-- Lines worked out: the printed book's, and the largest and the least numbers. Assumes nothing.
use mathlib.Core.Path.{◌≡◌, refl}
use lib.IntN.{pos, negsuc}
use Rattle.text.specs.Text.{ascii, decimal_below, decimal, signed}
use Rattle.report.specs.Lines.{unit_line, aquifer_line, refused_line, call_given, call_refused, call_cancelled, call_kept, call_back}

unit_3 : unit_line 3 (pos 8760) 1000 934 (pos 7760) ≡ ascii "unit 3 8760 1000 934 7760\n"
unfolding unit_line signed decimal decimal_below
unit_3 = refl

unit_largest : unit_line 18446744073709551615 (pos 9223372036854775807) 0 0 (negsuc 0) ≡ ascii "unit 18446744073709551615 9223372036854775807 0 0 -1\n"
unfolding unit_line signed decimal decimal_below
unit_largest = refl

aquifer_1 : aquifer_line 1 (pos 2000) (pos 0) ≡ ascii "aquifer 1 2000 0\n"
unfolding aquifer_line signed decimal decimal_below
aquifer_1 = refl

aquifer_least : aquifer_line 1 (negsuc 199) (negsuc 9223372036854775807) ≡ ascii "aquifer 1 -200 -9223372036854775808\n"
unfolding aquifer_line signed decimal decimal_below
aquifer_least = refl

refused_21 : refused_line 21 65536 ≡ ascii "refused 21 at 65536\n"
unfolding refused_line decimal decimal_below
refused_21 = refl

call_1 : call_given 1 1 ≡ ascii "call 1 given 1\n"
unfolding call_given decimal decimal_below
call_1 = refl

call_2 : call_refused 2 17 ≡ ascii "call 2 refused 17\n"
unfolding call_refused decimal decimal_below
call_2 = refl

call_3 : call_kept 3 ≡ ascii "call 3 kept\n"
unfolding call_kept decimal decimal_below
call_3 = refl

call_4 : call_back 4 ≡ ascii "call 4 back\n"
unfolding call_back decimal decimal_below
call_4 = refl

call_10 : call_cancelled 10 2 ≡ ascii "call 10 cancelled 2\n"
unfolding call_cancelled decimal decimal_below
call_10 = refl
