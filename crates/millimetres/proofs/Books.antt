-- Which books are without a PD, of two: document 01's printed book is, that of appendix D of 000 in tenths is not. Assumes nothing.
use mathlib.Core.Path.{◌≡◌, refl}
use mathlib.Core.Bool.{true, false}
use Rattle.record.specs.Entries.{entry_at}
use Rattle.cases.specs.Printed.{printed_description, printed_calls, printed_book}
use Rattle.cases.specs.OneUnit.{tequisistlan, tequisistlan_years, rain_book}
use Rattle.millimetres.specs.Opening.{free_from, without_pd}

pub printed_free : without_pd printed_book ≡ true
unfolding printed_book printed_description printed_calls free_from entry_at
printed_free = refl

pub tenths_not_free : without_pd (rain_book tequisistlan tequisistlan_years) ≡ false
unfolding free_from entry_at
tenths_not_free = refl
