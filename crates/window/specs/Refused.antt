-- The refusals of the moving window. Assumes nothing.
use Rattle.std.specs.Prelude.{ℕ, Bool, ◌||◌, List, eqb, ltb, length}
use Rattle.std.specs.List.{list_any}
use Rattle.model.specs.declared.Refusal.TheVariants.{BadWindow, OutOfSequence, TooMany, OutsideValues, LargeUnit}
use Rattle.model.specs.Answers.{Answer, accepted, refuse}
use Rattle.runoff.specs.declared.Measure.TheVariants.{Tenths}
use Rattle.runoff.specs.declared.Plot.{Plot}
use Rattle.runoff.specs.Record.{area_of}
use Rattle.record.specs.Fault.{soil_outside, rain_outside}

-- A window outside 20 to 50 years, longer than the record, or a record above 200 years.
abbrev pub bad_window : ℕ → ℕ → Bool
bad_window width years = ltb width 20 || (ltb 50 width || (ltb years width || ltb 200 years))

-- Some soil record is outside its values as an SU of a book is, and some rain year as a PD is.
abbrev pub soils_outside : List Plot → Bool
soils_outside plots = list_any (λ p. soil_outside p.cover p.soil p.hectares) plots

abbrev pub rains_outside : List ℕ → Bool
rains_outside years = list_any (rain_outside Tenths) years

-- 24 the window, checked first; then soil records by 3 (none), 4 (above 16), 5 and 7 (above 300,000 hectares), each over all records before
-- the next; and after them rain years by 5.
abbrev pub windows_refusal : List Plot → List ℕ → ℕ → Answer
windows_refusal plots years width =
    refuse BadWindow (bad_window width (length years))
    (refuse OutOfSequence (eqb (length plots) 0)
    (refuse TooMany (ltb 16 (length plots))
    (refuse OutsideValues (soils_outside plots)
    (refuse LargeUnit (ltb 300000 (area_of plots))
    (refuse OutsideValues (rains_outside years) accepted)))))
