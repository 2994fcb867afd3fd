-- Worked records: the values of each window, of which some are 0 though their places are used. Assumes nothing.
use Rattle.std.specs.Prelude.{ℕ, ◌≡◌, refl, List, [], ◌∷◌, ◌++◌, replicate, Ok}
use Rattle.laws.specs.Table.{table, tabulate}
use Rattle.runoff.specs.Soil.{coefficient, coefficients}
use Rattle.runoff.specs.Year.{rain_year}
use Rattle.runoff.specs.Mean.{rounded}
use Rattle.runoff.specs.Record.{area_of, weighted_of, years_sum}
use Rattle.window.specs.declared.Windows.{Windows}
use Rattle.window.specs.Window.{windows_reply}
use Rattle.cases.specs.OneUnit.{under, tequisistlan, tequisistlan_tenths}

-- An accepted reply with so many values, and 0 in the unused places.
abbrev pub gives : ℕ → List ℕ → ℕ → Windows
gives count values unused = record { answer = Ok tt; number = 0; count = count; runoffs = values ++ replicate unused 0 }

-- The Río Tequisistlán's 22 years, in windows of 20, of 21 and of all 22, whose value is the 264,955 thousand m³ of the book of these years.
pub twenty_of_tequisistlan : windows_reply tequisistlan tequisistlan_tenths 20 ≡ gives 3 (263993 ∷ 261136 ∷ 263946 ∷ []) 178
unfolding table tabulate years_sum area_of weighted_of rain_year coefficient coefficients rounded
twenty_of_tequisistlan = refl

pub twenty_one_of_tequisistlan : windows_reply tequisistlan tequisistlan_tenths 21 ≡ gives 2 (265202 ∷ 261071 ∷ []) 179
unfolding table tabulate years_sum area_of weighted_of rain_year coefficient coefficients rounded
twenty_one_of_tequisistlan = refl

pub all_of_tequisistlan : windows_reply tequisistlan tequisistlan_tenths 22 ≡ gives 1 (264955 ∷ []) 180
unfolding table tabulate years_sum area_of weighted_of rain_year coefficient coefficients rounded
all_of_tequisistlan = refl

-- Seven hectares that give less than half a thousand m³ in each year have three values of 0.
pub three_of_zero : windows_reply under (replicate 22 5000) 20 ≡ gives 3 (0 ∷ 0 ∷ 0 ∷ []) 178
unfolding table tabulate years_sum area_of weighted_of rain_year coefficient coefficients rounded
three_of_zero = refl
