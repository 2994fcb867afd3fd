-- The order of the refusals: two or more hold of all but the last. Assumes nothing.
use Rattle.std.specs.Prelude.{ℕ, ◌≡◌, refl, List, [], ◌∷◌, replicate, Err}
use Rattle.model.specs.declared.Refusal.TheVariants.{BadWindow, OutOfSequence, TooMany, OutsideValues, LargeUnit}
use Rattle.runoff.specs.declared.Plot.{Plot}
use Rattle.runoff.specs.Record.{area_of}
use Rattle.window.specs.Refused.{windows_refusal}
use Rattle.cases.specs.OneUnit.{plot}

-- A soil record of a cover that there is none of, one as large as a unit may be, and years with too little rain.
abbrev wrong : Plot
wrong = plot 15 1 10

abbrev wide : Plot
wide = plot 8 1 300000

abbrev dry : List ℕ
dry = replicate 20 3499

-- The window, whatever else is wrong.
pub width_first : windows_refusal [] dry 19 ≡ Err BadWindow
unfolding area_of
width_first = refl

-- No soil record, before the years.
pub none_next : windows_refusal [] dry 20 ≡ Err OutOfSequence
unfolding area_of
none_next = refl

-- Seventeen soil records, before one that is outside its values.
pub many_next : windows_refusal (wrong ∷ replicate 16 wide) dry 20 ≡ Err TooMany
unfolding area_of
many_next = refl

-- The last soil record is outside its values, before the hectares of the two before it.
pub outside_next : windows_refusal (wide ∷ wide ∷ wrong ∷ []) dry 20 ≡ Err OutsideValues
unfolding area_of
outside_next = refl

-- 600,000 hectares, before the years.
pub large_next : windows_refusal (wide ∷ wide ∷ []) dry 20 ≡ Err LargeUnit
unfolding area_of
large_next = refl

-- And then the years.
pub rain_last : windows_refusal (wide ∷ []) dry 20 ≡ Err OutsideValues
unfolding area_of
rain_last = refl
