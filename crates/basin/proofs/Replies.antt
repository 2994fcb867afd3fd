-- The two replies of reading the figures. Assumes nothing.
use Rattle.std.specs.Prelude.{Ok, Err}
use mathlib.Core.Path.{◌≡◌}
use mathlib.Core.Bool.{true, false}
use mathlib.Core.List.{List}
use lib.ListN.{replicate}
use Rattle.model.specs.declared.Refusal.TheVariants.{Unsound}
use Rattle.model.specs.View.{View}
use Rattle.figures.specs.declared.UnitFigures.{UnitFigures}
use Rattle.figures.specs.declared.AquiferFigures.{AquiferFigures}
use Rattle.figures.specs.Figures.{no_unit_figures, no_aquifer_figures, all_unit_figures, all_aquifer_figures}
use Rattle.basin.specs.Sound.{sound}
use Rattle.basin.specs.Figures.{figures_reply}
use Rattle.basin.specs.declared.Figures.{Figures}

module _ (v : View) (units : List UnitFigures) (wells : List AquiferFigures) where
  pub refused_reply_lem : sound v ≡ false → units ≡ replicate 64 no_unit_figures → wells ≡ replicate 32 no_aquifer_figures
      → ◌≡◌ {A = Figures} (record { answer = Err Unsound; units = units; aquifers = wells }) (figures_reply v)
  refused_reply_lem e p q = rw e (λ i. record { answer = Err Unsound; units = p i; aquifers = q i })

  pub accepted_reply : sound v ≡ true → units ≡ all_unit_figures v → wells ≡ all_aquifer_figures v
      → ◌≡◌ {A = Figures} (record { answer = Ok tt; units = units; aquifers = wells }) (figures_reply v)
  accepted_reply e p q = rw e (λ i. record { answer = Ok tt; units = p i; aquifers = q i })
