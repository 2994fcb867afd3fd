-- The reply of reading the figures: every call first gives 0 if the balance handed to it is not sound. Assumes nothing.
use Rattle.std.specs.Prelude.{cond, not, replicate, Ok}
use Rattle.model.specs.declared.Refusal.TheVariants.{Unsound}
use Rattle.model.specs.Answers.{refuse}
use Rattle.model.specs.View.{View}
use Rattle.model.specs.Limits.{unit_limit, aquifer_limit}
use Rattle.figures.specs.Figures.{no_unit_figures, no_aquifer_figures, all_unit_figures, all_aquifer_figures}
use Rattle.basin.specs.Sound.{sound}
use Rattle.basin.specs.declared.Figures.{Figures}

-- Accepted with the figures of every unit and aquifer, or refused with 0 in every place.
abbrev pub figures_reply : View → Figures
figures_reply v =
    record {
      answer = (refuse Unsound (not (sound v)) (Ok tt));
      units = cond (sound v) (all_unit_figures v) (replicate unit_limit no_unit_figures);
      aquifers = cond (sound v) (all_aquifer_figures v) (replicate aquifer_limit no_aquifer_figures);
    }
