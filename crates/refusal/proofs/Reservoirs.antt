-- Water is reserved for what reservoirs evaporate as for an extraction. Assumes nothing.
use Rattle.std.specs.Prelude.{Ok}
use Prim.Native.Nat.{pred}
use mathlib.Core.Path.{◌≡◌, refl, sym, ap, ◌∙◌}
use mathlib.Core.Bool.{true}
use native.Mathlib.Omega.{arith}
use Rattle.laws.proofs.Parts.{less_equal}
use Rattle.model.specs.declared.Refusal.TheVariants.{NoWater}
use Rattle.model.specs.declared.Title.{Title}
use Rattle.model.specs.declared.Title.TheVariants.{UnitWithdrawal, AquiferWithdrawal, UnitTransfer, AquiferTransfer, ReturningWithdrawal}
use Rattle.model.specs.declared.Unit.{Unit}
use Rattle.model.specs.View.{View}
use Rattle.model.specs.Answers.{Answer, refuse}
use Rattle.river.specs.Flow.{net, Ready}
use Rattle.river.proofs.Flows.{net_parts}
use Rattle.river.proofs.Units.{AlikeUnits}
use Rattle.figures.specs.Figures.{all_unit_figures}
use Rattle.figures.proofs.Units.{figures_alike}
use Rattle.basin.specs.Sound.{sound}
use Rattle.basin.specs.Figures.{figures_reply}
use Rattle.basin.specs.declared.Figures.{Figures}
use Rattle.basin.proofs.Soundness.{soundness, sound_ready}
use Rattle.basin.proofs.Replies.{accepted_reply}
use Rattle.effect.specs.Granted.{granted, Named}
use Rattle.refusal.specs.Grant.{no_water, grant_refusal}
use Rattle.refusal.specs.Steps.{early_fault, then_answer}
use Rattle.refusal.specs.Reservoirs.{as_extraction, extracted}
use Rattle.refusal.proofs.Entries.{dry_alike}
use Rattle.refusal.proofs.Granting.{grant_judged, granting_of, granting_named, granted_ready}

net_as_extraction : (u : Unit) → net (as_extraction u) ≡ net u
net_as_extraction u = less_equal (net_parts (as_extraction u)) (net_parts u) (omega arith)

extracted_alike : (v : View) → AlikeUnits v (extracted v)
extracted_alike v =
    record {
      count = refl;
      drains = λ k h. refl;
      adds = λ k h. net_as_extraction (v.unit k);
      gives = λ k h. refl;
      asks = λ k h c. omega arith;
      promises = λ k h. refl;
    }

-- What is reported of the units of a sound balance are the figures over them with the evaporation taken as an extraction.
pub figures_as_extraction : (v : View) → sound v ≡ true → (figures_reply v).units ≡ all_unit_figures (extracted v)
figures_as_extraction v e =
    ap (λ (f : Figures). f.units) (sym (accepted_reply v _ _ e refl refl)) ∙ sym (figures_alike v (extracted v) (extracted_alike v) (sound_ready v e))

-- There is no water for a title where there would be none so.
water_as_extraction : (v : View) (t : Title) → Ready v → Named v t → no_water (extracted v) t ≡ no_water v t
water_as_extraction v (UnitWithdrawal u x y) r n = dry_alike v (extracted v) (extracted_alike v) r (pred u) (omega (arith, n.extraction.0, n.extraction.1))
water_as_extraction v (AquiferWithdrawal a x) r n = refl
water_as_extraction v (UnitTransfer g t x) r n = dry_alike v (extracted v) (extracted_alike v) r (pred g) (omega (arith, n.exports.0, n.exports.1))
water_as_extraction v (AquiferTransfer a u x) r n = refl
water_as_extraction v (ReturningWithdrawal a u x y) r n = refl

-- A grant that no refusal before 17 meets is refused with 17 where, with the title in and the evaporation taken as an extraction, there is no
-- water, and else accepted.
pub grant_as_extraction : (v : View) (t : Title) → sound v ≡ true → early_fault v t ≡ Ok tt
    → grant_refusal v t ≡ refuse NoWater (no_water (extracted (granted v t)) t) (Ok tt)
grant_as_extraction v t e f =
    let g = granting_of v t f in
    grant_judged v t
    ∙ ap (λ (x : Answer). then_answer x (refuse NoWater (no_water (granted v t) t) (Ok tt))) f
    ∙ sym (ap (λ b. refuse NoWater b (Ok tt)) (water_as_extraction (granted v t) t (granted_ready v t (soundness v e) g) (granting_named v t g)))
