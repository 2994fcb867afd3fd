-- The reply to a grant, by its outcomes. Assumes nothing.
use Rattle.std.specs.Prelude.{Ok, Err}
use Prim.Native.Nat.{◌+◌}
use mathlib.Core.Path.{◌≡◌, sym, ap, ◌∙◌}
use mathlib.Core.Bool.{Bool, true, false, not}
use Rattle.model.specs.declared.Refusal.{Refusal}
use Rattle.model.specs.declared.Refusal.TheVariants.{Unsound, NoWater}
use Rattle.model.specs.declared.Balance.{Balance}
use Rattle.model.specs.declared.Title.{Title}
use Rattle.model.specs.View.{view_of}
use Rattle.model.specs.Answers.{Answer, refuse}
use Rattle.basin.specs.Sound.{sound}
use Rattle.basin.proofs.Soundness.{soundness}
use Rattle.titles.specs.Posting.{postings}
use Rattle.titles.specs.Adds.{return_of}
use Rattle.effect.specs.Granted.{granted, posted, lacking, Grantable}
use Rattle.effect.proofs.Taking.{units_more, wells_more}
use Rattle.refusal.specs.Grant.{no_water, grant_refusal}
use Rattle.register.specs.Reply.{after_test, replied, grant_reply}
use Rattle.refusal.specs.Steps.{early_fault, then_answer}
use Rattle.refusal.proofs.Granting.{grant_judged, granting_of}

module _ (b : Balance) (t : Title) where
  pub grantable_of : sound (view_of b) ≡ true → early_fault (view_of b) t ≡ Ok tt → Grantable b t
  grantable_of e q =
      let v = view_of b in
      let s = soundness v e in
      let g = granting_of v t q in
      record {
        room = g.room;
        units = units_more lacking v.unit _ v.units 64 s.few_units g.units;
        wells = wells_more lacking v.aquifer (postings t (return_of t)) v.aquifers 32 s.few_aquifers g.wells;
      }

  by_refusal : (r : Answer) → after_test b (grant_refusal (view_of b) t) ≡ r → replied r b (posted b t) (b.given + 1) ≡ grant_reply b t
  by_refusal r e = ap (λ (x : Answer). replied x b (posted b t) (b.given + 1)) (sym e)

  tested : (s : Bool) → sound (view_of b) ≡ s → after_test b (grant_refusal (view_of b) t) ≡ refuse Unsound (not s) (grant_refusal (view_of b) t)
  tested s e = ap (λ (x : Bool). refuse Unsound (not x) (grant_refusal (view_of b) t)) e

  abbrev water : Answer
  water = refuse NoWater (no_water (granted (view_of b) t) t) (Ok tt)

  judged_as : (n : Answer) → sound (view_of b) ≡ true → early_fault (view_of b) t ≡ n → after_test b (grant_refusal (view_of b) t) ≡ then_answer n water
  judged_as n e q = tested true e ∙ grant_judged (view_of b) t ∙ ap (λ (m : Answer). then_answer m water) q

  -- 0.
  pub reply_unsound : sound (view_of b) ≡ false → replied (Err Unsound) b b 0 ≡ grant_reply b t
  reply_unsound e = by_refusal (Err Unsound) (tested false e)

  -- 12 to 16 and 18.
  pub reply_early : (r : Refusal) → sound (view_of b) ≡ true → early_fault (view_of b) t ≡ Err r → replied (Err r) b b 0 ≡ grant_reply b t
  reply_early r e q = by_refusal (Err r) (judged_as (Err r) e q)

  -- 17.
  pub reply_dry : sound (view_of b) ≡ true → early_fault (view_of b) t ≡ Ok tt → no_water (granted (view_of b) t) t ≡ true
      → replied (Err NoWater) b b 0 ≡ grant_reply b t
  reply_dry e q d = by_refusal (Err NoWater) (judged_as (Ok tt) e q ∙ ap (λ (x : Bool). refuse NoWater x (Ok tt)) d)

  -- Accepted.
  pub reply_given : sound (view_of b) ≡ true → early_fault (view_of b) t ≡ Ok tt → no_water (granted (view_of b) t) t ≡ false
      → replied (Ok tt) b (posted b t) (b.given + 1) ≡ grant_reply b t
  reply_given e q d = by_refusal (Ok tt) (judged_as (Ok tt) e q ∙ ap (λ (x : Bool). refuse NoWater x (Ok tt)) d)
