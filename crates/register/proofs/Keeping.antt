-- A call keeps a sound balance sound, and one that is not sound as it is. Assumes nothing.
use Rattle.std.specs.Prelude.{Ok, Err}
use Prim.Native.Nat.{ℕ, ◌+◌}
use mathlib.Core.Path.{◌≡◌, refl, sym, ap, ◌∙◌}
use mathlib.Core.Bool.{true, false}
use Rattle.laws.proofs.Cases.{by_bool}
use Rattle.model.specs.declared.Refusal.{Refusal}
use Rattle.model.specs.declared.Refusal.TheVariants.{Unsound}
use Rattle.model.specs.declared.Balance.{Balance}
use Rattle.model.specs.declared.Call.{Call}
use Rattle.model.specs.declared.Call.TheVariants.{Grant, Cancel}
use Rattle.model.specs.View.{view_of}
use Rattle.model.specs.Answers.{Answer}
use Rattle.basin.specs.Sound.{sound}
use Rattle.effect.specs.Granted.{Sized, posted}
use Rattle.effect.specs.Cancelled.{without_title}
use Rattle.refusal.specs.Grant.{grant_refusal}
use Rattle.register.specs.Reply.{after_test, replied}
use Rattle.register.specs.Cancel.{cancel_refusal}
use Rattle.register.specs.Calls.{call_reply, call_number}
use Rattle.register.specs.declared.Reply.{Reply}
use Rattle.register.proofs.Replies.{reply_unsound}
use Rattle.register.proofs.Staying.{accepted_sound, not_refused, grant_given, given_reply}
use Rattle.register.proofs.Leaving.{reply_fault, cancel_sound, cancel_released, released_reply}

-- 0.
pub call_unsound : (b : Balance) (c : Call) → sound (view_of b) ≡ false → replied (Err Unsound) b b 0 ≡ call_reply b c
call_unsound b (Grant t) e = reply_unsound b t e
call_unsound b (Cancel n) e = reply_fault b n e

-- The old balance is sound, and the new one is if it is handed out.
by_outcome : (r : Answer) (old new : Balance) (n : ℕ)
    → ((replied r old new n).answer ≡ Ok tt → sound (view_of (replied r old new n).balance) ≡ true)
    → sound (view_of old) ≡ true → sound (view_of (replied r old new n).balance) ≡ true
by_outcome (Ok u) old new n f e = f refl
by_outcome (Err k) old new n f e = e

call_sound : (b : Balance) (c : Call) → Sized b → sound (view_of b) ≡ true → sound (view_of (call_reply b c).balance) ≡ true
call_sound b (Grant t) z e = by_outcome (after_test b (grant_refusal (view_of b) t)) b (posted b t) (b.given + 1) (accepted_sound b t z) e
call_sound b (Cancel n) z e = by_outcome (after_test b (cancel_refusal (view_of b) n)) b (without_title b n) n (cancel_sound b n z) e

-- The balance that a call hands back is sound exactly if the one handed in is.
pub call_keeps : (b : Balance) (c : Call) → Sized b → sound (view_of b) ≡ sound (view_of (call_reply b c).balance)
call_keeps b c z =
    by_bool (sound (view_of b)) (λ e. e ∙ sym (call_sound b c z e))
    (λ e. ap (λ (r : Reply). sound (view_of r.balance)) (call_unsound b c e))

outcome_keeps : (r : Answer) (old new : Balance) (m : ℕ) (k : Refusal) → (replied r old new m).answer ≡ Err k
    → ((replied r old new m).balance ≡ old) × ((replied r old new m).number ≡ 0)
outcome_keeps (Ok u) old new m k e = absurd (not_refused k (replied (Ok tt) old new m) e refl)
outcome_keeps (Err n) old new m k e = (refl, refl)

-- A refused call returns the balance handed to it, whatever that is, and 0 as the title's number.
pub refused_keeps : (b : Balance) (c : Call) (k : Refusal) → (call_reply b c).answer ≡ Err k → ((call_reply b c).balance ≡ b) × ((call_reply b c).number ≡ 0)
refused_keeps b (Grant t) k e = outcome_keeps (after_test b (grant_refusal (view_of b) t)) b (posted b t) (b.given + 1) k e
refused_keeps b (Cancel n) k e = outcome_keeps (after_test b (cancel_refusal (view_of b) n)) b (without_title b n) n k e

-- An accepted call tells its number.
pub accepted_number : (b : Balance) (c : Call) → (call_reply b c).answer ≡ Ok tt → (call_reply b c).number ≡ call_number b.given c
accepted_number b (Grant t) e = ap (λ (r : Reply). r.number) (sym (given_reply b t (grant_given b t e)))
accepted_number b (Cancel n) e = ap (λ (r : Reply). r.number) (sym (released_reply b n (cancel_released b n e)))

-- An accepted call had a sound balance.
pub accepted_from_sound : (b : Balance) (c : Call) → (call_reply b c).answer ≡ Ok tt → sound (view_of b) ≡ true
accepted_from_sound b (Grant t) e = (grant_given b t e).sound_before
accepted_from_sound b (Cancel n) e = (cancel_released b n e).sound_before
