-- What each kind of request does to the state and to the two tests for 0. Assumes nothing.
use Rattle.std.specs.Prelude.{Option, Some, Result, Err}
use Prim.Native.Nat.{ℕ}
use mathlib.Core.Path.{◌≡◌, sym, ap, ◌∙◌}
use mathlib.Core.Bool.{Bool, ◌&&◌}
use lib.Dec.{leb}
use lib.ListN.{length}
use Rattle.std.proofs.lemmas.Option.{same_Some}
use Rattle.laws.proofs.Cases.{by_bool}
use Rattle.model.specs.declared.Refusal.{Refusal}
use Rattle.model.specs.Answers.{Answer}
use Rattle.model.specs.declared.Balance.{Balance}
use Rattle.model.specs.declared.Call.{Call}
use Rattle.model.specs.View.{view_of}
use Rattle.basin.specs.Sound.{sound}
use Rattle.register.specs.Calls.{call_reply}
use Rattle.register.proofs.Keeping.{refused_keeps}
use Rattle.planning.specs.declared.Name.{Name}
use Rattle.planning.specs.declared.State.{State}
use Rattle.planning.specs.declared.Reply.{Reply}
use Rattle.planning.specs.Names.{place_limit, distinct}
use Rattle.planning.specs.State.{Sized, name_at, kept_sound, sound_state}
use Rattle.planning.specs.Calls.{place_in, with_current, back_reply}
use Rattle.planning.specs.Decision.{back_decision}
use Rattle.planning.proofs.Replying.{standing, back_faulty}
use Rattle.planning.proofs.Promises.{keep_keeps, back_keeps, keep_stays, back_stays}
use Rattle.requests.specs.Requests.{ask, keep, back, state_after}

-- What holds of the state in the loop beside its replies: what the test of its balance gave still holds, and that of the whole state if it
-- was made, and its array is whole.
pub record Tested (test : Bool) (whole : Option Bool) (st : State) : Type 0 where
  pub balance : test ≡ sound (view_of st.balance)
  pub state : (answer : Bool) → whole ≡ Some answer → answer ≡ sound_state st
  pub sized : Sized st

-- A state is as sound with another current balance that is as sound.
current_sound : (st : State) (b : Balance) → sound (view_of st.balance) ≡ sound (view_of b) → sound_state st ≡ sound_state (with_current st b)
unfolding sound_state
current_sound st b e =
    ap (λ (t : Bool). t && (leb st.count place_limit && (kept_sound st.kept st.count && distinct (name_at st.kept) st.count))) e

-- Going back leaves the current balance as sound as it was.
back_sound : (st : State) (n : Name) → Sized st → sound (view_of st.balance) ≡ sound (view_of (back_reply st n).state.balance)
back_sound st n z =
    by_bool (sound_state st)
    (λ e. (standing st e).current ∙ sym (standing (back_reply st n).state (back_keeps st n z ∙ e)).current)
    (λ e. ap (λ (r : Reply). sound (view_of r.state.balance)) (sym (back_faulty st n e)))

-- The test of the whole state was made, and its answer is known from then on.
pub tested_whole : (test : Bool) (whole : Option Bool) (st : State) → Tested test whole st → (known : Option Bool) → known ≡ Some (sound_state st)
    → Tested test known st
tested_whole test whole st t known is =
    record { balance = t.balance; state = λ a q. sym (same_Some (sound_state st) a (sym is ∙ q)); sized = t.sized }

-- Every request keeps that.
module _ (test : Bool) (whole : Option Bool) (st : State) (t : Tested test whole st) (next : State) where
  pub tested_call : (c : Call) → next ≡ state_after st (ask c) → sound (view_of st.balance) ≡ sound (view_of next.balance) → Tested test whole next
  tested_call c e s =
      let b = (call_reply st.balance c).balance in
      record {
        balance = t.balance ∙ s;
        state = λ answer q. t.state answer q ∙ current_sound st b (s ∙ ap (λ (x : State). sound (view_of x.balance)) e) ∙ ap sound_state (sym e);
        sized = record { kept = ap (λ (x : State). length x.kept) e ∙ t.sized.kept };
      }

  pub tested_keep : (n : Name) → next ≡ state_after st (keep n) → Tested test whole next
  tested_keep n e =
      let stays = keep_stays st n in
      record {
        balance = t.balance ∙ ap (λ (x : Balance). sound (view_of x)) (sym stays.0) ∙ ap (λ (x : State). sound (view_of x.balance)) (sym e);
        state = λ answer q. t.state answer q ∙ sym (keep_keeps st n t.sized) ∙ ap sound_state (sym e);
        sized = record { kept = ap (λ (x : State). length x.kept) e ∙ stays.1 ∙ t.sized.kept };
      }

  pub tested_back : (n : Name) → next ≡ state_after st (back n) → Tested test whole next
  tested_back n e =
      record {
        balance = t.balance ∙ back_sound st n t.sized ∙ ap (λ (x : State). sound (view_of x.balance)) (sym e);
        state = λ answer q. t.state answer q ∙ sym (back_keeps st n t.sized) ∙ ap sound_state (sym e);
        sized = record { kept = ap (λ (x : State). length x.kept) e ∙ back_stays st n ∙ t.sized.kept };
      }

-- A refused call leaves the state.
pub refused_state : (st : State) (c : Call) (a : Answer) (x : Refusal) → a ≡ (call_reply st.balance c).answer → a ≡ Err x → st ≡ state_after st (ask c)
refused_state st c a x e q = ap (with_current st) (sym (refused_keeps st.balance c x (sym e ∙ q)).0)

-- What was decided on going back, by the test that was made.
pub back_said : (whole : Bool) (st : State) → whole ≡ sound_state st → (n : Name) (d : Result ℕ Refusal) → d ≡ back_decision whole (place_in st n)
    → d ≡ back_decision (sound_state st) (place_in st n)
back_said whole st t n d e = e ∙ ap (λ (u : Bool). back_decision u (place_in st n)) t
