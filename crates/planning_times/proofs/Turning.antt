-- Laws of calls made in turn. Assumes nothing.
use Prim.Native.Nat.{ℕ, suc, ◌+◌, ◌-◌, ◌≤◌, ◌<◌}
use mathlib.Core.Path.{◌≡◌, sym, ap, ◌∙◌}
use native.Mathlib.Omega.{arith}
use Rattle.planning.specs.declared.State.{State}
use Rattle.requests.specs.Requests.{Asking, ends, fails, asks, request_at}
use Rattle.replay.specs.Page.{reply_to}
use Rattle.planning_times.specs.Timed.{Turn, states, counted, cancel_nothing, record_turn}

-- The calls that are left lead from this state to the end, and what was counted and what they count is the whole count.
pub record Going (f : State → ℕ → Turn) (times : ℕ) (first : State) (i counts : ℕ) (s : State) : Type 0 where
  pub few : counts ≤ i
  pub state : states f (times - i) i s ≡ states f times 0 first
  pub all : counts + counted f (times - i) i s ≡ counted f times 0 first

module _ (f : State → ℕ → Turn) (times i : ℕ) (s : State) where
  states_on : i < times → states f (times - i) i s ≡ states f (times - (i + 1)) (i + 1) (f s i).next
  unfolding states
  states_on h = let e : times - i ≡ suc (times - (i + 1)) = omega arith in ap (λ (n : ℕ). states f n i s) e

  states_end : times ≤ i → states f (times - i) i s ≡ s
  unfolding states
  states_end h = let e : times - i ≡ 0 = omega arith in ap (λ (n : ℕ). states f n i s) e

  counted_on : i < times → counted f (times - i) i s ≡ (f s i).counts + counted f (times - (i + 1)) (i + 1) (f s i).next
  unfolding counted
  counted_on h = let e : times - i ≡ suc (times - (i + 1)) = omega arith in ap (λ (n : ℕ). counted f n i s) e

  counted_end : times ≤ i → counted f (times - i) i s ≡ 0
  unfolding counted
  counted_end h = let e : times - i ≡ 0 = omega arith in ap (λ (n : ℕ). counted f n i s) e

  module _ (first : State) (counts : ℕ) (g : Going f times first i counts s) where
    -- One call more is made.
    pub going_on : i < times → (f s i).counts ≤ 1 → (next : State) (k : ℕ) → next ≡ (f s i).next → k ≡ (f s i).counts
        → Going f times first (i + 1) (counts + k) next
    going_on h one next k e c =
        record {
          few = omega (arith, g.few, one, c);
          state = ap (states f (times - (i + 1)) (i + 1)) e ∙ sym (states_on h) ∙ g.state;
          all = omega (arith, ap (λ (x : State). counted f (times - (i + 1)) (i + 1) x) e, counted_on h, g.all, c);
        }

    -- None is left.
    pub gone_state : times ≤ i → s ≡ states f times 0 first
    gone_state h = sym (states_end h) ∙ g.state

    pub gone_count : times ≤ i → counts ≡ counted f times 0 first
    gone_count h = omega (arith, counted_end h, g.all)

-- No call was made yet.
pub going_start : (f : State → ℕ → Turn) (times : ℕ) (s : State) → Going f times s 0 0 s
going_start f times s =
    let all : times - 0 ≡ times = omega arith in
    record { few = omega arith; state = ap (λ (n : ℕ). states f n 0 s) all; all = omega (arith, ap (λ (n : ℕ). counted f n 0 s) all) }

-- The reply to a record is that to one record at most.
one_by : (x : Asking) (s : State) → (reply_to x 1 s 0).count ≤ 1
one_by ends s = omega arith
one_by (fails r) s = omega arith
one_by (asks r to) s = omega arith

pub one_record : (s : State) (i : ℕ) → (record_turn s i).counts ≤ 1
one_record s i = one_by (request_at cancel_nothing 0) s
