-- A sound state by its parts, and the replies of keeping and going back by what the test and the search gave. Assumes nothing.
use Rattle.std.specs.Prelude.{Option, Some, None, Ok, Err}
use Prim.Native.Nat.{ℕ, ◌+◌, ◌≤◌, ◌<◌}
use mathlib.Core.Path.{◌≡◌, sym}
use mathlib.Core.Bool.{Bool, true, false, not, ◌&&◌}
use lib.Dec.{leb}
use borrow.Author.Tests.{le-leb, lt-leb, leb-true}
use Rattle.laws.proofs.Every.{both}
use Rattle.laws.proofs.Chain.{t_and}
use Rattle.model.specs.declared.Refusal.TheVariants.{Unsound, FifthName, NoSuchName}
use Rattle.model.specs.View.{view_of}
use Rattle.model.specs.Answers.{refuse}
use Rattle.river.proofs.Firsts.{at_first}
use Rattle.basin.specs.Sound.{sound}
use Rattle.planning.specs.declared.Name.{Name}
use Rattle.planning.specs.declared.State.{State}
use Rattle.planning.specs.declared.Reply.{Reply}
use Rattle.planning.specs.Names.{place_limit, is_found, distinct}
use Rattle.planning.specs.State.{name_at, balance_at, kept_sound, sound_state}
use Rattle.planning.specs.Calls.{place_in, with_current, with_kept, kept_under, kept_in, returned_to, replied, keep_reply, back_reply}

-- What holds of a sound state.
pub record Standing (s : State) : Type 0 where
  pub current : sound (view_of s.balance) ≡ true
  pub few : s.count ≤ place_limit
  pub kept : kept_sound s.kept s.count ≡ true
  pub apart : distinct (name_at s.kept) s.count ≡ true

pub standing : (s : State) → sound_state s ≡ true → Standing s
unfolding sound_state
standing s e =
    let p = both (sound (view_of s.balance)) _ e in
    let q = both (leb s.count place_limit) _ p.1 in
    let r = both (kept_sound s.kept s.count) _ q.1 in
    record { current = p.0; few = leb-true _ _ q.0; kept = r.0; apart = r.1 }

pub stands : (s : State) → Standing s → sound_state s ≡ true
unfolding sound_state
stands s p = t_and _ _ p.current (t_and _ _ (le-leb _ _ p.few) (t_and _ _ p.kept p.apart))

-- The test for 0 past the current balance and the number of the kept ones.
pub sound_by : (s : State) (all apart : Bool) → sound (view_of s.balance) ≡ true → s.count ≤ place_limit → all ≡ kept_sound s.kept s.count
    → apart ≡ distinct (name_at s.kept) s.count → all && apart ≡ sound_state s
unfolding sound_state
sound_by s all apart e h p q = λ i. sym e i && (sym (le-leb s.count place_limit h) i && (p i && q i))

-- The replies by what the test for 0 gave and where the name was found.
abbrev pub keep_by : State → Name → Bool → Option ℕ → Bool → Reply
keep_by s n test f full = replied (refuse Unsound (not test) (refuse FifthName (not (is_found f) && full) (Ok tt))) s (kept_in s n f)

abbrev pub back_by : State → Bool → Option ℕ → Reply
back_by s test f = replied (refuse Unsound (not test) (refuse NoSuchName (not (is_found f)) (Ok tt))) s (returned_to s f)

module _ (s : State) (n : Name) where
  pub keep_faulty : sound_state s ≡ false → keep_reply s n ≡ replied (Err Unsound) s s
  keep_faulty e = λ i. keep_by s n (e i) (place_in s n) (leb place_limit s.count)

  pub back_faulty : sound_state s ≡ false → back_reply s n ≡ replied (Err Unsound) s s
  back_faulty e = λ i. back_by s (e i) (place_in s n)

  module _ (e : sound_state s ≡ true) where
    pub keep_again : (k : ℕ) → place_in s n ≡ Some k → keep_reply s n ≡ replied (Ok tt) s (with_kept s (kept_under s k (name_at s.kept k)) s.count)
    keep_again k p = λ i. keep_by s n (e i) (p i) (leb place_limit s.count)

    pub keep_fifth : place_in s n ≡ None → place_limit ≤ s.count → keep_reply s n ≡ replied (Err FifthName) s s
    keep_fifth p h = λ i. keep_by s n (e i) (p i) (le-leb place_limit s.count h i)

    pub keep_new : place_in s n ≡ None → s.count < place_limit
        → keep_reply s n ≡ replied (Ok tt) s (with_kept s (kept_under s s.count n) (s.count + 1))
    keep_new p h = λ i. keep_by s n (e i) (p i) (lt-leb place_limit s.count h i)

    pub back_none : place_in s n ≡ None → back_reply s n ≡ replied (Err NoSuchName) s s
    back_none p = λ i. back_by s (e i) (p i)

    pub back_to : (k : ℕ) → place_in s n ≡ Some k → back_reply s n ≡ replied (Ok tt) s (with_current s (balance_at s.kept k))
    back_to k p = λ i. back_by s (e i) (p i)

-- A place that is found is in use.
pub place_within : (s : State) (n : Name) (k : ℕ) → place_in s n ≡ Some k → k < s.count
place_within s n k p = (at_first _ s.count k p).0
