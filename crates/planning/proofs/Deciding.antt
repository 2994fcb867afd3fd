-- What is decided on keeping and going back, by the tests that are made; and the replies by what was decided. Assumes nothing.
use Rattle.std.specs.Prelude.{Option, Some, None, Ok, Err}
use Rattle.std.specs.Option.{ok_or}
use Prim.Native.Nat.{ℕ, ◌<◌}
use mathlib.Core.Path.{◌≡◌, refl, ap}
use mathlib.Core.Bool.{Bool, true, false}
use lib.Dec.{leb}
use native.Mathlib.Omega.{arith}
use Rattle.laws.proofs.Cases.{by_bool}
use Rattle.model.specs.declared.Refusal.TheVariants.{FifthName, NoSuchName}
use Rattle.planning.specs.declared.Name.{Name}
use Rattle.planning.specs.declared.State.{State}
use Rattle.planning.specs.Names.{place_limit}
use Rattle.planning.specs.State.{sound_state}
use Rattle.planning.specs.Calls.{place_in, keep_reply, back_reply}
use Rattle.planning.specs.Decision.{sought, keep_decision, back_decision, keep_as, back_as}
use Rattle.planning.proofs.Replying.{standing, keep_by, back_by, place_within}

-- Going back, by what the search gave.
pub back_place : (test : Bool) (f g : Option ℕ) → Ok g ≡ sought test f → ok_or g NoSuchName ≡ back_decision test f
back_place true (Some j) g e = let p : g ≡ Some j = cc in ap (λ (x : Option ℕ). ok_or x NoSuchName) p
back_place true None g e = let p : g ≡ None = cc in ap (λ (x : Option ℕ). ok_or x NoSuchName) p
back_place false f g e = cc

-- The replies are those of the decisions.
keep_as_decided : (s : State) (n : Name) (test : Bool) (f : Option ℕ) (count : ℕ)
    → keep_by s n test f (leb place_limit count) ≡ keep_as s n (keep_decision test f count)
keep_as_decided s n true (Some k) count = refl
keep_as_decided s n false (Some k) count = refl
keep_as_decided s n true None count = by_bool (leb place_limit count) (λ q. rw q refl) (λ q. rw q refl)
keep_as_decided s n false None count = refl

back_as_decided : (s : State) (test : Bool) (f : Option ℕ) → back_by s test f ≡ back_as s (back_decision test f)
back_as_decided s true (Some k) = refl
back_as_decided s false (Some k) = refl
back_as_decided s true None = refl
back_as_decided s false None = refl

pub keep_decided : (s : State) (n : Name) → keep_reply s n ≡ keep_as s n (keep_decision (sound_state s) (place_in s n) s.count)
keep_decided s n = keep_as_decided s n (sound_state s) (place_in s n) s.count

pub back_decided : (s : State) (n : Name) → back_reply s n ≡ back_as s (back_decision (sound_state s) (place_in s n))
back_decided s n = back_as_decided s (sound_state s) (place_in s n)

-- What a decision says of the test and of the place.
again_of : (test : Bool) (f : Option ℕ) (n k : ℕ) → keep_decision test f n ≡ Ok (Some k) → (test ≡ true) × (f ≡ Some k)
again_of true (Some j) n k e = (refl, cc)
again_of false (Some j) n k e = cc
again_of true None n k e =
    by_bool (leb place_limit n)
    (λ q. let z : Err FifthName ≡ Ok (Some k) = rw q at e in cc)
    (λ q. let z : Ok None ≡ Ok (Some k) = rw q at e in cc)
again_of false None n k e = cc

to_of : (test : Bool) (f : Option ℕ) (k : ℕ) → back_decision test f ≡ Ok k → (test ≡ true) × (f ≡ Some k)
to_of true (Some j) k e = (refl, cc)
to_of false (Some j) k e = cc
to_of true None k e = cc
to_of false None k e = cc

-- A place that is decided on is one of the four.
module _ (s : State) (n : Name) where
  found_within : (k : ℕ) → (sound_state s ≡ true) × (place_in s n ≡ Some k) → k < place_limit
  found_within k p = omega (arith, (standing s p.0).few, place_within s n k p.1)

  pub again_within : (k : ℕ) → keep_decision (sound_state s) (place_in s n) s.count ≡ Ok (Some k) → k < place_limit
  again_within k e = found_within k (again_of (sound_state s) (place_in s n) s.count k e)

  pub to_within : (k : ℕ) → back_decision (sound_state s) (place_in s n) ≡ Ok k → k < place_limit
  to_within k e = found_within k (to_of (sound_state s) (place_in s n) k e)
