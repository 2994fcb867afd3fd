-- Chains of tests: a function that returns false at the first test that fails, against the conjunction of the tests. Assumes nothing.
use mathlib.Core.Path.{◌≡◌, refl, sym, ◌∙◌}
use mathlib.Core.Logic.{◌⊎◌, inl, inr}
use mathlib.Core.Bool.{Bool, true, false, ◌&&◌, ◌||◌}

-- A test that fails ends the chain, and one that holds leaves the rest of it.
stop : (t x : Bool) → t ≡ false → false ≡ (t && x)
stop t x e = rw e

pub go : (t x r : Bool) → t ≡ true → r ≡ x → r ≡ (t && x)
go t x r e h = rw e h

-- What a call's test says of the test that it made.
pub call_holds : {s t : Bool} → s ≡ t → s ≡ true → t ≡ true
call_holds e h = sym e ∙ h

pub call_fails : {s t : Bool} → s ≡ t → s ≡ false → t ≡ false
call_fails e h = sym e ∙ h

-- A test that a call made ends the chain, or leaves the rest of it.
pub stop_call : (s t x : Bool) → s ≡ t → s ≡ false → false ≡ (t && x)
stop_call s t x e h = stop t x (call_fails e h)

pub go_call : (s t x r : Bool) → s ≡ t → s ≡ true → r ≡ x → r ≡ (t && x)
go_call s t x r e h g = go t x r (call_holds e h) g

-- Both tests of a conjunction hold.
pub both_hold : (s t : Bool) → s ≡ true → t ≡ true → (s && t) ≡ true
both_hold s t e f = rw e f

-- One test of a conjunction fails.
pub first_fails : (s t : Bool) → s ≡ false → (s && t) ≡ false
first_fails s t e = rw e

-- One test of a disjunction holds.
pub either : (s t : Bool) → (s || t) ≡ true → (s ≡ true) ⊎ (t ≡ true)
either true t e = inl refl
either false t e = inr e

pub first_holds : (s t : Bool) → s ≡ true → (s || t) ≡ true
first_holds s t e = rw e

pub second_holds : (s t : Bool) → t ≡ true → (s || t) ≡ true
second_holds true t e = refl
second_holds false t e = e
