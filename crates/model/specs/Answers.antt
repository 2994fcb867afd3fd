-- Answers, and the number of each refusal. Assumes nothing.
use Rattle.std.specs.Prelude.{ℕ, zero, suc, Bool, cond, true, false, Option, Some, None, Result, Ok, Err}
use Rattle.model.specs.declared.Refusal.{Refusal}
use Rattle.model.specs.declared.Refusal.TheVariants.{Unsound, Short, UnknownMark, OutOfSequence, TooMany, OutsideValues, FewYears, LargeUnit, BadDownstream, BadGauge, NegativeFlow, NegativeRecharge, NoSuchPlace, NoSuchUse, BadVolume, NumbersGiven, EntryFull, NoWater, ReceiverBelow, NotInForce, FlowNeeded, TooLong, FifthName, NoSuchName, BadWindow}

-- The number under which each refusal is listed and printed.
abbrev pub number : Refusal → ℕ
number Unsound = 0
number Short = 1
number UnknownMark = 2
number OutOfSequence = 3
number TooMany = 4
number OutsideValues = 5
number FewYears = 6
number LargeUnit = 7
number BadDownstream = 8
number BadGauge = 9
number NegativeFlow = 10
number NegativeRecharge = 11
number NoSuchPlace = 12
number NoSuchUse = 13
number BadVolume = 14
number NumbersGiven = 15
number EntryFull = 16
number NoWater = 17
number ReceiverBelow = 18
number NotInForce = 19
number FlowNeeded = 20
number TooLong = 21
number FifthName = 22
number NoSuchName = 23
number BadWindow = 24

-- An answer: accepted, or refused.
abbrev pub Answer : Type 0
Answer = Result (Unit {0}) Refusal

abbrev pub accepted : Answer
accepted = Ok tt

-- The first refusal whose test holds: this one, or else what follows.
abbrev pub refuse : Refusal → Bool → Answer → Answer
refuse r t rest = cond t (Err r) rest

-- The first place from i on at which the test holds, of n places.
unfoldable pub first_from : ℕ → ℕ → (ℕ → Bool) → Option ℕ
first_from zero i t = None
first_from (suc n) i t = elim (t i) [ true ↦ Some i | false ↦ first_from n (suc i) t ]

-- The first of n places at which the test holds.
abbrev pub first : ℕ → (ℕ → Bool) → Option ℕ
first n t = first_from n 0 t
