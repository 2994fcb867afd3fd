-- A withdrawal that returns to a unit: what the entries of that unit take, and that changing its returns alone changes the units. Assumes nothing.
use Prim.Native.Nat.{ℕ, ◌-◌, ◌<◌, zero-le}
use mathlib.Core.Path.{◌≡◌, sym, ap, subst, ◌∙◌}
use mathlib.Core.List.{List}
use lib.ListN.{get_or, set}
use native.Mathlib.Omega.{arith}
use native.Mathlib.Numerals.{sub-one}
use Rattle.laws.specs.Table.{indexed}
use Rattle.model.specs.declared.Unit.{Unit}
use Rattle.model.specs.declared.Title.{Title}
use Rattle.model.specs.declared.Title.TheVariants.{ReturningWithdrawal}
use Rattle.model.specs.Entries.{with_entries}
use Rattle.model.specs.Fresh.{empty_unit}
use Rattle.titles.specs.Posting.{post, posts}
use Rattle.titles.specs.Adds.{returned, return_of}
use Rattle.effect.specs.Effect.{changed_by, changed_units}
use Rattle.effect.specs.Room.{UnitArrayTakes, Leaves}
use Rattle.effect.proofs.Changing.{none, unit_at_lem}

-- The index that the code works out of the unit's number is one of the units', and the entries there leave what the title posts to them.
pub returning_leaves : (left : ℕ → ℕ) (us : List Unit) (a u r v : ℕ) → UnitArrayTakes left (ReturningWithdrawal a u r v) us
    → (u - 1 < 64) × Leaves left (get_or us (u - 1) empty_unit) 0 0 0 (returned r v)
returning_leaves left us a u r v f =
    rw (sub-one u) (
      omega (arith, f.returns.0, f.returns.1),
      record { of_extraction = zero-le; of_exports = zero-le; of_imports = zero-le; of_returns = f.returns.2 },
    )

-- The units with the returns of one changed are those that the title changes.
pub returning_changed : (op : ℕ → ℕ → ℕ) → ((e : ℕ) → op e 0 ≡ e) → (us : List Unit) (a u r v back : ℕ) → 0 < u
    → set us (u - 1) (changed_by op (get_or us (u - 1) empty_unit) 0 0 0 back) ≡ changed_units op (ReturningWithdrawal a u r v) back us
returning_changed op neutral us a u r v back h =
    unit_at_lem op neutral us u 0 0 0 back h
    ∙ (λ i. indexed (λ k w. changed_by op w (none u k i) (none u k i) (none u k i) (posts (post u back) k)) us)

-- So they are where the code sets that unit's returns, whose number k is the index and one more.
pub returning_set : (op : ℕ → ℕ → ℕ) → ((e : ℕ) → op e 0 ≡ e) → (left : ℕ → ℕ) (us : List Unit) (t : Title) → UnitArrayTakes left t us
    → (k a u r v back B : ℕ) → t ≡ ReturningWithdrawal a u r v → k ≡ u → back ≡ returned r v
    → let w = get_or us (k - 1) empty_unit in
    B ≡ op w.returns back → set us (k - 1) (with_entries w w.extraction w.exports w.imports B) ≡ changed_units op t (return_of t) us
returning_set op neutral left us t f k a u r v back B e q h b-is =
    (λ i. let w = get_or us (k - 1) empty_unit in
    set us (k - 1) (with_entries w (sym (neutral w.extraction) i) (sym (neutral w.exports) i) (sym (neutral w.imports) i) (b-is i)))
    ∙ (λ i. set us (q i - 1) (changed_by op (get_or us (q i - 1) empty_unit) 0 0 0 (h i)))
    ∙ returning_changed op neutral us a u r v (returned r v) (subst (λ (t : Title). UnitArrayTakes left t us) e f).returns.0
    ∙ ap (λ (t : Title). changed_units op t (return_of t) us) (sym e)
