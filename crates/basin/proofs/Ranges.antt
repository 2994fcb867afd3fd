-- Where a difference is not negative. Assumes nothing.
use mathlib.Core.Path.{◌≡◌, sym, ◌∙◌}
use lib.Dec.{leb}
use lib.IntN.{ℤ}
use lib.Signed.{non_neg}
use Prim.Native.Nat.{ℕ}
use borrow.Author.Tests.{leb-true, leb-false}
use Rattle.laws.proofs.Parts.{Less, less_non_neg, less_negative}
use Rattle.laws.proofs.Cases.{by_bool}

-- A difference is not negative where no more is taken off than is there.
pub less_leb : {z : ℤ} {a b : ℕ} → Less z a b → leb b a ≡ non_neg z
less_leb {a = a} {b = b} p =
    by_bool (leb b a)
    (λ e. e ∙ sym (less_non_neg p (leb-true b a e)))
    (λ e. e ∙ sym (less_negative p (leb-false b a e)))
