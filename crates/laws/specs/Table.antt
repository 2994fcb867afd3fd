-- Lists by their places. Assumes nothing.
use Rattle.std.specs.Prelude.{ℕ, zero, suc, cond, List, [], ◌∷◌, eqb, ltb}

-- The list of n places that holds f at each.
unfoldable pub tabulate : {A : Type 0} → ℕ → (ℕ → A) → List A
tabulate zero f = []
tabulate (suc n) f = f 0 ∷ tabulate n (λ k. f (suc k))

-- The list of n places of which the first `count` hold f, and the unused places the default d.
unfoldable pub table : {A : Type 0} → ℕ → A → ℕ → (ℕ → A) → List A
table n d count f = tabulate n (λ j. cond (ltb j count) (f j) d)

-- The list with each element changed as its index says.
unfoldable pub indexed : {A : Type 0} → (ℕ → A → A) → List A → List A
indexed f [] = []
indexed f (x ∷ xs) = f 0 x ∷ indexed (λ k. f (suc k)) xs

-- Places by their index, with x in place n.
abbrev pub put_at : {A : Type 0} → (ℕ → A) → ℕ → A → ℕ → A
put_at f n x k = cond (eqb k n) x (f k)
