-- Gathering down a tree of places: each place but the outlets drains into one other place. Assumes nothing.
use Rattle.std.specs.Prelude.{ℕ, zero, suc, eqb}
use Rattle.laws.specs.Sum.{Adding, sum_of, only}

-- Places are counted from 0 and numbered from 1: `down k` is the number of the place that place k drains into, 0 for an outlet.
-- What the places that drain straight into place j bring there, where place k brings `x k`.
abbrev pub arriving : {A : Type 0} → Adding A → (ℕ → ℕ) → (ℕ → A) → ℕ → ℕ → A
arriving P down x n j = sum_of P n (λ k. only P (eqb (down k) (suc j)) (x k))

-- What place j gathers, for trees of at most the given depth.
unfoldable pub gather_to : {A : Type 0} → Adding A → (ℕ → ℕ) → (ℕ → A) → ℕ → ℕ → A
gather_to P down own zero j = P.plus P.none (own j)
gather_to P down own (suc depth) j =
    P.plus (sum_of P j (λ k. only P (eqb (down k) (suc j)) (gather_to P down own depth k))) (own j)

-- What place j gathers: what the places that drain straight into it gather, and its own amount.
-- A place drains only into places after it, so a tree is no deeper than its places are many.
unfoldable pub gather : {A : Type 0} → Adding A → (ℕ → ℕ) → (ℕ → A) → ℕ → A
gather P down own j = gather_to P down own j j
