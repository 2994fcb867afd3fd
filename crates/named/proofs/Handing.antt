-- What was handed over, put together from single calls. Assumes nothing.
use Rattle.std.proofs.Common.{◌≡◌, ℕ, ◌≤◌, List, [], ◌∷◌, ◌++◌, length, refl, sym, subst, inl, inr, Bor, Result, Ok, Err}
use Rattle.std.specs.List.{FoldsTo}
use Rattle.std.specs.Fn.{Mut, CalledAt}
use Rattle.named.specs.Handed.{TakesAll, HandedInTurn}

-- Steps over a list, and then over another.
chained : {P A : Type 0} (R : P → A → P → Type 0) (p : P) (xs : List A) (q : P) (ys : List A) (u : P) → FoldsTo R p xs q → FoldsTo R q ys u → FoldsTo R p (xs ++ ys) u
chained R p [] q ys u e f = subst (λ z. FoldsTo R z ys u) (sym e) f
chained R p (x ∷ xs) q ys u (j, r, s) f = (j, r, chained R j xs q ys u s f)

module _ {F E : Type 0} (g : Mut F (Bor (List ℕ) × Unit {0}) (Result (Unit {0}) E)) (most : ℕ) where
  -- No call was made.
  pub none_handed : (f : F) (r : Result (Unit {0}) E) → HandedInTurn g most f r f
  none_handed f (Ok t) = ([], refl)
  none_handed f (Err e) = inl ([], refl)

  -- One call was made, and its answer is the result.
  pub one_handed : (f : F) (s : List ℕ) (r : Result (Unit {0}) E) (f' : F) → length s ≤ most → CalledAt g f s r f' → HandedInTurn g most f r f'
  one_handed f s (Ok tt) f' fits call = (s ∷ [], (f', (fits, call), refl))
  one_handed f s (Err e) f' fits call = inr (f, s, ([], refl), fits, call)

  -- Some calls were made, and then others, over as much room.
  pub taken_on : (n : ℕ) (f m f' : F) → n ≡ most → TakesAll g most f m → TakesAll g n m f' → TakesAll g most f f'
  taken_on n f m f' e (xs, a) b =
      let (ys, c) = subst (λ k. TakesAll g k m f') e b in
      (xs ++ ys, chained _ f xs m ys f' a c)

  pub handed_on : (n : ℕ) (f m : F) (r q : Result (Unit {0}) E) (f' : F) → n ≡ most → r ≡ q → TakesAll g most f m → HandedInTurn g n m r f' → HandedInTurn g most f q f'
  handed_on n f m r q f' e same a b = subst (λ z. HandedInTurn g most f z f') same (turn r (subst (λ k. HandedInTurn g k m r f') e b))
    where
      turn : (z : Result (Unit {0}) E) → HandedInTurn g most m z f' → HandedInTurn g most f z f'
      turn (Ok t) h = taken_on most f m f' refl a h
      turn (Err u) (inl h) = inl (taken_on most f m f' refl a h)
      turn (Err u) (inr (last, s, h, fits, call)) = inr (last, s, taken_on most f m last refl a h, fits, call)
