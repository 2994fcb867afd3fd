-- Arrays that a loop fills, and arrays in which a loop adds up what arrives at each place. Assumes nothing.
use Prim.Native.Nat.{ℕ, zero, suc, ◌+◌, ◌≤◌, ◌<◌}
use mathlib.Core.Path.{◌≡◌, refl, sym, ap, ◌∙◌}
use mathlib.Core.List.{List, [], ◌∷◌}
use mathlib.Core.Bool.{cond}
use lib.Dec.{ltb}
use lib.ListN.{length, get_or, set, replicate, length-set, length-replicate, get_or-replicate, get_or-eq_default}
use lib.Seq.{get_or-set_same, get_or-set_other, ext_get_or}
use native.Mathlib.Omega.{arith}
use borrow.Author.Tests.{eq-eqb, ne_eqb, lt-ltb, le-ltb}
use Rattle.laws.specs.Sum.{naturals, sum_of}
use Rattle.laws.specs.Gather.{arriving}
use Rattle.laws.specs.Table.{tabulate, table, indexed}
use Rattle.laws.proofs.Cases.{by_eq, by_lt}

-- Past its end a list reads as its default.
pub get_or_empty : {A : Type 0} (n j : ℕ) (d : A) → get_or (replicate n d) j d ≡ d
get_or_empty n j d =
    by_lt j n (λ h. get_or-replicate n j d d h) (λ h. get_or-eq_default (replicate n d) d (omega (arith, length-replicate n d)))

-- An array of n places of which the first i hold f and the others the default.
pub record Filled {A : Type 0} (n : ℕ) (d : A) (f : ℕ → A) (i : ℕ) (w : List A) : Type 0 where
  pub long : length w ≡ n
  pub done : (j : ℕ) → j < i → get_or w j d ≡ f j
  pub rest : (j : ℕ) → i ≤ j → get_or w j d ≡ d

module _ {A : Type 0} (n : ℕ) (d : A) (f : ℕ → A) where
  pub filled_start : Filled n d f 0 (replicate n d)
  filled_start = record { long = length-replicate n d; done = λ j h. absurd (omega arith); rest = λ j h. get_or_empty n j d }

  pub filled_put : (i : ℕ) (w : List A) (x : A) → i < n → x ≡ f i → Filled n d f i w → Filled n d f (suc i) (set w i x)
  filled_put i w x h e p =
      record {
        long = length-set w i x ∙ p.long;
        done = λ j g.
            by_eq j i
            (λ q. rw q (get_or-set_same w i x d (omega (arith, p.long)) ∙ e))
            (λ q. get_or-set_other w i j x d q ∙ p.done j (omega arith));
        rest = λ j g. get_or-set_other w i j x d (omega arith) ∙ p.rest j (omega arith);
      }

-- An array of n places, each of which holds what has arrived there from the first i places.
pub record Arrived (n : ℕ) (down x : ℕ → ℕ) (i : ℕ) (w : List ℕ) : Type 0 where
  pub long : length w ≡ n
  pub each : (j : ℕ) → j < n → get_or w j 0 ≡ arriving naturals down x i j

module _ (n : ℕ) (down x : ℕ → ℕ) where
  pub arrived_start : Arrived n down x 0 (replicate n 0)
  unfolding sum_of
  arrived_start = record { long = length-replicate n 0; each = λ j h. get_or_empty n j 0 }

  pub arrived_out : (i : ℕ) (w : List ℕ) → down i ≡ 0 → Arrived n down x i w → Arrived n down x (suc i) w
  unfolding sum_of
  arrived_out i w e p =
      record {
        long = p.long;
        each = λ j h. rw (ne_eqb (down i) (suc j) (omega arith)) (omega (arith, p.each j h));
      }

  pub arrived_on : (i k : ℕ) (w : List ℕ) → down i ≡ suc k → k < n → Arrived n down x i w
      → Arrived n down x (suc i) (set w k (get_or w k 0 + x i))
  unfolding sum_of
  arrived_on i k w e h p =
      record {
        long = length-set w k (get_or w k 0 + x i) ∙ p.long;
        each = λ j g.
            by_eq j k
            (λ q. rw (q, get_or-set_same w k (get_or w k 0 + x i) 0 (omega (arith, p.long)), eq-eqb (down i) (suc k) e)
            (omega (arith, p.each k h)))
            (λ q. rw (get_or-set_other w k j (get_or w k 0 + x i) 0 q, ne_eqb (down i) (suc j) (omega arith))
            (omega (arith, p.each j g)));
      }

-- A place that is to hold the default may be passed over.
pub filled_keep : {A : Type 0} (n : ℕ) (d : A) (f : ℕ → A) (i : ℕ) (w : List A) → f i ≡ d → Filled n d f i w → Filled n d f (suc i) w
filled_keep n d f i w e p =
    record {
      long = p.long;
      done = λ j g. by_eq j i (λ q. rw q (p.rest i (omega arith) ∙ sym e)) (λ q. p.done j (omega arith));
      rest = λ j g. p.rest j (omega arith);
    }

-- An array of n places of which those from i up to m hold f, filled from the last down; the others hold the default.
pub record FilledDown {A : Type 0} (n : ℕ) (d : A) (f : ℕ → A) (m i : ℕ) (w : List A) : Type 0 where
  pub long : length w ≡ n
  pub done : (j : ℕ) → i ≤ j → j < m → get_or w j d ≡ f j
  pub rest : (j : ℕ) → m ≤ j → get_or w j d ≡ d

module _ {A : Type 0} (n : ℕ) (d : A) (f : ℕ → A) (m : ℕ) where
  pub filled_down_start : FilledDown n d f m m (replicate n d)
  filled_down_start =
      record { long = length-replicate n d; done = λ j h g. absurd (omega arith); rest = λ j h. get_or_empty n j d }

  pub filled_down_more : (i : ℕ) (w : List A) (x : A) → i < n → i < m → x ≡ f i → FilledDown n d f m (suc i) w → FilledDown n d f m i (set w i x)
  filled_down_more i w x h k e p =
      record {
        long = length-set w i x ∙ p.long;
        done = λ j g q.
            by_eq j i
            (λ s. rw s (get_or-set_same w i x d (omega (arith, p.long)) ∙ e))
            (λ s. get_or-set_other w i j x d s ∙ p.done j (omega arith) q);
        rest = λ j g. get_or-set_other w i j x d (omega arith) ∙ p.rest j g;
      }

pub length_tabulate : {A : Type 0} (n : ℕ) (f : ℕ → A) → length (tabulate n f) ≡ n
unfolding tabulate
length_tabulate zero f = refl
length_tabulate (suc n) f = ap suc (length_tabulate n (λ k. f (suc k)))

pub get_or_tabulate : {A : Type 0} (n : ℕ) (f : ℕ → A) (d : A) (j : ℕ) → j < n → get_or (tabulate n f) j d ≡ f j
unfolding tabulate
get_or_tabulate zero f d j h = absurd (omega arith)
get_or_tabulate (suc n) f d zero h = refl
get_or_tabulate (suc n) f d (suc j) h = get_or_tabulate n (λ k. f (suc k)) d j (omega arith)

-- An array that holds f in its first places and the default in the others is the table of f.
pub filled_table : {A : Type 0} (n : ℕ) (d : A) (f : ℕ → A) (count : ℕ) (w : List A) → Filled n d f count w → w ≡ table n d count f
unfolding table
filled_table n d f count w p =
    ext_get_or d w (tabulate n (λ j. cond (ltb j count) (f j) d)) (p.long ∙ sym (length_tabulate n _))
    (λ j h.
    by_lt j count
    (λ g. p.done j g ∙ sym (get_or_tabulate n _ d j (omega (arith, p.long)) ∙ rw (lt-ltb j count g)))
    (λ g. p.rest j g ∙ sym (get_or_tabulate n _ d j (omega (arith, p.long)) ∙ rw (le-ltb j count g))))

-- A table holds f in its first places, whatever a list reads past its end.
pub table_at : {A : Type 0} (n : ℕ) (d : A) (count : ℕ) (f : ℕ → A) (e : A) (j : ℕ) → j < count → j < n → get_or (table n d count f) j e ≡ f j
unfolding table
table_at n d count f e j g h = get_or_tabulate n _ e j h ∙ rw (lt-ltb j count g)

pub get_or_table : {A : Type 0} (n : ℕ) (d : A) (count : ℕ) (f : ℕ → A) (j : ℕ) → j < count → j < n → get_or (table n d count f) j d ≡ f j
get_or_table n d count f j g h = table_at n d count f d j g h

-- The table of f is filled so, and tables of what agrees are equal.
pub table_filled : {A : Type 0} (n : ℕ) (d : A) (count : ℕ) (f : ℕ → A) → count ≤ n → Filled n d f count (table n d count f)
unfolding table
table_filled n d count f c =
    record {
      long = length_tabulate n _;
      done = λ j h. get_or_tabulate n _ d j (omega arith) ∙ rw (lt-ltb j count h);
      rest = λ j h.
          by_lt j n
          (λ g. get_or_tabulate n _ d j g ∙ rw (le-ltb j count h))
          (λ g. get_or-eq_default (tabulate n _) d (omega (arith, length_tabulate n (λ k. cond (ltb k count) (f k) d))));
    }

pub table_same : {A : Type 0} (n : ℕ) (d : A) (count : ℕ) (f g : ℕ → A) → count ≤ n → ((k : ℕ) → k < count → f k ≡ g k) → table n d count f ≡ table n d count g
table_same n d count f g c e =
    let p = table_filled n d count f c in
    filled_table n d g count (table n d count f) (record { long = p.long; done = λ j h. p.done j h ∙ e j h; rest = p.rest })

-- One of the first places is set.
pub table_put : {A : Type 0} (n : ℕ) (d : A) (count : ℕ) (f g : ℕ → A) (i : ℕ) (x : A) → count ≤ n → i < count → x ≡ g i
    → ((k : ℕ) → k < count → (k ≡ i → ⊥) → f k ≡ g k) → set (table n d count f) i x ≡ table n d count g
table_put n d count f g i x c h e s =
    let p = table_filled n d count f c in
    filled_table n d g count (set (table n d count f) i x)
    (record {
      long = length-set (table n d count f) i x ∙ p.long;
      done = λ j k.
          by_eq j i
          (λ q. rw q (get_or-set_same (table n d count f) i x d (omega (arith, p.long)) ∙ e))
          (λ q. get_or-set_other (table n d count f) i j x d q ∙ p.done j k ∙ s j k q);
      rest = λ j k. get_or-set_other (table n d count f) i j x d (omega arith) ∙ p.rest j k;
    })

pub table_more : {A : Type 0} (n : ℕ) (d : A) (count : ℕ) (f : ℕ → A) (x : A) → count < n → x ≡ f count
    → set (table n d count f) count x ≡ table n d (suc count) f
table_more n d count f x c e =
    filled_table n d f (suc count) (set (table n d count f) count x) (filled_put n d f count (table n d count f) x c e (table_filled n d count f (omega arith)))

-- A list changed as its indices say keeps its length, and holds at each index what that says. Past its end it reads as its default.
module _ {A : Type 0} where
  pub length_indexed : (f : ℕ → A → A) (l : List A) → length (indexed f l) ≡ length l
  unfolding indexed
  length_indexed f [] = refl
  length_indexed f (x ∷ xs) = ap suc (length_indexed (λ k. f (suc k)) xs)

  pub get_or_indexed : (f : ℕ → A → A) (l : List A) (d : A) (k : ℕ) → (length l ≤ k → f k d ≡ d) → get_or (indexed f l) k d ≡ f k (get_or l k d)
  unfolding indexed
  get_or_indexed f [] d k e = sym (e (omega arith))
  get_or_indexed f (x ∷ xs) d zero e = refl
  get_or_indexed f (x ∷ xs) d (suc k) e = get_or_indexed (λ j. f (suc j)) xs d k (λ h. e (omega arith))

  -- Changed twice, it is changed by both.
  pub indexed_twice : (f g : ℕ → A → A) (l : List A) → indexed f (indexed g l) ≡ indexed (λ k a. f k (g k a)) l
  unfolding indexed
  indexed_twice f g [] = refl
  indexed_twice f g (x ∷ xs) = ap (λ (l : List A). f 0 (g 0 x) ∷ l) (indexed_twice (λ k. f (suc k)) (λ k. g (suc k)) xs)

  -- Where every element stays as it was, so does the list.
  pub indexed_none : (f : ℕ → A → A) (l : List A) → ((k : ℕ) (a : A) → f k a ≡ a) → l ≡ indexed f l
  unfolding indexed
  indexed_none f [] e = refl
  indexed_none f (x ∷ xs) e = λ i. sym (e 0 x) i ∷ indexed_none (λ k. f (suc k)) xs (λ k. e (suc k)) i

  -- One element is set, where the others stay as they were.
  pub set_indexed : (f : ℕ → A → A) (l : List A) (d : A) (n : ℕ) → ((k : ℕ) → (k ≡ n → ⊥) → (a : A) → f k a ≡ a)
      → set l n (f n (get_or l n d)) ≡ indexed f l
  unfolding indexed
  set_indexed f [] d n e = refl
  set_indexed f (x ∷ xs) d zero e =
      ap (λ (l : List A). f 0 x ∷ l) (indexed_none (λ k. f (suc k)) xs (λ k. e (suc k) (λ q. omega arith)))
  set_indexed f (x ∷ xs) d (suc n) e = λ i.
      sym (e 0 (λ q. omega arith) x) i ∷ set_indexed (λ k. f (suc k)) xs d n (λ k g. e (suc k) (λ q. g (omega arith))) i
