-- A title changes the arrays of a balance as it changes its view: one law for + and −. Assumes nothing.
use Prim.Native.Nat.{ℕ, suc, pred, ◌+◌, ◌-◌, ◌≤◌, ◌<◌}
use mathlib.Core.Path.{◌≡◌, refl, sym, ap, subst, ◌∙◌}
use mathlib.Core.Bool.{Bool, true, false}
use mathlib.Core.List.{List}
use lib.Dec.{eqb}
use lib.ListN.{length, get_or, set, length-set}
use native.Mathlib.Omega.{arith}
use native.Mathlib.Numerals.{sub-one}
use Rattle.laws.specs.Sum.{naturals, only}
use Rattle.laws.specs.Table.{indexed}
use Rattle.laws.proofs.Arrays.{length_indexed, get_or_indexed, indexed_none, indexed_twice, set_indexed}
use Rattle.laws.proofs.Putting.{get_or_put}
use Rattle.model.specs.declared.Unit.{Unit}
use Rattle.model.specs.declared.Aquifer.{Aquifer}
use Rattle.model.specs.declared.Place.{Place}
use Rattle.model.specs.declared.Title.{Title}
use Rattle.model.specs.declared.Title.TheVariants.{UnitWithdrawal, AquiferWithdrawal, UnitTransfer, AquiferTransfer, ReturningWithdrawal}
use Rattle.model.specs.declared.Balance.{Balance}
use Rattle.model.specs.Entries.{with_entries, with_extraction, place_of}
use Rattle.model.specs.Fresh.{empty_unit, empty_aquifer, empty_place}
use Rattle.model.specs.View.{view_of}
use Rattle.titles.specs.Posting.{nothing, post, posts, postings}
use Rattle.titles.specs.Adds.{returned, return_of}
use Rattle.effect.specs.Effect.{changed_by, drawn_by, changed_units, changed_wells, changed_unit, changed_aquifer, changed_view, changed_balance}
use Rattle.effect.specs.Room.{Takes, UnitArrayTakes, WellArrayTakes}
use Rattle.effect.specs.Granted.{granted, posted, lacking, Sized, Grantable}
use Rattle.effect.specs.Cancelled.{cancelled, title_of, without_title, held, Takable}
use Rattle.effect.proofs.Taking.{here, elsewhere, takes_past}

-- At the index of its number, which the code works out, a posting adds its amount, and nothing elsewhere.
at_index : (n a : ℕ) → 0 < n → a ≡ posts (post n a) (n - 1)
at_index n a h = sym (here n a h) ∙ ap (posts (post n a)) (sym (sub-one n))

not_at : (n a k : ℕ) → 0 < n → (k ≡ n - 1 → ⊥) → posts (post n a) k ≡ 0
not_at n a k h q = elsewhere n a k (λ e. q (omega arith))

-- An amount of 0 adds nothing.
pub none : (n k : ℕ) → posts (post n 0) k ≡ 0
none n k = only_none (eqb n (suc k))
  where
    only_none : (t : Bool) → only naturals t 0 ≡ 0
    only_none true = refl
    only_none false = refl

-- An operation that 0 leaves as it is.
module _ (op : ℕ → ℕ → ℕ) (neutral : (e : ℕ) → op e 0 ≡ e) where
  unchanged : (u : Unit) → changed_by op u 0 0 0 0 ≡ u
  unchanged u = λ i. with_entries u (neutral u.extraction i) (neutral u.exports i) (neutral u.imports i) (neutral u.returns i)

  undrawn : (a : Aquifer) → drawn_by op a 0 ≡ a
  undrawn a = λ i. with_extraction a (neutral a.extraction i)

  -- Units changed at one number are all changed by what is posted there.
  pub unit_at_lem : (us : List Unit) (n e x m b : ℕ) → 0 < n
      → set us (n - 1) (changed_by op (get_or us (n - 1) empty_unit) e x m b)
      ≡ indexed (λ k u. changed_by op u (posts (post n e) k) (posts (post n x) k) (posts (post n m) k) (posts (post n b) k)) us
  unit_at_lem us n e x m b h =
      (λ i. set us (n - 1) (changed_by op (get_or us (n - 1) empty_unit) (at_index n e h i) (at_index n x h i) (at_index n m h i) (at_index n b h i)))
      ∙ set_indexed _ us empty_unit (n - 1)
      (λ k q u. (λ i. changed_by op u (not_at n e k h q i) (not_at n x k h q i) (not_at n m k h q i) (not_at n b k h q i)) ∙ unchanged u)

  -- The entries of one unit, which are set to what the operation makes of them, are changed by what is posted at its number.
  set_entries : (us : List Unit) (k n e x m b E X M B : ℕ) → k ≡ n → 0 < n
      → let w = get_or us (k - 1) empty_unit in
      E ≡ op w.extraction e → X ≡ op w.exports x → M ≡ op w.imports m → B ≡ op w.returns b
      → set us (k - 1) (with_entries w E X M B)
      ≡ indexed (λ j u. changed_by op u (posts (post n e) j) (posts (post n x) j) (posts (post n m) j) (posts (post n b) j)) us
  set_entries us k n e x m b E X M B q h e-is x-is m-is b-is =
      (λ i. set us (k - 1) (with_entries (get_or us (k - 1) empty_unit) (e-is i) (x-is i) (m-is i) (b-is i)))
      ∙ ap (λ (j : ℕ). set us (j - 1) (changed_by op (get_or us (j - 1) empty_unit) e x m b)) q
      ∙ unit_at_lem us n e x m b h

  -- An entry that is left as it was takes an amount of 0.
  kept : (e : ℕ) → e ≡ op e 0
  kept e = sym (neutral e)

  -- What the code makes of the units, by the kind of the title. The unit of number n stands at k - 1, where k is the number as an index.
  module _ (left : ℕ → ℕ) (us : List Unit) (t : Title) (f : UnitArrayTakes left t us) where
    asked : {kind : Title} → t ≡ kind → UnitArrayTakes left kind us
    asked e = subst (λ (t : Title). UnitArrayTakes left t us) e f

    told : {kind : Title} → t ≡ kind → changed_units op kind (return_of kind) us ≡ changed_units op t (return_of t) us
    told e = ap (λ (t : Title). changed_units op t (return_of t) us) (sym e)

    pub withdrawal_changed : (k u r v back E B : ℕ) → t ≡ UnitWithdrawal u r v → k ≡ u → back ≡ returned r v
        → let w = get_or us (k - 1) empty_unit in
        E ≡ op w.extraction v → B ≡ op w.returns back
        → set us (k - 1) (with_entries w E w.exports w.imports B) ≡ changed_units op t (return_of t) us
    withdrawal_changed k u r v back E B e q h e-is b-is =
        set_entries us k u v 0 0 back E _ _ B q (asked e).extraction.0 e-is (kept _) (kept _) b-is
        ∙ (λ i. indexed (λ j w. changed_by op w (posts (post u v) j) (none u j i) (none u j i) (posts (post u (h i)) j)) us)
        ∙ told e

    pub pumping_changed : (a v : ℕ) → t ≡ AquiferWithdrawal a v → us ≡ changed_units op t (return_of t) us
    pumping_changed a v e = indexed_none _ us (λ j u. unchanged u) ∙ told e

    pub transfer_changed : (k l g r v X M : ℕ) → t ≡ UnitTransfer g r v → k ≡ g → l ≡ r
        → let w = get_or us (k - 1) empty_unit in
        let given = set us (k - 1) (with_entries w w.extraction X w.imports w.returns) in
        let z = get_or given (l - 1) empty_unit in
        X ≡ op w.exports v → M ≡ op z.imports v
        → set given (l - 1) (with_entries z z.extraction z.exports M z.returns) ≡ changed_units op t (return_of t) us
    transfer_changed k l g r v X M e q h x-is m-is =
        set_entries _ l r 0 0 v 0 _ _ M _ h (asked e).imports.0 (kept _) (kept _) m-is (kept _)
        ∙ (λ i. indexed (λ j w. changed_by op w (none r j i) (none r j i) (posts (post r v) j) (none r j i))
        (set_entries us k g 0 v 0 0 _ X _ _ q (asked e).exports.0 (kept _) x-is (kept _) (kept _) i))
        ∙ indexed_twice _ _ us
        ∙ (λ i. indexed (λ j w. both j w i) us)
        ∙ told e
      where
        both : (j : ℕ) (w : Unit)
            → changed_by op (changed_by op w (posts (post g 0) j) (posts (post g v) j) (posts (post g 0) j) (posts (post g 0) j)) 0 0 (posts (post r v) j) 0
            ≡ changed_unit op (UnitTransfer g r v) 0 j w
        both j w =
            (λ i. changed_by op (changed_by op w (none g j i) (posts (post g v) j) (none g j i) (none g j i)) 0 0 (posts (post r v) j) 0)
            ∙ (λ i. with_entries w (neutral (op w.extraction 0) i) (neutral (op w.exports (posts (post g v) j)) i)
            (op (neutral w.imports i) (posts (post r v) j)) (neutral (op w.returns 0) i))

    pub bringing_changed : (k a u v M : ℕ) → t ≡ AquiferTransfer a u v → k ≡ u
        → let w = get_or us (k - 1) empty_unit in
        M ≡ op w.imports v → set us (k - 1) (with_entries w w.extraction w.exports M w.returns) ≡ changed_units op t (return_of t) us
    bringing_changed k a u v M e q m-is =
        set_entries us k u 0 0 v 0 _ _ M _ q (asked e).imports.0 (kept _) (kept _) m-is (kept _)
        ∙ (λ i. indexed (λ j w. changed_by op w (none u j i) (none u j i) (posts (post u v) j) (none u j i)) us)
        ∙ told e

  -- What the code makes of the aquifers: the title draws from one of them, or from none.
  pub well_changed : (left : ℕ → ℕ) (ws : List Aquifer) (t : Title) (k n v E : ℕ) → WellArrayTakes left t ws
      → (postings t (return_of t)).wells ≡ post n v → k ≡ n
      → let w = get_or ws (k - 1) empty_aquifer in
      E ≡ op w.extraction v → set ws (k - 1) (with_extraction w E) ≡ changed_wells op t (return_of t) ws
  well_changed left ws t k n v E f p q e-is =
      let h = (subst (Takes left 32 (λ j. (get_or ws j empty_aquifer).extraction)) p f).0 in
      (λ i. set ws (k - 1) (with_extraction (get_or ws (k - 1) empty_aquifer) (e-is i)))
      ∙ ap (λ (j : ℕ). set ws (j - 1) (drawn_by op (get_or ws (j - 1) empty_aquifer) v)) q
      ∙ (λ i. set ws (n - 1) (drawn_by op (get_or ws (n - 1) empty_aquifer) (at_index n v h i)))
      ∙ set_indexed _ ws empty_aquifer (n - 1) (λ j q a. (λ i. drawn_by op a (not_at n v j h q i)) ∙ undrawn a)
      ∙ (λ i. indexed (λ j a. drawn_by op a (posts (sym p i) j)) ws)

  pub wells_kept : (ws : List Aquifer) (t : Title) → (postings t (return_of t)).wells ≡ nothing → ws ≡ changed_wells op t (return_of t) ws
  wells_kept ws t p =
      indexed_none _ ws (λ j a. undrawn a) ∙ (λ i. indexed (λ j a. drawn_by op a (posts (sym p i) j)) ws)

  -- The unit, and the aquifer, at an index of the changed arrays.
  module _ (left : ℕ → ℕ) (t : Title) where
    pub unit_changed : (us : List Unit) → length us ≡ 64 → UnitArrayTakes left t us → (k : ℕ)
        → get_or (changed_units op t (return_of t) us) k empty_unit ≡ changed_unit op t (return_of t) k (get_or us k empty_unit)
    unit_changed us l h k =
        let p = postings t (return_of t) in
        get_or_indexed _ us empty_unit k
        (λ g. (λ i. changed_by op empty_unit
        (takes_past left (λ j. (get_or us j empty_unit).extraction) 64 p.extraction h.extraction k (omega arith) i)
        (takes_past left (λ j. (get_or us j empty_unit).exports) 64 p.exports h.exports k (omega arith) i)
        (takes_past left (λ j. (get_or us j empty_unit).imports) 64 p.imports h.imports k (omega arith) i)
        (takes_past left (λ j. (get_or us j empty_unit).returns) 64 p.returns h.returns k (omega arith) i))
        ∙ unchanged empty_unit)

    pub aquifer_changed : (ws : List Aquifer) → length ws ≡ 32 → WellArrayTakes left t ws → (k : ℕ)
        → get_or (changed_wells op t (return_of t) ws) k empty_aquifer ≡ changed_aquifer op t (return_of t) k (get_or ws k empty_aquifer)
    aquifer_changed ws l h k =
        get_or_indexed _ ws empty_aquifer k
        (λ g. (λ i. drawn_by op empty_aquifer
        (takes_past left (λ j. (get_or ws j empty_aquifer).extraction) 32 (postings t (return_of t)).wells h k (omega arith) i))
        ∙ undrawn empty_aquifer)

    -- The view of the changed balance is the changed view.
    changed_view_lem : (b : Balance) (given : ℕ) (titles : List Place) → Sized b → UnitArrayTakes left t b.units → WellArrayTakes left t b.aquifers
        → view_of (changed_balance op t (return_of t) b given titles) ≡ changed_view op t (return_of t) (view_of b) given (λ k. get_or titles k empty_place)
    changed_view_lem b given titles s u w = λ i.
        record {
          units = b.unit_count;
          unit = λ k. unit_changed b.units s.units u k i;
          aquifers = b.aquifer_count;
          aquifer = λ k. aquifer_changed b.aquifers s.aquifers w k i;
          given = given;
          place = λ k. get_or titles k empty_place;
        }

-- The changed arrays have their full length.
pub changed_sized : (op : ℕ → ℕ → ℕ) (t : Title) (b : Balance) (given n : ℕ) (p : Place) → Sized b
    → Sized (changed_balance op t (return_of t) b given (set b.titles n p))
changed_sized op t b given n p s =
    record {
      units = length_indexed _ b.units ∙ s.units;
      aquifers = length_indexed _ b.aquifers ∙ s.aquifers;
      titles = length-set b.titles n p ∙ s.titles;
    }

-- Nothing added, and nothing taken away.
pub plus_none : (e : ℕ) → e + 0 ≡ e
plus_none e = omega arith

pub less_none : (e : ℕ) → e - 0 ≡ e
less_none e = omega arith

next : (n : ℕ) → n + 1 ≡ suc n
next n = omega arith

-- The view of a balance with a title in is the view with that title granted, and without a title the view with that title cancelled.
pub posted_view : (b : Balance) (t : Title) → Sized b → Grantable b t → view_of (posted b t) ≡ granted (view_of b) t
posted_view b t s g =
    changed_view_lem ◌+◌ plus_none lacking t b (b.given + 1) (set b.titles b.given (place_of t true)) s g.units g.wells
    ∙ (λ i. changed_view ◌+◌ t (return_of t) (view_of b) (next b.given i)
    (λ k. get_or_put b.titles empty_place (place_of t true) b.given (omega (arith, s.titles, g.room)) k i))

pub without_view : (b : Balance) (n : ℕ) → Sized b → 0 < n → n ≤ 256 → Takable b (title_of (view_of b) n)
    → view_of (without_title b n) ≡ cancelled (view_of b) n
without_view b n s h l g =
    let t = title_of (view_of b) n in
    changed_view_lem ◌-◌ less_none held t b b.given (set b.titles (pred n) (place_of t false)) s g.units g.wells
    ∙ (λ i. changed_view ◌-◌ t (return_of t) (view_of b) b.given
    (λ k. get_or_put b.titles empty_place (place_of t false) (pred n) (omega (arith, s.titles)) k i))
