-- What a sound balance is, fact by fact, and back: `sound v` is true exactly where `Soundness v` holds. Assumes nothing.
use Prim.Native.Nat.{ℕ, suc, ◌+◌, ◌≤◌, ◌<◌}
use mathlib.Core.List.{[], ◌∷◌}
use mathlib.Core.Path.{◌≡◌, refl, ap}
use mathlib.Core.Logic.{◌⊎◌, inl, inr, ⊎_elim}
use mathlib.Core.Bool.{true, not, ◌&&◌}
use lib.Dec.{eqb, leb, ltb}
use lib.Signed.{non_neg}
use native.Mathlib.Omega.{arith}
use borrow.Author.Tests.{leb-true, le-leb, ltb-true, lt-ltb, eqb-true, eq-eqb}
use Rattle.laws.specs.Signed.{above, below}
use Rattle.laws.specs.Sum.{every}
use Rattle.laws.proofs.Cases.{by_bool}
use Rattle.model.specs.declared.Unit.{Unit}
use Rattle.model.specs.declared.Aquifer.{Aquifer}
use Rattle.model.specs.declared.Title.{Title}
use Rattle.model.specs.declared.Title.TheVariants.{UnitWithdrawal, AquiferWithdrawal, UnitTransfer, AquiferTransfer, ReturningWithdrawal}
use Rattle.model.specs.declared.Place.{Place}
use Rattle.model.specs.Fresh.{fresh_balance}
use Rattle.model.specs.View.{View, view_of}
use Rattle.model.specs.Limits.{term_limit}
use Rattle.model.specs.Ranges.{is_onward, are_terms, aquifer_within}
use Rattle.river.specs.Flow.{flow, Ready}
use Rattle.river.specs.Wells.{recharge}
use Rattle.figures.specs.Recharge.{is_recharged}
use Rattle.figures.specs.Figures.{WellsReady}
use Rattle.titles.specs.Adds.{titled}
use Rattle.titles.specs.Slot.{Extraction, Exports, Imports, Returns, WellExtraction}
use Rattle.basin.specs.Sound
use Rattle.laws.proofs.Every.{both, every_each, each_every}
use Rattle.basin.proofs.Chains.{both_hold, either, first_holds, second_holds}
use Rattle.model.proofs.Within.{first_within, within_first, storage_within, within_storage}

-- The unit at index j, of so many.
pub record UnitSound (count j : ℕ) (u : Unit) : Type 0 where
  pub extraction : u.extraction ≤ term_limit
  pub exports : u.exports ≤ term_limit
  pub imports : u.imports ≤ term_limit
  pub returns : u.returns ≤ term_limit
  pub evaporation : u.evaporation ≤ term_limit
  pub rise : above u.storage ≤ term_limit
  pub fall : below u.storage ≤ term_limit
  pub commitment : u.commitment ≤ term_limit
  pub runoff : u.runoff ≤ term_limit
  pub onward : (u.downstream ≡ 0) ⊎ (suc j < u.downstream)
  pub within : u.downstream ≤ count
  pub outlet : (u.downstream ≡ 0) ⊎ (u.commitment ≡ 0)

pub record AquiferSound (a : Aquifer) : Type 0 where
  pub rise : above a.storage ≤ term_limit
  pub fall : below a.storage ≤ term_limit
  pub natural : a.natural ≤ term_limit
  pub pumped : a.pumped ≤ term_limit
  pub committed : a.committed ≤ term_limit
  pub extraction : a.extraction ≤ term_limit
  pub recharged : non_neg (recharge a) ≡ true

-- A number from 1 to the last, and a volume.
pub record Exists (last n : ℕ) : Type 0 where
  pub positive : 0 < n
  pub within : n ≤ last

pub record Volume (x : ℕ) : Type 0 where
  pub positive : 0 < x
  pub within : x ≤ term_limit

abbrev pub TitleSound : ℕ → ℕ → Title → Type 0
TitleSound units aquifers (UnitWithdrawal u r v) = Exists units u × Exists 7 r × Volume v
TitleSound units aquifers (AquiferWithdrawal a v) = Exists aquifers a × Volume v
TitleSound units aquifers (UnitTransfer g r v) = Exists units g × Exists units r × Volume v
TitleSound units aquifers (AquiferTransfer a u v) = Exists aquifers a × Exists units u × Volume v
TitleSound units aquifers (ReturningWithdrawal a u r v) = Exists aquifers a × Exists units u × Exists 7 r × Volume v

-- A title in force is sound.
pub record PlaceSound (units aquifers : ℕ) (p : Place) : Type 0 where
  pub in_force : p.in_force ≡ true → TitleSound units aquifers p.title

-- The titles in force do not together exceed the entries of the unit at index j.
pub record UnitCovered (v : View) (j : ℕ) : Type 0 where
  pub extraction : titled v v.given Extraction j ≤ (v.unit j).extraction
  pub exports : titled v v.given Exports j ≤ (v.unit j).exports
  pub imports : titled v v.given Imports j ≤ (v.unit j).imports
  pub returns : titled v v.given Returns j ≤ (v.unit j).returns

pub record Soundness (v : View) : Type 0 where
  pub few_units : v.units ≤ 64
  pub few_aquifers : v.aquifers ≤ 32
  pub few_titles : v.given ≤ 256
  pub unit : (j : ℕ) → j < v.units → UnitSound v.units j (v.unit j)
  pub aquifer : (j : ℕ) → j < v.aquifers → AquiferSound (v.aquifer j)
  pub flowing : (j : ℕ) → j < v.units → non_neg (flow v j) ≡ true
  pub place : (k : ℕ) → k < v.given → PlaceSound v.units v.aquifers (v.place k)
  pub covered : (j : ℕ) → j < v.units → UnitCovered v j
  pub well_covered : (j : ℕ) → j < v.aquifers → titled v v.given WellExtraction j ≤ (v.aquifer j).extraction

-- Units.
downstream_onward : (count j d : ℕ) → Sound.is_downstream count j d ≡ true → (d ≡ 0) ⊎ ((suc j < d) × (d ≤ count))
downstream_onward count j d e =
    let p = both (is_onward (j + 1) d) (leb d count) e in
    ⊎_elim
    (λ q. inl (eqb-true d 0 q))
    (λ q. let h = ltb-true (j + 1) d q in inr (omega arith, leb-true d count p.1))
    (either (eqb d 0) (ltb (j + 1) d) p.0)

onward_downstream : (count j d : ℕ) → (d ≡ 0) ⊎ (suc j < d) → d ≤ count → Sound.is_downstream count j d ≡ true
onward_downstream count j d o h =
    both_hold (is_onward (j + 1) d) (leb d count)
    (⊎_elim (λ e. first_holds (eqb d 0) _ (eq-eqb d 0 e)) (λ g. second_holds (eqb d 0) _ (lt-ltb (j + 1) d (omega arith))) o)
    (le-leb d count h)

committed_outlet : (d x : ℕ) → Sound.is_committed d x ≡ true → (d ≡ 0) ⊎ (x ≡ 0)
committed_outlet d x e = ⊎_elim (λ q. inl (eqb-true d 0 q)) (λ q. inr (eqb-true x 0 q)) (either (eqb d 0) (eqb x 0) e)

outlet_committed : (d x : ℕ) → (d ≡ 0) ⊎ (x ≡ 0) → Sound.is_committed d x ≡ true
outlet_committed d x o =
    ⊎_elim (λ e. first_holds (eqb d 0) (eqb x 0) (eq-eqb d 0 e)) (λ e. second_holds (eqb d 0) (eqb x 0) (eq-eqb x 0 e)) o

pub unit_sound_lem : (count j : ℕ) (u : Unit) → Sound.sound_unit count j u ≡ true → UnitSound count j u
unit_sound_lem count j u e =
    let p = both (Sound.sound_entries u) _ e in
    let q = both (Sound.is_storage u.storage) _ p.1 in
    let r = both (Sound.is_downstream count j u.downstream) _ q.1 in
    let a = first_within u.extraction _ p.0 in
    let b = first_within u.exports _ a.rest in
    let c = first_within u.imports _ b.rest in
    let d = first_within u.returns _ c.rest in
    let f = first_within u.evaporation _ d.rest in
    let g = first_within u.commitment _ f.rest in
    let z = storage_within u.storage q.0 in
    let o = downstream_onward count j u.downstream r.0 in
    record {
      extraction = a.first;
      exports = b.first;
      imports = c.first;
      returns = d.first;
      evaporation = f.first;
      rise = z.rise;
      fall = z.fall;
      commitment = g.first;
      runoff = (first_within u.runoff _ g.rest).first;
      onward = ⊎_elim (λ z. inl z) (λ w. inr w.0) o;
      within = ⊎_elim (λ z. omega arith) (λ w. w.1) o;
      outlet = committed_outlet u.downstream u.commitment r.1;
    }

pub sound_unit_lem : (count j : ℕ) (u : Unit) → UnitSound count j u → Sound.sound_unit count j u ≡ true
sound_unit_lem count j u f =
    both_hold (Sound.sound_entries u) _
    (within_first u.extraction _ f.extraction
    (within_first u.exports _ f.exports
    (within_first u.imports _ f.imports
    (within_first u.returns _ f.returns
    (within_first u.evaporation _ f.evaporation
    (within_first u.commitment _ f.commitment
    (within_first u.runoff _ f.runoff refl)))))))
    (both_hold (Sound.is_storage u.storage) _ (within_storage u.storage f.fall f.rise)
    (both_hold (Sound.is_downstream count j u.downstream) _ (onward_downstream count j u.downstream f.onward f.within)
    (outlet_committed u.downstream u.commitment f.outlet)))

-- A view of so few units, each of them sound, can be passed over.
pub ready_of : (v : View) → v.units ≤ 64 → ((j : ℕ) → j < v.units → UnitSound v.units j (v.unit j)) → Ready v
ready_of v h f =
    record {
      few = h;
      onward = λ k g. (f k g).onward;
      within = λ k g. (f k g).within;
      gains = λ k g. let u = f k g in omega arith;
      losses = λ k g. let u = f k g in omega arith;
      commitments = λ k g. (f k g).commitment;
    }

-- Aquifers.
pub aquifer_sound_lem : (a : Aquifer) → Sound.sound_aquifer a ≡ true → AquiferSound a
aquifer_sound_lem a e =
    let p = both (aquifer_within a) (is_recharged a) e in
    let q = both (are_terms (a.natural ∷ a.pumped ∷ a.committed ∷ a.extraction ∷ [])) (Sound.is_storage a.storage) p.0 in
    let n = first_within a.natural _ q.0 in
    let m = first_within a.pumped _ n.rest in
    let c = first_within a.committed _ m.rest in
    let z = storage_within a.storage q.1 in
    record {
      rise = z.rise;
      fall = z.fall;
      natural = n.first;
      pumped = m.first;
      committed = c.first;
      extraction = (first_within a.extraction _ c.rest).first;
      recharged = p.1;
    }

pub sound_aquifer_lem : (a : Aquifer) → AquiferSound a → Sound.sound_aquifer a ≡ true
sound_aquifer_lem a f =
    both_hold (aquifer_within a) (is_recharged a)
    (both_hold (are_terms (a.natural ∷ a.pumped ∷ a.committed ∷ a.extraction ∷ [])) (Sound.is_storage a.storage)
    (within_first a.natural _ f.natural
    (within_first a.pumped _ f.pumped
    (within_first a.committed _ f.committed
    (within_first a.extraction _ f.extraction refl))))
    (within_storage a.storage f.fall f.rise))
    f.recharged

-- A view of so few aquifers, each of them sound, can be worked out.
pub wells_ready_of : (v : View) → v.aquifers ≤ 32 → ((j : ℕ) → j < v.aquifers → AquiferSound (v.aquifer j)) → WellsReady v
wells_ready_of v h f = record { few = h; rises = λ k g. (f k g).rise; falls = λ k g. (f k g).fall }

-- Titles.
pub number_exists : (last n : ℕ) → Sound.exists last n ≡ true → Exists last n
number_exists last n e =
    let p = both (ltb 0 n) (leb n last) e in record { positive = ltb-true 0 n p.0; within = leb-true n last p.1 }

pub exists_number : (last n : ℕ) → Exists last n → Sound.exists last n ≡ true
exists_number last n f = both_hold (ltb 0 n) (leb n last) (lt-ltb 0 n f.positive) (le-leb n last f.within)

pub is_volume_lem : (x : ℕ) → Sound.is_volume x ≡ true → Volume x
is_volume_lem x e =
    let p = both (ltb 0 x) (leb x term_limit) e in record { positive = ltb-true 0 x p.0; within = leb-true x term_limit p.1 }

pub volume_is : (x : ℕ) → Volume x → Sound.is_volume x ≡ true
volume_is x f = both_hold (ltb 0 x) (leb x term_limit) (lt-ltb 0 x f.positive) (le-leb x term_limit f.within)

-- Two numbers.
both_exist_lem : (l m a b : ℕ) → (Sound.exists l a && Sound.exists m b) ≡ true → Exists l a × Exists m b
both_exist_lem l m a b e = let p = both (Sound.exists l a) _ e in (number_exists l a p.0, number_exists m b p.1)

exist_both : (l m a b : ℕ) → Exists l a × Exists m b → (Sound.exists l a && Sound.exists m b) ≡ true
exist_both l m a b f = both_hold (Sound.exists l a) _ (exists_number l a f.0) (exists_number m b f.1)

pub title_sound_lem : (units aquifers : ℕ) (t : Title) → Sound.sound_title units aquifers t ≡ true → TitleSound units aquifers t
title_sound_lem units aquifers (UnitWithdrawal u r v) e =
    let p = both (Sound.exists units u) _ e in
    let q = both (Sound.exists 7 r) _ p.1 in
    (number_exists units u p.0, number_exists 7 r q.0, is_volume_lem v q.1)
title_sound_lem units aquifers (AquiferWithdrawal a v) e =
    let p = both (Sound.exists aquifers a) _ e in (number_exists aquifers a p.0, is_volume_lem v p.1)
title_sound_lem units aquifers (UnitTransfer g r v) e =
    let p = both (Sound.exists units g && Sound.exists units r) _ e in
    let n = both_exist_lem units units g r p.0 in
    (n.0, n.1, is_volume_lem v p.1)
title_sound_lem units aquifers (AquiferTransfer a u v) e =
    let p = both (Sound.exists aquifers a && Sound.exists units u) _ e in
    let n = both_exist_lem aquifers units a u p.0 in
    (n.0, n.1, is_volume_lem v p.1)
title_sound_lem units aquifers (ReturningWithdrawal a u r v) e =
    let p = both (Sound.exists aquifers a && Sound.exists units u) _ e in
    let n = both_exist_lem aquifers units a u p.0 in
    let q = both (Sound.exists 7 r) _ p.1 in
    (n.0, n.1, number_exists 7 r q.0, is_volume_lem v q.1)

pub sound_title_lem : (units aquifers : ℕ) (t : Title) → TitleSound units aquifers t → Sound.sound_title units aquifers t ≡ true
sound_title_lem units aquifers (UnitWithdrawal u r v) f =
    both_hold (Sound.exists units u) _ (exists_number units u f.0)
    (both_hold (Sound.exists 7 r) _ (exists_number 7 r f.1) (volume_is v f.2))
sound_title_lem units aquifers (AquiferWithdrawal a v) f =
    both_hold (Sound.exists aquifers a) _ (exists_number aquifers a f.0) (volume_is v f.1)
sound_title_lem units aquifers (UnitTransfer g r v) f =
    both_hold (Sound.exists units g && Sound.exists units r) _ (exist_both units units g r (f.0, f.1)) (volume_is v f.2)
sound_title_lem units aquifers (AquiferTransfer a u v) f =
    both_hold (Sound.exists aquifers a && Sound.exists units u) _ (exist_both aquifers units a u (f.0, f.1)) (volume_is v f.2)
sound_title_lem units aquifers (ReturningWithdrawal a u r v) f =
    both_hold (Sound.exists aquifers a && Sound.exists units u) _ (exist_both aquifers units a u (f.0, f.1))
    (both_hold (Sound.exists 7 r) _ (exists_number 7 r f.2) (volume_is v f.3))

pub place_sound : (units aquifers : ℕ) (p : Place) → Sound.sound_place units aquifers p ≡ true → PlaceSound units aquifers p
place_sound units aquifers p e =
    record { in_force = λ q. title_sound_lem units aquifers p.title (rw q at e) }

pub sound_place_lem : (units aquifers : ℕ) (p : Place) → PlaceSound units aquifers p → Sound.sound_place units aquifers p ≡ true
sound_place_lem units aquifers p f =
    by_bool p.in_force
    (λ q. second_holds (not p.in_force) _ (sound_title_lem units aquifers p.title (f.in_force q)))
    (λ q. first_holds (not p.in_force) _ (ap not q))

-- What titles add together.
pub unit_covered_lem : (v : View) (j : ℕ) → Sound.covered_unit v j ≡ true → UnitCovered v j
unit_covered_lem v j e =
    let p = both (leb (titled v v.given Extraction j) (v.unit j).extraction) _ e in
    let q = both (leb (titled v v.given Exports j) (v.unit j).exports) _ p.1 in
    let r = both (leb (titled v v.given Imports j) (v.unit j).imports) _ q.1 in
    record {
      extraction = leb-true _ _ p.0;
      exports = leb-true _ _ q.0;
      imports = leb-true _ _ r.0;
      returns = leb-true _ _ r.1;
    }

pub covered_unit_lem : (v : View) (j : ℕ) → UnitCovered v j → Sound.covered_unit v j ≡ true
covered_unit_lem v j f =
    both_hold (leb (titled v v.given Extraction j) (v.unit j).extraction) _ (le-leb _ _ f.extraction)
    (both_hold (leb (titled v v.given Exports j) (v.unit j).exports) _ (le-leb _ _ f.exports)
    (both_hold (leb (titled v v.given Imports j) (v.unit j).imports) _ (le-leb _ _ f.imports)
    (le-leb _ _ f.returns)))

-- All of it.
pub soundness : (v : View) → Sound.sound v ≡ true → Soundness v
unfolding Sound.sound
soundness v e =
    let p = both (Sound.sound_counts v) _ e in
    let q = both (Sound.sound_units v) _ p.1 in
    let r = both (Sound.sound_aquifers v) _ q.1 in
    let s = both (Sound.flowing v) _ r.1 in
    let t = both (Sound.sound_titles v) _ s.1 in
    let u = both (every v.units (Sound.covered_unit v)) _ t.1 in
    let a = both (leb v.units 64) _ p.0 in
    let b = both (leb v.aquifers 32) _ a.1 in
    record {
      few_units = leb-true v.units 64 a.0;
      few_aquifers = leb-true v.aquifers 32 b.0;
      few_titles = leb-true v.given 256 b.1;
      unit = λ j h. unit_sound_lem v.units j (v.unit j) (every_each _ v.units q.0 j h);
      aquifer = λ j h. aquifer_sound_lem (v.aquifer j) (every_each _ v.aquifers r.0 j h);
      flowing = λ j h. every_each _ v.units s.0 j h;
      place = λ k h. place_sound v.units v.aquifers (v.place k) (every_each _ v.given t.0 k h);
      covered = λ j h. unit_covered_lem v j (every_each _ v.units u.0 j h);
      well_covered = λ j h. leb-true _ _ (every_each _ v.aquifers u.1 j h);
    }

pub sound_of : (v : View) → Soundness v → Sound.sound v ≡ true
unfolding Sound.sound
sound_of v f =
    both_hold (Sound.sound_counts v) _
    (both_hold (leb v.units 64) _ (le-leb v.units 64 f.few_units)
    (both_hold (leb v.aquifers 32) _ (le-leb v.aquifers 32 f.few_aquifers) (le-leb v.given 256 f.few_titles)))
    (both_hold (Sound.sound_units v) _ (each_every _ v.units (λ j h. sound_unit_lem v.units j (v.unit j) (f.unit j h)))
    (both_hold (Sound.sound_aquifers v) _ (each_every _ v.aquifers (λ j h. sound_aquifer_lem (v.aquifer j) (f.aquifer j h)))
    (both_hold (Sound.flowing v) _ (each_every _ v.units f.flowing)
    (both_hold (Sound.sound_titles v) _
    (each_every _ v.given (λ k h. sound_place_lem v.units v.aquifers (v.place k) (f.place k h)))
    (both_hold (every v.units (Sound.covered_unit v)) _ (each_every _ v.units (λ j h. covered_unit_lem v j (f.covered j h)))
    (each_every _ v.aquifers (λ j h. le-leb _ _ (f.well_covered j h))))))))

-- The figures of a sound balance can be worked out.
pub sound_ready : (v : View) → Sound.sound v ≡ true → Ready v
sound_ready v e = let f = soundness v e in ready_of v f.few_units f.unit

pub sound_wells_ready : (v : View) → Sound.sound v ≡ true → WellsReady v
sound_wells_ready v e = let f = soundness v e in wells_ready_of v f.few_aquifers f.aquifer

-- The fresh balance is sound.
pub fresh_sound : Sound.sound (view_of fresh_balance) ≡ true
unfolding Sound.sound every
fresh_sound = refl
