-- What a grant refuses depends on the units, the aquifers and how many numbers were given, and on nothing else. Assumes nothing.
use Rattle.std.specs.Prelude.{Ok}
use Prim.Native.Nat.{ℕ, pred, ◌+◌, ◌≤◌, ◌<◌}
use mathlib.Core.Path.{◌≡◌, refl, sym, ap, ◌∙◌}
use mathlib.Core.Bool.{Bool, true, not, ◌&&◌, ◌||◌}
use mathlib.Core.List.{List}
use lib.Dec.{eqb}
use lib.ListN.{length, get_or, take}
use lib.Seq.{get_or-take, length-take-le}
use lib.Signed.{non_neg}
use native.Mathlib.Omega.{arith}
use borrow.Author.Tests.{not-false}
use Rattle.laws.specs.Sum.{every}
use Rattle.laws.proofs.Every.{every_same, both}
use Rattle.model.specs.declared.Refusal.TheVariants.{ReceiverBelow}
use Rattle.model.specs.declared.Unit.{Unit}
use Rattle.model.specs.declared.Aquifer.{Aquifer}
use Rattle.model.specs.declared.Title.{Title}
use Rattle.model.specs.declared.Title.TheVariants.{UnitWithdrawal, AquiferWithdrawal, UnitTransfer, AquiferTransfer, ReturningWithdrawal}
use Rattle.model.specs.Answers.{Answer, refuse}
use Rattle.model.specs.Entries.{volume_of}
use Rattle.model.specs.Fresh.{empty_unit, empty_aquifer}
use Rattle.model.specs.View.{View}
use Rattle.model.proofs.Answers.{by_answer, pass}
use Rattle.titles.specs.Posting.{Posting, nothing, post, postings}
use Rattle.titles.specs.Adds.{return_of}
use Rattle.river.specs.Flow.{Ready}
use Rattle.river.proofs.Units.{SameUnits, AlikeUnits, alike_of, counted_units}
use Rattle.river.specs.Wells.{well_availability}
use Rattle.figures.specs.Figures.{WellsReady, aquifers_of}
use Rattle.figures.proofs.Units.{unit_figures_alike}
use Rattle.basin.specs.Sound.{exists}
use Rattle.basin.proofs.Soundness.{number_exists}
use Rattle.reach.specs.Reach.{same_basin}
use Rattle.reach.proofs.Units.{outlet_units, below_units}
use Rattle.effect.specs.Room.{There, Names}
use Rattle.effect.specs.Granted.{Named}
use Rattle.refusal.specs.Grant.{past, overfills, overfull, in_deficit, wanting, dry, drained, no_water}
use Rattle.refusal.specs.Steps.{entries_of, goes_down, missing_fault, then_answer, volume_fault, early_fault}

-- Two views with the same units and the same aquifers.
pub record SameEntries (v w : View) : Type 0 where
  pub units : SameUnits v w
  pub count : w.aquifers ≡ v.aquifers
  pub aquifer : (k : ℕ) → k < v.aquifers → w.aquifer k ≡ v.aquifer k

-- The counted units and aquifers of arrays are those of any view that counts so many of them.
pub counted_entries : (v : View) (us : List Unit) (ws : List Aquifer) (given : ℕ) → v.units ≤ length us → v.aquifers ≤ length ws
    → ((k : ℕ) → k < v.units → v.unit k ≡ get_or us k empty_unit) → ((k : ℕ) → k < v.aquifers → v.aquifer k ≡ get_or ws k empty_aquifer)
    → SameEntries v (entries_of (take v.units us) (take v.aquifers ws) given)
counted_entries v us ws given h g e f =
    let s = counted_units v us h e in
    record {
      units = record { count = s.count; unit = s.unit };
      count = length-take-le v.aquifers ws g;
      aquifer = λ k l. get_or-take v.aquifers ws k empty_aquifer l ∙ sym (f k l);
    }

-- The aquifers of one can be worked out where those of the other can.
pub entries_wells_ready : (v : View) (us : List Unit) (ws : List Aquifer) (given : ℕ) → SameEntries v (entries_of us ws given) → WellsReady v
    → WellsReady (aquifers_of ws)
entries_wells_ready v us ws given s r =
    record {
      few = omega (arith, s.count, r.few);
      rises = λ k h. rw (s.aquifer k (omega (arith, s.count))) (r.rises k (omega (arith, s.count)));
      falls = λ k h. rw (s.aquifer k (omega (arith, s.count))) (r.falls k (omega (arith, s.count)));
    }

-- A title that is not missing names what is there.
present : (count n : ℕ) → exists count n ≡ true → (0 < n) × (n ≤ count)
present count n e = let x = number_exists count n e in (x.positive, x.within)

named_of : (units aquifers : ℕ) (t : Title) → missing_fault units aquifers t ≡ Ok tt → Names units aquifers (postings t (return_of t))
named_of units aquifers (UnitWithdrawal u r x) e =
    let h = present units u (not-false _ (pass (not (exists units u)) _ _ e).not) in
    record { extraction = h; exports = tt; imports = tt; returns = h; wells = tt }
named_of units aquifers (AquiferWithdrawal a x) e =
    record {
      extraction = tt;
      exports = tt;
      imports = tt;
      returns = tt;
      wells = present aquifers a (not-false _ (pass (not (exists aquifers a)) _ _ e).not);
    }
named_of units aquifers (UnitTransfer g r x) e =
    let b = both (exists units g) _ (not-false _ (pass (not (exists units g && exists units r)) _ _ e).not) in
    record { extraction = tt; exports = present units g b.0; imports = present units r b.1; returns = tt; wells = tt }
named_of units aquifers (AquiferTransfer a u x) e =
    let b = both (exists aquifers a) _ (not-false _ (pass (not (exists aquifers a && exists units u)) _ _ e).not) in
    record { extraction = tt; exports = tt; imports = present units u b.1; returns = tt; wells = present aquifers a b.0 }
named_of units aquifers (ReturningWithdrawal a u r x) e =
    let b = both (exists aquifers a) _ (not-false _ (pass (not (exists aquifers a && exists units u)) _ _ e).not) in
    record { extraction = tt; exports = tt; imports = tt; returns = present units u b.1; wells = present aquifers a b.0 }

-- An entry at a number that is there is overfilled in both or in neither.
overfills_same : (f g : ℕ → ℕ) (count : ℕ) (p : Posting) → There count p → ((k : ℕ) → k < count → f k ≡ g k) → overfills f p ≡ overfills g p
overfills_same f g count nothing h e = refl
overfills_same f g count (post n a) h e = ap (λ (x : ℕ). past (x + a)) (e (pred n) (omega (arith, h.0, h.1)))

-- A basin is dry over views with alike units together.
pub dry_alike : (v w : View) → AlikeUnits v w → Ready v → (j : ℕ) → j < v.units → dry w j ≡ dry v j
dry_alike v w a r j h =
    ap (λ (n : ℕ). not (every n (λ k. not (same_basin w j k && wanting w k)))) a.count
    ∙ ap not
    (every_same v.units _ _
    (λ k g i. not (eqb (outlet_units v w a r k g i) (outlet_units v w a r j h i) && in_deficit (unit_figures_alike v w a r k g i))))

module _ (v w : View) (s : SameEntries v w) where
  overfull_same : (t : Title) → Named v t → overfull w t ≡ overfull v t
  overfull_same t n =
      let p = postings t (return_of t) in
      let wells =
      overfills_same (λ k. (w.aquifer k).extraction) (λ k. (v.aquifer k).extraction) v.aquifers p.wells n.wells
      (λ k h. ap (λ (a : Aquifer). a.extraction) (s.aquifer k h)) in
      let extraction =
      overfills_same (λ k. (w.unit k).extraction) (λ k. (v.unit k).extraction) v.units p.extraction n.extraction
      (λ k h. ap (λ (u : Unit). u.extraction) (s.units.unit k h)) in
      let exports =
      overfills_same (λ k. (w.unit k).exports) (λ k. (v.unit k).exports) v.units p.exports n.exports
      (λ k h. ap (λ (u : Unit). u.exports) (s.units.unit k h)) in
      let imports =
      overfills_same (λ k. (w.unit k).imports) (λ k. (v.unit k).imports) v.units p.imports n.imports
      (λ k h. ap (λ (u : Unit). u.imports) (s.units.unit k h)) in
      let returns =
      overfills_same (λ k. (w.unit k).returns) (λ k. (v.unit k).returns) v.units p.returns n.returns
      (λ k h. ap (λ (u : Unit). u.returns) (s.units.unit k h)) in
      λ i. wells i || (extraction i || (exports i || (imports i || returns i)))

  drained_same : (a : ℕ) → (0 < a) × (a ≤ v.aquifers) → drained w (pred a) ≡ drained v (pred a)
  drained_same a h = ap (λ (x : Aquifer). not (non_neg (well_availability x))) (s.aquifer (pred a) (omega (arith, h.0, h.1)))

  module _ (r : Ready v) where
    dry_same : (j : ℕ) → j < v.units → dry w j ≡ dry v j
    dry_same = dry_alike v w (alike_of v w s.units) r

    goes_down_same : (t : Title) → Named v t → goes_down w t ≡ goes_down v t
    goes_down_same (UnitWithdrawal u x y) n = refl
    goes_down_same (AquiferWithdrawal a x) n = refl
    goes_down_same (UnitTransfer g t x) n =
        ap (λ (b : Bool). eqb g t || b) (below_units v w (alike_of v w s.units) r (pred g) (pred t) (omega (arith, n.exports.0, n.exports.1)))
    goes_down_same (AquiferTransfer a u x) n = refl
    goes_down_same (ReturningWithdrawal a u x y) n = refl

    -- What a grant refuses before its water is looked at.
    pub early_same : w.given ≡ v.given → (t : Title) → early_fault w t ≡ early_fault v t
    early_same e t =
        let missing : missing_fault w.units w.aquifers t ≡ missing_fault v.units v.aquifers t =
        λ i. missing_fault (s.units.count i) (s.count i) t in
        by_answer (missing_fault v.units v.aquifers t)
        (λ q.
        let n = named_of v.units v.aquifers t q in
        λ i. then_answer (missing i) (refuse ReceiverBelow (goes_down_same t n i) (volume_fault (e i) (volume_of t) (overfull_same t n i))))
        (λ f q.
        ap (λ (x : Answer). then_answer x (refuse ReceiverBelow (goes_down w t) (volume_fault w.given (volume_of t) (overfull w t)))) (missing ∙ q)
        ∙ sym (ap (λ (x : Answer). then_answer x (refuse ReceiverBelow (goes_down v t) (volume_fault v.given (volume_of t) (overfull v t)))) q))

    -- Whether there is no water.
    pub water_same : (t : Title) → Named v t → no_water w t ≡ no_water v t
    water_same (UnitWithdrawal u x y) n = dry_same (pred u) (omega (arith, n.extraction.0, n.extraction.1))
    water_same (AquiferWithdrawal a x) n = drained_same a n.wells
    water_same (UnitTransfer g t x) n = dry_same (pred g) (omega (arith, n.exports.0, n.exports.1))
    water_same (AquiferTransfer a u x) n = drained_same a n.wells
    water_same (ReturningWithdrawal a u x y) n = drained_same a n.wells
