-- A balance that is kept under a name. Assumes nothing.
use Rattle.std.specs.Prelude.{ℕ, ◌<◌, ◌≡◌, true}
use Rattle.model.specs.declared.Balance.{Balance}
use Rattle.planning.specs.declared.Name.{Name}
use Rattle.planning.specs.declared.State.{State}
use Rattle.planning.specs.Names.{same_name}
use Rattle.planning.specs.State.{name_at, balance_at}

-- A place in use has the name and holds the balance. In a sound state no two places have the same name.
pub record Under (s : State) (n : Name) (b : Balance) : Type 0 where
  pub place : ℕ
  pub used : place < s.count
  pub named : same_name (name_at s.kept place) n ≡ true
  pub held : balance_at s.kept place ≡ b
