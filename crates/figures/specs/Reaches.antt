-- The reach in a window by the demand that the search counts. Assumes nothing.
use Rattle.std.specs.Prelude.{ℕ, ◌+◌, ◌<◌, ◌≤◌, List}
use Rattle.figures.specs.Loads.{Rivals, demand_of}

-- y is the least number from 1 on for which the x + y ticks are enough for the demand
pub record ReachOf (gs : List Rivals) (x : ℕ) (φ : ℕ → ℕ) (y : ℕ) : Type 0 where
  pub some : 1 ≤ y
  pub ends : demand_of gs φ x y ≤ x + y
  pub first : (v : ℕ) → 1 ≤ v → v < y → x + v < demand_of gs φ x v
