-- What trying the choices of one window tells. Assumes nothing.
use Rattle.std.specs.Prelude.{◌≡◌, ℕ, ◌-◌, ◌≤◌, min, max, ◌⊎◌, List, slice_index, slice_set}
use Rattle.figures.specs.declared.worst.Worst.{Worst}
use Rattle.figures.specs.declared.windows.Window.{Window}
use Rattle.figures.specs.Loads.{Rivals, Phased, demand_of}
use Rattle.figures.specs.Reaches.{ReachOf}
use Rattle.figures.specs.Choices.{Has}
use Rattle.figures.specs.Worsts.{phase_of}

-- the choices can be tried in the window: every phase lies within its table, and the demand is met by the limit, whatever the phases are
pub record Open (gs : List Rivals) (choices : List (List ℕ)) (w : Window) : Type 0 where
  pub phased : (v : List ℕ) → Has choices v → Phased gs (slice_set v w.own w.phase)
  pub light : (φ : ℕ → ℕ) → demand_of gs φ w.tick (w.limit - w.tick) ≤ w.limit

-- the phase of table i by a choice, where the own table has the window's phase
abbrev pub phase_in : Window → List ℕ → ℕ → ℕ
phase_in w v i = slice_index (slice_set v w.own w.phase) i

-- b is a choice of the window with its reach
pub record Taken (gs : List Rivals) (choices : List (List ℕ)) (w : Window) (b : Worst) : Type 0 where
  pub ticks : b.tick ≡ w.tick
  pub choice : (v : List ℕ) × Has choices v × (b.phases ≡ slice_set v w.own w.phase)
  pub reach : ReachOf gs w.tick (phase_of b) b.figure

-- b is no less than a and than the reach of any choice of the window, and is a or one of these
pub record Bettered (gs : List Rivals) (choices : List (List ℕ)) (w : Window) (a b : Worst) : Type 0 where
  pub keeps : a.figure ≤ b.figure
  pub bounds : (v : List ℕ) (y : ℕ) → Has choices v → ReachOf gs w.tick (phase_in w v) y → y ≤ b.figure
  pub origin : (b ≡ a) ⊎ Taken gs choices w b

-- a number from 1 to most, as near as can be to the ticks from x to end
abbrev pub guess_of : ℕ → ℕ → ℕ → ℕ
guess_of end x most = max 1 (min (end - x) most)
