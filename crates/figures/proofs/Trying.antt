-- The choices of one window are tried one after another. Assumes nothing.
use Rattle.std.proofs.Common.{◌≡◌, ℕ, ◌+◌, ◌-◌, ◌<◌, ◌≤◌, ◌⊎◌, true, leb, List, [], length, get_or, set, sym, refl, ap, ◌∙◌, subst, inr, ⊎_elim, below_more, arith}
use Rattle.std.proofs.lemmas.Bool.{cases_lt, leb-true}
use Rattle.theory.proofs.Sums.{total_cong}
use Rattle.figures.specs.declared.worst.Worst.{Worst}
use Rattle.figures.specs.declared.windows.Window.{Window}
use Rattle.figures.specs.Loads.{Rivals, no_rivals, part_of, demand_of}
use Rattle.figures.specs.Reaches.{ReachOf}
use Rattle.figures.specs.Tries.{Open, phase_in, Taken, Bettered}

module _ (gs : List Rivals) (x : ℕ) where
  -- a number whose ticks are enough bounds the reach
  pub enough_bounds : (φ : ℕ → ℕ) (y v : ℕ) → ReachOf gs x φ y → 1 ≤ v → demand_of gs φ x v ≤ x + v → y ≤ v
  enough_bounds φ y v r one met = ⊎_elim (λ lt. absurd (omega (arith, r.first v one lt, met))) (λ le. le) (cases_lt v y)

  pub reach_one : (φ : ℕ → ℕ) (y z : ℕ) → ReachOf gs x φ y → ReachOf gs x φ z → y ≤ z
  reach_one φ y z a b = enough_bounds φ y z a b.some b.ends

  -- only the phases of the plan's tables matter
  demand_same : (φ ψ : ℕ → ℕ) (y : ℕ) → ((i : ℕ) → i < length gs → φ i ≡ ψ i) → demand_of gs φ x y ≡ demand_of gs ψ x y
  unfolding demand_of
  demand_same φ ψ y same = total_cong (length gs) _ _ (λ i lt. ap (λ q. part_of (get_or gs i no_rivals) q (x + y) (x + 1)) (same i lt))

  pub reach_same : (φ ψ : ℕ → ℕ) (y : ℕ) → ((i : ℕ) → i < length gs → φ i ≡ ψ i) → ReachOf gs x φ y → ReachOf gs x ψ y
  reach_same φ ψ y same r = record {
    some = r.some;
    ends = omega (arith, r.ends, demand_same φ ψ y same);
    first = λ v one less. omega (arith, r.first v one less, demand_same φ ψ v same);
  }

-- the phases are those of choice m in the window, and the groups are the search's
pub record Turned (gs : List Rivals) (choices : List (List ℕ)) (w : Window) (m : ℕ) (hs : List Rivals) (ps : List ℕ) : Type 0 where
  pub groups : hs ≡ gs
  pub inside : m < length choices
  pub phases : ps ≡ set (get_or choices m []) w.own w.phase

pub turned_from : (gs hs : List Rivals) (choices cs : List (List ℕ)) (w : Window) (m : ℕ) (ps : List ℕ) → hs ≡ gs → cs ≡ choices → m < length cs
    → ps ≡ set (get_or cs m []) w.own w.phase → Turned gs choices w m hs ps
turned_from gs hs choices cs w m ps e f lt g = record {
  groups = e;
  inside = omega (arith, lt, ap length f);
  phases = g ∙ ap (λ vs. set (get_or vs m []) w.own w.phase) f;
}

module _ (gs : List Rivals) (choices : List (List ℕ)) (w : Window) where
  -- a reach that was found is that of the choice
  pub turned_reach : (m z : ℕ) (hs : List Rivals) (ps : List ℕ) → Turned gs choices w m hs ps → ReachOf hs w.tick (λ i. get_or ps i 0) z
      → ReachOf gs w.tick (phase_in w (get_or choices m [])) z
  turned_reach m z hs ps here r =
      subst (λ qs. ReachOf gs w.tick (λ i. get_or qs i 0) z) here.phases (subst (λ g. ReachOf g w.tick (λ i. get_or ps i 0) z) here.groups r)

  pub turned_taken : (m z : ℕ) (hs : List Rivals) (ps : List ℕ) → Turned gs choices w m hs ps → ReachOf hs w.tick (λ i. get_or ps i 0) z
      → Taken gs choices w (record { figure = z; tick = w.tick; phases = ps })
  turned_taken m z hs ps here r = record {
    ticks = refl;
    choice = (get_or choices m [], (m, here.inside, refl), here.phases);
    reach = subst (λ g. ReachOf g w.tick (λ i. get_or ps i 0) z) here.groups r;
  }

-- after the first m choices b is the best
pub record Tried (gs : List Rivals) (choices : List (List ℕ)) (w : Window) (a b : Worst) (m : ℕ) : Type 0 where
  pub some : 1 ≤ b.figure
  pub ends : w.tick + b.figure ≤ w.limit
  pub keeps : a.figure ≤ b.figure
  pub bounds : (n y : ℕ) → n < m → ReachOf gs w.tick (phase_in w (get_or choices n [])) y → y ≤ b.figure
  pub origin : (b ≡ a) ⊎ Taken gs choices w b

module _ (gs : List Rivals) (choices : List (List ℕ)) (w : Window) (a : Worst) where
  more : (b : Worst) (m : ℕ) → Tried gs choices w a b m → ((y : ℕ) → ReachOf gs w.tick (phase_in w (get_or choices m [])) y → y ≤ b.figure) → Tried gs choices w a b (m + 1)
  more b m t here = record {
    some = t.some;
    ends = t.ends;
    keeps = t.keeps;
    bounds = λ n y lt.
        below_more (λ k. ReachOf gs w.tick (phase_in w (get_or choices k [])) y → y ≤ b.figure) m (λ k less. t.bounds k y less) (here y) n lt;
    origin = t.origin;
  }

  -- some number up to the best is enough
  pub tried_skip : (b : Worst) (m v : ℕ) (hs : List Rivals) (ps : List ℕ) → Turned gs choices w m hs ps → 1 ≤ v → v ≤ b.figure
      → true ≡ leb (demand_of hs (λ i. get_or ps i 0) w.tick v) (w.tick + v) → Tried gs choices w a b m → Tried gs choices w a b (m + 1)
  tried_skip b m v hs ps here one le met t =
      let enough : demand_of gs (phase_in w (get_or choices m [])) w.tick v ≤ w.tick + v =
      subst (λ qs. demand_of gs (λ i. get_or qs i 0) w.tick v ≤ w.tick + v) here.phases
      (subst (λ g. demand_of g (λ i. get_or ps i 0) w.tick v ≤ w.tick + v) here.groups (leb-true _ _ (sym met))) in
      more b m t (λ y r. omega (arith, enough_bounds gs w.tick (phase_in w (get_or choices m [])) y v r one enough, le))

  -- the reach is no better
  pub tried_keep : (b : Worst) (m z : ℕ) (hs : List Rivals) (ps : List ℕ) → Turned gs choices w m hs ps → z ≤ b.figure → ReachOf hs w.tick (λ i. get_or ps i 0) z
      → Tried gs choices w a b m → Tried gs choices w a b (m + 1)
  tried_keep b m z hs ps here le found t =
      more b m t (λ y r. omega (arith, reach_one gs w.tick (phase_in w (get_or choices m [])) y z r (turned_reach gs choices w m z hs ps here found), le))

  pub reach_ends : (φ : ℕ → ℕ) (z : ℕ) → Open gs choices w → ReachOf gs w.tick φ z → w.tick + z ≤ w.limit
  reach_ends φ z o r =
      let one : 1 ≤ w.limit - w.tick = omega (arith, w.early) in
      let met : demand_of gs φ w.tick (w.limit - w.tick) ≤ w.tick + (w.limit - w.tick) = omega (arith, o.light φ, w.early) in
      omega (arith, enough_bounds gs w.tick φ z (w.limit - w.tick) r one met, w.early)

  -- the reach is better
  pub tried_better : (b : Worst) (m z : ℕ) (hs : List Rivals) (ps : List ℕ) → Turned gs choices w m hs ps → Open gs choices w → b.figure < z
      → ReachOf hs w.tick (λ i. get_or ps i 0) z → Tried gs choices w a b m → Tried gs choices w a (record { figure = z; tick = w.tick; phases = ps }) (m + 1)
  tried_better b m z hs ps here o better found t =
      let reached = turned_reach gs choices w m z hs ps here found in record {
        some = reached.some;
        ends = reach_ends (phase_in w (get_or choices m [])) z o reached;
        keeps = omega (arith, t.keeps, better);
        bounds = λ n y lt.
            below_more (λ k. ReachOf gs w.tick (phase_in w (get_or choices k [])) y → y ≤ z) m (λ k less r. omega (arith, t.bounds k y less r, better))
            (λ r. reach_one gs w.tick (phase_in w (get_or choices m [])) y z r reached) n lt;
        origin = inr (turned_taken gs choices w m z hs ps here found);
      }

  pub tried_all : (b : Worst) (m : ℕ) → length choices ≤ m → Tried gs choices w a b m → Bettered gs choices w a b
  tried_all b m all t = record {
    keeps = t.keeps;
    bounds = λ v y h r. t.bounds h.0 y (omega (arith, h.1, all)) (subst (λ u. ReachOf gs w.tick (phase_in w u) y) (sym h.2) r);
    origin = t.origin;
  }
