-- How one table's record and the rounds of its jobs go through start, stop and tick. Assumes nothing.
use Rattle.std.proofs.Common.{◌≡◌, ℕ, ◌+◌, ◌-◌, ◌<◌, ◌≤◌, Bool, true, false, cond, ltb, refl, inl, inr, ⊎_elim, arith}
use Rattle.std.proofs.lemmas.Bool.{ltb-true, ltb-false, eqb-true, both_ways}
use Rattle.board.specs.declared.records.TableState.{TableState}
use Rattle.board.specs.declared.records.TableState.TheVariants.{Stopped, Waiting, Running}
use Rattle.board.specs.Ticks.{turned_state, begun, runs_at}
use Rattle.board.specs.Soundness.{TableSound, Spaced}

module _ (n d e : ℕ) where
  pub turn_sound : (s : TableState) → 1 ≤ d → TableSound n d e s → TableSound (n + 1) d (turned_state n d e s).earliest (turned_state n d e s).state
  turn_sound Stopped one h = tt
  turn_sound (Waiting w) one h = go (ltb 1 w) refl
    where
      go : (b : Bool) → ltb 1 w ≡ b → TableSound (n + 1) d (cond b (record { state = Waiting (w - 1); earliest = e }) (begun n d)).earliest (cond b (record { state = Waiting (w - 1); earliest = e }) (begun n d)).state
      go true q = let l = ltb-true 1 w q in (omega arith, omega (arith, h.1))
      go false q = (omega arith, omega arith, omega arith)
  turn_sound (Running p) one h = go (ltb (p + 1) d) refl
    where
      go : (b : Bool) → ltb (p + 1) d ≡ b → TableSound (n + 1) d (cond b (record { state = Running (p + 1); earliest = e }) (begun n d)).earliest (cond b (record { state = Running (p + 1); earliest = e }) (begun n d)).state
      go true q = let l = ltb-true (p + 1) d q in (omega arith, omega (arith, h.1), omega (arith, h.2))
      go false q = (omega arith, omega arith, omega arith)

  module _ (a p : ℕ) where
    pub turn_spaced : (s : TableState) → TableSound n d e s → Spaced a p n d e s → Spaced a p (n + 1) d (turned_state n d e s).earliest (turned_state n d e s).state
    turn_spaced Stopped t h = h
    turn_spaced (Waiting w) t h = go (ltb 1 w) refl
      where
        go : (b : Bool) → ltb 1 w ≡ b → Spaced a p (n + 1) d (cond b (record { state = Waiting (w - 1); earliest = e }) (begun n d)).earliest (cond b (record { state = Waiting (w - 1); earliest = e }) (begun n d)).state
        go true q = let l = ltb-true 1 w q in omega (arith, h)
        go false q = let l = ltb-false 1 w q in inr (omega (arith, h))
    turn_spaced (Running q) t h = go (ltb (q + 1) d) refl
      where
        go : (b : Bool) → ltb (q + 1) d ≡ b → Spaced a p (n + 1) d (cond b (record { state = Running (q + 1); earliest = e }) (begun n d)).earliest (cond b (record { state = Running (q + 1); earliest = e }) (begun n d)).state
        go true r = ⊎_elim (λ x. inl (omega (arith, x))) (λ x. inr (omega (arith, x))) h
        go false r = let l = ltb-false (q + 1) d r in inr (⊎_elim (λ x. omega (arith, x, l, t.0)) (λ x. omega (arith, x)) h)

    -- a table that comes to its point now began no round of an older job that is still in time
    pub clash : (s : TableState) (due : ℕ) → TableSound n d e s → Spaced a p n d e s → a < n → n < a + due → due ≤ d → runs_at p (turned_state n d e s).state ≡ true → ⊥
    clash Stopped due t h past time fits at = both_ways false refl at
    clash (Waiting w) due t h past time fits at = go (ltb 1 w) refl at
      where
        go : (b : Bool) → ltb 1 w ≡ b → runs_at p (cond b (record { state = Waiting (w - 1); earliest = e }) (begun n d)).state ≡ true → ⊥
        go true q x = both_ways false refl x
        go false q x = let l = ltb-false 1 w q in omega (arith, h, eqb-true 0 p x)
    clash (Running q) due t h past time fits at = go (ltb (q + 1) d) refl at
      where
        go : (b : Bool) → ltb (q + 1) d ≡ b → runs_at p (cond b (record { state = Running (q + 1); earliest = e }) (begun n d)).state ≡ true → ⊥
        go true r x = let y = eqb-true (q + 1) p x in ⊎_elim (λ z. omega (arith, z, y)) (λ z. omega (arith, z, y)) h
        go false r x = let y = eqb-true 0 p x in let l = ltb-false (q + 1) d r in ⊎_elim (λ z. omega (arith, z, y, l, t.0)) (λ z. omega (arith, z, y)) h

    -- a job that is activated now belongs to the running round
    pub new_spaced : (s : TableState) → TableSound (n + 1) d e s → runs_at p s ≡ true → a ≡ n → (p ≤ a) × Spaced a p (n + 1) d e s
    new_spaced Stopped t at same = absurd (both_ways false refl at)
    new_spaced (Waiting w) t at same = absurd (both_ways false refl at)
    new_spaced (Running q) t at same = let y = eqb-true q p at in (omega (arith, y, t.1), inl (omega (arith, y)))

    pub stop_spaced : (s : TableState) → TableSound n d e s → Spaced a p n d e s → Spaced a p n d e Stopped
    stop_spaced Stopped t h = h
    stop_spaced (Waiting w) t h = omega (arith, h, t.1)
    stop_spaced (Running q) t h = ⊎_elim (λ z. omega (arith, z, t.2)) (λ z. omega (arith, z, t.2)) h

    pub start_spaced : (w : ℕ) → 1 ≤ w → e ≤ n + w - 1 → Spaced a p n d e Stopped → Spaced a p n d (n + w - 1 + d) (Waiting w)
    start_spaced w one late h = omega (arith, h)
