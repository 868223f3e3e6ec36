-- The most that the choices of one window can add to the demand, table by table. Assumes nothing.
use Rattle.std.specs.Prelude.{◌≡◌, ℕ, zero, suc, ◌<◌, max, cond, List, length, get_or, ◌==◌, slice_index_or}
use Rattle.theory.specs.Counting.{total}
use Rattle.plan.specs.declared.records.Point.{Point}
use Rattle.plan.specs.Content.{no_point}
use Rattle.figures.specs.Loads.{Rivals, no_rivals, part_of}

-- the greatest of f over the numbers below n
abbrev pub greatest : ℕ → (ℕ → ℕ) → ℕ
greatest zero f = 0
greatest (suc n) f = max (greatest n f) (f n)

-- what table i adds if it begins the window at point j, 0 if that is a point of another table
unfoldable pub part_at : List Point → ℕ → Rivals → ℕ → ℕ → ℕ → ℕ
part_at points i g z u j = cond ((get_or points j no_point).table == i) (part_of g (get_or points j no_point).position z u) 0

-- the most that table i adds, over all its points
abbrev pub peak_of : List Point → ℕ → Rivals → ℕ → ℕ → ℕ
peak_of points i g z u = greatest (length points) (part_at points i g z u)

-- what table i adds at most, if the own table has the phase q
unfoldable pub top_of : List Point → List Rivals → ℕ → ℕ → ℕ → ℕ → ℕ → ℕ
top_of points gs own q z u i = cond (i == own) (part_of (slice_index_or gs i no_rivals) q z u) (peak_of points i (slice_index_or gs i no_rivals) z u)

-- what all tables add at most
abbrev pub ceiling_of : List Point → List Rivals → ℕ → ℕ → ℕ → ℕ → ℕ
ceiling_of points gs own q z u = total (length gs) (top_of points gs own q z u)

-- every point lies within its table
abbrev pub Within : List Point → List Rivals → Type 0
Within points gs = (j : ℕ) → j < length points → (get_or points j no_point).table < length gs → (get_or points j no_point).position < (get_or gs (get_or points j no_point).table no_rivals).duration

-- every point of table i lies within D ticks
abbrev pub InTable : List Point → ℕ → ℕ → Type 0
InTable points i D = (j : ℕ) → j < length points → (get_or points j no_point).table ≡ i → (get_or points j no_point).position < D
