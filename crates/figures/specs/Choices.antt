-- Lists of phases, one for each choice of a point in each table other than the task's own. Assumes nothing.
use Rattle.std.specs.Prelude.{◌≡◌, ℕ, ◌<◌, ◌≤◌, List, [], length, get_or, ◌≢◌, slice_index, slice_index_or, slice_set}
use Rattle.plan.specs.declared.records.Point.{Point}
use Rattle.plan.specs.Content.{Content, no_point, table_count, table_of}
use Rattle.plan.specs.Limits.{max_tables}

-- v is one of the choices
abbrev pub Has : List (List ℕ) → List ℕ → Type 0
Has choices v = (m : ℕ) × (m < length choices) × (slice_index_or choices m [] ≡ v)

-- q is the position of a point of table i
abbrev pub Stands : List Point → ℕ → ℕ → Type 0
Stands points i q = (j : ℕ) × (j < length points) × ((get_or points j no_point).table ≡ i) × ((get_or points j no_point).position ≡ q)

-- the later choices are the earlier ones with each position of a point of table i put at i
pub record Spread (points : List Point) (i : ℕ) (earlier later : List (List ℕ)) : Type 0 where
  pub sound : (v : List ℕ) → Has later v → (w : List ℕ) × (q : ℕ) × Has earlier w × Stands points i q × (v ≡ slice_set w i q)
  pub complete : (w : List ℕ) (q : ℕ) → Has earlier w → Stands points i q → Has later (slice_set w i q)

-- v has a position of each of the first n tables, own aside, and 0 for the tables from n on
pub record Sound (points : List Point) (own n : ℕ) (v : List ℕ) : Type 0 where
  pub full : length v ≡ max_tables
  pub stands : (i : ℕ) → i < n → (i ≢ own) → Stands points i (slice_index v i)
  pub rest : (i : ℕ) → n ≤ i → slice_index v i ≡ 0

-- the choices are sound, and every choice of positions is among them
pub record Listed (points : List Point) (own n : ℕ) (choices : List (List ℕ)) : Type 0 where
  pub sound : (v : List ℕ) → Has choices v → Sound points own n v
  pub complete : (φ : ℕ → ℕ) → ((i : ℕ) → i < n → (i ≢ own) → Stands points i (φ i))
      → (v : List ℕ) × Has choices v × ((i : ℕ) → i < n → (i ≢ own) → slice_index v i ≡ φ i)

-- the choices for task t of the plan
abbrev pub ListedFor : Content → ℕ → List (List ℕ) → Type 0
ListedFor c t choices = Listed c.points (table_of c t) (table_count c) choices
