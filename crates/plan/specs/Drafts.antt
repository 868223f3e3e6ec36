-- A draft by what it holds, and what its calls tell. Assumes nothing.
use Rattle.std.specs.Prelude.{◌≡◌, Bool, true, false, Some, None, Ok, Err, vec_items, Result}
use Rattle.plan.specs.declared.drafts.Draft.{Draft}
use Rattle.plan.specs.declared.commands.Placed.{Placed}
use Rattle.plan.specs.declared.faults.Fault.{Fault}
use Rattle.plan.specs.declared.faults.Fault.TheVariants.{At, Memory}
use Rattle.plan.specs.declared.reader.Reader.{Reader}
use Rattle.plan.specs.Content.{Content, holding}
use Rattle.plan.specs.Entries.{first_row, plan_rows, added}
use Rattle.plan.specs.File.{Meaning, sets, blames, rows_at, blamed, is_end, entry_at, width}
use Rattle.plan.specs.Readers.{said, bytes, Moved}

abbrev pub drafted : Draft → Content
drafted d = holding (vec_items d.tables) (vec_items d.points) (vec_items d.tasks)

-- a change that needs memory was made, or there was no memory for it
abbrev pub Changed : Content → Result (Unit {0}) Fault → Draft → Type 0
Changed c (Ok u) d = drafted d ≡ c
Changed c (Err (At row byte)) d = ⊥
Changed c (Err Memory) d = Unit {0}

-- the command was right and is added, or the first row that it breaks is told with its place
abbrev pub Added : Content → Placed → Result (Unit {0}) Fault → Draft → Type 0
Added c p (Ok u) d = (first_row (plan_rows c (said p.command)) ≡ None) × (drafted d ≡ added c (said p.command))
Added c p (Err (At row byte)) d = (first_row (plan_rows c (said p.command)) ≡ Some row) × (byte ≡ p.place)
Added c p (Err Memory) d = Unit {0}

-- One command of the file taken: it was right, and the draft and the reader are one command further; or it was the
-- right end; or the first row that it breaks is told with the byte that the row names.
pub record On (c : Content) (s : Reader) (d : Draft) (t : Reader) : Type 0 where
  pub right : first_row (rows_at (bytes s) s.place c) ≡ None
  pub more : is_end (entry_at (bytes s) s.place) ≡ false
  pub adds : drafted d ≡ added c (entry_at (bytes s) s.place)
  pub moved : Moved (width (bytes s) s.place) s t

pub record Ended (c : Content) (s : Reader) (d : Draft) : Type 0 where
  pub right : first_row (rows_at (bytes s) s.place c) ≡ None
  pub last : is_end (entry_at (bytes s) s.place) ≡ true
  pub same : drafted d ≡ c

abbrev pub Stepped : Content → Reader → Result Bool Fault → Draft → Reader → Type 0
Stepped c s (Ok true) d t = On c s d t
Stepped c s (Ok false) d t = Ended c s d
Stepped c s (Err (At row byte)) d t = (first_row (rows_at (bytes s) s.place c) ≡ Some row) × (byte ≡ blamed row (bytes s) s.place)
Stepped c s (Err Memory) d t = Unit {0}

-- the whole file was taken
abbrev pub Filled : Meaning → Result (Unit {0}) Fault → Draft → Type 0
Filled m (Ok u) d = m ≡ sets (drafted d)
Filled m (Err (At row byte)) d = m ≡ blames row byte
Filled m (Err Memory) d = Unit {0}

-- Reading a file that means m into a plan that held c: the plan then holds what the file sets down, or the defined
-- fault is told, and a fault and want of memory leave the plan as it was.
abbrev pub Read : Meaning → Content → Result (Unit {0}) Fault → Content → Type 0
Read m c (Ok u) d = m ≡ sets d
Read m c (Err (At row byte)) d = (m ≡ blames row byte) × (d ≡ c)
Read m c (Err Memory) d = d ≡ c
