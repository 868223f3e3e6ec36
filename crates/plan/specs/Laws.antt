-- What a plan file is, by what is written: right commands one after another from its first byte on. Assumes nothing.
use Rattle.std.specs.Prelude.{◌≡◌, ℕ, ◌+◌, ◌*◌, ◌≤◌, false, List, [], ◌∷◌, ◌++◌, length, Some, None, Ok, Err, Result}
use Rattle.plan.specs.declared.faults.Row.{Row}
use Rattle.plan.specs.declared.faults.Fault.{Fault}
use Rattle.plan.specs.declared.faults.Fault.TheVariants.{At, Memory}
use Rattle.plan.specs.Limits.{name_length}
use Rattle.plan.specs.Content.{Content}
use Rattle.plan.specs.Entries.{Entry, set_table, set_point, set_delay, set_task, ends, blank, first_row, plan_rows, added}
use Rattle.plan.specs.File.{is_end, rows_at, blamed}

-- the bytes are a command byte and a number, its high byte first
abbrev pub SpellsWord : ℕ → ℕ → List ℕ → Type 0
SpellsWord command n bs = (h : ℕ) × (l : ℕ) × (bs ≡ command ∷ h ∷ l ∷ []) × (n ≡ h * 256 + l)

-- the bytes spell the command
abbrev pub Spells : Entry → List ℕ → Type 0
Spells (set_table d) bs = SpellsWord 0x54 d bs
Spells (set_point p) bs = SpellsWord 0x50 p bs
Spells (set_delay n) bs = SpellsWord 0x44 n bs
Spells (set_task name e d l) bs =
    (eh : ℕ) × (el : ℕ) × (dh : ℕ) × (dl : ℕ) × (length name ≡ name_length)
    × (bs ≡ 0x4A ∷ name ++ eh ∷ el ∷ dh ∷ dl ∷ l ∷ []) × (e ≡ eh * 256 + el) × (d ≡ dh * 256 + dl)
Spells ends bs = bs ≡ 0x45 ∷ []

-- the bytes spell the commands, one after another
abbrev pub Written : List Entry → List ℕ → Type 0
Written [] bs = bs ≡ []
Written (e ∷ es) bs = (front : List ℕ) × (back : List ℕ) × (bs ≡ front ++ back) × Spells e front × Written es back

-- the commands, none of them wrong where it stands and none the end, lead from one content to another
abbrev pub Leads : Content → List Entry → Content → Type 0
Leads c [] z = c ≡ z
Leads c (e ∷ es) z = (is_end e ≡ false) × (first_row (plan_rows c e) ≡ None) × Leads (added c e) es z

-- the whole file is right commands and then the end
pub record Whole (file : List ℕ) (c : Content) : Type 0 where
  pub entries : List Entry
  pub written : Written (entries ++ ends ∷ []) file
  pub leads : Leads blank entries c
  pub right : first_row (plan_rows c ends) ≡ None

-- after right commands stands the one that is blamed, for the first row that it breaks
pub record Blame (file : List ℕ) (row : Row) (byte : ℕ) : Type 0 where
  pub entries : List Entry
  pub front : List ℕ
  pub rest : List ℕ
  pub split : file ≡ front ++ rest
  pub written : Written entries front
  pub sofar : Content
  pub leads : Leads blank entries sofar
  pub breaks : first_row (rows_at file (length front) sofar) ≡ Some row
  pub place : byte ≡ blamed row file (length front)
  pub within : byte ≤ length file

-- what a reading tells of the file
abbrev pub Told : List ℕ → Result (Unit {0}) Fault → Content → Type 0
Told file (Ok u) c = Whole file c
Told file (Err (At row byte)) c = Blame file row byte
Told file (Err Memory) c = Unit {0}
