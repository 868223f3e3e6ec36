-- What a reader over a file tells, and where it stands afterwards. Assumes nothing.
use Rattle.std.specs.Prelude.{◌≡◌, ℕ, ◌+◌, ◌<◌, ◌≤◌, true, false, List, length, Ok, Err, Result}
use Rattle.plan.specs.declared.reader.Reader.{Reader}
use Rattle.plan.specs.declared.commands.Command.{Command}
use Rattle.plan.specs.declared.commands.Command.TheVariants.{Table, Point, Delay, Task, End}
use Rattle.plan.specs.declared.commands.Placed.{Placed}
use Rattle.plan.specs.declared.faults.CutShort.{CutShort}
use Rattle.plan.specs.declared.faults.Garbled.{Garbled}
use Rattle.plan.specs.declared.faults.Garbled.TheVariants as of-garbled
use Rattle.plan.specs.Entries.{Entry, set_table, set_point, set_delay, set_task, ends}
use Rattle.plan.specs.File.{width, entry_at, not_command, ends_early}

-- what a command of the code says
abbrev pub said : Command → Entry
said (Table d) = set_table d
said (Point p) = set_point p
said (Delay n) = set_delay n
said (Task name e d l) = set_task name e d l
said End = ends

abbrev pub bytes : Reader → List ℕ
bytes s = s.file.now

-- the reader has moved on by n bytes, all within the file
pub record Moved (n : ℕ) (s t : Reader) : Type 0 where
  pub room : s.place + n ≤ length (bytes s)
  pub on : t.place ≡ s.place + n
  pub same : bytes t ≡ bytes s

-- fewer than n bytes are left
pub record Short (n : ℕ) (s : Reader) (length' : ℕ) (t : Reader) : Type 0 where
  pub short : length (bytes s) < s.place + n
  pub told : length' ≡ length (bytes s)
  pub same : bytes t ≡ bytes s

-- the next n bytes were read as the value that `is` tells, or the file is too short for them
abbrev pub Took : {A : Type 0} → ℕ → (A → Type 0) → Reader → Result A CutShort → Reader → Type 0
Took n is s (Ok x) t = is x × Moved n s t
Took n is s (Err e) t = Short n s e.length t

pub record Found (s : Reader) (p : Placed) (t : Reader) : Type 0 where
  pub known : not_command (bytes s) s.place ≡ false
  pub whole : ends_early (bytes s) s.place ≡ false
  pub says : said p.command ≡ entry_at (bytes s) s.place
  pub at : p.place ≡ s.place
  pub moved : Moved (width (bytes s) s.place) s t

-- the command at the reader's place, or the row that says that there is none
abbrev pub Commanded : Reader → Result Placed Garbled → Reader → Type 0
Commanded s (Ok p) t = Found s p t
Commanded s (Err (of-garbled.NotCommand b)) t = (not_command (bytes s) s.place ≡ true) × (b ≡ s.place)
Commanded s (Err (of-garbled.CutShort n)) t =
    (not_command (bytes s) s.place ≡ false) × (ends_early (bytes s) s.place ≡ true) × (n ≡ length (bytes s))
