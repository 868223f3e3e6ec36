-- What a plan file means: its commands, the first one at fault, or the plan that they set down. Assumes nothing.
use Rattle.std.specs.Prelude.{ℕ, zero, suc, ◌+◌, ◌-◌, ◌*◌, Bool, true, false, cond, ◌&&◌, List, [], ◌∷◌, ◌++◌, length, take, drop, Some, None, Option, ◌==◌, nat_le, nat_lt, slice_index}
use Rattle.plan.specs.declared.faults.Row.{Row}
use Rattle.plan.specs.declared.faults.Row.TheVariants.{NotCommand, EndsEarly, TooSoon, Unfinished, TooMany, OutOfRange, NotRising, Hyperperiod, AfterEnd}
use Rattle.plan.specs.Limits.{name_length}
use Rattle.plan.specs.Content.{Content}
use Rattle.plan.specs.Entries.{Entry, set_table, set_point, set_delay, set_task, ends, blank, first_row, plan_rows, added}

-- what a command's first byte makes of it, T, P, D, J or E; none if it begins no command
abbrev pub by_first : {A : Type 0} → ℕ → (table point delay task end none : A) → A
by_first b table point delay task end none =
    cond (b == 0x54) table (cond (b == 0x50) point (cond (b == 0x44) delay (cond (b == 0x4A) task (cond (b == 0x45) end none))))

-- how many bytes the command at a place has, 0 if none begins there
abbrev pub width : List ℕ → ℕ → ℕ
width file at = by_first (slice_index file at) 3 3 3 10 1 0

-- two bytes as a number, the high one first
abbrev pub word : List ℕ → ℕ → ℕ
word file at = slice_index file at * 256 + slice_index file (at + 1)

abbrev pub part : List ℕ → ℕ → ℕ → List ℕ
part file at n = take n (drop at file)

-- the operands of a task
abbrev pub task_operands : List ℕ → ℕ → Entry
task_operands file at = set_task (part file at name_length) (word file (at + 4)) (word file (at + 6)) (slice_index file (at + 8))

-- what the command at a place says
abbrev pub entry_at : List ℕ → ℕ → Entry
entry_at file at =
    by_first (slice_index file at) (set_table (word file (at + 1))) (set_point (word file (at + 1))) (set_delay (word file (at + 1)))
    (task_operands file (at + 1)) ends ends

abbrev pub is_end : Entry → Bool
is_end (set_table d) = false
is_end (set_point p) = false
is_end (set_delay n) = false
is_end (set_task name e d l) = false
is_end ends = true

abbrev pub not_command : List ℕ → ℕ → Bool
not_command file at = nat_lt at (length file) && width file at == 0

-- the command's last byte lies past the end of the file
abbrev pub ends_early : List ℕ → ℕ → Bool
ends_early file at = nat_le (length file) (at + (width file at - 1))

abbrev pub after_end : List ℕ → ℕ → Bool
after_end file at = is_end (entry_at file at) && nat_lt (at + 1) (length file)

-- all rows for the command at a place, in their order
abbrev pub rows_at : List ℕ → ℕ → Content → List (Bool × Row)
rows_at file at c =
    (not_command file at, NotCommand) ∷
    (ends_early file at, EndsEarly) ∷
    plan_rows c (entry_at file at) ++
    (after_end file at, AfterEnd) ∷ []

-- the byte that a row names: the command's first, but for a file that ends early and for bytes after the end
abbrev pub blamed : Row → List ℕ → ℕ → ℕ
blamed NotCommand file at = at
blamed EndsEarly file at = length file
blamed TooSoon file at = at
blamed Unfinished file at = at
blamed TooMany file at = at
blamed OutOfRange file at = at
blamed NotRising file at = at
blamed Hyperperiod file at = at
blamed AfterEnd file at = at + 1

-- a file sets down a plan, or is blamed for a row at a byte
pub data Meaning : Type 0 where
  sets : Content → Meaning
  blames : Row → ℕ → Meaning

abbrev pub judged : Option Row → List ℕ → ℕ → Meaning → Meaning
judged (Some row) file at onward = blames row (blamed row file at)
judged None file at onward = onward

-- What the file means from a place on, where the plan holds c so far. The first command at fault decides, and in it
-- the first row. The number bounds the commands that may still come.
abbrev pub meaning_from : ℕ → List ℕ → ℕ → Content → Meaning
meaning_from zero file at c = blames EndsEarly (length file)
meaning_from (suc n) file at c =
    judged (first_row (rows_at file at c)) file at
    (cond (is_end (entry_at file at)) (sets c) (meaning_from n file (at + width file at) (added c (entry_at file at))))

-- each command has a byte at least, so there are no more commands than bytes
abbrev pub meaning : List ℕ → Meaning
meaning file = meaning_from (length file + 1) file 0 blank
