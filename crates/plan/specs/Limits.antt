-- The limits of a plan, each named once. Assumes nothing.
use Rattle.std.specs.Prelude.{ℕ}

abbrev pub max_tables : ℕ
max_tables = 4

abbrev pub max_duration : ℕ
max_duration = 2000

-- the expiry points of one table
abbrev pub max_points : ℕ
max_points = 8

abbrev pub max_tasks_of_point : ℕ
max_tasks_of_point = 4

-- the tasks of all tables together
abbrev pub max_tasks : ℕ
max_tasks = 16

abbrev pub max_hyperperiod : ℕ
max_hyperperiod = 10000

abbrev pub name_length : ℕ
name_length = 4

-- a name's bytes are printed characters, without the space
abbrev pub first_name_byte : ℕ
first_name_byte = 0x21

abbrev pub last_name_byte : ℕ
last_name_byte = 0x7E
