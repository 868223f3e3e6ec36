-- The board's record of a table, and the records of all. Assumes nothing.
use Rattle.std.specs.Prelude.{ℕ, List, slice_index_or}
use Rattle.board.specs.declared.records.TableState.TheVariants.{Stopped, Waiting}
use Rattle.board.specs.declared.records.TableRecord.{TableRecord}
use Rattle.board.specs.Models.{at_rest}

abbrev pub record_of : List TableRecord → ℕ → TableRecord
record_of records i = slice_index_or records i at_rest

abbrev pub waiting_for : ℕ → ℕ → TableRecord
waiting_for delay earliest = record { state = Waiting delay; earliest = earliest }

abbrev pub stopped_at : ℕ → TableRecord
stopped_at earliest = record { state = Stopped; earliest = earliest }
