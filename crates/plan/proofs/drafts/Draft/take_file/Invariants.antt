use Rattle.std.proofs.Common.{◌≡◌, ◌+◌, ◌-◌, length}
use Rattle.plan.specs.Drafts.{drafted}
use Rattle.plan.specs.File.{meaning, meaning_from}
use Rattle.plan.specs.Readers.{bytes}
use Rattle.plan.proofs.drafts.Draft.take_file.Given as goal

abbrev pub invariant-loop : goal.invariant-loop
invariant-loop l = (bytes l.reader ≡ l.file) × (meaning_from (length l.file - l.reader.place + 1) l.file l.reader.place (drafted l.self) ≡ meaning l.file)

abbrev pub decreases-loop : goal.decreases-loop
decreases-loop l = length (bytes l.reader) - l.reader.place
