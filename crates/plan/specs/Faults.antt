-- The numbers of the faults, how a fault rises from bytes to command to plan, and what is printed of it. Assumes nothing.
use Rattle.std.specs.Prelude.{ℕ, List, ◌++◌, codes}
use Rattle.std.specs.Fmt.{decimal}
use Rattle.plan.specs.declared.faults.Row.{Row}
use Rattle.plan.specs.declared.faults.Row.TheVariants.{NotCommand, EndsEarly, TooSoon, Unfinished, TooMany, OutOfRange, NotRising, Hyperperiod, AfterEnd}
use Rattle.plan.specs.declared.faults.CutShort.{CutShort}
use Rattle.plan.specs.declared.faults.Garbled.{Garbled}
use Rattle.plan.specs.declared.faults.Garbled.TheVariants as of-garbled
use Rattle.plan.specs.declared.faults.Fault.{Fault}
use Rattle.plan.specs.declared.faults.Fault.TheVariants.{At, Memory}

abbrev pub number_of : Row → ℕ
number_of NotCommand = 12
number_of EndsEarly = 11
number_of TooSoon = 14
number_of Unfinished = 18
number_of TooMany = 17
number_of OutOfRange = 15
number_of NotRising = 16
number_of Hyperperiod = 19
number_of AfterEnd = 13

abbrev pub garbled : CutShort → Garbled
garbled e = of-garbled.CutShort e.length

abbrev pub raised : Garbled → Fault
raised (of-garbled.NotCommand b) = At NotCommand b
raised (of-garbled.CutShort n) = At EndsEarly n

-- the word FAULT, the rule's number and the byte that it names; or that there is no memory
abbrev pub fault_text : Fault → List ℕ
fault_text (At row byte) = codes "FAULT " ++ decimal (number_of row) ++ codes " " ++ decimal byte
fault_text Memory = codes "no memory for the plan"
