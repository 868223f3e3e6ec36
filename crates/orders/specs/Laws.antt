-- The plainest line of each order, which reads back to it. Assumes nothing.
use Rattle.std.specs.Prelude.{◌≡◌, ℕ, ◌≤◌, List, ◌∷◌, ◌++◌, Some, codes, decimal, Option}
use Rattle.orders.specs.declared.order.Order.{Order}
use Rattle.orders.specs.declared.order.Order.TheVariants.{Start, Stop, State, Ticks}
use Rattle.orders.specs.Numbers.{greatest}

-- The line of an order: its verb and its numbers in decimal, one space (32) apart.
abbrev pub spelled : Order → List ℕ
spelled (Start table delay) = codes "start " ++ (decimal table ++ (32 ∷ decimal delay))
spelled (Stop table) = codes "stop " ++ decimal table
spelled (State table) = codes "state " ++ decimal table
spelled (Ticks count) = codes "tick " ++ decimal count

-- The numbers are none that an order cannot hold.
abbrev pub Held : Order → Type 0
Held (Start table delay) = (table ≤ greatest) × (delay ≤ greatest)
Held (Stop table) = table ≤ greatest
Held (State table) = table ≤ greatest
Held (Ticks count) = count ≤ greatest

-- What is answered to a line that spells an order is that order.
abbrev pub ReadsBack : List ℕ → Option Order → Type 0
ReadsBack line r = (o : Order) → Held o → line ≡ spelled o → r ≡ Some o
