-- What a line asks for. Assumes nothing.
use Rattle.std.specs.Prelude.{ℕ, cond, List, [], ◌∷◌, Some, None, codes, Option}
use Rattle.std.specs.Str.{bytes_eq}
use Rattle.orders.specs.declared.order.Order.{Order}
use Rattle.orders.specs.declared.order.Order.TheVariants.{Start, Stop, State, Ticks}
use Rattle.orders.specs.Words.{words_of}
use Rattle.orders.specs.Numbers.{number_of}

-- What a verb asks for with no number.
abbrev pub alone : List ℕ → Option Order
alone verb = cond (bytes_eq verb (codes "tick")) (Some (Ticks 1)) None

-- What a verb asks for with one number.
abbrev pub with_one : List ℕ → ℕ → Option Order
with_one verb n =
    cond (bytes_eq verb (codes "stop")) (Some (Stop n))
    (cond (bytes_eq verb (codes "state")) (Some (State n))
    (cond (bytes_eq verb (codes "tick")) (Some (Ticks n)) None))

-- What a verb asks for with two numbers.
abbrev pub with_two : List ℕ → ℕ → ℕ → Option Order
with_two verb m n = cond (bytes_eq verb (codes "start")) (Some (Start m n)) None

-- What f asks for with a number, if there is one.
abbrev pub given : {A : Type 0} → Option ℕ → (ℕ → Option A) → Option A
given None f = None
given (Some n) f = f n

-- What words ask for: a verb with up to two numbers.
abbrev pub asked : List (List ℕ) → Option Order
asked [] = None
asked (verb ∷ []) = alone verb
asked (verb ∷ a ∷ []) = given (number_of a) (λ m. with_one verb m)
asked (verb ∷ a ∷ b ∷ []) = given (number_of a) (λ m. given (number_of b) (λ n. with_two verb m n))
asked (verb ∷ a ∷ b ∷ c ∷ more) = None

-- What a line asks for, if it can be read.
abbrev pub order_of : List ℕ → Option Order
order_of line = asked (words_of line)
