-- Standing ahead, and going before under the examiner's rule, are orders in which any two jobs compare. Assumes nothing.
use Rattle.std.specs.Prelude.{ℕ, Bool, not, ◌&&◌, ◌||◌, nat_lt}
use Rattle.std.proofs.Common.{arith}
use Rattle.std.specs.Cmp.{IsStrictWeakOrder}
use Rattle.std.proofs.lemmas.Bool.Decides.{nat_tests}
use Rattle.ready.specs.Jobs.{ahead}
use Rattle.ready.specs.Examiners.{turn, goes_before}
use Rattle.ready.specs.declared.job.Job.{Job}

pub ahead_ranks : IsStrictWeakOrder ahead
ahead_ranks = record {
  one_way = λ x y h. grind (arith, nat_tests);
  chain = λ x y z h k. grind (arith, nat_tests);
}

-- an order, and where it ties the order of a number
module _ (lt : Job → Job → Bool) (order : IsStrictWeakOrder lt) (key : Job → ℕ) where
  then_ranks : IsStrictWeakOrder (λ x y. lt x y || ((not (lt x y) && not (lt y x)) && nat_lt (key x) (key y)))
  then_ranks = record {
    one_way = λ x y h. grind (arith, nat_tests, order.one_way x y, order.one_way y x);
    chain = λ x y z h k. grind (arith, nat_tests, order.chain x y z, order.chain z x y, order.chain y z x);
  }

pub before_ranks : (watch : ℕ) → IsStrictWeakOrder (goes_before watch)
before_ranks watch = then_ranks ahead ahead_ranks (turn watch)
