use Rattle.orders.proofs.Spelled.{reads_back_at}
use Rattle.orders.proofs.reading.read_order.Goals as goal

pub returns-clause-back : goal.returns-clause-back
returns-clause-back c = reads_back_at _ _ (c.order_in.ensures _ c.first_words.ensures)
