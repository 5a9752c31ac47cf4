use Rattle.std.proofs.Common.{rules}
use Rattle.book.proofs.Steps.{takes_ticket}
use Rattle.book.proofs.book.Book.take.Goals as goal

pub returns-clause-step : goal.returns-clause-step
returns-clause-step c = takes_ticket c.args.self.now c.cut_settled.new.self c.hand_out.new.self c.args.worker
    c.hand_out.result (search rules) c.cut_settled.ensures (search rules) (search rules) c.hand_out.ensures.step
