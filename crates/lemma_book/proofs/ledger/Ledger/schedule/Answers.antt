use Rattle.lemma_book.proofs.Ledgers.{led_stays_sound}
use Rattle.lemma_book.proofs.ledger.Ledger.schedule.Goals as goal

pub invariant_of-self-2 : goal.invariant_of-self-2
invariant_of-self-2 c = led_stays_sound c.self.inside.draft c.schedule.new.self c.args.starts c.in_ok-led.led c.self.invariant c.in_ok-led.ensures.led
