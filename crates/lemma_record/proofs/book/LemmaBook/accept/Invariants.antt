use Rattle.std.proofs.Common.{◌≡◌, ◌++◌, ◌↔◌, ◌≤◌, IsTrue, length, vec_len, vec_capacity}
use Rattle.lemma_book.specs.Premises.{AreAhead, premises_in}
use Rattle.lemma_record.specs.Desk.{AcceptsEach, emptied}
use Rattle.lemma_record.proofs.book.LemmaBook.accept.Given as goal

abbrev pub invariant-loop-lemma : goal.invariant-loop-lemma
invariant-loop-lemma g l =
    record {
      each : AcceptsEach l.fn.desk.premises l.fn.self l.yielded l.accepted.items l.self;
      waits : l.fn.desk.proved ≡ l.yielded ++ l.lemma-iterator.rest.items;
      desk : l.desk ≡ emptied l.fn.desk;
      told : vec_len l.accepted ≡ length l.yielded;
      room : length l.initial.lemma-iterator.rest.items ≤ vec_capacity l.accepted;
      ahead : IsTrue l.is_ahead ↔ AreAhead (premises_in l.self.ledger) l.fn.desk.premises;
    }
