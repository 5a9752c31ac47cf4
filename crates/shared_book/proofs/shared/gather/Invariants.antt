use Rattle.std.proofs.Common.{◌≡◌, ◌+◌, length, map, sum_by, vec_len, vec_capacity}
use Rattle.shared_book.specs.Desks.{tally_of}
use Rattle.shared_book.proofs.shared.gather.Given as goal

abbrev pub invariant-loop-desk : goal.invariant-loop-desk
invariant-loop-desk g l = record {
  told : vec_len l.tallies ≡ length l.yielded;
  room : vec_capacity l.tallies ≡ vec_capacity l.initial.tallies;
  tallies : l.tallies.items ≡ map tally_of l.yielded;
  parts : l.all.parts ≡ l.initial.all.parts + length l.yielded;
  amount : l.all.amount ≡ l.initial.all.amount + sum_by (λ t. t.accepted) l.tallies.items;
}
