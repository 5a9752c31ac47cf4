use Rattle.std.proofs.Common.{◌<◌, arith, ℤ, length, Vec, Global}
use Rattle.std.proofs.lemmas.List.{length-map}
use Rattle.lemma_proof.specs.Heads.{cells_of}
use Rattle.lemma_proof.proofs.Rooting.{none_over, may_take, over_more, all_over}
use Rattle.lemma_proof.proofs.root.go_over.Goals as goal

pub loop-a-init : goal.loop-a-init
loop-a-init c = none_over c.args.arc c.args.via.now (cells_of c.args.table.now)

pub raise_row-requires-clause-may : goal.raise_row-requires-clause-may
raise_row-requires-clause-may c =
    let old = length-map c.args.table.now (λ (row : Vec ℤ Global). row.items) in
    let now = length-map c.loop-a.table (λ (row : Vec ℤ Global). row.items) in
    let long = c.loop-a.invariant.long in
    let low : c.loop-a.a < length (cells_of c.args.table.now) = omega (arith, old, now, long, c.loop-a-test.true) in
    rw (c.loop-a.invariant.rest c.loop-a.a (omega arith))
    (may_take (cells_of c.args.table.now) c.args.via.now c.args.arc c.loop-a.a c.requires.table c.requires.light
    c.requires.none c.requires.via low)

pub loop-a-preserved : goal.loop-a-preserved
loop-a-preserved c =
    let now = length-map c.loop-a.table (λ (row : Vec ℤ Global). row.items) in
    let old = length-map c.args.table.now (λ (row : Vec ℤ Global). row.items) in
    let long = c.loop-a.invariant.long in
    let low : c.loop-a.a < length (cells_of c.loop-a.table) = omega (arith, old, now, long, c.loop-a-test.true) in
    over_more c.args.arc c.args.via.now c.loop-a.a (cells_of c.args.table.now) (cells_of c.loop-a.table)
    (cells_of c.raise_row.new.table) c.raise_row.ensures.0 c.loop-a.invariant low c.raise_row.ensures.1
    c.raise_row.ensures.2

pub returns : goal.returns
returns c =
    let old = length-map c.args.table.now (λ (row : Vec ℤ Global). row.items) in
    let now = length-map c.loop-a.table (λ (row : Vec ℤ Global). row.items) in
    let long = c.loop-a.invariant.long in
    all_over c.args.arc c.args.via.now c.loop-a.a (cells_of c.args.table.now) (cells_of c.loop-a.table) c.requires.table
    c.requires.light c.requires.via c.loop-a.invariant (omega (arith, old, now, long, c.loop-a-test.false))
