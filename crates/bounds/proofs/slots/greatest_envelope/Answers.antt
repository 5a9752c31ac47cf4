use Rattle.std.proofs.Common.{◌≡◌, ◌∙◌, ◌-◌, subst, ℕ, ◌+◌, ◌*◌, ◌<◌, max, List, length, take, get_or, slice_index_or, arith}
use Rattle.std.proofs.lemmas.List.{take_all, get_or_default}
use Rattle.bounds.specs.Loads.{IsSmall, IsAbove, Load}
use Rattle.bounds.proofs.LateWork.{ord_max-max, product_small, reached_small, line_long, line_rises}
use Rattle.bounds.proofs.Fills.{Filled, AreOnLine, IsNext, IsStep, filled_start, filled_more, filled_small, width_enough, own_small}
use Rattle.bounds.proofs.slots.greatest_envelope.Goals as goal
use Rattle.bounds.proofs.slots.greatest_envelope.Goals.{After-fill-last, After-max-filled}

abbrev none : Load
none = record { head = 0; rank = 0; work = 0 }

pub list_widths-requires-clause-rising : goal.list_widths-requires-clause-rising
list_widths-requires-clause-rising c =
    line_rises c.args.capacity c.args.tails.now c.list_marks.new.line c.list_marks.ensures c.requires.capacity c.requires.tails c.requires.rising

pub loop-load-init : goal.loop-load-init
loop-load-init c =
    let line : List ℕ = c.list_marks.new.line in
    let widths : List ℕ = c.list_widths.new.widths in
    let long : length line ≡ length c.args.tails.now + 1 = line_long c.args.capacity c.args.tails.now line c.list_marks.ensures in
    filled_start c.args.capacity c.args.tails.now c.args.loads.now line widths
    (line_rises c.args.capacity c.args.tails.now line c.list_marks.ensures c.requires.capacity c.requires.tails
    c.requires.rising) long (omega arith) c.list_widths.ensures

pub fill-last-requires-clause-enough : goal.fill-last-requires-clause-enough
fill-last-requires-clause-enough c =
    let i : ℕ = c.loop-load.load-index in
    let x : Load = slice_index_or c.args.loads.now i none in
    let lt : i < length c.args.loads.now = omega arith in
    let small : IsSmall c.args.tails.now x = c.requires.loads.small i none lt in
    let on : AreOnLine c.args.capacity c.args.tails.now c.args.loads.now c.list_marks.new.line =
    record {
      are = c.requires.loads;
      few = c.requires.capacity;
      low = c.requires.tails;
      rising = c.requires.rising;
      is = c.list_marks.ensures;
    } in
    width_enough c.args.capacity c.args.tails.now c.args.loads.now c.list_marks.new.line i c.loop-load.widths
    c.loop-load.filled c.loop-load.greatest x on small c.loop-load.invariant

-- the next load fills slots
step : (c : After-fill-last) → IsStep c.args.capacity c.args.tails.now c.args.loads.now c.list_marks.new.line
    c.loop-load.load-index c.loop-load.widths c.fill-last.new.widths c.loop-load.filled c.loop-load.greatest
    (slice_index_or c.args.loads.now c.loop-load.load-index none) c.fill-last.result
step c =
    let i : ℕ = c.loop-load.load-index in
    let x : Load = slice_index_or c.args.loads.now i none in
    let lt : i < length c.args.loads.now = omega arith in
    let on : AreOnLine c.args.capacity c.args.tails.now c.args.loads.now c.list_marks.new.line =
    record {
      are = c.requires.loads;
      few = c.requires.capacity;
      low = c.requires.tails;
      rising = c.requires.rising;
      is = c.list_marks.ensures;
    } in
    let next : IsNext c.args.capacity c.args.tails.now c.args.loads.now c.list_marks.new.line i c.loop-load.widths c.loop-load.filled c.loop-load.greatest x =
    record { on = on; was = c.loop-load.invariant; inside = lt; at = get_or_default c.args.loads.now i none x lt; small = c.requires.loads.small i none lt } in
    record { next = next; fills = c.fill-last.ensures }

pub overflow_sub-end : goal.overflow_sub-end
overflow_sub-end c =
    own_small c.args.capacity c.args.tails.now c.args.loads.now c.list_marks.new.line c.loop-load.load-index
    c.loop-load.widths c.fill-last.new.widths c.loop-load.filled c.loop-load.greatest
    (slice_index_or c.args.loads.now c.loop-load.load-index none) c.fill-last.result (step (goal.at.overflow_sub-end c).After-fill-last)

more : (c : After-max-filled) → IsStep c.args.capacity c.args.tails.now c.args.loads.now c.list_marks.new.line
    c.loop-load.load-index c.loop-load.widths c.fill-last.new.widths c.loop-load.filled c.loop-load.greatest
    (slice_index_or c.args.loads.now c.loop-load.load-index none) c.fill-last.result →
    let x : Load = slice_index_or c.args.loads.now c.loop-load.load-index none in
    let filled : ℕ = c.max-filled.result in
    Filled c.args.capacity c.args.tails.now c.args.loads.now c.list_marks.new.line (c.loop-load.load-index + 1)
    c.fill-last.new.widths filled (max c.loop-load.greatest (c.args.capacity * x.head + filled))
more c s =
    let x : Load = slice_index_or c.args.loads.now c.loop-load.load-index none in
    let end : ℕ = get_or c.list_marks.new.line (c.fill-last.result + 1) 0 - get_or c.fill-last.new.widths c.fill-last.result 0 in
    let filled_is : c.max-filled.result ≡ max c.loop-load.filled end = c.max-filled.ensures ∙ ord_max-max c.loop-load.filled end in
    let under = own_small c.args.capacity c.args.tails.now c.args.loads.now c.list_marks.new.line c.loop-load.load-index
    c.loop-load.widths c.fill-last.new.widths c.loop-load.filled c.loop-load.greatest x c.fill-last.result s in
    rw filled_is (filled_more c.args.capacity c.args.tails.now c.args.loads.now c.list_marks.new.line
    c.loop-load.load-index c.loop-load.widths c.fill-last.new.widths c.loop-load.filled c.loop-load.greatest x
    c.fill-last.result end s (omega arith))

pub overflow_add-capacity : goal.overflow_add-capacity
overflow_add-capacity c =
    let i : ℕ = c.loop-load.load-index in
    let x : Load = slice_index_or c.args.loads.now i none in
    let lt : i < length c.args.loads.now = omega arith in
    let small : IsSmall c.args.tails.now x = c.requires.loads.small i none lt in
    let on : AreOnLine c.args.capacity c.args.tails.now c.args.loads.now c.list_marks.new.line =
    record {
      are = c.requires.loads;
      few = c.requires.capacity;
      low = c.requires.tails;
      rising = c.requires.rising;
      is = c.list_marks.ensures;
    } in
    let limit = filled_small c.args.capacity c.args.tails.now c.args.loads.now c.list_marks.new.line (i + 1)
    c.fill-last.new.widths c.max-filled.result
    (max c.loop-load.greatest (c.args.capacity * x.head + c.max-filled.result)) on (omega arith)
    (more (goal.at.overflow_add-capacity c).After-max-filled
    (step (goal.at.overflow_add-capacity c).After-fill-last)) in
    omega (arith, limit, product_small c.args.capacity x.head c.requires.capacity small.head_limit)

pub loop-load-preserved : goal.loop-load-preserved
loop-load-preserved c =
    let x : Load = slice_index_or c.args.loads.now c.loop-load.load-index none in
    let value : ℕ = c.args.capacity * x.head + c.max-filled.result in
    let greatest_is : c.max-greatest.result ≡ max c.loop-load.greatest value = c.max-greatest.ensures ∙ ord_max-max c.loop-load.greatest value in
    rw greatest_is (more (goal.at.loop-load-preserved c).After-max-filled (step (goal.at.loop-load-preserved c).After-fill-last))

pub returns-clause-greatest : goal.returns-clause-greatest
returns-clause-greatest c =
    let all : take c.loop-load.load-index c.args.loads.now ≡ c.args.loads.now = take_all c.loop-load.load-index c.args.loads.now (omega arith) in
    record {
      reached = c.loop-load.invariant.reached;
      above = subst (λ (xs : List Load). IsAbove c.args.capacity c.args.tails.now xs c.loop-load.greatest) all c.loop-load.invariant.above;
    }

pub returns-clause-limit : goal.returns-clause-limit
returns-clause-limit c = reached_small c.args.capacity c.args.tails.now c.args.loads.now c.loop-load.greatest
    c.requires.loads c.requires.capacity c.requires.tails c.loop-load.invariant.reached
