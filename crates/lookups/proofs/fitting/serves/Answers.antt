-- `serves` meets its contract: what the two walks tell is whether the table is good and the index fits it.
use mathlib.Core.Bool.{◌||◌, or-false}
use mathlib.Core.Path.{ap, sym, ◌∙◌}
use native.Mathlib.Omega.{arith}
use Rattle.variables.specs.Tables.{records_of}
use Rattle.lookups.specs.inner.Fitting.{starts_one}
use Rattle.lookups.proofs.MarkLaws.{MarksOf}
use Rattle.lookups.proofs.Shapes.{few_so}
use Rattle.lookups.proofs.Served.{none_serves, other_length, told}
use Rattle.lookups.proofs.fitting.serves.Goals as goal

pub returns-in_default : goal.returns-in_default
returns-in_default c = none_serves _ c.args.index.now c.requires c.in_default.ensures.count

pub overflow_mul-count : goal.overflow_mul-count
overflow_mul-count c = omega (arith, few_so _ (sym c.in-Some.ensures.count))

pub returns-then-index-count : goal.returns-then-index-count
returns-then-index-count c = other_length _ c.args.index.now c.requires c.in-Some.ensures.count c.if-index-count.true

pub overflow_cast-count : goal.overflow_cast-count
overflow_cast-count c = omega (arith, few_so _ (sym c.in-Some.ensures.count))

pub returns : goal.returns
returns c =
    let house = c.args.house.now in
    let marks = c.mark_records.new.marks in
    let all : MarksOf (records_of house) marks =
    λ place. c.in-Some.ensures.marks place ∙ ap (λ b. starts_one (records_of house) place || b) (c.none-marks.ensures place) ∙ or-false _ in
    told _ c.args.index.now c.requires c.in-Some.ensures.count _ all c.if-index-count.false
    (λ k. omega (arith, c.type_inv.index k)) c.rises.ensures.0 c.rises.ensures.1
