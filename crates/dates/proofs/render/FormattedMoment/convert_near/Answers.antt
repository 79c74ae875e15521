-- `convert_near` meets its contract: a string is no longer than its format, so the local array has room for it.
use mathlib.Core.Bool.{true}
use mathlib.Core.List.{List}
use mathlib.Core.Path.{◌≡◌, ap, sym, ◌∙◌}
use Prim.Native.Nat.{ℕ, ◌≤◌}
use native.Mathlib.Omega.{arith}
use lib.ListN.{length, take, replicate}
use lib.Seq.{sets, take_at, length-sets}
use Rattle.std.specs.Prelude.{Ok, Err}
use Rattle.calendar.specs.declared.Moment.{Moment}
use Rattle.paper.specs.Layings.{laying, laid_in, converted_by}
use Rattle.dates.specs.Formats.{layout_of, string}
use Rattle.dates.specs.inner.Steps.{rendered}
use Rattle.dates.proofs.Rendering.{bad_answer, good_answer, told_length, at_start}
use Rattle.dates.proofs.render.FormattedMoment.convert_near.Goals as goal

-- the array before anything is written into it
abbrev empty : List ℕ
empty = replicate 64 0

-- the string in the array
module _
    (m : Moment)
    (format buf after : List ℕ)
    (characters : ℕ)
    (is : rendered m 0 (layout_of format) ≡ Ok characters)
    (short : length format ≤ 64)
    (left : length (string m (layout_of format)) ≤ length empty → after ≡ sets empty 0 (string m (layout_of format))) where
  abbrev text : List ℕ
  text = string m (layout_of format)

  long : (length text ≡ characters) × (characters ≤ length format)
  long = told_length m format buf characters is

  -- the array has room for all of it
  filled : after ≡ sets empty 0 text
  filled = left (omega (arith, long, short))

  as_long : length after ≡ 64
  as_long = ap length filled ∙ length-sets empty 0 text

  taken : (characters ≤ length after) × (length after ≤ 64)
  taken = (omega (arith, as_long, long.1, short), omega (arith, as_long))

  first : take characters after ≡ text
  first = ap (take characters) (filled ∙ at_start text empty characters long.0 (omega (arith, long.1, short))) ∙ take_at text _ characters long.0

pub copy_out-requires : goal.copy_out-requires
copy_out-requires c =
    let a = c.args in
    let told = c.render.ensures in
    taken a.self.now.moment a.self.now.format.now a.buf.now _ _ (sym told.answer ∙ c.in-Ok.is) c.requires told.buffer

pub returns-in-Err : goal.returns-in-Err
returns-in-Err c =
    let a = c.args in
    let t = bad_answer a.self.now.moment a.self.now.format.now a.buf.now _ (sym c.render.ensures.answer ∙ c.in-Err.is) in
    record {
      answer = ap Err c.refused.ensures ∙ t.0;
      buffer = t.1;
    }

pub returns-in-Ok : goal.returns-in-Ok
returns-in-Ok c =
    let a = c.args in
    let told = c.render.ensures in
    let is = sym told.answer ∙ c.in-Ok.is in
    let e = first a.self.now.moment a.self.now.format.now a.buf.now _ _ is c.requires told.buffer in
    let t = good_answer a.self.now.moment a.self.now.format.now a.buf.now _ is _ _ (
      c.copy_out.ensures.answer ∙ ap (λ s. converted_by (laying s true (length a.buf.now))) e,
      c.copy_out.ensures.buffer ∙ ap (λ s. laid_in s true a.buf.now) e,
    ) in
    record {
      answer = t.0;
      buffer = t.1;
    }
