-- `render` meets its contract. The loop's invariant: what is still to come from the two places on makes the answer and the buffer whole. The
-- measure is what is left of the format.
use mathlib.Core.List.{List}
use mathlib.Core.Path.{◌≡◌, ap, sym, ◌∙◌}
use Prim.Native.Nat.{ℕ, ◌+◌, ◌≤◌, ◌<◌}
use native.Mathlib.Omega.{arith}
use lib.ListN.{length, drop}
use Rattle.paper.specs.Bytes.{run_of}
use Rattle.paper.proofs.Runs.{passed_within}
use Rattle.runs.specs.Output.{laid_at}
use Rattle.dates.specs.Formats.{piece_at}
use Rattle.dates.specs.inner.Steps.{plain_byte}
use Rattle.dates.specs.declared.pieces.Piece.TheVariants.{Copied}
use Rattle.dates.proofs.Layouts.{copied_inside, percent_inside, shown_inside}
use Rattle.dates.proofs.Rendering.{starts, ends, fails, copied_laid, copied_run, runs_on, percent_laid, field_laid}
use Rattle.dates.proofs.render.FormattedMoment.render.Goals as goal

pub loop-c-init : goal.loop-c-init
loop-c-init c = let a = c.args in starts a.self.now.moment a.self.now.format.now a.out.now

pub piece_at-requires : goal.piece_at-requires
piece_at-requires c = c.args.self.now.short

-- the piece that was found is the definition's
pub returns-in-End : goal.returns-in-End
returns-in-End c =
    let done = ends _ _ _ _ _ _ c.loop-c.invariant (sym c.piece_at.ensures ∙ c.in-End.is) in
    record {
      answer = done.0;
      buffer = done.1;
    }

pub returns-in-Bad : goal.returns-in-Bad
returns-in-Bad c =
    let done = fails _ _ _ _ _ _ c.loop-c.invariant (sym c.piece_at.ensures ∙ c.in-Bad.is) in
    record {
      answer = done.0;
      buffer = done.1;
    }

-- a run of bytes that stand for themselves
some : (format : List ℕ) (at c end : ℕ) → piece_at format at ≡ Copied c → end ≡ at + run_of plain_byte (drop at format) → at < end
some format at c end e is = omega (arith, copied_run format at c e)

within : (format : List ℕ) (at end : ℕ) → at ≤ length format → end ≡ at + run_of plain_byte (drop at format) → end ≤ length format
within format at end inside is = omega (arith, passed_within plain_byte format at inside)

pub slice_bounds-copy-count : goal.slice_bounds-copy-count
slice_bounds-copy-count c = omega (arith, c.plain_end-end.ensures)

pub slice_bounds-copy-start : goal.slice_bounds-copy-start
slice_bounds-copy-start c = omega (arith, c.plain_end-end.ensures)

pub slice_bounds-copy-end : goal.slice_bounds-copy-end
slice_bounds-copy-end c = within _ _ _ c.loop-c.invariant.inside c.plain_end-end.ensures

pub overflow_sub-to : goal.overflow_sub-to
overflow_sub-to c = omega (arith, c.plain_end-end.ensures)

pub overflow_add-to : goal.overflow_add-to
overflow_add-to c =
    record { fits = omega (arith, within _ _ _ c.loop-c.invariant.inside c.plain_end-end.ensures, c.loop-c.invariant.short, c.args.self.now.short) }

pub loop-c-smaller-then-by_runs : goal.loop-c-smaller-then-by_runs
loop-c-smaller-then-by_runs c =
    omega (
      arith,
      some _ _ _ _ (sym c.piece_at.ensures ∙ c.in-Copied.is) c.plain_end-end.ensures,
      within _ _ _ c.loop-c.invariant.inside c.plain_end-end.ensures,
    )

pub loop-c-preserved-then-by_runs : goal.loop-c-preserved-then-by_runs
loop-c-preserved-then-by_runs c =
    runs_on _ _ _ _ _ _ c.loop-c.invariant c.plain_end-end.result c.plain_end-end.ensures _ c.copy.ensures

-- one such byte
pub overflow_add-at : goal.overflow_add-at
overflow_add-at c = record { fits = omega (arith, copied_inside _ _ (sym c.piece_at.ensures ∙ c.in-Copied.is), c.args.self.now.short) }

pub overflow_add-to-else-by_runs : goal.overflow_add-to-else-by_runs
overflow_add-to-else-by_runs c =
    record { fits = omega (arith, copied_inside _ _ (sym c.piece_at.ensures ∙ c.in-Copied.is), c.loop-c.invariant.short, c.args.self.now.short) }

pub loop-c-smaller-else-by_runs : goal.loop-c-smaller-else-by_runs
loop-c-smaller-else-by_runs c = omega (arith, copied_inside _ _ (sym c.piece_at.ensures ∙ c.in-Copied.is))

pub loop-c-preserved-else-by_runs : goal.loop-c-preserved-else-by_runs
loop-c-preserved-else-by_runs c =
    copied_laid _ _ _ _ _ _ c.loop-c.invariant _ _ (sym c.piece_at.ensures ∙ c.in-Copied.is) c.put.ensures

-- two percent signs
pub overflow_add-at-in-Percent : goal.overflow_add-at-in-Percent
overflow_add-at-in-Percent c = record { fits = omega (arith, percent_inside _ _ (sym c.piece_at.ensures ∙ c.in-Percent.is), c.args.self.now.short) }

pub overflow_add-to-in-Percent : goal.overflow_add-to-in-Percent
overflow_add-to-in-Percent c =
    record { fits = omega (arith, percent_inside _ _ (sym c.piece_at.ensures ∙ c.in-Percent.is), c.loop-c.invariant.short, c.args.self.now.short) }

pub loop-c-smaller-in-Percent : goal.loop-c-smaller-in-Percent
loop-c-smaller-in-Percent c = omega (arith, percent_inside _ _ (sym c.piece_at.ensures ∙ c.in-Percent.is))

pub loop-c-preserved-in-Percent : goal.loop-c-preserved-in-Percent
loop-c-preserved-in-Percent c =
    percent_laid _ _ _ _ _ _ c.loop-c.invariant _ (sym c.piece_at.ensures ∙ c.in-Percent.is) c.put-in-Percent.ensures

-- a field
pub shown-requires : goal.shown-requires
shown-requires c = c.args.self.now.counted

pub put_glyphs-to-requires : goal.put_glyphs-to-requires
put_glyphs-to-requires c =
    omega (arith, shown_inside _ _ (sym c.piece_at.ensures ∙ c.in-Shown.is), c.loop-c.invariant.short, c.args.self.now.short)

pub overflow_add-at-in-Shown : goal.overflow_add-at-in-Shown
overflow_add-at-in-Shown c = record { fits = omega (arith, shown_inside _ _ (sym c.piece_at.ensures ∙ c.in-Shown.is), c.args.self.now.short) }

pub loop-c-smaller : goal.loop-c-smaller
loop-c-smaller c = omega (arith, shown_inside _ _ (sym c.piece_at.ensures ∙ c.in-Shown.is))

pub loop-c-preserved : goal.loop-c-preserved
loop-c-preserved c =
    let put = c.put_glyphs-to.ensures in
    field_laid _ _ _ _ _ _ c.loop-c.invariant _ _ (sym c.piece_at.ensures ∙ c.in-Shown.is) _
    (put.buffer ∙ ap (laid_at c.loop-c.out c.loop-c.to) c.shown.ensures)
    (put.behind ∙ ap (λ g. c.loop-c.to + length g) c.shown.ensures)
