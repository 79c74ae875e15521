-- `run_end` meets its contract: the single bytes, the blocks behind them and the single bytes behind those are stretches, one behind
-- the other, up to a byte that ends the run. Past the text's end stands the zero, which does.
use mathlib.Core.Bool.{Bool, false}
use mathlib.Core.List.{List}
use mathlib.Core.Path.{◌≡◌, ap, ◌∙◌}
use Prim.Native.Nat.{ℕ, ◌≤◌, ◌<◌}
use native.Mathlib.Decide.{dec_lt}
use native.Mathlib.Omega.{arith}
use lib.ListN.{length, get_or, get_or-eq_default}
use Rattle.paper.proofs.Runs.{run_none}
use Rattle.runs.proofs.StretchLaws.{stretch_more, stretch_run}
use Rattle.runs.proofs.search.run_end.Goals as goal

module _ (test : ℕ → Bool) (text : List ℕ) (at : ℕ) (zero_ends : test 0 ≡ false) where
  past_end : length text ≤ at → test (get_or text at 0) ≡ false
  past_end h = ap test (get_or-eq_default text 0 h) ∙ zero_ends

  -- a place that is the text's end, or has a byte that ends a run
  ended : (at < length text → test (get_or text at 0) ≡ false) → test (get_or text at 0) ≡ false
  ended stopped = go (dec_lt at (length text))
    where
      go : Dec (at < length text) → test (get_or text at 0) ≡ false
      go (yes h) = stopped h
      go (no h) = past_end (omega (arith, h))

pub returns-then-text-start : goal.returns-then-text-start
returns-then-text-start g c =
    let a = c.args in
    let test = g.E.Ends.plain_byte a.ends in
    omega (arith, run_none test a.text.now a.start (past_end test a.text.now a.start (g.met.E.Ends.zero_ends a.ends) c.if-text-start.true))

pub returns-then-at-near : goal.returns-then-at-near
returns-then-at-near g c =
    let a = c.args in
    let found = c.bytes_end-at in
    stretch_run (g.E.Ends.plain_byte a.ends) a.text.now a.start found.result found.ensures.run (found.ensures.end.0 c.if-at-near.true)

pub returns : goal.returns
returns g c =
    let a = c.args in
    let test = g.E.Ends.plain_byte a.ends in
    let found = c.bytes_end in
    let more = stretch_more test a.text.now a.start in
    stretch_run test a.text.now a.start found.result (more _ _ (more _ _ c.bytes_end-at.ensures.run c.blocks_end-far.ensures) found.ensures.run)
    (ended test a.text.now found.result (g.met.E.Ends.zero_ends a.ends) found.ensures.end.0)
