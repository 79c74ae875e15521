-- `word_at` meets its contract: the word ends inside the text.
use native.Mathlib.Omega.{arith}
use Rattle.paper.specs.Bytes.{word_byte}
use Rattle.paper.proofs.Runs.{passed_within}
use Rattle.tokens.proofs.word_at.Goals as goal

pub slice_bounds-word_token-end : goal.slice_bounds-word_token-end
slice_bounds-word_token-end c = let h = c.args.here.now in omega (arith, passed_within word_byte h.text.now h.at h.within)
