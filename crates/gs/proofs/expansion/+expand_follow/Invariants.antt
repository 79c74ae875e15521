-- `expand`, `follow` and `spell` end: a level of a text calls a reference, that a macro's value, and this a level deeper.
-- The loop of `expand` walks through its text, symbol by symbol.
use Prim.Native.Nat.{◌+◌, ◌-◌, ◌*◌}
use lib.ListN.{length}
use Rattle.variables.specs.Names.{names_of}
use Rattle.gs.specs.Readings.{expands}
use Rattle.gs.proofs.Walk.{Walk}
use Rattle.gs.proofs.expansion.+expand_follow.Given as goal

abbrev pub decreases-expand : goal.decreases-expand
decreases-expand l = 3 * l.levels + 2

abbrev pub decreases-follow : goal.decreases-follow
decreases-follow l = 3 * l.levels + 1

abbrev pub decreases-spell : goal.decreases-spell
decreases-spell l = 3 * l.levels

abbrev pub invariant-expand-loop-end : goal.invariant-expand-loop-end
invariant-expand-loop-end l =
    let names = names_of l.names.tables.farm.now l.names.tables.house.now in
    Walk names (expands names l.levels) l.text l.flags.0 l.initial.rest l.initial.far l.initial.out l.mode l.out l.here l.far l.rest

abbrev pub decreases-expand-loop-end : goal.decreases-expand-loop-end
decreases-expand-loop-end l = length l.text + 1 - l.here
