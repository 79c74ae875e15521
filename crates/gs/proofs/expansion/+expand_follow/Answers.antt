-- `expand`, `follow` and `spell` meet their contracts: a level of a text calls a reference, that a macro's value, and this a level deeper.
use mathlib.Core.Path.{◌≡◌, sym, subst, ◌∙◌}
use mathlib.Core.Bool.{Bool}
use mathlib.Core.List.{List}
use Prim.Native.Nat.{ℕ, ◌+◌, ◌-◌}
use native.Mathlib.Omega.{arith}
use lib.ListN.{length, take, drop}
use Rattle.variables.specs.Names.{Meaning, names_of}
use Rattle.paper.specs.Bytes.{run_of}
use Rattle.runs.specs.Plain.{plain_byte, also_ends}
use Rattle.runs.specs.Output.{laid_at}
use Rattle.runs.specs.inner.Stretches.{Stretch}
use Rattle.runs.proofs.StretchLaws.{run_stretch}
use Rattle.references.specs.References.{referred_in}
use Rattle.references.specs.declared.Referred.{Referred}
use Rattle.symbols.specs.Symbols.{symbol_at, ending_space}
use Rattle.symbols.specs.declared.forms.Mode.{Mode}
use Rattle.symbols.specs.declared.forms.Symbol.{Symbol}
use Rattle.symbols.proofs.Places.{Stands, quote_of, symbol_stands}
use Rattle.gs.specs.Readings.{Expand, expands}
use Rattle.gs.specs.inner.Steps.{Came, piece_of}
use Rattle.std.specs.Prelude.{Result}
use Rattle.std.proofs.lemmas.Result.{err_from_is_err_and}
use Rattle.paper.specs.declared.refusals.Refused.{Refused}
use Rattle.gs.specs.declared.steps.Carried.{Carried}
use Rattle.gs.proofs.Pieces.{laid_at_lem}
use Rattle.gs.proofs.PlainRuns.{at_run}
use Rattle.gs.proofs.Follows.{text_gives, integer_gives, too_deep_gives, spent_gives, value_gives, macro_gives, part_short}
use Rattle.std.proofs.Common.{rules}
use Rattle.gs.proofs.Mapped.{ok_before, err_before}
use Rattle.gs.proofs.Walk.{Walk, start, at_end, at_faulty, at_byte, at_reference, at_refused, came_through, came_to_refusal}
use Rattle.gs.proofs.expansion.+expand_follow.Goals as goal

-- the walk behind a run of bytes that stand for themselves
module _ {names : List ℕ → Meaning} {expand : Expand} {text : List ℕ} {flags left to : ℕ} {out : List ℕ} {mode : Mode} {after : List ℕ} {here far rest : ℕ}
    (w : Walk names expand text flags left to out mode after here far rest) {spaces : Bool} {stop : ℕ} (e : spaces ≡ ending_space flags mode 32)
    (run : stop ≡ here + run_of (plain_byte (also_ends spaces)) (drop here text)) where
  -- what the run passes over is a stretch of plain bytes
  stretch : Stretch (plain_byte (also_ends spaces)) text here stop
  stretch = let test = plain_byte (also_ends spaces) in subst (Stretch test text here) (sym run) (run_stretch test text here w.inside)

  -- a symbol stands behind it
  stands : {r : Symbol} → r ≡ symbol_at text flags mode stop → (s : Symbol) → r ≡ s → Stands (length text) stop (quote_of mode) s
  stands is s e = symbol_stands text flags mode stop stretch.inside (sym is ∙ e)

  passed : {after' : List ℕ} → after' ≡ laid_at after far (take (stop - here) (drop here text))
      → Walk names expand text flags left to out mode after' stop (far + (stop - here)) rest
  passed {after'} copied = at_run names expand text flags left to out mode after after' here far rest stop spaces w e stretch (laid_at_lem _ _ _ _ copied)

pub expand-loop-end-init : goal.expand-loop-end-init
expand-loop-end-init t c =
    let a = c.args in
    let names = names_of a.names.now.tables.farm.now a.names.now.tables.house.now in
    start names (expands names a.levels) a.text.now a.flags.0 a.carried.left a.carried.to a.out.now c.open-first.result.mode
    c.open-first.result.at c.open-first.ensures.0 c.open-first.ensures.1

pub expand-slice_bounds-copy-end : goal.expand-slice_bounds-copy-end
expand-slice_bounds-copy-end t c =
    let run = stretch c.loop-end.invariant c.is_ending_space-spaces_end.ensures c.plain_end-run_end.ensures in
    omega (arith, run.forward, run.inside)

pub expand-returns-in-End : goal.expand-returns-in-End
expand-returns-in-End t c =
    let w = passed c.loop-end.invariant c.is_ending_space-spaces_end.ensures c.plain_end-run_end.ensures c.copy.ensures in
    at_end _ _ _ _ _ _ _ _ _ _ _ _ c.in-End.end w (sym c.symbol_at-symbol.ensures ∙ c.in-End.is)

pub expand-returns-in-Faulty : goal.expand-returns-in-Faulty
expand-returns-in-Faulty t c =
    let w = passed c.loop-end.invariant c.is_ending_space-spaces_end.ensures c.plain_end-run_end.ensures c.copy.ensures in
    rw c.from.ensures
    (at_faulty _ _ _ _ _ _ _ _ _ _ _ _ c.in-Faulty.fault c.in-Faulty.at w (sym c.symbol_at-symbol.ensures ∙ c.in-Faulty.is))

pub expand-loop-end-smaller-in-Byte : goal.expand-loop-end-smaller-in-Byte
expand-loop-end-smaller-in-Byte t c =
    let byte = stands c.loop-end.invariant c.is_ending_space-spaces_end.ensures c.plain_end-run_end.ensures c.symbol_at-symbol.ensures _ c.in-Byte.is in
    omega (arith, byte.forward, byte.within, (stretch c.loop-end.invariant c.is_ending_space-spaces_end.ensures c.plain_end-run_end.ensures).forward)

pub expand-loop-end-preserved-in-Byte : goal.expand-loop-end-preserved-in-Byte
expand-loop-end-preserved-in-Byte t c =
    let w = passed c.loop-end.invariant c.is_ending_space-spaces_end.ensures c.plain_end-run_end.ensures c.copy.ensures in
    let byte = stands c.loop-end.invariant c.is_ending_space-spaces_end.ensures c.plain_end-run_end.ensures c.symbol_at-symbol.ensures _ c.in-Byte.is in
    at_byte _ _ _ _ _ _ _ _ _ _ _ _ c.in-Byte.byte c.in-Byte.next _ w (sym c.symbol_at-symbol.ensures ∙ c.in-Byte.is) byte.forward byte.within (laid_at_lem _ _ _ _ c.put.ensures)

pub expand-slice_bounds-referred-count : goal.expand-slice_bounds-referred-count
expand-slice_bounds-referred-count t c =
    let s = stands c.loop-end.invariant c.is_ending_space-spaces_end.ensures c.plain_end-run_end.ensures c.symbol_at-symbol.ensures _ c.in-Reference.is in
    omega (arith, s.long)

pub expand-slice_bounds-referred-start : goal.expand-slice_bounds-referred-start
expand-slice_bounds-referred-start t c =
    let s = stands c.loop-end.invariant c.is_ending_space-spaces_end.ensures c.plain_end-run_end.ensures c.symbol_at-symbol.ensures _ c.in-Reference.is in
    omega (arith, s.long, s.behind, s.within)

pub expand-slice_bounds-referred-end : goal.expand-slice_bounds-referred-end
expand-slice_bounds-referred-end t c =
    let s = stands c.loop-end.invariant c.is_ending_space-spaces_end.ensures c.plain_end-run_end.ensures c.symbol_at-symbol.ensures _ c.in-Reference.is in
    omega (arith, s.long, s.behind, s.within)

pub expand-follow-requires : goal.expand-follow-requires
expand-follow-requires t c =
    let w = passed c.loop-end.invariant c.is_ending_space-spaces_end.ensures c.plain_end-run_end.ensures c.copy.ensures in
    (omega arith, (omega (arith, c.requires.1, w.place, w.small, w.inside), c.referred-referred.ensures.short))

pub expand-loop-end-smaller : goal.expand-loop-end-smaller
expand-loop-end-smaller t c =
    let s = stands c.loop-end.invariant c.is_ending_space-spaces_end.ensures c.plain_end-run_end.ensures c.symbol_at-symbol.ensures _ c.in-Reference.is in
    omega (arith, s.begins, s.long, s.behind, s.within, (stretch c.loop-end.invariant c.is_ending_space-spaces_end.ensures c.plain_end-run_end.ensures).forward)

-- how far a reference came, by what its content stands for
named : (farm house name : List ℕ) (r : Referred) → r ≡ referred_in farm house name → (expand : Expand) (place left to : ℕ) (out after : List ℕ) (p : Result Carried Refused)
    → Came (piece_of farm house expand r name place) left to out after p → Came (piece_of farm house expand (referred_in farm house name) name place) left to out after p
named farm house name r e expand place left to out after p = subst (λ r. Came (piece_of farm house expand r name place) left to out after p) e

pub expand-loop-end-preserved : goal.expand-loop-end-preserved
expand-loop-end-preserved t c =
    let a = c.args in
    let w = passed c.loop-end.invariant c.is_ending_space-spaces_end.ensures c.plain_end-run_end.ensures c.copy.ensures in
    let s = stands c.loop-end.invariant c.is_ending_space-spaces_end.ensures c.plain_end-run_end.ensures c.symbol_at-symbol.ensures _ c.in-Reference.is in
    let r = c.in-Reference in
    let name = take (r.end - r.start) (drop r.start a.text.now) in
    at_reference _ _ _ _ _ _ _ _ _ _ _ _ _ r.start r.end r.next w (sym c.symbol_at-symbol.ensures ∙ r.is) _ _ _
    (omega (arith, s.begins, s.long, s.behind)) s.within
    (came_through _ _ _ _ _ _ _ (named a.names.now.tables.farm.now a.names.now.tables.house.now name _ c.referred-referred.ensures.meaning _ _ _ _ _ _ _ (c.follow.ensures name)) c.in_ok-behind-in-Reference.was)

pub expand-returns-in_err-behind-in-Reference : goal.expand-returns-in_err-behind-in-Reference
expand-returns-in_err-behind-in-Reference t c =
    let a = c.args in
    let w = passed c.loop-end.invariant c.is_ending_space-spaces_end.ensures c.plain_end-run_end.ensures c.copy.ensures in
    let r = c.in-Reference in
    let name = take (r.end - r.start) (drop r.start a.text.now) in
    let both = came_to_refusal _ _ _ _ _ _ _ (named a.names.now.tables.farm.now a.names.now.tables.house.now name _ c.referred-referred.ensures.meaning _ _ _ _ _ _ _ (c.follow.ensures name)) c.in_err-behind-in-Reference.was in
    let p = err_from_is_err_and c.from_residual.result c.from_residual.ensures.1 in
    rw (p.1, p.2)
    (at_refused _ _ _ _ _ _ _ _ _ _ _ _ _ r.start r.end r.next w (sym c.symbol_at-symbol.ensures ∙ r.is) _ _ both.0 both.1)

pub follow-returns-in-Text : goal.follow-returns-in-Text
follow-returns-in-Text t c name =
    let a = c.args in
    text_gives a.names.now.tables.farm.now a.names.now.tables.house.now a.referred name a.carried.left a.at a.carried.to a.out.now _ _ _ _ _ c.in-Text.is c.value_of.ensures (c.give.ensures name)

pub follow-returns-in-Integer : goal.follow-returns-in-Integer
follow-returns-in-Integer t c name =
    let a = c.args in
    integer_gives a.names.now.tables.farm.now a.names.now.tables.house.now a.referred name a.carried.left a.at a.carried.to a.out.now _ _ _ _ _ c.in-Integer.is c.value_of-in-Integer.ensures
    (c.give_integer.ensures name)

pub follow-spell-requires : goal.follow-spell-requires
follow-spell-requires t c =
    let a = c.args in
    (omega arith, (c.requires.0, part_short a.names.now.tables.farm.now a.names.now.tables.house.now _ a.referred _ c.in-Macro.is c.value_of-in-Macro.ensures c.requires.1))

pub follow-returns-in-Macro : goal.follow-returns-in-Macro
follow-returns-in-Macro t c name =
    let a = c.args in
    macro_gives a.names.now.tables.farm.now a.names.now.tables.house.now a.referred name a.carried.left a.at a.carried.to a.out.now _ _ _ _ _ c.in-Macro.is c.value_of-in-Macro.ensures
    (c.spell.ensures name)

pub spell-returns-then-levels-eq0 : goal.spell-returns-then-levels-eq0
spell-returns-then-levels-eq0 t c name =
    let a = c.args in
    too_deep_gives (names_of a.names.now.tables.farm.now a.names.now.tables.house.now) a.levels a.value.now name a.carried.left a.at a.carried.to a.out.now c.if-levels-eq0.true

pub spell-returns-then-carried-eq0 : goal.spell-returns-then-carried-eq0
spell-returns-then-carried-eq0 t c name =
    let a = c.args in
    spent_gives (names_of a.names.now.tables.farm.now a.names.now.tables.house.now) a.levels a.value.now name a.carried.left a.at a.carried.to a.out.now c.if-levels-eq0.false c.if-carried-eq0.true

pub spell-returns-in_err-inner : goal.spell-returns-in_err-inner
spell-returns-in_err-inner t c name =
    let a = c.args in
    let p = err_from_is_err_and c.from_residual.result c.from_residual.ensures.1 in
    let b = err_before _ c.expand.result _ _ c.map_err.ensures.cases c.in_err-inner.was in
    let w : c.in_err-inner.field-0.0 ≡ record { why = b.0.why; at = a.at } = search (rules, b.2) in
    rw (p.1, p.2, w)
    (value_gives (names_of a.names.now.tables.farm.now a.names.now.tables.house.now) a.levels a.value.now name a.carried.left a.at a.carried.to a.out.now _ _ _ _ c.requires.1
    c.if-levels-eq0.false c.if-carried-eq0.false c.none.ensures c.expand.ensures b.1)

pub spell-returns : goal.spell-returns
spell-returns t c name =
    let a = c.args in
    let b = ok_before _ c.expand.result _ _ c.map_err.ensures.cases c.in_ok-inner.was in
    value_gives (names_of a.names.now.tables.farm.now a.names.now.tables.house.now) a.levels a.value.now name a.carried.left a.at a.carried.to a.out.now _ _ _ _ c.requires.1
    c.if-levels-eq0.false c.if-carried-eq0.false c.none.ensures c.expand.ensures b
