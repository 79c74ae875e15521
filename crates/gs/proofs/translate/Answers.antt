-- `translate` meets its contract: 18 for the text, 18 and 13 for the tables, 20 for the index, then the reading.
use mathlib.Core.Bool.{Bool}
use mathlib.Core.Path.{◌≡◌, refl, ap, sym, subst, ◌∙◌}
use mathlib.Core.List.{List}
use Prim.Native.Nat.{ℕ, ◌≤◌}
use lib.ListN.{length}
use Rattle.paper.specs.Refusals.{longest}
use Rattle.paper.specs.Traces.{bytes, answer, allowed}
use Rattle.indexes.specs.Indexes.{Given, given_as, fits}
use Rattle.lookups.specs.inner.Through.{to_lay, lines_of, judged_by as judged_over, Leads}
use Rattle.lookups.specs.declared.NotGood.{NotGood}
use Rattle.lookups.specs.declared.NotGood.TheVariants.{Table, Index}
use Rattle.std.proofs.Common.{rules}
use Rattle.std.proofs.lemmas.Result.{err_from_is_err_and}
use Rattle.gs.specs.inner.Steps.{not_good}
use Rattle.gs.proofs.Mapped.{ok_before, err_before}
use Rattle.lookups.proofs.Judging.{ready, refused_table, refused_index}
use Rattle.gs.specs.Translations.{Translation, reading_of, translated_by, translated_over, left_by, translated, out_after}
use Rattle.variables.proofs.Bounds.{all_bytes}
use Rattle.gs.proofs.Pieces.{value_small}
use Rattle.gs.proofs.Orders.{too_long, over}
use Rattle.variables.specs.Judgements.{judged, judged_by}
use Rattle.std.specs.Prelude.{Result, Err}
use Rattle.paper.specs.declared.refusals.BadTableOf.{BadTableOf}
use Rattle.variables.proofs.KeysFind.{keys_long, lines_inside, all_lines}
use Rattle.std.specs.Prelude.{Err}
use Rattle.gs.proofs.translate.Goals as goal

module _ (text farm house : List ℕ) (given : Given) (flags allowance : ℕ) (out : List ℕ) where
  -- what is left in the buffer goes by the answer
  left_by_lem : (r : Translation) → r ≡ translated text farm house given flags allowance (length out)
      → left_by r (bytes (reading_of text farm house flags)) out ≡ out_after text farm house given flags allowance out
  unfolding out_after
  left_by_lem r e = ap (λ r. left_by r (bytes (reading_of text farm house flags)) out) e

  -- what the filling answers under the allowance that counts, and what it leaves
  filled : (r : Translation) (after : List ℕ) (left : ℕ)
      → r ≡ translated_by (answer (reading_of text farm house flags) left (length out)) → left ≡ allowed allowance
      → translated_by (answer (reading_of text farm house flags) (allowed allowance) (length out)) ≡ translated text farm house given flags allowance (length out)
      → after ≡ left_by r (bytes (reading_of text farm house flags)) out
      → (r ≡ translated text farm house given flags allowance (length out)) × (after ≡ out_after text farm house given flags allowance out)
  filled r after left answers capped is leaves =
      let e = answers ∙ ap (λ n. translated_by (answer (reading_of text farm house flags) n (length out))) capped ∙ is in
      (e, leaves ∙ left_by_lem r e)

pub returns-then-text-gt-LONGEST : goal.returns-then-text-gt-LONGEST
returns-then-text-gt-LONGEST c =
    let a = c.args in
    let given = given_as a.index in
    let e = too_long a.text.now a.tables.now.farm.now a.tables.now.house.now given a.flags.0 a.allowance (length a.out.now) c.if-text-gt-LONGEST.true in record {
      answer = e;
      buffer = left_by_lem a.text.now a.tables.now.farm.now a.tables.now.house.now given a.flags.0 a.allowance a.out.now _ e;
    }

-- where the tables and the index are judged: an answer by what was judged is the one that is defined
by_judgement :
    (text farm house : List ℕ) (given : Given) (flags allowance room : ℕ) (short : length text ≤ longest) {k : Result ℕ BadTableOf} {fit : Bool}
    → judged farm house ≡ k → fits given house ≡ fit
    → translated_over (judged_by k) fit (reading_of text farm house flags) allowance room ≡ translated text farm house given flags allowance room
by_judgement text farm house given flags allowance room short {k} e f =
    ap (λ fit. translated_over (judged_by k) fit (reading_of text farm house flags) allowance room) (sym f)
    ∙ over text farm house given flags allowance room k short e

-- where they are not good, that is the answer
by_refusal : (text farm house : List ℕ) (given : Given) (flags allowance room : ℕ) → length text ≤ longest → (why : NotGood)
    → judged_over (judged farm house) (fits given house) (lines_of (judged farm (to_lay house given))) ≡ Err why → Err (not_good why room) ≡ translated text farm house given flags allowance room
by_refusal text farm house given flags allowance room short (Table bad) told =
    by_judgement text farm house given flags allowance room short (refused_table farm house given told) refl
by_refusal text farm house given flags allowance room short Index told =
    let refused = refused_index farm house given told in by_judgement text farm house given flags allowance room short refused.1 refused.2

pub slice_bounds-lines-end : goal.slice_bounds-lines-end
slice_bounds-lines-end c =
    let a = c.args in
    keys_long a.tables.now.farm.now (to_lay a.tables.now.house.now (given_as a.index)) _ _ c.judge.ensures.keys refl

pub slice_bounds-names-end : goal.slice_bounds-names-end
slice_bounds-names-end c =
    let a = c.args in
    let given = given_as a.index in
    let told = ok_before _ c.judge.result _ _ c.map_err.ensures.cases c.in_ok-count.was in
    let r = ready a.tables.now.farm.now a.tables.now.house.now given (sym c.judge.ensures.answer ∙ told) in
    lines_inside a.tables.now.farm.now (to_lay a.tables.now.house.now given) _ c.judge.ensures.keys r.lined

pub invariant_of-names : goal.invariant_of-names
invariant_of-names c =
    let a = c.args in
    let given = given_as a.index in
    let told = ok_before _ c.judge.result _ _ c.map_err.ensures.cases c.in_ok-count.was in
    let r = ready a.tables.now.farm.now a.tables.now.house.now given (sym c.judge.ensures.answer ∙ told) in
    let keys = all_lines a.tables.now.farm.now (to_lay a.tables.now.house.now given) _ c.judge.ensures.keys r.lined in
    record {
      leads = subst (Leads a.tables.now.farm.now a.tables.now.house.now _) (sym c.bytes_given.ensures) (r.leads keys);
      short = value_small a.tables.now.farm.now a.tables.now.house.now (all_bytes a.tables.now.farm.now a.tables.now.house.now c.are_bytes.ensures c.are_bytes-2.ensures);
    }

pub fill-requires : goal.fill-requires
fill-requires c = (c.if-text-gt-LONGEST.false, c.cap.ensures.1)

pub returns-in_err-count : goal.returns-in_err-count
returns-in_err-count c =
    let a = c.args in
    let given = given_as a.index in
    let p = err_from_is_err_and c.from_residual.result c.from_residual.ensures.1 in
    let b = err_before _ c.judge.result _ _ c.map_err.ensures.cases c.in_err-count.was in
    let w : c.in_err-count.field-0.0 ≡ not_good b.0 (length a.out.now) = search (rules, b.2) in
    let e = by_refusal a.text.now a.tables.now.farm.now a.tables.now.house.now given a.flags.0 a.allowance (length a.out.now) c.if-text-gt-LONGEST.false b.0 (sym c.judge.ensures.answer ∙ b.1) in
    rw (p.1, p.2, w) record {
      answer = e;
      buffer = left_by_lem a.text.now a.tables.now.farm.now a.tables.now.house.now given a.flags.0 a.allowance a.out.now _ e;
    }

pub returns : goal.returns
returns c =
    let a = c.args in
    let given = given_as a.index in
    let told = ok_before _ c.judge.result _ _ c.map_err.ensures.cases c.in_ok-count.was in
    let r = ready a.tables.now.farm.now a.tables.now.house.now given (sym c.judge.ensures.answer ∙ told) in
    let is = by_judgement a.text.now a.tables.now.farm.now a.tables.now.house.now given a.flags.0 a.allowance (length a.out.now) c.if-text-gt-LONGEST.false r.good r.fit in
    let both = filled a.text.now a.tables.now.farm.now a.tables.now.house.now given a.flags.0 a.allowance a.out.now _ _ _ c.fill.ensures.answer c.cap.ensures.0 is c.fill.ensures.buffer in
    record { answer = both.0; buffer = both.1 }
