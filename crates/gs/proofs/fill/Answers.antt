-- `fill` meets its contract: the measuring pass decides, and the writing pass goes the same way with all of it fitting.
use mathlib.Core.Path.{◌≡◌, ap, sym, subst, ◌∙◌}
use mathlib.Core.List.{[], ◌++◌}
use Prim.Native.Nat.{◌-◌, ◌≤◌, ◌<◌}
use lib.ListN.{length, drop}
use Rattle.std.specs.Prelude.{Ok}
use Rattle.std.proofs.Common.{rules}
use Rattle.std.proofs.lemmas.Result.{err_from_is_err_and}
use Rattle.paper.specs.declared.refusals.Refusal.TheVariants.{NoRoom}
use Rattle.paper.specs.Traces.{bytes}
use Rattle.gs.specs.Translations.{reading_of, refused_at}
use Rattle.gs.specs.inner.Steps.{Read}
use Rattle.gs.specs.declared.NotTranslated.TheVariants.{Refused}
use Rattle.gs.proofs.Mapped.{ok_before, err_before}
use Rattle.gs.proofs.Fills.{nothing_lent, measured_long, measured_end, measured_refused, written, refused_answer, short_answer, whole_answer}
use Rattle.gs.proofs.fill.Goals as goal

pub returns-then-room-need : goal.returns-then-room-need
returns-then-room-need c =
    let a = c.args in
    let t = reading_of a.text.now a.names.now.tables.farm.now a.names.now.tables.house.now a.flags.0 in
    let first = c.expand in
    let back = nothing_lent first.new.out a.out.now (measured_long t (length a.text.now) a.left [] _ _ first.ensures) in
    let b = ok_before _ c.expand.result _ _ c.map_err.ensures.cases c.in_ok-measured.was in
    let m = measured_end t (length a.text.now) a.left [] _ _ _ first.ensures b in
    let short = subst (λ n. length a.out.now < n) m.1 c.if-room-need.true in record {
      answer = ap (λ n. refused_at NoRoom 0 n (length a.out.now)) m.1 ∙ short_answer t a.left _ _ (length a.out.now) m.0 short;
      buffer = back;
    }

pub returns-in_err-measured : goal.returns-in_err-measured
returns-in_err-measured c =
    let a = c.args in
    let t = reading_of a.text.now a.names.now.tables.farm.now a.names.now.tables.house.now a.flags.0 in
    let first = c.expand in
    let back = nothing_lent first.new.out a.out.now (measured_long t (length a.text.now) a.left [] _ _ first.ensures) in
    let p = err_from_is_err_and c.from_residual.result c.from_residual.ensures.1 in
    let b = err_before _ c.expand.result _ _ c.map_err.ensures.cases c.in_err-measured.was in
    let w : c.in_err-measured.field-0.0 ≡ Refused b.0.why b.0.at 0 (length a.out.now) = search (rules, b.2) in
    let m = measured_refused t (length a.text.now) a.left [] _ _ _ first.ensures b.1 in
    rw (p.1, p.2, w) record { answer = refused_answer t a.left b.0 (length a.out.now) m; buffer = back }

pub returns : goal.returns
returns c =
    let a = c.args in
    let t = reading_of a.text.now a.names.now.tables.farm.now a.names.now.tables.house.now a.flags.0 in
    let first = c.expand in
    let back = nothing_lent first.new.out a.out.now (measured_long t (length a.text.now) a.left [] _ _ first.ensures) in
    let b = ok_before _ c.expand.result _ _ c.map_err.ensures.cases c.in_ok-measured.was in
    let m = measured_end t (length a.text.now) a.left [] _ _ _ first.ensures b in
    let e = c.in_ok-measured.measured in
    let fits = subst (λ n. n ≤ length a.out.now) m.1 c.if-room-need.false in
    let second = subst (λ o. Read t (length a.text.now) a.left 0 o c.expand-2.new.out c.expand-2.result) back c.expand-2.ensures in record {
      answer = ap (λ n. Ok (record { end = e.end; need = n; free = length a.out.now - n })) m.1 ∙ whole_answer t a.left e.end.0 _ (length a.out.now) m.0 fits;
      buffer = written t (length a.text.now) a.left a.out.now _ _ _ _ second m.0 fits ∙ ap (λ n. bytes t ++ drop n a.out.now) (sym m.1);
    }
