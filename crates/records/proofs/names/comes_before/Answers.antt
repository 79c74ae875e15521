-- `comes_before` meets its contract: each turn has the next two bytes, and after the last the shorter name ends.
use mathlib.Core.Bool.{true, false}
use mathlib.Core.List.{List}
use mathlib.Core.Path.{◌≡◌, ap₂, sym, ◌∙◌}
use Prim.Native.Nat.{ℕ, ◌+◌, ◌<◌}
use lib.Dec.{eqb, ltb}
use lib.ListN.{length, get_or, drop}
use Rattle.std.proofs.lemmas.List.{length_push}
use Rattle.std.proofs.lemmas.Slice.Zip.{zip_turn, zip_end}
use Rattle.records.specs.Records.{small, comes_before}
use Rattle.records.proofs.Order.{shorter_first, before_more, before_here}
use Rattle.records.proofs.names.comes_before.Goals as goal

module _ (a b : List ℕ) (at : ℕ) (h : at < length a) (k : at < length b) {x y : ℕ} (p : x ≡ get_or a at 0) (q : y ≡ get_or b at 0) where
  stopped : eqb (small x) (small y) ≡ false → ltb (small x) (small y) ≡ comes_before (drop at a) (drop at b)
  stopped e = ap₂ (λ u v. ltb (small u) (small v)) p q ∙ sym (before_here a b at h k (sym (ap₂ (λ u v. eqb (small u) (small v)) p q) ∙ e))

  more : (next : ℕ) → next ≡ at + 1 → eqb (small x) (small y) ≡ true → comes_before (drop at a) (drop at b) ≡ comes_before (drop next a) (drop next b)
  more next n e = rw n (before_more a b at h k (sym (ap₂ (λ u v. eqb (small u) (small v)) p q) ∙ e))

pub returns-then-not-is_alike : goal.returns-then-not-is_alike
returns-then-not-is_alike c =
    let t = zip_turn c.args.a.now c.args.b.now c.loop-x.yielded c.into_iter-x-iterator.result c.loop-x.x-iterator c.next.new.self c.next.result (cc) (cc) c.loop-x.yielded_by (c.in-Some.x, c.in-Some.y) c.in-Some.is c.next.ensures.steps in
    ap₂ ltb c.small.ensures c.small-then-not-is_alike.ensures
    ∙ stopped _ _ (length c.loop-x.yielded) t.0 t.1 (t.2 0) (t.3 0) (sym c.is_alike.ensures ∙ c.if-not-is_alike.true) ∙ sym c.loop-x.invariant.2

pub loop-x-preserved : goal.loop-x-preserved
loop-x-preserved c =
    let t = zip_turn c.args.a.now c.args.b.now c.loop-x.yielded c.into_iter-x-iterator.result c.loop-x.x-iterator c.next.new.self c.next.result (cc) (cc) c.loop-x.yielded_by (c.in-Some.x, c.in-Some.y) c.in-Some.is c.next.ensures.steps in (
      (tt, tt),
      tt,
      c.loop-x.invariant.2 ∙ more _ _ (length c.loop-x.yielded) t.0 t.1 (t.2 0) (t.3 0) _ (length_push c.loop-x.yielded _) (sym c.is_alike.ensures ∙ c.if-not-is_alike.false),
    )

pub returns : goal.returns
returns c =
    let e = zip_end c.args.a.now c.args.b.now c.loop-x.yielded c.into_iter-x-iterator.result c.loop-x.x-iterator c.next.new.self c.next.result (cc) (cc) c.loop-x.yielded_by c.in-None.is c.next.ensures.steps in
    sym (c.loop-x.invariant.2 ∙ shorter_first _ _ (length c.loop-x.yielded) e)
