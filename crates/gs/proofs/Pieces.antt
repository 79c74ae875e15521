-- Pieces of a reading: what they do to a run, and to the bytes given; and bytes that are laid one behind the other.
use mathlib.Core.Path.{◌≡◌, refl, ap, sym, ◌∙◌}
use mathlib.Core.Bool.{Bool, true, false, cond}
use mathlib.Core.List.{List, [], ◌∷◌, ◌++◌}
use Prim.Native.Nat.{ℕ, suc, ◌+◌, ◌≤◌}
use native.Mathlib.Omega.{arith}
use lib.Dec.{leb, eqb}
use borrow.Author.Tests.{le-leb}
use lib.ListN.{length, length-append}
use lib.Seq.{sets, length-sets}
use Rattle.paper.specs.Refusals.{too_big, over_code}
use Rattle.paper.specs.Traces.{Trace, faults, gives, asks, spends, bytes, run}
use Rattle.paper.specs.declared.faults.Fault.TheVariants as Faults
use Rattle.paper.proofs.Choice.{either}
use Rattle.paper.proofs.Stores.{sets_append}
use Rattle.reader.specs.Reading.{reading, no_limit}
use Rattle.std.specs.Prelude.{Result, Ok, Err}
use Rattle.paper.specs.Refusals.{refusal_number}
use Rattle.paper.specs.declared.refusals.Refused.{Refused}
use Rattle.reader.specs.declared.Number.{Number as Valued}
use Rattle.records.specs.Kinds.{kind_of, variable_at, pattern}
use Rattle.records.specs.declared.Variable.{Variable}
use Rattle.records.specs.declared.kinds.Kind.{Kind}
use Rattle.records.specs.declared.kinds.Kind.TheVariants.{Text, Integer, Macro}
use Rattle.records.proofs.Whole.{own_value}
use Rattle.variables.specs.Holdings.{held_by, Holding, nowhere, held, sought_in_both, part_of}
use Rattle.variables.specs.Names.{value_as, meant, in_reading, names_of}
use Rattle.variables.specs.inner.Keys.{match_as}
use Rattle.variables.proofs.Bounds.{AllBytes}
use Rattle.variables.proofs.Own.{OwnHeld, both_own}
use Rattle.forms.specs.Calls.{decimal_of}
use Rattle.gs.specs.Readings.{Expand, gives_all, name_gives, content_gives}
use Rattle.references.specs.References.{kinded, matched_as, referred_as, referred_in}
use Rattle.runs.specs.Output.{laid_at}
use Rattle.gs.specs.inner.Steps.{Laid, Passes, piece_of, length_in}
use Rattle.references.specs.declared.Referred.{Referred}
use Rattle.references.specs.declared.Referred.TheVariants.{Number, CodeOver255, TooBig}

module _ (rest : Trace) where
  run_all : (bs : List ℕ) (left : ℕ) → run (gives_all bs rest) left ≡ run rest left
  run_all [] left = refl
  run_all (b ∷ bs) left = run_all bs left

  bytes_all : (bs : List ℕ) → bytes (gives_all bs rest) ≡ bs ++ bytes rest
  bytes_all [] = refl
  bytes_all (b ∷ bs) = ap (λ l. b ∷ l) (bytes_all bs)

-- one look-up, and up to 255 bytes for it
pub passes_all : (bs name : List ℕ) (place left : ℕ) → length bs ≤ 255
    → Passes (λ rest. asks name (spends place (gives_all bs rest))) (suc left) left bs
passes_all bs name place left small =
    record { runs = λ rest. run_all rest bs left; gives = λ rest. bytes_all rest bs; small = omega arith }

pub laid_none : (out : List ℕ) (to : ℕ) → Laid out to [] out
laid_none out to = record { long = refl; fits = λ _. refl }

-- what is laid where it fits
pub laid_at_lem : (out given after : List ℕ) (to : ℕ) → after ≡ laid_at out to given → Laid out to given after
laid_at_lem out given after to e =
    record {
      long = ap length e ∙ either (λ l. length l ≡ length out) (leb (to + length given) (length out)) (λ _. length-sets out to given) (λ _. refl);
      fits = λ h. e ∙ ap (λ b. cond b (sets out to given) out) (le-leb (to + length given) (length out) h);
    }

pub laid_more : (out xs ys middle after : List ℕ) (to : ℕ) → Laid out to xs middle → Laid middle (to + length xs) ys after → Laid out to (xs ++ ys) after
laid_more out xs ys middle after to first second =
    record {
      long = second.long ∙ first.long;
      fits = λ h.
          let whole : to + length xs + length ys ≤ length out = omega (arith, length-append xs ys) in
          second.fits (omega (arith, first.long))
          ∙ ap (λ l. sets l (to + length xs) ys) (first.fits (omega arith))
          ∙ sym (sets_append xs ys out to);
    }

-- what a name means in two tables, and the record that a look-up hands out for it
abbrev handed : List ℕ → List ℕ → Holding → Referred
handed farm house h = matched_as (match_as farm house h)

module _ (farm house name : List ℕ) (expand : Expand) (place : ℕ) (rest : Trace) where
  name_piece : (h : Holding) → OwnHeld farm house h
      → asks name (name_gives expand (in_reading h) name place rest) ≡ piece_of farm house expand (handed farm house h) name place rest
  unfolding name_gives piece_of meant
  name_piece nowhere o = refl
  name_piece (held holder e) o = kinds (kind_of e.kind)
    where
      v : Variable
      v = variable_at holder (held_by holder farm house) e

      part : e.value ≡ part_of farm house v
      part = own_value holder (held_by holder farm house) e (o.own holder e refl)

      kinds : (k : Kind)
          → asks name (name_gives expand (value_as k e.value) name place rest)
          ≡ piece_of farm house expand (kinded k v) name place rest
      kinds Text = ap (λ v. asks name (spends place (gives_all v rest))) part
      kinds Integer = ap (λ v. asks name (spends place (gives_all (decimal_of (pattern v)) rest))) part
      kinds Macro = ap (λ v. asks name (expand name place v rest)) part

  read_piece : (r : Result Valued Refused) (h : Holding) → OwnHeld farm house h → names_of farm house name ≡ in_reading h
      → content_gives (names_of farm house) expand r name place rest ≡ piece_of farm house expand (referred_as r (handed farm house h)) name place rest
  unfolding content_gives piece_of
  read_piece (Ok n) h o e = over (over_code n.value)
    where
      over : (b : Bool)
          → cond b (faults Faults.CodeOver255 place) (gives n.value rest) ≡ piece_of farm house expand (cond b CodeOver255 (Number n.value)) name place rest
      over true = refl
      over false = refl
  read_piece (Err r) h o e = big (eqb (refusal_number r.why) too_big)
    where
      big : (b : Bool)
          → cond b (faults Faults.TooBig place) (asks name (name_gives expand (names_of farm house name) name place rest))
          ≡ piece_of farm house expand (cond b TooBig (handed farm house h)) name place rest
      big true = refl
      big false = ap (λ n. asks name (name_gives expand n name place rest)) e ∙ name_piece h o

  -- the piece that a reference's content makes is the piece of what it stands for
  pub content_piece : content_gives (names_of farm house) expand (reading name true no_limit) name place rest
      ≡ piece_of farm house expand (referred_in farm house name) name place rest
  unfolding referred_in
  content_piece = read_piece (reading name true no_limit) (sought_in_both farm house name) (both_own farm house name) refl

-- a value's length is one byte of its record
module _ (farm house : List ℕ) (bytes : AllBytes farm house) where
  kind_small : (k : Kind) (v : Variable) → v.length ≤ 255 → length_in (kinded k v) ≤ 255
  kind_small Text v h = h
  kind_small Integer v h = h
  kind_small Macro v h = h

  variable_small : (h : Holding) → length_in (handed farm house h) ≤ 255
  variable_small nowhere = omega arith
  variable_small (held holder e) =
      kind_small (kind_of e.kind) (variable_at holder (held_by holder farm house) e) (bytes holder (e.place + 4))

  referred_small : (r : Result Valued Refused) (h : Holding) → length_in (referred_as r (handed farm house h)) ≤ 255
  referred_small (Ok n) h = either (λ r. length_in r ≤ 255) (over_code n.value) (λ _. omega arith) (λ _. omega arith)
  referred_small (Err refused) h = either (λ r. length_in r ≤ 255) (eqb (refusal_number refused.why) too_big) (λ _. omega arith) (λ _. variable_small h)

  pub value_small : (name : List ℕ) → length_in (referred_in farm house name) ≤ 255
  unfolding referred_in
  value_small name = referred_small (reading name true no_limit) (sought_in_both farm house name)
