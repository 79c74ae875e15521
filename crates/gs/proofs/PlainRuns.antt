-- What a run of bytes that stand for themselves makes of the walk through a text.
use mathlib.Core.Path.{◌≡◌, refl, ap, sym, subst, ◌∙◌}
use mathlib.Core.Bool.{Bool, true, false, not, ◌&&◌, and-eq-true_iff}
use mathlib.Core.List.{List, ◌∷◌, ◌++◌, append_assoc}
use Prim.Native.Nat.{ℕ, zero, suc, ◌+◌, ◌-◌, ◌<◌}
use native.Mathlib.Numerals.{add-one}
use native.Mathlib.Omega.{arith}
use borrow.Author.Tests.{ne_eqb, eqb-false, not-true}
use lib.Dec.{eqb}
use lib.ListN.{length, get_or, take, drop, length-append, length-take, length-drop}
use lib.Seq.{drop-cons}
use Rattle.paper.proofs.Choice.{clash}
use Rattle.paper.specs.Traces.{Trace, gives, bytes, run}
use Rattle.variables.specs.Names.{Meaning}
use Rattle.symbols.specs.declared.forms.Mode.{Mode}
use Rattle.symbols.specs.declared.forms.Mode.TheVariants.{Plain, Quoted}
use Rattle.symbols.specs.Flags.{space_ends}
use Rattle.symbols.specs.Symbols.{ending_space}
use Rattle.symbols.specs.inner.SymbolSteps.{Ordinary}
use Rattle.runs.specs.Plain.{marked, plain_byte, also_ends}
use Rattle.runs.specs.inner.Stretches.{Stretch}
use Rattle.gs.specs.Readings.{Expand, symbol_gives, symbols_from}
use Rattle.gs.specs.inner.Steps.{Laid}
use Rattle.symbols.proofs.Laws.{ordinary_byte}
use Rattle.gs.proofs.Pieces.{laid_more}
use Rattle.gs.proofs.Walk.{Walk}

module _ (also c : ℕ) (p : plain_byte also c ≡ true) where
  -- a byte that is not plain is another one
  differs : (k : ℕ) → plain_byte also k ≡ false → c ≡ k → ⊥
  differs k fails e = let both : true ≡ false = sym p ∙ ap (plain_byte also) e ∙ fails in clash (cc)

  plain_ordinary : Ordinary c
  plain_ordinary =
      record {
        no_zero = differs 0 refl;
        no_line = differs 10 refl;
        no_return = differs 13 refl;
        no_quote = differs 34 refl;
        no_reference = differs 60 refl;
        no_bar = differs 124 refl;
      }

  plain_differs : c ≡ also → ⊥
  plain_differs = eqb-false c also (not-true (eqb c also) ((and-eq-true_iff (not (marked c)) _).0 p).1)

-- in a run no space ends the text
space_goes_on : (flags : ℕ) (mode : Mode) (c : ℕ) → plain_byte (also_ends (ending_space flags mode 32)) c ≡ true → ending_space flags mode c ≡ false
space_goes_on flags Plain c p = go (space_ends flags) (plain_differs (also_ends (ending_space flags Plain 32)) c p)
  where
    go : (b : Bool) → (c ≡ also_ends (b && true) → ⊥) → (b && eqb c 32) ≡ false
    go true n = ne_eqb c 32 n
    go false n = refl
space_goes_on flags (Quoted quote) c p = refl

module _ (names : List ℕ → Meaning) (expand : Expand) (text : List ℕ) (flags : ℕ) (mode : Mode) (stop : ℕ) where
  abbrev goes_on : ℕ → ℕ → Trace
  goes_on more here = symbols_from names more expand text flags mode here

  abbrev plain_to : ℕ → Type 0
  plain_to here = Stretch (plain_byte (also_ends (ending_space flags mode 32))) text here stop

  -- how the reading goes on behind a run of some bytes
  record Past (count more here : ℕ) : Type 0 where
    less : ℕ
    fuel : length text < stop + less
    runs : (rest : ℕ) → run (goes_on more here) rest ≡ run (goes_on less stop) rest
    gives : bytes (goes_on more here) ≡ take count (drop here text) ++ bytes (goes_on less stop)

  one_plain : (less here : ℕ) → here < stop → plain_to here → goes_on (suc less) here ≡ gives (get_or text here 0) (goes_on less (here + 1))
  unfolding symbols_from symbol_gives
  one_plain less here h s =
      let c = get_or text here 0 in
      let p = s.passes here (omega arith) h in
      let is_byte_lem = ordinary_byte text flags here mode (plain_ordinary (also_ends (ending_space flags mode 32)) c p) (space_goes_on flags mode c p) in
      ap (λ s. symbol_gives names expand text here s (symbols_from names less expand text flags mode)) is_byte_lem

  -- a run from its second byte on
  shorter : (here : ℕ) → here < stop → plain_to here → plain_to (here + 1)
  shorter here h s = record { forward = omega arith; inside = s.inside; passes = λ k low high. s.passes k (omega arith) high }

  first_of : (here count : ℕ) → here < length text → take (suc count) (drop here text) ≡ get_or text here 0 ∷ take count (drop (here + 1) text)
  first_of here count h = rw (add-one, drop-cons text here 0)

  past : (count more here : ℕ) → here + count ≡ stop → length text < here + more → plain_to here → Past count more here
  past zero more here e fuel s =
      let same : here ≡ stop = omega arith in
      record {
        less = more;
        fuel = omega arith;
        runs = λ rest. ap (λ h. run (goes_on more h) rest) same;
        gives = ap (λ h. bytes (goes_on more h)) same;
      }
  past (suc count) zero here e fuel s = absurd (omega (arith, s.inside))
  past (suc count) (suc more) here e fuel s =
      let h : here < length text = omega (arith, s.inside) in
      let one : goes_on (suc more) here ≡ gives (get_or text here 0) (goes_on more (here + 1)) = one_plain more here (omega arith) s in
      let b = past count more (here + 1) (omega arith) (omega arith) (shorter here (omega arith) s) in
      record {
        less = b.less;
        fuel = b.fuel;
        runs = λ rest. ap (λ t. run t rest) one ∙ b.runs rest;
        gives =
            ap bytes one ∙ ap (λ l. get_or text here 0 ∷ l) b.gives
            ∙ ap (λ l. l ++ bytes (goes_on b.less stop)) (sym (first_of here count h));
      }

-- a run of plain bytes, laid, is passed
module _ (names : List ℕ → Meaning) (expand : Expand) (text : List ℕ) (flags left to : ℕ) (out : List ℕ) (mode : Mode) where
  pub at_run : (after after' : List ℕ) (here far rest stop : ℕ) (spacesEnd : Bool)
      → Walk names expand text flags left to out mode after here far rest
      → spacesEnd ≡ ending_space flags mode 32 → Stretch (plain_byte (also_ends spacesEnd)) text here stop
      → Laid after far (take (stop - here) (drop here text)) after'
      → Walk names expand text flags left to out mode after' stop (far + (stop - here)) rest
  at_run after after' here far rest stop spacesEnd w e s laid =
      let stretch : Stretch (plain_byte (also_ends (ending_space flags mode 32))) text here stop = subst (λ b. Stretch (plain_byte (also_ends b)) text here stop) e s in
      let piece = take (stop - here) (drop here text) in
      let size : length piece ≡ stop - here = simp (length-take, length-drop) (omega (arith, s.inside)) in
      let b = past names expand text flags mode stop (stop - here) w.more here (omega (arith, s.forward)) w.fuel stretch in
      record {
        more = b.less;
        given = w.given ++ piece;
        inside = s.inside;
        fuel = b.fuel;
        quote = w.quote;
        runs = w.runs ∙ b.runs rest;
        gives =
            w.gives ∙ ap (λ l. w.given ++ l) b.gives
            ∙ sym (append_assoc w.given piece (bytes (symbols_from names b.less expand text flags mode stop)));
        place = omega (arith, w.place, length-append w.given piece, size);
        laid = laid_more out w.given piece after after' to w.laid (subst (λ p. Laid after p piece after') w.place laid);
        small = omega (arith, w.small, length-append w.given piece, size, s.forward);
      }
