-- A good table is its records' bytes, one behind the other.
use mathlib.Core.List.Memᴰ.{head}
use mathlib.Core.List.Memᴰ.{tail}
use mathlib.Core.List.{List, ◌++◌, map, flatten, Memᴰ}
use mathlib.Core.Path.{◌≡◌, refl, ap, ◌∙◌}
use Prim.Native.Nat.{ℕ}
use native.Mathlib.Omega.{arith}
use lib.ListN.{length, drop, drop_of_length-le}
use Rattle.records.specs.Records.{Entry, entry_at, record_bytes}
use Rattle.records.proofs.Format.{whole_bytes}
use Rattle.records.proofs.Whole.{Whole}
use Rattle.variables.specs.Tables.{checked, records_of}
use Rattle.std.specs.Prelude.{Ok}
use Rattle.variables.proofs.Chain.{Chain, end, next}
use Rattle.variables.proofs.Good.{laid, wholes}

-- a chain of whole records
chained : {table : List ℕ} {place : ℕ} {es : List Entry} → Chain table (length table) place es → ((e : Entry) → Memᴰ e es → Whole table e)
    → drop place table ≡ flatten (map record_bytes es)
unfolding flatten
chained {table} {place} (end q) ws = drop_of_length-le table {i = place} (omega arith)
chained {table} (next {place = place} r) ws =
    whole_bytes table place (ws _ (head refl)) ∙ ap (◌++◌ (record_bytes (entry_at table place))) (chained r (λ e m. ws e (tail m)))

module _ (table : List ℕ) {n : ℕ} (good : checked table ≡ Ok n) where
  pub format : table ≡ flatten (map record_bytes (records_of table))
  format = let l = laid table good in chained l.chain (λ e m. wholes l m)

  -- and there are as many of them as its check says
  pub counted : length (records_of table) ≡ n
  counted = (laid table good).counted
