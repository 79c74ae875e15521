-- What the unsigned reader answers, in the paper's order: spaces, the form of the number, its digits, its value.
use Rattle.std.specs.Prelude.{Bool, cond, ◌&&◌, ◌||◌, List, [], ◌∷◌, ℕ, ◌+◌, ◌-◌, ◌*◌, ltb, eqb, length, get_or, drop, Result, Ok, Err}
use Rattle.paper.specs.Refusals.{no_digit, bad_base, too_big, not_ended, over_limit, over_length, longest, refusal_number}
use Rattle.paper.specs.Bytes.{spaces, among}
use Rattle.paper.specs.declared.refusals.Refusal.{Refusal}
use Rattle.paper.specs.declared.refusals.Refusal.TheVariants.{NoDigit, BadBase, TooBig, NotEnded, OverLimit, OverLength}
use Rattle.paper.specs.declared.refusals.Refused.{Refused}
use Rattle.reader.specs.declared.Number.{Number}

-- a byte as a digit, letters of either case from 10; every other byte is 36, no digit of any base
unfoldable pub digit : ℕ → ℕ
digit c = cond (among 48 57 c) (c - 48) (cond (among 65 90 c) (c - 55) (cond (among 97 122 c) (c - 87) 36))

-- the digits of a base that a text starts with, up to the first byte that is none
abbrev pub run : ℕ → List ℕ → List ℕ
run base [] = []
run base (x ∷ xs) = cond (ltb (digit x) base) (digit x ∷ run base xs) []

-- what digits are worth behind a number of them already read
abbrev pub worth : ℕ → ℕ → List ℕ → ℕ
worth base before [] = before
worth base before (d ∷ ds) = worth base (before * base + d) ds

abbrev pub refused : Refusal → ℕ → Result Number Refused
refused why place = Err (record { why = why; at = record { 0 = place } })

abbrev pub valued : ℕ → ℕ → Result Number Refused
valued value end = Ok (record { value = value; end = record { 0 = end } })

-- a byte at `end` that a whole number may not stand before. Behind the slice's end stands a zero here, which ends the number as
-- the slice's end does
abbrev pub goes_on : List ℕ → Bool → ℕ → Bool
goes_on text whole end = whole && ltb 32 (get_or text end 0)

-- the limit that refuses nothing
abbrev pub no_limit : ℕ
no_limit = 4294967295

-- digits read from the place `first` up to `end`, and what they are worth; the number's start has the places of 4 and 6
unfoldable pub judged : List ℕ → Bool → ℕ → ℕ → ℕ → ℕ → ℕ → Result Number Refused
judged text whole limit start first end value =
    cond (eqb end first) (refused NoDigit first)
    (cond (ltb 4294967295 value) (refused TooBig start)
    (cond (goes_on text whole end) (refused NotEnded end)
    (cond (ltb limit value) (refused OverLimit start)
    (valued value end))))

-- digits of a base, from the place `first` on
abbrev pub based : List ℕ → Bool → ℕ → ℕ → ℕ → ℕ → Result Number Refused
based text whole limit start first base =
    let ds = run base (drop first text) in
    judged text whole limit start first (first + length ds) (worth base 0 ds)

-- digits of a base that was read too, and must be 2 to 36
unfoldable pub in_base : List ℕ → Bool → ℕ → ℕ → ℕ → ℕ → Result Number Refused
in_base text whole limit start first base =
    let digits = based text whole limit start first base in
    cond (ltb base 2 || ltb 36 base) (refused BadBase start) digits

-- a digit at least from `start` up to `mark`, and "_" directly behind
abbrev pub marked : List ℕ → ℕ → ℕ → Bool
marked text start mark = ltb start mark && eqb (get_or text mark 0) 95

-- behind the spaces: "&" and hex digits; or decimal digits, "_" and digits of that base; or decimal digits
unfoldable pub numbered : List ℕ → Bool → ℕ → ℕ → Result Number Refused
numbered text whole limit start =
    let lead = run 10 (drop start text) in
    let mark = start + length lead in
    let hex = based text whole limit start (start + 1) 16 in
    let other = in_base text whole limit start (mark + 1) (worth 10 0 lead) in
    let decimal = based text whole limit start start 10 in
    cond (eqb (get_or text start 0) 38) hex (cond (marked text start mark) other decimal)

unfoldable pub reading : List ℕ → Bool → ℕ → Result Number Refused
reading text whole limit =
    let number = numbered text whole limit (spaces text) in
    cond (ltb longest (length text)) (refused OverLength 0) number

-- the paper's numbers for an answer: the refusal's number, 0 where a value was read; the place; the value, 0 where refused
abbrev pub read_number : Result Number Refused → ℕ
read_number (Ok n) = 0
read_number (Err r) = refusal_number r.why

abbrev pub read_place : Result Number Refused → ℕ
read_place (Ok n) = n.end.0
read_place (Err r) = r.at.0

abbrev pub read_value : Result Number Refused → ℕ
read_value (Ok n) = n.value
read_value (Err r) = 0

-- the numbers that an answer can have, in the order in which the refusals are looked for
abbrev pub numbers : List ℕ
numbers = 0 ∷ over_length ∷ bad_base ∷ no_digit ∷ too_big ∷ not_ended ∷ over_limit ∷ []
