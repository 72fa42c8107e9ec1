-- What C gets of each answer: the number returned, and each result after the call. The blocks are returned with the number
-- (document 02 [2]: "a refusal returns its number with them"), so that a refusal leaves every result as it was.
use Rattle.std.specs.Prelude.{ℕ, cond, List, [], ◌∷◌, eqb, get_or, Result, Ok, Err}
use Rattle.std.proofs.Math.Option.{Option, none, some}
use Rattle.a2m.specs.Call.{Reply, refused, done, found, ended, numbered}
use Rattle.refusal.specs.Number.{number_of}
use Rattle.refusal.specs.declared.Hashed.{Hashed}
use Rattle.refusal.specs.declared.Refused.{Refused}
use Rattle.refusal.specs.Answer.{Answer, answer}
use Rattle.runs.specs.Compare.{Verdict}
use Rattle.runs.specs.Call.{verdict_code}

-- ---- the calls on a table

-- a reply's number: 0 "done", or the refusal's
abbrev pub reply_number : Reply → ℕ
reply_number r = (numbered r).number

-- "0 with the L and H of that row"
abbrev pub low_after : Reply → ℕ → ℕ
low_after (refused k) old = old
low_after (done l h) old = l
low_after (found receipt k) old = old
low_after (ended receipt) old = old

abbrev pub high_after : Reply → ℕ → ℕ
high_after (refused k) old = old
high_after (done l h) old = h
high_after (found receipt k) old = old
high_after (ended receipt) old = old

-- the number of held entries that a lookup examined
abbrev pub examined_after : Reply → ℕ → ℕ
examined_after (refused k) old = old
examined_after (done l h) old = old
examined_after (found receipt k) old = k
examined_after (ended receipt) old = old

-- ---- the status screen

-- "the stored number"
abbrev pub free_after : Answer → ℕ → ℕ
free_after a old = cond (eqb a.number 0) (get_or a.values 0 0) old

-- ---- surveys

-- "together make a position"
abbrev pub position_after : Answer → ℕ → ℕ
position_after a old = cond (eqb a.number 0) (get_or a.values 0 0) old

-- ---- the verifier and certificates

-- a verdict that says its numbers as they are, or a refusal
abbrev pub numbers_answer : Result (Hashed (List ℕ)) Refused → Answer
numbers_answer (Ok h) = answer 0 h.value
numbers_answer (Err r) = answer (number_of r.why) []

-- a verdict's five numbers: keeper, log, position, kind and reference
abbrev pub verdict_after : Answer → List ℕ → List ℕ
verdict_after a old = cond (eqb a.number 0) a.values old

-- a certificate's two: the place of "the first good receipt", and "the members"
abbrev pub place_after : Answer → ℕ → ℕ
place_after a old = cond (eqb a.number 0) (get_or a.values 0 0) old

abbrev pub mask_after : Answer → ℕ → ℕ
mask_after a old = cond (eqb a.number 0) (get_or a.values 1 0) old

-- ---- contradictions

-- "answer the first pair .. If there is none, say so": 1 for an answer with places, 0 for one without
abbrev pub pair_code : List ℕ → ℕ
pair_code [] = 0
pair_code (p ∷ ps) = 1

abbrev pub found_after : Answer → ℕ → ℕ
found_after a old = cond (eqb a.number 0) (pair_code a.values) old

-- a pair's two places; where there are none, both results stay too
abbrev pub first_after : Answer → ℕ → ℕ
first_after a old = cond (eqb a.number 0) (get_or a.values 0 old) old

abbrev pub second_after : Answer → ℕ → ℕ
second_after a old = cond (eqb a.number 0) (get_or a.values 1 old) old

-- ---- runs

-- the code of a verdict, if there is one
abbrev pub code_after : Option Verdict → ℕ → ℕ
code_after none old = old
code_after (some v) old = verdict_code v
