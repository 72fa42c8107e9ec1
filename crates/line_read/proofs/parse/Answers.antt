-- `line_read::parse` meets its contract.
use Rattle.std.proofs.Common.{◌≡◌, ℕ, ◌+◌, List, [], ◌∷◌, Option, Some, length, take, drop, refl, sym, ap, ◌∙◌, arith}
use Rattle.octets.specs.Octets.{zeros}
use Rattle.line.specs.Fields.{fields_of, numbers_of, up_to}
use Rattle.line.specs.Command.{word_of}
use Rattle.line.proofs.CommandLaws.{counted-not, counted, command-long, only-word, no-word, no-numbers, read-line}
use Rattle.line.proofs.FieldLaws.{field-part, last-field, more-fields}
use Rattle.octets.specs.Undivided.{Undivided}
use Rattle.line_read.proofs.parse.Code.Mir.{function}
use Rattle.line_read.proofs.parse.Goals as goal

pub undivided : Undivided ("line_fields::find" ∷ "line_fields::numbers" ∷ "line_read::command" ∷ "line_read::word" ∷ []) function
undivided = refl

pub returns-then-line-gt200 : goal.returns-then-line-gt200
returns-then-line-gt200 c = sym (command-long c.args.line.now (omega arith))

pub returns-then-e-line : goal.returns-then-e-line
returns-then-e-line c = let l : List ℕ = c.args.line.now in
    sym (only-word l (up_to 44 l) (omega arith) (last-field 44 l c.find-e.result c.find-e.ensures.0 c.if-e-line.true))

-- the first field of l, which ends at e
first-word : (l : List ℕ) (e : ℕ) → e ≡ length (up_to 44 l) → word_of (take e l) ≡ word_of (up_to 44 l)
first-word l e ends = ap word_of (field-part 44 l e ends)

pub returns-in_default : goal.returns-in_default
returns-in_default c = let l : List ℕ = c.args.line.now in
    sym (no-word l (up_to 44 l) (fields_of (drop (c.find-e.result + 1) l)) (omega arith) (more-fields 44 l c.find-e.result c.find-e.ensures.0 (omega arith)) (sym (first-word l c.find-e.result c.find-e.ensures.0) ∙ sym c.word.ensures ∙ c.in_default.is))

pub numbers-requires : goal.numbers-requires
unfolding zeros
numbers-requires c = (omega arith, refl)

pub returns-in_default-numbers : goal.returns-in_default-numbers
returns-in_default-numbers c = let l : List ℕ = c.args.line.now in
    let o : Option (List ℕ) = numbers_of (fields_of (drop (c.find-e.result + 1) l)) in
    sym (no-numbers l (up_to 44 l) (fields_of (drop (c.find-e.result + 1) l)) (omega arith) (more-fields 44 l c.find-e.result c.find-e.ensures.0 (omega arith)) (counted-not o c.numbers.result c.numbers.ensures.value c.in_default-numbers.is))

pub returns : goal.returns
returns c = let l : List ℕ = c.args.line.now in
    let o : Option (List ℕ) = numbers_of (fields_of (drop (c.find-e.result + 1) l)) in
    let k = counted o c.numbers.result c.in-Some-numbers.n c.numbers.ensures.value c.in-Some-numbers.is in
    let w : word_of (up_to 44 l) ≡ Some c.in-Some.word = sym (first-word l c.find-e.result c.find-e.ensures.0) ∙ sym c.word.ensures ∙ c.in-Some.is in
    read-line c.command.result l (up_to 44 l) (fields_of (drop (c.find-e.result + 1) l)) k.0 _ c.in-Some.word c.in-Some-numbers.n (omega arith) (more-fields 44 l c.find-e.result c.find-e.ensures.0 (omega arith)) k.1 w k.2 (c.numbers.ensures.by_index k.0 k.1) c.command.ensures
