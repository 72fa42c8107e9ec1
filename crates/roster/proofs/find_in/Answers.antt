-- `roster::find_in` meets its contract.
use Rattle.roster.specs.Roster.{member}
use Rattle.roster.proofs.OnEnd.{cut}
use Rattle.roster.proofs.RosterLaws.{member-within}
use Rattle.std.specs.List.{concat}
use Rattle.std.proofs.lemmas.List.{length-take-le}
use Rattle.std.proofs.Common.{◌≡◌, ℕ, ◌*◌, List, length, take, ap₂, ◌∙◌, arith}
use Rattle.roster.proofs.find_in.Goals as goal

pub returns : goal.returns
returns c =
    let n : ℕ = c.args.n in
    let front : List ℕ = take (n * 40) c.args.roster.now in
    let size : length front ≡ n * 40 = length-take-le (n * 40) c.args.roster.now c.requires in
    let items : List (List ℕ) = c.as_chunks.result.0.now in
    let count : length items ≡ n = omega (arith, c.as_chunks.ensures.front_len) in
    let bytes : concat items ≡ front = cut 39 front items c.as_chunks.ensures.front (omega arith) in
    c.find.ensures ∙ ap₂ (λ (l : List ℕ) (k : ℕ). member l c.args.keeper k) bytes count ∙ member-within c.args.roster.now c.args.keeper n n (omega arith)
