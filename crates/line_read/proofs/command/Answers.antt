-- `line_read::command` meets its contract.
use Rattle.std.proofs.Common.{◌≡◌, ℕ, ◌+◌, List, [], ◌∷◌, Some, get_or, drop, length-drop, refl, sym, ap, ◌∙◌, arith}
use Rattle.line.specs.declared.Command.TheVariants.{Format}
use Rattle.line.specs.declared.Word.TheVariants as word
use Rattle.line.specs.Command.{padded}
use Rattle.line.proofs.PaddedLaws.{padded-all}
use Rattle.line.proofs.CommandLaws.{as_made, taken}
use Rattle.octets.specs.Undivided.{Undivided}
use Rattle.line_read.proofs.command.Code.Mir.{function}
use Rattle.line_read.proofs.command.Goals as goal

pub undivided : Undivided ("line_read::following" ∷ []) function
undivided = refl

pub returns-in-Format : goal.returns-in-Format
returns-in-Format c =
    let v : List ℕ = c.args.v.now in
    let r : c.following-reserves.result ≡ padded 16 (drop 3 v) = c.following-reserves.ensures ∙ sym (padded-all 16 (drop 3 v) (omega (arith, length-drop 3 v))) in
    as_made c.args.word word.Format c.args.n v (Some (Format (get_or v 0 0) (get_or v 1 0) (get_or v 2 0) c.following-reserves.result)) c.in-Format.is (ap (λ (l : List ℕ). Some (Format (get_or v 0 0) (get_or v 1 0) (get_or v 2 0) l)) r ∙ taken (3 + get_or v 0 0) c.args.n _ (omega arith))
