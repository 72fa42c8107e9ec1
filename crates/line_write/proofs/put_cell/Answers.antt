-- `line_write::put_cell` meets its contract.
use Rattle.std.proofs.Common.{◌≡◌, ℕ, ◌+◌, ◌≤◌, List, [], ◌∷◌, ◌++◌, length, set, length-append, refl, sym, ap, ap₂, subst, ◌∙◌, arith}
use Rattle.octets.specs.Octets.{splice}
use Rattle.octets.proofs.Parts.{length-splice, splice-append, splice-byte}
use Rattle.line.specs.declared.Cell.{Cell}
use Rattle.line.specs.Answer.{cell_text}
use Rattle.octets.specs.Undivided.{Undivided}
use Rattle.line_write.proofs.put_cell.Code.Mir.{function}
use Rattle.line_write.proofs.put_cell.Goals as goal
use Rattle.line_write.proofs.put_cell.Goals.{in-Dash, in-Letter, in-Number}

pub undivided : Undivided ("decimal::write::put" ∷ []) function
undivided = refl

-- a text was put, up to a place, where its mark is put
marked : (o o' t : List ℕ) (at end m : ℕ) → at + length (t ++ (m ∷ [])) ≤ length o → end ≡ at + length t → o' ≡ splice o at t → set o' end m ≡ splice o at (t ++ (m ∷ []))
marked o o' t at end m h e p =
    let s : length o' ≡ length o = ap length p ∙ length-splice o t at (omega (arith, length-append t (m ∷ []))) in
    splice-byte o' end m (omega (arith, length-append t (m ∷ [])))
    ∙ ap₂ (λ (l : List ℕ) (k : ℕ). splice l k (m ∷ [])) p e
    ∙ splice-append o at t (m ∷ []) (omega (arith, length-append t (m ∷ [])))

-- a cell x is put so, and its mark
module _ (o o' : List ℕ) (at end m : ℕ) (cell x : Cell) (is : cell ≡ x) (h : at + length (cell_text cell ++ (m ∷ [])) ≤ length o) where
  room : at + length (cell_text x ++ (m ∷ [])) ≤ length o
  room = let P : Cell → Type 0 = λ y. at + length (cell_text y ++ (m ∷ [])) ≤ length o in subst P is h

  marked-as : end ≡ at + length (cell_text x) → o' ≡ splice o at (cell_text x) → set o' end m ≡ splice o at (cell_text cell ++ (m ∷ []))
  marked-as e p = marked o o' (cell_text x) at end m room e p ∙ ap (λ (y : Cell). splice o at (cell_text y ++ (m ∷ []))) (sym is)

pub returns-clause-out_after : goal.returns-clause-out_after
returns-clause-out_after c =
    elim c.match-cell.branch [
      | in-Dash w ↦ marked-as c.args.out.now c.match-cell.out c.args.at c.match-cell.end c.args.mark c.args.cell _ w.in-Dash.is c.requires w.end-is (w.out-is ∙ splice-byte c.args.out.now c.args.at 45 (omega (arith, room c.args.out.now c.match-cell.out c.args.at c.match-cell.end c.args.mark c.args.cell _ w.in-Dash.is c.requires)))
      | in-Letter w ↦ marked-as c.args.out.now c.match-cell.out c.args.at c.match-cell.end c.args.mark c.args.cell _ w.in-Letter.is c.requires w.end-is (w.out-is ∙ splice-byte c.args.out.now c.args.at w.in-Letter.b (omega (arith, room c.args.out.now c.match-cell.out c.args.at c.match-cell.end c.args.mark c.args.cell _ w.in-Letter.is c.requires)))
      | in-Number w ↦ marked-as c.args.out.now c.match-cell.out c.args.at c.match-cell.end c.args.mark c.args.cell _ w.in-Number.is c.requires (w.end-is ∙ w.put-end.ensures.value) (w.out-is ∙ w.put-end.ensures.out_after)
    ]
