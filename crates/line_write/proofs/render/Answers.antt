-- `line_write::render` meets its contract.
use Rattle.std.proofs.Common.{◌≡◌, ℕ, ◌+◌, ◌≤◌, List, [], ◌∷◌, ◌++◌, length, take, get_or, length-append, length-take, refl, sym, ap, ap₂, ◌∙◌, arith}
use Rattle.std.proofs.Math.Seq.{take_all}
use Rattle.octets.specs.Octets.{splice}
use Rattle.octets.proofs.Parts.{length-splice, splice-append, splice-nil}
use Rattle.line.specs.declared.Cell.{Cell}
use Rattle.line.specs.declared.Cell.TheVariants.{Dash}
use Rattle.line.specs.Answer.{cell_text, line_text}
use Rattle.line.proofs.AnswerLaws.{commas, commas-nil, commas-more, commas-length, cell_room, line-last}
use Rattle.octets.specs.Undivided.{Undivided}
use Rattle.line_write.proofs.render.Code.Mir.{function}
use Rattle.line_write.proofs.render.Goals as goal

pub undivided : Undivided ("line_write::put_cell" ∷ []) function
undivided = refl

-- i cells were put, each with its comma, up to a place
module _ (o o' : List ℕ) (at to i : ℕ) (cs : List Cell) (few : i ≤ 7) (free : at + 168 ≤ length o) (place : to ≡ at + length (commas (take i cs))) (text : o' ≡ splice o at (commas (take i cs))) where
  -- one more has room
  room : (c : Cell) (m : ℕ) → to + length (cell_text c ++ (m ∷ [])) ≤ length o'
  room c m = omega (arith, commas-length cs i, cell_room c m, ap length text, length-splice o (commas (take i cs)) at (omega (arith, commas-length cs i)))

  -- and is put
  more : (c : Cell) (m r : ℕ) (o'' y : List ℕ) → commas (take i cs) ++ (cell_text c ++ (m ∷ [])) ≡ y → r ≡ to + length (cell_text c ++ (m ∷ [])) → o'' ≡ splice o' to (cell_text c ++ (m ∷ [])) → (r ≡ at + length y) × (o'' ≡ splice o at y)
  more c m r o'' y e p q =
      let x : List ℕ = commas (take i cs) in
      let z : List ℕ = cell_text c ++ (m ∷ []) in (
        omega (arith, ap length e, length-append x z),
        q
            ∙ ap₂ (λ (l : List ℕ) (k : ℕ). splice l k z) text place
            ∙ splice-append o at x z (omega (arith, commas-length cs i, cell_room c m))
            ∙ ap (splice o at) e,
      )

pub loop-cell-init : goal.loop-cell-init
loop-cell-init c = (omega (arith, ap length commas-nil), sym (splice-nil c.args.out.now c.args.at) ∙ ap (splice c.args.out.now c.args.at) (sym commas-nil))

pub put_cell-to-requires : goal.put_cell-to-requires
put_cell-to-requires c = room c.args.out.now c.loop-cell.out c.args.at c.loop-cell.to c.loop-cell.cell-index (take 7 c.args.cells) (omega (arith, length-take 7 c.args.cells)) c.requires c.loop-cell.invariant.0 c.loop-cell.invariant.1 _ 44

pub loop-cell-preserved : goal.loop-cell-preserved
loop-cell-preserved c =
    more c.args.out.now c.loop-cell.out c.args.at c.loop-cell.to c.loop-cell.cell-index (take 7 c.args.cells) (omega (arith, length-take 7 c.args.cells)) c.requires c.loop-cell.invariant.0 c.loop-cell.invariant.1 _ 44 _ _ _
    (sym (commas-more (take 7 c.args.cells) c.loop-cell.cell-index (omega arith))) c.put_cell-to.ensures.value c.put_cell-to.ensures.out_after

pub put_cell-requires : goal.put_cell-requires
put_cell-requires c = room c.args.out.now c.loop-cell.out c.args.at c.loop-cell.to c.loop-cell.cell-index (take 7 c.args.cells) (omega (arith, length-take 7 c.args.cells)) c.requires c.loop-cell.invariant.0 c.loop-cell.invariant.1 _ 10

pub returns : goal.returns
returns c =
    let e : take c.loop-cell.cell-index (take 7 c.args.cells) ≡ take 7 c.args.cells = take_all c.loop-cell.cell-index (take 7 c.args.cells) (omega arith) in
    let r = more c.args.out.now c.loop-cell.out c.args.at c.loop-cell.to c.loop-cell.cell-index (take 7 c.args.cells) (omega (arith, length-take 7 c.args.cells)) c.requires c.loop-cell.invariant.0 c.loop-cell.invariant.1 (get_or c.args.cells 7 Dash) 10 c.put_cell.result c.put_cell.new.out (line_text c.args.cells)
    (ap (λ (l : List Cell). commas l ++ (cell_text (get_or c.args.cells 7 Dash) ++ (10 ∷ []))) e ∙ sym (line-last 7 c.args.cells (omega arith))) c.put_cell.ensures.value c.put_cell.ensures.out_after in
    record { value = r.0; out_after = r.1 }
