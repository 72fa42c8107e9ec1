-- `script_pieces::pieces::Script::feed` meets its contract.
use Rattle.std.proofs.Common.{◌≡◌, ℕ, ◌+◌, ◌-◌, List, [], ◌∷◌, ◌++◌, length, drop, length-append, length-drop, refl, sym, ap, subst, ◌∙◌, arith}
use mathlib.Core.List.{append_assoc}
use Rattle.std.proofs.Math.Seq.{take_all}
use Rattle.octets.specs.Octets.{splice}
use Rattle.line.specs.Fields.{up_to}
use Rattle.line.proofs.FieldLaws.{no-mark, field-part, marked-off}
use Rattle.script.specs.Script.{answer_text, table_after}
use Rattle.script.specs.Stream.{Feeds, cut}
use Rattle.script.proofs.Reading.{feeds-none, feeds-part, feeds-line}
use Rattle.octets.specs.Undivided.{Undivided}
use Rattle.script_pieces.proofs.pieces.Script.feed.Code.Mir.{function}
use Rattle.script_pieces.proofs.pieces.Script.feed.Goals as goal

pub undivided : Undivided ("line_fields::find" ∷ "script_lines::tables::Table::answer" ∷ "script_pieces::held::Held::forget" ∷ "script_pieces::held::Held::keep" ∷ "script_pieces::held::Held::line" ∷ []) function
undivided = refl

pub loop-rest-init : goal.loop-rest-init
loop-rest-init c = ([], refl, feeds-none c.args.self.now.table c.args.self.now.held c.args.self.now.number c.args.out.now)

pub returns-then-e-rest : goal.returns-then-e-rest
returns-then-e-rest c =
    let l : List ℕ = c.loop-rest.rest.now in
    subst (λ (y : List ℕ). Feeds y c.args.self.now.table c.args.self.now.held c.args.self.now.number c.args.out.now c.loop-rest.self.table c.keep.new.self c.loop-rest.self.number c.loop-rest.out c.loop-rest.to) (sym c.loop-rest.invariant.1)
    (feeds-part c.args.self.now.table c.args.self.now.held c.args.self.now.number c.args.out.now c.loop-rest.invariant.0 c.loop-rest.self.table c.loop-rest.self.held c.loop-rest.self.number c.loop-rest.out c.loop-rest.to c.loop-rest.invariant.2 c.keep.ensures.were_few
    l c.keep.new.self (no-mark 10 l c.find-e.result c.find-e.ensures.0 c.if-e-rest.true) c.keep.ensures.kept)

pub loop-rest-preserved : goal.loop-rest-preserved
loop-rest-preserved c =
    let l : List ℕ = c.loop-rest.rest.now in
    let e : ℕ = c.find-e.result in
    let read : List ℕ = c.loop-rest.invariant.0 in
    let T : List ℕ = c.loop-rest.self.table in
    let off = marked-off 10 l e c.find-e.ensures.0 (omega (arith, c.find-e.ensures.1, c.if-e-rest.false)) in
    let whole : c.args.piece.now ≡ (read ++ (up_to 10 l ++ (10 ∷ []))) ++ drop (e + 1) l =
    c.loop-rest.invariant.1 ∙ ap (λ (x : List ℕ). read ++ x) (sym off) ∙ sym (append_assoc read (up_to 10 l ++ (10 ∷ [])) (drop (e + 1) l)) in
    let x : c.line.result.now ≡ c.keep-in-loop-rest.new.self = c.line.ensures in
    let fits : length c.args.piece.now ≡ length (read ++ (up_to 10 l ++ (10 ∷ []))) + length (drop (e + 1) l) = ap length whole ∙ length-append (read ++ (up_to 10 l ++ (10 ∷ []))) (drop (e + 1) l) in (
      read ++ (up_to 10 l ++ (10 ∷ [])),
      whole ∙ ap (λ (y : List ℕ). (read ++ (up_to 10 l ++ (10 ∷ []))) ++ y) (sym (take_all (length l - (e + 1)) (drop (e + 1) l) (omega (arith, length-drop (e + 1) l)))),
      subst (λ (h : List ℕ). Feeds (read ++ (up_to 10 l ++ (10 ∷ []))) c.args.self.now.table c.args.self.now.held c.args.self.now.number c.args.out.now c.answer-to.new.self h (c.loop-rest.self.number + 1) c.answer-to.new.out c.answer-to.result) (sym c.forget.ensures)
          (feeds-line c.args.self.now.table c.args.self.now.held c.args.self.now.number c.args.out.now read T c.loop-rest.self.held c.loop-rest.self.number c.loop-rest.out c.loop-rest.to c.loop-rest.invariant.2 c.keep-in-loop-rest.ensures.were_few
          l c.keep-in-loop-rest.new.self (c.keep-in-loop-rest.ensures.kept ∙ ap (λ (y : List ℕ). cut (c.loop-rest.self.held ++ y)) (field-part 10 l e c.find-e.ensures.0)) (omega (arith, c.requires.room, fits)) c.answer-to.new.self c.answer-to.new.out c.answer-to.result
          (c.answer-to.ensures.end ∙ ap (λ (l : List ℕ). c.loop-rest.to + length (answer_text T c.loop-rest.self.number l)) x)
          (c.answer-to.ensures.line ∙ ap (λ (l : List ℕ). splice c.loop-rest.out c.loop-rest.to (answer_text T c.loop-rest.self.number l)) x)
          (c.answer-to.ensures.table ∙ ap (table_after T) x)),
    )
