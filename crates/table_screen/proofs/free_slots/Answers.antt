-- `table_screen::free_slots` meets its contract.
use Rattle.std.proofs.Common.{ℕ, [], ◌∷◌, ap, sym, ◌∙◌, not}
use Rattle.refusal.specs.Answer.{answer}
use Rattle.table.proofs.ScreenLaws.{screen-short, screen-unmarked, screen-marked}
use Rattle.table_screen.proofs.free_slots.Goals as goal
use Rattle.table_screen.proofs.free_slots.Goals.{then-table-lt-HEADER-via-then-table-lt-HEADER, then-table-lt-HEADER-via-else-table-lt-HEADER+then-not-has_mark}

pub returns-then-table-lt-HEADER : goal.returns-then-table-lt-HEADER
returns-then-table-lt-HEADER c =
    elim c.then-table-lt-HEADER.branch [
      | then-table-lt-HEADER-via-then-table-lt-HEADER w ↦ sym (screen-short c.args.table.now w.if-table-lt-HEADER.true)
      | then-table-lt-HEADER-via-else-table-lt-HEADER+then-not-has_mark w ↦ sym (screen-unmarked c.args.table.now w.if-table-lt-HEADER.false (ap not (sym w.has_mark.ensures ∙ w.if-not-has_mark.true)))
    ]

pub returns : goal.returns
returns c = ap (λ (n : ℕ). answer 0 (n ∷ [])) c.free_of.ensures.0
    ∙ sym (screen-marked c.args.table.now c.if-table-lt-HEADER.false (ap not (sym c.has_mark.ensures ∙ c.if-not-has_mark.false)))
