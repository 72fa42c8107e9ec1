-- The reserves that are lent for a line are the line's: of more than 16 logs none is looked at.
use Rattle.std.proofs.Common.{◌≡◌, ℕ, ◌≤◌, ◌<◌, List, Option, Some, None, length, take, refl, sym, ap, subst, ◌∙◌, arith}
use Rattle.std.proofs.Math.Option.{Option as Fault, some}
use native.Mathlib.Decide.{dec_le}
use Rattle.octets.specs.Octets.{zeros}
use Rattle.refusal.specs.Order.{answer_of, afterwards}
use Rattle.table.specs.Free.{write_table}
use Rattle.table.specs.Format.{formatted}
use Rattle.line.specs.declared.Command.{Command}
use Rattle.line.specs.declared.Command.TheVariants.{Format, Append, Advance, Truncate, Lookup, End}
use Rattle.line.specs.Command.{command_of, reserves_of, padded}
use Rattle.line.proofs.PaddedLaws.{take-padded}
use Rattle.line.proofs.CommandLaws.{reserves-count, reserves_first}
use Rattle.script.specs.declared.Answer.{Answer}
use Rattle.script.specs.declared.Answer.TheVariants.{Plain}
use Rattle.script.specs.Script.{format_fault, command_answer, command_table, lent, Turns}
use Rattle.script.proofs.TurnLaws.{many-logs}

-- a command does the same with both
abbrev Alike : List ℕ → Option Command → List ℕ → List ℕ → Type 0
Alike b c xs ys = (command_answer b c xs ≡ command_answer b c ys) × (command_table b c xs ≡ command_table b c ys)

module _ (b : List ℕ) (logs slots keeper : ℕ) (first : List ℕ) where
  abbrev format : Option Command
  format = Some (Format logs slots keeper first)

  few : (rs : List ℕ) → length rs ≡ logs → logs ≤ 16 → first ≡ padded 16 rs → Alike b format (take logs first) rs
  few rs n h p =
      let e : take logs first ≡ rs = ap (take logs) p ∙ ap (λ (k : ℕ). take k (padded 16 rs)) (sym n) ∙ take-padded 16 rs (omega arith) in
      (ap (command_answer b format) e, ap (command_table b format) e)

  refused : (xs : List ℕ) → format_fault logs slots xs ≡ some 8 → (command_answer b format xs ≡ Plain 8) × (command_table b format xs ≡ b)
  unfolding command_answer command_table answer_of afterwards
  refused xs e = (ap (λ (o : Fault ℕ). Plain (answer_of o)) e, ap (λ (o : Fault ℕ). afterwards o (write_table (formatted slots keeper (zeros 32) xs)) b) e)

  many : (rs : List ℕ) → 16 < logs → Alike b format (take logs first) rs
  many rs h =
      let x = refused (take logs first) (many-logs logs slots (take logs first) h) in
      let y = refused rs (many-logs logs slots rs h) in
      (x.0 ∙ sym y.0, x.1 ∙ sym y.1)

lent-line : (b l : List ℕ) → Alike b (command_of l) (lent (command_of l)) (reserves_of l)
unfolding command_answer command_table
lent-line b l = go (command_of l) refl
  where
    go : (c : Option Command) → command_of l ≡ c → Alike b c (lent c) (reserves_of l)
    go (Some (Format logs slots keeper first)) e = at (dec_le logs 16)
      where
        at : Dec (logs ≤ 16) → Alike b (Some (Format logs slots keeper first)) (take logs first) (reserves_of l)
        at (yes q) = few b logs slots keeper first (reserves_of l) (reserves-count logs slots keeper first l e) q (reserves_first logs slots keeper first l e)
        at (no q) = many b logs slots keeper first (reserves_of l) (omega arith)
    go (Some (Append log value)) e = (refl, refl)
    go (Some (Advance log position digest value)) e = (refl, refl)
    go (Some (Truncate log position)) e = (refl, refl)
    go (Some (Lookup log position)) e = (refl, refl)
    go (Some (End log)) e = (refl, refl)
    go None e = (refl, refl)

-- what is done with a command as it was read is what the line says
pub line-turns : (T text : List ℕ) (said : Option Command) (T' : List ℕ) (r : Answer) → said ≡ command_of text → Turns T said (lent said) T' r → Turns T (command_of text) (reserves_of text) T' r
line-turns T text said T' r p t =
    let u = subst (λ (x : Option Command). Turns T x (lent x) T' r) p t in
    let l = lent-line T text in
    record { answer = u.answer ∙ l.0; table = u.table ∙ l.1 }
