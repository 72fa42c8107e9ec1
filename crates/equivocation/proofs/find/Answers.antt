-- `equivocation::find` meets its contract.
use mathlib.Core.Path.{◌≡◌, refl, sym, ap, ap₂, ◌∙◌}
use mathlib.Core.Bool.{true}
use mathlib.Core.List.{List}
use Prim.Native.Nat.{ℕ, ◌≤◌}
use native.Mathlib.Omega.{arith}
use Rattle.std.specs.List.{concat}
use Rattle.std.specs.Prelude.{Ok, Err}
use Rattle.refusal.specs.Unwritten.{unwritten, counts}
use Rattle.refusal.specs.Work.{unhashed}
use Rattle.refusal.specs.declared.Refusal.TheVariants.{Profile, Roster, NoReceipt}
use Rattle.receipt.proofs.Parsed.{there, missing}
use Rattle.roster.specs.Profile.{permitted}
use Rattle.roster.specs.Roster.{size, is_roster}
use Rattle.roster.proofs.Profiles.{permitted-exactly}
use Rattle.roster.proofs.RosterLaws.{roster-size}
use Rattle.quorum.specs.Certificate.{receipt_count, is_certificate, pile_blocks}
use Rattle.quorum.proofs.Tallies.{receipts-exactly}
use Rattle.equivocation.specs.Pairs.{contradiction, contradiction_blocks_of}
use Rattle.equivocation.proofs.FirstPairs.{judged_exactly}
use Rattle.equivocation.proofs.Answers.{no-profile, no-roster, not-receipts, by-marks}
use Rattle.equivocation.proofs.find.Code.Mir.{function}
use Rattle.equivocation.proofs.find.Goals as goal

-- no literal of the body becomes the count
pub counted : unwritten counts function.body ≡ true
counted = refl

pub returns-then-not-is_permitted : goal.returns-then-not-is_permitted
returns-then-not-is_permitted c =
    let d = judged_exactly (Err (unhashed Profile)) (ap Err c.into.ensures) (no-profile c.args.members c.args.needed c.args.roster.now c.args.pile.now (sym c.is_permitted.ensures ∙ c.if-not-is_permitted.true)) in
    record { answer = d.0; exactly = d.1.0; blocks = d.1.1 }

pub returns-in_err-roster : goal.returns-in_err-roster
returns-in_err-roster c =
    let u = missing _ _ Roster c.items.result c.in_err-roster.field-0.0 c.from_residual.result c.items.ensures c.ok_or.ensures.value c.in_err-roster.was c.from_residual.ensures.1 in
    let d = judged_exactly (Err (unhashed Roster)) u.0 (no-roster c.args.members c.args.needed c.args.roster.now c.args.pile.now (sym c.is_permitted.ensures ∙ c.if-not-is_permitted.false) u.1) in
    record { answer = d.0; exactly = d.1.0; blocks = d.1.1 }

pub returns-in_err-receipts : goal.returns-in_err-receipts
returns-in_err-receipts c =
    let r = there _ _ Roster c.items.result c.in_ok-roster.roster c.items.ensures c.ok_or.ensures.value c.in_ok-roster.was in
    let u = missing _ _ NoReceipt c.receipts_in.result c.in_err-receipts.field-0.0 c.from_residual-in_err-receipts.result c.receipts_in.ensures c.ok_or-2.ensures.value c.in_err-receipts.was c.from_residual-in_err-receipts.ensures.1 in
    let d = judged_exactly (Err (unhashed NoReceipt)) u.0 (not-receipts c.args.members c.args.needed c.args.roster.now c.args.pile.now (sym c.is_permitted.ensures ∙ c.if-not-is_permitted.false) r.0 u.1) in
    record { answer = d.0; exactly = d.1.0; blocks = d.1.1 }

-- a roster of a permitted profile has at most 32 items, and a pile of receipts at most 32 of these
few : (n k : ℕ) {roster items : List ℕ} → permitted n k ≡ true → (is_roster n roster ≡ true) × (items ≡ roster) → size items ≤ 32
few n k {roster = roster} p r = let z = roster-size roster n r.0 in let q = (permitted-exactly n k).0 p in let e = ap size r.1 in omega (arith, q.most)

short : {pile receipts : List ℕ} → (is_certificate pile ≡ true) × (receipts ≡ pile) → receipt_count receipts ≤ 32
short {pile = pile} q = let e = ap receipt_count q.1 in let w = (receipts-exactly pile).0 q.0 in omega (arith, w.most)

pub marks_of-marks-requires : goal.marks_of-marks-requires
marks_of-marks-requires c =
    let r = there _ _ Roster c.items.result c.in_ok-roster.roster c.items.ensures c.ok_or.ensures.value c.in_ok-roster.was in
    let q = there _ _ NoReceipt c.receipts_in.result c.in_ok-receipts.receipts c.receipts_in.ensures c.ok_or-2.ensures.value c.in_ok-receipts.was in
    (few c.args.members c.args.needed (sym c.is_permitted.ensures ∙ c.if-not-is_permitted.false) (r.0, r.1.0), short (q.0, q.1.0))

pub first_pair-requires : goal.first_pair-requires
first_pair-requires c =
    let q = there _ _ NoReceipt c.receipts_in.result c.in_ok-receipts.receipts c.receipts_in.ensures c.ok_or-2.ensures.value c.in_ok-receipts.was in
    short (q.0, q.1.0)

pub returns : goal.returns
unfolding pile_blocks
returns c =
    let r = there _ _ Roster c.items.result c.in_ok-roster.roster c.items.ensures c.ok_or.ensures.value c.in_ok-roster.was in
    let q = there _ _ NoReceipt c.receipts_in.result c.in_ok-receipts.receipts c.receipts_in.ensures c.ok_or-2.ensures.value c.in_ok-receipts.was in
    let w = by-marks c.args.members c.args.needed (concat c.in_ok-roster.roster.now) (concat c.in_ok-receipts.receipts.now) (sym c.is_permitted.ensures ∙ c.if-not-is_permitted.false)
    (ap (is_roster c.args.members) r.1.0 ∙ r.0) (ap is_certificate q.1.0 ∙ q.0) c.marks_of-marks.result.value c.marks_of-marks.ensures.marks in
    let d = judged_exactly (Ok (record { value = c.first_pair.result; blocks = c.marks_of-marks.result.blocks })) refl
    (c.first_pair.ensures ∙ w.0 ∙ ap₂ (contradiction c.args.members c.args.needed) r.1.0 q.1.0, c.marks_of-marks.ensures.blocks ∙ w.1 ∙ ap₂ (contradiction_blocks_of c.args.members c.args.needed) r.1.0 q.1.0) in
    record { answer = d.0; exactly = d.1.0; blocks = d.1.1 }
