-- Document 02, [6]: "End on a fresh log now gives an END receipt, kind unassigned, position 0, reference 0, value and digest zero." On any whole table,
-- whoever wrote it.
use Prim.Native.Nat.{ℕ, suc, ◌<◌}
use mathlib.Core.Path.{◌≡◌, refl, sym, ap, ap₂, ◌∙◌}
use mathlib.Core.Logic.{inl}
use mathlib.Core.List.{List, [], ◌∷◌, ◌++◌}
use mathlib.Core.Bool.{true}
use mathlib.Core.Option.{none}
use native.Mathlib.Omega.{arith}
use lib.ListN.{length}
use borrow.Author.Tests.{lt-leb}
use Rattle.octets.specs.Octets.{zeros}
use Rattle.receipt.specs.Attestation.{Attestation, END, receipt_bytes}
use Rattle.layout.specs.Image.{Image, slot_at}
use Rattle.layout.specs.Layout.{logs_of, read_table}
use Rattle.layout.proofs.TableLaws.{length-rows}
use Rattle.table.specs.Chains.{chain, last_of, positions_of}
use Rattle.table.specs.Conditions.{Links}
use Rattle.table.specs.Whole.{whole}
use Rattle.table.specs.WholeImage.{whole_image}
use Rattle.table.proofs.WholeLaws.{whole-image}
use Rattle.a2m.specs.Call.{end, ended}
use Rattle.a2m.specs.ImageCalls.{row_in, misplaced, spent, full, promised, end_kind, end_attested, image_accept}
use Rattle.a2m.specs.TableCalls.{table_refusal, table_step}
use Rattle.table.proofs.Lists.{in_right, Snoc, snoc, ending, last_of-nil, last_of_snoc}
use Rattle.table.proofs.Links.{links-in}
use Rattle.table.proofs.ReserveLaws.{whole-linked}
use Rattle.a2m.proofs.WholeChains.{log-chain}
use Rattle.a2m.proofs.Cases.{accepted-step, no-refusal}
use Rattle.a2m.proofs.ReadLaws.{end-sized}

-- the entry of such a receipt
abbrev pub fresh_end_of : (keeper log : ℕ) → List ℕ → Attestation
fresh_end_of keeper g nonce = record { name = END; kind = 0; log = g; keeper = keeper; position = 0; reference = 0; nonce = nonce; value = zeros 32; digest = zeros 32 }

-- a log without a last slot has H = 0
high_zero : (m : Image) → whole_image m ≡ true → (g : ℕ) → (row_in m g).last ≡ 0 → (row_in m g).high ≡ 0
high_zero m w g z = let r = log-chain m (whole-linked m w) g in go (chain m.slots (suc g) (row_in m g).first) (snoc _) r.links r.last r.top
  where
    go : (c : List ℕ) → Snoc c → Links m.slots (suc g) (row_in m g).first c 0 → (row_in m g).last ≡ last_of c → last_of (positions_of m.slots c) ≡ (row_in m g).high → (row_in m g).high ≡ 0
    go c Snoc.nothing l e t = sym t ∙ last_of-nil
    go c (ending d s) l e t =
        let s1 = (links-in m.slots (suc g) (row_in m g).first (d ++ (s ∷ [])) 0 s l (in_right s d (s ∷ []) (inl refl))).0 in
        absurd (omega (arith, last_of_snoc d s))

attests-fresh : (m : Image) (g : ℕ) (c : List ℕ) → (row_in m g).last ≡ 0 → (row_in m g).high ≡ 0 → end_attested m g c ≡ fresh_end_of m.keeper g c
unfolding end_attested end_kind slot_at
attests-fresh m g c z h =
    ap₂ {C = Attestation} (λ (last high : ℕ). record { name = END; kind = end_kind last; log = g; keeper = m.keeper; position = high; reference = high; nonce = c; value = (slot_at m.slots last).value; digest = (slot_at m.slots last).digest }) z h

-- a whole table, a log of it that has no entry, a nonce of 32 bytes and a receipt of 160: the receipt, and 6 blocks
pub fresh-end : (b : List ℕ) (g : ℕ) (c : List ℕ) → whole b ≡ true → g < logs_of b → (row_in (read_table b) g).last ≡ 0 → length c ≡ 32
    → ((table_step b (end g c 160)).reply ≡ ended (receipt_bytes (read_table b).key (fresh_end_of (read_table b).keeper g c))) × ((table_step b (end g c 160)).blocks ≡ 6)
unfolding misplaced spent full promised image_accept
fresh-end b g c w l z h =
    let m = read_table b in
    let call = end g c 160 in
    let passes : table_refusal b call ≡ none = no-refusal b call (end-sized b c [] g 160 h refl) w (lt-leb (length m.rows) g (omega (arith, length-rows b))) refl refl refl refl in
    let s = accepted-step b call _ _ _ passes refl refl refl in
    (sym s.0 ∙ ap (λ (a : Attestation). ended (receipt_bytes m.key a)) (attests-fresh m g c z (high_zero m (whole-image b w) g z)), sym s.1.0)
