-- The answers of lookup and end, and the lent receipt after, for each way out. Over plain values: b is the table, old the receipt before, out the one after.
use Prim.Native.Nat.{ℕ, ◌≤◌}
use mathlib.Core.Path.{◌≡◌, refl, sym, ap, ap₂, ◌∙◌}
use mathlib.Core.Logic.{◌≢◌}
use mathlib.Core.List.{List}
use mathlib.Core.Bool.{Bool, true, false, cond, not, ◌||◌}
use mathlib.Core.Option.{none, some}
use native.Mathlib.Omega.{arith}
use lib.ListN.{length}
use lib.Dec.{eqb}
use borrow.Author.Tests.{eq-eqb, ne_eqb}
use Rattle.octets.specs.Octets.{zeros}
use Rattle.refusal.specs.Number.{number_of}
use Rattle.refusal.specs.declared.Refusal.{Refusal}
use Rattle.receipt.specs.declared.Facts.{Facts}
use Rattle.receipt.specs.declared.Name.{Name}
use Rattle.receipt.specs.declared.Name.TheVariants as name
use Rattle.receipt.specs.Attestation.{receipt_bytes}
use Rattle.receipt.specs.Writer.{name_bytes, attestation_of}
use Rattle.layout.specs.declared.Row.{Row}
use Rattle.layout.specs.Image.{slot_at}
use Rattle.layout.specs.Layout.{keeper_of, key_of, read_table}
use Rattle.a2m.specs.declared.View.{View}
use Rattle.a2m.specs.declared.Hit.{Hit}
use Rattle.std.specs.Prelude.{Option, None, Some, IfSome, Err}
use Rattle.receipt.specs.Kind.{kind_number}
use Rattle.a2m.specs.Call.{Call, lookup, end, log_of, Reply, refused, found, ended}
use Rattle.a2m.specs.ImageCalls.{row_in, entries_in, wrong_length, misplaced, spent, full, promised, lookup_attested, end_kind, end_attested, image_accept}
use Rattle.a2m.specs.Search.{Found, looked_up}
use Rattle.a2m.specs.TableCalls.{table_refusal, table_step}
use Rattle.a2m.specs.Opened.{opening_of, Opened, slot_number, found_of, receipt_after}
use Rattle.a2m.proofs.Cases.{refused-step, accepted-step, wrong-length, wrong-position, no-refusal}
use Rattle.a2m.proofs.OpenedLaws.{not_opened, view-row, opened-known}

-- the answer r, the blocks k and the receipt out after the call
abbrev pub Reads : List ℕ → Call → Reply → ℕ → List ℕ → List ℕ → Type 0
Reads b call r k out old = (r ≡ (table_step b call).reply) × ((k ≡ (table_step b call).blocks) × (out ≡ receipt_after (table_step b call).reply old))

read-refused : (b : List ℕ) (call : Call) (old : List ℕ) (k : ℕ) → table_refusal b call ≡ some k → Reads b call (refused k) 0 old old
unfolding receipt_after
read-refused b call old k e = let p = refused-step b call k e in (p.0, (p.1.0, ap (λ (r : Reply). receipt_after r old) p.0))

pub read_unopened : (b : List ℕ) (g : ℕ) (w : Refusal) (call : Call) (old : List ℕ) → Err w ≡ opening_of b g → log_of call ≡ g → wrong_length call ≡ false → Reads b call (refused (number_of w)) 0 old old
read_unopened b g w call old e l s = read-refused b call old (number_of w) (not_opened b g w e call l s)

read-accepted : (b : List ℕ) (call : Call) (r : Reply) (k : ℕ) (out old : List ℕ) → table_refusal b call ≡ none → r ≡ (image_accept (read_table b) call).reply → k ≡ (image_accept (read_table b) call).blocks
    → receipt_after r old ≡ out → Reads b call r k out old
read-accepted b call r k out old e p w q =
    let s = accepted-step b call r k _ e p w refl in
    (s.0, (s.1.0, sym q ∙ ap (λ (x : Reply). receipt_after x old) s.0))

-- 7: the nonce, or the lent receipt
wrong-nonce : (c : List ℕ) (k : ℕ) → length c ≢ 32 → not (eqb (length c) 32) || not (eqb k 160) ≡ true
wrong-nonce c k h = ap (λ (t : Bool). not t || not (eqb k 160)) (ne_eqb (length c) 32 h)

wrong-receipt : (c : List ℕ) (k : ℕ) → length c ≡ 32 → k ≢ 160 → not (eqb (length c) 32) || not (eqb k 160) ≡ true
wrong-receipt c k h n = ap₂ (λ (t u : Bool). not t || not u) (eq-eqb (length c) 32 h) (ne_eqb k 160 n)

both_right : (c : List ℕ) (k : ℕ) → length c ≡ 32 → k ≡ 160 → not (eqb (length c) 32) || not (eqb k 160) ≡ false
both_right c k h e = ap₂ (λ (t u : Bool). not t || not u) (eq-eqb (length c) 32 h) (eq-eqb k 160 e)

-- ---- the receipt

abbrev facts : Name → ℕ → ℕ → ℕ → ℕ → ℕ → Facts
facts n kind log keeper position reference = record { name = n; kind = kind; log = log; keeper = keeper; position = position; reference = reference }

module _ (b : List ℕ) (f : Facts) (nonce k x d out : List ℕ) (ek : k ≡ key_of b) (e : out ≡ receipt_bytes k (attestation_of f nonce x d)) where
  pub attest-slot : (shown : Option ℕ) → x ≡ (slot_at (read_table b).slots (slot_number shown)).value → d ≡ (slot_at (read_table b).slots (slot_number shown)).digest
      → out ≡ receipt_bytes (read_table b).key (attestation_of f nonce (slot_at (read_table b).slots (slot_number shown)).value (slot_at (read_table b).slots (slot_number shown)).digest)
  unfolding read_table
  attest-slot shown ex ed = e ∙ ap₂ receipt_bytes ek (ap₂ (attestation_of f nonce) ex ed)

  pub attest-none : (shown : Option ℕ) → shown ≡ None → x ≡ zeros 32 → d ≡ zeros 32
      → out ≡ receipt_bytes (read_table b).key (attestation_of f nonce (slot_at (read_table b).slots (slot_number shown)).value (slot_at (read_table b).slots (slot_number shown)).digest)
  unfolding slot_at
  attest-none shown z ex ed =
      attest-slot shown
      (ex ∙ ap (λ (t : Option ℕ). (slot_at (read_table b).slots (slot_number t)).value) (sym z))
      (ed ∙ ap (λ (t : Option ℕ). (slot_at (read_table b).slots (slot_number t)).digest) (sym z))

  pub attest-shown : (shown : Option ℕ) (s : ℕ) → shown ≡ Some s → x ≡ (slot_at (read_table b).slots s).value → d ≡ (slot_at (read_table b).slots s).digest
      → out ≡ receipt_bytes (read_table b).key (attestation_of f nonce (slot_at (read_table b).slots (slot_number shown)).value (slot_at (read_table b).slots (slot_number shown)).digest)
  attest-shown shown s h ex ed =
      attest-slot shown
      (ex ∙ ap (λ (t : Option ℕ). (slot_at (read_table b).slots (slot_number t)).value) (sym h))
      (ed ∙ ap (λ (t : Option ℕ). (slot_at (read_table b).slots (slot_number t)).digest) (sym h))

-- what the facts attest is what the definitions say
of_end : (b c : List ℕ) (v : View) (keeper : ℕ) → v.row ≡ row_in (read_table b) v.log → keeper ≡ keeper_of b
    → attestation_of (facts name.End (end_kind v.row.last) v.log keeper v.row.high v.row.high) c (slot_at (read_table b).slots v.row.last).value (slot_at (read_table b).slots v.row.last).digest ≡ end_attested (read_table b) v.log c
unfolding attestation_of name_bytes end_attested read_table
of_end b c v keeper er ek =
    ap₂ (λ (w : Row) (k : ℕ). attestation_of (facts name.End (end_kind w.last) v.log k w.high w.high) c (slot_at (read_table b).slots w.last).value (slot_at (read_table b).slots w.last).digest) er ek

of-lookup : (b c : List ℕ) (v : View) (n : ℕ) (hit : Hit) (keeper : ℕ) → keeper ≡ keeper_of b
    → attestation_of (facts name.Lookup (kind_number hit.kind) v.log keeper n hit.reference) c (slot_at (read_table b).slots (slot_number hit.slot)).value (slot_at (read_table b).slots (slot_number hit.slot)).digest ≡ lookup_attested (read_table b) v.log n c (found_of (read_table b).slots hit)
unfolding attestation_of name_bytes lookup_attested read_table
of-lookup b c v n hit keeper ek =
    ap (λ (k : ℕ). attestation_of (facts name.Lookup (kind_number hit.kind) v.log k n hit.reference) c (slot_at (read_table b).slots (slot_number hit.slot)).value (slot_at (read_table b).slots (slot_number hit.slot)).digest) ek

-- ---- end

pub kind-none : (last : Option ℕ) → last ≡ None → 0 ≡ end_kind (slot_number last)
unfolding end_kind
kind-none None e = refl
kind-none (Some s) e = cc

pub kind-some : (last : Option ℕ) {s : ℕ} → last ≡ Some s → IfSome last (λ (t : ℕ). 1 ≤ t) → 1 ≡ end_kind (slot_number last)
unfolding end_kind
kind-some None e h = cc
kind-some (Some s) e h = sym (ap (λ (z : Bool). cond z 0 1) (ne_eqb s 0 (λ (z : s ≡ 0). omega arith)))

module _ (b c old : List ℕ) where
  pub end-sized : (g k : ℕ) → length c ≡ 32 → k ≡ 160 → wrong_length (end g c k) ≡ false
  unfolding wrong_length
  end-sized g k h e = both_right c k h e

  pub end-nonce : (g : ℕ) → length c ≢ 32 → Reads b (end g c (length old)) (refused 7) 0 old old
  unfolding wrong_length
  end-nonce g h = read-refused b (end g c (length old)) old 7 (wrong-length b (end g c (length old)) (wrong-nonce c (length old) h))

  pub end-receipt : (g : ℕ) → length c ≡ 32 → length old ≢ 160 → Reads b (end g c (length old)) (refused 7) 0 old old
  unfolding wrong_length
  end-receipt g h n = read-refused b (end g c (length old)) old 7 (wrong-length b (end g c (length old)) (wrong-receipt c (length old) h n))

  module _ (v : View) (o : Opened b v) (h : length c ≡ 32) (k : length old ≡ 160) where
    pub end-done : (kind keeper w last : ℕ) (out : List ℕ) → last ≡ v.row.last → kind ≡ end_kind last → keeper ≡ keeper_of b → w ≡ 6
        → out ≡ receipt_bytes (read_table b).key (attestation_of (facts name.End kind v.log keeper v.row.high v.row.high) c (slot_at (read_table b).slots last).value (slot_at (read_table b).slots last).digest)
        → Reads b (end v.log c (length old)) (ended out) w out old
    unfolding misplaced spent full promised image_accept receipt_after
    end-done kind keeper w last out el en ek ew e =
        let call = end v.log c (length old) in
        let m = read_table b in
        read-accepted b call (ended out) w out old
        (no-refusal b call (end-sized v.log (length old) h k) o.whole (opened-known b v o) refl refl refl refl)
        (ap ended (e ∙ ap (receipt_bytes m.key) (ap₂ (λ (t s : ℕ). attestation_of (facts name.End t v.log keeper v.row.high v.row.high) c (slot_at m.slots s).value (slot_at m.slots s).digest) (en ∙ ap end_kind el) el ∙ of_end b c v keeper (view-row b v o) ek)))
        ew
        refl

-- ---- lookup

module _ (b c old : List ℕ) (n : ℕ) where
  pub lookup-sized : (g k : ℕ) → length c ≡ 32 → k ≡ 160 → wrong_length (lookup g n c k) ≡ false
  unfolding wrong_length
  lookup-sized g k h e = both_right c k h e

  pub lookup-nonce : (g : ℕ) → length c ≢ 32 → Reads b (lookup g n c (length old)) (refused 7) 0 old old
  unfolding wrong_length
  lookup-nonce g h = read-refused b (lookup g n c (length old)) old 7 (wrong-length b (lookup g n c (length old)) (wrong-nonce c (length old) h))

  pub lookup-receipt : (g : ℕ) → length c ≡ 32 → length old ≢ 160 → Reads b (lookup g n c (length old)) (refused 7) 0 old old
  unfolding wrong_length
  lookup-receipt g h k = read-refused b (lookup g n c (length old)) old 7 (wrong-length b (lookup g n c (length old)) (wrong-receipt c (length old) h k))

  module _ (v : View) (o : Opened b v) (h : length c ≡ 32) (k : length old ≡ 160) where
    pub lookup-zero : n ≡ 0 → Reads b (lookup v.log n c (length old)) (refused 3) 0 old old
    unfolding misplaced
    lookup-zero e =
        let call = lookup v.log n c (length old) in
        read-refused b call old 3 (wrong-position b call (lookup-sized v.log (length old) h k) o.whole (opened-known b v o) (eq-eqb n 0 e))

    pub lookup-done : n ≢ 0 → (hit : Hit) (kind keeper w : ℕ) (out : List ℕ) → kind ≡ kind_number hit.kind → found_of (read_table b).slots hit ≡ looked_up v.row (entries_in (read_table b) v.log) n → keeper ≡ keeper_of b → w ≡ 6
        → out ≡ receipt_bytes (read_table b).key (attestation_of (facts name.Lookup kind v.log keeper n hit.reference) c (slot_at (read_table b).slots (slot_number hit.slot)).value (slot_at (read_table b).slots (slot_number hit.slot)).digest)
        → Reads b (lookup v.log n c (length old)) (found out hit.examined) w out old
    unfolding misplaced spent full promised image_accept receipt_after
    lookup-done z hit kind keeper w out en eh ek ew e =
        let call = lookup v.log n c (length old) in
        let m = read_table b in
        let f : found_of m.slots hit ≡ looked_up (row_in m v.log) (entries_in m v.log) n = eh ∙ ap (λ (r : Row). looked_up r (entries_in m v.log) n) (view-row b v o) in
        read-accepted b call (found out hit.examined) w out old
        (no-refusal b call (lookup-sized v.log (length old) h k) o.whole (opened-known b v o) (ne_eqb n 0 z) refl refl refl)
        (ap (λ (x : List ℕ). found x hit.examined) (e ∙ ap (receipt_bytes m.key) (ap (λ (t : ℕ). attestation_of (facts name.Lookup t v.log keeper n hit.reference) c (slot_at m.slots (slot_number hit.slot)).value (slot_at m.slots (slot_number hit.slot)).digest) en ∙ of-lookup b c v n hit keeper ek)) ∙ ap (λ (y : Found). found (receipt_bytes m.key (lookup_attested m v.log n c y)) y.examined) f)
        ew
        refl
