-- What the code's ways out say in the contracts' words: a refusal before anything is hashed, or what a law says of the reply, the blocks and the bytes.
use Prim.Native.Nat.{ℕ}
use mathlib.Core.Path.{◌≡◌, ap, subst, ◌∙◌}
use mathlib.Core.List.{List}
use Rattle.std.specs.Prelude.{Result, Ok, Err}
use Rattle.std.specs.Result.{IsErr, IsErrAnd}
use Rattle.refusal.specs.Number.{number_of}
use Rattle.refusal.specs.Work.{worked_blocks, unhashed}
use Rattle.refusal.specs.declared.Refusal.{Refusal}
use Rattle.refusal.specs.declared.Hashed.{Hashed}
use Rattle.refusal.specs.declared.Refused.{Refused}
use Rattle.a2m.specs.declared.Bounds.{Bounds}
use Rattle.a2m.specs.Call.{Call, Reply, refused, Effect}
use Rattle.a2m.specs.TableCalls.{table_step}
use Rattle.a2m.specs.Opened.{change_reply, change_blocks, finding_reply, finding_blocks, end_reply, receipt_after, Changed, Looked, Ended}

-- the error that a `?` hands on, and the one that it makes of a refusal
pub as_same : {T : Type 0} (r : Result T Refusal) {w : Refusal} → IsErr r × IsErrAnd r (λ (x : Refusal). x ≡ w) → r ≡ Err w
as_same (Ok v) h = absurd h.1
as_same (Err e) h = ap Err h.1

pub as_err : {T : Type 0} (r : Result T Refused) {w : Refusal} → IsErr r × IsErrAnd r (λ (x : Refused). x ≡ unhashed w) → r ≡ Err (unhashed w)
as_err (Ok v) h = absurd h.1
as_err (Err e) h = ap Err h.1

module _ (e : Effect (List ℕ)) where
  abbrev pub Leaves : Reply → ℕ → List ℕ → Type 0
  Leaves r k a = (r ≡ e.reply) × ((k ≡ e.blocks) × (a ≡ e.state))

  abbrev pub Shows : Reply → ℕ → List ℕ → List ℕ → Type 0
  Shows r k out old = (r ≡ e.reply) × ((k ≡ e.blocks) × (out ≡ receipt_after e.reply old))

  -- a receipt that was lent and came back as it was
  pub came_back : {r : Reply} {k : ℕ} {out old : List ℕ} → out ≡ old → Shows r k old old → Shows r k out old
  came_back f s = (s.0, (s.1.0, f ∙ s.1.1))

  pub changed : (r : Result (Hashed Bounds) Refused) {a : List ℕ} → Leaves (change_reply r) (change_blocks r) a → Changed e r a
  changed r s = record { answer = s.0; blocks = s.1.0; bytes = s.1.1 }

  pub looked : (r : Result (Hashed ℕ) Refused) {old out : List ℕ} → Shows (finding_reply r out) (finding_blocks r) out old → Looked e r old out
  looked r s = record { answer = s.0; blocks = s.1.0; bytes = s.1.1 }

  pub ended : (r : Result (Hashed Unit) Refused) {old out : List ℕ} → Shows (end_reply r out) (worked_blocks r) out old → Ended e r old out
  ended r s = record { answer = s.0; blocks = s.1.0; bytes = s.1.1 }

  -- refused before anything is hashed
  pub changed_not : {w : Refusal} (r : Result (Hashed Bounds) Refused) {a : List ℕ} → r ≡ Err (unhashed w) → Leaves (refused (number_of w)) 0 a → Changed e r a
  changed_not r h s = record { answer = ap change_reply h ∙ s.0; blocks = ap change_blocks h ∙ s.1.0; bytes = s.1.1 }

  pub looked_not : {w : Refusal} (r : Result (Hashed ℕ) Refused) {old out : List ℕ} → r ≡ Err (unhashed w) → Shows (refused (number_of w)) 0 out old → Looked e r old out
  looked_not r {old} {out} h s = record { answer = ap (λ (x : Result (Hashed ℕ) Refused). finding_reply x out) h ∙ s.0; blocks = ap finding_blocks h ∙ s.1.0; bytes = s.1.1 }

  pub ended_not : {w : Refusal} (r : Result (Hashed Unit) Refused) {old out : List ℕ} → r ≡ Err (unhashed w) → Shows (refused (number_of w)) 0 out old → Ended e r old out
  ended_not r {old} {out} h s = record { answer = ap (λ (x : Result (Hashed Unit) Refused). end_reply x out) h ∙ s.0; blocks = ap (λ (x : Result (Hashed Unit) Refused). worked_blocks x) h ∙ s.1.0; bytes = s.1.1 }

-- the same call, by equal arguments, and the same receipt before it
pub same-change : (b : List ℕ) {c d : Call} {r : Result (Hashed Bounds) Refused} {a : List ℕ} → c ≡ d → Changed (table_step b c) r a → Changed (table_step b d) r a
same-change b {c} {d} {r} {a} e h = subst (λ (x : Call). Changed (table_step b x) r a) e h

pub same-look : (b : List ℕ) {c d : Call} {r : Result (Hashed ℕ) Refused} {old old' out : List ℕ} → c ≡ d → old ≡ old' → Looked (table_step b c) r old out → Looked (table_step b d) r old' out
same-look b {c} {d} {r} {old} {old'} {out} e f h = subst (λ (x : List ℕ). Looked (table_step b d) r x out) f (subst (λ (x : Call). Looked (table_step b x) r old out) e h)

pub same-end : (b : List ℕ) {c d : Call} {r : Result (Hashed Unit) Refused} {old old' out : List ℕ} → c ≡ d → old ≡ old' → Ended (table_step b c) r old out → Ended (table_step b d) r old' out
same-end b {c} {d} {r} {old} {old'} {out} e f h = subst (λ (x : List ℕ). Ended (table_step b d) r x out) f (subst (λ (x : Call). Ended (table_step b x) r old out) e h)
