-- What the receipt writer leaves in the lent receipt.
use Rattle.std.specs.Prelude.{ℕ, not, List, [], ◌∷◌, ◌++◌, length, eqb}
use Rattle.std.proofs.Math.Option.{Option}
use Rattle.bigendian.specs.BigEndian.{be}
use Rattle.refusal.specs.Order.{fault, first_fault}
use Rattle.receipt.specs.Attestation.{receipt_size, Attestation, LOOKUP, END}
use Rattle.receipt.specs.declared.Name.{Name}
use Rattle.receipt.specs.declared.Name.TheVariants.{Lookup, End}
use Rattle.receipt.specs.declared.Facts.{Facts}
use Rattle.receipt.specs.declared.Attested.{Attested}

-- "bytes 0–5 the ASCII name LOOKUP, or END and three zero bytes"
unfoldable pub name_bytes : Name → List ℕ
name_bytes Lookup = LOOKUP
name_bytes End = END

-- what a receipt attests: its facts, with the bytes that stand beside them
unfoldable pub attestation_of : Facts → List ℕ → List ℕ → List ℕ → Attestation
attestation_of f nonce value digest = record {
  name = name_bytes f.name;
  kind = f.kind;
  log = f.log;
  keeper = f.keeper;
  position = f.position;
  reference = f.reference;
  nonce = nonce;
  value = value;
  digest = digest;
}

-- the same of the struct that lends them
abbrev pub attested_said : Attested → Attestation
attested_said a = attestation_of a.facts a.nonce.now a.value.now a.digest.now

-- bytes 0–31
unfoldable pub fact_bytes : Facts → List ℕ
fact_bytes f =
    name_bytes f.name ++ (f.kind ∷ f.log ∷ (be 8 f.keeper ++ (be 8 f.position ++ be 8 f.reference)))

-- number 7: "a key, nonce, value, digest, receipt .. of another length than its own"
unfoldable pub write_refusal : List ℕ → List ℕ → List ℕ → List ℕ → List ℕ → Option ℕ
write_refusal key nonce value digest out =
    first_fault
    (fault 7 (not (eqb (length key) 32)) ∷
    fault 7 (not (eqb (length nonce) 32)) ∷
    fault 7 (not (eqb (length value) 32)) ∷
    fault 7 (not (eqb (length digest) 32)) ∷
    fault 7 (not (eqb (length out) receipt_size)) ∷ [])
