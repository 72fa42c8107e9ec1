-- Document 01: "A possible entry", as document 02 changes it. The conditions, and a test of them; proofs/PossibleLaws shows that they agree.
use Rattle.std.specs.Prelude.{ℕ, ◌≤◌, ◌<◌, ◌≡◌, ◌⊎◌, Bool, true, ◌&&◌, ◌||◌, cond, List, eqb, ltb, leb}
use Rattle.octets.specs.Octets.{same, zeros}
use Rattle.receipt.specs.Attestation.{Attestation, LOOKUP, END}

-- "A possible entry has log ≤ 15, n ≥ 1 and: assigned, reference = n; unassigned, reference < n; skipped or forgotten,
-- reference > n; value and digest zero unless assigned; END only with assigned". Document 02, [3]: "Refusal 9 no longer wants zero
-- bytes in a skipped receipt"; one with zero bytes stays possible
pub record Possible (a : Attestation) : Type 0 where
  pub named : (a.name ≡ LOOKUP) ⊎ (a.name ≡ END)
  pub kind : a.kind ≤ 3
  pub log : a.log ≤ 15
  pub position : 1 ≤ a.position
  pub assigned : a.kind ≡ 1 → a.reference ≡ a.position
  pub unassigned : a.kind ≡ 0 → a.reference < a.position
  pub passed : 2 ≤ a.kind → a.position < a.reference
  pub blank : (a.kind ≡ 1 → ⊥) → (a.kind ≡ 2 → ⊥) → (a.value ≡ zeros 32) × (a.digest ≡ zeros 32)
  pub end : a.name ≡ END → a.kind ≡ 1

-- document 02, [6], the end of a fresh log: "an END receipt, kind unassigned, position 0, reference 0, value and digest zero"
pub record FreshEnd (a : Attestation) : Type 0 where
  pub named : a.name ≡ END
  pub unassigned : a.kind ≡ 0
  pub log : a.log ≤ 15
  pub position : a.position ≡ 0
  pub reference : a.reference ≡ 0
  pub value : a.value ≡ zeros 32
  pub digest : a.digest ≡ zeros 32

-- what the verifier admits: "exactly this one entry with position 0" beside those
abbrev pub Admissible : Attestation → Type 0
Admissible a = Possible a ⊎ FreshEnd a

-- "bytes 0–5 the ASCII name LOOKUP, or END and three zero bytes"
unfoldable pub is_name : List ℕ → Bool
is_name n = same n LOOKUP || same n END

-- "assigned, reference = n; unassigned, reference < n; skipped or forgotten, reference > n", of a kind, n and the reference
unfoldable pub reference_fits : ℕ → ℕ → ℕ → Bool
reference_fits kind n reference =
    cond (eqb kind 1) (eqb reference n) (cond (eqb kind 0) (ltb reference n) (leb kind 3 && ltb n reference))

-- value and digest are zero
unfoldable pub is_blank : Attestation → Bool
is_blank a = same a.value (zeros 32) && same a.digest (zeros 32)

-- value and digest zero unless assigned or skipped; "END only with assigned"
unfoldable pub blank_fits : Attestation → Bool
blank_fits a = cond (eqb a.kind 1) true (same a.name LOOKUP && (eqb a.kind 2 || is_blank a))

unfoldable pub fresh_end : Attestation → Bool
fresh_end a = same a.name END && (eqb a.kind 0 && (leb a.log 15 && (eqb a.position 0 && (eqb a.reference 0 && is_blank a))))

-- the test
unfoldable pub possible : Attestation → Bool
possible a =
    fresh_end a
    || (is_name a.name && (leb a.log 15 && (leb 1 a.position && (reference_fits a.kind a.position a.reference && blank_fits a))))
