-- The 160 bytes of a receipt (document 01, "Receipt bytes"): what they say, how it is written, how it is read.
use Rattle.std.specs.Prelude.{ℕ, ◌<◌, ◌^◌, ◌≡◌, List, [], ◌∷◌, ◌++◌, length, get_or}
use Rattle.octets.specs.Octets.{part}
use Rattle.bigendian.specs.BigEndian.{be, unbe}
use Rattle.hmac.specs.Hmac.{hmac}

-- the size of a receipt
abbrev pub receipt_size : ℕ
receipt_size = 160

-- what a receipt attests: document 01's "entry" of a receipt. Kinds: 0 unassigned, 1 assigned, 2 skipped, 3 forgotten
pub record Attestation : Type 0 where
  pub name : List ℕ
  pub kind : ℕ
  pub log : ℕ
  pub keeper : ℕ
  pub position : ℕ
  pub reference : ℕ
  pub nonce : List ℕ
  pub value : List ℕ
  pub digest : List ℕ

-- "bytes 0–5 the ASCII name LOOKUP, or END and three zero bytes"
unfoldable pub LOOKUP : List ℕ
LOOKUP = 76 ∷ 79 ∷ 79 ∷ 75 ∷ 85 ∷ 80 ∷ []

unfoldable pub END : List ℕ
END = 69 ∷ 78 ∷ 68 ∷ 0 ∷ 0 ∷ 0 ∷ []

-- bytes 0–127: "6 kind; 7 log; 8–15 keeper; 16–23 position n; 24–31 reference; 32–63 nonce; 64–95 value; 96–127 digest"
unfoldable pub attested_bytes : Attestation → List ℕ
attested_bytes a =
    a.name ++ (a.kind ∷ a.log ∷ (be 8 a.keeper ++ (be 8 a.position ++ (be 8 a.reference ++ (a.nonce ++ (a.value ++ a.digest))))))

-- "HMAC-SHA-256 of bytes 0–127 under the key follows"
unfoldable pub receipt_bytes : List ℕ → Attestation → List ℕ
receipt_bytes key a = attested_bytes a ++ hmac key (attested_bytes a)

-- what bytes say
unfoldable pub read_attestation : List ℕ → Attestation
read_attestation b = record {
  name = part b 0 6;
  kind = get_or b 6 0;
  log = get_or b 7 0;
  keeper = unbe (part b 8 8);
  position = unbe (part b 16 8);
  reference = unbe (part b 24 8);
  nonce = part b 32 32;
  value = part b 64 32;
  digest = part b 96 32;
}

-- its value and digest, on end
unfoldable pub pair_in : List ℕ → List ℕ
pair_in b = (read_attestation b).value ++ (read_attestation b).digest

-- bytes 0–127, and the tag behind them
abbrev pub attested_in : List ℕ → List ℕ
attested_in b = part b 0 128

abbrev pub tag_in : List ℕ → List ℕ
tag_in b = part b 128 32

-- every field fits its bytes
pub record Sized (a : Attestation) : Type 0 where
  pub name : length a.name ≡ 6
  pub keeper : a.keeper < 2 ^ 64
  pub position : a.position < 2 ^ 64
  pub reference : a.reference < 2 ^ 64
  pub nonce : length a.nonce ≡ 32
  pub value : length a.value ≡ 32
  pub digest : length a.digest ≡ 32
