-- SHA-256 of FIPS 180-4: constants (4.2.2, 5.3.3), padding (5.1.1), and the computation (6.2).
-- A byte is a number below 256, a word a number below 2^32, most significant byte first.
--
use Rattle.std.specs.Prelude.{ℕ, zero, suc, ◌+◌, ◌-◌, ◌*◌, ◌/◌, ◌%◌, List, [], ◌∷◌, ◌++◌, length, get_or, take, drop, replicate}
use Rattle.bigendian.specs.BigEndian.{be, unbe}
use Rattle.sha256.specs.Words.{◌⊞◌, Ch, Maj, Σ0, Σ1, σ0, σ1}

-- the 64 constants of the rounds
unfoldable pub K : List ℕ
K =
    0x428a_2f98 ∷ 0x7137_4491 ∷ 0xb5c0_fbcf ∷ 0xe9b5_dba5 ∷ 0x3956_c25b ∷ 0x59f1_11f1 ∷ 0x923f_82a4 ∷ 0xab1c_5ed5 ∷
    0xd807_aa98 ∷ 0x1283_5b01 ∷ 0x2431_85be ∷ 0x550c_7dc3 ∷ 0x72be_5d74 ∷ 0x80de_b1fe ∷ 0x9bdc_06a7 ∷ 0xc19b_f174 ∷
    0xe49b_69c1 ∷ 0xefbe_4786 ∷ 0x0fc1_9dc6 ∷ 0x240c_a1cc ∷ 0x2de9_2c6f ∷ 0x4a74_84aa ∷ 0x5cb0_a9dc ∷ 0x76f9_88da ∷
    0x983e_5152 ∷ 0xa831_c66d ∷ 0xb003_27c8 ∷ 0xbf59_7fc7 ∷ 0xc6e0_0bf3 ∷ 0xd5a7_9147 ∷ 0x06ca_6351 ∷ 0x1429_2967 ∷
    0x27b7_0a85 ∷ 0x2e1b_2138 ∷ 0x4d2c_6dfc ∷ 0x5338_0d13 ∷ 0x650a_7354 ∷ 0x766a_0abb ∷ 0x81c2_c92e ∷ 0x9272_2c85 ∷
    0xa2bf_e8a1 ∷ 0xa81a_664b ∷ 0xc24b_8b70 ∷ 0xc76c_51a3 ∷ 0xd192_e819 ∷ 0xd699_0624 ∷ 0xf40e_3585 ∷ 0x106a_a070 ∷
    0x19a4_c116 ∷ 0x1e37_6c08 ∷ 0x2748_774c ∷ 0x34b0_bcb5 ∷ 0x391c_0cb3 ∷ 0x4ed8_aa4a ∷ 0x5b9c_ca4f ∷ 0x682e_6ff3 ∷
    0x748f_82ee ∷ 0x78a5_636f ∷ 0x84c8_7814 ∷ 0x8cc7_0208 ∷ 0x90be_fffa ∷ 0xa450_6ceb ∷ 0xbef9_a3f7 ∷ 0xc671_78f2 ∷ []

-- the initial hash value
unfoldable pub H0 : List ℕ
H0 =
    0x6a09_e667 ∷ 0xbb67_ae85 ∷ 0x3c6e_f372 ∷ 0xa54f_f53a ∷ 0x510e_527f ∷ 0x9b05_688c ∷ 0x1f83_d9ab ∷ 0x5be0_cd19 ∷ []

-- the first t words of a block
unfoldable pub words : ℕ → List ℕ → List ℕ
words zero b = []
words (suc t) b = words t b ++ (unbe (take 4 (drop (t * 4) b)) ∷ [])

-- the word W_(n + 16) of the schedule, from the words before it
unfoldable pub next : ℕ → List ℕ → ℕ
next n w = σ1 (get_or w (n + 14) 0) ⊞ get_or w (n + 9) 0 ⊞ σ0 (get_or w (n + 1) 0) ⊞ get_or w n 0

-- the message schedule: 16 words of a block, and n more
unfoldable pub schedule : ℕ → List ℕ → List ℕ
schedule zero m = m
schedule (suc n) m = schedule n m ++ (next n (schedule n m) ∷ [])

-- the working variables a to h are the elements 0 to 7 of v
unfoldable pub T1 : List ℕ → ℕ → ℕ → ℕ
T1 v k w = get_or v 7 0 ⊞ Σ1 (get_or v 4 0) ⊞ Ch (get_or v 4 0) (get_or v 5 0) (get_or v 6 0) ⊞ k ⊞ w

unfoldable pub T2 : List ℕ → ℕ
T2 v = Σ0 (get_or v 0 0) ⊞ Maj (get_or v 0 0) (get_or v 1 0) (get_or v 2 0)

-- one round, with the constant k and the word w
unfoldable pub round : List ℕ → ℕ → ℕ → List ℕ
round v k w =
    T1 v k w ⊞ T2 v ∷ get_or v 0 0 ∷ get_or v 1 0 ∷ get_or v 2 0 ∷
    get_or v 3 0 ⊞ T1 v k w ∷ get_or v 4 0 ∷ get_or v 5 0 ∷ get_or v 6 0 ∷ []

-- the first t rounds, over the schedule w
unfoldable pub rounds : ℕ → List ℕ → List ℕ → List ℕ
rounds zero v w = v
rounds (suc t) v w = round (rounds t v w) (get_or K t 0) (get_or w t 0)

-- word by word sums of the hash value and the working variables
unfoldable pub added : List ℕ → List ℕ → List ℕ
added h v =
    get_or h 0 0 ⊞ get_or v 0 0 ∷ get_or h 1 0 ⊞ get_or v 1 0 ∷ get_or h 2 0 ⊞ get_or v 2 0 ∷ get_or h 3 0 ⊞ get_or v 3 0 ∷
    get_or h 4 0 ⊞ get_or v 4 0 ∷ get_or h 5 0 ⊞ get_or v 5 0 ∷ get_or h 6 0 ⊞ get_or v 6 0 ∷ get_or h 7 0 ⊞ get_or v 7 0 ∷ []

-- the hash value after a block of 64 bytes
unfoldable pub compress : List ℕ → List ℕ → List ℕ
compress h b = added h (rounds 64 h (schedule 48 (words 16 b)))

-- the hash value after the first n blocks of m
unfoldable pub blocks : ℕ → List ℕ → List ℕ → List ℕ
blocks zero h m = h
blocks (suc i) h m = compress (blocks i h m) (take 64 (drop (i * 64) m))

-- what follows a message of n bytes: the bit 1, the fewest zeros that fill whole blocks, the length in bits
unfoldable pub padding : ℕ → List ℕ
padding n = 128 ∷ replicate ((119 - n % 64) % 64) 0 ++ be 8 (n * 8)

unfoldable pub pad : List ℕ → List ℕ
pad m = m ++ padding (length m)

-- the bytes of words
unfoldable pub bytes : List ℕ → List ℕ
bytes [] = []
bytes (w ∷ ws) = be 4 w ++ bytes ws

-- how many blocks the padded message has
unfoldable pub block_count : List ℕ → ℕ
block_count m = length (pad m) / 64

unfoldable pub sha256 : List ℕ → List ℕ
sha256 m = bytes (blocks (block_count m) H0 (pad m))
