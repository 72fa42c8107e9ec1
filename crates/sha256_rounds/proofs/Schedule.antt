-- The window of 16 words that moves on with the rounds computes the rounds over the message schedule.
--
use Rattle.std.proofs.Common.{◌≡◌, ℕ, zero, suc, ◌+◌, ◌-◌, ◌<◌, ◌≤◌, List, [], ◌∷◌, length, get_or, take, sym, refl, ap, ◌∙◌, ap₂, add-zero, add_assoc, add-suc, zero-add, add-one, arith, length-append, take_all}
use lib.ListN.{get_or-append}
use lib.Seq.{get_or_at, take-append-le}
use Rattle.octets.proofs.Parts.{run, part-run}
use Rattle.sha256.specs.Words.{◌⊞◌, σ0, σ1}
use Rattle.sha256.specs.Sha256.{K, words, next, schedule, round, rounds}
use Rattle.sha256_rounds.specs.Window.{slid, turned, turns, last_rounds}
use Rattle.sha256_rounds.specs.declared.Window.{Window}

pub length-words : (t : ℕ) (b : List ℕ) → length (words t b) ≡ t
unfolding words
length-words zero b = refl
length-words (suc t) b = simp length-append (omega (arith, length-words t b))

length-schedule : (n : ℕ) (m : List ℕ) → length (schedule n m) ≡ length m + n
unfolding schedule
length-schedule zero m = sym (add-zero (length m))
length-schedule (suc n) m = simp length-append (omega (arith, length-schedule n m))

-- the words that are there stay as the schedule grows
prefix : (m : List ℕ) (n d i : ℕ) → i < length m + n → get_or (schedule (n + d) m) i 0 ≡ get_or (schedule n m) i 0
unfolding schedule
prefix m n zero i h = ap (λ (k : ℕ). get_or (schedule k m) i 0) (add-zero n)
prefix m n (suc d) i h =
    ap (λ (k : ℕ). get_or (schedule k m) i 0) (add-suc n d)
    ∙ get_or-append (schedule (n + d) m) (next (n + d) (schedule (n + d) m) ∷ []) 0 i (omega (arith, length-schedule (n + d) m))
    ∙ prefix m n d i h

sucs : ℕ → ℕ → ℕ
sucs zero t = t
sucs (suc n) t = sucs n (suc t)

sucs-add : (n t : ℕ) → sucs n t ≡ t + n
unfolding sucs
sucs-add zero t = sym (add-zero t)
sucs-add (suc n) t = sucs-add n (suc t) ∙ omega arith

abbrev window : List ℕ → List ℕ → Window
window v w = record { v = v; w = w }

module _ (m : List ℕ) (sixteen : length m ≡ 16) where
  W : List ℕ
  W = schedule 48 m

  early : (t i : ℕ) → t ≤ 48 → i < 16 + t → get_or W i 0 ≡ get_or (schedule t m) i 0
  unfolding W
  early t i ht hi =
      let e : t + (48 - t) ≡ 48 = omega arith in
      ap (λ (k : ℕ). get_or (schedule k m) i 0) (sym e) ∙ prefix m t (48 - t) i (omega arith)

  mix : ℕ → ℕ → ℕ → ℕ → ℕ
  mix a b d e = σ1 (get_or W a 0) ⊞ get_or W b 0 ⊞ σ0 (get_or W d 0) ⊞ get_or W e 0

  -- the rule of the schedule, of the whole schedule
  rule : (t : ℕ) → t < 48 → get_or W (t + 16) 0 ≡ mix (t + 14) (t + 9) (t + 1) t
  unfolding mix schedule next
  rule t h =
      early (suc t) (t + 16) h (omega arith)
      ∙ get_or_at (schedule t m) (next t (schedule t m)) [] 0 (t + 16) (omega (arith, length-schedule t m))
      ∙ rw (early t (t + 14) (omega arith) (omega arith), early t (t + 9) (omega arith) (omega arith), early t (t + 1) (omega arith) (omega arith), early t t (omega arith) (omega arith))

  rule-suc : (t : ℕ) → t < 48 → get_or W (sucs 16 t) 0 ≡ mix (sucs 14 t) (sucs 9 t) (sucs 1 t) t
  rule-suc t h = rw (sucs-add 16 t, sucs-add 14 t, sucs-add 9 t, sucs-add 1 t) (rule t h)

  take-schedule : (n : ℕ) → take 16 (schedule n m) ≡ m
  unfolding schedule
  take-schedule zero = take_all 16 m (omega arith)
  take-schedule (suc n) =
      take-append-le 16 (schedule n m) (next n (schedule n m) ∷ []) (omega (arith, length-schedule n m)) ∙ take-schedule n

  first : run 16 0 W ≡ m
  unfolding W
  first = sym (part-run 16 0 (schedule 48 m) (omega (arith, length-schedule 48 m))) ∙ take-schedule 48

  module _ (h : List ℕ) where
    -- what the window holds after t rounds
    at : ℕ → Window
    at t = record { v = rounds t h W; w = run 16 t W }

    step : (t : ℕ) → t < 48 → turned (at t) (get_or K t 0) ≡ at (t + 1)
    unfolding at turned slid rounds sucs mix
    step t k = ap₂ window refl (rw (rule-suc t k) refl) ∙ ap at (sym (add-one t))

    turns-are : (n : ℕ) → n ≤ 48 → turns n (at 0) 0 ≡ at n
    unfolding turns
    turns-are zero k = refl
    turns-are (suc n) k =
        ap₂ turned (turns-are n (omega arith)) (ap (λ (i : ℕ). get_or K i 0) (zero-add n)) ∙ step n (omega arith) ∙ ap at (add-one n)

    start : window h m ≡ at 0
    unfolding at rounds
    start = ap (window h) (sym first)

    last : last_rounds 16 (rounds 48 h W) (run 16 48 W) 0 ≡ rounds 64 h W
    unfolding last_rounds rounds
    last = refl

    -- the rounds that the program computes are those of the standard
    pub all-rounds : last_rounds 16 (turns 48 (record { v = h; w = m }) 0).v (turns 48 (record { v = h; w = m }) 0).w 0 ≡ rounds 64 h (schedule 48 m)
    unfolding W at
    all-rounds = ap (λ (s : Window). last_rounds 16 s.v s.w 0) (ap (λ (s : Window). turns 48 s 0) start ∙ turns-are 48 (omega arith)) ∙ last

-- unrolling by doubling: n turns after m are m + n, and so of the last rounds

turns_more : (m n : ℕ) (s : Window) (t : ℕ) → turns n (turns m s t) (t + m) ≡ turns (m + n) s t
unfolding turns
turns_more m zero s t = ap (λ (k : ℕ). turns k s t) (sym (add-zero m))
turns_more m (suc n) s t =
    ap₂ turned (turns_more m n s t) (ap (λ (i : ℕ). get_or K i 0) (add_assoc t m n)) ∙ ap (λ (k : ℕ). turns k s t) (sym (add-suc m n))

pub turns-join : (m n : ℕ) {q r : Window} (s : Window) (t : ℕ) → q ≡ turns m s t → r ≡ turns n q (t + m) → r ≡ turns (m + n) s t
turns-join m n s t p e = e ∙ ap (λ (u : Window). turns n u (t + m)) p ∙ turns_more m n s t

rounds-more : (m n : ℕ) (v w : List ℕ) (t : ℕ) → last_rounds n (last_rounds m v w t) w (t + m) ≡ last_rounds (m + n) v w t
unfolding last_rounds
rounds-more m zero v w t = ap (λ (k : ℕ). last_rounds k v w t) (sym (add-zero m))
rounds-more m (suc n) v w t =
    ap₂ (λ (u : List ℕ) (i : ℕ). round u (get_or K (48 + i) 0) (get_or w i 0)) (rounds-more m n v w t) (add_assoc t m n)
    ∙ ap (λ (k : ℕ). last_rounds k v w t) (sym (add-suc m n))

pub rounds-join : (m n : ℕ) {q r : List ℕ} (v w : List ℕ) (t : ℕ) → q ≡ last_rounds m v w t → r ≡ last_rounds n q w (t + m) → r ≡ last_rounds (m + n) v w t
rounds-join m n v w t p e = e ∙ ap (λ (u : List ℕ). last_rounds n u w (t + m)) p ∙ rounds-more m n v w t
