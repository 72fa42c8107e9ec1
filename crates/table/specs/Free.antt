-- Request [4]: "the free chain is a queue: its first slot is taken, and freed ones join its end. Formatting queues slots 1 to S in rising order, and truncate queues its slots by rising position."
use Rattle.std.specs.Prelude.{ℕ, zero, suc, List, [], ◌∷◌, cond, length, ltb}
use Rattle.layout.specs.Image.{Image, Slot, slot_at, free_slot}
use Rattle.layout.specs.Layout.{Stock, stocked, write_with}
use Rattle.layout.specs.Lists.{tabulate}
use Rattle.table.specs.Chains.{chain, last_of}

-- the free slots, the first to be taken in front
abbrev pub free_chain : Image → List ℕ
free_chain m = chain m.slots 0 m.free

-- the slot that is taken, and the first free slot after that
abbrev pub taken : Image → ℕ
taken m = m.free

abbrev pub after_taken : Image → ℕ
after_taken m = (slot_at m.slots (taken m)).next

-- the slot behind which freed slots join; 0 where none is free
abbrev pub joint : Image → ℕ
joint m = last_of (free_chain m)

-- the stock that an image has: request [1], "On a whole table it equals the length of the free chain"; request [4], "naming the last free slot, 0 if none"
abbrev pub stock_in : Image → Stock
stock_in m = stocked (length (free_chain m)) (joint m)

-- the bytes of an image
unfoldable pub write_table : Image → List ℕ
write_table m = write_with (stock_in m) m

-- k numbers from s on
unfoldable pub count_up : ℕ → ℕ → List ℕ
count_up s zero = []
count_up s (suc k) = s ∷ count_up (suc s) k

-- formatting queues 1 to S: the slot after s
unfoldable pub queued_next : ℕ → ℕ → ℕ
queued_next slots s = cond (ltb s slots) (suc s) 0

unfoldable pub queue : ℕ → List Slot
queue slots = tabulate slots (λ i. free_slot (queued_next slots (suc i)))

-- the slots of a chain whose entries stand below n
unfoldable pub below : ℕ → List Slot → List ℕ → List ℕ
below n slots [] = []
below n slots (s ∷ c) = cond (ltb (slot_at slots s).position n) (s ∷ below n slots c) (below n slots c)
