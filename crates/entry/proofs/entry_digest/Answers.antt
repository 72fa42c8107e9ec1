-- `entry::entry_digest` meets its contract: after each part the state holds what was fed so far (`Holds`).
use Rattle.std.proofs.Common.{◌≡◌, ℕ, ◌≤◌, List, [], ◌++◌, length, true, refl, ◌∙◌, arith, length-append}
use Rattle.refusal.specs.Unwritten.{unwritten, counts}
use Rattle.bigendian.proofs.Laws.{to_be_bytes-be}
use Rattle.sha256_digest.specs.Absorbed.{start, absorbed}
use Rattle.sha256_digest.proofs.Absorbed.{digest-is}
use Rattle.sha256_running.specs.Running.{state_of}
use Rattle.sha256_running.specs.declared.Running.{Running}
use Rattle.sha256_running.proofs.Absorb.{Takes, Holds, holds-new, holds_more, holds-count, holds-within}
use Rattle.entry.proofs.DigestLaws.{fed-is}
use Rattle.entry.proofs.entry_digest.Code.Mir.{function}
use Rattle.entry.proofs.entry_digest.Goals as goal

-- no literal of the body becomes the count
pub counted : unwritten counts function.body ≡ true
counted = refl

-- the first part is all that the state holds
first : (s t : Running) (x : List ℕ) → state_of s ≡ start → state_of t ≡ absorbed (state_of s) x → Holds t x
first s t x h k = holds_more s t [] x (holds-new s h) k

-- what was fed so far leaves room for the next part
takes : (s : Running) (m part : List ℕ) → Holds s m → length m ≤ 40 → length part ≤ 32 → Takes s (length part)
takes s m part k hm hp = let c : s.count ≡ length m = holds-count s m k in (omega arith, holds-within s m k)

pub feed-requires : goal.feed-requires
feed-requires c = takes c.new-state.result [] c.to_be_bytes.result (holds-new c.new-state.result c.new-state.ensures) (omega arith) (omega arith)

pub feed-requires-2 : goal.feed-requires-2
feed-requires-2 c = takes c.feed.new.state c.to_be_bytes.result c.args.value.now (first _ _ _ c.new-state.ensures c.feed.ensures) (omega arith) (omega arith)

pub feed-requires-3 : goal.feed-requires-3
feed-requires-3 c =
    let k = holds_more c.feed.new.state c.feed-2.new.state _ _ (first _ _ _ c.new-state.ensures c.feed.ensures) c.feed-2.ensures in
    takes c.feed-2.new.state (c.to_be_bytes.result ++ c.args.value.now) c.args.previous.now k (rw length-append (omega arith)) (omega arith)

pub finish-requires : goal.finish-requires
finish-requires c =
    let k = holds_more c.feed.new.state c.feed-2.new.state _ _ (first _ _ _ c.new-state.ensures c.feed.ensures) c.feed-2.ensures in
    let l = holds_more c.feed-2.new.state c.feed-3.new.state _ _ k c.feed-3.ensures in
    (omega (arith, holds-count c.feed-3.new.state _ l, length-append {A = ℕ}), holds-within c.feed-3.new.state _ l)

pub returns : goal.returns
returns c =
    let k = holds_more c.feed.new.state c.feed-2.new.state _ _ (first _ _ _ c.new-state.ensures c.feed.ensures) c.feed-2.ensures in
    let l = holds_more c.feed-2.new.state c.feed-3.new.state _ _ k c.feed-3.ensures in
    fed-is c.args.position c.to_be_bytes.result c.args.value.now c.args.previous.now c.finish.result (c.to_be_bytes.ensures ∙ to_be_bytes-be c.args.position) (omega arith) (omega arith)
    (digest-is _ (state_of c.feed-3.new.state) c.finish.result l c.finish.ensures)
