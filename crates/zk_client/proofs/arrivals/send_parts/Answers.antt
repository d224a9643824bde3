-- Each turn sends one part more and has one reply more to wait for (`next-part`), and each part is short enough to send (`part-small`).
-- After the loop all parts are sent: `all-parts` and `all-frames`, and `any-part` for whether there is one.
use Rattle.std.proofs.Common.{◌≡◌, ℕ, ◌+◌, ◌++◌, ◌∷◌, [], List, take, map, length, eqb, nat_lt, ap, sym, ◌∙◌, w64, arith, append_assoc}
use Rattle.std.proofs.Common.{vec_len}
use mir.Val.{to_z, of_z}
use Rattle.std.proofs.lemmas.Int.{ints}
use Rattle.std.proofs.lemmas.List.{length-map}
use Rattle.zk_records.specs.declared.set_watches.SetWatchesRef.{SetWatchesRef}
use Rattle.zk_conversation.specs.Pending.{Talk, Pending, part_waits, talk_watching}
use Rattle.zk_conversation.specs.Views.{payload_of_part}
use Rattle.zk_frames.specs.Frame.{frame}
use Rattle.zk_watches.specs.Lent.{lists_of}
use Rattle.zk_watches.specs.Lists.{Lists}
use Rattle.zk_watches.specs.Parts.{parts}
use Rattle.zk_turns.specs.Past.{pending_for, parts_asked}
use Rattle.zk_turns.specs.Turns.{Output, Send}
use Rattle.zk_turns.specs.Rule.{part_frame}
use Rattle.zk_client.specs.Views.{said}
use Rattle.zk_client.proofs.Parts.{part-small, next-part, all-parts, all-frames, any-part}
use Rattle.zk_client.proofs.arrivals.send_parts.Goals as goal

-- how many there are
counted : (items : List SetWatchesRef) (ps : List Lists) (n len : ℕ)
    → map lists_of items ≡ ps → n ≡ len → len ≡ length items → n ≡ length ps
counted items ps n len same e f = e ∙ f ∙ sym (length-map items lists_of) ∙ ap length same

pub send_part-requires-clause-small : goal.send_part-requires-clause-small
send_part-requires-clause-small g c =
    let items = c.in_ok-parts.parts.items in
    let same : map lists_of items ≡ parts c.args.registry.now = c.in_ok-parts.ensures.parts ∙ ap parts c.in_ok-lists.ensures in
    part-small c.args.registry.now items c.loop-at.at c.index.result.now c.len.ensures.sound same
    (omega (arith, c.in_ok-parts.parts.ok)) c.index.ensures

pub loop-at-preserved : goal.loop-at-preserved
loop-at-preserved g c =
    let items = c.in_ok-parts.parts.items in
    let at = c.loop-at.at in
    let ps = parts c.args.registry.now in
    let old = c.args.conversation.now.pending in
    let same : map lists_of items ≡ ps = c.in_ok-parts.ensures.parts ∙ ap parts c.in_ok-lists.ensures in
    let one = next-part items ps at (to_z w64 (of_z w64 c.args.last)) c.index.result.now same c.in_ok-parts.ensures.relative
    (omega (arith, c.in_ok-parts.parts.ok)) c.index.ensures in
    let count : c.len-count.result ≡ length ps =
    counted items ps c.len-count.result (vec_len c.in_ok-parts.parts) same c.len-count.ensures c.in_ok-parts.parts.ok.0 in
    let sent : List Output = Send (frame (payload_of_part c.index.result.now)) ∷ [] in
    let asked : c.send_part.new.conversation ≡ talk_watching (eqb (at + 1) (length ps)) c.loop-at.conversation =
    rw count at c.in-Ok.ensures.asked in
    record {
      phase = ap (λ (t : Talk). t.phase) asked ∙ c.loop-at.invariant.phase;
      xid = ap (λ (t : Talk). t.xid) asked ∙ c.loop-at.invariant.xid;
      pending = ap (λ (t : Talk). t.pending) asked
          ∙ ap (λ (l : List Pending). l ++ part_waits (eqb (at + 1) (length ps)) ∷ []) c.loop-at.invariant.pending
          ∙ append_assoc old (take at (map pending_for (parts_asked ps))) (part_waits (eqb (at + 1) (length ps)) ∷ [])
          ∙ ap (λ (l : List Pending). old ++ l) (sym one.asked);
      told = c.in-Ok.ensures.says
          ∙ ap (λ (l : List Output). l ++ sent) c.loop-at.invariant.told
          ∙ append_assoc (said c.args.outputs.now.items) (take at (map (part_frame (to_z w64 (of_z w64 c.args.last))) ps)) sent
          ∙ ap (λ (l : List Output). said c.args.outputs.now.items ++ l) (sym one.sent);
    }

how_many : (g : _) (c : goal.After-drop-3 g) → c.len-count.result ≡ length (parts c.args.registry.now)
how_many g c =
    counted c.in_ok-parts.parts.items (parts c.args.registry.now) c.len-count.result (vec_len c.in_ok-parts.parts)
    (c.in_ok-parts.ensures.parts ∙ ap parts c.in_ok-lists.ensures) c.len-count.ensures c.in_ok-parts.parts.ok.0

pub returns-clause-pending : goal.returns-clause-pending
returns-clause-pending g c =
    let count = how_many g c in
    c.loop-at.invariant.pending
    ∙ ap (λ (l : List Pending). c.args.conversation.now.pending ++ l) (all-parts (parts c.args.registry.now) c.loop-at.at (omega arith))

pub returns-clause-says : goal.returns-clause-says
returns-clause-says g c =
    let last : to_z w64 (of_z w64 c.args.last) ≡ c.args.last = omega (arith, ints) in
    let count = how_many g c in
    rw last at c.loop-at.invariant.told ∙ ap (λ (l : List Output). said c.args.outputs.now.items ++ l)
    (all-frames c.args.last (parts c.args.registry.now) c.loop-at.at (omega arith))

pub returns-clause-any : goal.returns-clause-any
returns-clause-any g c = ap (λ (n : ℕ). nat_lt 0 n) (how_many g c) ∙ any-part (parts c.args.registry.now)
