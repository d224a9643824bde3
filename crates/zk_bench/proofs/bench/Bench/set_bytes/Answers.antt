-- A setData is answered with the Stat after the write, by `set_so`: `takes_then` joins what was taken before the write and with it.
-- By the call that fails it is declined: `ends_then`, `declines_unmade`, and `declines_unsent` where no Stat is sent.
-- A set of short data is one that the newest tree accepts, so the write ends no connection.
use Rattle.std.proofs.Common.{rules, ◌≡◌, sym, subst, ℤ, ℕ, List, Option, to_z, of_z, w32}
use Rattle.zk_nodes.specs.Path.{Text, path_of}
use Rattle.zk_nodes.specs.History.{Sets, Tree}
use Rattle.zk_conversation.specs.Calls.{SetData}
use Rattle.zk_laws.specs.Messages.{Ask}
use Rattle.zk_bench.specs.inner.Stepping.{Declines, HasWritten, SendsStat, LeavesUnsent}
use Rattle.zk_bench.proofs.Answered.{errs_so}
use Rattle.zk_bench.proofs.Stepped.{ok_so, err_so}
use Rattle.zk_bench.proofs.ProcessedTaken.{takes_then, ends_then, declines_then}
use Rattle.zk_bench.proofs.ProcessedWrites.{stops_by, declines_unmade, unmade_same, declines_unsent, set_so}
use Rattle.zk_history.specs.HistoryView.{IsAccepted, newest_tree}
use Rattle.zk_bench.proofs.Staying.{handed_on}
use Rattle.zk_bench.proofs.bench.Bench.set_bytes.Goals as goal

pub returns-in-Err-clause-declines : goal.returns-in-Err-clause-declines
returns-in-Err-clause-declines g c = λ has is.
    let one = Ask (SetData c.args.text.now c.args.bytes c.args.version) in
    stops_by one c.args.xid c.args.self.now c.catch_up.new.self c.in-Err.stop
    (λ over. ends_then one c.args.xid c.args.self.now c.catch_up.new.self (c.in-Err.ensures.ends has))

pub returns-in-Err-written_path-clause-declines : goal.returns-in-Err-written_path-clause-declines
returns-in-Err-written_path-clause-declines g c = λ has is.
    let old = c.args.self.now in
    let mid = c.catch_up.new.self in
    let one = SetData c.args.text.now c.args.bytes c.args.version in
    let refusal = c.in-Err-written_path.refusal in
    let more = c.catch_up.ensures.has has in
    declines_then one c.args.xid old mid mid refusal has more (c.in_default.ensures.takes has)
    (declines_unmade one c.args.xid mid mid refusal tt more more (unmade_same mid refusal more c.in-Err-written_path.ensures.refused))

pub returns-in_err-write-clause-declines : goal.returns-in_err-write-clause-declines
returns-in_err-write-clause-declines g c = λ has is.
    let old = c.args.self.now in
    let mid = c.catch_up.new.self in
    let new = c.write.new.self in
    let one = SetData c.args.text.now c.args.bytes c.args.version in
    let more = c.catch_up.ensures.has has in
    errs_so c.from_residual.result _ _ c.from_residual.ensures.1
    (λ refusal same. subst (Declines (Ask one) c.args.xid old new) (sym same)
    (declines_then one c.args.xid old mid new _ has more (c.in_default.ensures.takes has)
    (declines_unmade one c.args.xid mid new _ tt more (c.write.ensures.has more) (c.in_err-write.ensures.refuses more))))

pub returns-clause-answers : goal.returns-clause-answers
returns-clause-answers g c = λ has is.
    let old = c.args.self.now in
    let mid = c.catch_up.new.self in
    let late = c.write.new.self in
    let new = c.send_stat.new.self in
    let text = c.args.text.now in
    let more = c.catch_up.ensures.has has in
    let still = c.write.ensures.has more in
    let done = c.in_ok-write.ensures in
    let took = takes_then old mid late has more (c.in_default.ensures.takes has) (done.takes more) in
    let xid : to_z w32 (of_z w32 c.args.xid) ≡ c.args.xid = search rules in
    let wrote : HasWritten (Sets (path_of text) c.args.bytes) late =
    subst (λ (t : Text). HasWritten (Sets (path_of t) c.args.bytes) late) c.in-Ok.ensures.path
    (subst (λ (bytes : Option (List ℕ)). HasWritten (Sets (path_of c.in-Ok.path) bytes) late) c.into_inner.ensures (done.wrote more)) in
    ok_so c.send_stat.result _ _ (c.send_stat.ensures.sends still.ready (done.all more) is)
    (λ sends. set_so text c.args.bytes c.args.version c.args.xid old late new still took wrote
    (subst (λ (x : ℤ). SendsStat x text late new) xid sends) c.send_stat.ensures.only)

pub returns-clause-declines : goal.returns-clause-declines
returns-clause-declines g c = λ has is.
    let old = c.args.self.now in
    let mid = c.catch_up.new.self in
    let late = c.write.new.self in
    let new = c.send_stat.new.self in
    let more = c.catch_up.ensures.has has in
    let took = takes_then old mid late has more (c.in_default.ensures.takes has) (c.in_ok-write.ensures.takes more) in
    err_so c.send_stat.result (LeavesUnsent late new)
    (Declines (Ask (SetData c.args.text.now c.args.bytes c.args.version)) c.args.xid old new) c.send_stat.ensures.unsent
    (λ refusal unsent. declines_unsent c.args.text.now c.args.bytes c.args.version c.args.xid old late new refusal has
    (c.write.ensures.has more) took c.send_stat.ensures.only unsent)

pub returns-in_err-write-clause-stays : goal.returns-in_err-write-clause-stays
returns-in_err-write-clause-stays g c = λ small.
    let tree = newest_tree c.catch_up.new.self.history in
    let allowed : IsAccepted (Sets (path_of c.args.text.now) c.args.bytes) tree =
    subst (λ (t : Tree). IsAccepted (Sets (path_of c.args.text.now) c.args.bytes) t) c.newest.ensures.seen
    (c.in-Ok.ensures.allowed c.args.bytes small) in
    let made = subst (λ (t : Text). IsAccepted (Sets (path_of t) c.args.bytes) tree) (sym c.in-Ok.ensures.path) allowed in
    handed_on c.from_residual.result _ _ c.from_residual.ensures.1
    (λ over. c.in_err-write.ensures.stays
    (subst (λ (bytes : Option (List ℕ)). IsAccepted (Sets (path_of c.in-Ok.path) bytes) tree) (sym c.into_inner.ensures) made) (cc))
