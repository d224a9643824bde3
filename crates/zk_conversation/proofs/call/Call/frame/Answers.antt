-- By the case of the call: its record has what the call has, rewritten, so `request_frame` makes the frame of `call_payload`, unfolded.
use Rattle.std.proofs.Common.{◌≡◌, w32, arith}
use mir.Val.{to_z, of_z}
use Rattle.std.proofs.lemmas.Int.{ints}
use Rattle.zk_conversation.specs.Calls.{call_payload}
use Rattle.zk_conversation.proofs.call.Call.frame.Goals as goal

pub request_frame-requires : goal.request_frame-requires
unfolding call_payload
request_frame-requires g c =
    let xid : to_z w32 (of_z w32 c.args.xid) ≡ c.args.xid = omega (arith, ints) in
    rw (xid, c.reads-record.ensures.path, c.reads-record.ensures.watch) (rw c.in-Exists.is at c.requires)

pub returns-in-Exists : goal.returns-in-Exists
unfolding call_payload
returns-in-Exists g c =
    let xid : to_z w32 (of_z w32 c.args.xid) ≡ c.args.xid = omega (arith, ints) in
    rw c.in-Exists.is (rw (xid, c.reads-record.ensures.path, c.reads-record.ensures.watch) at c.request_frame.ensures)

pub request_frame-requires-in-GetData : goal.request_frame-requires-in-GetData
unfolding call_payload
request_frame-requires-in-GetData g c =
    let xid : to_z w32 (of_z w32 c.args.xid) ≡ c.args.xid = omega (arith, ints) in
    rw (xid, c.reads-record-in-GetData.ensures.path, c.reads-record-in-GetData.ensures.watch) (rw c.in-GetData.is at c.requires)

pub returns-in-GetData : goal.returns-in-GetData
unfolding call_payload
returns-in-GetData g c =
    let xid : to_z w32 (of_z w32 c.args.xid) ≡ c.args.xid = omega (arith, ints) in
    rw c.in-GetData.is
    (rw (xid, c.reads-record-in-GetData.ensures.path, c.reads-record-in-GetData.ensures.watch) at c.request_frame-in-GetData.ensures)

pub request_frame-requires-in-GetChildren : goal.request_frame-requires-in-GetChildren
unfolding call_payload
request_frame-requires-in-GetChildren g c =
    let xid : to_z w32 (of_z w32 c.args.xid) ≡ c.args.xid = omega (arith, ints) in
    rw (xid, c.reads-record-in-GetChildren.ensures.path, c.reads-record-in-GetChildren.ensures.watch)
    (rw c.in-GetChildren.is at c.requires)

pub returns-in-GetChildren : goal.returns-in-GetChildren
unfolding call_payload
returns-in-GetChildren g c =
    let xid : to_z w32 (of_z w32 c.args.xid) ≡ c.args.xid = omega (arith, ints) in
    rw c.in-GetChildren.is (rw (xid, c.reads-record-in-GetChildren.ensures.path, c.reads-record-in-GetChildren.ensures.watch) at
    c.request_frame-in-GetChildren.ensures)

pub request_frame-requires-in-SetData : goal.request_frame-requires-in-SetData
unfolding call_payload
request_frame-requires-in-SetData g c =
    let xid : to_z w32 (of_z w32 c.args.xid) ≡ c.args.xid = omega (arith, ints) in
    let version : to_z w32 (of_z w32 c.in-SetData.version) ≡ c.in-SetData.version = omega (arith, ints) in
    rw (xid, c.as_str.ensures.text, c.lent.ensures, version) (rw c.in-SetData.is at c.requires)

pub returns-in-SetData : goal.returns-in-SetData
unfolding call_payload
returns-in-SetData g c =
    let xid : to_z w32 (of_z w32 c.args.xid) ≡ c.args.xid = omega (arith, ints) in
    let version : to_z w32 (of_z w32 c.in-SetData.version) ≡ c.in-SetData.version = omega (arith, ints) in
    rw c.in-SetData.is (rw (xid, c.as_str.ensures.text, c.lent.ensures, version) at c.request_frame-in-SetData.ensures)

pub request_frame-requires-in-Create : goal.request_frame-requires-in-Create
unfolding call_payload
request_frame-requires-in-Create g c =
    let xid : to_z w32 (of_z w32 c.args.xid) ≡ c.args.xid = omega (arith, ints) in
    let flags : to_z w32 (of_z w32 c.flags.result) ≡ c.flags.result = omega (arith, ints) in
    rw (xid, c.as_str-in-Create.ensures.text, c.lent-in-Create.ensures, flags, c.flags.ensures) (rw c.in-Create.is at c.requires)

pub returns-in-Create : goal.returns-in-Create
unfolding call_payload
returns-in-Create g c =
    let xid : to_z w32 (of_z w32 c.args.xid) ≡ c.args.xid = omega (arith, ints) in
    let flags : to_z w32 (of_z w32 c.flags.result) ≡ c.flags.result = omega (arith, ints) in
    rw c.in-Create.is
    (rw (xid, c.as_str-in-Create.ensures.text, c.lent-in-Create.ensures, flags, c.flags.ensures) at c.request_frame-in-Create.ensures)

pub request_frame-requires-in-Delete : goal.request_frame-requires-in-Delete
unfolding call_payload
request_frame-requires-in-Delete g c =
    let xid : to_z w32 (of_z w32 c.args.xid) ≡ c.args.xid = omega (arith, ints) in
    let version : to_z w32 (of_z w32 c.in-Delete.version) ≡ c.in-Delete.version = omega (arith, ints) in
    rw (xid, c.as_str-in-Delete.ensures.text, version) (rw c.in-Delete.is at c.requires)

pub returns-in-Delete : goal.returns-in-Delete
unfolding call_payload
returns-in-Delete g c =
    let xid : to_z w32 (of_z w32 c.args.xid) ≡ c.args.xid = omega (arith, ints) in
    let version : to_z w32 (of_z w32 c.in-Delete.version) ≡ c.in-Delete.version = omega (arith, ints) in
    rw c.in-Delete.is (rw (xid, c.as_str-in-Delete.ensures.text, version) at c.request_frame-in-Delete.ensures)

pub raw_frame-requires : goal.raw_frame-requires
unfolding call_payload
raw_frame-requires g c =
    let xid : to_z w32 (of_z w32 c.args.xid) ≡ c.args.xid = omega (arith, ints) in
    let number : to_z w32 (of_z w32 c.number.result) ≡ c.number.result = omega (arith, ints) in
    rw (xid, number, c.number.ensures, c.as_slice.ensures.value) (rw c.in-Raw.is at c.requires)

pub returns-in-Raw : goal.returns-in-Raw
unfolding call_payload
returns-in-Raw g c =
    let xid : to_z w32 (of_z w32 c.args.xid) ≡ c.args.xid = omega (arith, ints) in
    let number : to_z w32 (of_z w32 c.number.result) ≡ c.number.result = omega (arith, ints) in
    rw c.in-Raw.is (rw (xid, number, c.number.ensures, c.as_slice.ensures.value) at c.raw_frame.ensures)
