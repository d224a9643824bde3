-- By the case of the call: the length of its payload (`length-exists` and so on), with those of path and data rewritten.
use Rattle.zk_conversation.proofs.Lengths.{length-exists, length-get_data, length-get_children, length-set_data, length-create}
use Rattle.zk_conversation.proofs.Lengths.{length-delete, length-close, length-raw}
use Rattle.zk_conversation.proofs.call.Call.payload_length.Goals as goal

pub returns-in-Exists : goal.returns-in-Exists
returns-in-Exists g c = λ xid. rw (c.in-Exists.is, c.as_str.ensures.text) (length-exists xid _ _)

pub returns-in-GetData : goal.returns-in-GetData
returns-in-GetData g c = λ xid. rw (c.in-GetData.is, c.as_str-in-GetData.ensures.text) (length-get_data xid _ _)

pub returns-in-GetChildren : goal.returns-in-GetChildren
returns-in-GetChildren g c = λ xid. rw (c.in-GetChildren.is, c.as_str-in-GetChildren.ensures.text) (length-get_children xid _ _)

pub returns-in-SetData : goal.returns-in-SetData
returns-in-SetData g c =
    λ xid. rw (c.in-SetData.is, c.as_str-in-SetData.ensures.text, c.data_length.ensures.length) (length-set_data xid _ _ _)

pub returns-in-Create : goal.returns-in-Create
returns-in-Create g c = λ xid.
    rw (c.in-Create.is, c.as_str-in-Create.ensures.text, c.data_length-in-Create.ensures.length) (length-create xid _ _ _)

pub returns-in-Delete : goal.returns-in-Delete
returns-in-Delete g c = λ xid. rw (c.in-Delete.is, c.as_str-in-Delete.ensures.text) (length-delete xid _ _)

pub returns-in-Close : goal.returns-in-Close
returns-in-Close g c = λ xid. rw c.in-Close.is (length-close xid)

pub returns-in-Raw : goal.returns-in-Raw
returns-in-Raw g c = λ xid. rw (c.in-Raw.is, c.as_slice.ensures.value) (length-raw xid _ _)
