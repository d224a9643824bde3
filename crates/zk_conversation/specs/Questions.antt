-- What is kept of a call while its reply is awaited: no data.
use Rattle.std.specs.Prelude.{Bool, true, Option, Some, None}
use Rattle.zk_nodes.specs.declared.side.Side.{Side}
use Rattle.zk_nodes.specs.declared.side.Side.TheVariants.{Data, Child}
use Rattle.zk_nodes.specs.Path.{Text}
use Rattle.zk_conversation.specs.Calls.{Call}
use Rattle.zk_conversation.specs.Calls as call

-- the kind of a call, its path and whether it is to leave a watch
pub data Question : Type 0 where
  Exists GetData GetChildren : (path : Text) → (watch : Bool) → Question
  SetData Create Delete : (path : Text) → Question
  Close : Question
  Raw : Question

abbrev pub question_of : Call → Question
question_of (call.Exists path watch) = Exists path watch
question_of (call.GetData path watch) = GetData path watch
question_of (call.GetChildren path watch) = GetChildren path watch
question_of (call.SetData path bytes version) = SetData path
question_of (call.Create path bytes mode) = Create path
question_of (call.Delete path version) = Delete path
question_of call.Close = Close
question_of (call.Raw operation bytes) = Raw

-- the side on which a question is to leave a watch
abbrev pub watched_side : Question → Option Side
watched_side (Exists path true) = Some Data
watched_side (GetData path true) = Some Data
watched_side (GetChildren path true) = Some Child
watched_side _ = None
