-- What contracts of private functions say: nobody has to believe it.
use Rattle.std.specs.Prelude.{ℕ, List, Option}
use Rattle.zk_nodes.specs.Path.{Text}
use Rattle.zk_conversation.specs.Calls.{Call, Exists, GetData, GetChildren, SetData, Create, Delete}
use Rattle.zk_conversation.specs.Views.{mode_number}
use Rattle.script_replay.specs.declared.call_line.Wish.{Wish}
use Rattle.script_replay.specs.declared.drive_line.DriveLine.{DriveLine}
use Rattle.script_replay.specs.ReplayLines.{DriveValue, OpenedLine, BytesLine, SentLine, ClientValueLine}
use Rattle.script_replay.specs.Lines.{client_value_of}
use Rattle.script_replay.specs.declared.call_line.Wish.TheVariants as wish
use Rattle.script_replay.specs.declared.drive_line.DriveLine.TheVariants as drive

-- the call of a path, with these bytes
abbrev pub asks_of : Wish → Text → Option (List ℕ) → Call
asks_of (wish.Exists watch) = λ path bytes. Exists path watch
asks_of (wish.GetData watch) = λ path bytes. GetData path watch
asks_of (wish.GetChildren watch) = λ path bytes. GetChildren path watch
asks_of (wish.SetData version) = λ path bytes. SetData path bytes version
asks_of (wish.Create mode) = λ path bytes. Create path bytes (mode_number mode)
asks_of (wish.Delete version) = λ path bytes. Delete path version

abbrev pub drive_value_of : {A : Type 0} → DriveLine A → DriveValue
drive_value_of drive.Opened = OpenedLine
drive_value_of (drive.Bytes bytes) = BytesLine bytes.items
drive_value_of drive.Sent = SentLine
drive_value_of (drive.Client line) = ClientValueLine (client_value_of line)
