-- The words that name the kinds of payload.
use Rattle.std.specs.Prelude.{ℕ, List, codes}
use Rattle.shell_commands.specs.declared.kind.FrameKind.{FrameKind}
use Rattle.shell_commands.specs.declared.kind.FrameKind.TheVariants.{Connect, Accepted, Request, Notice, ReplyExists, ReplySetData}
use Rattle.shell_commands.specs.declared.kind.FrameKind.TheVariants.{ReplyGetData, ReplyGetChildren, ReplyGetChildren2, ReplyCreate}
use Rattle.shell_commands.specs.declared.kind.FrameKind.TheVariants.{ReplyHeader}

abbrev pub kind_word : FrameKind → List ℕ
kind_word Connect = codes "connect"
kind_word Accepted = codes "accepted"
kind_word Request = codes "request"
kind_word Notice = codes "notice"
kind_word ReplyExists = codes "reply-exists"
kind_word ReplySetData = codes "reply-setdata"
kind_word ReplyGetData = codes "reply-getdata"
kind_word ReplyGetChildren = codes "reply-getchildren"
kind_word ReplyGetChildren2 = codes "reply-getchildren2"
kind_word ReplyCreate = codes "reply-create"
kind_word ReplyHeader = codes "reply-header"
