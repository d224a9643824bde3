-- What a server answers a call, in the words of the laws.
use Rattle.std.specs.Prelude.{List}
use Rattle.std.specs.FinSet as set
use Rattle.zk_nodes.specs.Path.{Text}
use Rattle.zk_nodes.specs.Names.{Names}
use Rattle.zk_conversation.specs.Calls as call
use Rattle.zk_records.specs.declared.request.Request.TheVariants as requests
use Rattle.zk_records.specs.declared.code.Code.TheVariants as codes
use Rattle.zk_bench.specs.declared.stop.Refusal.TheVariants as refusals

-- names as a set
abbrev pub name_set : List Text → Names
name_set names = set.from_list names
