-- What contracts of private functions say: nobody has to believe it.
use Rattle.std.specs.Prelude.{◌+◌, length}
use Rattle.zk_jute.specs.Layout.{Value}
use Rattle.zk_jute.specs.Spelling.{spelling, Fits}
use Rattle.zk_records.specs.Layouts.{get_children_response}
use Rattle.zk_bench.specs.Serving.{FitsReply}

-- A list of names that is sent fits a reply with a Stat.
pub record ListFits (texts : Value get_children_response) : Type 0 where
  pub fits : Fits get_children_response texts
  pub small : FitsReply (length (spelling get_children_response texts) + 68)
