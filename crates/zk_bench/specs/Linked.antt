-- What there is to see of a connection.
use Rattle.std.specs.Prelude.{map}
use Rattle.std.specs.String.{string_bytes}
use Rattle.zk_bench.specs.Served.{Linked}
use Rattle.zk_bench.specs.declared.connection.Connection.{Connection}

abbrev pub linked_of : {A : Type 0} → Connection A → Linked
linked_of c = record {
  phase = c.phase;
  data_watches = map string_bytes c.watches.data.keys;
  child_watches = map string_bytes c.watches.child.keys;
  requests = c.requests.items;
  output = c.output.items;
}
