-- What there is to see of a bench, by its fields.
use Rattle.zk_bench.specs.declared.bench.Bench.TheInside.{Inside}
use Rattle.zk_bench.specs.Linked.{linked_of}
use Rattle.zk_bench.specs.Served.{Served}

abbrev pub bench_of : {A : Type 0} → Inside A → Served
bench_of i = record {
  history = i.history;
  taken = i.taken;
  server = i.server;
  connection = linked_of i.connection;
  expired = i.expired;
  time = i.time;
  session = i.session;
}
