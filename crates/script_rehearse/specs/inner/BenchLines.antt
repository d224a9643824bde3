-- What contracts of private functions say: nobody has to believe it.
use Rattle.script_replay.specs.Lines.{client_value_of}
use Rattle.script_rehearse.specs.declared.bench_line.BenchLine.{BenchLine}
use Rattle.script_rehearse.specs.BenchLines.{BenchValue, OpenLine, TakeLine, ProcessLine, DeliverLine, ExpireLine, GoodLine, RejoinLine}
use Rattle.script_rehearse.specs.BenchLines.{ClientValueLine}
use Rattle.script_rehearse.specs.declared.bench_line.BenchLine.TheVariants as line

abbrev pub bench_value_of : {A : Type 0} → BenchLine A → BenchValue
bench_value_of (line.Open server) = OpenLine server.number
bench_value_of (line.Take server) = TakeLine server.number
bench_value_of line.Process = ProcessLine
bench_value_of (line.Deliver most) = DeliverLine most
bench_value_of line.Expire = ExpireLine
bench_value_of line.Good = GoodLine
bench_value_of line.Rejoin = RejoinLine
bench_value_of (line.Client value) = ClientValueLine (client_value_of value)
