-- A text that was given is said (`said_once`); without one nothing is (`said_nothing`).
use Rattle.std.proofs.Common.{option_map, string_bytes, ap}
use Rattle.std.proofs.lemmas.Result.{on_ok_weaker}
use Rattle.zk_client.specs.Views.{said}
use Rattle.zk_client.proofs.Reports.{said_once, said_nothing}
use Rattle.zk_client.proofs.arrivals.report.Goals as goal

pub returns-in-Some : goal.returns-in-Some
returns-in-Some g c = on_ok_weaker c.say.result
    (said_once c.args.side c.args.event (option_map string_bytes c.args.watched) (string_bytes c.in-Some.path)
    (said c.args.outputs.now.items) (said c.say.new.outputs.items) (ap (option_map string_bytes) c.in-Some.is)) c.say.ensures

pub returns-in-None : goal.returns-in-None
returns-in-None g c = said_nothing c.args.side c.args.event (option_map string_bytes c.args.watched) (said c.args.outputs.now.items)
    (ap (option_map string_bytes) c.in-None.is)
