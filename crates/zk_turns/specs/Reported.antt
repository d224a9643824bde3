-- Which notices are reported.
use Rattle.std.specs.Prelude.{Bool, true, false, ◌&&◌, List, [], ◌∷◌, ◌++◌, filter, if◌then◌else◌}
use Rattle.zk_nodes.specs.Path.{Text}
use Rattle.zk_nodes.specs.declared.side.Side.{Side}
use Rattle.zk_nodes.specs.declared.side.Side.TheVariants.{Data, Child}
use Rattle.zk_records.specs.declared.event.Event.{Event}
use Rattle.zk_turns.specs.Turns.{Output, Report}
use Rattle.zk_turns.specs.Past.{Past, Took, Notifies, is_good}
use Rattle.zk_records.specs.Events.{concerns}

-- a notice's report on a side: where it is about that side and the answer there was good
abbrev pub report_on : Side → Event → Text → Past → List Output
report_on side event path past = if concerns event side && is_good side path past then Report path side event ∷ [] else []

-- All reports, the newest first: for each notice that was taken, one for each side on which it ended what was good, data before child.
abbrev pub reports_of : Past → List Output
reports_of [] = []
reports_of (Took (Notifies event path) ∷ past) = report_on Child event path past ++ (report_on Data event path past ++ reports_of past)
reports_of (_ ∷ past) = reports_of past

abbrev pub is_report : Output → Bool
is_report (Report path side event) = true
is_report _ = false

-- the reports among the outputs
abbrev pub reports_in : List Output → List Output
reports_in outputs = filter is_report outputs
