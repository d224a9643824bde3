-- What contracts of private functions say: nobody has to believe it.
use Rattle.script_stream.specs.declared.line.CaptureLine.{CaptureLine}
use Rattle.script_stream.specs.Lines.{Says, Came, Opens, Passes, Over}
use Rattle.script_stream.specs.declared.line.CaptureLine.TheVariants as lines

abbrev pub says_of : {A : Type 0} → CaptureLine A → Says
says_of (lines.Came way bytes) = Came way bytes.items
says_of lines.Opened = Opens
says_of lines.Passed = Passes
says_of lines.Over = Over
