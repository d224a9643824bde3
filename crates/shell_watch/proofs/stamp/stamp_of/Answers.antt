-- A stamp is the seconds, a dot, the zeros and the rest: `four_pieces` puts together what each push ensures to have added.
use Rattle.std.proofs.Common.{◌∙◌, ◌++◌, ℕ, List, ap, codes}
use Rattle.std.specs.Prelude.{string_bytes, ◌/◌, ◌%◌}
use Rattle.std.specs.Fmt.{decimal}
use Rattle.shell_watch.specs.Lines.{zeros_before}
use Rattle.shell_watch.proofs.Pieces.{four_pieces}
use Rattle.shell_watch.proofs.stamp.stamp_of.Goals as goal

pub returns : goal.returns
returns g c =
    let seconds = string_bytes c.push_value.new.text in
    let dot = string_bytes c.push_str.new.self in
    let zeros = string_bytes c.push_str-2.new.self in
    four_pieces (string_bytes c.new-text.result) seconds dot zeros (string_bytes c.push_value-2.new.text)
    (decimal (c.args.ms / 1000)) (codes ".") (zeros_before (c.args.ms % 1000)) (decimal (c.args.ms % 1000))
    c.new-text.ensures.bytes c.in_ok-push_value.ensures c.in_ok-push_str.ensures.bytes
    (c.in_ok-push_str-2.ensures.bytes ∙ ap (λ (z : List ℕ). dot ++ z) c.zeros_before.ensures) c.in_ok-push_value-2.ensures
