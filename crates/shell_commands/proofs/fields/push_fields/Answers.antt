-- After the loop the lines of all fields are written, one after another, and those are `fields_lines`, by `one_by_one`.
use Rattle.std.proofs.Common.{◌≡◌, ◌++◌, arith}
use Rattle.std.proofs.lemmas.Grind.{common_steps}
use Rattle.std.specs.Prelude.{string_bytes}
use Rattle.std.specs.List.{flat_map}
use Rattle.shell_commands.proofs.FieldLemmas.{line_of, one_by_one}
use Rattle.shell_commands.proofs.fields.push_fields.Goals as goal

pub returns : goal.returns
returns g c =
    let all : string_bytes c.loop-name.text ≡ string_bytes c.args.text.now ++ flat_map line_of c.args.fields.now =
    grind (arith, common_steps) in
    rw (one_by_one c.args.fields.now) all
