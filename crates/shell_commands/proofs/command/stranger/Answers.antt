-- The first word that is no address is what `find` finds of the words that the slice yields: `find_from_yields_List`.
use Rattle.std.proofs.Common.{rules, tests}
use Rattle.std.specs.Prelude.{not}
use Rattle.std.proofs.lemmas.Iterator.{YieldsList-from_slice}
use Rattle.std.proofs.lemmas.Iterator.Search.{find_from_yields_List}
use Rattle.script_live.specs.Addresses.{is_address}
use Rattle.shell_commands.proofs.command.stranger.Goals as goal

pub returns : goal.returns
returns c =
    let found = find_from_yields_List (λ w. not (is_address w.now)) _ _ c.find.result c.find.ensures.ran
    (YieldsList-from_slice c.args.words.now cc) (λ x b q k. search (rules, tests)) in
    search rules
