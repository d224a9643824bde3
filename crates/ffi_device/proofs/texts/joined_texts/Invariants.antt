-- Loop over the texts: the texts of the names so far, with those that are left, are all of them. With none left the names have the texts.
use Rattle.std.proofs.Common.{◌≡◌, ◌++◌, drop, map}
use Rattle.std.specs.Option.{option_map}
use Rattle.zk_jute.specs.Lenient.{or_empty}
use Rattle.ffi_device.proofs.texts.joined_texts.Given as goal

-- what is named, with what is left
abbrev pub invariant-loop-text : goal.invariant-loop-text
invariant-loop-text l = map (λ name. or_empty (option_map (λ text. text.now) name.text)) l.names.items
    ++ map (λ text. text.now) (drop l.text-index l.texts) ≡ map (λ text. text.now) l.texts
