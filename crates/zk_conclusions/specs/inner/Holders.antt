-- What contracts of private functions say: nobody has to believe it.
use Rattle.std.specs.Prelude.{ℤ, ◌≡◌, nat_eq, Bool, ◌&&◌, Option, Some, None}
use Rattle.std.specs.Prelude.{if◌then◌else◌}
use Rattle.std.specs.List.{starts_with}
use Rattle.zk_nodes.specs.Path.{Text, Name}
use Rattle.zk_cache.specs.declared.held.Kept.{Kept}
use Rattle.zk_cache.specs.Kept.{Answer, Names, good, is_good}
use Rattle.zk_turns.specs.View.{View}
use Rattle.zk_conclusions.specs.Holders.{is_before, IsFirstOf, token_in}

-- the name begins with the prefix, and is before this one
abbrev pub is_rival : Name → Name → Name → Bool
is_rival prefix own name = starts_with nat_eq name prefix && is_before name own

-- the same of what is kept, where it is good
abbrev pub token_kept : ℤ → Option (Kept Answer) → Option ℤ
token_kept session None = None
token_kept session (Some kept) = if is_good kept.mark then token_in session kept.answer else None

-- The name is first of those that are kept and good below dir.
abbrev pub IsShownFirst : View → Text → Name → Name → Type 0
IsShownFirst view dir prefix own = (names : Names) × (view.cache.children dir ≡ good names) × IsFirstOf names.names prefix own
