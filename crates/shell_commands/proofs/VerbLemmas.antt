-- The words of verbs: verb by verb, each is the word of no other command, so it tells its verb.
use Rattle.std.proofs.Common.{◌≡◌, ◌∙◌, Bool, true, false, refl, sym, ap, codes, Option, Some, None, unwrap_or}
use Rattle.std.specs.Prelude.{bytes_eq, if◌then◌else◌}
use Rattle.clap.specs.Words.{Text}
use Rattle.shell_commands.specs.Asks.{verb_word}
use Rattle.shell_commands.specs.declared.verb.Verb.{Verb}
use Rattle.shell_commands.specs.declared.verb.Verb.TheVariants as verb

-- no verb has the word of another command
pub record IsNew (word : Text) : Type 0 where
  pub shows : bytes_eq word (codes "show") ≡ false
  pub tells : bytes_eq word (codes "history") ≡ false
  pub replays : bytes_eq word (codes "replay") ≡ false
  pub rehearses : bytes_eq word (codes "rehearse") ≡ false
  pub lives : bytes_eq word (codes "live") ≡ false
  pub watches : bytes_eq word (codes "watch") ≡ false
  pub tours : bytes_eq word (codes "tree") ≡ false

pub is_new : (v : Verb) → IsNew (verb_word v)
is_new verb.Get = record { shows = refl; tells = refl; replays = refl; rehearses = refl; lives = refl; watches = refl; tours = refl }
is_new verb.List = record { shows = refl; tells = refl; replays = refl; rehearses = refl; lives = refl; watches = refl; tours = refl }
is_new verb.Stat = record { shows = refl; tells = refl; replays = refl; rehearses = refl; lives = refl; watches = refl; tours = refl }
is_new verb.Set = record { shows = refl; tells = refl; replays = refl; rehearses = refl; lives = refl; watches = refl; tours = refl }
is_new verb.Create = record { shows = refl; tells = refl; replays = refl; rehearses = refl; lives = refl; watches = refl; tours = refl }
is_new verb.Delete = record { shows = refl; tells = refl; replays = refl; rehearses = refl; lives = refl; watches = refl; tours = refl }

-- the verb of a word
abbrev verb_at : Text → Option Verb
verb_at word =
    if bytes_eq word (codes "get") then Some verb.Get
    else (if bytes_eq word (codes "ls") then Some verb.List
    else (if bytes_eq word (codes "stat") then Some verb.Stat
    else (if bytes_eq word (codes "set") then Some verb.Set
    else (if bytes_eq word (codes "create") then Some verb.Create
    else (if bytes_eq word (codes "delete") then Some verb.Delete else None)))))

its_verb : (v : Verb) → verb_at (verb_word v) ≡ Some v
its_verb verb.Get = refl
its_verb verb.List = refl
its_verb verb.Stat = refl
its_verb verb.Set = refl
its_verb verb.Create = refl
its_verb verb.Delete = refl

-- two verbs with one word are one
pub same_verb : (v w : Verb) → verb_word v ≡ verb_word w → v ≡ w
same_verb v w e = ap (λ o. unwrap_or o v) (sym (its_verb v) ∙ ap verb_at e ∙ its_verb w)
