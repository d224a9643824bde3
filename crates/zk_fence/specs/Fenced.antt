-- What a fence is worth.
use Rattle.std.specs.Prelude.{ℤ, ◌≡◌, ◌≤◌, ◌<ℤ◌, true, false, List, Option}
use Rattle.zk_nodes.specs.Path.{Text, Name, path_of}
use Rattle.zk_nodes.specs.History.{History}
use Rattle.zk_laws.specs.Messages.{from_zero}
use Rattle.zk_turns.specs.View.{View}
use Rattle.zk_conclusions.specs.Seen.{IsServedAt, IsEither}
use Rattle.zk_conclusions.specs.Holders.{NamesRise, ShowsHolder}
use Rattle.zk_conclusions.specs.Numbers.{Kind, is_rival}
use Rattle.zk_conclusions.specs.Standings.{IsShownStanding}
use Rattle.zk_fence.specs.Fences.{after_all, greatest_after, is_taken}

-- Once a token was taken, each smaller one is refused, whatever was asked in between.
abbrev pub SmallerIsRefused : Type 0
SmallerIsRefused = (greatest : Option ℤ) (later token : ℤ) (between : List ℤ)
    → is_taken greatest later ≡ true → token <ℤ later → is_taken (after_all between (greatest_after greatest later)) token ≡ false

-- A store that has taken a write of the later of two holders takes one of the earlier only where their tokens are one.
abbrev pub IsFencedFrom : (token later : ℤ) → Type 0
IsFencedFrom token later = (greatest : Option ℤ) (between : List ℤ)
    → is_taken greatest later ≡ true → is_taken (after_all between (greatest_after greatest later)) token ≡ true → token ≡ later

-- So it is of two clients that show at two zxids that they hold, under servers that keep to the model at the directory and their nodes.
abbrev pub FencedHolders : Type 0
FencedHolders = (h : History) (one other : View) (dir : Text) (prefix : Name) (path its : Text) (token later : ℤ)
    → IsServedAt (IsEither dir path) h one → IsServedAt (IsEither dir its) h other → NamesRise h (path_of dir) prefix
    → from_zero one.saved.last ≤ from_zero other.saved.last
    → ShowsHolder one dir prefix path token → ShowsHolder other dir prefix its later → IsFencedFrom token later

-- The same of two rivals that show that they stand first, under servers that keep to it at their nodes.
abbrev pub FencedStandings : Type 0
FencedStandings = (h : History) (one other : View) (dir : Text) (kind its : Kind) (path its_path : Text) (token later : ℤ)
    → (m : IsShownStanding h one dir kind path token) → (y : IsShownStanding h other dir its its_path later)
    → from_zero one.saved.last ≤ from_zero other.saved.last
    → is_rival kind y.shows.own ≡ true → IsFencedFrom token later
