-- What is told of trees, move by move: with none but a move that tends one.
use Rattle.std.proofs.Common.{◌≡◌, ◌++◌, ◌∷◌, ℕ, Bool, true, false, cond, List, [], Option, Some, None, map}
use Rattle.std.proofs.Common.{refl, sym, ap, append_assoc, ◌∙◌}
use Rattle.std.proofs.lemmas.List.{append-nil}
use Rattle.std.specs.List.{flat_map, FoldsTo}
use Rattle.zk_turns.specs.Turns.{Input, Output, Send, Answer, Report, Enters, Drop}
use Rattle.zk_turns.specs.Turns as turns
use Rattle.zk_dialler.specs.declared.dialler.Dialler.{Dialler}
use Rattle.zk_dialler.specs.declared.dialler.DialDue.{DialDue}
use Rattle.zk_dialler.specs.declared.dialler.DialDue.TheVariants.{Dial, GiveUp}
use Rattle.zk_follow.specs.Following.{doubted, news_in}
use Rattle.zk_calls.specs.declared.entry.Entry.{Entry}
use Rattle.zk_calls.specs.declared.entry.Ended.{Ended as Ended_call}
use Rattle.zk_calls.specs.declared.entry.Ending.{Ending}
use Rattle.zk_calls.specs.declared.entry.Ending.TheVariants as ending
use Rattle.zk_calls.specs.Lines.{answered, ended, ended_of, settles}
use Rattle.zk_trees.specs.Tending.{TreeTold}
use Rattle.zk_trees.specs.declared.tree.Trees.{Trees}
use Rattle.zk_agent.specs.declared.agent.Agent.{Agent}
use Rattle.zk_agent.specs.declared.input.AgentInput.{AgentInput}
use Rattle.zk_agent.specs.Agents.{Trail, Move, Hears, Hands, Renews, Follows, Unfollows, Asks, GivesUp, LeavesLate, Opened, Ended, HungUp}
use Rattle.zk_agent.specs.Agents.{Closes, Addressed, Decides, Tends, Presents, Does, HearsSo, LeavesWhere, LetsGoWhere, trail_of}
use Rattle.zk_agent.specs.Agents.{rises, DoubtsWhere}
use Rattle.zk_agent.specs.inner.Agents.{tended_in, tends_of, Acts}
use Rattle.zk_agent.specs.Calls.{answers, closings, endings, handed, hears, tells, tells_all}
use Rattle.zk_agent.specs.Overlong.{with_too_long}
use Rattle.zk_agent.specs.Telling.{Told, Says, HangsUp, Begins, Introduces, TellsTree, closed_told, due_told, ended_told}
use Rattle.zk_agent.specs.Telling.{judged_told, news_told, trees_in}
use Rattle.zk_agent.specs.Trees.{Grows}

pub trees_more : (told more : List Told) → trees_in (told ++ more) ≡ trees_in told ++ trees_in more
trees_more [] more = refl
trees_more (TellsTree one ∷ told) more = ap (λ t. one ∷ t) (trees_more told more)
trees_more (_ ∷ told) more = trees_more told more

no_trees : {X : Type 0} (f : X → Told) → ((x : X) → trees_in (f x ∷ []) ≡ []) → (xs : List X) → trees_in (map f xs) ≡ []
no_trees f none [] = refl
no_trees f none (x ∷ xs) =
    trees_more (f x ∷ []) (map f xs) ∙ ap (λ t. t ++ trees_in (map f xs)) (none x) ∙ no_trees f none xs

none_both : (first second : List Told) → trees_in first ≡ [] → trees_in second ≡ [] → trees_in (first ++ second) ≡ []
none_both first second none too = trees_more first second ∙ ap (λ t. t ++ trees_in second) none ∙ too

ended_none : (how : Ending) (one : Ended_call) → trees_in (ended_told how one ∷ []) ≡ []
ended_none (ending.Late now) one = refl
ended_none ending.Expired one = refl
ended_none ending.Lost one = refl
ended_none (ending.LostOf ticket) one = refl

none_due : (due : Option DialDue) → trees_in (due_told due) ≡ []
none_due None = refl
none_due (Some (Dial place within)) = refl
none_due (Some GiveUp) = refl

-- with this nothing is told of trees
told_more : (old more told : List Told) → told ≡ old ++ more → trees_in more ≡ [] → trees_in told ≡ trees_in old
told_more old more told is none =
    ap trees_in is ∙ trees_more old more ∙ ap (λ t. trees_in old ++ t) none ∙ append-nil (trees_in old)

module _ {A : Type 0} where
  none_endings : (how : Ending) (entries : List (Entry A)) → trees_in (endings how entries) ≡ []
  none_endings how entries = no_trees (ended_told how) (ended_none how) (map ended_of (ended how entries))

  none_closings : (entries : List (Entry A)) → trees_in (closings entries) ≡ []
  none_closings entries = no_trees closed_told (λ one. refl) (map ended_of entries)

  none_tells : (entries : List (Entry A)) (output : Output) → trees_in (tells entries output) ≡ []
  none_tells entries (Answer ticket outcome) =
      none_both (answers ticket outcome entries) (endings (ending.LostOf ticket) (answered ticket outcome entries))
      (by (settles ticket outcome entries)) (none_endings (ending.LostOf ticket) (answered ticket outcome entries))
    where
      by : (b : Bool) → trees_in (cond b (Says (Answer ticket outcome) ∷ []) []) ≡ []
      by true = refl
      by false = refl
  none_tells entries (Enters state) =
      none_both (endings ending.Lost entries) (Says (Enters state) ∷ []) (none_endings ending.Lost entries) refl
  none_tells entries (Send bytes) = refl
  none_tells entries (Report path side event) = refl
  none_tells entries (Drop fault) = refl

  none_tells_all : (entries : List (Entry A)) (given : List Output) → trees_in (tells_all entries given) ≡ []
  none_tells_all entries [] = refl
  none_tells_all entries (output ∷ given) =
      none_both (tells entries output) (tells_all (hears entries output) given) (none_tells entries output)
      (none_tells_all (hears entries output) given)

  -- ---- what is told meanwhile

  let_go_told : (is_there : Bool) (timeout now : ℕ) (old new : Dialler A) (before after : List Told)
      → LetsGoWhere is_there timeout now old new before after → trees_in after ≡ trees_in before
  let_go_told true timeout now old new before after goes = told_more before (HangsUp ∷ []) after goes.1 refl
  let_go_told false timeout now old new before after goes = ap trees_in goes.1

  heard_told : (now : ℕ) (given : Input) (old new : Trail A) → HearsSo now given old new → trees_in new.told ≡ trees_in old.told
  heard_told now given old new does =
      let_go_told _ _ now _ new.dialler does.told new.told does.lets_go
      ∙ told_more (old.told ++ said) (map news_told (flat_map (news_in new.view does.takes.given) does.takes.stepped)) does.told
      does.takes.told
      (no_trees news_told (λ one. refl) (flat_map (news_in new.view does.takes.given) does.takes.stepped))
      ∙ told_more old.told said (old.told ++ said) refl
      (none_tells_all (handed given old.line) (with_too_long (handed given old.line) does.takes.given))
    where
      said : List Told
      said = tells_all (handed given old.line) (with_too_long (handed given old.line) does.takes.given)

  leaves_told : (is_lost : Bool) (now : ℕ) (old new : Trail A) → LeavesWhere is_lost now old new → trees_in new.told ≡ trees_in old.told
  leaves_told true now old new does = heard_told now turns.Cut old new does
  leaves_told false now old new same = ap (λ (t : Trail A). trees_in t.told) same

  doubts_told : (is_risen : Bool) (now : ℕ) (old new : Trail A) → DoubtsWhere is_risen now old new → trees_in new.told ≡ trees_in old.told
  doubts_told true now old new does = heard_told now (turns.Now now) (record old { subjects = map doubted old.subjects }) new does
  doubts_told false now old new same = ap (λ (t : Trail A). trees_in t.told) same

  like : (new same : Trail A) → new ≡ same → trees_in new.told ≡ trees_in same.told
  like new same is = ap (λ (t : Trail A). trees_in t.told) is

  still : (old new : Trail A) → trees_in new.told ≡ trees_in old.told → trees_in new.told ≡ trees_in old.told ++ []
  still old new same = same ∙ sym (append-nil (trees_in old.told))

  tells_one : (move : Move) (old new : Trail A) → Does old move new → trees_in new.told ≡ trees_in old.told ++ tends_of move
  tells_one (Hears now given) old new does =
      still old new
      (doubts_told (rises old.view.saved.last does.after.view.saved.last) now does.after new does.doubts
      ∙ leaves_told does.hears.heard.is_lost now does.between does.after does.leaves ∙ heard_told now given old does.between does.hears)
  tells_one (Hands now its asked) old new does = still old new (heard_told now (turns.Call its asked) old new does)
  tells_one Renews old new does =
      still old new (told_more (old.told ++ endings ending.Expired old.line) (Begins ∷ []) new.told does.told refl
      ∙ told_more old.told (endings ending.Expired old.line) (old.told ++ endings ending.Expired old.line) refl
      (none_endings ending.Expired old.line))
  tells_one (LeavesLate now) old new does =
      still old new (like new _ does.last ∙ heard_told now turns.Cut does.between does.after does.hears ∙ like does.between _ does.hangs
      ∙ told_more old.told (HangsUp ∷ []) (old.told ++ HangsUp ∷ []) refl refl)
  tells_one (Presents judged frames) old new does =
      still old new (like new _ does
      ∙ told_more (old.told ++ map judged_told judged) (map Introduces frames) _ refl (no_trees Introduces (λ one. refl) frames)
      ∙ told_more old.told (map judged_told judged) _ refl (no_trees judged_told (λ one. refl) judged))
  tells_one (Asks its asked until) old new does = still old new (like new _ does.last)
  tells_one (GivesUp now) old new does =
      still old new (like new _ does
      ∙ told_more old.told (endings (ending.Late now) old.line) _ refl (none_endings (ending.Late now) old.line))
  tells_one Closes old new does =
      still old new (like new _ does.last ∙ told_more old.told (closings old.line) _ refl (none_closings old.line))
  tells_one (Follows its side path) old new does = still old new (like new _ does)
  tells_one (Unfollows its) old new does = still old new (like new _ does)
  tells_one (Opened now) old new does = still old new (like new _ does.1)
  tells_one (Ended now) old new does = still old new (like new _ does.1)
  tells_one HungUp old new does =
      still old new (like new _ does ∙ told_more old.told (HangsUp ∷ []) (old.told ++ HangsUp ∷ []) refl refl)
  tells_one (Addressed kept more is_listed) old new does = still old new (like new _ does.1)
  tells_one (Decides now due) old new does =
      still old new (like new _ does.last ∙ told_more old.told (due_told due) _ refl (none_due due))
  tells_one (Tends one) old new does = like new _ does ∙ trees_more old.told (TellsTree one ∷ [])

  pub tells_each : (moves : List Move) (old new : Trail A) → FoldsTo Does old moves new
      → trees_in new.told ≡ trees_in old.told ++ tended_in moves
  tells_each [] old new same = sym (ap (λ (t : Trail A). trees_in t.told) same) ∙ sym (append-nil (trees_in old.told))
  tells_each (move ∷ moves) old new does =
      tells_each moves does.0 new does.2 ∙ ap (λ t. t ++ tended_in moves) (tells_one move old does.0 does.1)
      ∙ append_assoc (trees_in old.told) (tends_of move) (tended_in moves)

-- ---- what is told as trees grow, and nothing after it

trees_of : (told : List TreeTold) → trees_in (map TellsTree told) ≡ told
trees_of [] = refl
trees_of (one ∷ told) = ap (λ t. one ∷ t) (trees_of told)

pub told_grown : {A : Type 0} (now : ℕ) (given : List Move) (input : AgentInput A) (agent : Agent A) (is : Trees A) (grown new : Trail A)
    (grows : Grows now input agent.trees is (trail_of agent []) grown) → Acts now given grown new
    → trees_in new.told ≡ grows.tended.told ++ grows.altered.told
told_grown {A} now given input agent is grown new grows acts =
    tells_each acts.comes.moves grown new acts.comes.does
    ∙ ap (λ t. trees_in grown.told ++ t) acts.untended ∙ append-nil (trees_in grown.told)
    ∙ ap (λ (t : Trail A). trees_in t.told) grows.last
    ∙ trees_more (map TellsTree grows.tended.told) (map TellsTree grows.altered.told)
    ∙ ap (λ t. t ++ trees_in (map TellsTree grows.altered.told)) (trees_of grows.tended.told)
    ∙ ap (λ t. grows.tended.told ++ t) (trees_of grows.altered.told)
