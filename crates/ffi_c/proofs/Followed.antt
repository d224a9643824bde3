-- What is followed by a ticket, move by move of an agent: by what its program asks for, and by what is told of trees.
use Rattle.std.proofs.Common.{◌≡◌, ◌++◌, ◌∷◌, ◌<◌, ℕ, Bool, true, false, cond, not, List, [], Option, Some, None, map, max, refl, sym, ap}
use Rattle.std.proofs.Common.{inl, inr, subst, ◌∙◌, true≢false, length}
use Rattle.std.proofs.lemmas.Bool.{eqb-true}
use Rattle.std.proofs.lemmas.List.{append-nil, get_or-map, length-map, map-append, same_lists}
use Rattle.std.proofs.lemmas.List.Elements.{filter-append}
use Rattle.std.specs.Prelude.{◌==◌, fold, slice_index_or}
use Rattle.std.specs.List.{filter, flat_map, AllByRecursion, FoldsTo}
use Rattle.std.specs.declared.alloc.Global.{Global}
use Rattle.zk_nodes.specs.Path.{Text}
use Rattle.zk_nodes.specs.declared.side.Side.{Side}
use Rattle.zk_turns.specs.Turns.{Input, Output}
use Rattle.zk_turns.specs.Turns as turns
use Rattle.zk_dialler.specs.Dialling.{is_open}
use Rattle.zk_dialler.specs.declared.dialler.Dialler.{Dialler}
use Rattle.zk_dialler.specs.declared.dialler.Phase.{Phase}
use Rattle.zk_dialler.specs.declared.dialler.Phase.TheVariants.{Dialling}
use Rattle.zk_follow.specs.declared.subject.Subject.{Subject}
use Rattle.zk_follow.specs.declared.progress.Progress.{Progress}
use Rattle.zk_follow.specs.Following.{doubted, due_again, fresh, taken, told_of as heard_of, unfollowed, AreVisited, IsVisited, Visits}
use Rattle.zk_follow.proofs.Finding.{visit_keeps}
use Rattle.zk_follow.proofs.Hearing.{all_same_path, all_same_side, all_same_ticket}
use Rattle.zk_follow.specs.Refusing.{too_long_for}
use Rattle.zk_trees.specs.Tending.{TreeTold, IsBounded, IsWhole, LetsGo, TakesOn, shifted}
use Rattle.zk_agent.specs.declared.action.Action.{Action}
use Rattle.zk_agent.specs.declared.action.Action.TheVariants as action
use Rattle.zk_agent.specs.declared.agent.Agent.{Agent}
use Rattle.zk_agent.specs.declared.input.AgentInput.{AgentInput}
use Rattle.zk_agent.specs.declared.input.AgentInput.TheVariants as input
use Rattle.zk_agent.specs.Agents.{Trail, Move, Hears, Hands, Renews, Follows, Unfollows, Asks, GivesUp, LeavesLate, Opened, Ended, HungUp}
use Rattle.zk_agent.specs.Agents.{Closes, Addressed, Decides, Tends, Presents, Does, HearsSo, LeavesWhere}
use Rattle.zk_agent.specs.Agents.{rises, DoubtsWhere}
use Rattle.zk_agent.specs.Agents.{bytes_at, given_of, is_given, judging_in, leaves_with, left_at, moves_of, opened_at, papers_in, trail_of}
use Rattle.zk_agent.specs.Credentials.{unwritten}
use Rattle.zk_agent.specs.Telling.{action_view}
use Rattle.zk_agent.specs.Overlong.{refused_by, too_long_in}
use Rattle.zk_agent.specs.Telling.{told_by, trees_in}
use Rattle.zk_agent.specs.inner.Agents.{tended_in, tends_of}
use Rattle.zk_agent.proofs.Tended.{tells_each, trees_more}
use Rattle.zk_agent.proofs.Oversized.{refused_same}
use Rattle.ffi_device.specs.Chains.{IsOwn, IsOwnAnswer, Part, TellsAllBut, TookAll}
use Rattle.ffi_device.specs.Happenings.{Happening, happening}
use Rattle.ffi_device.specs.Happenings as happens
use Rattle.ffi_device.specs.Steps.{Stepped}
use Rattle.ffi_device.specs.Taking.{AgentTook}
use Rattle.ffi_device.specs.declared.device.Device.{Device}
use Rattle.ffi_c.specs.Followed.{asked_of, followed_by, is_asked, is_told, told_of}
use Rattle.ffi_c.proofs.Heard.{each_both}
use Rattle.ffi_c.proofs.Turned.{fold_more}

-- ---- keys and moves

-- a subject by its ticket, and by what it follows
record Key : Type 0 where
  ticket : ℕ
  aim : Side × Text

abbrev by_keys : (ticket : ℕ) → List Key → List (Side × Text)
by_keys ticket keys = map (λ one. one.aim) (filter (λ one. one.ticket == ticket) keys)

-- what a move makes of what is followed by a ticket
abbrev by_move : (ticket : ℕ) → List (Side × Text) → Move → List (Side × Text)
by_move ticket before (Follows its side path) = cond (its == ticket) (before ++ (side, path) ∷ []) before
by_move ticket before (Unfollows its) = cond (its == ticket) [] before
by_move ticket before (Tends one) = told_of ticket before one
by_move ticket before _ = before

module _ {A : Type 0} where
  -- ---- what is followed

  abbrev key : Subject A → Key
  key subject = record { ticket = subject.ticket; aim = (subject.side, subject.path) }

  abbrev aim_of : Subject A → Side × Text
  aim_of subject = (subject.side, subject.path)

  abbrev has : (ticket : ℕ) → Subject A → Bool
  has ticket subject = subject.ticket == ticket

  of_keys : (ticket : ℕ) (subjects : List (Subject A)) → followed_by ticket subjects ≡ by_keys ticket (map key subjects)
  of_keys ticket [] = refl
  of_keys ticket (subject ∷ subjects) = by (has ticket subject) (of_keys ticket subjects)
    where
      by : (b : Bool) → followed_by ticket subjects ≡ by_keys ticket (map key subjects)
          → map aim_of (cond b (subject ∷ filter (has ticket) subjects) (filter (has ticket) subjects))
          ≡ map (λ one. one.aim) (cond b (key subject ∷ filter (λ one. one.ticket == ticket) (map key subjects))
          (filter (λ one. one.ticket == ticket) (map key subjects)))
      by true rest = ap (λ t. aim_of subject ∷ t) rest
      by false rest = rest

  followed_like : (ticket : ℕ) (old new : List (Subject A)) → map key new ≡ map key old
      → followed_by ticket new ≡ followed_by ticket old
  followed_like ticket old new same = of_keys ticket new ∙ ap (by_keys ticket) same ∙ sym (of_keys ticket old)

  mapped_like : (f : Subject A → Subject A) → ((subject : Subject A) → key (f subject) ≡ key subject) → (subjects : List (Subject A))
      → map key (map f subjects) ≡ map key subjects
  mapped_like f same [] = refl
  mapped_like f same (subject ∷ subjects) =
      ap (λ one. one ∷ map key (map f subjects)) (same subject) ∙ ap (λ t. key subject ∷ t) (mapped_like f same subjects)

  refused_like : (now : ℕ) (found : Option ℕ) (subjects : List (Subject A)) → map key (refused_by now found subjects) ≡ map key subjects
  refused_like now None subjects = refl
  refused_like now (Some its) subjects =
      mapped_like (too_long_for now its) (refused_same key (λ subject progress. refl) now its) subjects

  visit_side : (now : ℕ) (subject new : Subject A) → IsVisited now subject new → new.side ≡ subject.side
  visit_side now subject new visited = by visited.3
    where
      by : Visits now visited.0 subject visited.1 visited.2 new → new.side ≡ subject.side
      by (inl kept) = elim kept.2 [
        | inl same ↦ ap (λ (s : Subject A). s.side) same
        | inr rests ↦ ap (λ (s : Subject A). s.side) rests
      ]
      by (inr asked) = ap (λ (s : Subject A). s.side) asked.4
          ∙ all_same_side now asked.0.outputs (record subject { progress = Progress.Reading })

  same_key : (old new : Subject A) → new.ticket ≡ old.ticket → new.side ≡ old.side → new.path ≡ old.path → key new ≡ key old
  same_key old new ticket side path =
      ap (λ n. record { ticket = n; aim = (new.side, new.path) }) ticket
      ∙ ap (λ s. record { ticket = old.ticket; aim = (s, new.path) }) side
      ∙ ap (λ p. record { ticket = old.ticket; aim = (old.side, p) }) path

  visited_like : (now : ℕ) (outputs : List Output) (old new : List (Subject A)) → length new ≡ length old
      → AreVisited now outputs old new → map key new ≡ map key old
  visited_like now outputs old new size visited =
      same_lists (map key new) (map key old) (length-map new key ∙ size ∙ sym (length-map old key)) (λ k d within.
      let any : Subject A = fresh d.ticket d.aim.0 d.aim.1 in
      let here : k < length new = subst (λ n. k < n) (length-map new key) within in
      let there : k < length old = subst (λ n. k < n) size here in
      let was : Subject A = slice_index_or old k any in
      let is : Subject A = slice_index_or new k any in
      let kept = visit_keeps now (taken now outputs was) is (visited k any there) in
      let side = visit_side now (taken now outputs was) is (visited k any there) in
      get_or-map key new k any d here
      ∙ same_key was is (kept.0 ∙ all_same_ticket now outputs was) (side ∙ all_same_side now outputs was)
      (kept.1 ∙ all_same_path now outputs was)
      ∙ sym (get_or-map key old k any d there))

  -- ---- moves

  module _ (ticket : ℕ) where
    added : (its : ℕ) (side : Side) (path : Text) (subjects : List (Subject A))
        → followed_by ticket (subjects ++ fresh its side path ∷ [])
        ≡ cond (its == ticket) (followed_by ticket subjects ++ (side, path) ∷ []) (followed_by ticket subjects)
    added its side path subjects =
        ap (map aim_of) (filter-append (has ticket) subjects (fresh its side path ∷ []))
        ∙ map-append aim_of (filter (has ticket) subjects) (filter (has ticket) (fresh its side path ∷ [])) ∙ by (its == ticket)
      where
        by : (b : Bool) → followed_by ticket subjects ++ map aim_of (cond b (fresh its side path ∷ []) [])
            ≡ cond b (followed_by ticket subjects ++ (side, path) ∷ []) (followed_by ticket subjects)
        by true = refl
        by false = append-nil (followed_by ticket subjects)

    gone_same : (subjects : List (Subject A)) → followed_by ticket (unfollowed ticket subjects) ≡ []
    gone_same [] = refl
    gone_same (subject ∷ subjects) = by (has ticket subject) refl (gone_same subjects)
      where
        by : (b : Bool) → has ticket subject ≡ b → followed_by ticket (unfollowed ticket subjects) ≡ []
            → followed_by ticket (cond (not b) (subject ∷ unfollowed ticket subjects) (unfollowed ticket subjects)) ≡ []
        by true e rest = rest
        by false e rest = ap (λ b. map aim_of (cond b (subject ∷ filter (has ticket) (unfollowed ticket subjects))
            (filter (has ticket) (unfollowed ticket subjects)))) e ∙ rest

    gone_other : (its : ℕ) → (its == ticket) ≡ false → (subjects : List (Subject A))
        → followed_by ticket (unfollowed its subjects) ≡ followed_by ticket subjects
    gone_other its apart [] = refl
    gone_other its apart (subject ∷ subjects) = by (has its subject) refl (gone_other its apart subjects)
      where
        all : List (Subject A)
        all = filter (has ticket) subjects

        left : List (Subject A)
        left = filter (has ticket) (unfollowed its subjects)

        other : has its subject ≡ true → has ticket subject ≡ false
        other e = subst (λ n. (n == ticket) ≡ false) (sym (eqb-true subject.ticket its e)) apart

        first : (b : Bool) → map aim_of left ≡ map aim_of all
            → map aim_of (cond b (subject ∷ left) left) ≡ map aim_of (cond b (subject ∷ all) all)
        first true rest = ap (λ t. aim_of subject ∷ t) rest
        first false rest = rest

        by : (b : Bool) → has its subject ≡ b → map aim_of left ≡ map aim_of all
            → followed_by ticket (cond (not b) (subject ∷ unfollowed its subjects) (unfollowed its subjects))
            ≡ followed_by ticket (subject ∷ subjects)
        by true e rest = rest ∙ sym (ap (λ b. map aim_of (cond b (subject ∷ all) all)) (other e))
        by false e rest = first (has ticket subject) rest

    gone : (its : ℕ) (subjects : List (Subject A))
        → followed_by ticket (unfollowed its subjects) ≡ cond (its == ticket) [] (followed_by ticket subjects)
    gone its subjects = by (its == ticket) refl
      where
        by : (b : Bool) → (its == ticket) ≡ b
            → followed_by ticket (unfollowed its subjects) ≡ cond b [] (followed_by ticket subjects)
        by true e = subst (λ n. followed_by ticket (unfollowed n subjects) ≡ []) (sym (eqb-true its ticket e)) (gone_same subjects)
        by false e = gone_other its e subjects

    shifts : (one : TreeTold) (subjects : List (Subject A))
        → followed_by ticket (shifted one subjects) ≡ told_of ticket (followed_by ticket subjects) one
    shifts (TakesOn tree its side path) subjects = added its side path subjects
    shifts (LetsGo tree its) subjects = gone its subjects
    shifts (IsBounded tree is_bounded) subjects = refl
    shifts (IsWhole tree) subjects = refl

    abbrev followed_in : Trail A → List (Side × Text)
    followed_in trail = followed_by ticket trail.subjects

    heard_same : (now : ℕ) (given : Input) (old new : Trail A) → HearsSo now given old new → followed_in new ≡ followed_in old
    heard_same now given old new does =
        followed_like ticket old.subjects new.subjects (ap (map key) does.takes.subjects
        ∙ refused_like now (too_long_in does.takes.given) (map (heard_of new.view) does.takes.stepped)
        ∙ mapped_like (heard_of new.view) (λ subject. refl) does.takes.stepped
        ∙ visited_like now (does.takes.steps.first ++ does.takes.steps.second) old.subjects does.takes.stepped does.takes.steps.count
        does.takes.steps.visited)

    leaves_same : (is_lost : Bool) (now : ℕ) (old new : Trail A) → LeavesWhere is_lost now old new → followed_in new ≡ followed_in old
    leaves_same true now old new does = heard_same now turns.Cut old new does
    leaves_same false now old new same = ap followed_in same

    doubts_same : (is_risen : Bool) (now : ℕ) (old new : Trail A) → DoubtsWhere is_risen now old new → followed_in new ≡ followed_in old
    doubts_same true now old new does =
        heard_same now (turns.Now now) (record old { subjects = map doubted old.subjects }) new does
        ∙ followed_like ticket old.subjects (map doubted old.subjects) (mapped_like doubted (λ subject. refl) old.subjects)
    doubts_same false now old new same = ap followed_in same

    follows : (move : Move) (old new : Trail A) → Does old move new → followed_in new ≡ by_move ticket (followed_in old) move
    follows (Hears now given) old new does =
        doubts_same (rises old.view.saved.last does.after.view.saved.last) now does.after new does.doubts
        ∙ leaves_same does.hears.heard.is_lost now does.between does.after does.leaves ∙ heard_same now given old does.between does.hears
    follows (Hands now its asked) old new does = heard_same now (turns.Call its asked) old new does
    follows Renews old new does =
        followed_like ticket old.subjects new.subjects
        (ap (map key) does.subjects ∙ mapped_like due_again (λ subject. refl) old.subjects)
    follows (LeavesLate now) old new does =
        ap followed_in does.last ∙ heard_same now turns.Cut does.between does.after does.hears ∙ ap followed_in does.hangs
    follows (Presents judged frames) old new does = ap followed_in does
    follows (Asks its asked until) old new does = ap followed_in does.last
    follows (GivesUp now) old new does = ap followed_in does
    follows Closes old new does = ap followed_in does.last
    follows (Follows its side path) old new does = ap followed_in does ∙ added its side path old.subjects
    follows (Unfollows its) old new does = ap followed_in does ∙ gone its old.subjects
    follows (Opened now) old new does = ap followed_in does.1
    follows (Ended now) old new does = ap followed_in does.1
    follows HungUp old new does = ap followed_in does
    follows (Addressed kept more is_listed) old new does = ap followed_in does.1
    follows (Decides now due) old new does = ap followed_in does.last
    follows (Tends one) old new does = ap followed_in does ∙ shifts one old.subjects

    follows_all : (moves : List Move) (old new : Trail A) → FoldsTo Does old moves new
        → followed_in new ≡ fold (by_move ticket) (followed_in old) moves
    follows_all [] old new same = sym (ap followed_in same)
    follows_all (move ∷ moves) old new does =
        follows_all moves does.0 new does.2 ∙ ap (λ b. fold (by_move ticket) b moves) (follows move old does.0 does.1)

-- ---- what comes from outside, and what is told

module _ (ticket : ℕ) where
  abbrev Sides : Type 0
  Sides = List (Side × Text)

  abbrev moved : Sides → Move → Sides
  moved before move = by_move ticket before move

  -- what was told so far leads on
  abbrev told_on : Sides → List TreeTold → Sides
  told_on before all = fold (told_of ticket) before all

  -- nothing of these is told by this ticket
  abbrev AreOthers : List TreeTold → Type 0
  AreOthers all = AllByRecursion (λ one. is_told ticket one ≡ false) all

  -- with this move nothing else is followed by it
  abbrev IsOther : Move → Type 0
  IsOther move = (before : Sides) → moved before move ≡ before

  other_told : (one : TreeTold) → is_told ticket one ≡ false → (before : Sides) → told_of ticket before one ≡ before
  other_told (TakesOn tree its side path) other before = ap (λ b. cond b (before ++ (side, path) ∷ []) before) other
  other_told (LetsGo tree its) other before = ap (λ b. cond b [] before) other
  other_told (IsBounded tree is_bounded) other before = refl
  other_told (IsWhole tree) other before = refl

  pub others_told : (all : List TreeTold) → AreOthers all → (before : Sides) → told_on before all ≡ before
  others_told [] others before = refl
  others_told (one ∷ all) others before =
      ap (λ b. told_on b all) (other_told one others.0 before) ∙ others_told all others.1 before

  own_move : (move : Move) → is_given move ≡ false → (before : Sides) → moved before move ≡ told_on before (tends_of move)
  own_move (Follows its side path) own before = absurd (true≢false own)
  own_move (Unfollows its) own before = absurd (true≢false own)
  own_move (Tends one) own before = refl
  own_move _ own before = refl

  given_tends : (move : Move) → is_given move ≡ true → tends_of move ≡ []
  given_tends (Tends one) given = absurd (true≢false (sym given))
  given_tends _ given = refl

  -- What comes from outside has no part in it: all is by what is told.
  pub by_told : (moves : List Move) → AllByRecursion IsOther (filter is_given moves) → (before : Sides)
      → fold moved before moves ≡ told_on before (tended_in moves)
  by_told [] others before = refl
  by_told (move ∷ moves) others before = by (is_given move) refl (λ rest b. by_told moves rest b) others
    where
      joined : moved before move ≡ told_on before (tends_of move)
          → ((b : Sides) → fold moved b moves ≡ told_on b (tended_in moves))
          → fold moved before (move ∷ moves) ≡ told_on before (tended_in (move ∷ moves))
      joined here rest =
          rest (moved before move) ∙ ap (λ b. told_on b (tended_in moves)) here
          ∙ sym (fold_more (told_of ticket) before (tends_of move) (tended_in moves))

      by : (b : Bool) → is_given move ≡ b
          → (AllByRecursion IsOther (filter is_given moves) → (b : Sides) → fold moved b moves ≡ told_on b (tended_in moves))
          → AllByRecursion IsOther (cond b (move ∷ filter is_given moves) (filter is_given moves))
          → fold moved before (move ∷ moves) ≡ told_on before (tended_in (move ∷ moves))
      by true given on others =
          joined (others.0 before ∙ sym (ap (λ t. told_on before t) (given_tends move given))) (on others.1)
      by false own on others = joined (own_move move own before) (on others)

  others_first : (first second : List TreeTold) → AreOthers (first ++ second) → AreOthers first × AreOthers second
  others_first [] second others = (tt, others)
  others_first (one ∷ first) second others =
      let rest = others_first first second others.1 in ((others.0, rest.0), rest.1)

  -- What is told has no part in it: all is by what comes from outside.
  pub by_given : (moves : List Move) → AreOthers (tended_in moves) → (before : Sides)
      → fold moved before moves ≡ fold moved before (filter is_given moves)
  by_given [] others before = refl
  by_given (move ∷ moves) others before = by (is_given move) refl (λ b. by_given moves (rest others).1 b)
    where
      rest : AreOthers (tended_in (move ∷ moves)) → AreOthers (tends_of move) × AreOthers (tended_in moves)
      rest others = others_first (tends_of move) (tended_in moves) others

      by : (b : Bool) → is_given move ≡ b → ((b : Sides) → fold moved b moves ≡ fold moved b (filter is_given moves))
          → fold moved before (move ∷ moves) ≡ fold moved before (cond b (move ∷ filter is_given moves) (filter is_given moves))
      by true given on = on (moved before move)
      by false own on =
          ap (λ b. fold moved b moves) (own_move move own before ∙ others_told (tends_of move) (rest others).0 before) ∙ on before

  -- ---- what is asked for

  pub not_asked : (what : Happening) → is_asked ticket what ≡ false → (before : Sides) → asked_of ticket what before ≡ before
  not_asked (happens.Follows its side path) other before = ap (λ b. cond b (before ++ (side, path) ∷ []) before) other
  not_asked (happens.Unfollows its) other before = ap (λ b. cond b [] before) other
  not_asked _ other before = refl

  same : (before : Sides) → before ≡ before
  same before = refl

  opened_other : (phase : Phase) (now : ℕ) → AllByRecursion IsOther (opened_at phase now)
  opened_other (Dialling began until) now = (same, (same, tt))
  opened_other _ now = (same, (same, (same, tt)))

  bytes_other : (is_open : Bool) (now : ℕ) (bytes : List ℕ) → AllByRecursion IsOther (bytes_at is_open now bytes)
  bytes_other true now bytes = (same, tt)
  bytes_other false now bytes = (same, tt)

  left_other : (leaves : Bool) (now : ℕ) → AllByRecursion IsOther (left_at leaves now)
  left_other true now = (same, (same, (same, tt)))
  left_other false now = (same, tt)

  given_other : {A : Type 0} (dialler : Dialler A) (now : ℕ) (given : AgentInput A) → is_asked ticket (happening given) ≡ false
      → AllByRecursion IsOther (given_of dialler now given)
  given_other dialler now input.Opened other = opened_other dialler.phase now
  given_other dialler now input.Failed other = (same, (same, tt))
  given_other dialler now input.Cut other = (same, (same, tt))
  given_other dialler now (input.Bytes bytes) other = bytes_other (is_open dialler.phase) now bytes.items
  given_other dialler now input.Moment other = (same, tt)
  given_other dialler now (input.Addresses kept added is_listed) other = (same, left_other (leaves_with dialler kept added is_listed) now)
  given_other dialler now (input.Call its call until) other = (same, (same, tt))
  given_other dialler now (input.Credential credential) other = (same, tt)
  given_other dialler now (input.Follow its side path) other =
      ((λ before. ap (λ b. cond b (before ++ (side, path) ∷ []) before) other), (same, tt))
  given_other dialler now (input.Unfollow its) other = ((λ before. ap (λ b. cond b [] before) other), (same, tt))
  given_other dialler now (input.FollowTree its root most) other = (same, tt)
  given_other dialler now (input.UnfollowTree its) other = (same, tt)

  moves_other : {A : Type 0} (is_open : Bool) (now : ℕ) (given : AgentInput A) (agent : Agent A) → is_asked ticket (happening given) ≡ false
      → AllByRecursion IsOther (moves_of is_open now given agent)
  moves_other is_open now given agent other =
      each_both IsOther (given_of agent.dialler now given)
      (Presents (judging_in given agent).1.judged (unwritten is_open (papers_in given agent)) ∷ [])
      (given_other agent.dialler now given other) (same, tt)

  given_asks : {A : Type 0} (is_open : Bool) (now : ℕ) (given : AgentInput A) (agent : Agent A) → is_asked ticket (happening given) ≡ true
      → (before : Sides) → fold moved before (moves_of is_open now given agent) ≡ asked_of ticket (happening given) before
  given_asks is_open now (input.Follow its side path) agent asked before = refl
  given_asks is_open now (input.Unfollow its) agent asked before = refl
  given_asks is_open now _ agent asked before = absurd (true≢false (sym asked))

  -- ---- what an agent takes

  abbrev sides_in : Agent Global → Sides
  sides_in agent = followed_by ticket agent.asker.follower.subjects.items

  abbrev trees_told : List (Action Global) → List TreeTold
  trees_told said = trees_in (told_by said)

  took_sides : (now : ℕ) (given : AgentInput Global) (from to : Agent Global) (said : List (Action Global))
      → AgentTook now given from to said → (is_asked ticket (happening given) ≡ true → AreOthers (trees_told said))
      → sides_in to ≡ asked_of ticket (happening given) (told_on (sides_in from) (trees_told said))
  took_sides now given from to said took apart = by (is_asked ticket (happening given)) refl
    where
      moves : List Move
      moves = took.comes.moves

      outside : List Move
      outside = moves_of (is_open to.dialler.phase) (max from.latest now) given from

      told : trees_told said ≡ tended_in moves
      told = tells_each moves (trail_of from []) (trail_of to said) took.comes.does

      through : sides_in to ≡ fold moved (sides_in from) moves
      through = follows_all ticket moves (trail_of from []) (trail_of to said) took.comes.does

      by : (b : Bool) → is_asked ticket (happening given) ≡ b
          → sides_in to ≡ asked_of ticket (happening given) (told_on (sides_in from) (trees_told said))
      by true asked =
          let others = apart asked in
          through ∙ by_given moves (subst AreOthers told others) (sides_in from)
          ∙ ap (λ (m : List Move). fold moved (sides_in from) m) took.comes.comes
          ∙ given_asks (is_open to.dialler.phase) (max from.latest now) given from asked (sides_in from)
          ∙ ap (asked_of ticket (happening given)) (sym (others_told (trees_told said) others (sides_in from)))
      by false other =
          through
          ∙ by_told moves (subst (AllByRecursion IsOther) (sym took.comes.comes)
          (moves_other (is_open to.dialler.phase) (max from.latest now) given from other)) (sides_in from)
          ∙ ap (λ t. told_on (sides_in from) t) (sym told)
          ∙ sym (not_asked (happening given) other (told_on (sides_in from) (trees_told said)))

  own_not_asked : (what : Happening) → IsOwn what → is_asked ticket what ≡ false
  own_not_asked (happens.Follows its side path) own = absurd own
  own_not_asked (happens.Unfollows its) own = absurd own
  own_not_asked _ own = refl

  pub told_both : (first second : List (Action Global)) → trees_told (first ++ second) ≡ trees_told first ++ trees_told second
  told_both first second = ap trees_in (map-append action_view first second) ∙ trees_more (told_by first) (told_by second)

  own_sides : (now : ℕ) (own : List Part) (from to : Agent Global) → TookAll now from own to
      → AllByRecursion (λ part. IsOwn (happening part.given)) own
      → sides_in to ≡ told_on (sides_in from) (trees_told (flat_map (λ part. part.said) own))
  own_sides now [] from to is are = sym (ap sides_in is)
  own_sides now (part ∷ own) from to took are =
      own_sides now own took.0 to took.2 are.1
      ∙ ap (λ b. told_on b (trees_told (flat_map (λ part. part.said) own))) (took_sides now part.given from took.0 part.said took.1
      (λ asked. absurd (true≢false (sym asked ∙ not_own))) ∙ not_asked (happening part.given) not_own _)
      ∙ sym (fold_more (told_of ticket) (sides_in from) (trees_told part.said) (trees_told (flat_map (λ part. part.said) own)))
      ∙ ap (λ t. told_on (sides_in from) t) (sym (told_both part.said (flat_map (λ part. part.said) own)))
    where
      not_own : is_asked ticket (happening part.given) ≡ false
      not_own = own_not_asked (happening part.given) are.0

  -- ---- a step

  answer_none : (one : Action Global) → IsOwnAnswer one → trees_told (one ∷ []) ≡ []
  answer_none (action.Answer its outcome) own = refl
  answer_none _ own = absurd own

  pub told_but : (said told : List (Action Global)) → TellsAllBut said told → trees_told told ≡ trees_told said
  told_but [] told is = ap trees_told is
  told_but (one ∷ said) told (inl but) =
      told_but said told but.1
      ∙ sym (told_both (one ∷ []) said ∙ ap (λ t. t ++ trees_told said) (answer_none one but.0))
  told_but (one ∷ said) told (inr tells) =
      ap trees_told tells.1 ∙ told_both (one ∷ []) tells.0 ∙ ap (λ t. trees_told (one ∷ []) ++ t) (told_but said tells.0 tells.2)
      ∙ sym (told_both (one ∷ []) said)

  -- of a contender the agent is asked for nothing
  asked_as : (what : Happening) (before : Sides) → asked_of ticket (happens.given_of what) before ≡ asked_of ticket what before
  asked_as (happens.Contends its directory naming guid bytes acl may_be_there) before = refl
  asked_as (happens.GivesUp its) before = refl
  asked_as _ before = refl

  is_asked_as : (what : Happening) → is_asked ticket (happens.given_of what) ≡ is_asked ticket what
  is_asked_as (happens.Contends its directory naming guid bytes acl may_be_there) = refl
  is_asked_as (happens.GivesUp its) = refl
  is_asked_as _ = refl

  pub step_sides : (now : ℕ) (what : Happening) (old session : Device) → Stepped now what old session
      → (is_asked ticket what ≡ true → AreOthers (trees_told session.said.items))
      → sides_in session.agent ≡ asked_of ticket what (told_on (sides_in old.agent) (trees_told session.said.items))
  step_sides now what old session does apart = by (is_asked ticket what) refl
    where
      said : List (Action Global)
      said = does.took.said

      owned : List (Action Global)
      owned = flat_map (λ part. part.said) does.took.own

      told : trees_told session.said.items ≡ trees_told said ++ trees_told owned
      told = told_but (said ++ owned) session.said.items does.took.told ∙ told_both said owned

      agent : Agent Global
      agent = does.took.took.0

      is_same : is_asked ticket (happening does.given) ≡ is_asked ticket what
      is_same = ap (is_asked ticket) does.is ∙ is_asked_as what

      both : is_asked ticket what ≡ true → AreOthers (trees_told said) × AreOthers (trees_told owned)
      both asked = others_first (trees_told said) (trees_told owned) (subst AreOthers told (apart asked))

      first : sides_in agent ≡ asked_of ticket what (told_on (sides_in old.agent) (trees_told said))
      first =
          took_sides now does.given old.agent agent said does.took.took.1 (λ asked. (both (sym is_same ∙ asked)).0)
          ∙ ap (λ w. asked_of ticket w (told_on (sides_in old.agent) (trees_told said))) does.is
          ∙ asked_as what (told_on (sides_in old.agent) (trees_told said))

      second : sides_in session.agent ≡ told_on (sides_in agent) (trees_told owned)
      second = own_sides now does.took.own agent session.agent does.took.took.2 does.took.are_own

      by : (b : Bool) → is_asked ticket what ≡ b
          → sides_in session.agent ≡ asked_of ticket what (told_on (sides_in old.agent) (trees_told session.said.items))
      by true asked =
          second ∙ others_told (trees_told owned) (both asked).1 (sides_in agent) ∙ first
          ∙ ap (asked_of ticket what) (others_told (trees_told said) (both asked).0 (sides_in old.agent)
          ∙ sym (others_told (trees_told session.said.items) (apart asked) (sides_in old.agent)))
      by false other =
          second ∙ ap (λ b. told_on b (trees_told owned)) (first ∙ not_asked what other _)
          ∙ sym (fold_more (told_of ticket) (sides_in old.agent) (trees_told said) (trees_told owned))
          ∙ ap (λ t. told_on (sides_in old.agent) t) (sym told)
          ∙ sym (not_asked what other (told_on (sides_in old.agent) (trees_told session.said.items)))
