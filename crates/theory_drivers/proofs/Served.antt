-- A driver's deeds, one after the other, keep its client served.
use Rattle.std.proofs.Common.{◌≡◌, ◌≤◌, ◌++◌, ◌∙◌, ℕ, ℤ, Bool, true, false, cond, List, [], ◌∷◌, Option, Some, None, length, ap, append-nil}
use Rattle.std.proofs.Common.{refl, sym, subst}
use Rattle.std.specs.Prelude.{◌&&◌, filter, not, max}
use Rattle.std.specs.List.{AllByRecursion, FoldsTo}
use Rattle.std.specs.Io.KnownBytes.{Appends, Consumes}
use Rattle.std.proofs.lemmas.List.{append_cancel_left, append_cancel_right}
use Rattle.zk_nodes.specs.History.{IsHistory}
use Rattle.zk_turns.specs.Turns as turns
use Rattle.zk_turns.specs.View.{Standing, View}
use Rattle.zk_turns.specs.Turns.{new_start}
use Rattle.zk_turns.specs.Past.{is_open as is_going}
use Rattle.zk_client.specs.Clients.{view_of}
use Rattle.zk_dialler.specs.declared.dialler.Phase.{Phase}
use Rattle.zk_dialler.specs.declared.dialler.Phase.TheVariants.{Dialling, Open, Waiting}
use Rattle.zk_dialler.specs.Dialling.{is_open}
use Rattle.zk_laws.specs.Headline.{IsCoherentWith}
use Rattle.zk_laws.specs.Served.{Served}
use Rattle.theory_serving.specs.Shown.{connected, Shown}
use Rattle.theory_serving.specs.Wires.{is_up}
use Rattle.theory_serving.proofs.Entries.{served_so}
use Rattle.theory_serving.proofs.Views.{first_session, good_session}
use Rattle.zk_conclusions.specs.Seen.{IsServedFrom}
use Rattle.zk_agent.specs.declared.agent.Agent.{Agent}
use Rattle.zk_agent.specs.declared.input.AgentInput.{AgentInput}
use Rattle.zk_agent.specs.declared.input.AgentInput.TheVariants as happens
use Rattle.zk_agent.specs.Agents.{bytes_at, given_of, leaves_with, left_at, moves_of, opened_at, trail_of, Addressed, Ended, Hears, HungUp}
use Rattle.zk_agent.specs.Agents.{Move, Opened, Presents, Trail}
use Rattle.zk_driver.specs.Driving.{closed, opened, ChannelView, Course, Looked, Noted, Takes, Written}
use Rattle.zk_link.specs.FarEnds.{FarEnd, Reaches}
use Rattle.zk_driver.specs.Flowing.{Asked, Carries, Deed, Flow, Made, Passes}
use Rattle.theory_drivers.specs.Acts.{given_in, taken_in}
use Rattle.theory_drivers.specs.Worlds.{Befalls, ByDriver, ByStream, Meanwhile, Meets}
use Rattle.theory_drivers.specs.ServedDrivers.{Begins, MeetsServers}
use Rattle.theory_drivers.proofs.Turned.{kept_down, let_go, Kept}
use Rattle.theory_drivers.proofs.Heard.{left_by}
use Rattle.theory_drivers.proofs.Moved.{all_apart, all_ready, bytes_noted, late_noted, moved_noted, opened_noted, over_noted, Apart, Given}
use Rattle.theory_drivers.proofs.Moved.{IsFree}
use Rattle.theory_drivers.proofs.Moved.{is_met, met_through, IsLater}
use Rattle.theory_drivers.proofs.Moved.{Loose, Ready}
use Rattle.theory_drivers.proofs.Acted.{acts_keep, apart_kept}

abbrev pub view_in : {A : Type 0} → Course A → View
view_in course = view_of course.agent.asker.follower.client

-- what is held on a connection that is there
abbrev pub held_where : Bool → List ℕ → List ℕ
held_where true held = held
held_where false held = []

-- between deeds
pub record Bound {A : Type 0} {far : FarEnd} (flow : Flow A far) (shown : Shown) : Type 0 where
  pub here : Kept (view_in flow.course) flow.course.channel.is_open flow.course.channel.unsent
      (held_where flow.course.channel.is_open flow.held) shown
  pub tied : is_up (view_in flow.course) ≡ true → is_open flow.course.agent.dialler.phase ≡ true
  pub later : IsLater flow.course.agent.timeout_ms

none_where : (there : Bool) (held : List ℕ) → held ≡ [] → held_where there held ≡ []
none_where true held none = none
none_where false held none = refl

-- ---- bytes are written and read

module _ {A : Type 0} {far : FarEnd} (old new : Flow A far) (before after : Shown)
    (course : new.course ≡ record old.course { channel = new.course.channel })
    (there : new.course.channel.is_open ≡ old.course.channel.is_open) where
  stretch : (b : Bool) → old.course.channel.is_open ≡ b → Meanwhile ByDriver b old new before after → Bound old before → Bound new after
  stretch true is meets bound = record {
    here =
        subst (λ v. Kept v new.course.channel.is_open new.course.channel.unsent (held_where new.course.channel.is_open new.held) after)
        (sym (ap (λ (c : Course A). view_in c) course))
        (subst (λ b. Kept (view_in old.course) b new.course.channel.unsent (held_where b new.held) after) (sym (there ∙ is))
        (subst (λ held. Kept (view_in old.course) true new.course.channel.unsent held after) (sym meets.2.read)
        (acts_keep (view_in old.course) meets.0 old.course.channel.unsent new.course.channel.unsent old.held before
        after meets.1 meets.2.wrote
        (subst (λ b. Kept (view_in old.course) b old.course.channel.unsent (held_where b old.held) before) is bound.here))));
    tied = subst (λ (c : Course A). is_up (view_in c) ≡ true → is_open c.agent.dialler.phase ≡ true) (sym course) bound.tied;
    later = subst (λ (c : Course A). IsLater c.agent.timeout_ms) (sym course) bound.later;
  }
  stretch false is meets bound = record {
    here =
        subst (λ v. Kept v new.course.channel.is_open new.course.channel.unsent (held_where new.course.channel.is_open new.held) after)
        (sym (ap (λ (c : Course A). view_in c) course))
        (subst (λ b. Kept (view_in old.course) b new.course.channel.unsent (held_where b new.held) after) (sym (there ∙ is))
        (apart_kept (view_in old.course) old.course.channel.unsent new.course.channel.unsent [] before after meets
        (subst (λ b. Kept (view_in old.course) b old.course.channel.unsent (held_where b old.held) before) is bound.here)));
    tied = subst (λ (c : Course A). is_up (view_in c) ≡ true → is_open c.agent.dialler.phase ≡ true) (sym course) bound.tied;
    later = subst (λ (c : Course A). IsLater c.agent.timeout_ms) (sym course) bound.later;
  }

-- ---- the agent takes an input

met_bytes : (there : Bool) (now : ℕ) (bytes : List ℕ) (told : Move) → is_met told ≡ false
    → filter is_met (bytes_at there now bytes ++ told ∷ []) ≡ bytes_at there now bytes
met_bytes true now bytes told none = ap (λ b. Hears now (turns.Bytes bytes) ∷ cond b (told ∷ []) []) none
met_bytes false now bytes told none = ap (λ b. Hears now (turns.Now now) ∷ cond b (told ∷ []) []) none

met_opened : (phase : Phase) (now : ℕ) (judged : List (ℕ × ℤ)) (frames : List (List ℕ))
    → filter is_met (opened_at phase now ++ Presents judged frames ∷ []) ≡ opened_at phase now
met_opened Waiting now judged frames = refl
met_opened (Dialling began until) now judged frames = refl
met_opened Open now judged frames = refl

met_left : (kept added : ℕ) (is_listed leaves : Bool) (now : ℕ) (judged : List (ℕ × ℤ)) (frames : List (List ℕ))
    → filter is_met (Addressed kept added is_listed ∷ (left_at leaves now ++ Presents judged frames ∷ []))
    ≡ Addressed kept added is_listed ∷ left_at leaves now
met_left kept added is_listed true now judged frames = refl
met_left kept added is_listed false now judged frames = refl

-- what an input makes, without what is told of credentials
made_met : {A : Type 0} (there : Bool) (now : ℕ) (input : AgentInput A) (agent : Agent A)
    → filter is_met (moves_of there now input agent) ≡ given_of agent.dialler now input
made_met there now happens.Opened agent = met_opened agent.dialler.phase now _ _
made_met there now happens.Failed agent = refl
made_met there now (happens.Bytes bytes) agent = met_bytes (is_open agent.dialler.phase) now bytes.items _ refl
made_met there now happens.Cut agent = refl
made_met there now happens.Moment agent = refl
made_met there now (happens.Addresses kept added is_listed) agent =
    met_left kept added is_listed (leaves_with agent.dialler kept added is_listed) now _ _
made_met there now (happens.Call ticket call until) agent = refl
made_met there now (happens.Credential credential) agent = refl
made_met there now (happens.Follow ticket side path) agent = refl
made_met there now (happens.Unfollow ticket) agent = refl
made_met there now (happens.FollowTree ticket root most) agent = refl
made_met there now (happens.UnfollowTree ticket) agent = refl

module _ {A : Type 0} {far : FarEnd} (old new : Flow A far) (now : ℕ) (input : AgentInput A) (between : ChannelView)
    (takes : Takes now input (record old.course { channel = between }) new.course)
    (none : new.held ≡ []) where
  abbrev first : Trail A
  first = trail_of old.course.agent []

  abbrev last : Trail A
  last = trail_of new.course.agent takes.actions

  abbrev moment : ℕ
  moment = max old.course.agent.latest now

  came : (given : List Move) → given_of old.course.agent.dialler moment input ≡ given → Given given first last
  came given is = record {
    moves = takes.comes.moves;
    does = takes.comes.does;
    comes = met_through takes.comes.moves ∙ ap (filter is_met) takes.comes.comes
        ∙ made_met (is_open new.course.agent.dialler.phase) moment input old.course.agent ∙ is;
  }

  done : (shown : Shown) → Ready between [] shown last → Bound new shown
  done shown ready = record {
    here =
        subst (λ held. Kept (view_in new.course) new.course.channel.is_open new.course.channel.unsent held shown)
        (sym (none_where new.course.channel.is_open new.held none))
        (subst (λ (c : ChannelView). Kept (view_in new.course) c.is_open c.unsent [] shown) (sym takes.channel) ready.here);
    tied = ready.tied;
    later = ready.later;
  }

  -- a client that has no connection then
  done_apart : (channel : ChannelView) (shown : Shown) → Apart channel [] shown last → Bound new shown
  done_apart channel shown apart = done shown (record {
    here = kept_down last.view (left_by channel last).is_open (left_by between last).is_open (left_by channel last).unsent []
        (left_by between last).unsent [] shown shown apart.here apart.down refl;
    tied = λ up. let e : true ≡ false = sym up ∙ apart.down in cc;
    later = apart.later;
  })

  module _ (before : Shown) (bound : Bound old before) where
    -- nothing is held, and the connection is as it was
    ready_first : between ≡ old.course.channel → old.held ≡ [] → Ready between [] before first
    ready_first same empty = record {
      here =
          subst (λ (c : ChannelView). Kept (view_in old.course) c.is_open c.unsent [] before) (sym same)
          (subst (λ held. Kept (view_in old.course) old.course.channel.is_open old.course.channel.unsent held before)
          (none_where old.course.channel.is_open old.held empty) bound.here);
      tied = bound.tied;
      later = bound.later;
    }

    -- it is over
    loose_first : (shown : Shown) → shown.history ≡ before.history → old.held ≡ [] → Loose closed [] shown first
    loose_first shown same empty = record {
      here = let_go (view_in old.course) old.course.channel.is_open old.course.channel.unsent [] [] before shown
          (subst (λ held. Kept (view_in old.course) old.course.channel.is_open old.course.channel.unsent held before)
          (none_where old.course.channel.is_open old.held empty) bound.here) same;
      later = bound.later;
    }

    -- the client has none
    apart_first : (channel : ChannelView) (shown : Shown) → (channel.is_open ≡ true → channel.unsent ≡ [])
        → shown.history ≡ before.history → is_open old.course.agent.dialler.phase ≡ false
        → Apart channel [] shown first
    apart_first channel shown empty same shut = record {
      here = kept_down (view_in old.course) old.course.channel.is_open channel.is_open old.course.channel.unsent
          (held_where old.course.channel.is_open old.held) channel.unsent [] before shown bound.here down same;
      down = down;
      empty = empty;
      later = bound.later;
    }
      where
        down : is_up (view_in old.course) ≡ false
        down = by (is_up (view_in old.course)) refl
          where
            by : (b : Bool) → is_up (view_in old.course) ≡ b → b ≡ false
            by true up = let e : true ≡ false = sym (bound.tied up) ∙ shut in cc
            by false is = refl

    -- what is no connection's end or beginning, and no bytes
    plain_bound : (given : List Move) → given_of old.course.agent.dialler moment input ≡ given → AllByRecursion IsFree given
        → between ≡ old.course.channel → old.held ≡ [] → Bound new before
    plain_bound given is free same empty =
        done before (all_ready between [] before given first last free (came given is) (ready_first same empty))

    -- the session moves, or stays
    listed_bound : (kept added : ℕ) (is_listed leaves : Bool)
        → given_of old.course.agent.dialler moment input ≡ Addressed kept added is_listed ∷ left_at leaves moment
        → between ≡ old.course.channel → old.held ≡ [] → Bound new before
    listed_bound kept added is_listed true is same empty =
        done before (moved_noted between before moment kept added is_listed first last
        (came (Addressed kept added is_listed ∷ HungUp ∷ Ended moment ∷ Hears moment turns.Cut ∷ []) is) (ready_first same empty))
    listed_bound kept added is_listed false is same empty = plain_bound _ is (tt, (tt, tt)) same empty

    over_bound : given_of old.course.agent.dialler moment input ≡ Ended moment ∷ Hears moment turns.Cut ∷ []
        → old.held ≡ [] → Bound new before
    over_bound is empty =
        done_apart closed before (over_noted closed before refl moment first last (came (Ended moment ∷ Hears moment turns.Cut ∷ []) is)
        (loose_first before refl empty))

    bytes_bound : (bytes : List ℕ) → given_of old.course.agent.dialler moment input
        ≡ bytes_at (is_open old.course.agent.dialler.phase) moment bytes → between ≡ old.course.channel
        → old.course.channel.is_open ≡ true → bytes ≡ old.held → Bound new before
    bytes_bound bytes is same there held = by (is_open old.course.agent.dialler.phase) refl
      where
        ready : Ready between bytes before first
        ready = record {
          here =
              subst (λ (c : ChannelView). Kept (view_in old.course) c.is_open c.unsent bytes before) (sym same)
              (subst (λ h. Kept (view_in old.course) old.course.channel.is_open old.course.channel.unsent h before)
              (ap (λ b. held_where b old.held) there ∙ sym held) bound.here);
          tied = bound.tied;
          later = bound.later;
        }

        by : (b : Bool) → is_open old.course.agent.dialler.phase ≡ b → Bound new before
        by true open_now =
            done before (bytes_noted between before moment bytes first last
            (came (Hears moment (turns.Bytes bytes) ∷ []) (is ∙ ap (λ b. bytes_at b moment bytes) open_now)) ready)
        by false shut =
            done_apart closed before
            (all_apart closed [] before (Hears moment (turns.Now moment) ∷ []) first last (tt, tt)
            (came (Hears moment (turns.Now moment) ∷ []) (is ∙ ap (λ b. bytes_at b moment bytes) shut))
            (apart_first closed before (λ open_now. refl) refl shut))

    opened_bound : (place : ℕ) → place ≤ length before.history.transactions
        → given_of old.course.agent.dialler moment input ≡ opened_at old.course.agent.dialler.phase moment → between ≡ opened
        → old.held ≡ [] → Bound new (connected place before)
    opened_bound place low is same empty = by old.course.agent.dialler.phase refl
      where
        late : opened_at old.course.agent.dialler.phase moment ≡ HungUp ∷ Ended moment ∷ Hears moment turns.Cut ∷ []
            → Bound new (connected place before)
        late then_is =
            done_apart closed (connected place before)
            (late_noted closed (connected place before) refl moment first last (came (HungUp ∷ Ended moment ∷ Hears moment turns.Cut ∷ [])
            (is ∙ then_is)) (loose_first (connected place before) refl empty))

        by : (phase : Phase) → old.course.agent.dialler.phase ≡ phase → Bound new (connected place before)
        by (Dialling began until) dials =
            done (connected place before)
            (opened_noted between (connected place before) place before refl low moment first last
            (came (Opened moment ∷ Hears moment turns.Opened ∷ []) (is ∙ ap (λ p. opened_at p moment) dials))
            (subst (λ c. Apart c [] (connected place before) first) (sym same)
            (apart_first opened (connected place before) (λ there. refl) refl (ap is_open dials))))
        by Waiting waits = late (ap (λ p. opened_at p moment) waits)
        by Open there = late (ap (λ p. opened_at p moment) there)

-- ---- one deed

noted_bound : {A : Type 0} {far : FarEnd} (now : ℕ) (input : AgentInput A) (old new : Flow A far) (before after : Shown)
    (carries : Carries old (Made (Noted now input)) new)
    → Befalls ByDriver old (Made (Noted now input)) new before after → Bound old before → Bound new after
noted_bound now happens.Opened old new before after carries meets bound =
    subst (Bound new) (sym meets.2)
    (opened_bound old new now happens.Opened carries.0.0 carries.0.2 carries.3 before bound meets.0 meets.1 refl
    carries.0.1.1 (sym carries.2))
noted_bound now happens.Failed old new before after carries meets bound =
    subst (Bound new) (sym meets)
    (over_bound old new now happens.Failed carries.0.0 carries.0.2 carries.3 before bound refl (sym carries.2))
noted_bound now happens.Cut old new before after carries meets bound =
    subst (Bound new) (sym meets)
    (over_bound old new now happens.Cut carries.0.0 carries.0.2 carries.3 before bound refl (sym carries.2))
noted_bound now (happens.Bytes bytes) old new before after carries meets bound =
    subst (Bound new) (sym meets)
    (bytes_bound old new now
    (happens.Bytes bytes) carries.0.0 carries.0.2 carries.3 before bound bytes.items refl carries.0.1.2 carries.0.1.1 carries.2)
noted_bound now happens.Moment old new before after carries meets bound =
    let given : List Move = Hears (max old.course.agent.latest now) (turns.Now (max old.course.agent.latest now)) ∷ [] in
    subst (Bound new) (sym meets) (plain_bound old new now happens.Moment carries.0.0 carries.0.2 carries.3 before bound given refl
    (tt, tt) carries.0.1.1 (sym carries.2))
noted_bound now (happens.Addresses kept added is_listed) old new before after carries meets bound = absurd carries.0.1
noted_bound now (happens.Call ticket call until) old new before after carries meets bound = absurd carries.0.1
noted_bound now (happens.Credential credential) old new before after carries meets bound = absurd carries.0.1
noted_bound now (happens.Follow ticket side path) old new before after carries meets bound = absurd carries.0.1
noted_bound now (happens.Unfollow ticket) old new before after carries meets bound = absurd carries.0.1
noted_bound now (happens.FollowTree ticket root most) old new before after carries meets bound = absurd carries.0.1
noted_bound now (happens.UnfollowTree ticket) old new before after carries meets bound = absurd carries.0.1

asked_bound : {A : Type 0} {far : FarEnd} (now : ℕ) (input : AgentInput A) (old new : Flow A far) (before : Shown)
    (carries : Carries old (Asked now input) new) → Bound old before → Bound new before
asked_bound now happens.Opened old new before carries bound = absurd carries.1
asked_bound now happens.Failed old new before carries bound = absurd carries.1
asked_bound now happens.Cut old new before carries bound = absurd carries.1
asked_bound now (happens.Bytes bytes) old new before carries bound = absurd carries.1
asked_bound now happens.Moment old new before carries bound = absurd carries.1
asked_bound now (happens.Addresses kept added is_listed) old new before carries bound =
    listed_bound old new now (happens.Addresses kept added is_listed) old.course.channel carries.0 carries.4 before bound
    kept added is_listed (leaves_with old.course.agent.dialler kept added is_listed) refl refl carries.3
asked_bound now (happens.Call ticket call until) old new before carries bound =
    plain_bound old new now (happens.Call ticket call until) old.course.channel carries.0 carries.4 before bound _ refl
    (tt, (tt, tt)) refl carries.3
asked_bound now (happens.Credential credential) old new before carries bound = absurd carries.1
asked_bound now (happens.Follow ticket side path) old new before carries bound =
    plain_bound old new now (happens.Follow ticket side path) old.course.channel carries.0 carries.4 before bound _ refl
    (tt, (tt, tt)) refl carries.3
asked_bound now (happens.Unfollow ticket) old new before carries bound =
    plain_bound old new now (happens.Unfollow ticket) old.course.channel carries.0 carries.4 before bound _ refl
    (tt, (tt, tt)) refl carries.3
asked_bound now (happens.FollowTree ticket root most) old new before carries bound =
    plain_bound old new now (happens.FollowTree ticket root most) old.course.channel carries.0 carries.4 before bound _ refl
    (tt, tt) refl carries.3
asked_bound now (happens.UnfollowTree ticket) old new before carries bound =
    plain_bound old new now (happens.UnfollowTree ticket) old.course.channel carries.0 carries.4 before bound _ refl
    (tt, tt) refl carries.3

deed_bound : {A : Type 0} {far : FarEnd} (deed : Deed A) (old new : Flow A far) (before after : Shown) (carries : Carries old deed new)
    → Befalls ByDriver old deed new before after → Bound old before
    → Bound new after
deed_bound (Made Written) old new before after carries meets bound =
    stretch old new before after carries.0.1 carries.0.0.is_open old.course.channel.is_open refl meets bound
deed_bound (Made (Looked look)) old new before after carries meets bound =
    stretch old new before after carries.0.1 carries.0.0.is_open old.course.channel.is_open refl meets bound
deed_bound (Made (Noted now input)) old new before after carries meets bound =
    noted_bound now input old new before after carries meets bound
deed_bound (Asked now input) old new before after carries meets bound =
    subst (Bound new) (sym meets) (asked_bound now input old new before carries bound)

-- what the program takes of what it is told changes nothing of that
told_bound : {A : Type 0} {far : FarEnd} (old new : Flow A far) (shown : Shown)
    → new ≡ record old { course = record old.course { told = new.course.told } }
    → Bound old shown → Bound new shown
told_bound old new shown same bound =
    subst (λ f. Bound f shown) (sym same) (record { here = bound.here; tied = bound.tied; later = bound.later })

pub steps_bound : {A : Type 0} {far : FarEnd} (steps : List (Option (Deed A))) (old new : Flow A far)
    (passes : FoldsTo Passes old steps new)
    (before after : Shown) → Meets ByDriver steps old new passes before after
    → Bound old before → Bound new after
steps_bound [] old new same before after meets bound = subst (Bound new) (sym meets) (subst (λ f. Bound f before) same bound)
steps_bound (Some deed ∷ steps) old new passes before after meets bound =
    steps_bound steps passes.0 new passes.2 meets.0 after meets.2
    (deed_bound deed old passes.0 before meets.0 passes.1 meets.1 bound)
steps_bound (None ∷ steps) old new passes before after meets bound =
    steps_bound steps passes.0 new passes.2 before after meets (told_bound old passes.0 before passes.1 bound)

pub begins_bound : {A : Type 0} {far : FarEnd} (flow : Flow A far) (before : Shown) → Begins flow → Bound flow before
begins_bound flow before begins = record {
  here = record {
    met = before;
    was = first_session begins.start (view_in flow.course) before begins.resumable begins.timed begins.stands;
    history = refl;
    here = λ up there. let e : true ≡ false = sym up ∙ down in cc;
    gone = λ up there. let e : true ≡ false = sym up ∙ down in cc;
  };
  tied = λ up. let e : true ≡ false = sym up ∙ down in cc;
  later = (begins.later, begins.later_timed);
}
  where
    down : is_up (view_in flow.course) ≡ false
    down = ap (λ (t : Standing). is_going t.state && not t.halted) begins.stands.standing

-- ---- by what streams know

pub known_took : (before took written : List ℕ) (old new : Option (List ℕ)) → old ≡ Some before → new ≡ Some (before ++ took)
    → Appends old new written → took ≡ written
known_took before took written old new is then_is appends =
    append_cancel_left before took written
    (subst (λ o. Appends o (Some (before ++ took)) written) is (subst (λ o. Appends old o written) then_is appends))

pub known_gave : (gave rest piece : List ℕ) (old new : Option (List ℕ)) → old ≡ Some (gave ++ rest)
    → new ≡ Some rest → Consumes old new piece → gave ≡ piece
known_gave gave rest piece old new is then_is consumes =
    append_cancel_right gave piece rest (subst (λ o. Consumes o (Some rest) piece) is (subst (λ o. Consumes old o piece) then_is consumes))

by_driver : {A : Type 0} {far : FarEnd} (took gave piece : List ℕ) (old new : Flow A far)
    → Reaches old.course.channel.unsent new.course.channel.unsent old.known new.known piece → new.held ≡ old.held ++ piece
    → ByStream took gave old new → ByDriver took gave old new
by_driver took gave piece old new reaches held by_stream = record {
  wrote =
      reaches.sends.1
      ∙ ap (λ w. w ++ new.course.channel.unsent) (sym (known_took by_stream.before took reaches.sends.0 old.known.took new.known.took
      by_stream.taken by_stream.then_taken reaches.sends.2));
  read = held ∙ ap (λ p. old.held ++ p)
      (sym (known_gave gave by_stream.rest piece old.known.left new.known.left by_stream.left by_stream.then_left reaches.gives));
}

meanwhile_driver : {A : Type 0} {far : FarEnd} (there : Bool) (piece : List ℕ) (old new : Flow A far) (before after : Shown)
    → Reaches old.course.channel.unsent new.course.channel.unsent old.known new.known piece → new.held ≡ old.held ++ piece
    → Meanwhile ByStream there old new before after → Meanwhile ByDriver there old new before after
meanwhile_driver true piece old new before after reaches held meets =
    (meets.0, meets.1, by_driver (taken_in meets.0) (given_in meets.0) piece old new reaches held meets.2)
meanwhile_driver false piece old new before after reaches held meets = meets

befalls_driver : {A : Type 0} {far : FarEnd} (deed : Deed A) (old new : Flow A far) (before after : Shown)
    → Carries old deed new → Befalls ByStream old deed new before after → Befalls ByDriver old deed new before after
befalls_driver (Made Written) old new before after carries meets =
    meanwhile_driver old.course.channel.is_open [] old new before after carries.1 (carries.2 ∙ sym (append-nil old.held)) meets
befalls_driver (Made (Looked look)) old new before after carries meets =
    meanwhile_driver old.course.channel.is_open new.held old new before after carries.1 (ap (λ h. h ++ new.held) (sym carries.2)) meets
befalls_driver (Made (Noted now happens.Opened)) old new before after carries meets = meets
befalls_driver (Made (Noted now happens.Failed)) old new before after carries meets = meets
befalls_driver (Made (Noted now happens.Cut)) old new before after carries meets = meets
befalls_driver (Made (Noted now (happens.Bytes bytes))) old new before after carries meets = meets
befalls_driver (Made (Noted now happens.Moment)) old new before after carries meets = meets
befalls_driver (Made (Noted now (happens.Addresses kept added is_listed))) old new before after carries meets = meets
befalls_driver (Made (Noted now (happens.Call ticket call until))) old new before after carries meets = meets
befalls_driver (Made (Noted now (happens.Credential credential))) old new before after carries meets = meets
befalls_driver (Made (Noted now (happens.Follow ticket side path))) old new before after carries meets = meets
befalls_driver (Made (Noted now (happens.Unfollow ticket))) old new before after carries meets = meets
befalls_driver (Made (Noted now (happens.FollowTree ticket root most))) old new before after carries meets = meets
befalls_driver (Made (Noted now (happens.UnfollowTree ticket))) old new before after carries meets = meets
befalls_driver (Asked now input) old new before after carries meets = meets

pub meets_driver : {A : Type 0} {far : FarEnd} (steps : List (Option (Deed A))) (old new : Flow A far)
    (passes : FoldsTo Passes old steps new)
    (before after : Shown) → Meets ByStream steps old new passes before after → Meets ByDriver steps old new passes before after
meets_driver [] old new same before after meets = meets
meets_driver (Some deed ∷ steps) old new passes before after meets = (
  meets.0,
  befalls_driver deed old passes.0 before meets.0 passes.1 meets.1,
  meets_driver steps passes.0 new passes.2 meets.0 after meets.2,
)
meets_driver (None ∷ steps) old new passes before after meets = meets_driver steps passes.0 new passes.2 before after meets

-- ---- in the end

kept_in : {A : Type 0} {far : FarEnd} (old new : Flow A far) (after : Shown) (meets : MeetsServers ByDriver old new after) → Bound new after
kept_in old new after meets = steps_bound meets.runs.steps old new meets.runs.passes meets.before after meets.meets
    (begins_bound old meets.before meets.begins)

pub bytes_serve : {A : Type 0} {far : FarEnd} (old new : Flow A far) (after : Shown)
    → MeetsServers ByDriver old new after → IsServedFrom after.history (view_in new.course)
bytes_serve old new after meets =
    let kept = (kept_in old new after meets).here in
    record {
      start = kept.was.start;
      items = kept.was.items;
      stands = kept.was.stands;
      history = meets.history;
      served = subst (λ h. Served h kept.was.start kept.was.items) kept.history
          (served_so kept.was.start kept.was.items kept.met kept.was.served);
    }

to_driver : {A : Type 0} {far : FarEnd} (old new : Flow A far) (after : Shown)
    → MeetsServers ByStream old new after → MeetsServers ByDriver old new after
to_driver old new after meets = record {
  begins = meets.begins;
  runs = meets.runs;
  before = meets.before;
  meets = meets_driver meets.runs.steps old new meets.runs.passes meets.before after meets.meets;
  history = meets.history;
}

pub streams_serve : {A : Type 0} {far : FarEnd} (old new : Flow A far) (after : Shown)
    → MeetsServers ByStream old new after → IsServedFrom after.history (view_in new.course)
streams_serve old new after meets = bytes_serve old new after (to_driver old new after meets)

pub streams_cohere : {A : Type 0} {far : FarEnd} (old new : Flow A far) (after : Shown)
    → MeetsServers ByStream old new after → IsCoherentWith after.history (view_in new.course)
streams_cohere old new after meets =
    let kept = (kept_in old new after (to_driver old new after meets)).here in
    subst (λ h. IsCoherentWith h (view_in new.course)) kept.history
    (good_session (view_in new.course) kept.met (subst IsHistory (sym kept.history) meets.history) kept.was)
