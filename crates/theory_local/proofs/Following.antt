-- Servers that keep to the model keep to it at each set of paths, entry by entry; and what is free elsewhere: more may be told, and nothing
-- need be.
use Rattle.std.proofs.Common.{Bool, true, inl, inr, ◌≡◌, List, [], ◌∷◌, ◌++◌, map, refl, sym, ap, subst, ◌∙◌}
use Rattle.zk_nodes.specs.Path.{Text}
use Rattle.zk_nodes.specs.declared.side.Side.TheVariants.{Data, Child}
use Rattle.zk_records.specs.declared.event.Event.{Event}
use Rattle.zk_records.specs.declared.event.Event.TheVariants.{Created, DataChanged}
use Rattle.zk_records.specs.Events.{concerns}
use Rattle.zk_nodes.specs.History.{Tree, History}
use Rattle.zk_conversation.specs.Calls as call
use Rattle.zk_conversation.specs.Calls.{Call}
use Rattle.zk_conversation.specs.Questions.{GetChildren, question_of}
use Rattle.zk_turns.specs.Turns.{Start, Item}
use Rattle.zk_turns.specs.Past.{Past}
use Rattle.zk_turns.specs.Taken.{past_of}
use Rattle.zk_turns.specs.View.{Cache}
use Rattle.zk_laws.specs.Server.{Notice, AreSent, fires_all, part_tells, tree_held}
use Rattle.zk_laws.specs.Messages.{Request}
use Rattle.zk_laws.specs.ServerSteps.{ServerEnd, ServerStep, Advances, Admits, Refuses, Answers, Restores, Pongs, MayDo, changes_next}
use Rattle.zk_laws.specs.Served.{Wire, Entry, Goes_on, Serves, items_in, wire_of, unread, MayEnter, IsServing, Served, wire_past, wire_on}
use Rattle.zk_laws.specs.Headline.{IsTrueOf}
use Rattle.zk_laws.proofs.Basics.{sent_among, Among-left}
use Rattle.zk_laws.proofs.More.{coded}
use Rattle.theory_local.specs.LocalSteps.{IsAbout, AreToldAt, MayDoAt}
use Rattle.theory_local.specs.LocalServed.{LocalEntry, Goes, Steps, Tells, Denies, Fails, items_at, wire_at, MayEnterAt, IsServingAt}
use Rattle.theory_local.specs.LocalServed.{ServedAt, local_of}
use Rattle.theory_local.specs.LocalHeadline.{IsTrueAt}

-- ---- the model

pub local_items : (entries : List Entry) → items_at (map local_of entries) ≡ items_in entries
local_items [] = refl
local_items (Goes_on place item ∷ earlier) = ap (λ l. item ∷ l) (local_items earlier)
local_items (Serves step payloads ∷ earlier) = local_items earlier

module _ (h : History) where
  pub local_wire : (entries : List Entry) → wire_at h (map local_of entries) ≡ wire_of h entries
  local_wire [] = refl
  local_wire (Goes_on place item ∷ earlier) = ap (λ w. wire_past place item w) (local_wire earlier)
  local_wire (Serves step payloads ∷ earlier) = ap (λ w. wire_on h step payloads w) (local_wire earlier)

  module _ (P : Text → Type 0) where
    sent_told : (fired sent : List Notice) → AreSent fired sent → AreToldAt P fired sent
    sent_told fired sent all side notice p among concerned = (notice, sent_among fired sent notice all among, concerned, refl)

    local_step : (step : ServerStep) (server : ServerEnd) (requests : List Request)
        → MayDo h step server requests → MayDoAt P h step server requests
    local_step (Advances sent) server requests may =
        (may.0, may.1, sent_told (fires_all (changes_next h server.place) server.watches) sent may.2, λ w. may.2)
    local_step (Admits z) server requests may = may
    local_step (Refuses z) server requests may = may
    local_step (Answers q r) server requests may = (may.0, may.1, (coded h server.place q r may.2, λ about. may.2))
    local_step (Restores b z part sent) server requests may =
        (may.0, may.1, sent_told (part_tells z (tree_held h server.place) part) sent may.2)
    local_step Pongs server requests may = may

    local_entry : (start : Start) (entry : Entry) (past : Past) (wire : Wire)
        → MayEnter h start entry past wire → MayEnterAt P h start (local_of entry) past wire
    local_entry start (Goes_on place item) past wire may = may
    local_entry start (Serves step payloads) past wire may = record {
      going = may.going;
      may = local_step step wire.server (map (λ sent. sent.request) (unread start past wire)) may.may;
      told = may.told;
    }

    pub local_serving : (start : Start) (entries : List Entry) → IsServing h start entries → IsServingAt P h start (map local_of entries)
    local_serving start [] may = tt
    local_serving start (entry ∷ earlier) may = (
      subst (λ items. MayEnterAt P h start (local_of entry) (past_of start items) (wire_at h (map local_of earlier)))
          (sym (local_items earlier))
          (subst (λ wire. MayEnterAt P h start (local_of entry) (past_of start (items_in earlier)) wire) (sym (local_wire earlier))
          (local_entry start entry (past_of start (items_in earlier)) (wire_of h earlier) may.0)),
      local_serving start earlier may.1,
    )

    pub local_served : (start : Start) (items : List Item) → Served h start items → ServedAt P h start items
    local_served start items s =
        record { entries = map local_of s.entries; whole = local_items s.entries ∙ s.whole; may = local_serving start s.entries s.may }

-- ---- a question

-- a call that asks for the names below a directory is about it
pub about_listing : (P : Text → Type 0) (dir : Text) (watch : Bool) (q : Call) → question_of q ≡ GetChildren dir watch → P dir
    → IsAbout P q
about_listing P dir watch (call.GetChildren path other) e p = let same : dir ≡ path = cc in subst P same p
about_listing P dir watch (call.Exists path other) e p = absurd cc
about_listing P dir watch (call.GetData path other) e p = absurd cc
about_listing P dir watch (call.SetData path content version) e p = absurd cc
about_listing P dir watch (call.Create path content mode) e p = absurd cc
about_listing P dir watch (call.Delete path version) e p = absurd cc
about_listing P dir watch call.Close e p = absurd cc
about_listing P dir watch (call.Raw operation bytes) e p = absurd cc

-- ---- fewer paths

module _ (P Q : Text → Type 0) (fewer : (path : Text) → Q path → P path) (h : History) where
  about_fewer : (q : Call) → IsAbout Q q → IsAbout P q
  about_fewer (call.Exists path watch) a = fewer path a
  about_fewer (call.GetData path watch) a = fewer path a
  about_fewer (call.GetChildren path watch) a = fewer path a
  about_fewer (call.SetData path content version) a = fewer path a
  about_fewer (call.Create path content mode) a = fewer path a
  about_fewer (call.Delete path version) a = fewer path a
  about_fewer call.Close a = a
  about_fewer (call.Raw operation bytes) a = a

  step_fewer : (step : ServerStep) (server : ServerEnd) (requests : List Request)
      → MayDoAt P h step server requests → MayDoAt Q h step server requests
  step_fewer (Advances sent) server requests may = (may.0, may.1, λ side notice q. may.2 side notice (fewer notice.path q), may.3)
  step_fewer (Admits z) server requests may = may
  step_fewer (Refuses z) server requests may = may
  step_fewer (Answers q r) server requests may = (may.0, may.1, (may.2.0, λ about. may.2.1 (about_fewer q about)))
  step_fewer (Restores b z part sent) server requests may = (may.0, may.1, λ side notice q. may.2 side notice (fewer notice.path q))
  step_fewer Pongs server requests may = may

  entry_fewer : (start : Start) (entry : LocalEntry) (past : Past) (wire : Wire)
      → MayEnterAt P h start entry past wire → MayEnterAt Q h start entry past wire
  entry_fewer start (Goes place item) past wire may = may
  entry_fewer start (Steps step payloads) past wire may = record {
    going = may.going;
    may = step_fewer step wire.server (map (λ sent. sent.request) (unread start past wire)) may.may;
    told = may.told;
  }
  entry_fewer start (Tells sent payloads) past wire may = may
  entry_fewer start (Denies call payload) past wire may = may
  entry_fewer start (Fails payload rest) past wire may = may

  pub serving_fewer : (start : Start) (entries : List LocalEntry) → IsServingAt P h start entries → IsServingAt Q h start entries
  serving_fewer start [] may = tt
  serving_fewer start (entry ∷ earlier) may =
      (entry_fewer start entry (past_of start (items_at earlier)) (wire_at h earlier) may.0, serving_fewer start earlier may.1)

  pub served_fewer : (start : Start) (items : List Item) → ServedAt P h start items → ServedAt Q h start items
  served_fewer start items s = record { entries = s.entries; whole = s.whole; may = serving_fewer start s.entries s.may }

-- ---- what is free

pub more_told : (P : Text → Type 0) (fired sent more : List Notice) → AreToldAt P fired sent → AreToldAt P fired (sent ++ more)
more_told P fired sent more at side notice p among concerned = let one = at side notice p among concerned in
    (one.0, Among-left one.0 sent more one.1, one.2, one.3)

-- of another path nothing need be told
pub nothing_told : (P : Text → Type 0) (event : Event) (path : Text) → (P path → ⊥)
    → AreToldAt P (record { event = event; path = path } ∷ []) []
nothing_told P event path elsewhere side notice p (inl e) c = absurd (elsewhere (subst (λ n. P n.path) e p))
nothing_told P event path elsewhere side notice p (inr a) c = absurd a

-- the same side by another event
pub other_event : (P : Text → Type 0) (path : Text)
    → AreToldAt P (record { event = DataChanged; path = path } ∷ []) (record { event = Created; path = path } ∷ [])
other_event P path Data notice p (inl e) c = (record { event = Created; path = path }, inl refl, refl, ap (λ n. n.path) (sym e))
other_event P path Child notice p (inl e) c =
    absurd (let f : concerns DataChanged Child ≡ true = subst (λ n. concerns n.event Child ≡ true) e c in cc)
other_event P path side notice p (inr a) c = absurd a

-- ---- all paths

pub true_everywhere : (P : Text → Type 0) (tree : Tree) (cache : Cache) → ((path : Text) → P path)
    → IsTrueAt P tree cache → IsTrueOf tree cache
true_everywhere P tree cache all t =
    record { nodes = λ path kept e m. t.nodes path (all path) kept e m; children = λ path kept e m. t.children path (all path) kept e m }
