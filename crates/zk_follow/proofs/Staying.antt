-- What is watched and good on a side of a path stays so, turn by turn, unless an output says something of it: happening by happening, as
-- each that ends it is said.
use Rattle.std.proofs.Common.{◌≡◌, ◌++◌, ℕ, ℤ, Bool, true, false, cond, not, ◌&&◌, ◌||◌, List, [], ◌∷◌, Option, Some, None, refl, sym, ap}
use Rattle.std.proofs.Common.{subst, ◌∙◌}
use Rattle.std.specs.Prelude.{bytes_eq, ◌==◌, if◌then◌else◌}
use Rattle.std.specs.List.{list_any, Any}
use Rattle.std.proofs.lemmas.List.Folds.{list_any_at, Any-from_list_any}
use Rattle.std.proofs.lemmas.Slice.Eq.{bytes_eq-Decides}
use Rattle.zk_nodes.specs.Path.{Text}
use Rattle.zk_nodes.specs.declared.side.Side.{Side}
use Rattle.zk_nodes.specs.declared.side.Side.TheVariants.{Data, Child}
use Rattle.zk_records.specs.declared.event.Event.{Event}
use Rattle.zk_records.specs.Events.{concerns}
use Rattle.zk_watches.specs.Lists.{Lists, has, with_path, without, side_has, registered, fired}
use Rattle.zk_watches.proofs.CallerLemmas.{has-with_path, has-without}
use Rattle.zk_cache.specs.declared.held.Kept.{Kept}
use Rattle.zk_cache.specs.Kept.{Answer, Absent, Known, Full, Names, merged, good, stale, is_marked_good}
use Rattle.zk_conversation.specs.Questions.{Question, Exists, GetData, Close}
use Rattle.zk_conversation.specs.Results.{Result, NoNode, Found, Read}
use Rattle.zk_turns.specs.Turns.{Replied, Output, Answer as Answers, Report, Signal, Turn, signals_of}
use Rattle.zk_turns.specs.Past.{Happening, Took, Forgot, Halted, Left, Expiry, Replies, Watches_set, Notifies, leaves_data, leaves_child}
use Rattle.zk_turns.specs.View.{View}
use Rattle.zk_turns.specs.Taken.{happenings}
use Rattle.zk_turns.specs.Rule.{says_there, with_node, with_children, keep_node, keep_children, report, next, says, after_all, says_all}
use Rattle.zk_turns.specs.Rule.{after_signals, says_signals, Rule, RuleAt}
use Rattle.zk_turns.proofs.Lists.{same_text}
use Rattle.zk_follow.specs.declared.subject.Subject.{Subject}
use Rattle.zk_follow.specs.Following.{holds, is_kept, is_whole, reads}
use Rattle.zk_follow.specs.Owning.{is_own_at, is_read_in, AreOwn}
use Rattle.zk_follow.specs.inner.Owning.{is_of}
use Rattle.zk_follow.specs.inner.Resting.{is_about, tells_fields}
use Rattle.zk_follow.proofs.Forgetting.{holds_still}
use Rattle.zk_follow.proofs.Owning.{all_ask, own_all, own_next, own_signals_of, own_turn, AllAskOwn, AllOwnSignals, IsOwnInput}
use Rattle.zk_follow.proofs.Waiting.{FitsReply, AllFit, AllGiven, all_fit, all_given}

-- ---- words

pub or_false : (a b : Bool) → (a || b) ≡ false → (a ≡ false) × (b ≡ false)
or_false true b e = absurd cc
or_false false b e = (refl, e)

pub and_parts : (a b : Bool) → (a && b) ≡ true → (a ≡ true) × (b ≡ true)
and_parts true b e = (refl, e)
and_parts false b e = absurd cc

pub first_silent : (f : Output → Bool) (xs ys : List Output) → list_any f (xs ++ ys) ≡ false → list_any f xs ≡ false
first_silent f [] ys e = refl
first_silent f (x ∷ xs) ys e =
    let parts = or_false (f x) (list_any f (xs ++ ys)) e in
    ap (λ b. b || list_any f xs) parts.0 ∙ first_silent f xs ys parts.1

pub rest_silent : (f : Output → Bool) (xs ys : List Output) → list_any f (xs ++ ys) ≡ false → list_any f ys ≡ false
rest_silent f [] ys e = e
rest_silent f (x ∷ xs) ys e = rest_silent f xs ys (or_false (f x) (list_any f (xs ++ ys)) e).1

-- what is watched and good on a side of a path
abbrev pub Stays : Side → Text → View → Type 0
Stays side path view = (side_has view.lists side path ≡ true) × (holds view.cache side path ≡ true)

-- ---- one list goes up, and the other down

moved_there : (b d e : Bool) → (d || e) ≡ true → ((b || d) || (not b && e)) ≡ true
moved_there true d e h = refl
moved_there false d e h = h

moved_away : (b d e : Bool) → (d || e) ≡ true → ((not b && d) || (b || e)) ≡ true
moved_away true d e h = refl
moved_away false d e h = h

node_keeps : (path at : Text) (there : Bool) (lists : Lists)
    → side_has lists Data path ≡ true → side_has (registered lists Data there at) Data path ≡ true
node_keeps path at true lists h =
    ap (λ b. b || has (without lists.exist_watches at) path) (has-with_path lists.data_watches at path)
    ∙ ap (λ b. (bytes_eq at path || has lists.data_watches path) || b) (has-without lists.exist_watches at path)
    ∙ moved_there (bytes_eq at path) (has lists.data_watches path) (has lists.exist_watches path) h
node_keeps path at false lists h =
    ap (λ b. b || has (with_path lists.exist_watches at) path) (has-without lists.data_watches at path)
    ∙ ap (λ b. (not (bytes_eq at path) && has lists.data_watches path) || b) (has-with_path lists.exist_watches at path)
    ∙ moved_away (bytes_eq at path) (has lists.data_watches path) (has lists.exist_watches path) h

children_keep : (path at : Text) (lists : Lists)
    → side_has lists Child path ≡ true → side_has (registered lists Child true at) Child path ≡ true
children_keep path at lists h =
    has-with_path lists.child_watches at path ∙ ap (λ b. bytes_eq at path || b) h ∙ or_true (bytes_eq at path)
  where
    or_true : (b : Bool) → (b || true) ≡ true
    or_true true = refl
    or_true false = refl

-- ---- a reply

abbrev IsWholeLeft : Option (Left Answer) → Type 0
IsWholeLeft None = Unit {0}
IsWholeLeft (Some left) = is_whole left.says ≡ true

whole_left : (zxid : ℤ) (question : Question) (result : Result)
    → tells_fields (Replied zxid result) ≡ false → IsWholeLeft (leaves_data question result)
whole_left zxid (Exists path true) (Found stat) e = absurd cc
whole_left zxid (Exists path true) NoNode e = refl
whole_left zxid (GetData path true) (Read bytes stat) e = refl
whole_left zxid _ _ e = tt

merged_whole : (kept : Option (Kept Answer)) (answer : Answer) → is_whole answer ≡ true → is_whole (merged kept answer) ≡ true
merged_whole None answer e = e
merged_whole (Some kept) Absent e = refl
merged_whole (Some kept) (Known fields) e = absurd cc
merged_whole (Some kept) (Full bytes fields) e = refl

-- a reply that leaves nothing at this path
abbrev pub IsElsewhere : Text → Option (Left Answer) → Type 0
IsElsewhere path None = Unit {0}
IsElsewhere path (Some left) = bytes_eq left.path path ≡ false

module _ (path : Text) where
  pub node_elsewhere : (left : Option (Left Answer)) (kept : Option (Kept Answer)) → IsElsewhere path left → keep_node left path kept ≡ kept
  node_elsewhere None kept other = refl
  node_elsewhere (Some left) kept other = ap (λ b. cond b (good (merged kept left.says)) kept) other

  data_node : (left : Option (Left Answer)) (lists : Lists)
      → side_has lists Data path ≡ true → side_has (with_node left lists) Data path ≡ true
  data_node None lists h = h
  data_node (Some left) lists h = node_keeps path left.path (says_there left.says) lists h

  pub data_lists : (left : Option (Left Answer)) (names : Option (Left Names)) (lists : Lists)
      → side_has lists Data path ≡ true → side_has (with_children names (with_node left lists)) Data path ≡ true
  data_lists left None lists h = data_node left lists h
  data_lists left (Some more) lists h = data_node left lists h

  data_kept : (left : Option (Left Answer)) (kept : Option (Kept Answer))
      → IsWholeLeft left → is_kept is_whole kept ≡ true → is_kept is_whole (keep_node left path kept) ≡ true
  data_kept None kept whole h = h
  data_kept (Some left) kept whole h = by (bytes_eq left.path path)
    where
      by : (b : Bool) → is_kept is_whole (if b then good (merged kept left.says) else kept) ≡ true
      by true = merged_whole kept left.says whole
      by false = h

  there_or_not : (there : Bool) (at : Text) (lists : Lists) → (registered lists Data there at).child_watches ≡ lists.child_watches
  there_or_not true at lists = refl
  there_or_not false at lists = refl

  node_leaves : (left : Option (Left Answer)) (lists : Lists) → (with_node left lists).child_watches ≡ lists.child_watches
  node_leaves None lists = refl
  node_leaves (Some left) lists = there_or_not (says_there left.says) left.path lists

  pub child_lists : (left : Option (Left Answer)) (names : Option (Left Names)) (lists : Lists)
      → side_has lists Child path ≡ true → side_has (with_children names (with_node left lists)) Child path ≡ true
  child_lists left None lists h = ap (λ l. has l path) (node_leaves left lists) ∙ h
  child_lists left (Some names) lists h =
      children_keep path names.path (with_node left lists) (ap (λ l. has l path) (node_leaves left lists) ∙ h)

  child_kept : (names : Option (Left Names)) (kept : Option (Kept Names))
      → is_marked_good kept ≡ true → is_marked_good (keep_children names path kept) ≡ true
  child_kept None kept h = h
  child_kept (Some left) kept h = by (bytes_eq left.path path)
    where
      by : (b : Bool) → is_marked_good (if b then good left.says else kept) ≡ true
      by true = refl
      by false = h

-- ---- a notice

less : (b d e : Bool) → b ≡ false → (d || e) ≡ true → ((not b && d) || (not b && e)) ≡ true
less true d e other h = absurd cc
less false d e other h = h

pub reads_exists : (at : Text) (side : Side) (text : Text) → reads side text (Exists at true) ≡ true → text ≡ at
reads_exists at Data text e = sym (same_text at text e)
reads_exists at Child text e = sym (same_text at text e)

pub reads_data : (at : Text) (side : Side) (text : Text) → reads side text (GetData at true) ≡ true → text ≡ at
reads_data at Data text e = sym (same_text at text e)
reads_data at Child text e = absurd cc

module _ {A : Type 0} (foreign : Bool) (all : List (Subject A)) (ticket : ℕ) (path : Text) where
  -- one that ends what is good there is reported
  unreported : (side : Side) (event : Event) (at : Text) (lists : Lists) → side_has lists side path ≡ true
      → list_any (is_about foreign all ticket path)
      (if concerns event side && side_has lists side at then Report at side event ∷ [] else []) ≡ false
      → (concerns event side && bytes_eq at path) ≡ false
  unreported side event at lists h s = by (concerns event side) (bytes_eq at path) refl s
    where
      there : bytes_eq at path ≡ true → side_has lists side at ≡ true
      there e = ap (side_has lists side) (same_text at path e) ∙ h

      by : (c b : Bool) → bytes_eq at path ≡ b
          → list_any (is_about foreign all ticket path) (if c && side_has lists side at then Report at side event ∷ [] else []) ≡ false
          → (c && b) ≡ false
      by false b e s = refl
      by true false e s = refl
      by true true e s = absurd (
          let said : (bytes_eq at path || false) ≡ false =
          sym (ap (λ h. list_any (is_about foreign all ticket path) (if h then Report at side event ∷ [] else [])) (there e)) ∙ s in
          let is : true ≡ false = sym (ap (λ b. b || false) e) ∙ said in cc
          )

  pub data_fired : (event : Event) (at : Text) (lists : Lists) → (concerns event Data && bytes_eq at path) ≡ false
      → side_has lists Data path ≡ true → side_has (fired lists event at) Data path ≡ true
  data_fired event at lists other h = by (concerns event Data) other
    where
      by : (c : Bool) → (c && bytes_eq at path) ≡ false
          → (has (if c then without lists.data_watches at else lists.data_watches) path
          || has (if c then without lists.exist_watches at else lists.exist_watches) path) ≡ true
      by false other = h
      by true other =
          ap (λ b. b || has (without lists.exist_watches at) path) (has-without lists.data_watches at path)
          ∙ ap (λ b. (not (bytes_eq at path) && has lists.data_watches path) || b) (has-without lists.exist_watches at path)
          ∙ less (bytes_eq at path) (has lists.data_watches path) (has lists.exist_watches path) other h

  pub child_fired : (event : Event) (at : Text) (lists : Lists) → (concerns event Child && bytes_eq at path) ≡ false
      → side_has lists Child path ≡ true → side_has (fired lists event at) Child path ≡ true
  child_fired event at lists other h = by (concerns event Child) other
    where
      by : (c : Bool) → (c && bytes_eq at path) ≡ false
          → has (if c then without lists.child_watches at else lists.child_watches) path ≡ true
      by false other = h
      by true other =
          has-without lists.child_watches at path ∙ ap (λ b. not b && has lists.child_watches path) other ∙ h

  data_spoilt : (event : Event) (at : Text) (kept : Option (Kept Answer)) → (concerns event Data && bytes_eq at path) ≡ false
      → is_kept is_whole kept ≡ true
      → is_kept is_whole (if concerns event Data && bytes_eq at path then stale kept else kept) ≡ true
  data_spoilt event at kept other h = ap (λ b. is_kept is_whole (if b then stale kept else kept)) other ∙ h

  child_spoilt : (event : Event) (at : Text) (kept : Option (Kept Names)) → (concerns event Child && bytes_eq at path) ≡ false
      → is_marked_good kept ≡ true
      → is_marked_good (if concerns event Child && bytes_eq at path then stale kept else kept) ≡ true
  child_spoilt event at kept other h = ap (λ b. is_marked_good (if b then stale kept else kept)) other ∙ h

  -- ---- a reply to a call of another path

  pub apart : (its : ℕ) (question : Question) (at : Text)
      → ((side : Side) (text : Text) → reads side text question ≡ true → text ≡ at)
      → is_read_in all its question ≡ true → is_of all its path ≡ false → bytes_eq at path ≡ false
  apart its question at reads_at own other = by (bytes_eq at path) refl
    where
      any : Any (λ (s : Subject A). (its == s.ticket && reads s.side s.path question) ≡ true) all
      any = Any-from_list_any (λ (s : Subject A). its == s.ticket && reads s.side s.path question) all own

      by : (b : Bool) → bytes_eq at path ≡ b → b ≡ false
      by true e = absurd (
          let parts = and_parts (its == any.1.ticket) (reads any.1.side any.1.path question) any.4 in
          let here : any.1.path ≡ path = reads_at any.1.side any.1.path parts.1 ∙ same_text at path e in
          let found : is_of all its path ≡ true =
          list_any_at (λ (s : Subject A). its == s.ticket && bytes_eq s.path path) all any.0 any.1 any.2
          (ap (λ (s : Subject A). its == s.ticket && bytes_eq s.path path) any.3
          ∙ ap (λ b. b && bytes_eq any.1.path path) parts.0 ∙ (bytes_eq-Decides any.1.path path).1 here) in
          let t : true ≡ false = sym found ∙ other in
          cc
          )
      by false e = refl

  pub elsewhere : (its : ℕ) (question : Question) (result : Result) → is_own_at all its question ≡ true
      → is_of all its path ≡ false → IsElsewhere path (leaves_data question result)
  elsewhere its (Exists at true) (Found stat) own other = apart its (Exists at true) at (reads_exists at) own other
  elsewhere its (Exists at true) NoNode own other = apart its (Exists at true) at (reads_exists at) own other
  elsewhere its (GetData at true) (Read bytes stat) own other = apart its (GetData at true) at (reads_data at) own other
  elsewhere its _ _ own other = tt

  whole_still : (its : ℕ) (question : Question) (zxid : ℤ) (result : Result) (kept : Option (Kept Answer))
      → (foreign ≡ false → is_own_at all its question ≡ true)
      → (tells_fields (Replied zxid result) && (foreign || is_of all its path)) ≡ false
      → is_kept is_whole kept ≡ true → is_kept is_whole (keep_node (leaves_data question result) path kept) ≡ true
  whole_still its question zxid result kept own other h = by (tells_fields (Replied zxid result)) refl other
    where
      by : (b : Bool) → tells_fields (Replied zxid result) ≡ b → (b && (foreign || is_of all its path)) ≡ false
          → is_kept is_whole (keep_node (leaves_data question result) path kept) ≡ true
      by true e beside =
          let parts = or_false foreign (is_of all its path) beside in
          ap (is_kept is_whole)
          (node_elsewhere path (leaves_data question result) kept (elsewhere its question result (own parts.0) parts.1))
          ∙ h
      by false e beside = data_kept path (leaves_data question result) kept (whole_left zxid question result e) h

  -- ---- happenings

  data_stays : (happening : Happening) (view : View) → FitsReply happening view → (foreign ≡ false → AreOwn all view.pending)
      → list_any (is_about foreign all ticket path) (says view happening) ≡ false
      → Stays Data path view → Stays Data path (next view happening)
  data_stays (Took Expiry) view f own s h = absurd cc
  data_stays (Took (Replies its Close zxid result)) view f own s h =
      absurd (let e = (or_false (is_about foreign all ticket path (Answers its (Replied zxid result))) true s).1 in cc)
  data_stays (Took (Replies its question zxid result)) view f own s h =
      let about = or_false (is_about foreign all ticket path (Answers its (Replied zxid result))) false s in
      let beside = tells_fields (Replied zxid result) && (foreign || is_of all its path) in (
        data_lists path (leaves_data question result) (leaves_child question result) view.lists h.0,
        whole_still its question zxid result (view.cache.nodes path) (λ going. (subst (AreOwn all) f.2 (own going)).0)
            (or_false (ticket == its) beside about.0).1 h.1,
      )
  data_stays (Took (Notifies event at)) view f own s h =
      let other = unreported Data event at view.lists h.0
      (first_silent (is_about foreign all ticket path) (report view event at Data) (report view event at Child) s) in
      (data_fired event at view.lists other h.0, data_spoilt event at (view.cache.nodes path) other h.1)
  data_stays (Took (Watches_set true zxid)) view f own s h = h
  data_stays (Took (Watches_set false zxid)) view f own s h = h
  data_stays Forgot view f own s h = (h.0, holds_still view.cache Data path ∙ h.1)
  data_stays Halted view f own s h = absurd f
  data_stays _ view f own s h = h

  child_stays : (happening : Happening) (view : View) → FitsReply happening view → (foreign ≡ false → AreOwn all view.pending)
      → list_any (is_about foreign all ticket path) (says view happening) ≡ false
      → Stays Child path view → Stays Child path (next view happening)
  child_stays (Took Expiry) view f own s h = absurd cc
  child_stays (Took (Replies its Close zxid result)) view f own s h =
      absurd (let e = (or_false (is_about foreign all ticket path (Answers its (Replied zxid result))) true s).1 in cc)
  child_stays (Took (Replies its question zxid result)) view f own s h = (
    child_lists path (leaves_data question result) (leaves_child question result) view.lists h.0,
    child_kept path (leaves_child question result) (view.cache.children path) h.1,
  )
  child_stays (Took (Notifies event at)) view f own s h =
      let other = unreported Child event at view.lists h.0
      (rest_silent (is_about foreign all ticket path) (report view event at Data) (report view event at Child) s) in
      (child_fired event at view.lists other h.0, child_spoilt event at (view.cache.children path) other h.1)
  child_stays (Took (Watches_set true zxid)) view f own s h = h
  child_stays (Took (Watches_set false zxid)) view f own s h = h
  child_stays Forgot view f own s h = (h.0, holds_still view.cache Child path ∙ h.1)
  child_stays Halted view f own s h = absurd f
  child_stays _ view f own s h = h

  stays : (side : Side) (happening : Happening) (view : View) → FitsReply happening view → (foreign ≡ false → AreOwn all view.pending)
      → list_any (is_about foreign all ticket path) (says view happening) ≡ false
      → Stays side path view → Stays side path (next view happening)
  stays Data = data_stays
  stays Child = child_stays

  -- ---- turns

  module _ (side : Side) where
    stays_all : (more : List Happening) (view : View) → AllFit view more → (foreign ≡ false → AllAskOwn all more)
        → (foreign ≡ false → AreOwn all view.pending) → list_any (is_about foreign all ticket path) (says_all view more) ≡ false
        → Stays side path view → Stays side path (after_all view more)
    stays_all [] view f asks own s h = h
    stays_all (happening ∷ more) view f asks own s h =
        let first = says view happening in
        let rest = says_all (next view happening) more in
        stays_all more (next view happening) f.1 (λ going. (asks going).1)
        (λ going. own_next all happening view (asks going).0 (own going)) (rest_silent (is_about foreign all ticket path) first rest s)
        (stays side happening view f.0 own (first_silent (is_about foreign all ticket path) first rest s) h)

    stays_signals : (signals : List Signal) (view : View) → AllGiven signals → (foreign ≡ false → AllOwnSignals all signals)
        → (foreign ≡ false → AreOwn all view.pending) → list_any (is_about foreign all ticket path) (says_signals view signals) ≡ false
        → Stays side path view → Stays side path (after_signals view signals)
    stays_signals [] view given asks own s h = h
    stays_signals (signal ∷ more) view given asks own s h =
        let now = happenings view signal in
        let rest = says_signals (after_all view now) more in
        let ask : foreign ≡ false → AllAskOwn all now = λ going. all_ask all view signal (asks going).0 in
        stays_signals more (after_all view now) given.1 (λ going. (asks going).1)
        (λ going. own_all all now view (ask going) (own going))
        (rest_silent (is_about foreign all ticket path) (says_all view now) rest s)
        (stays_all now view (all_fit view signal given.0) ask own
        (first_silent (is_about foreign all ticket path) (says_all view now) rest s) h)

    stays_turn : (view : View) (turn : Turn) (after : View) → Rule view turn after → (foreign ≡ false → IsOwnInput all turn.input)
        → (foreign ≡ false → AreOwn all view.pending) → list_any (is_about foreign all ticket path) turn.outputs ≡ false
        → Stays side path view → Stays side path after
    stays_turn view turn after rule asks own s h =
        subst (Stays side path) (sym rule.next)
        (stays_signals (signals_of turn.input) view (all_given turn.input) (λ going. own_signals_of all turn.input (asks going)) own
        (subst (λ outputs. list_any (is_about foreign all ticket path) outputs ≡ false) rule.outputs s) h)

    -- The same of two turns in one call.
    pub stays_at : (moment : ℕ) (view : View) (turn : Turn) (after : View) → RuleAt moment view turn after
        → (foreign ≡ false → IsOwnInput all turn.input) → (foreign ≡ false → AreOwn all view.pending)
        → list_any (is_about foreign all ticket path) turn.outputs ≡ false → Stays side path view → Stays side path after
    stays_at moment view turn after rule asks own s h =
        let silent = subst (λ outputs. list_any (is_about foreign all ticket path) outputs ≡ false) rule.outputs s in
        stays_turn rule.between _ after rule.takes asks (λ going. own_turn all view _ rule.between rule.tells tt (own going))
        (rest_silent (is_about foreign all ticket path) rule.first rule.second silent)
        (stays_turn view _ rule.between rule.tells (λ going. tt) own
        (first_silent (is_about foreign all ticket path) rule.first rule.second silent) h)
