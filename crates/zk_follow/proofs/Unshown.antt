-- What is kept of a side of a path is not good still, turn by turn, unless by an output it may have become so: happening by happening.
use Rattle.std.proofs.Common.{◌≡◌, ◌∙◌, ℕ, Bool, true, false, cond, ◌&&◌, ◌||◌, List, [], ◌∷◌, Option, Some, None}
use Rattle.std.proofs.Common.{refl, sym, ap, subst}
use Rattle.std.specs.Prelude.{bytes_eq}
use Rattle.std.specs.List.{list_any}
use Rattle.zk_nodes.specs.Path.{Text}
use Rattle.zk_nodes.specs.declared.side.Side.{Side}
use Rattle.zk_nodes.specs.declared.side.Side.TheVariants.{Data, Child}
use Rattle.zk_records.specs.Events.{concerns}
use Rattle.zk_cache.specs.declared.held.Kept.{Kept}
use Rattle.zk_cache.specs.Kept.{Answer, Names, good, stale, is_marked_good}
use Rattle.zk_conversation.specs.Questions.{Question, GetChildren, Close}
use Rattle.zk_conversation.specs.Results.{Result, Listing}
use Rattle.zk_turns.specs.Turns.{Replied, Answer as Answers, Signal, Turn, signals_of}
use Rattle.zk_turns.specs.Past.{Happening, Took, Forgot, Halted, Left, Expiry, Replies, Watches_set, Notifies, leaves_data, leaves_child}
use Rattle.zk_turns.specs.View.{View}
use Rattle.zk_turns.specs.Taken.{happenings}
use Rattle.zk_turns.specs.Rule.{keep_children, next, says, after_all, says_all, after_signals, says_signals, Rule, RuleAt}
use Rattle.zk_turns.proofs.Lists.{same_text}
use Rattle.zk_follow.specs.declared.subject.Subject.{Subject}
use Rattle.zk_follow.specs.Following.{is_kept, is_shown, is_whole, reads, says_none}
use Rattle.zk_follow.specs.Owning.{is_own_at, AreOwn}
use Rattle.zk_follow.specs.inner.Owning.{is_of}
use Rattle.zk_follow.specs.inner.Resting.{may_show}
use Rattle.zk_follow.proofs.Owning.{all_ask, own_all, own_next, own_signals_of, own_turn, AllAskOwn, AllOwnSignals, IsOwnInput}
use Rattle.zk_follow.proofs.Staying.{apart, elsewhere, first_silent, node_elsewhere, or_false, rest_silent}
use Rattle.zk_follow.proofs.Waiting.{FitsReply, AllFit, AllGiven, all_fit, all_given}

-- what is stale is not good
stale_node : (test : Answer → Bool) (kept : Option (Kept Answer)) → is_kept test (stale kept) ≡ false
stale_node test None = refl
stale_node test (Some kept) = refl

stale_names : (kept : Option (Kept Names)) → is_marked_good (stale kept) ≡ false
stale_names None = refl
stale_names (Some kept) = refl

-- names that are left nowhere near this path
abbrev AreElsewhere : Text → Option (Left Names) → Type 0
AreElsewhere path None = Unit {0}
AreElsewhere path (Some left) = bytes_eq left.path path ≡ false

names_elsewhere : (path : Text) (left : Option (Left Names)) (kept : Option (Kept Names)) → AreElsewhere path left
    → keep_children left path kept ≡ kept
names_elsewhere path None kept other = refl
names_elsewhere path (Some left) kept other = ap (λ b. cond b (good left.says) kept) other

reads_names : (at : Text) (of : Side) (text : Text) → reads of text (GetChildren at true) ≡ true → text ≡ at
reads_names at Data text e = absurd cc
reads_names at Child text e = sym (same_text at text e)

module _ {A : Type 0} (foreign : Bool) (all : List (Subject A)) (path : Text) where
  child_elsewhere : (its : ℕ) (question : Question) (result : Result) → is_own_at all its question ≡ true
      → is_of all its path ≡ false → AreElsewhere path (leaves_child question result)
  child_elsewhere its (GetChildren at true) (Listing listing stat) own other =
      apart foreign all 0 path its (GetChildren at true) at (reads_names at) own other
  child_elsewhere its _ _ own other = tt

  -- ---- happenings

  node_not : (test : Answer → Bool) (happening : Happening) (view : View) → FitsReply happening view
      → (foreign ≡ false → AreOwn all view.pending) → list_any (may_show foreign all path) (says view happening) ≡ false
      → is_kept test (view.cache.nodes path) ≡ false → is_kept test ((next view happening).cache.nodes path) ≡ false
  node_not test (Took Expiry) view f own s h = absurd cc
  node_not test (Took (Replies its Close zxid result)) view f own s h =
      absurd (let e = (or_false (may_show foreign all path (Answers its (Replied zxid result))) true s).1 in cc)
  node_not test (Took (Replies its question zxid result)) view f own s h =
      let about = or_false (may_show foreign all path (Answers its (Replied zxid result))) false s in
      let parts = or_false foreign (is_of all its path) about.0 in
      ap (is_kept test) (node_elsewhere path (leaves_data question result) (view.cache.nodes path)
      (elsewhere foreign all 0 path its question result (subst (AreOwn all) f.2 (own parts.0)).0 parts.1))
      ∙ h
  node_not test (Took (Notifies event at)) view f own s h = by (concerns event Data && bytes_eq at path)
    where
      by : (b : Bool) → is_kept test (cond b (stale (view.cache.nodes path)) (view.cache.nodes path)) ≡ false
      by true = stale_node test (view.cache.nodes path)
      by false = h
  node_not test (Took (Watches_set true zxid)) view f own s h = h
  node_not test (Took (Watches_set false zxid)) view f own s h = h
  node_not test Forgot view f own s h = absurd f
  node_not test Halted view f own s h = absurd f
  node_not test _ view f own s h = h

  names_not : (happening : Happening) (view : View) → FitsReply happening view
      → (foreign ≡ false → AreOwn all view.pending) → list_any (may_show foreign all path) (says view happening) ≡ false
      → is_marked_good (view.cache.children path) ≡ false → is_marked_good ((next view happening).cache.children path) ≡ false
  names_not (Took Expiry) view f own s h = absurd cc
  names_not (Took (Replies its Close zxid result)) view f own s h =
      absurd (let e = (or_false (may_show foreign all path (Answers its (Replied zxid result))) true s).1 in cc)
  names_not (Took (Replies its question zxid result)) view f own s h =
      let about = or_false (may_show foreign all path (Answers its (Replied zxid result))) false s in
      let parts = or_false foreign (is_of all its path) about.0 in
      ap is_marked_good (names_elsewhere path (leaves_child question result) (view.cache.children path)
      (child_elsewhere its question result (subst (AreOwn all) f.2 (own parts.0)).0 parts.1))
      ∙ h
  names_not (Took (Notifies event at)) view f own s h = by (concerns event Child && bytes_eq at path)
    where
      by : (b : Bool) → is_marked_good (cond b (stale (view.cache.children path)) (view.cache.children path)) ≡ false
      by true = stale_names (view.cache.children path)
      by false = h
  names_not (Took (Watches_set true zxid)) view f own s h = h
  names_not (Took (Watches_set false zxid)) view f own s h = h
  names_not Forgot view f own s h = absurd f
  names_not Halted view f own s h = absurd f
  names_not _ view f own s h = h

  module _ (side : Side) where
    abbrev Unshown : View → Type 0
    Unshown view = is_shown view.cache side path ≡ false

    unshown : (happening : Happening) (view : View) → FitsReply happening view → (foreign ≡ false → AreOwn all view.pending)
        → list_any (may_show foreign all path) (says view happening) ≡ false → Unshown view → Unshown (next view happening)
    unshown happening view f own s = by side
      where
        by : (side : Side) → is_shown view.cache side path ≡ false → is_shown (next view happening).cache side path ≡ false
        by Data h = node_not is_whole happening view f own s h
        by Child h =
            let parts = or_false (is_marked_good (view.cache.children path)) (is_kept says_none (view.cache.nodes path)) h in
            ap (λ b. b || is_kept says_none ((next view happening).cache.nodes path)) (names_not happening view f own s parts.0)
            ∙ node_not says_none happening view f own s parts.1

    -- ---- turns

    unshown_all : (more : List Happening) (view : View) → AllFit view more → (foreign ≡ false → AllAskOwn all more)
        → (foreign ≡ false → AreOwn all view.pending) → list_any (may_show foreign all path) (says_all view more) ≡ false
        → Unshown view → Unshown (after_all view more)
    unshown_all [] view f asks own s h = h
    unshown_all (happening ∷ more) view f asks own s h =
        let first = says view happening in
        let rest = says_all (next view happening) more in
        unshown_all more (next view happening) f.1 (λ going. (asks going).1)
        (λ going. own_next all happening view (asks going).0 (own going)) (rest_silent (may_show foreign all path) first rest s)
        (unshown happening view f.0 own (first_silent (may_show foreign all path) first rest s) h)

    unshown_signals : (signals : List Signal) (view : View) → AllGiven signals → (foreign ≡ false → AllOwnSignals all signals)
        → (foreign ≡ false → AreOwn all view.pending) → list_any (may_show foreign all path) (says_signals view signals) ≡ false
        → Unshown view → Unshown (after_signals view signals)
    unshown_signals [] view given asks own s h = h
    unshown_signals (signal ∷ more) view given asks own s h =
        let now = happenings view signal in
        let rest = says_signals (after_all view now) more in
        let ask : foreign ≡ false → AllAskOwn all now = λ going. all_ask all view signal (asks going).0 in
        unshown_signals more (after_all view now) given.1 (λ going. (asks going).1)
        (λ going. own_all all now view (ask going) (own going))
        (rest_silent (may_show foreign all path) (says_all view now) rest s)
        (unshown_all now view (all_fit view signal given.0) ask own
        (first_silent (may_show foreign all path) (says_all view now) rest s) h)

    unshown_turn : (view : View) (turn : Turn) (after : View) → Rule view turn after → (foreign ≡ false → IsOwnInput all turn.input)
        → (foreign ≡ false → AreOwn all view.pending) → list_any (may_show foreign all path) turn.outputs ≡ false
        → Unshown view → Unshown after
    unshown_turn view turn after rule asks own s h =
        subst Unshown (sym rule.next)
        (unshown_signals (signals_of turn.input) view (all_given turn.input) (λ going. own_signals_of all turn.input (asks going)) own
        (subst (λ outputs. list_any (may_show foreign all path) outputs ≡ false) rule.outputs s) h)

    -- The same of two turns in one call.
    pub unshown_at : (moment : ℕ) (view : View) (turn : Turn) (after : View) → RuleAt moment view turn after
        → (foreign ≡ false → IsOwnInput all turn.input) → (foreign ≡ false → AreOwn all view.pending)
        → list_any (may_show foreign all path) turn.outputs ≡ false → Unshown view → Unshown after
    unshown_at moment view turn after rule asks own s h =
        let silent = subst (λ outputs. list_any (may_show foreign all path) outputs ≡ false) rule.outputs s in
        unshown_turn rule.between _ after rule.takes asks (λ going. own_turn all view _ rule.between rule.tells tt (own going))
        (rest_silent (may_show foreign all path) rule.first rule.second silent)
        (unshown_turn view _ rule.between rule.tells (λ going. tt) own
        (first_silent (may_show foreign all path) rule.first rule.second silent) h)
