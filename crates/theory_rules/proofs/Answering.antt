-- A server that answers the call that stands next: for each call and each answer to it, that the model's server may give it.
use Rattle.std.proofs.Common.{ℕ, ℤ, pos, negsuc, ◌≡◌, ◌≤◌, ◌<◌, List, [], ◌∷◌, ◌++◌, refl, sym, subst, Option, Some, None}
use Rattle.std.specs.Prelude.{Bool, is_some, ◌≢◌}
use Rattle.std.specs.FinSet as set
use Rattle.std.proofs.lemmas.Bool.{lt-ltb, le-ltb}
use Rattle.zk_jute.specs.Layout.{ustring, Value}
use Rattle.zk_jute.specs.Spelling.{spelling, Fits}
use Rattle.zk_nodes.specs.StatLayout.{stat}
use Rattle.zk_nodes.specs.DataStats.{data_stat_of}
use Rattle.zk_nodes.specs.Path.{Text, Name, path_of}
use Rattle.zk_nodes.specs.History.{Node, History, Sets, Creates, Deletes, Transaction, node_fields, contents_of, children_of}
use Rattle.zk_cache.specs.Kept.{Absent, Known, Full}
use Rattle.zk_records.specs.Layouts.{get_data_response, get_children2_response}
use Rattle.zk_conversation.specs.Calls.{Call, Exists, GetData, GetChildren, SetData, Create, Delete, Close}
use Rattle.zk_conversation.specs.Questions.{question_of}
use Rattle.zk_conversation.specs.Results.{Result, NoNode, Refused, Found, Read, Listing, Made, Done, stat_of, texts_of}
use Rattle.zk_turns.specs.Turns.{Start}
use Rattle.zk_turns.specs.Past.{names_of}
use Rattle.zk_turns.specs.Meaning.{Among}
use Rattle.zk_turns.specs.Spelled.{HasResult}
use Rattle.zk_laws.proofs.More.{refusal}
use Rattle.zk_laws.specs.Server.{Gives, held, tree_held, Fits as FitsView, FitsNames, IsMadeOf}
use Rattle.zk_laws.specs.Messages.{Ask}
use Rattle.zk_laws.specs.ServerSteps.{Serving, Answers}
use Rattle.zk_laws.specs.Served.{Entry, code_of}
use Rattle.theory_rules.specs.Next.{end_of, Awaits, CanTake, headed, IsSendable, zxid_of}
use Rattle.theory_rules.proofs.Spelled.{headed_so, recorded_so}
use Rattle.theory_rules.proofs.Taking.{serves}

answers : (h : History) (start : Start) (entries : List Entry) (call : Call) (xid : ℤ) (result : Result) (behind : List ℕ)
    → Awaits h start entries Serving (Ask call) xid
    → Gives h (end_of h entries).place call result → HasResult (question_of call) result behind
    → IsSendable xid (zxid_of h entries) (code_of result) behind
    → CanTake h start entries (Answers call result) (headed xid (zxid_of h entries) (code_of result) behind ∷ [])
answers h start entries call xid result behind a gives has can =
    serves h start entries Serving (Ask call) xid (Answers call result) (headed xid (zxid_of h entries) (code_of result) behind ∷ []) a
    (λ others. (a.reaches.there, refl, gives))
    (can.small, (behind, headed_so xid (zxid_of h entries) (code_of result) behind can.fits, has), tt)

pub closes : (h : History) (start : Start) (entries : List Entry) (xid : ℤ) (behind : List ℕ)
    → Awaits h start entries Serving (Ask Close) xid → IsSendable xid (zxid_of h entries) (pos 0) behind
    → CanTake h start entries (Answers Close Done) (headed xid (zxid_of h entries) (pos 0) behind ∷ [])
closes h start entries xid behind a can =
    answers h start entries Close xid Done behind a tt (tt, record { ignored = behind; fits = tt; whole = refl }, refl) can

pub refuses : (h : History) (start : Start) (entries : List Entry) (call : Call) (xid code : ℤ) (behind : List ℕ)
    → Awaits h start entries Serving (Ask call) xid → code ≢ pos 0 → code ≢ negsuc 100
    → IsSendable xid (zxid_of h entries) code behind
    → CanTake h start entries (Answers call (Refused code)) (headed xid (zxid_of h entries) code behind ∷ [])
refuses h start entries call xid code behind a some there can =
    answers h start entries call xid (Refused code) behind a ((refusal h (end_of h entries).place call code).1 (some, there)) tt can

-- ---- a write of a node that is not there

pub unwritten : (h : History) (start : Start) (entries : List Entry) (path : Text) (content : Option (List ℕ)) (version xid : ℤ)
    (behind : List ℕ) → Awaits h start entries Serving (Ask (SetData path content version)) xid
    → IsSendable xid (zxid_of h entries) (negsuc 100) behind
    → CanTake h start entries (Answers (SetData path content version) NoNode) (headed xid (zxid_of h entries) (negsuc 100) behind ∷ [])
unwritten h start entries path content version xid behind a can =
    answers h start entries (SetData path content version) xid NoNode behind a tt tt can

pub unmade : (h : History) (start : Start) (entries : List Entry) (path : Text) (content : Option (List ℕ)) (mode : ℕ) (xid : ℤ)
    (behind : List ℕ) → Awaits h start entries Serving (Ask (Create path content mode)) xid
    → IsSendable xid (zxid_of h entries) (negsuc 100) behind
    → CanTake h start entries (Answers (Create path content mode) NoNode) (headed xid (zxid_of h entries) (negsuc 100) behind ∷ [])
unmade h start entries path content mode xid behind a can = answers h start entries (Create path content mode) xid NoNode behind a tt tt can

pub undeleted : (h : History) (start : Start) (entries : List Entry) (path : Text) (version xid : ℤ) (behind : List ℕ)
    → Awaits h start entries Serving (Ask (Delete path version)) xid
    → IsSendable xid (zxid_of h entries) (negsuc 100) behind
    → CanTake h start entries (Answers (Delete path version) NoNode) (headed xid (zxid_of h entries) (negsuc 100) behind ∷ [])
undeleted h start entries path version xid behind a can = answers h start entries (Delete path version) xid NoNode behind a tt tt can

absent : (found : Option Node) → found ≡ None → FitsView Absent (contents_of found)
absent None e = tt
absent (Some node) e = absurd cc

absent_parent : (present : Name → Bool) (found : Option Node) → found ≡ None → FitsView Absent (children_of present found)
absent_parent present None e = tt
absent_parent present (Some node) e = absurd cc

-- a read where none is there
module _ (h : History) (start : Start) (entries : List Entry) (path : Text) (watch : Bool) (xid : ℤ) (behind : List ℕ)
    (none : tree_held h (end_of h entries).place (path_of path) ≡ None) (can : IsSendable xid (zxid_of h entries) (negsuc 100) behind) where
  abbrev MayLack : Call → Type 0
  MayLack call = Awaits h start entries Serving (Ask call) xid
      → CanTake h start entries (Answers call NoNode) (headed xid (zxid_of h entries) (negsuc 100) behind ∷ [])

  pub absent_node : MayLack (Exists path watch)
  absent_node a = answers h start entries (Exists path watch) xid NoNode behind a (absent _ none) tt can

  pub absent_data : MayLack (GetData path watch)
  absent_data a = answers h start entries (GetData path watch) xid NoNode behind a (absent _ none) tt can

  pub absent_children : MayLack (GetChildren path watch)
  absent_children a = answers h start entries (GetChildren path watch) xid NoNode behind a (absent_parent _ _ none) tt can

-- ---- a node that is there

pub found_node : (h : History) (start : Start) (entries : List Entry) (path : Text) (watch : Bool) (xid : ℤ) (node : Node)
    (value : Value stat) (ignored : List ℕ) → Awaits h start entries Serving (Ask (Exists path watch)) xid
    → tree_held h (end_of h entries).place (path_of path) ≡ Some node → Fits stat value → data_stat_of (stat_of value) ≡ node_fields node
    → IsSendable xid (zxid_of h entries) (pos 0) (spelling stat value ++ ignored)
    → CanTake h start entries (Answers (Exists path watch) (Found (stat_of value)))
    (headed xid (zxid_of h entries) (pos 0) (spelling stat value ++ ignored) ∷ [])
found_node h start entries path watch xid node value ignored a there fits same can =
    answers h start entries (Exists path watch) xid (Found (stat_of value)) (spelling stat value ++ ignored) a
    (subst (λ (found : Option Node). FitsView (Known (data_stat_of (stat_of value))) (contents_of found)) (sym there) same)
    (value, recorded_so stat value ignored fits, refl) can

pub found_data : (h : History) (start : Start) (entries : List Entry) (path : Text) (watch : Bool) (xid : ℤ) (node : Node)
    (value : Value stat) (ignored : List ℕ) → Awaits h start entries Serving (Ask (GetData path watch)) xid
    → tree_held h (end_of h entries).place (path_of path) ≡ Some node → Fits get_data_response (node.content, value)
    → data_stat_of (stat_of value) ≡ node_fields node
    → IsSendable xid (zxid_of h entries) (pos 0) (spelling get_data_response (node.content, value) ++ ignored)
    → CanTake h start entries (Answers (GetData path watch) (Read node.content (stat_of value)))
    (headed xid (zxid_of h entries) (pos 0) (spelling get_data_response (node.content, value) ++ ignored) ∷ [])
found_data h start entries path watch xid node value ignored a there fits same can =
    let both : Value get_data_response = (node.content, value) in
    answers h start entries (GetData path watch) xid (Read node.content (stat_of value)) (spelling get_data_response both ++ ignored) a
    (subst (λ (found : Option Node). FitsView (Full node.content (data_stat_of (stat_of value))) (contents_of found)) (sym there)
    (refl, same)) (both, recorded_so get_data_response both ignored fits, refl) can

pub found_children : (h : History) (start : Start) (entries : List Entry) (path : Text) (watch : Bool) (xid : ℤ) (node : Node)
    (names : Option (List (Option (List ℕ)))) (value : Value stat) (ignored : List ℕ)
    → Awaits h start entries Serving (Ask (GetChildren path watch)) xid → tree_held h (end_of h entries).place (path_of path) ≡ Some node
    → Fits get_children2_response (names, value) → data_stat_of (stat_of value) ≡ node_fields node → (stat_of value).pzxid ≡ pos node.pzxid
    → ((name : Name) → set.contains (names_of (texts_of names) (stat_of value)).names name
    ≡ is_some (tree_held h (end_of h entries).place (name ∷ path_of path)))
    → IsSendable xid (zxid_of h entries) (pos 0) (spelling get_children2_response (names, value) ++ ignored)
    → CanTake h start entries (Answers (GetChildren path watch) (Listing (texts_of names) (stat_of value)))
    (headed xid (zxid_of h entries) (pos 0) (spelling get_children2_response (names, value) ++ ignored) ∷ [])
found_children h start entries path watch xid node names value ignored a there fits same pzxid all can =
    let both : Value get_children2_response = (names, value) in
    let tree = tree_held h (end_of h entries).place in
    answers h start entries (GetChildren path watch) xid (Listing (texts_of names) (stat_of value))
    (spelling get_children2_response both ++ ignored) a (
      subst (λ (found : Option Node). FitsNames (names_of (texts_of names) (stat_of value))
          (children_of (λ name. is_some (tree (name ∷ path_of path))) found)) (sym there) (pzxid, all),
      subst (λ (found : Option Node). FitsView (Known (data_stat_of (stat_of value))) (contents_of found)) (sym there) same,
    )
    (both, recorded_so get_children2_response both ignored fits, refl) can

-- ---- a write that the last transaction holds

pub written : (h : History) (start : Start) (entries : List Entry) (path : Text) (content : Option (List ℕ)) (version xid : ℤ)
    (earlier : List Transaction) (last : Transaction) (node : Node) (value : Value stat) (ignored : List ℕ)
    → Awaits h start entries Serving (Ask (SetData path content version)) xid → held h (end_of h entries).place ≡ earlier ++ last ∷ []
    → Among (Sets (path_of path) content) last.changes
    → tree_held h (end_of h entries).place (path_of path) ≡ Some node → Fits stat value → data_stat_of (stat_of value) ≡ node_fields node
    → IsSendable xid (zxid_of h entries) (pos 0) (spelling stat value ++ ignored)
    → CanTake h start entries (Answers (SetData path content version) (Found (stat_of value)))
    (headed xid (zxid_of h entries) (pos 0) (spelling stat value ++ ignored) ∷ [])
written h start entries path content version xid earlier last node value ignored a holds among there fits same can =
    answers h start entries (SetData path content version) xid (Found (stat_of value)) (spelling stat value ++ ignored) a (
      (earlier, last, holds, among),
      subst (λ (found : Option Node). FitsView (Known (data_stat_of (stat_of value))) (contents_of found)) (sym there) same,
    )
    (value, recorded_so stat value ignored fits, refl) can

pub made : (h : History) (start : Start) (entries : List Entry) (path : Text) (content : Option (List ℕ)) (mode : ℕ) (xid owner : ℤ)
    (earlier : List Transaction) (last : Transaction) (ignored : List ℕ)
    → Awaits h start entries Serving (Ask (Create path content mode)) xid → mode ≤ 1
    → held h (end_of h entries).place ≡ earlier ++ last ∷ [] → Among (Creates (path_of path) content owner) last.changes
    → Fits ustring (Some path) → IsSendable xid (zxid_of h entries) (pos 0) (spelling ustring (Some path) ++ ignored)
    → CanTake h start entries (Answers (Create path content mode) (Made path))
    (headed xid (zxid_of h entries) (pos 0) (spelling ustring (Some path) ++ ignored) ∷ [])
made h start entries path content mode xid owner earlier last ignored a plain holds among fits can =
    answers h start entries (Create path content mode) xid (Made path) (spelling ustring (Some path) ++ ignored) a
    (owner, subst (λ (many : Bool). IsMadeOf path many path) (sym (le-ltb 1 mode plain)) refl, (earlier, last, holds, among))
    (Some path, recorded_so ustring (Some path) ignored fits, refl) can

pub numbered : (h : History) (start : Start) (entries : List Entry) (path : Text) (content : Option (List ℕ)) (mode : ℕ) (number : List ℕ)
    (xid owner : ℤ) (earlier : List Transaction) (last : Transaction) (ignored : List ℕ)
    → Awaits h start entries Serving (Ask (Create path content mode)) xid → 1 < mode
    → held h (end_of h entries).place ≡ earlier ++ last ∷ [] → Among (Creates (path_of (path ++ number)) content owner) last.changes
    → Fits ustring (Some (path ++ number))
    → IsSendable xid (zxid_of h entries) (pos 0) (spelling ustring (Some (path ++ number)) ++ ignored)
    → CanTake h start entries (Answers (Create path content mode) (Made (path ++ number)))
    (headed xid (zxid_of h entries) (pos 0) (spelling ustring (Some (path ++ number)) ++ ignored) ∷ [])
numbered h start entries path content mode number xid owner earlier last ignored a many holds among fits can =
    answers h start entries (Create path content mode) xid (Made (path ++ number)) (spelling ustring (Some (path ++ number)) ++ ignored) a (
      owner,
      subst (λ (several : Bool). IsMadeOf path several (path ++ number)) (sym (lt-ltb 1 mode many)) (number, refl),
      (earlier, last, holds, among),
    ) (Some (path ++ number), recorded_so ustring (Some (path ++ number)) ignored fits, refl) can

pub deleted : (h : History) (start : Start) (entries : List Entry) (path : Text) (version xid : ℤ) (earlier : List Transaction)
    (last : Transaction) (behind : List ℕ)
    → Awaits h start entries Serving (Ask (Delete path version)) xid → held h (end_of h entries).place ≡ earlier ++ last ∷ []
    → Among (Deletes (path_of path)) last.changes
    → IsSendable xid (zxid_of h entries) (pos 0) behind
    → CanTake h start entries (Answers (Delete path version) Done) (headed xid (zxid_of h entries) (pos 0) behind ∷ [])
deleted h start entries path version xid earlier last behind a holds among can =
    answers h start entries (Delete path version) xid Done behind a (earlier, last, holds, among)
    (tt, record { ignored = behind; fits = tt; whole = refl }, refl) can
