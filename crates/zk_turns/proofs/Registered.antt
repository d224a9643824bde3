-- The three lists after each message: a message says a word of each path, and a list takes the path in, keeps it or loses it as that word
-- says.
use Rattle.zk_turns.specs.Rule.{says_there, with_node, with_children, after_reply}
use Rattle.zk_watches.specs.Lists.{registered, Lists, no_lists, without, has, with_path, fired}
use Rattle.std.proofs.Common.{◌≡◌, ℕ, ℤ, Bool, true, false, not, cond, ◌&&◌, ◌||◌, List, [], ◌∷◌, ◌++◌, Option, Some, None, refl, sym, ap}
use Rattle.std.proofs.Common.{subst, ◌∙◌}
use Rattle.std.specs.Prelude.{filter, bytes_eq, is_some}
use Rattle.zk_nodes.specs.Path.{Text}
use Rattle.zk_nodes.specs.declared.side.Side.TheVariants.{Data, Child}
use Rattle.zk_records.specs.declared.event.Event.{Event}
use Rattle.zk_conversation.specs.Questions.{Question, Exists, GetData, GetChildren, Close}
use Rattle.zk_conversation.specs.Results.{Result, NoNode, Found, Read, Listing}
use Rattle.zk_turns.specs.Past.{Past, Happening, Took, Replies, Notifies, Left, Word, Says, Ends, Empties, Nothing, if_at, word_data}
use Rattle.zk_turns.specs.Past.{word_child, still_said, leaves_data, leaves_child, path_of_read, path_of_reply, in_known, in_missing}
use Rattle.zk_turns.specs.Past.{in_parents, arrivals, listed, lists_of}
use Rattle.zk_cache.specs.Kept.{Answer, Absent, Known, Full, Names}
use Rattle.zk_records.specs.Events.{concerns}
use Rattle.zk_turns.proofs.Lists.{same_text, shown, stays, leaves, empties, comes, Tracks, has_listed}
use Rattle.zk_turns.proofs.Words.{notice_word, after_word, is_there, is_absent}

pub paths_ext : (a b : Lists)
    → a.data_watches ≡ b.data_watches → a.exist_watches ≡ b.exist_watches → a.child_watches ≡ b.child_watches → a ≡ b
paths_ext a b p q r = λ i. record { data_watches = p i; exist_watches = q i; child_watches = r i }

-- ---- a reply that leaves a watch is about the path of its question

abbrev pub Agrees : {A : Type 0} → Option (Left A) → List Text → Type 0
Agrees None paths = Unit {0}
Agrees (Some left) paths = paths ≡ left.path ∷ []

agrees_data : (question : Question) (result : Result) → Agrees (leaves_data question result) (path_of_read question)
agrees_data (Exists path true) NoNode = refl
agrees_data (Exists path true) (Found stat) = refl
agrees_data (GetData path true) (Read bytes stat) = refl
agrees_data _ _ = tt

agrees_child : (question : Question) (result : Result) → Agrees (leaves_child question result) (path_of_read question)
agrees_child (GetChildren path true) (Listing listing stat) = refl
agrees_child _ _ = tt

at_left : {A : Type 0} (left : Option (Left A)) (paths : List Text) (p : Text) (a : A)
    → Agrees left paths → if_at left p ≡ Says a → paths ≡ p ∷ []
at_left None paths p a g e = absurd cc
at_left (Some left) paths p a g e = by (bytes_eq left.path p) refl
  where
    by : (b : Bool) → bytes_eq left.path p ≡ b → paths ≡ p ∷ []
    by true same = g ∙ ap (λ t. t ∷ []) (same_text left.path p same)
    by false other = absurd (let n = ap (λ b. cond b (Says left.says) Nothing) other in cc)

notice_says : {A : Type 0} (about : Bool) (at p : Text) (a : A) (X : Type 0) → notice_word about at p ≡ Says a → X
notice_says {A} about at p a X e = by (about && bytes_eq at p) e
  where
    by : (b : Bool) → cond {A = Word A} b Ends Nothing ≡ Says a → X
    by true is = absurd cc
    by false is = absurd cc

says_path_data : (p : Text) (happening : Happening) (a : Answer) → word_data p happening ≡ Says a → path_of_reply happening ≡ p ∷ []
says_path_data p (Took (Replies ticket Close zxid result)) a e = absurd cc
says_path_data p (Took (Replies ticket question zxid result)) a e =
    at_left (leaves_data question result) (path_of_read question) p a (agrees_data question result) e
says_path_data p (Took (Notifies event at)) a e = notice_says (concerns event Data) at p a _ e
says_path_data p _ a e = absurd cc

says_path_child : (p : Text) (happening : Happening) (a : Names) → word_child p happening ≡ Says a → path_of_reply happening ≡ p ∷ []
says_path_child p (Took (Replies ticket Close zxid result)) a e = absurd cc
says_path_child p (Took (Replies ticket question zxid result)) a e =
    at_left (leaves_child question result) (path_of_read question) p a (agrees_child question result) e
says_path_child p (Took (Notifies event at)) a e = notice_says (concerns event Child) at p a _ e
says_path_child p _ a e = absurd cc

-- what comes in is said
came : {A : Type 0} (test : Option A → Bool) → test None ≡ false → (word : Word A) (before : Option A)
    → test (after_word word before) ≡ true → test before ≡ false → (a : A) × (word ≡ Says a)
came test none (Says a) before e was = (a, refl)
came test none Ends before e was = absurd (let n = sym none ∙ e in cc)
came test none Empties before e was = absurd (let n = sym none ∙ e in cc)
came test none Nothing before e was = absurd (let n = sym was ∙ e in cc)

pub tracks_known : Tracks in_known
tracks_known = record {
  none = λ p. refl;
  by_reply = λ p happening past e was.
      let c = came is_there refl (word_data p happening) (still_said (word_data p) past) e was in says_path_data p happening c.0 c.1;
}

pub tracks_missing : Tracks in_missing
tracks_missing = record {
  none = λ p. refl;
  by_reply = λ p happening past e was.
      let c = came is_absent refl (word_data p happening) (still_said (word_data p) past) e was in says_path_data p happening c.0 c.1;
}

pub tracks_parents : Tracks in_parents
tracks_parents = record {
  none = λ p. refl;
  by_reply = λ p happening past e was.
      let c = came is_some refl (word_child p happening) (still_said (word_child p) past) e was in says_path_child p happening c.0 c.1;
}

-- each list has the paths whose good answer is of its kind
pub has_known : (p : Text) (past : Past) → has (listed in_known past) p ≡ in_known p past
has_known p past = has_listed in_known tracks_known p past

pub has_missing : (p : Text) (past : Past) → has (listed in_missing past) p ≡ in_missing p past
has_missing p past = has_listed in_missing tracks_missing p past

pub has_parents : (p : Text) (past : Past) → has (listed in_parents past) p ≡ in_parents p past
has_parents p past = has_listed in_parents tracks_parents p past

-- ---- after a reply

-- the list after a happening that says this word of each path, and came with a reply about these paths
abbrev after : {A : Type 0} → (Option A → Bool) → (Text → Word A) → (Text → Option A) → List Text → List Text → List Text
after test word before paths older =
    shown (λ q. test (after_word (word q) (before q)))
    (filter (λ q. test (after_word (word q) (before q)) && not (test (before q))) paths ++ older)

passes : {A : Type 0} (test : Option A → Bool) (b : Bool) (a : A) (before : Option A)
    → test (Some a) ≡ true → test (after_word (cond b (Says a) Nothing) before) ≡ (b || test before)
passes test true a before e = e
passes test false a before e = refl

fails : {A : Type 0} (test : Option A → Bool) (b : Bool) (a : A) (before : Option A)
    → test (Some a) ≡ false → test (after_word (cond b (Says a) Nothing) before) ≡ (test before && not b)
fails test true a before e = e ∙ by (test before)
  where
    by : (c : Bool) → false ≡ (c && false)
    by true = refl
    by false = refl
fails test false a before e = by (test before)
  where
    by : (c : Bool) → c ≡ (c && true)
    by true = refl
    by false = refl

-- the list gets the path, or loses it, as the answer passes its test
takes_in : {A : Type 0} (test : Option A → Bool) (left : Left A) (before : Text → Option A) (paths older : List Text)
    → Agrees (Some left) paths → test (Some left.says) ≡ true → has (shown (λ q. test (before q)) older) left.path ≡ test (before left.path)
    → with_path (shown (λ q. test (before q)) older) left.path ≡ after test (if_at (Some left)) before paths older
takes_in test left before paths older g e found =
    subst (λ ps. with_path (shown (λ q. test (before q)) older) left.path ≡ after test (if_at (Some left)) before ps older) (sym g)
    (sym (comes (λ q. test (before q)) (λ q. test (after_word (if_at (Some left) q) (before q))) older left.path
    (λ q. passes test (bytes_eq left.path q) left.says (before q) e) found))

takes_out : {A : Type 0} (test : Option A → Bool) (left : Left A) (before : Text → Option A) (paths older : List Text)
    → test (Some left.says) ≡ false
    → without (shown (λ q. test (before q)) older) left.path ≡ after test (if_at (Some left)) before paths older
takes_out test left before paths older e =
    sym (leaves (λ q. test (before q)) (λ q. test (after_word (if_at (Some left) q) (before q))) paths older left.path
    (λ q. fails test (bytes_eq left.path q) left.says (before q) e))

unchanged : {A : Type 0} (test : Option A → Bool) (before : Text → Option A) (paths older : List Text)
    → shown (λ q. test (before q)) older ≡ after test (if_at None) before paths older
unchanged test before paths older = sym (stays (λ q. test (before q)) (λ q. test (before q)) paths older (λ q. refl))

data_before : Past → Text → Option Answer
data_before past q = still_said (word_data q) past

known_said : (path : Text) (a : Answer) (paths : List Text) (past : Past) → paths ≡ path ∷ []
    → (registered (lists_of past) Data (says_there a) path).data_watches ≡ after is_there (if_at (Some (record { path = path; says = a })))
    (λ q. still_said (word_data q) past) paths (arrivals in_known past)
known_said path Absent paths past g =
    takes_out is_there (record { path = path; says = Absent }) (λ q. still_said (word_data q) past) paths (arrivals in_known past) refl
known_said path (Known fields) paths past g =
    takes_in is_there (record { path = path; says = Known fields }) (λ q. still_said (word_data q) past) paths
    (arrivals in_known past) g refl (has_known path past)
known_said path (Full bytes fields) paths past g =
    takes_in is_there (record { path = path; says = Full bytes fields }) (λ q. still_said (word_data q) past) paths
    (arrivals in_known past) g refl (has_known path past)

missing_said : (path : Text) (a : Answer) (paths : List Text) (past : Past) → paths ≡ path ∷ []
    → (registered (lists_of past) Data (says_there a) path).exist_watches ≡ after is_absent
    (if_at (Some (record { path = path; says = a }))) (λ q. still_said (word_data q) past) paths (arrivals in_missing past)
missing_said path Absent paths past g =
    takes_in is_absent (record { path = path; says = Absent }) (λ q. still_said (word_data q) past) paths
    (arrivals in_missing past) g refl (has_missing path past)
missing_said path (Known fields) paths past g =
    takes_out is_absent (record { path = path; says = Known fields }) (λ q. still_said (word_data q) past) paths
    (arrivals in_missing past) refl
missing_said path (Full bytes fields) paths past g =
    takes_out is_absent (record { path = path; says = Full bytes fields }) (λ q. still_said (word_data q) past) paths
    (arrivals in_missing past) refl

known_after : (left : Option (Left Answer)) (paths : List Text) (past : Past) → Agrees left paths
    → (with_node left (lists_of past)).data_watches
    ≡ after is_there (if_at left) (λ q. still_said (word_data q) past) paths (arrivals in_known past)
known_after None paths past g = unchanged is_there (λ q. still_said (word_data q) past) paths (arrivals in_known past)
known_after (Some left) paths past g = known_said left.path left.says paths past g

missing_after : (left : Option (Left Answer)) (paths : List Text) (past : Past) → Agrees left paths
    → (with_node left (lists_of past)).exist_watches
    ≡ after is_absent (if_at left) (λ q. still_said (word_data q) past) paths (arrivals in_missing past)
missing_after None paths past g = unchanged is_absent (λ q. still_said (word_data q) past) paths (arrivals in_missing past)
missing_after (Some left) paths past g = missing_said left.path left.says paths past g

parents_said : (path : Text) (a : Answer) (lists : Lists) → (registered lists Data (says_there a) path).child_watches ≡ lists.child_watches
parents_said path Absent lists = refl
parents_said path (Known fields) lists = refl
parents_said path (Full bytes fields) lists = refl

parents_kept : (left : Option (Left Answer)) (lists : Lists) → (with_node left lists).child_watches ≡ lists.child_watches
parents_kept None lists = refl
parents_kept (Some left) lists = parents_said left.path left.says lists

-- the three lists, by the words of a happening that came with a reply about these paths
abbrev after_words : (Text → Word Answer) → (Text → Word Names) → List Text → Past → Lists
after_words data_word child_word paths past = record {
  data_watches = after is_there data_word (λ q. still_said (word_data q) past) paths (arrivals in_known past);
  exist_watches = after is_absent data_word (λ q. still_said (word_data q) past) paths (arrivals in_missing past);
  child_watches = after is_some child_word (λ q. still_said (word_child q) past) paths (arrivals in_parents past);
}

reply_lists_by : (node : Option (Left Answer)) (children : Option (Left Names)) (paths : List Text) (past : Past)
    → Agrees node paths → Agrees children paths
    → with_children children (with_node node (lists_of past)) ≡ after_words (if_at node) (if_at children) paths past
reply_lists_by node None paths past g h =
    paths_ext _ _ (known_after node paths past g) (missing_after node paths past g)
    (parents_kept node (lists_of past) ∙ unchanged is_some (λ q. still_said (word_child q) past) paths (arrivals in_parents past))
reply_lists_by node (Some left) paths past g h =
    paths_ext _ _ (known_after node paths past g) (missing_after node paths past g)
    (ap (λ t. with_path t left.path) (parents_kept node (lists_of past))
    ∙ takes_in is_some left (λ q. still_said (word_child q) past) paths (arrivals in_parents past) h refl (has_parents left.path past))

reply_lists_at : (question : Question) (result : Result) (past : Past)
    → after_reply question result (lists_of past)
    ≡ after_words (if_at (leaves_data question result)) (if_at (leaves_child question result)) (path_of_read question) past
reply_lists_at question result past =
    reply_lists_by (leaves_data question result) (leaves_child question result) (path_of_read question) past (agrees_data question result)
    (agrees_child question result)

abbrev pub IsClose : Question → Type 0
IsClose Close = Unit {0}
IsClose _ = ⊥

pub reply_lists : (ticket : ℕ) (question : Question) (zxid : ℤ) (result : Result) (past : Past) → ¬ (IsClose question)
    → after_reply question result (lists_of past) ≡ lists_of (Took (Replies ticket question zxid result) ∷ past)
reply_lists ticket Close zxid result past n = absurd (n tt)
reply_lists ticket question zxid result past n = reply_lists_at question result past

-- ---- after a notice

notice_ends : {A : Type 0} (test : Option A → Bool)
    → test None ≡ false → (about : Bool) (at : Text) (before : Text → Option A) (paths older : List Text)
    → cond about (without (shown (λ q. test (before q)) older) at) (shown (λ q. test (before q)) older)
    ≡ after test (notice_word about at) before paths older
notice_ends test none false at before paths older = sym (stays (λ q. test (before q)) (λ q. test (before q)) paths older (λ q. refl))
notice_ends {A} test none true at before paths older =
    sym (leaves (λ q. test (before q)) (λ q. test (after_word (notice_word true at q) (before q))) paths older at
    (λ q. by (bytes_eq at q) (before q)))
  where
    by : (b : Bool) (was : Option A) → test (after_word (cond b Ends Nothing) was) ≡ (test was && not b)
    by true was = none ∙ ends (test was)
      where
        ends : (c : Bool) → false ≡ (c && false)
        ends true = refl
        ends false = refl
    by false was = goes_on (test was)
      where
        goes_on : (c : Bool) → c ≡ (c && true)
        goes_on true = refl
        goes_on false = refl

pub notice_lists : (event : Event) (at : Text) (past : Past) → fired (lists_of past) event at ≡ lists_of (Took (Notifies event at) ∷ past)
notice_lists event at past =
    paths_ext _ _
    (notice_ends is_there refl (concerns event Data) at (λ q. still_said (word_data q) past) [] (arrivals in_known past))
    (notice_ends is_absent refl (concerns event Data) at (λ q. still_said (word_data q) past) [] (arrivals in_missing past))
    (notice_ends is_some refl (concerns event Child) at (λ q. still_said (word_child q) past) [] (arrivals in_parents past))

-- ---- where nothing is left

pub empty_lists : (happening : Happening) (past : Past) → ((q : Text) → word_data q happening ≡ Empties)
    → ((q : Text) → word_child q happening ≡ Empties) → no_lists ≡ lists_of (happening ∷ past)
empty_lists happening past node children =
    sym (paths_ext _ _
    (empties (λ q. in_known q (happening ∷ past)) (arrivals in_known (happening ∷ past))
    (λ q. ap (λ w. is_there (after_word w (still_said (word_data q) past))) (node q)))
    (empties (λ q. in_missing q (happening ∷ past)) (arrivals in_missing (happening ∷ past))
    (λ q. ap (λ w. is_absent (after_word w (still_said (word_data q) past))) (node q)))
    (empties (λ q. in_parents q (happening ∷ past)) (arrivals in_parents (happening ∷ past))
    (λ q. ap (λ w. is_some (after_word w (still_said (word_child q) past))) (children q))))
