-- The cache after each message is what the definitions keep of each path. Two caches that keep the same of each path are one, so each path
-- is looked at, by what the message says of it.
use Rattle.std.proofs.Common.{◌≡◌, ℕ, ℤ, Bool, true, false, cond, ◌&&◌, List, [], ◌∷◌, Option, Some, None, refl, ap, ◌∙◌}
use Rattle.std.specs.Prelude.{bytes_eq}
use Rattle.std.specs.Ordering.{int_eq}
use Rattle.std.proofs.lemmas.Bool.Decides.{Decides-int_eq}
use Rattle.zk_nodes.specs.Path.{Text}
use Rattle.zk_nodes.specs.declared.data_stat.DataStat.{DataStat}
use Rattle.zk_nodes.specs.declared.side.Side.TheVariants.{Data, Child}
use Rattle.zk_records.specs.declared.event.Event.{Event}
use Rattle.zk_conversation.specs.Questions.{Question, Close}
use Rattle.zk_conversation.specs.Results.{Result}
use Rattle.zk_turns.specs.Turns.{Start}
use Rattle.zk_turns.specs.Past.{Past, Happening, Began, Took, Forgot, Replies, Notifies, Left, Word, Says, Ends, Empties, Nothing, if_at}
use Rattle.zk_turns.specs.Past.{word_data, leaves_data, leaves_child, data_by, data_with, kept_by, Message, good_answer, kept_data}
use Rattle.zk_turns.specs.Past.{kept_names}
use Rattle.zk_cache.specs.Kept.{Answer, Absent, Known, Full, Names, same_fields, good, stale, without_stale, merged}
use Rattle.zk_cache.specs.declared.held.Kept.{Kept}
use Rattle.zk_cache.specs.declared.held.Mark.{Mark}
use Rattle.zk_cache.specs.declared.held.Mark.TheVariants.{Good, Stale}
use Rattle.zk_records.specs.Events.{concerns}
use Rattle.zk_turns.specs.View.{Cache, view_at}
use Rattle.zk_turns.specs.Rule.{keep_node, keep_children, kept_after, spoilt}
use Rattle.zk_turns.proofs.Registered.{IsClose}
use Rattle.zk_turns.proofs.Words.{with_data}

pub cache_ext : (a b : Cache) → ((p : Text) → a.nodes p ≡ b.nodes p) → ((p : Text) → a.children p ≡ b.children p) → a ≡ b
cache_ext a b p q = λ i. record { nodes = λ t. p t i; children = λ t. q t i }

-- ---- equal fields

first_true : (a b : Bool) → (a && b) ≡ true → (a ≡ true) × (b ≡ true)
first_true true b e = (refl, e)
first_true false b e = absurd cc

same_int : (a b : ℤ) → int_eq a b ≡ true → a ≡ b
same_int a b e = (Decides-int_eq a b).0 e

pub fields_same-refl : (a : DataStat) → same_fields a a ≡ true
fields_same-refl a =
    let e1 = (Decides-int_eq a.czxid a.czxid).1 refl in
    let e2 = (Decides-int_eq a.mzxid a.mzxid).1 refl in
    let e3 = (Decides-int_eq a.ctime a.ctime).1 refl in
    let e4 = (Decides-int_eq a.mtime a.mtime).1 refl in
    let e5 = (Decides-int_eq a.version a.version).1 refl in
    let e6 = (Decides-int_eq a.ephemeral_owner a.ephemeral_owner).1 refl in
    let e7 = (Decides-int_eq a.data_length a.data_length).1 refl in
    rw (e1, e2, e3, e4, e5, e6, e7) refl

pub fields_same : (a b : DataStat) → same_fields a b ≡ true → a ≡ b
fields_same a b e0 =
    let e1 = first_true _ _ e0 in
    let e2 = first_true _ _ e1.1 in
    let e3 = first_true _ _ e2.1 in
    let e4 = first_true _ _ e3.1 in
    let e5 = first_true _ _ e4.1 in
    let e6 = first_true _ _ e5.1 in
    λ i. record {
      czxid = same_int a.czxid b.czxid e1.0 i;
      mzxid = same_int a.mzxid b.mzxid e2.0 i;
      ctime = same_int a.ctime b.ctime e3.0 i;
      mtime = same_int a.mtime b.mtime e4.0 i;
      version = same_int a.version b.version e5.0 i;
      data_length = same_int a.data_length b.data_length e6.0 i;
      ephemeral_owner = same_int a.ephemeral_owner b.ephemeral_owner e6.1 i;
    }

-- ---- a Known that comes

merged_none : (fields : DataStat) → merged None (Known fields) ≡ Known fields
merged_none fields = refl

merged_stale : (kept : Option (Kept Answer)) (fields : DataStat) → merged (stale kept) (Known fields) ≡ Known fields
merged_stale None fields = refl
merged_stale (Some kept) fields = by kept.answer
  where
    by : (a : Answer) → merged (stale (Some (record { answer = a; mark = kept.mark }))) (Known fields) ≡ Known fields
    by Absent = refl
    by (Known old) = refl
    by (Full bytes old) = refl

merged_forgot : (kept : Option (Kept Answer)) (fields : DataStat) → merged (without_stale kept) (Known fields) ≡ merged kept (Known fields)
merged_forgot None fields = refl
merged_forgot (Some kept) fields = by kept.answer kept.mark
  where
    by : (a : Answer) (m : Mark) → merged (without_stale (Some (record { answer = a; mark = m })))
        (Known fields) ≡ merged (Some (record { answer = a; mark = m })) (Known fields)
    by a Good = refl
    by Absent Stale = refl
    by (Known old) Stale = refl
    by (Full bytes old) Stale = refl

merged_again : (old new : DataStat) (before after : Option (Option (List ℕ))) (same : Bool)
    → same_fields old new ≡ same → (same ≡ true → (old ≡ new) × (before ≡ after))
    → merged (good (with_data old before)) (Known new) ≡ with_data new (cond same after None)
merged_again old new None after true e with_same = ap (with_data new) (with_same refl).1
merged_again old new None after false e with_same = refl
merged_again old new (Some bytes) after true e with_same =
    ap (λ b. cond b (Full bytes old) (Known new)) e ∙ ap (Full bytes) (with_same refl).0 ∙ ap (with_data new) (with_same refl).1
merged_again old new (Some bytes) after false e with_same = ap (λ b. cond b (Full bytes old) (Known new)) e

merged_over : (old new : DataStat) (bytes : Option (List ℕ)) (same : Bool) → same_fields old new ≡ same → (same ≡ true → old ≡ new)
    → merged (good (Full bytes old)) (Known new) ≡ with_data new (cond same (Some bytes) None)
merged_over old new bytes true e with_same = ap (λ b. cond b (Full bytes old) (Known new)) e ∙ ap (Full bytes) (with_same refl)
merged_over old new bytes false e with_same = ap (λ b. cond b (Full bytes old) (Known new)) e

abbrev both_known : DataStat → Option (Kept Answer) → Option (Option (List ℕ)) → Type 0
both_known fields kept bytes = merged kept (Known fields) ≡ with_data fields bytes

-- what a happening leaves of the data of a path, by its word
known_step : (path : Text) (fields : DataStat) (happening : Happening) (past : Past) (word : Word Answer)
    → ((others : DataStat) → both_known others (kept_data path past) (data_with path others past))
    → both_known fields (kept_by word (λ answer. good_answer path answer past) happening (kept_data path past))
    (data_by word fields (data_with path fields past))
known_step path fields happening past (Says Absent) ih = refl
known_step path fields happening past (Says (Known others)) ih =
    merged_again others fields (data_with path others past) (data_with path fields past) (same_fields others fields) refl
    (λ e. let s = fields_same others fields e in (s, ap (λ f. data_with path f past) s))
known_step path fields happening past (Says (Full bytes others)) ih =
    merged_over others fields bytes (same_fields others fields) refl (λ e. fields_same others fields e)
known_step path fields happening past Ends ih = merged_stale (kept_data path past) fields
known_step path fields happening past Empties ih = refl
known_step path fields Forgot past Nothing ih = merged_forgot (kept_data path past) fields ∙ ih fields
known_step path fields _ past Nothing ih = ih fields

-- what is kept where seven fields come
pub known_is : (path : Text) (past : Past) (fields : DataStat)
    → merged (kept_data path past) (Known fields) ≡ with_data fields (data_with path fields past)
known_is path [] fields = refl
known_is path (happening ∷ past) fields = known_step path fields happening past (word_data path happening) (known_is path past)

merged_absent : (kept : Option (Kept Answer)) → merged kept Absent ≡ Absent
merged_absent None = refl
merged_absent (Some kept) = refl

merged_data : (kept : Option (Kept Answer)) (bytes : Option (List ℕ)) (fields : DataStat)
    → merged kept (Full bytes fields) ≡ Full bytes fields
merged_data None bytes fields = refl
merged_data (Some kept) bytes fields = refl

pub merged_is : (path : Text) (answer : Answer) (past : Past) → merged (kept_data path past) answer ≡ good_answer path answer past
merged_is path Absent past = merged_absent (kept_data path past)
merged_is path (Known fields) past = known_is path past fields
merged_is path (Full bytes fields) past = merged_data (kept_data path past) bytes fields

-- ---- after a reply

keep_said : {A : Type 0} (b : Bool) (a x : A) (known : A → A) (kept : Option (Kept A))
    → x ≡ known a → cond b (good x) kept ≡ kept_by (cond b (Says a) Nothing) known Began kept
keep_said true a x known kept e = ap good e
keep_said false a x known kept e = refl

node_by : (left : Option (Left Answer)) (path : Text) (past : Past)
    → keep_node left path (kept_data path past)
    ≡ kept_by (if_at left path) (λ answer. good_answer path answer past) Began (kept_data path past)
node_by None path past = refl
node_by (Some left) path past =
    keep_said (bytes_eq left.path path) left.says (merged (kept_data path past) left.says) (λ answer. good_answer path answer past)
    (kept_data path past) (merged_is path left.says past)

children_by : (left : Option (Left Names)) (path : Text) (past : Past)
    → keep_children left path (kept_names path past) ≡ kept_by (if_at left path) (λ names. names) Began (kept_names path past)
children_by None path past = refl
children_by (Some left) path past = keep_said (bytes_eq left.path path) left.says left.says (λ names. names) (kept_names path past) refl

-- a happening that is no forget leaves what it says nothing of
plain : {A : Type 0} (word : Word A) (known : A → A) (message : Message) (kept : Option (Kept A))
    → kept_by word known Began kept ≡ kept_by word known (Took message) kept
plain (Says a) known message kept = refl
plain Ends known message kept = refl
plain Empties known message kept = refl
plain Nothing known message kept = refl

module _ (start : Start) where
  pub reply_cache : (ticket : ℕ) (question : Question) (zxid : ℤ) (result : Result) (past : Past) → ¬ (IsClose question)
      → kept_after question result (view_at start past).cache ≡ (view_at start (Took (Replies ticket question zxid result) ∷ past)).cache
  reply_cache ticket Close zxid result past n = absurd (n tt)
  reply_cache ticket question zxid result past n =
      cache_ext _ _
      (λ path. node_by (leaves_data question result) path past ∙ plain (if_at (leaves_data question result) path)
      (λ answer. good_answer path answer past) (Replies ticket question zxid result) (kept_data path past))
      (λ path. children_by (leaves_child question result) path past
      ∙ plain (if_at (leaves_child question result) path) (λ names. names) (Replies ticket question zxid result) (kept_names path past))

-- ---- after a notice

notice_by : {A : Type 0} (b : Bool) (known : A → A) (message : Message) (kept : Option (Kept A))
    → cond b (stale kept) kept ≡ kept_by (cond b Ends Nothing) known (Took message) kept
notice_by true known message kept = refl
notice_by false known message kept = refl

module _ (start : Start) where
  pub notice_cache : (event : Event) (at : Text) (past : Past)
      → spoilt event at (view_at start past).cache ≡ (view_at start (Took (Notifies event at) ∷ past)).cache
  notice_cache event at past =
      cache_ext _ _
      (λ path. notice_by (concerns event Data && bytes_eq at path) (λ answer. good_answer path answer past)
      (Notifies event at) (kept_data path past))
      (λ path. notice_by (concerns event Child && bytes_eq at path) (λ names. names) (Notifies event at) (kept_names path past))
