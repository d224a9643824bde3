-- What is good, what has its data and what was seen last, in the words of watches: by induction on the past, where one happening more says
-- something of a path, ends what was said, or leaves it.
use Rattle.std.proofs.Common.{◌≡◌, ℕ, ℤ, Bool, true, false, cond, ◌&&◌, List, [], ◌∷◌, ◌++◌, Option, Some, None, refl, sym, ap, subst, ◌∙◌}
use Rattle.std.proofs.Common.{inl, inr, ◌⊎◌, arith}
use Rattle.std.specs.Prelude.{bytes_eq, is_some, ◌≤ℤ◌, int_lt}
use Rattle.std.specs.List.{AllByRecursion}
use Rattle.std.proofs.lemmas.Int.{ints}
use Rattle.zk_nodes.specs.Path.{Text}
use Rattle.zk_nodes.specs.declared.side.Side.{Side}
use Rattle.zk_nodes.specs.declared.side.Side.TheVariants.{Data, Child}
use Rattle.zk_records.specs.declared.event.Event.{Event}
use Rattle.zk_nodes.specs.declared.stat.Stat.{Stat}
use Rattle.zk_nodes.specs.declared.data_stat.DataStat.{DataStat}
use Rattle.zk_nodes.specs.DataStats.{data_stat_of}
use Rattle.zk_conversation.specs.Questions.{Question, Exists, GetData, GetChildren, SetData, Create, Delete, Close, Raw}
use Rattle.zk_conversation.specs.Results.{Result, NoNode, Found, Read, Listing}
use Rattle.zk_turns.specs.Turns.{Start}
use Rattle.zk_turns.specs.Past.{Left, word_on, reply_word, Past, Happening, Took, Forgot, Halted, Message, Accepted, Expiry, Replies}
use Rattle.zk_turns.specs.Past.{Watches_set, Notifies, Pong, Skipped, names_of, Word, Says, Ends, Empties, Nothing, leaves_data}
use Rattle.zk_turns.specs.Past.{leaves_child, word_data, word_child, still_said, is_good, kept_by, data_by, data_with, good_answer}
use Rattle.zk_turns.specs.Past.{kept_data, last_of}
use Rattle.std.specs.Int.{int_max}
use Rattle.zk_cache.specs.Kept.{Answer, Absent, Known, Full, good, stale, without_stale, same_fields}
use Rattle.zk_cache.specs.declared.held.Kept.{Kept}
use Rattle.zk_cache.specs.declared.held.Mark.{Mark}
use Rattle.zk_cache.specs.declared.held.Mark.TheVariants.{Good, Stale}
use Rattle.zk_records.specs.Events.{concerns}
use Rattle.zk_turns.specs.Meaning.{Among, LeavesWatch, EndsGood, LeavesAt, IsGoodSince, SaysSame, HasData, Counts, IsLastSeen}
use Rattle.zk_turns.proofs.Lists.{same_text, bytes_eq-refl}
use Rattle.zk_turns.proofs.Cached.{fields_same, fields_same-refl}
use Rattle.zk_turns.proofs.Words.{notice_word, after_word, unless_forgot, with_data}

-- ---- the word of a happening

says_at : {A : Type 0} (b : Bool) (at path : Text) (x a : A)
    → bytes_eq at path ≡ b → cond {A = Word A} b (Says x) Nothing ≡ Says a → (at ≡ path) × (x ≡ a)
says_at true at path x a e s = (same_text at path e, cc)
says_at false at path x a e s = absurd cc

not_ends : {A : Type 0} (b : Bool) (x : A) → cond {A = Word A} b (Says x) Nothing ≡ Ends → ⊥
not_ends true x s = cc
not_ends false x s = cc

not_empties : {A : Type 0} (b : Bool) (x : A) → cond {A = Word A} b (Says x) Nothing ≡ Empties → ⊥
not_empties true x s = cc
not_empties false x s = cc

says_here : {A : Type 0} (at path : Text) (x : A) → at ≡ path → cond {A = Word A} (bytes_eq at path) (Says x) Nothing ≡ Says x
says_here {A} at path x e = ap (λ b. cond {A = Word A} b (Says x) Nothing) (ap (λ t. bytes_eq t path) e ∙ bytes_eq-refl path)

notice_ends : {A : Type 0} (b c : Bool) (at path : Text) (w : Word A)
    → bytes_eq at path ≡ c → cond {A = Word A} (b && c) Ends Nothing ≡ w → (w ≡ Ends) × (b ≡ true) × (at ≡ path) ⊎ (w ≡ Nothing)
notice_ends true true at path w e s = inl (sym s, refl, same_text at path e)
notice_ends true false at path w e s = inr (sym s)
notice_ends false c at path w e s = inr (sym s)

notice_here : {A : Type 0} (b : Bool) (at path : Text) → b ≡ true → at ≡ path → notice_word {A = A} b at path ≡ Ends
notice_here {A} b at path e f = ap (λ t. cond {A = Word A} (t && bytes_eq at path) Ends Nothing) e
    ∙ ap (λ t. cond {A = Word A} t Ends Nothing) (ap (λ t. bytes_eq t path) f ∙ bytes_eq-refl path)

-- what the word means
abbrev Means : {A : Type 0} → Side → Text → Happening → Word A → Type 0
Means side path x (Says a) = LeavesAt side path x × ¬ EndsGood side path x
Means side path x Ends = EndsGood side path x × ¬ LeavesAt side path x
Means side path x Empties = EndsGood side path x × ¬ LeavesAt side path x
Means side path x Nothing = (¬ EndsGood side path x) × ¬ LeavesAt side path x

here_or_not : {A : Type 0} (side : Side) (path at : Text) (x : Happening) (a : A) (b : Bool)
    → bytes_eq at path ≡ b → (at ≡ path → LeavesAt side path x) → (LeavesAt side path x → at ≡ path)
    → ¬ EndsGood side path x → Means side path x (cond {A = Word A} b (Says a) Nothing)
here_or_not side path at x a true e f g n = (f (same_text at path e), n)
here_or_not side path at x a false e f g n = (n, λ l. let s = ap (λ t. bytes_eq t path) (g l) in let r = bytes_eq-refl path in cc)

data_reply : (path : Text) (t : ℕ) (q : Question) (z : ℤ) (r : Result)
    → Means Data path (Took (Replies t q z r)) (reply_word q (leaves_data q r) path)
data_reply path t Close z r = (tt, λ l. l)
data_reply path t (Exists at true) z NoNode =
    here_or_not Data path at (Took (Replies t (Exists at true) z NoNode)) Absent (bytes_eq at path) refl (λ e. e) (λ e. e) (λ n. n)
data_reply path t (Exists at true) z (Found stat) = here_or_not Data path at (Took (Replies t (Exists at true) z (Found stat)))
    (Known (data_stat_of stat)) (bytes_eq at path) refl (λ e. e) (λ e. e) (λ n. n)
data_reply path t (GetData at true) z (Read bytes stat) = here_or_not Data path at (Took (Replies t (GetData at true) z (Read bytes stat)))
    (Full bytes (data_stat_of stat)) (bytes_eq at path) refl (λ e. e) (λ e. e) (λ n. n)
data_reply path t _ z _ = (λ n. n, λ n. n)

child_reply : (path : Text) (t : ℕ) (q : Question) (z : ℤ) (r : Result)
    → Means Child path (Took (Replies t q z r)) (reply_word q (leaves_child q r) path)
child_reply path t Close z r = (tt, λ l. l)
child_reply path t (GetChildren at true) z (Listing listing stat) =
    here_or_not Child path at (Took (Replies t (GetChildren at true) z (Listing listing stat))) (names_of listing stat)
    (bytes_eq at path) refl (λ e. e) (λ e. e) (λ n. n)
child_reply path t _ z _ = (λ n. n, λ n. n)

notice_means : (A : Type 0) (side : Side) (path at : Text) (event : Event) (b c : Bool) → concerns event side ≡ b → bytes_eq at path ≡ c
    → Means {A = A} side path (Took (Notifies event at)) (cond {A = Word A} (b && c) Ends Nothing)
notice_means A side path at event true true e f = ((e, same_text at path f), λ l. l)
notice_means A side path at event true false e f =
    ((λ m. let s = ap (λ t. bytes_eq t path) m.1 in let r = bytes_eq-refl path in cc), λ l. l)
notice_means A side path at event false c e f = ((λ m. let s = m.0 in cc), λ l. l)

on_means : {A : Type 0} (side : Side) (leaves : Question → Result → Option (Left A)) (path : Text)
    → ((t : ℕ) (q : Question) (z : ℤ) (r : Result) → Means side path (Took (Replies t q z r)) (reply_word q (leaves q r) path))
    → (x : Happening) → Means side path x (word_on side leaves path x)
on_means side leaves path reply (Took (Replies t q z r)) = reply t q z r
on_means {A} side leaves path reply (Took (Notifies event at)) =
    notice_means A side path at event (concerns event side) (bytes_eq at path) refl refl
on_means side leaves path reply (Took Expiry) = (tt, λ l. l)
on_means side leaves path reply Halted = (tt, λ l. l)
on_means side leaves path reply (Took (Accepted w)) = (λ n. n, λ n. n)
on_means side leaves path reply (Took (Watches_set b z)) = (λ n. n, λ n. n)
on_means side leaves path reply (Took Pong) = (λ n. n, λ n. n)
on_means side leaves path reply (Took Skipped) = (λ n. n, λ n. n)
on_means side leaves path reply _ = (λ n. n, λ n. n)

pub data_means : (path : Text) (x : Happening) → Means Data path x (word_data path x)
data_means path x = on_means Data leaves_data path (data_reply path) x

pub child_means : (path : Text) (x : Happening) → Means Child path x (word_child path x)
child_means path x = on_means Child leaves_child path (child_reply path) x

-- ---- since when an answer is good

module _ {A : Type 0} (side : Side) (path : Text) (word : Happening → Word A) (means : (x : Happening) → Means side path x (word x)) where
  good_step : (x : Happening) (past : Past) (w : Word A) → word x ≡ w → is_some (after_word w (still_said word past)) ≡ true
      → (is_some (still_said word past) ≡ true → IsGoodSince side path past) → IsGoodSince side path (x ∷ past)
  good_step x past (Says a) e g ih =
      record { since = []; reply = x; before = past; whole = refl; left = (subst (λ w. Means side path x w) e (means x)).0; quiet = tt }
  good_step x past Ends e g ih = absurd cc
  good_step x past Empties e g ih = absurd cc
  good_step x past Nothing e g ih =
      let m = ih g in
      record {
        since = x ∷ m.since;
        reply = m.reply;
        before = m.before;
        whole = ap (λ l. x ∷ l) m.whole;
        left = m.left;
        quiet = ((subst (λ w. Means side path x w) e (means x)).0, m.quiet);
      }

  pub good_since : (past : Past) → is_some (still_said word past) ≡ true → IsGoodSince side path past
  good_since [] g = absurd cc
  good_since (x ∷ past) g = good_step x past (word x) refl g (good_since past)

  left_good : (x : Happening) (past : Past) (w : Word A)
      → word x ≡ w → LeavesAt side path x → is_some (after_word w (still_said word past)) ≡ true
  left_good x past (Says a) e l = refl
  left_good x past Ends e l = absurd ((subst (λ w. Means side path x w) e (means x)).1 l)
  left_good x past Empties e l = absurd ((subst (λ w. Means side path x w) e (means x)).1 l)
  left_good x past Nothing e l = absurd ((subst (λ w. Means side path x w) e (means x)).1 l)

  kept_good : (x : Happening) (w : Word A) (k : Option A)
      → word x ≡ w → ¬ EndsGood side path x → is_some k ≡ true → is_some (after_word w k) ≡ true
  kept_good x (Says a) k e n s = refl
  kept_good x Ends k e n s = absurd (n (subst (λ w. Means side path x w) e (means x)).0)
  kept_good x Empties k e n s = absurd (n (subst (λ w. Means side path x w) e (means x)).0)
  kept_good x Nothing k e n s = s

  good_through : (since : List Happening) (reply : Happening) (before : Past) → LeavesAt side path reply
      → AllByRecursion (λ h. ¬ EndsGood side path h) since → is_some (still_said word (since ++ reply ∷ before)) ≡ true
  good_through [] reply before l q = left_good reply before (word reply) refl l
  good_through (x ∷ since) reply before l q =
      kept_good x (word x) (still_said word (since ++ reply ∷ before)) refl q.0 (good_through since reply before l q.1)

  pub since_good : (past : Past) → IsGoodSince side path past → is_some (still_said word past) ≡ true
  since_good past m = ap (λ l. is_some (still_said word l)) m.whole ∙ good_through m.since m.reply m.before m.left m.quiet

  -- a reply left a watch after something ended the last one
  read_step : (x : Happening) (w : Word A) (k : Option A) (rest : List Happening)
      → word x ≡ w → is_some (after_word w k) ≡ true → (is_some k ≡ true → (y : Happening) × Among y rest × LeavesAt side path y)
      → (y : Happening) × Among y (x ∷ rest) × LeavesAt side path y
  read_step x (Says a) k rest e g ih = (x, inl refl, (subst (λ w. Means side path x w) e (means x)).0)
  read_step x Ends k rest e g ih = absurd cc
  read_step x Empties k rest e g ih = absurd cc
  read_step x Nothing k rest e g ih = let r = ih g in (r.0, inr r.1, r.2)

  ended_none : (x : Happening) (w : Word A) (k : Option A) → word x ≡ w → EndsGood side path x → is_some (after_word w k) ≡ false
  ended_none x (Says a) k e n = absurd ((subst (λ w. Means side path x w) e (means x)).1 n)
  ended_none x Ends k e n = refl
  ended_none x Empties k e n = refl
  ended_none x Nothing k e n = absurd ((subst (λ w. Means side path x w) e (means x)).0 n)

  pub read_between : (since : List Happening) (x : Happening) (before : Past) → EndsGood side path x
      → is_some (still_said word (since ++ x ∷ before)) ≡ true → (y : Happening) × Among y since × LeavesAt side path y
  read_between [] x before n g = absurd (let e = ended_none x (word x) (still_said word before) refl n in cc)
  read_between (y ∷ since) x before n g =
      read_step y (word y) (still_said word (since ++ x ∷ before)) since refl g (read_between since x before n)

pub is_good_since : (side : Side) (path : Text) (past : Past)
    → (is_good side path past ≡ true → IsGoodSince side path past) × (IsGoodSince side path past → is_good side path past ≡ true)
is_good_since Data path past =
    (good_since Data path (word_data path) (data_means path) past, since_good Data path (word_data path) (data_means path) past)
is_good_since Child path past =
    (good_since Child path (word_child path) (child_means path) past, since_good Child path (word_child path) (child_means path) past)

pub read_again : (side : Side) (path : Text) (since : List Happening) (x : Happening) (before : Past)
    → EndsGood side path x → is_good side path (since ++ x ∷ before) ≡ true → (y : Happening) × Among y since × LeavesAt side path y
read_again Data path since x before n g = read_between Data path (word_data path) (data_means path) since x before n g
read_again Child path since x before n g = read_between Child path (word_child path) (child_means path) since x before n g

-- ---- data

-- the reply that gave data
record GaveData (path : Text) (x : Happening) (bytes : Option (List ℕ)) (fields : DataStat) : Type 0 where
  ticket : ℕ
  zxid : ℤ
  stat : Stat
  is : x ≡ Took (Replies ticket (GetData path true) zxid (Read bytes stat))
  gave : data_stat_of stat ≡ fields

-- what a word about data comes from
abbrev Comes_from : Text → Happening → Word Answer → Type 0
Comes_from path x (Says Absent) = Unit {0}
Comes_from path x (Says (Known fields)) = SaysSame path fields x
Comes_from path x (Says (Full bytes fields)) = GaveData path x bytes fields
Comes_from path x _ = Unit {0}

if_read : (path at : Text) (t : ℕ) (z : ℤ) (bytes : Option (List ℕ)) (stat : Stat) (b : Bool)
    → bytes_eq at path ≡ b → Comes_from path (Took (Replies t (GetData at true) z (Read bytes stat)))
    (cond {A = Word Answer} b (Says (Full bytes (data_stat_of stat))) Nothing)
if_read path at t z bytes stat true e = record {
  ticket = t;
  zxid = z;
  stat = stat;
  is = ap (λ p. Took (Replies t (GetData p true) z (Read bytes stat))) (same_text at path e);
  gave = refl;
}
if_read path at t z bytes stat false e = tt

if_found : (path at : Text) (t : ℕ) (z : ℤ) (stat : Stat) (b : Bool) → Comes_from path (Took (Replies t (Exists at true) z (Found stat)))
    (cond {A = Word Answer} b (Says (Known (data_stat_of stat))) Nothing)
if_found path at t z stat true = λ l. (stat, refl, refl)
if_found path at t z stat false = tt

if_absent : (path at : Text) (t : ℕ) (z : ℤ) (b : Bool)
    → Comes_from path (Took (Replies t (Exists at true) z NoNode)) (cond {A = Word Answer} b (Says Absent) Nothing)
if_absent path at t z true = tt
if_absent path at t z false = tt

from_notice : (path : Text) (x : Happening) (b : Bool) → Comes_from path x (cond {A = Word Answer} b Ends Nothing)
from_notice path x true = tt
from_notice path x false = tt

reply_from : (path : Text) (t : ℕ) (q : Question) (z : ℤ) (r : Result)
    → Comes_from path (Took (Replies t q z r)) (reply_word q (leaves_data q r) path)
reply_from path t Close z r = tt
reply_from path t (Exists at true) z NoNode = if_absent path at t z (bytes_eq at path)
reply_from path t (Exists at true) z (Found stat) = if_found path at t z stat (bytes_eq at path)
reply_from path t (GetData at true) z (Read bytes stat) = if_read path at t z bytes stat (bytes_eq at path) refl
reply_from path t _ z _ = tt

comes_from : (path : Text) (x : Happening) → Comes_from path x (word_data path x)
comes_from path (Took (Replies t q z r)) = reply_from path t q z r
comes_from path (Took (Notifies event at)) = from_notice path (Took (Notifies event at)) (concerns event Data && bytes_eq at path)
comes_from path (Took Expiry) = tt
comes_from path (Took (Accepted w)) = tt
comes_from path (Took (Watches_set b z)) = tt
comes_from path (Took Pong) = tt
comes_from path (Took Skipped) = tt
comes_from path Halted = tt
comes_from path _ = tt

-- nothing is said of data by what leaves no watch
not_said : (path : Text) (fields : DataStat) (x : Happening) → ¬ LeavesAt Data path x → SaysSame path fields x
not_said path fields (Took (Replies t q z r)) n = λ l. absurd (n l)
not_said path fields (Took (Accepted w)) n = tt
not_said path fields (Took Expiry) n = tt
not_said path fields (Took (Watches_set b z)) n = tt
not_said path fields (Took (Notifies e p)) n = tt
not_said path fields (Took Pong) n = tt
not_said path fields (Took Skipped) n = tt
not_said path fields _ n = tt

module _ (path : Text) where
  data_more : (bytes : Option (List ℕ)) (fields : DataStat) (x : Happening) (past : Past)
      → ¬ EndsGood Data path x → SaysSame path fields x → HasData path bytes fields past → HasData path bytes fields (x ∷ past)
  data_more bytes fields x past n s m = record {
    since = x ∷ m.since;
    ticket = m.ticket;
    zxid = m.zxid;
    stat = m.stat;
    before = m.before;
    whole = ap (λ l. x ∷ l) m.whole;
    gave = m.gave;
    quiet = (n, m.quiet);
    same = (s, m.same);
  }

  data_new : (bytes : Option (List ℕ)) (fields : DataStat) (x : Happening) (past : Past)
      → GaveData path x bytes fields → HasData path bytes fields (x ∷ past)
  data_new bytes fields x past g = record {
    since = [];
    ticket = g.ticket;
    zxid = g.zxid;
    stat = g.stat;
    before = past;
    whole = ap (λ y. y ∷ past) g.is;
    gave = g.gave;
    quiet = tt;
    same = tt;
  }

  same_then : {A : Type 0} (a b : DataStat) (same : Bool) (x y : A)
      → same_fields a b ≡ same → cond {A = Option A} same (Some x) None ≡ Some y → (a ≡ b) × (x ≡ y)
  same_then a b true x y e f = (fields_same a b e, cc)
  same_then a b false x y e f = absurd cc

  same_or : {A : Type 0} (a b : DataStat) (same : Bool) (k : Option A) (y : A)
      → same_fields a b ≡ same → cond {A = Option A} same k None ≡ Some y → (a ≡ b) × (k ≡ Some y)
  same_or a b true k y e f = (fields_same a b e, f)
  same_or a b false k y e f = absurd cc

  with_step : (bytes : Option (List ℕ)) (fields : DataStat) (x : Happening) (past : Past) (w : Word Answer)
      → word_data path x ≡ w → data_by w fields (data_with path fields past) ≡ Some bytes
      → (data_with path fields past ≡ Some bytes → HasData path bytes fields past) → HasData path bytes fields (x ∷ past)
  with_step bytes fields x past (Says (Full b o)) e f ih =
      let s = same_then o fields (same_fields o fields) b bytes refl f in
      let g : GaveData path x b o = subst (λ w. Comes_from path x w) e (comes_from path x) in
      data_new bytes fields x past (subst (λ c. GaveData path x c fields) s.1 (subst (λ c. GaveData path x b c) s.0 g))
  with_step bytes fields x past (Says (Known o)) e f ih =
      let s = same_or o fields (same_fields o fields) (data_with path fields past) bytes refl f in
      let g : SaysSame path o x = subst (λ w. Comes_from path x w) e (comes_from path x) in
      data_more bytes fields x past
      (subst (λ w. Means Data path x w) e (data_means path x)).1 (subst (λ c. SaysSame path c x) s.0 g) (ih s.1)
  with_step bytes fields x past (Says Absent) e f ih = absurd cc
  with_step bytes fields x past Ends e f ih = absurd cc
  with_step bytes fields x past Empties e f ih = absurd cc
  with_step bytes fields x past Nothing e f ih =
      let m = subst (λ w. Means Data path x w) e (data_means path x) in
      data_more bytes fields x past m.0 (not_said path fields x m.1) (ih f)

  with_has : (bytes : Option (List ℕ)) (fields : DataStat) (past : Past)
      → data_with path fields past ≡ Some bytes → HasData path bytes fields past
  with_has bytes fields [] f = absurd cc
  with_has bytes fields (x ∷ past) f = with_step bytes fields x past (word_data path x) refl f (with_has bytes fields past)

  -- the answer with data, marked good
  abbrev whole_good : Option (List ℕ) → DataStat → Option (Kept Answer)
  whole_good bytes fields = Some (record { answer = Full bytes fields; mark = Good })

  abbrev mark_in : Option (Kept Answer) → Mark
  mark_in None = Stale
  mark_in (Some kept) = kept.mark

  abbrev answer_in : Option (Kept Answer) → Answer
  answer_in None = Absent
  answer_in (Some kept) = kept.answer

  in_with : (bytes : Option (List ℕ)) (fields o : DataStat) (k : Option (Option (List ℕ)))
      → good (with_data o k) ≡ whole_good bytes fields → (o ≡ fields) × (k ≡ Some bytes)
  in_with bytes fields o None e = absurd (let f = ap answer_in e in cc)
  in_with bytes fields o (Some b) e = let f = ap answer_in e in (cc, cc)

  not_stale : (bytes : Option (List ℕ)) (fields : DataStat) (k : Option (Kept Answer)) → stale k ≡ whole_good bytes fields → ⊥
  not_stale bytes fields None e = cc
  not_stale bytes fields (Some kept) e = let f = ap mark_in e in cc

  unforgotten : (k : Option (Kept Answer)) (bytes : Option (List ℕ)) (fields : DataStat)
      → without_stale k ≡ whole_good bytes fields → k ≡ whole_good bytes fields
  unforgotten None bytes fields e = absurd cc
  unforgotten (Some kept) bytes fields e = by kept.mark e
    where
      by : (m : Mark) → without_stale (Some (record { answer = kept.answer; mark = m })) ≡ whole_good bytes fields
          → Some (record { answer = kept.answer; mark = m }) ≡ whole_good bytes fields
      by Good e = e
      by Stale e = absurd cc

  unless_same : (x : Happening) (k : Option (Kept Answer)) (bytes : Option (List ℕ)) (fields : DataStat)
      → unless_forgot x k ≡ whole_good bytes fields → k ≡ whole_good bytes fields
  unless_same Forgot k bytes fields e = unforgotten k bytes fields e
  unless_same _ k bytes fields e = e

  has_step : (bytes : Option (List ℕ)) (fields : DataStat) (x : Happening) (past : Past) (w : Word Answer)
      → word_data path x ≡ w → kept_by w (λ answer. good_answer path answer past) x (kept_data path past) ≡ whole_good bytes fields
      → (kept_data path past ≡ whole_good bytes fields → HasData path bytes fields past) → HasData path bytes fields (x ∷ past)
  has_step bytes fields x past (Says Absent) e f ih = absurd (let g = ap answer_in f in cc)
  has_step bytes fields x past (Says (Known o)) e f ih =
      let s = in_with bytes fields o (data_with path o past) f in
      let g : SaysSame path o x = subst (λ w. Comes_from path x w) e (comes_from path x) in
      data_more bytes fields x past (subst (λ w. Means Data path x w) e (data_means path x)).1 (subst (λ c. SaysSame path c x) s.0 g)
      (with_has bytes fields past (ap (λ c. data_with path c past) (sym s.0) ∙ s.1))
  has_step bytes fields x past (Says (Full b o)) e f ih =
      let g : GaveData path x b o = subst (λ w. Comes_from path x w) e (comes_from path x) in
      let h = ap answer_in f in
      let sb : b ≡ bytes = cc in
      let so : o ≡ fields = cc in
      data_new bytes fields x past (subst (λ c. GaveData path x c fields) sb (subst (λ c. GaveData path x b c) so g))
  has_step bytes fields x past Ends e f ih = absurd (not_stale bytes fields (kept_data path past) f)
  has_step bytes fields x past Empties e f ih = absurd cc
  has_step bytes fields x past Nothing e f ih =
      let m = subst (λ w. Means Data path x w) e (data_means path x) in
      data_more bytes fields x past m.0 (not_said path fields x m.1) (ih (unless_same x (kept_data path past) bytes fields f))

  pub has_data : (bytes : Option (List ℕ)) (fields : DataStat) (past : Past)
      → kept_data path past ≡ whole_good bytes fields → HasData path bytes fields past
  has_data bytes fields [] e = absurd cc
  has_data bytes fields (x ∷ past) e = has_step bytes fields x past (word_data path x) refl e (has_data bytes fields past)

  -- ---- the other way

  -- kept whole, and so would be seven fields that come
  abbrev Whole : Option (List ℕ) → DataStat → Past → Type 0
  Whole bytes fields past = (kept_data path past ≡ whole_good bytes fields) × (data_with path fields past ≡ Some bytes)

  whole_first : (bytes : Option (List ℕ)) (fields : DataStat) (t : ℕ) (z : ℤ) (stat : Stat) (before : Past)
      → data_stat_of stat ≡ fields → Whole bytes fields (Took (Replies t (GetData path true) z (Read bytes stat)) ∷ before)
  whole_first bytes fields t z stat before e =
      let w : word_data path (Took (Replies t (GetData path true) z (Read bytes stat))) ≡ Says (Full bytes (data_stat_of stat)) =
      says_here path path (Full bytes (data_stat_of stat)) refl in (
        ap (λ v. kept_by v (λ answer. good_answer path answer before) (Took (Replies t (GetData path true) z (Read bytes stat)))
            (kept_data path before)) w ∙ ap (λ f. whole_good bytes f) e,
        ap (λ v. data_by v fields (data_with path fields before)) w
            ∙ ap (λ f. data_by (Says (Full bytes f)) fields (data_with path fields before)) e
            ∙ ap (λ b. cond b (Some bytes) None) (fields_same-refl fields),
      )

  found_word : (fields : DataStat) (x : Happening) → LeavesAt Data path x → SaysSame path fields x → word_data path x ≡ Says (Known fields)
  found_word fields (Took (Replies t q z r)) l s = let f = s l in ap (λ r. word_data path (Took (Replies t q z r))) f.1
      ∙ by q (subst (λ r. LeavesWatch Data path q r) f.1 l) ∙ ap (λ c. Says (Known c)) f.2
    where
      by : (q : Question) → LeavesWatch Data path q (Found (s l).0)
          → word_data path (Took (Replies t q z (Found (s l).0))) ≡ Says (Known (data_stat_of (s l).0))
      by (Exists at true) e = says_here at path (Known (data_stat_of (s l).0)) e
      by (Exists at false) e = absurd e
      by (GetData at true) e = absurd e
      by (GetData at false) e = absurd e
      by (GetChildren at w) e = absurd e
      by (SetData at) e = absurd e
      by (Create at) e = absurd e
      by (Delete at) e = absurd e
      by Close e = absurd e
      by Raw e = absurd e
  found_word fields _ l s = absurd l

  good_stays : (x : Happening) (bytes : Option (List ℕ)) (fields : DataStat)
      → unless_forgot x (whole_good bytes fields) ≡ whole_good bytes fields
  good_stays Forgot bytes fields = refl
  good_stays _ bytes fields = refl

  whole_more : (bytes : Option (List ℕ)) (fields : DataStat) (x : Happening) (past : Past) (w : Word Answer)
      → word_data path x ≡ w → ¬ EndsGood Data path x → SaysSame path fields x → Whole bytes fields past
      → (kept_by w (λ answer. good_answer path answer past) x (kept_data path past) ≡ whole_good bytes fields)
      × (data_by w fields (data_with path fields past) ≡ Some bytes)
  whole_more bytes fields x past (Says a) e n s m =
      let known : Says a ≡ Says (Known fields) =
      sym e ∙ found_word fields x (subst (λ w. Means Data path x w) e (data_means path x)).0 s in (
        ap (λ v. kept_by v (λ answer. good_answer path answer past) x (kept_data path past)) known
            ∙ ap (λ k. good (with_data fields k)) m.1,
        ap (λ v. data_by v fields (data_with path fields past)) known
            ∙ ap (λ b. cond b (data_with path fields past) None) (fields_same-refl fields) ∙ m.1,
      )
  whole_more bytes fields x past Ends e n s m = absurd (n (subst (λ w. Means Data path x w) e (data_means path x)).0)
  whole_more bytes fields x past Empties e n s m = absurd (n (subst (λ w. Means Data path x w) e (data_means path x)).0)
  whole_more bytes fields x past Nothing e n s m = (ap (unless_forgot x) m.0 ∙ good_stays x bytes fields, m.1)

  whole_through : (bytes : Option (List ℕ)) (fields : DataStat) (since : List Happening) (t : ℕ) (z : ℤ) (stat : Stat) (before : Past)
      → data_stat_of stat ≡ fields → AllByRecursion (λ h. ¬ EndsGood Data path h) since → AllByRecursion (SaysSame path fields) since
      → Whole bytes fields (since ++ Took (Replies t (GetData path true) z (Read bytes stat)) ∷ before)
  whole_through bytes fields [] t z stat before e q s = whole_first bytes fields t z stat before e
  whole_through bytes fields (x ∷ since) t z stat before e q s =
      whole_more bytes fields x (since ++ Took (Replies t (GetData path true) z (Read bytes stat)) ∷ before) (word_data path x) refl q.0 s.0
      (whole_through bytes fields since t z stat before e q.1 s.1)

  pub data_kept : (bytes : Option (List ℕ)) (fields : DataStat) (past : Past)
      → HasData path bytes fields past → kept_data path past ≡ whole_good bytes fields
  data_kept bytes fields past m =
      ap (kept_data path) m.whole ∙ (whole_through bytes fields m.since m.ticket m.zxid m.stat m.before m.gave m.quiet m.same).0

-- ---- the last seen zxid

module _ (start : Start) where
  counts_more : (z : ℤ) (x : Happening) (past : Past) → Counts z past → Counts z (x ∷ past)
  counts_more z x past (inl c) = inl (c.0, c.1, c.2, inr c.3)
  counts_more z x past (inr c) = inr (inr c)

  -- a happening that brings no zxid
  abbrev Brings : ℤ → Happening → Type 0
  Brings z x = ((t : ℕ) × (q : Question) × (r : Result) × (Took (Replies t q z r) ≡ x)) ⊎ (Took (Watches_set true z) ≡ x)

  counts_split : (z : ℤ) (x : Happening) (past : Past) → Counts z (x ∷ past) → Brings z x ⊎ Counts z past
  counts_split z x past (inl c) = by c.3
    where
      by : Among (Took (Replies c.0 c.1 z c.2)) (x ∷ past) → Brings z x ⊎ Counts z past
      by (inl e) = inl (inl (c.0, c.1, c.2, e))
      by (inr a) = inr (inl (c.0, c.1, c.2, a))
  counts_split z x past (inr (inl e)) = inl (inr e)
  counts_split z x past (inr (inr a)) = inr (inr a)

  le_self : (a : ℤ) → a ≤ℤ a
  le_self a = grind (arith, ints)

  le_later : (a b c : ℤ) → a ≤ℤ b → a ≤ℤ int_max c b
  le_later a b c p = grind (arith, ints)

  later_first : (a b : ℤ) → a ≤ℤ int_max a b
  later_first a b = grind (arith, ints)

  later_one : (a b : ℤ) → (int_max a b ≡ a) ⊎ (int_max a b ≡ b)
  later_one a b = by (int_lt b a)
    where
      by : (t : Bool) → (cond t a b ≡ a) ⊎ (cond t a b ≡ b)
      by true = inl refl
      by false = inr refl

  none_brought : (x : Happening) (past : Past) (last : ℤ) → ((z : ℤ) → Brings z x → ⊥)
      → IsLastSeen start past last → IsLastSeen start (x ∷ past) last
  none_brought x past last n m = record {
    saved = m.saved;
    counted = λ z c. elim (counts_split z x past c) [ inl b ↦ absurd (n z b) | inr d ↦ m.counted z d ];
    one = elim m.one [ inl e ↦ inl e | inr c ↦ inr (counts_more last x past c) ];
  }

  one_brought : (x : Happening) (past : Past) (last zxid : ℤ) → ((z : ℤ) → Brings z x → z ≡ zxid) → Counts zxid (x ∷ past)
      → IsLastSeen start past last → IsLastSeen start (x ∷ past) (int_max zxid last)
  one_brought x past last zxid only here m = record {
    saved = le_later start.last last zxid m.saved;
    counted = λ z c. elim (counts_split z x past c) [
      | inl b ↦
          subst (λ t. t ≤ℤ int_max zxid last) (sym (only z b)) (later_first zxid last)
      | inr d ↦ le_later z last zxid (m.counted z d)
    ];
    one = elim (later_one zxid last) [
      | inl e ↦ inr (subst (λ t. Counts t (x ∷ past)) (sym e) here)
      | inr e ↦ elim m.one [ inl f ↦ inl (e ∙ f) | inr c ↦ inr (subst (λ t. Counts t (x ∷ past)) (sym e) (counts_more last x past c)) ]
    ];
  }

  reply_only : (t : ℕ) (q : Question) (zxid : ℤ) (r : Result) (z : ℤ) → Brings z (Took (Replies t q zxid r)) → z ≡ zxid
  reply_only t q zxid r z (inl b) = let e = b.3 in cc
  reply_only t q zxid r z (inr b) = absurd cc

  part_only : (zxid z : ℤ) → Brings z (Took (Watches_set true zxid)) → z ≡ zxid
  part_only zxid z (inl b) = absurd (let e = b.3 in cc)
  part_only zxid z (inr b) = cc

  seen_message : (m : Message) (past : Past) → IsLastSeen start past (last_of start past)
      → IsLastSeen start (Took m ∷ past) (last_of start (Took m ∷ past))
  seen_message (Replies t q zxid r) past s =
      one_brought (Took (Replies t q zxid r)) past (last_of start past) zxid (reply_only t q zxid r) (inl (t, q, r, inl refl)) s
  seen_message (Watches_set true zxid) past s =
      one_brought (Took (Watches_set true zxid)) past (last_of start past) zxid (part_only zxid) (inr (inl refl)) s
  seen_message (Watches_set false zxid) past s =
      none_brought (Took (Watches_set false zxid)) past (last_of start past) (λ z b. elim b [ inl c ↦ (let e = c.3 in cc) | inr c ↦ cc ]) s
  seen_message (Accepted w) past s =
      none_brought (Took (Accepted w)) past (last_of start past) (λ z b. elim b [ inl c ↦ (let e = c.3 in cc) | inr c ↦ cc ]) s
  seen_message Expiry past s =
      none_brought (Took Expiry) past (last_of start past) (λ z b. elim b [ inl c ↦ (let e = c.3 in cc) | inr c ↦ cc ]) s
  seen_message (Notifies e p) past s =
      none_brought (Took (Notifies e p)) past (last_of start past) (λ z b. elim b [ inl c ↦ (let e = c.3 in cc) | inr c ↦ cc ]) s
  seen_message Pong past s =
      none_brought (Took Pong) past (last_of start past) (λ z b. elim b [ inl c ↦ (let e = c.3 in cc) | inr c ↦ cc ]) s
  seen_message Skipped past s =
      none_brought (Took Skipped) past (last_of start past) (λ z b. elim b [ inl c ↦ (let e = c.3 in cc) | inr c ↦ cc ]) s

  pub is_last_seen : (past : Past) → IsLastSeen start past (last_of start past)
  is_last_seen [] = record { saved = le_self start.last; counted = λ z c. elim c [ inl d ↦ absurd d.3 | inr d ↦ absurd d ]; one = inl refl }
  is_last_seen (Took m ∷ past) = seen_message m past (is_last_seen past)
  is_last_seen (x ∷ past) =
      none_brought x past (last_of start past) (λ z b. elim b [ inl c ↦ (let e = c.3 in cc) | inr c ↦ cc ]) (is_last_seen past)
