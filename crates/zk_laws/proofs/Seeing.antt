-- What is good, and the last seen zxid, are the same by the look back over a past and by the items of a run: by induction on the past.
use Rattle.std.specs.FinSet as set
use Rattle.std.proofs.Common.{◌≡◌, ℕ, ◌≤◌, ◌<◌, ℤ, pos, negsuc, Bool, true, false, cond, ◌&&◌, List, [], ◌∷◌, Option, Some, None, refl, sym}
use Rattle.std.proofs.Common.{ap, ◌∙◌, arith, ◌⊎◌, inl, inr}
use Rattle.std.specs.Prelude.{bytes_eq, if◌then◌else◌, max, int_lt}
use Rattle.std.proofs.lemmas.Bool.{le-ltb, lt-ltb, cases_lt}
use Rattle.zk_nodes.specs.Path.{Text}
use Rattle.zk_nodes.specs.declared.side.Side.TheVariants.{Data, Child}
use Rattle.zk_nodes.specs.declared.data_stat.DataStat.{DataStat}
use Rattle.zk_turns.specs.Turns.{Start}
use Rattle.zk_conversation.specs.Questions.{Question, Exists, GetData, GetChildren, Close}
use Rattle.zk_conversation.specs.Results.{Result, NoNode, Found, Read, Listing}
use Rattle.zk_nodes.specs.DataStats.{data_stat_of}
use Rattle.zk_turns.specs.Past.{Happening, Began, Dropped, Forgot, Past, Skipped, Expiry, last_of, Word, Says, Ends, Empties, Nothing}
use Rattle.zk_turns.specs.Past.{kept_by, kept_data, kept_names, good_answer, names_of, Took as Takes_in, Lost as Loses_it}
use Rattle.zk_turns.specs.Past.{Halted as Halts_now, Message as Reading, Accepted as Accepts, Replies as Answers_call}
use Rattle.zk_turns.specs.Past.{Watches_set as Sets_watches, Notifies as Tells, Pong as Echo}
use Rattle.std.specs.Int.{int_max}
use Rattle.zk_cache.specs.declared.held.Mark.{Mark}
use Rattle.zk_cache.specs.Kept.{same_fields, without_stale, Answer as Kept_answer, Absent as Kept_absent, Known as Kept_known}
use Rattle.zk_cache.specs.Kept.{Full as Kept_full, Names as Kept_names, merged}
use Rattle.zk_cache.specs.declared.held.Kept.{Kept}
use Rattle.zk_cache.specs.declared.held.Mark.TheVariants.{Good, Stale}
use Rattle.zk_records.specs.Events.{concerns}
use Rattle.zk_turns.proofs.Lists.{same_text, bytes_eq-refl}
use Rattle.zk_turns.proofs.Cached.{fields_same, merged_is}
use Rattle.zk_laws.proofs.Log.{Took, last, refreshed, good, Answer, Known, Full, Names}
use Rattle.zk_laws.specs.Messages.{Replies, from_zero}
use Rattle.zk_laws.proofs.Seen.{seen, node_answer, names_answer, if_good}
use Rattle.zk_laws.proofs.Basics.{text_eq-true, text_eq-refl}
use Rattle.zk_laws.proofs.Ahead.{max_zero}
use Rattle.zk_laws.proofs.AnswerMoves.{fields_eq-refl}
use Rattle.zk_turns.proofs.Words.{notice_word}

-- ---- texts

bool_same : (a b : Bool) → (a ≡ true → b ≡ true) → (b ≡ true → a ≡ true) → a ≡ b
bool_same true true f g = refl
bool_same true false f g = sym (f refl)
bool_same false true f g = g refl
bool_same false false f g = refl

pub text_same : (a b : Text) → bytes_eq a b ≡ bytes_eq b a
text_same a b = bool_same (bytes_eq a b) (bytes_eq b a)
    (λ e. ap (λ t. bytes_eq b t) (text_eq-true a b e) ∙ bytes_eq-refl b)
    (λ e. ap (λ t. bytes_eq a t) (same_text b a e) ∙ text_eq-refl a)

-- ---- the last seen zxid

max_less : (m n : ℕ) → m ≤ n → n ≡ max m n
max_less m n le = omega arith

max_more : (m n : ℕ) → n ≤ m → m ≡ max m n
max_more m n le = omega arith

from_later : (a b : ℤ) → from_zero (int_max a b) ≡ max (from_zero a) (from_zero b)
from_later (pos m) (pos n) = by (cases_lt n m)
  where
    by : (n < m) ⊎ (m ≤ n) → from_zero (int_max (pos m) (pos n)) ≡ max m n
    by (inl less) = ap (λ b. from_zero (cond b (pos m) (pos n))) (lt-ltb n m less) ∙ max_more m n (omega arith)
    by (inr more) = ap (λ b. from_zero (cond b (pos m) (pos n))) (le-ltb n m more) ∙ max_less m n more
from_later (pos m) (negsuc n) = omega arith
from_later (negsuc m) (pos n) = omega arith
from_later (negsuc m) (negsuc n) = by (int_lt (negsuc n) (negsuc m))
  where
    by : (b : Bool) → from_zero (cond b (negsuc m) (negsuc n)) ≡ 0
    by true = refl
    by false = refl

last_more : (start : Start) (past : Past) → last (seen start past) ≡ from_zero (last_of start past)
    → max 0 (last (seen start past)) ≡ from_zero (last_of start past)
last_more start past ih = max_zero (last (seen start past)) ∙ ih

last_later : (start : Start) (z : ℤ) (past : Past) → last (seen start past) ≡ from_zero (last_of start past)
    → max (from_zero z) (last (seen start past)) ≡ from_zero (int_max z (last_of start past))
last_later start z past ih = ap (λ n. max (from_zero z) n) ih ∙ sym (from_later z (last_of start past))

-- The last seen zxid of a run is that of the past.
pub last_is : (start : Start) (past : Past) → last (seen start past) ≡ from_zero (last_of start past)
last_is start [] = omega arith
last_is start (Takes_in (Answers_call ticket q z r) ∷ past) = last_later start z past (last_is start past)
last_is start (Takes_in (Sets_watches true z) ∷ past) = last_later start z past (last_is start past)
last_is start (Takes_in (Sets_watches false z) ∷ past) = last_more start past (last_is start past)
last_is start (Takes_in (Accepts w) ∷ past) = last_more start past (last_is start past)
last_is start (Takes_in Expiry ∷ past) = last_more start past (last_is start past)
last_is start (Takes_in (Tells e p) ∷ past) = last_more start past (last_is start past)
last_is start (Takes_in Echo ∷ past) = last_more start past (last_is start past)
last_is start (Takes_in Skipped ∷ past) = last_is start past
last_is start (Dropped f ∷ past) = last_more start past (last_is start past)
last_is start (Loses_it ∷ past) = last_more start past (last_is start past)
last_is start (Halts_now ∷ past) = last_more start past (last_is start past)
last_is start (Forgot ∷ past) = last_more start past (last_is start past)
last_is start (Began ∷ past) = last_more start past (last_is start past)
last_is start (_ ∷ past) = last_is start past

-- ---- what is good of a node

fields_turned : (a b : DataStat) → same_fields a b ≡ same_fields b a
fields_turned a b = bool_same (same_fields a b) (same_fields b a)
    (λ e. ap (λ t. same_fields b t) (fields_same a b e) ∙ fields_eq-refl b)
    (λ e. ap (λ t. same_fields a t) (fields_same b a e) ∙ fields_eq-refl a)

refreshed_as : (old new : DataStat) (bytes : Option (List ℕ)) (b : Bool) → same_fields old new ≡ b
    → (if same_fields new old then Full bytes new else Known new)
    ≡ node_answer (if same_fields old new then Kept_full bytes old else Kept_known new)
refreshed_as old new bytes true e =
    ap (λ t. cond t (Full bytes new) (Known new)) (fields_turned new old ∙ e)
    ∙ ap (Full bytes) (sym (fields_same old new e))
    ∙ ap (λ t. node_answer (cond t (Kept_full bytes old) (Kept_known new))) (sym e)
refreshed_as old new bytes false e =
    ap (λ t. cond t (Full bytes new) (Known new)) (fields_turned new old ∙ e)
    ∙ ap (λ t. node_answer (cond t (Kept_full bytes old) (Kept_known new))) (sym e)

refreshed_is : (kept : Option (Kept Kept_answer)) (answer : Kept_answer)
    → refreshed (node_answer answer) (if_good node_answer kept) ≡ node_answer (merged kept answer)
refreshed_is None Kept_absent = refl
refreshed_is None (Kept_known f) = refl
refreshed_is None (Kept_full b f) = refl
refreshed_is (Some kept) Kept_absent = refl
refreshed_is (Some kept) (Kept_full b f) = refl
refreshed_is (Some kept) (Kept_known f) = by kept.answer kept.mark
  where
    by : (a : Kept_answer) (m : Mark) → refreshed (Known f) (if_good node_answer (Some (record { answer = a; mark = m })))
        ≡ node_answer (merged (Some (record { answer = a; mark = m })) (Kept_known f))
    by Kept_absent Good = refl
    by (Kept_known k) Good = refl
    by (Kept_full b k) Good = refreshed_as k f b (same_fields k f) refl
    by Kept_absent Stale = refl
    by (Kept_known k) Stale = refl
    by (Kept_full b k) Stale = refl

good_after : (path : Text) (answer : Kept_answer) (happening : Happening) (past : Past) (k : Option Answer) (b c : Bool)
    → b ≡ c → k ≡ if_good node_answer (kept_data path past)
    → (if b then Some (refreshed (node_answer answer) k) else k)
    ≡ if_good node_answer (kept_by (cond c (Says answer) Nothing) (λ a. good_answer path a past) Began (kept_data path past))
good_after path answer happening past k true true e ih =
    ap (λ t. Some (refreshed (node_answer answer) t)) ih ∙ ap Some (refreshed_is (kept_data path past) answer)
    ∙ ap (λ t. Some (node_answer t)) (merged_is path answer past)
good_after path answer happening past k false false e ih = ih
good_after path answer happening past k true false e ih = absurd cc
good_after path answer happening past k false true e ih = absurd cc

ended_after : {A : Type 0} (word : A → Answer) (kept : Option (Kept A)) (k : Option Answer) (b c : Bool) (known : A → A)
    → b ≡ c → k ≡ if_good word kept
    → (if b then None else k) ≡ if_good word (kept_by (cond c Ends Nothing) known Began kept)
ended_after word None k true true known e ih = refl
ended_after word (Some kept) k true true known e ih = refl
ended_after word kept k false false known e ih = ih
ended_after word kept k true false known e ih = absurd cc
ended_after word kept k false true known e ih = absurd cc

not_forgot : {A : Type 0} (word : A → Answer) (w : Word A) (known : A → A) (reading : Reading) (kept : Option (Kept A))
    → if_good word (kept_by w known Began kept) ≡ if_good word (kept_by w known (Takes_in reading) kept)
not_forgot word (Says a) known reading kept = refl
not_forgot word Ends known reading kept = refl
not_forgot word Empties known reading kept = refl
not_forgot word Nothing known reading kept = refl

forgot_good : {A : Type 0} (word : A → Answer) (kept : Option (Kept A)) → if_good word kept ≡ if_good word (without_stale kept)
forgot_good word None = refl
forgot_good {A} word (Some kept) = by kept.mark
  where
    by : (m : Mark) → if_good word (Some (record { answer = kept.answer; mark = m }))
        ≡ if_good word (without_stale (Some (record { answer = kept.answer; mark = m })))
    by Good = refl
    by Stale = refl

reply_node : (start : Start) (path : Text) (ticket : ℕ) (q : Question) (z : ℤ) (r : Result) (past : Past)
    → good Data path (seen start past) ≡ if_good node_answer (kept_data path past)
    → good Data path (Took (Replies q (from_zero z) r) ∷ seen start past)
    ≡ if_good node_answer (kept_data path (Takes_in (Answers_call ticket q z r) ∷ past))
reply_node start path ticket Close z r past ih = refl
reply_node start path ticket (Exists at true) z NoNode past ih =
    good_after path Kept_absent Halts_now past (good Data path (seen start past)) (bytes_eq path at)
    (bytes_eq at path) (text_same path at) ih
    ∙ not_forgot node_answer (cond (bytes_eq at path) (Says Kept_absent) Nothing) (λ a. good_answer path a past)
    (Answers_call ticket (Exists at true) z NoNode) (kept_data path past)
reply_node start path ticket (Exists at true) z (Found stat) past ih =
    good_after path (Kept_known (data_stat_of stat)) Halts_now past (good Data path (seen start past)) (bytes_eq path at)
    (bytes_eq at path) (text_same path at) ih
    ∙ not_forgot node_answer (cond (bytes_eq at path) (Says (Kept_known (data_stat_of stat))) Nothing) (λ a. good_answer path a past)
    (Answers_call ticket (Exists at true) z (Found stat)) (kept_data path past)
reply_node start path ticket (GetData at true) z (Read bytes stat) past ih =
    good_after path (Kept_full bytes (data_stat_of stat)) Halts_now past (good Data path (seen start past)) (bytes_eq path at)
    (bytes_eq at path) (text_same path at) ih
    ∙ not_forgot node_answer (cond (bytes_eq at path) (Says (Kept_full bytes (data_stat_of stat))) Nothing) (λ a. good_answer path a past)
    (Answers_call ticket (GetData at true) z (Read bytes stat)) (kept_data path past)
reply_node start path ticket (GetChildren at true) z (Listing names stat) past ih = ih
reply_node start path ticket _ z _ past ih = ih

and_same : (a b c : Bool) → b ≡ c → (a && b) ≡ (a && c)
and_same a b c e = ap (λ t. a && t) e

-- What is good of a node in a run is what is kept and marked good.
pub good_node : (start : Start) (path : Text) (past : Past) → good Data path (seen start past) ≡ if_good node_answer (kept_data path past)
good_node start path [] = refl
good_node start path (Takes_in (Answers_call ticket q z r) ∷ past) = reply_node start path ticket q z r past (good_node start path past)
good_node start path (Takes_in (Tells event at) ∷ past) =
    ended_after node_answer (kept_data path past) (good Data path (seen start past)) (concerns event Data && bytes_eq path at)
    (concerns event Data && bytes_eq at path) (λ a. good_answer path a past) (and_same (concerns event Data) _ _ (text_same path at))
    (good_node start path past)
    ∙ not_forgot node_answer (notice_word (concerns event Data) at path) (λ a. good_answer path a past)
    (Tells event at) (kept_data path past)
good_node start path (Takes_in Expiry ∷ past) = refl
good_node start path (Halts_now ∷ past) = refl
good_node start path (Forgot ∷ past) = good_node start path past ∙ forgot_good node_answer (kept_data path past)
good_node start path (Takes_in _ ∷ past) = good_node start path past
good_node start path (_ ∷ past) = good_node start path past

-- ---- what is good of the children

names_after : (path : Text) (names : List Text) (pzxid : ℤ) (kept : Option (Kept Kept_names)) (k : Option Answer) (b c : Bool)
    → b ≡ c → k ≡ if_good names_answer kept
    → (if b then Some (refreshed (Names (set.from_list names) pzxid) k) else k)
    ≡ if_good names_answer (kept_by (cond c (Says (record { names = set.from_list names; pzxid = pzxid })) Nothing) (λ n. n) Began kept)
names_after path names pzxid kept k true true e ih = refl
names_after path names pzxid kept k false false e ih = ih
names_after path names pzxid kept k true false e ih = absurd cc
names_after path names pzxid kept k false true e ih = absurd cc

reply_names : (start : Start) (path : Text) (ticket : ℕ) (q : Question) (z : ℤ) (r : Result) (past : Past)
    → (good Child path (seen start past)) ≡ if_good names_answer (kept_names path past)
    → (good Child path (Took (Replies q (from_zero z) r) ∷ seen start past))
    ≡ if_good names_answer (kept_names path (Takes_in (Answers_call ticket q z r) ∷ past))
reply_names start path ticket Close z r past ih = refl
reply_names start path ticket (Exists at true) z NoNode past ih = ih
reply_names start path ticket (Exists at true) z (Found stat) past ih = ih
reply_names start path ticket (GetData at true) z (Read bytes stat) past ih = ih
reply_names start path ticket (GetChildren at true) z (Listing names stat) past ih =
    names_after path names stat.pzxid (kept_names path past) (good Child path (seen start past)) (bytes_eq path at)
    (bytes_eq at path) (text_same path at) ih
    ∙ not_forgot names_answer (cond (bytes_eq at path) (Says (names_of names stat)) Nothing) (λ n. n)
    (Answers_call ticket (GetChildren at true) z (Listing names stat)) (kept_names path past)
reply_names start path ticket _ z _ past ih = ih

-- What is good of the children in a run, in order and each once, is what is kept and marked good.
pub good_names : (start : Start) (path : Text) (past : Past)
    → (good Child path (seen start past)) ≡ if_good names_answer (kept_names path past)
good_names start path [] = refl
good_names start path (Takes_in (Answers_call ticket q z r) ∷ past) = reply_names start path ticket q z r past (good_names start path past)
good_names start path (Takes_in (Tells event at) ∷ past) =
    ended_after names_answer (kept_names path past) (good Child path (seen start past)) (concerns event Child && bytes_eq path at)
    (concerns event Child && bytes_eq at path) (λ n. n) (and_same (concerns event Child) _ _ (text_same path at))
    (good_names start path past)
    ∙ not_forgot names_answer (notice_word (concerns event Child) at path) (λ n. n) (Tells event at) (kept_names path past)
good_names start path (Takes_in Expiry ∷ past) = refl
good_names start path (Halts_now ∷ past) = refl
good_names start path (Forgot ∷ past) = good_names start path past ∙ forgot_good names_answer (kept_names path past)
good_names start path (Takes_in _ ∷ past) = good_names start path past
good_names start path (_ ∷ past) = good_names start path past
