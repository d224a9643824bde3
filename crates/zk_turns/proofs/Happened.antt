-- After each happening the view is what the look back gives: field by field, since two views with the same fields are one.
use Rattle.zk_turns.specs.Past.{Asking, For_call, pending_for, Past, Happening, Began, Came, Took, Dropped, Lost, Asked, Denied, Pinged}
use Rattle.zk_turns.specs.Past.{Ticked, Forgot, Halted, Accepted, Expiry, Replies, Watches_set, Notifies, Pong, Skipped, is_talking}
use Rattle.zk_turns.specs.Past.{state_of, now_of, heard_of, sent_of, calls_sent, xid_of, questions, answered, lists_of}
use Rattle.std.proofs.Common.{◌≡◌, ℕ, zero, suc, ◌+◌, ◌%◌, ◌≤◌, ◌<◌, ◌≢◌, ℤ, Bool, true, false, cond, eqb, List, [], ◌∷◌, ◌++◌, map, drop}
use Rattle.std.proofs.Common.{length, refl, sym, ap, ◌∙◌, arith}
use Rattle.std.proofs.lemmas.List.{drop-append-le, map-append}
use Rattle.std.proofs.lemmas.Bool.Decides.{Decides-eqb}
use Rattle.zk_turns.specs.Turns.{Start}
use Rattle.zk_conversation.specs.Questions.{Question, Close}
use Rattle.zk_conversation.specs.Results.{Result}
use Rattle.zk_watches.specs.Lists.{Lists}
use Rattle.zk_watches.specs.Parts.{parts}
use Rattle.zk_conversation.specs.Pending.{next_xid}
use Rattle.zk_turns.specs.View.{View, view_at}
use Rattle.zk_turns.specs.Rule.{if_any, next, sent_now}
use Rattle.zk_turns.proofs.Registered.{reply_lists, notice_lists, empty_lists}
use Rattle.zk_turns.proofs.Cached.{reply_cache, notice_cache}

pub view_ext : (a b : View) → a.standing ≡ b.standing → a.saved ≡ b.saved → a.moments ≡ b.moments → a.pending ≡ b.pending → a.held ≡ b.held
    → a.xid ≡ b.xid → a.lists ≡ b.lists → a.cache ≡ b.cache → a.limits ≡ b.limits → a ≡ b
view_ext a b p q r s t u v w x = λ i. record {
  standing = p i;
  saved = q i;
  moments = r i;
  pending = s i;
  held = t i;
  xid = u i;
  lists = v i;
  cache = w i;
  limits = x i;
}

-- ---- questions

-- a call is sent only where the client talks, and a reply is taken only where one is awaited
abbrev pub MayHappen : Happening → Past → Type 0
MayHappen (Asked ticket question) past = (is_talking (state_of past) ≡ true) × (answered past ≤ length (questions past))
MayHappen (Took (Replies ticket question zxid result)) past = answered past < length (questions past)
MayHappen (Took (Watches_set last zxid)) past = answered past < length (questions past)
MayHappen _ past = Unit {0}

drop_one : (n : ℕ) (xs : List Asking) → drop 1 (map pending_for (drop n xs)) ≡ map pending_for (drop (suc n) xs)
drop_one zero [] = refl
drop_one zero (x ∷ xs) = refl
drop_one (suc n) [] = refl
drop_one (suc n) (x ∷ xs) = drop_one n xs

one_answered : (talks : Bool) (n : ℕ) (xs : List Asking)
    → drop 1 (map pending_for (cond talks (drop n xs) [])) ≡ map pending_for (cond talks (drop (suc n) xs) [])
one_answered true n xs = drop_one n xs
one_answered false n xs = refl

one_asked : (talks : Bool) (n : ℕ) (xs : List Asking) (x : Asking) → talks ≡ true → n ≤ length xs
    → map pending_for (cond talks (drop n xs) []) ++ pending_for x ∷ [] ≡ map pending_for (cond talks (drop n (xs ++ x ∷ [])) [])
one_asked true n xs x e le =
    sym (map-append pending_for (drop n xs) (x ∷ [])) ∙ ap (map pending_for) (sym (drop-append-le n xs (x ∷ []) le))
one_asked false n xs x e le = absurd cc

-- ---- xids

next_xid_is : (n : ℕ) → next_xid (n % 2147483647 + 1) ≡ suc n % 2147483647 + 1
next_xid_is n = by (eqb (n % 2147483647 + 1) 2147483647) refl
  where
    by : (b : Bool) → eqb (n % 2147483647 + 1) 2147483647 ≡ b → next_xid (n % 2147483647 + 1) ≡ suc n % 2147483647 + 1
    by true e =
        let same = (Decides-eqb (n % 2147483647 + 1) 2147483647).0 e in
        ap (λ b. cond b 1 (n % 2147483647 + 1 + 1)) e ∙ omega arith
    by false e =
        let other : n % 2147483647 + 1 ≢ 2147483647 = λ same. let t = (Decides-eqb (n % 2147483647 + 1) 2147483647).1 same in cc in
        ap (λ b. cond b 1 (n % 2147483647 + 1 + 1)) e ∙ omega arith

-- ---- the theorem

module _ (start : Start) where
  any_moments : (ps : List Lists) (past : Past) → if_any ps (view_at start past).moments (sent_now (view_at start past))
      ≡ record { now = now_of past; heard = heard_of past; sent = if_any ps (sent_of past) (now_of past) }
  any_moments [] past = refl
  any_moments (p ∷ ps) past = refl

  reply_next : (ticket : ℕ) (question : Question) (zxid : ℤ) (result : Result) (past : Past)
      → next (view_at start past) (Took (Replies ticket question zxid result))
      ≡ view_at start (Took (Replies ticket question zxid result) ∷ past)
  reply_next ticket Close zxid result past =
      view_ext _ _ refl refl refl refl refl refl
      (empty_lists (Took (Replies ticket Close zxid result)) past (λ q. refl) (λ q. refl))
      refl refl
  reply_next ticket question zxid result past =
      view_ext _ _ refl refl refl (one_answered (is_talking (state_of past)) (answered past) (questions past)) refl refl
      (reply_lists ticket question zxid result past (λ n. n))
      (reply_cache start ticket question zxid result past (λ n. n)) refl

  pub one_happening : (happening : Happening) (past : Past)
      → MayHappen happening past → next (view_at start past) happening ≡ view_at start (happening ∷ past)
  one_happening Began past may = refl
  one_happening (Came byte) past may = refl
  one_happening (Dropped fault) past may = refl
  one_happening Lost past may = refl
  one_happening (Denied ticket why) past may = refl
  one_happening Pinged past may = refl
  one_happening (Ticked moment) past may = refl
  one_happening Forgot past may = refl
  one_happening Halted past may =
      view_ext _ _ refl refl refl refl refl refl (empty_lists Halted past (λ q. refl) (λ q. refl)) refl refl
  one_happening (Asked ticket question) past may =
      view_ext _ _ refl refl refl
      (one_asked (is_talking (state_of past)) (answered past) (questions past) (For_call (xid_of past) ticket question) may.0 may.1)
      refl (next_xid_is (calls_sent past)) refl refl refl
  one_happening (Took (Accepted welcome)) past may =
      view_ext _ _ refl refl (any_moments (parts (lists_of past)) past) refl refl refl refl refl refl
  one_happening (Took Expiry) past may =
      view_ext _ _ refl refl refl refl refl refl (empty_lists (Took Expiry) past (λ q. refl) (λ q. refl)) refl refl
  one_happening (Took (Replies ticket question zxid result)) past may = reply_next ticket question zxid result past
  one_happening (Took (Watches_set true zxid)) past may =
      view_ext _ _ refl refl refl (one_answered (is_talking (state_of past)) (answered past) (questions past)) refl refl refl refl refl
  one_happening (Took (Watches_set false zxid)) past may =
      view_ext _ _ refl refl refl (one_answered (is_talking (state_of past)) (answered past) (questions past)) refl refl refl refl refl
  one_happening (Took (Notifies event path)) past may =
      view_ext _ _ refl refl refl refl refl refl (notice_lists event path past) (notice_cache start event path past) refl
  one_happening (Took Pong) past may = refl
  one_happening (Took Skipped) past may = refl
