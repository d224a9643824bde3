-- What is told and answered about other paths changes nothing of what is ahead of a path: message by message, since only what tells of the
-- path ends what is good there.
use Rattle.std.proofs.Common.{ℕ, pos, ◌≡◌, Bool, true, false, ◌&&◌, ◌||◌, max, List, [], ◌∷◌, ◌++◌, refl, ap, sym, ◌∙◌, subst, inl, inr}
use Rattle.std.proofs.Common.{◌⊎◌, arith, Option, Some, None, is_some, cond, map, suc, nat_lt, append-nil}
use Rattle.std.proofs.lemmas.Bool.Decides.{nat_tests}
use Rattle.std.proofs.lemmas.Bool.{and_parts, and_from, and_right, or_left, or_right, or_cases}
use Rattle.std.specs.Prelude.{ℤ, bytes_eq}
use Rattle.zk_nodes.specs.Path.{Text, NodePath, path_of}
use Rattle.zk_nodes.specs.History.{Transaction, History, IsHistory}
use Rattle.zk_nodes.specs.declared.side.Side.{Side}
use Rattle.zk_nodes.specs.declared.side.Side.TheVariants.{Data, Child}
use Rattle.zk_conversation.specs.Calls.{Call, Exists as Asks_exists, GetData as Asks_data, GetChildren as Asks_children}
use Rattle.zk_conversation.specs.Questions.{Question, Exists, GetData, GetChildren, question_of}
use Rattle.zk_conversation.specs.Pending.{closes}
use Rattle.zk_conversation.specs.Results.{Result, NoNode, Refused, Found, Read, Listing}
use Rattle.zk_records.specs.Events.{concerns}
use Rattle.zk_watches.specs.Lists.{Lists}
use Rattle.zk_turns.specs.Turns.{IsAskable}
use Rattle.zk_turns.specs.Meaning.{Among}
use Rattle.zk_laws.specs.Server.{Notice, Watches, fires_all, leaves_set_all, sets, tree_held, zxid_held, part_tells, part_sets, both}
use Rattle.zk_laws.specs.Server.{same_side, IsOther}
use Rattle.zk_laws.specs.Messages.{Message, Replies, Watches_set, Notifies, Request, Restore, Ask}
use Rattle.zk_laws.proofs.Refusing.{left_refused}
use Rattle.zk_laws.proofs.Log.{Item, Took, zxid_in, last, good, left_by, leaves, tells_of, Answer, refreshed, answer_of}
use Rattle.zk_laws.proofs.Steps.{is_behind}
use Rattle.zk_laws.proofs.Invariant.{IsRight, Ahead, IsCovered, IsSure, IsSettled}
use Rattle.zk_laws.proofs.Basics.{text_eq-true, text_eq_from}
use Rattle.theory_messages.proofs.Shown.{all_sent}
use Rattle.zk_laws.proofs.Stamps.{IsNextAt}
use Rattle.zk_laws.proofs.Ahead.{IsLess, ahead_more, ahead_right, right_less, told_log, told_less, notices_ahead, max_zero}
use Rattle.zk_laws.proofs.NextMoves.{next_ahead}
use Rattle.zk_laws.proofs.AnswerMoves.{answer_ahead}
use Rattle.zk_laws.proofs.PartMoves.{part_ahead}
use Rattle.zk_laws.proofs.More.{refusal}
use Rattle.theory_local.specs.LocalSteps.{IsAbout, GivesAt, AreToldAt}

-- ---- notices

-- one of the notices tells of that side of the path
abbrev pub any_tells : Side → Text → List Notice → Bool
any_tells side path [] = false
any_tells side path (n ∷ ns) = tells_of n side path || any_tells side path ns

among_tells : (side : Side) (path : Text) (ns : List Notice)
    → any_tells side path ns ≡ true → (n : Notice) × Among n ns × (tells_of n side path ≡ true)
among_tells side path [] e = absurd cc
among_tells side path (n ∷ ns) e = go (λ k. among_tells side path ns k) (or_cases (tells_of n side path) (any_tells side path ns) e)
  where
    go : (any_tells side path ns ≡ true → (m : Notice) × Among m ns × (tells_of m side path ≡ true))
        → (tells_of n side path ≡ true) ⊎ (any_tells side path ns ≡ true) → (m : Notice) × Among m (n ∷ ns) × (tells_of m side path ≡ true)
    go more (inl t) = (n, inl refl, t)
    go more (inr k) = let m = more k in (m.0, inr m.1, m.2)

tells_among : (side : Side) (path : Text) (n : Notice) (ns : List Notice)
    → Among n ns → tells_of n side path ≡ true → any_tells side path ns ≡ true
tells_among side path n [] a t = absurd a
tells_among side path n (one ∷ ns) (inl e) t =
    or_left (tells_of one side path) (any_tells side path ns) (subst (λ m. tells_of m side path ≡ true) e t)
tells_among side path n (one ∷ ns) (inr a) t = or_right (tells_of one side path) (any_tells side path ns) (tells_among side path n ns a t)

-- what is fired of one of these paths is told of
told_of : (P : Text → Type 0) (side : Side) (path : Text) (fired sent : List Notice)
    → P path → AreToldAt P fired sent → any_tells side path fired ≡ true → any_tells side path sent ≡ true
told_of P side path fired sent p at e =
    let f = among_tells side path fired e in
    let parts = and_parts (concerns f.0.event side) (bytes_eq path f.0.path) f.2 in
    let here : path ≡ f.0.path = text_eq-true path f.0.path parts.1 in
    let one = at side f.0 (subst P here p) f.1 parts.0 in
    tells_among side path one.0 sent one.1
    (and_from (concerns one.0.event side) (bytes_eq path one.0.path) one.2 (text_eq_from path one.0.path (here ∙ sym one.3)))

or_false : (b : Bool) → (b || false) ≡ b
or_false true = refl
or_false false = refl

-- what is good once these notices are taken
told_good : (side : Side) (path : Text) (ns : List Notice) (log : List Item)
    → good side path (told_log ns log) ≡ cond (any_tells side path ns) None (good side path log)
told_good side path [] log = refl
told_good side path (n ∷ ns) log =
    told_good side path ns (Took (Notifies n) ∷ log) ∙ by (tells_of n side path) (any_tells side path ns) (good side path log)
  where
    by : (a b : Bool) (k : Option Answer) → cond b None (cond a None k) ≡ cond (a || b) None k
    by true true k = refl
    by true false k = refl
    by false b k = refl

-- where those tell of the path, and these do, no more is good
less_told : (side : Side) (path : Text) (those these : List Notice) (log : List Item)
    → (any_tells side path those ≡ true → any_tells side path these ≡ true) → IsLess side path (told_log these log) (told_log those log)
less_told side path those these log more = (
  (told_less side path these log).0 ∙ sym (told_less side path those log).0,
  by (any_tells side path these) (any_tells side path those)
      (good side path log) refl refl (told_good side path these log) (told_good side path those log),
)
  where
    by : (b a : Bool) (k : Option Answer) → any_tells side path these ≡ b → any_tells side path those ≡ a
        → good side path (told_log these log) ≡ cond (any_tells side path these) None k
        → good side path (told_log those log) ≡ cond (any_tells side path those) None k
        → (good side path (told_log these log) ≡ None) ⊎ (good side path (told_log these log) ≡ good side path (told_log those log))
    by true a k e f x y = inl (x ∙ ap (λ t. cond t None k) e)
    by false false k e f x y = inr (x ∙ ap (λ t. cond t None k) (e ∙ sym f) ∙ sym y)
    by false true k e f x y = absurd (let n = sym e ∙ more f in cc)

module _ (h : History) (side : Side) (path : Text) (requests : List Request) (place : ℕ) (watches : Watches) where
  -- what is settled is so where less is good
  less_settled : (new old : List Item)
      → IsLess side path new old → IsSettled h side path requests place watches old → IsSettled h side path requests place watches new
  less_settled new old less s = let low = s.0 in let same = less.0 in (omega (arith, same), go less.1)
    where
      go : (good side path new ≡ None) ⊎ (good side path new ≡ good side path old)
          → IsSure h side path requests place watches (last new) (good side path new)
      go (inl n) = subst (λ k. IsSure h side path requests place watches (last new) k) (sym n) tt
      go (inr e) = subst (λ k. IsSure h side path requests place watches (last new) k) (sym e)
          (subst (λ z. IsSure h side path requests place watches z (good side path old)) (sym less.0) s.1)

  stripped : (ns : List Notice) (rest : List Message) (log : List Item) (End : List Item → Type 0)
      → Ahead h side path (map Notifies ns ++ rest) log End → Ahead h side path rest (told_log ns log) End
  stripped [] rest log End a = a
  stripped (n ∷ ns) rest log End a = stripped ns rest (Took (Notifies n) ∷ log) End a.2

  -- These notices may stand for those, where they tell of the path if those do.
  pub told_instead : (those these : List Notice) (log : List Item) → (any_tells side path those ≡ true → any_tells side path these ≡ true)
      → Ahead h side path (map Notifies those) log (IsSettled h side path requests place watches)
      → Ahead h side path (map Notifies these) log (IsSettled h side path requests place watches)
  told_instead those these log more f =
      let less = less_told side path those these log more in
      let end = stripped those [] log (IsSettled h side path requests place watches)
      (subst (λ l. Ahead h side path l log (IsSettled h side path requests place watches)) (sym (append-nil (map Notifies those))) f) in
      subst (λ l. Ahead h side path l log (IsSettled h side path requests place watches)) (append-nil (map Notifies these))
      (notices_ahead h side path these [] log (IsSettled h side path requests place watches)
      (ahead_right h side path (map Notifies those) log (IsSettled h side path requests place watches) f) (
        right_less h side path (told_log these log) (told_log those log) less end.0,
        less_settled (told_log these log) (told_log those log) less end.1,
      ))

  -- the same before the reply to a part
  pub told_before : (b : Bool) (z : ℕ) (those these : List Notice) (log : List Item)
      → (any_tells side path those ≡ true → any_tells side path these ≡ true)
      → Ahead h side path (map Notifies those ++ Watches_set b z ∷ []) log (IsSettled h side path requests place watches)
      → Ahead h side path (map Notifies these ++ Watches_set b z ∷ []) log (IsSettled h side path requests place watches)
  told_before b z those these log more f =
      let less = less_told side path those these log more in
      let end = stripped those (Watches_set b z ∷ []) log (IsSettled h side path requests place watches) f in
      let later : IsLess side path (Took (Watches_set b z) ∷ told_log these log) (Took (Watches_set b z) ∷ told_log those log) =
      (ap (λ l. max (zxid_in (Took (Watches_set b z))) l) less.0, less.1) in
      notices_ahead h side path these (Watches_set b z ∷ []) log (IsSettled h side path requests place watches)
      (ahead_right h side path (map Notifies those ++ Watches_set b z ∷ []) log (IsSettled h side path requests place watches) f) (
        right_less h side path (told_log these log) (told_log those log) less end.0,
        refl,
        (
          right_less h side path (Took (Watches_set b z) ∷ told_log these log) (Took (Watches_set b z) ∷ told_log those log) later end.2.0,
          less_settled (Took (Watches_set b z) ∷ told_log these log) (Took (Watches_set b z) ∷ told_log those log) later end.2.1,
        ),
      )

  -- Whatever is told, no more is good.
  pub told_more : (ms : List Message) (sent : List Notice) (log : List Item)
      → Ahead h side path ms log (IsSettled h side path requests place watches)
      → Ahead h side path (ms ++ map Notifies sent) log (IsSettled h side path requests place watches)
  told_more ms sent log a = ahead_more h side path ms (map Notifies sent) log (IsSettled h side path requests place watches)
      (IsSettled h side path requests place watches) a (λ l right end. told_instead [] sent l (λ e. absurd cc) (right, end))

-- ---- replies

-- a reply that leaves a watch at the path answers a call about it
about : (P : Text → Type 0) (q : Call) (r : Result) (side : Side) (path : Text)
    → leaves (question_of q) r side path ≡ true → P path → IsAbout P q
about P (Asks_exists at true) NoNode side path e p =
    subst P (text_eq-true path at (and_parts (same_side side Data) (bytes_eq path at) e).1) p
about P (Asks_exists at true) (Found fields) side path e p =
    subst P (text_eq-true path at (and_parts (same_side side Data) (bytes_eq path at) e).1) p
about P (Asks_data at true) (Read bytes fields) side path e p =
    subst P (text_eq-true path at (and_parts (same_side side Data) (bytes_eq path at) e).1) p
about P (Asks_children at true) (Listing names pzxid) side path e p =
    subst P (text_eq-true path at (and_parts (same_side side Child) (bytes_eq path at) e).1) p
about P _ _ side path e p = absurd cc

leaves_refused : (q : Question) (code : ℤ) (side : Side) (path : Text) → leaves q (Refused code) side path ≡ false
leaves_refused (Exists at true) code side path = refl
leaves_refused (GetData at true) code side path = refl
leaves_refused (GetChildren at true) code side path = refl
leaves_refused _ code side path = refl

sets_refused : (q : Question) (code : ℤ) (side : Side) (path : NodePath) → sets q (Refused code) side path ≡ false
sets_refused (Exists at true) code side path = refl
sets_refused (GetData at true) code side path = refl
sets_refused (GetChildren at true) code side path = refl
sets_refused _ code side path = refl

sure_watched : (h : History) (side : Side) (path : Text) (requests : List Request) (place : ℕ) (watches more : Watches) (z : ℕ)
    (k : Option Answer) → (watches side (path_of path) ≡ true → more side (path_of path) ≡ true)
    → IsSure h side path requests place watches z k → IsSure h side path requests place more z k
sure_watched h side path requests place watches more z None f s = tt
sure_watched h side path requests place watches more z (Some a) f (inl c) =
    inl (record { watched = f c.watched; fits = c.fits; there = c.there })
sure_watched h side path requests place watches more z (Some a) f (inr w) = inr w

module _ (h : History) (is : IsHistory h) (P : Text → Type 0) (side : Side) (path : Text) (p : P path) where
  -- The server goes on to the next transaction.
  pub next_at_path : (requests : List Request) (place : ℕ) (watches : Watches) (x : Transaction) (next : IsNextAt h place x)
      (sent : List Notice) → AreToldAt P (fires_all x.changes watches) sent
      → (ms : List Message) (log : List Item) → Ahead h side path ms log (IsSettled h side path requests place watches)
      → Ahead h side path (ms ++ map Notifies sent) log (IsSettled h side path requests (suc place) (leaves_set_all x.changes watches))
  next_at_path requests place watches x next sent at ms log a =
      let fired : List Notice = fires_all x.changes watches in
      ahead_more h side path ms (map Notifies sent) log (IsSettled h side path requests place watches)
      (IsSettled h side path requests (suc place) (leaves_set_all x.changes watches)) a (λ l right end.
      told_instead h side path requests (suc place) (leaves_set_all x.changes watches) fired sent l (told_of P side path fired sent p at)
      (next_ahead h is side path requests place watches x next fired (all_sent fired) [] l (right, end)))

  -- A setWatches request is processed.
  pub part_at_path : (b : Bool) (relative : ℕ) (part : Lists) (rest : List Request) (place : ℕ) (watches : Watches) (sent : List Notice)
      → AreToldAt P (part_tells relative (tree_held h place) part) sent
      → (ms : List Message) (log : List Item)
      → Ahead h side path ms log (IsSettled h side path (Restore b relative part ∷ rest) place watches)
      → Ahead h side path (ms ++ (map Notifies sent ++ Watches_set b (zxid_held h place) ∷ [])) log
      (IsSettled h side path rest place (both watches (part_sets relative (tree_held h place) part)))
  part_at_path b relative part rest place watches sent at ms log a =
      let fired : List Notice = part_tells relative (tree_held h place) part in
      let after : Watches = both watches (part_sets relative (tree_held h place) part) in
      ahead_more h side path ms (map Notifies sent ++ Watches_set b (zxid_held h place) ∷ []) log
      (IsSettled h side path (Restore b relative part ∷ rest) place watches) (IsSettled h side path rest place after) a (λ l right end.
      told_before h side path rest place after b (zxid_held h place) fired sent l (told_of P side path fired sent p at)
      (part_ahead h is side path b relative part rest place watches fired (all_sent fired) [] l (right, end)))

  -- A reply that leaves nothing at the path.
  other_reply : (rest : List Request) (place : ℕ) (watches : Watches) (q : Call) (r : Result)
      → IsAskable q → leaves (question_of q) r side path ≡ false
      → (log : List Item) → IsRight h side path log → IsSettled h side path (Ask q ∷ rest) place watches log
      → Ahead h side path (Replies (question_of q) (zxid_held h place) r ∷ []) log
      (IsSettled h side path rest place (both watches (sets (question_of q) r)))
  other_reply rest place watches q r asked none log right end =
      let z : ℕ = zxid_held h place in
      let refused : Result = Refused (pos 1) in
      let code : IsOther (pos 1) = (λ e. cc, λ e. cc) in
      let f = answer_ahead h is side path rest place watches q refused asked ((refusal h place q (pos 1)).1 code) [] log (right, end) in
      let same : good side path (Took (Replies (question_of q) z r) ∷ log)
      ≡ good side path (Took (Replies (question_of q) z refused) ∷ log) =
      rw (none, leaves_refused (question_of q) (pos 1) side path) refl in
      let low = end.0 in
      let early : is_behind log (Replies (question_of q) z r) ≡ false =
      and_right (is_some (left_by (question_of q) r)) (nat_lt z (last log)) (grind (arith, nat_tests)) in
      let watched : both watches (sets (question_of q) refused) side (path_of path) ≡ true
      → both watches (sets (question_of q) r) side (path_of path) ≡ true =
      (λ w. or_left (watches side (path_of path)) (sets (question_of q) r side (path_of path)) (sym (or_false (watches side (path_of path)))
      ∙ ap (λ t. watches side (path_of path) || t) (sym (sets_refused (question_of q) (pos 1) side (path_of path))) ∙ w)) in
      let sure = sure_watched h side path rest place (both watches (sets (question_of q) refused)) (both watches (sets (question_of q) r))
      (last (Took (Replies (question_of q) z refused) ∷ log))
      (good side path (Took (Replies (question_of q) z refused) ∷ log)) watched f.2.1.1 in (
        right,
        early,
        (
          right_less h side path (Took (Replies (question_of q) z r) ∷ log)
              (Took (Replies (question_of q) z refused) ∷ log) (refl, inr same) f.2.0,
          (
            f.2.1.0,
            subst (λ k. IsSure h side path rest place (both watches (sets (question_of q) r))
                (last (Took (Replies (question_of q) z r) ∷ log)) k) (sym same) sure,
          ),
        ),
      )

  -- A call is answered.
  pub answer_at_path : (rest : List Request) (place : ℕ) (watches : Watches) (q : Call) (r : Result)
      → IsAskable q → GivesAt P h place q r → (ms : List Message) (log : List Item)
      → Ahead h side path ms log (IsSettled h side path (Ask q ∷ rest) place watches)
      → Ahead h side path (ms ++ Replies (question_of q) (zxid_held h place) r ∷ []) log
      (IsSettled h side path rest place (both watches (sets (question_of q) r)))
  answer_at_path rest place watches q r asked gives ms log a = go (leaves (question_of q) r side path) refl
    where
      go : (b : Bool) → leaves (question_of q) r side path ≡ b
          → Ahead h side path (ms ++ Replies (question_of q) (zxid_held h place) r ∷ []) log
          (IsSettled h side path rest place (both watches (sets (question_of q) r)))
      go true e = answer_ahead h is side path rest place watches q r asked (gives.1 (about P q r side path e p)) ms log a
      go false e = ahead_more h side path ms (Replies (question_of q) (zxid_held h place) r ∷ []) log
          (IsSettled h side path (Ask q ∷ rest) place watches) (IsSettled h side path rest place (both watches (sets (question_of q) r))) a
          (λ l right end. other_reply rest place watches q r asked e l right end)

-- ---- a reply with the zxid 0 that refuses a call

module _ (h : History) (side : Side) (path : Text) (rest : List Request) (place : ℕ) (watches : Watches) (q : Call) (code : ℤ) where
  denied_good : (log : List Item) → (good side path (Took (Replies (question_of q) 0 (Refused code)) ∷ log) ≡ None)
      ⊎ (good side path (Took (Replies (question_of q) 0 (Refused code)) ∷ log) ≡ good side path log)
  denied_good log =
      by (closes (question_of q)) (leaves (question_of q) (Refused code) side path) (leaves_refused (question_of q) code side path)
    where
      by : (b d : Bool) → d ≡ false
          → (cond b None (cond d (Some (refreshed (answer_of (Refused code)) (good side path log))) (good side path log)) ≡ None)
          ⊎ (cond b None (cond d (Some (refreshed (answer_of (Refused code)) (good side path log))) (good side path log))
          ≡ good side path log)
      by true d e = inl refl
      by false true e = absurd cc
      by false false e = inr refl

  denied_sure : (z y : ℕ) (k new : Option Answer) → IsSure h side path (Ask q ∷ rest) place watches z k → (new ≡ None) ⊎ (new ≡ k)
      → IsSure h side path rest place watches y new
  denied_sure z y k None s e = tt
  denied_sure z y k (Some a) s (inl e) = absurd cc
  denied_sure z y None (Some a) s (inr e) = absurd cc
  denied_sure z y (Some b) (Some a) (inl c) (inr e) = let same : b ≡ a = cc in
      inl (subst (λ t. IsCovered h side (path_of path) place watches t) same c)
  denied_sure z y (Some b) (Some a) (inr w) (inr e) = absurd w

  pub denied_ahead : (ms : List Message) (log : List Item) → Ahead h side path ms log (IsSettled h side path (Ask q ∷ rest) place watches)
      → Ahead h side path (ms ++ Replies (question_of q) 0 (Refused code) ∷ []) log (IsSettled h side path rest place watches)
  denied_ahead ms log a = ahead_more h side path ms (Replies (question_of q) 0 (Refused code) ∷ []) log
      (IsSettled h side path (Ask q ∷ rest) place watches) (IsSettled h side path rest place watches) a (λ l right end.
      let new : List Item = Took (Replies (question_of q) 0 (Refused code)) ∷ l in
      let less = denied_good l in
      let low = end.0 in (
        right,
        ap (λ o. is_some o && nat_lt 0 (last l)) (left_refused (question_of q) code),
        (
          right_less h side path new l (max_zero (last l), less) right,
          (omega arith, denied_sure (last l) (last new) (good side path l) (good side path new) end.1 less),
        ),
      ))
