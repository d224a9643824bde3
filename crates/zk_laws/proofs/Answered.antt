-- What is kept good by the items of a past; and what is between a client and its servers says why each answer and each drop was.
use Rattle.std.proofs.Common.{◌≡◌, ℕ, zero, suc, ℤ, Bool, true, false, cond, List, [], ◌∷◌, ◌++◌, drop, length, refl, sym, ap, subst, ◌∙◌}
use Rattle.std.proofs.Common.{arith, inl, inr, ◌⊎◌, Some}
use Rattle.std.proofs.lemmas.List.{length-append}
use Rattle.zk_nodes.specs.Path.{Text, path_of}
use Rattle.zk_nodes.specs.History.{Tree, View as SeenView, view as to_see}
use Rattle.zk_nodes.specs.declared.side.Side.TheVariants.{Data, Child}
use Rattle.zk_conversation.specs.Calls.{Call}
use Rattle.zk_conversation.specs.Questions.{Question, question_of}
use Rattle.zk_conversation.specs.Results.{Result}
use Rattle.zk_cache.specs.declared.held.Kept.{Kept}
use Rattle.zk_cache.specs.Kept.{Answer as Kept_answer, Names, Absent as Kept_absent, Known as Kept_known, Full as Kept_full}
use Rattle.zk_cache.specs.declared.held.Mark.TheVariants.{Good}
use Rattle.zk_frames.specs.Frame.{frame}
use Rattle.zk_watches.specs.Lists.{Lists}
use Rattle.zk_watches.specs.Parts.{parts}
use Rattle.zk_turns.specs.Turns.{Start, Fault}
use Rattle.zk_turns.specs.Past.{Asking, For_call, parts_asked, questions, awaited, answered, is_talking, state_of, xid_of, Asked}
use Rattle.zk_turns.specs.Past.{Began, lists_of, Happening, Dropped, Past, Skipped, Expiry, kept_data, kept_names}
use Rattle.zk_turns.specs.Past.{Took as Takes_in, Accepted as Accepts, Replies as Answers_call, Watches_set as Sets_watches}
use Rattle.zk_turns.specs.Past.{Notifies as Tells, Pong as Echo}
use Rattle.zk_turns.specs.Meaning.{Among}
use Rattle.zk_turns.proofs.Pieces.{length-frame}
use Rattle.zk_laws.specs.Server.{Fits, FitsNames}
use Rattle.zk_laws.proofs.Log.{good, Answer, Suits}
use Rattle.zk_laws.proofs.Seen.{seen, node_answer, names_answer, if_good}
use Rattle.zk_laws.proofs.Seeing.{good_node, good_names}
use Rattle.zk_laws.proofs.Outputs.{among_split}
use Rattle.zk_laws.proofs.Between.{Invariant}
use Rattle.zk_laws.proofs.Matching.{Letter, frames, Tail, tail_bytes, IsDue, IsAnswered, IsAnsweredFor, IsCalm}

-- ---- what is good

if_good_is : {A : Type 0} (word : A → Answer) (k : Kept A) → k.mark ≡ Good → if_good word (Some k) ≡ Some (word k.answer)
if_good_is word k e = ap (λ m. if_good word (Some (record { answer = k.answer; mark = m }))) e

suits_node : (answer : Kept_answer) (seen : SeenView) → Suits (node_answer answer) seen → Fits answer seen
suits_node Kept_absent seen f = f
suits_node (Kept_known fields) seen f = f
suits_node (Kept_full bytes fields) seen f = f

module _ (start : Start) (past : Past) (tree : Tree) (path : Text) where
  pub node_fits : ((a : Answer) → good Data path (seen start past) ≡ Some a → Suits a (to_see Data tree (path_of path)))
      → (kept : Kept Kept_answer) → kept_data path past ≡ Some kept → kept.mark ≡ Good
      → Fits kept.answer (to_see Data tree (path_of path))
  node_fits f kept e m = suits_node kept.answer (to_see Data tree (path_of path))
      (f (node_answer kept.answer) (good_node start path past ∙ ap (if_good node_answer) e ∙ if_good_is node_answer kept m))

  pub names_fit : ((a : Answer) → good Child path (seen start past) ≡ Some a → Suits a (to_see Child tree (path_of path)))
      → (kept : Kept Names) → kept_names path past ≡ Some kept → kept.mark ≡ Good
      → FitsNames kept.answer (to_see Child tree (path_of path))
  names_fit f kept e m =
      f (names_answer kept.answer) (good_names start path past ∙ ap (if_good names_answer) e ∙ if_good_is names_answer kept m)

-- ---- the call of a reply

no_call : (xid t : ℕ) (c : Call) (ps : List Lists) → Among (For_call xid t c) (parts_asked ps) → ⊥
no_call xid t c [] a = a
no_call xid t c (p ∷ []) (inl e) = cc
no_call xid t c (p ∷ []) (inr a) = a
no_call xid t c (p ∷ q ∷ ps) (inl e) = cc
no_call xid t c (p ∷ q ∷ ps) (inr a) = no_call xid t c (q ∷ ps) a

-- what is asked was asked
was_asked : (xid t : ℕ) (c : Call) (past : Past) → Among (For_call xid t c) (questions past) → Among (Asked t c) past
was_asked xid t c [] a = absurd a
was_asked xid t c (Began ∷ past) a = absurd a
was_asked xid t c (Takes_in (Accepts w) ∷ past) a = absurd (no_call xid t c (parts (lists_of past)) a)
was_asked xid t c (Asked u d ∷ past) a =
    by (among_split (For_call xid t c) (questions past) (For_call (xid_of past) u d ∷ []) a) (λ b. was_asked xid t c past b)
  where
    by : Among (For_call xid t c) (questions past) ⊎ Among (For_call xid t c) (For_call (xid_of past) u d ∷ [])
        → (Among (For_call xid t c) (questions past) → Among (Asked t c) past) → Among (Asked t c) (Asked u d ∷ past)
    by (inl b) ih = inr (ih b)
    by (inr (inl e)) ih = let p : t ≡ u = cc in let q : c ≡ d = cc in inl (λ i. Asked (p i) (q i))
    by (inr (inr b)) ih = absurd b
was_asked xid t c (Takes_in Expiry ∷ past) a = inr (was_asked xid t c past a)
was_asked xid t c (Takes_in (Answers_call u q z r) ∷ past) a = inr (was_asked xid t c past a)
was_asked xid t c (Takes_in (Sets_watches b z) ∷ past) a = inr (was_asked xid t c past a)
was_asked xid t c (Takes_in (Tells e p) ∷ past) a = inr (was_asked xid t c past a)
was_asked xid t c (Takes_in Echo ∷ past) a = inr (was_asked xid t c past a)
was_asked xid t c (Takes_in Skipped ∷ past) a = inr (was_asked xid t c past a)
was_asked xid t c (x ∷ past) a = inr (was_asked xid t c past a)

dropped_among : (n : ℕ) (x : Asking) (xs : List Asking) → Among x (drop n xs) → Among x xs
dropped_among zero x xs a = a
dropped_among (suc n) x [] a = absurd a
dropped_among (suc n) x (y ∷ xs) a = inr (dropped_among n x xs a)

pub awaited_asked : (xid t : ℕ) (c : Call) (past : Past) → Among (For_call xid t c) (awaited past) → Among (Asked t c) past
awaited_asked xid t c past a = by (is_talking (state_of past)) a
  where
    by : (b : Bool) → Among (For_call xid t c) (cond b (drop (answered past) (questions past)) []) → Among (Asked t c) past
    by true a = was_asked xid t c past (dropped_among (answered past) (For_call xid t c) (questions past) a)
    by false a = absurd a

-- ---- what is in flight

pub nothing_in_flight : (letters : List Letter) (tail : Tail) → frames letters ++ tail_bytes tail ≡ [] → letters ≡ []
nothing_in_flight [] tail e = refl
nothing_in_flight (l ∷ ls) tail e =
    let n = length-frame l.payload in
    let a = length-append (frame l.payload) (frames ls) in
    let b = length-append (frame l.payload ++ frames ls) (tail_bytes tail) in
    let z : length ((frame l.payload ++ frames ls) ++ tail_bytes tail) ≡ 0 = ap length e in
    absurd (omega arith)

-- ---- why it was

module _ (v : Invariant) (start : Start) (Was : List ℕ → Type 0) where
  pub calm_rest : (x : Happening) (past : Past) → IsCalm v start Was (x ∷ past) → IsCalm v start Was past
  calm_rest (Dropped fault) past c = c.1
  calm_rest (Takes_in (Answers_call t q z r)) past c = c.1
  calm_rest (Takes_in (Accepts w)) past c = c
  calm_rest (Takes_in Expiry) past c = c
  calm_rest (Takes_in (Sets_watches b z)) past c = c
  calm_rest (Takes_in (Tells e p)) past c = c
  calm_rest (Takes_in Echo) past c = c
  calm_rest (Takes_in Skipped) past c = c
  calm_rest _ past c = c

  pub calm_before : (since before : Past) → IsCalm v start Was (since ++ before) → IsCalm v start Was before
  calm_before [] before c = c
  calm_before (x ∷ since) before c = calm_before since before (calm_rest x (since ++ before) c)

  -- the call of a reply
  abbrev pub CallAt : Past → ℕ → Question → ℤ → Result → Type 0
  CallAt past ticket q z r = (call : Call) × Among (Asked ticket call) past × (question_of call ≡ q)
      × (before : Past) × IsAnsweredFor v (seen start before) call z r

  pub call_at : (past : Past) → IsCalm v start Was past → (ticket : ℕ) (q : Question) (z : ℤ) (r : Result)
      → Among (Takes_in (Answers_call ticket q z r)) past → CallAt past ticket q z r
  call_at [] c ticket q z r a = absurd a
  call_at (x ∷ past) c ticket q z r (inl e) = by (subst (λ y. IsCalm v start Was (y ∷ past)) (sym e) c).0
    where
      by : IsAnswered v start past ticket q z r → CallAt (x ∷ past) ticket q z r
      by w = (
        w.1,
        inr (awaited_asked w.0 ticket w.1 past (subst (λ l. Among (For_call w.0 ticket w.1) l) (sym w.3) (inl refl))),
        w.4,
        past,
        w.5,
      )
  call_at (x ∷ past) c ticket q z r (inr a) = more (call_at past (calm_rest x past c) ticket q z r a)
    where
      more : CallAt past ticket q z r → CallAt (x ∷ past) ticket q z r
      more c = (c.0, inr c.1, c.2, c.3, c.4)

  pub due_at : (past : Past) → IsCalm v start Was past → (fault : Fault) → Among (Dropped fault) past
      → (before : Past) × IsDue v start Was fault before
  due_at [] c fault a = absurd a
  due_at (x ∷ past) c fault (inl e) = (past, (subst (λ y. IsCalm v start Was (y ∷ past)) (sym e) c).0)
  due_at (x ∷ past) c fault (inr a) = due_at past (calm_rest x past c) fault a
