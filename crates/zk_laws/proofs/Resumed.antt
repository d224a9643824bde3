-- No reply is below the saved zxid: a server admits no client that has seen more than it has, and every move keeps that of what is in
-- flight.
use Rattle.zk_conversation.specs.Questions.{question_of, Question}
use Rattle.zk_conversation.specs.Calls.{Call}
use Rattle.zk_nodes.specs.Path.{Text}
use Rattle.zk_nodes.specs.History.{History, IsHistory}
use Rattle.std.proofs.Common.{ℕ, ◌≤◌, Bool, true, false, List, [], ◌∷◌, ◌++◌, map, sym, subst, arith, inl, inr}
use Rattle.std.specs.Prelude.{if◌then◌else◌}
use Rattle.zk_nodes.specs.declared.side.Side.TheVariants.{Data}
use Rattle.zk_conversation.specs.Results.{Result}
use Rattle.zk_laws.specs.Server.{Notice, Watches, zxid_held}
use Rattle.zk_turns.specs.Meaning.{Among}
use Rattle.zk_laws.proofs.Steps.{Connection, Link, Up, Down, World, Step, Asks, Pings, Joins, Takes, MayStep, stepped, is_behind, ends}
use Rattle.zk_laws.proofs.Steps.{rest_of, By_server}
use Rattle.zk_laws.specs.ServerSteps.{Stage, Waiting, Serving, Ended, Advances, Admits, Refuses, Answers, Restores, Pongs, IsNext}
use Rattle.zk_laws.specs.Messages.{Message, Accepted, Expired, Replies, Watches_set, Notifies, Pong, Request, Ask}
use Rattle.zk_laws.proofs.Log.{Item, Took, Lost, last}
use Rattle.zk_laws.proofs.Run.{Move, Opens, Loses, Halts, Forgets_stale, Goes, MayGo, gone, May, moved, IsSchedule, run, start}
use Rattle.zk_laws.proofs.Invariant.{Ahead, IsSettled, IsKept, IsKeptBy, IsKeptUp, IsOpening}
use Rattle.zk_laws.proofs.Whole.{move_kept, start_kept}
use Rattle.zk_laws.proofs.More.{never_falls}
use Rattle.zk_laws.proofs.Matching.{Reached}

ahead_low : (h : History) (path : Text) (requests : List Request) (place : ℕ) (watches : Watches) (ms : List Message) (log : List Item)
    → Ahead h Data path ms log (IsSettled h Data path requests place watches) → last log ≤ zxid_held h place
ahead_low h path requests place watches [] log a = a.1.0
ahead_low h path requests place watches (m ∷ ms) log a = let low =
    ahead_low h path requests place watches ms (Took m ∷ log) a.2 in omega arith

module _ (saved : ℕ) where
  abbrev IsAbove : Message → Type 0
  IsAbove (Replies q z r) = saved ≤ z
  IsAbove _ = Unit {0}

  abbrev AllAbove : List Message → Type 0
  AllAbove [] = Unit {0}
  AllAbove (m ∷ ms) = IsAbove m × AllAbove ms

  abbrev IsAboveItem : Item → Type 0
  IsAboveItem (Took m) = IsAbove m
  IsAboveItem _ = Unit {0}

  abbrev AllTaken : List Item → Type 0
  AllTaken [] = Unit {0}
  AllTaken (item ∷ log) = IsAboveItem item × AllTaken log

  abbrev IsAboveOn : Link → Type 0
  IsAboveOn Down = Unit {0}
  IsAboveOn (Up c) = AllAbove c.messages

  abbrev AreAbove : World → Type 0
  AreAbove w = (saved ≤ last w.log) × AllTaken w.log × IsAboveOn w.link

  abbrev IsAboveWorld : World → Type 0
  IsAboveWorld w = AllTaken w.log × IsAboveOn w.link

  above_more : (ms new : List Message) → AllAbove ms → AllAbove new → AllAbove (ms ++ new)
  above_more [] new a b = b
  above_more (m ∷ ms) new a b = (a.0, above_more ms new a.1 b)

  above_notices : (ns : List Notice) → AllAbove (map Notifies ns)
  above_notices [] = tt
  above_notices (n ∷ ns) = (tt, above_notices ns)

  above_rest : (ms : List Message) → AllAbove ms → AllAbove (rest_of ms)
  above_rest [] a = tt
  above_rest (m ∷ ms) a = a.1

  above_first : (m : Message) (ms : List Message) → IsNext m ms → AllAbove ms → IsAbove m
  above_first m [] n a = absurd n
  above_first m (x ∷ xs) n a = subst (λ (y : Message). IsAbove y) (sym n) a.0

  -- a server that answers is not below
  answers_above : (h : History) (c : Connection) (log : List Item) (q : Call)
      → IsNext (Ask q) c.requests → IsKeptUp h log c c.talking → saved ≤ last log → saved ≤ zxid_held h c.place
  answers_above h c log q next k low = by c.talking k
    where
      by : (b : Bool) → IsKeptUp h log c b → saved ≤ zxid_held h c.place
      by true t = let a = ahead_low h [] c.requests c.place c.watches c.messages log (t.ahead Data []) in omega arith
      by false s = on c.stage s.opening
        where
          on : (st : Stage) → IsOpening h log st c.requests c.messages c.place → saved ≤ zxid_held h c.place
          on Waiting o = absurd (let e = subst (λ (l : List Request). IsNext (Ask q) l) o.0 next in cc)
          on Serving o = absurd (subst (λ (l : List Request). IsNext (Ask q) l) o.0 next)
          on Ended o = absurd (subst (λ (l : List Request). IsNext (Ask q) l) o.0 next)

  above_step : (h : History) (step : Step) (c : Connection) (log : List Item)
      → MayStep h step c log → IsKeptUp h log c c.talking → saved ≤ last log → AllTaken log → AllAbove c.messages
      → AllTaken (stepped h step c log).log × IsAboveOn (stepped h step c log).link
  above_step h (Asks q) c log may k low t g = (t, g)
  above_step h Pings c log may k low t g = (t, g)
  above_step h (Joins parts) c log may k low t g = ((tt, t), above_rest c.messages g)
  above_step h (Takes m) c log may k low t g = go (is_behind log m) (ends m)
    where
      go : (b d : Bool) → IsAboveWorld (if b then record { log = Lost ∷ log; link = Down }
          else record { log = Took m ∷ log; link = if d then Down else Up (record c { messages = rest_of c.messages }) })
      go true d = ((tt, t), tt)
      go false true = ((above_first m c.messages may.0 g, t), tt)
      go false false = ((above_first m c.messages may.0 g, t), above_rest c.messages g)
  above_step h (By_server (Advances sent)) c log may k low t g = (t, above_more c.messages (map Notifies sent) g (above_notices sent))
  above_step h (By_server (Admits seen)) c log may k low t g = (t, above_more c.messages (Accepted ∷ []) g (tt, tt))
  above_step h (By_server (Refuses seen)) c log may k low t g = (t, above_more c.messages (Expired ∷ []) g (tt, tt))
  above_step h (By_server (Answers q r)) c log may k low t g =
      (t, above_more c.messages (Replies (question_of q) (zxid_held h c.place) r ∷ []) g (answers_above h c log q may.1 k low, tt))
  above_step h (By_server (Restores b z part sent)) c log may k low t g = (
    t,
    above_more c.messages (map Notifies sent ++ Watches_set b (zxid_held h c.place) ∷ []) g
        (above_more (map Notifies sent) (Watches_set b (zxid_held h c.place) ∷ []) (above_notices sent) (tt, tt)),
  )
  above_step h (By_server Pongs) c log may k low t g = (t, above_more c.messages (Pong ∷ []) g (tt, tt))

  above_move : (h : History) (move : Move) (w : World)
      → May h move w → IsKept h w → AreAbove w → AllTaken (moved h move w).log × IsAboveOn (moved h move w).link
  above_move h (Opens place) w may k a = ((tt, a.1), tt)
  above_move h Loses w may k a = ((tt, a.1), tt)
  above_move h Halts w may k a = ((tt, a.1), tt)
  above_move h Forgets_stale w may k a = ((tt, a.1), a.2)
  above_move h (Goes step) w may k a = go w.link may k a.2
    where
      go : (link : Link) → MayGo h step link w.log → IsKeptBy h w.log link → IsAboveOn link
          → AllTaken (gone h step link w.log).log × IsAboveOn (gone h step link w.log).link
      go Down m k g = absurd m
      go (Up c) m k g = above_step h step c w.log m k a.0 a.1 g

  above_run : (h : History) → IsHistory h → (moves : List Move) (w : World)
      → IsSchedule h moves w → IsKept h w → AreAbove w → AreAbove (run h moves w)
  above_run h is [] w may k a = a
  above_run h is (move ∷ moves) w may k a =
      let b = above_move h move w may.0 k a in
      let rises = never_falls h (move ∷ []) w in
      let low : saved ≤ last w.log = a.0 in
      above_run h is moves (moved h move w) may.1 (move_kept h is move w may.0 k) (omega arith, b.0, b.1)

  among_above : (q : Question) (z : ℕ) (r : Result) (log : List Item) → Among (Took (Replies q z r)) log → AllTaken log → saved ≤ z
  among_above q z r [] a t = absurd a
  among_above q z r (item ∷ log) (inl e) t = subst (λ (i : Item). IsAboveItem i) (sym e) t.0
  among_above q z r (item ∷ log) (inr a) t = among_above q z r log a t.1

  -- Each reply has a zxid of at least the saved one.
  pub replies_above : (h : History) → IsHistory h → (w : World) → Reached h saved w → (q : Question) (z : ℕ) (r : Result)
      → Among (Took (Replies q z r)) w.log → saved ≤ z
  replies_above h is w reached q z r a =
      let all = above_run h is reached.moves (start saved) reached.may (start_kept h saved) (omega arith, (tt, tt), tt) in
      among_above q z r
      (run h reached.moves (start saved)).log (subst (λ (v : World). Among (Took (Replies q z r)) v.log) (sym reached.is) a) all.1
