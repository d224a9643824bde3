-- What is asked later is answered later: the reply to a call that was not asked among earlier items was taken after these, so it is not
-- below a reply that was told among them.
use Rattle.std.proofs.Common.{◌≡◌, ◌≤◌, ◌⊎◌, inl, inr, List, [], ◌∷◌, ◌++◌, refl, sym, ap, subst, ◌∙◌, append_assoc}
use Rattle.zk_nodes.specs.Path.{Text}
use Rattle.zk_nodes.specs.History.{History, IsHistory, tree_at}
use Rattle.zk_conversation.specs.Calls.{Call}
use Rattle.zk_conversation.specs.Questions.{Question, question_of}
use Rattle.zk_turns.specs.Turns.{Start, Item, Turned, Forgets, Halts, Signal, signals, IsAskable, AllAskOf}
use Rattle.zk_turns.specs.Past.{Past, Happening, Asked, Took as Takes_in, Replies as Answers_call}
use Rattle.zk_turns.specs.View.{View, view_at}
use Rattle.zk_turns.specs.Taken.{past_of, past_after, joined, happenings}
use Rattle.zk_turns.specs.Rule.{Stands, AllSaid}
use Rattle.zk_turns.specs.Meaning.{Among}
use Rattle.zk_turns.proofs.Stepped.{given_stands}
use Rattle.zk_laws.specs.Server.{Reads}
use Rattle.zk_laws.specs.Messages.{from_zero}
use Rattle.zk_laws.proofs.Basics.{Among-right}
use Rattle.zk_laws.proofs.Outputs.{among_split, given_answers}
use Rattle.theory_local.specs.LocalSteps.{IsAbout}
use Rattle.theory_local.specs.LocalServed.{ServedAt, WasSentAt}
use Rattle.theory_local.specs.LocalHeadline.{AnswersFollow}
use Rattle.zk_laws.proofs.Matching.{IsCalm}
use Rattle.zk_laws.proofs.Answered.{calm_before, call_at}
use Rattle.theory_local.proofs.Local_at.{local}
use Rattle.theory_local.proofs.Headlines_at.{stands_here, reads_follow_at}

-- a past that has grown
abbrev IsGrown : Past → Past → Type 0
IsGrown before past = (since : Past) × (past ≡ since ++ before)

grown_through : (a b c : Past) → IsGrown a b → IsGrown b c → IsGrown a c
grown_through a b c f g = (g.0 ++ f.0, g.1 ∙ ap (λ l. g.0 ++ l) f.1 ∙ sym (append_assoc g.0 f.0 a))

grown_joined : (hs : List Happening) (past : Past) → IsGrown past (joined past hs)
grown_joined [] past = ([], refl)
grown_joined (x ∷ hs) past = grown_through past (x ∷ past) (joined (x ∷ past) hs) (x ∷ [], refl) (grown_joined hs (x ∷ past))

module _ (start : Start) where
  grown_after : (ss : List Signal) (past : Past) → IsGrown past (past_after start past ss)
  grown_after [] past = ([], refl)
  grown_after (s ∷ ss) past =
      let now : Past = joined past (happenings (view_at start past) s) in
      grown_through past now (past_after start now ss) (grown_joined (happenings (view_at start past) s) past) (grown_after ss now)

  grown : (more earlier : List Item) → IsGrown (past_of start earlier) (past_of start (more ++ earlier))
  grown [] earlier = ([], refl)
  grown (item ∷ more) earlier = grown_through (past_of start earlier) (past_of start (more ++ earlier))
      (past_of start (item ∷ more ++ earlier)) (grown more earlier) (grown_after (signals item) (past_of start (more ++ earlier)))

  said_before : (more earlier : List Item) → AllSaid start (more ++ earlier) → AllSaid start earlier
  said_before [] earlier s = s
  said_before (Turned turn ∷ more) earlier s = said_before more earlier s.1
  said_before (Forgets ∷ more) earlier s = said_before more earlier s
  said_before (Halts ∷ more) earlier s = said_before more earlier s

asked_before : (more earlier : List Item) → AllAskOf IsAskable (more ++ earlier) → AllAskOf IsAskable earlier
asked_before [] earlier s = s
asked_before (Turned turn ∷ more) earlier s = asked_before more earlier s.1
asked_before (Forgets ∷ more) earlier s = asked_before more earlier s
asked_before (Halts ∷ more) earlier s = asked_before more earlier s

-- a list parts where one of its elements stands
parted : (x : Happening) (since : Past) → Among x since → (later : Past) × (sooner : Past) × (since ≡ later ++ x ∷ sooner)
parted x [] a = absurd a
parted x (y ∷ since) (inl e) = ([], since, ap (λ z. z ∷ since) (sym e))
parted x (y ∷ since) (inr a) = let k = parted x since a in (y ∷ k.0, k.1, ap (λ l. y ∷ l) k.2)

onto_base : (x : Happening) (later sooner base : Past) → (later ++ x ∷ sooner) ++ base ≡ later ++ x ∷ (sooner ++ base)
onto_base x [] sooner base = refl
onto_base x (y ∷ later) sooner base = ap (λ l. y ∷ l) (onto_base x later sooner base)

module _ (P : Text → Type 0) (h : History) (is : IsHistory h) (start : Start) where
  pub answers_follow_at : (more earlier : List Item) (view : View) → Stands start (more ++ earlier) view
      → ServedAt P h start (more ++ earlier) → AnswersFollow P h start more earlier
  answers_follow_at more earlier view s served first ticket told zxid given result wrote read new plain =
      by (among_split reply g.0 base (subst (λ past. Among reply past) g.1 t.1))
    where
      base : Past
      base = past_of start earlier

      g : IsGrown base (past_of start (more ++ earlier))
      g = grown start more earlier

      t : (q : Question) × Among (Takes_in (Answers_call ticket q zxid result)) (past_of start (more ++ earlier))
      t = given_answers ticket zxid result start (more ++ earlier) view s read

      w : (q : Question) × Among (Takes_in (Answers_call first q told given)) base
      w = given_answers first told given start earlier (view_at start base)
          (given_stands start earlier (said_before start more earlier s.said) (asked_before more earlier s.asked)) wrote

      reply : Happening
      reply = Takes_in (Answers_call ticket t.0 zxid result)

      calm : IsCalm (local P h) start (WasSentAt served.entries) base
      calm = calm_before (local P h) start (WasSentAt served.entries) g.0 base
          (subst (λ past. IsCalm (local P h) start (WasSentAt served.entries) past) g.1
          (stands_here P h is start (more ++ earlier) s.asked served).calm)

      by : Among reply g.0 ⊎ Among reply base → (from_zero told ≤ from_zero zxid)
          × ((call : Call) × Among (Asked ticket call) (past_of start (more ++ earlier))
          × (IsAbout P call → Reads (tree_at h (from_zero zxid)) (question_of call) result))
      by (inr old) =
          let c = call_at (local P h) start (WasSentAt served.entries) base calm ticket t.0 zxid result old in absurd (new c.0 c.1)
      by (inl late) =
          let k = parted reply g.0 late in
          let e : past_of start (more ++ earlier) ≡ k.0 ++ reply ∷ (k.1 ++ base) =
          g.1 ∙ (ap (λ l. l ++ base) k.2 ∙ onto_base reply k.0 k.1 base) in
          let r = reads_follow_at P h is start (more ++ earlier) s.asked served k.0 (k.1 ++ base) ticket first t.0 w.0 zxid told result
          given e (Among-right (Takes_in (Answers_call first w.0 told given)) k.1 base w.1) plain in
          (r.0, (r.1.0, r.1.1, λ about. subst (λ q. Reads (tree_at h (from_zero zxid)) q result) (sym r.1.2) (r.1.3 about)))
